use Rattle.std.proofs.Common.{◌≤◌, ◌-◌, ◌^◌, [], ◌∷◌, Option, sym, subst, arith}
use Rattle.slate_types.proofs.Exits.{on_ok_weaker}
use Rattle.slate_mem.specs.declared.slots.Slot.{Slot}
use Rattle.slate_mem.specs.Slots.{AreHalves, WithPut, rows_in}
use Rattle.slate_mem.specs.Table.{put_row}
use Rattle.slate_mem.proofs.SlotLaws.{filled_at, rises_at, with_one, with_two}
use Rattle.slate_mem.proofs.slots.put_anew.Goals as goal

pub with_row-requires : goal.with_row-requires
with_row-requires c =
    let slots = c.args.slots.now.items in
    let w = c.requires.slots in
    record {
      rises = rises_at slots c.args.at c.index.result.now w c.requires.within c.index.ensures;
      filled = filled_at slots c.args.at c.index.result.now w c.requires.within c.index.ensures;
    }

pub returns-in-None-clause-put : goal.returns-in-None-clause-put
returns-in-None-clause-put c =
    let slots = c.args.slots.now.items in
    let s = c.index.result.now in
    let fits : c.args.row.seq ≤ 2 ^ 64 - 1 = omega arith in
    let halves = subst (λ (h : Option Slot). AreHalves (put_row (rows_in s) c.args.row) c.in_ok-low.low h) c.in-None.is c.in_ok-low.ensures in
    subst (WithPut slots (c.args.row ∷ [])) (sym c.put_one.ensures) (with_one slots c.args.at s c.in_ok-low.low c.args.row c.requires.slots c.requires.within c.index.ensures c.requires.place fits halves.0 halves.1)

pub returns-in-Some-clause-put : goal.returns-in-Some-clause-put
returns-in-Some-clause-put c =
    let slots = c.args.slots.now.items in
    let s = c.index.result.now in
    let low = c.in_ok-low.low in
    let high = c.in-Some.high in
    let fits : c.args.row.seq ≤ 2 ^ 64 - 1 = omega arith in
    let halves = subst (λ (h : Option Slot). AreHalves (put_row (rows_in s) c.args.row) low h) c.in-Some.is c.in_ok-low.ensures in
    let put = with_two slots c.args.at s low high c.args.row c.requires.slots c.requires.within c.index.ensures c.requires.place fits halves.0 halves.1 halves.2 in
    on_ok_weaker c.put_two.result (λ is. subst (WithPut slots (c.args.row ∷ [])) (sym is) put) c.put_two.ensures.put
