use Rattle.std.proofs.Common.{◌≡◌, ◌∙◌, length, vec_len, sym, arith}
use Rattle.std.proofs.lemmas.Bool.{eqb-true}
use Rattle.slate_types.proofs.Exits.{on_err_weaker}
use Rattle.slate_mem.proofs.SlotLaws.{gap_of_none, none_put}
use Rattle.slate_mem.proofs.slots.put_row.Goals as goal

pub put_alone-requires : goal.put_alone-requires
put_alone-requires c =
    let zero : vec_len c.args.slots.now ≡ 0 = eqb-true (vec_len c.args.slots.now) 0 (sym c.is_empty.ensures ∙ c.if-is_empty.true) in
    let none : length c.args.slots.now.items ≡ 0 = omega (arith, zero) in
    record { slots = c.requires; place = gap_of_none _ c.args.slots.now.items none }

pub returns-then-is_empty : goal.returns-then-is_empty
returns-then-is_empty c =
    record {
      put = c.put_alone.ensures.put;
      same = on_err_weaker c.put_alone.result (none_put c.args.slots.now.items c.put_alone.new.slots.items c.requires) c.put_alone.ensures.same;
    }
