use Rattle.std.proofs.Common.{◌≡◌, ◌≤◌, [], ◌∷◌, length, sym, subst, refl, arith}
use Rattle.std.proofs.lemmas.List.{nil_from_length}
use Rattle.slate_types.proofs.Exits.{on_ok_weaker}
use Rattle.slate_mem.specs.Slots.{WithPut}
use Rattle.slate_mem.proofs.SlotLaws.{none_put, one_popped}
use Rattle.slate_mem.proofs.slots.put_each.Goals as goal

pub returns-in-Some : goal.returns-in-Some
returns-in-Some c =
    let few : length c.args.rows.items ≤ 1 = omega arith in
    let one : c.args.rows.items ≡ c.in-Some.row ∷ [] = one_popped c.args.rows.items _ c.in-Some.row c.in-Some.ensures.items few in
    record {
      put = on_ok_weaker c.put_row.result (λ put. subst (λ rs. WithPut c.args.slots.now.items rs c.put_row.new.slots.items) (sym one) put) c.put_row.ensures.put;
      same = c.put_row.ensures.same;
    }

pub returns-in-None : goal.returns-in-None
returns-in-None c =
    let none : c.args.rows.items ≡ [] = nil_from_length _ (omega (arith, c.in-None.ensures.cases.0)) in
    record {
      put = subst (λ rs. WithPut c.args.slots.now.items rs c.args.slots.now.items) (sym none) (none_put c.args.slots.now.items c.args.slots.now.items c.requires.slots refl);
      same = tt;
    }
