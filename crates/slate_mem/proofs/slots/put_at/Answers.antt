use Rattle.std.proofs.Common.{◌≡◌, ◌≤◌, ◌-◌, ◌^◌, List, [], ◌∷◌, sym, subst, refl, arith}
use Rattle.slate_types.proofs.Exits.{on_ok_weaker, on_err_weaker}
use Rattle.slate_types.specs.Rows.{sequenced}
use Rattle.slate_mem.specs.Slots.{IsSlotFor, WithPut}
use Rattle.slate_mem.proofs.SlotLaws.{as_were, filled_at, not_put, put_same, rises_at, with_taken}
use Rattle.slate_types.specs.declared.types.RowEntry.{RowEntry}
use Rattle.slate_mem.specs.declared.slots.Slot.{Slot}
use Rattle.slate_mem.proofs.slots.put_at.Goals as goal

same_row : (ss new : List Slot) (row other : RowEntry) → row ≡ other → WithPut ss (row ∷ []) new → WithPut ss (other ∷ []) new
same_row ss new row other is put = subst (λ (r : RowEntry). WithPut ss (r ∷ []) new) is put

pub put_in_slot-requires : goal.put_in_slot-requires
put_in_slot-requires c =
    let slots = c.args.slots.now.items in
    let w = c.requires.slots in
    let lt = c.requires.within in
    record { rises = rises_at slots c.args.at _ w lt c.index_mut.ensures.value; few = (filled_at slots c.args.at _ w lt c.index_mut.ensures.value).few }

pub put_apart-requires : goal.put_apart-requires
put_apart-requires c =
    let was = as_were c.args.slots.now.items c.args.at _ _ _ c.requires.slots c.requires.within c.index_mut.ensures.value c.in-Some.ensures.same.0 refl in
    record {
      slots = was.slots;
      within = was.within;
      place = was.place _ (subst (λ r. IsSlotFor (sequenced r) c.args.slots.now.items c.args.at) (sym c.in-Some.ensures.same.1) c.requires.place);
    }

pub returns-in-None : goal.returns-in-None
returns-in-None c =
    let fits : c.args.row.seq ≤ 2 ^ 64 - 1 = omega arith in
    let lt = c.requires.within in
    record {
      put = with_taken c.args.slots.now.items c.args.at _ _ c.args.row _ c.requires.slots lt c.index_mut.ensures.value c.requires.place fits c.in-None.ensures.put refl;
      same = tt;
    }

pub returns-in-Some : goal.returns-in-Some
returns-in-Some c =
    let was = as_were c.args.slots.now.items c.args.at _ _ _ c.requires.slots c.requires.within c.index_mut.ensures.value c.in-Some.ensures.same.0 refl in
    record {
      put = on_ok_weaker c.put_apart.result
          (λ put. put_same c.args.slots.now.items _ c.put_apart.new.slots.items (c.args.row ∷ []) was.rows (same_row _ c.put_apart.new.slots.items _ _ c.in-Some.ensures.same.1 put)) c.put_apart.ensures.put;
      same = on_err_weaker c.put_apart.result (not_put c.args.slots.now.items c.args.at _ c.put_apart.new.slots.items was) c.put_apart.ensures.same;
    }
