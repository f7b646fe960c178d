use Rattle.std.proofs.Common.{◌-◌, ◌^◌, List, ℕ, subst}
use Rattle.slate_mem.specs.Slots.{IsSlotFor}
use Rattle.slate_mem.proofs.SlotReads.{begins_excluded, begins_included, begins_open, place}
use Rattle.slate_mem.proofs.slots.first_slot.Goals as goal

pub returns-in-Included : goal.returns-in-Included
returns-in-Included c =
    let slots = c.args.slots.now in
    rw c.in-Included.is (begins_included _ slots c.slot_at.result c.requires (subst (λ (j : List ℕ). IsSlotFor (place j (2 ^ 64 - 1)) slots c.slot_at.result) c.as_slice.ensures c.slot_at.ensures))

pub returns-in-Excluded : goal.returns-in-Excluded
returns-in-Excluded c =
    let slots = c.args.slots.now in
    rw c.in-Excluded.is (begins_excluded _ slots c.slot_at-in-Excluded.result (subst (λ (j : List ℕ). IsSlotFor (place j 0) slots c.slot_at-in-Excluded.result) c.as_slice-in-Excluded.ensures c.slot_at-in-Excluded.ensures))

pub returns-in-Unbounded : goal.returns-in-Unbounded
returns-in-Unbounded c = rw c.in-Unbounded.is (begins_open c.args.slots.now)
