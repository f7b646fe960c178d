use Rattle.std.proofs.Common.{◌-◌, drop, length}
use Rattle.slate_mem.specs.Slots.{NoneAbove, slot_rows}
use Rattle.slate_mem.proofs.SlotNewest.{Sought}
use Rattle.slate_mem.proofs.slots.newest_in_slot.Given as goal

abbrev pub invariant-loop-at : goal.invariant-loop-at
invariant-loop-at l = record {
  behind : NoneAbove (record { user_key = l.key; seq = l.max_seq }) (drop l.at (slot_rows l.slot));
  found : Sought l.key l.max_seq l.slot l.initial.found.items l.found.items l.at;
}

abbrev pub decreases-loop-at : goal.decreases-loop-at
decreases-loop-at l = length (slot_rows l.slot) - l.at
