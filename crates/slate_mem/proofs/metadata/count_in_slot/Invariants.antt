use Rattle.std.proofs.Common.{◌≤◌, ◌-◌, length}
use Rattle.slate_mem.specs.Slots.{rows_from, rows_in, slot_rows}
use Rattle.slate_mem.proofs.CountLaws.{Counted}
use Rattle.slate_mem.proofs.metadata.count_in_slot.Given as goal

abbrev pub invariant-loop-at : goal.invariant-loop-at
invariant-loop-at l = record {
  within : l.at ≤ l.end;
  counted : Counted l.initial.count l.count (rows_in l.slot) (rows_from l.slot l.at);
}

abbrev pub decreases-loop-at : goal.decreases-loop-at
decreases-loop-at l = l.end - l.at
