use Rattle.std.proofs.Common.{◌≤◌, ◌-◌, length, take, drop}
use Rattle.slate_mem.specs.Slots.{AreBefore, AreBehind, all_slot_rows}
use Rattle.slate_mem.proofs.slots.slot_at.Given as goal

abbrev pub invariant-loop-low : goal.invariant-loop-low
invariant-loop-low l = record {
  ordered : l.low ≤ l.high;
  within : l.high ≤ length l.slots;
  before : AreBefore (record { user_key = l.key; seq = l.seq }) (all_slot_rows (take (l.low - 1) l.slots));
  behind : AreBehind (record { user_key = l.key; seq = l.seq }) (all_slot_rows (drop l.high l.slots));
}

abbrev pub decreases-loop-low : goal.decreases-loop-low
decreases-loop-low l = l.high - l.low
