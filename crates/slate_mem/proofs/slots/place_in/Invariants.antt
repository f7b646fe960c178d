use Rattle.std.proofs.Common.{◌≤◌, ◌-◌, length, take, drop}
use Rattle.slate_mem.specs.Slots.{AreBefore, NoneAbove}
use Rattle.slate_mem.proofs.slots.place_in.Given as goal

abbrev pub invariant-loop-low : goal.invariant-loop-low
invariant-loop-low l = record {
  ordered : l.low ≤ l.high;
  within : l.high ≤ length l.rows;
  before : AreBefore (record { user_key = l.key; seq = l.seq }) (take l.low l.rows);
  behind : NoneAbove (record { user_key = l.key; seq = l.seq }) (drop l.high l.rows);
}

abbrev pub decreases-loop-low : goal.decreases-loop-low
decreases-loop-low l = l.high - l.low
