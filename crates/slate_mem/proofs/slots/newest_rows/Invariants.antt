use Rattle.std.proofs.Common.{◌≡◌, ◌-◌, ◌++◌, drop, length}
use Rattle.slate_mem.specs.Slots.{standing}
use Rattle.slate_mem.specs.Table.{newest}
use Rattle.slate_mem.proofs.slots.newest_rows.Given as goal

abbrev pub invariant-loop-at : goal.invariant-loop-at
invariant-loop-at l = l.found.items ++ newest l.key l.max_seq (standing (drop l.at l.slots)) ≡ newest l.key l.max_seq (standing l.slots)

abbrev pub decreases-loop-at : goal.decreases-loop-at
decreases-loop-at l = length l.slots - l.at
