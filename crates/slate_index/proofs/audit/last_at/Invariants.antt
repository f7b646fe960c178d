use Rattle.std.proofs.Common.{◌≡◌, drop}
use Rattle.std.specs.Option.{option_copied}
use Rattle.slate_index.specs.Shown.{last_at, later_or}
use Rattle.slate_index.proofs.audit.last_at.Given as goal

abbrev pub invariant-loop-other : goal.invariant-loop-other
invariant-loop-other l = last_at l.key l.ops ≡ later_or (last_at l.key (drop l.other-index l.ops)) (option_copied l.last)
