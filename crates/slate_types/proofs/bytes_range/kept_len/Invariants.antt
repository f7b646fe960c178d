use Rattle.std.proofs.Common.{◌≡◌, ◌≤◌, length, take}
use Rattle.slate_types.specs.Keys.{successor}
use Rattle.slate_types.proofs.bytes_range.kept_len.Given as goal

abbrev pub invariant-loop-len : goal.invariant-loop-len
invariant-loop-len l = record {
  within : l.len ≤ length l.prefix;
  same : successor (take l.len l.prefix) ≡ successor l.prefix;
}

abbrev pub decreases-loop-len : goal.decreases-loop-len
decreases-loop-len l = l.len
