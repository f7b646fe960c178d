use Rattle.std.proofs.Common.{◌≡◌, ◌≤◌, length, take}
use Rattle.slate_filter.specs.Extractors.{through_last}
use Rattle.slate_filter.proofs.extractors.through_last_colon.Given as goal

abbrev pub invariant-loop-len : goal.invariant-loop-len
invariant-loop-len l = record {
  within : l.len ≤ length l.bytes;
  rest : through_last 58 (take l.len l.bytes) ≡ through_last 58 l.bytes;
}

abbrev pub decreases-loop-len : goal.decreases-loop-len
decreases-loop-len l = l.len
