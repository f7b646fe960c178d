use Rattle.std.proofs.Common.{◌≡◌, drop}
use Rattle.slate_filter.specs.Extractors.{through_first}
use Rattle.slate_filter.proofs.ColonLaws.{shifted}
use Rattle.slate_filter.proofs.extractors.through_first_colon.Given as goal

abbrev pub invariant-loop-i : goal.invariant-loop-i
invariant-loop-i l = shifted l.i (through_first 58 (drop l.i l.bytes)) ≡ through_first 58 l.bytes
