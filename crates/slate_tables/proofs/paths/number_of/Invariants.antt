use Rattle.slate_tables.proofs.HexLaws.{SoFar}
use Rattle.slate_tables.proofs.paths.number_of.Given as goal

abbrev pub invariant-loop-digit : goal.invariant-loop-digit
invariant-loop-digit l = SoFar l.digits l.digit-index l.number
