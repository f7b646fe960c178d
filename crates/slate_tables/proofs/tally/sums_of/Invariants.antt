use Rattle.slate_tables.proofs.TallyLaws.{SumsSoFar}
use Rattle.slate_tables.proofs.tally.sums_of.Given as goal

abbrev pub invariant-loop-row : goal.invariant-loop-row
invariant-loop-row l = SumsSoFar l.rows l.row-index l.sums
