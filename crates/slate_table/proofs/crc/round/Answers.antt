use Rattle.slate_table.proofs.FoldLaws.{none_in}
use Rattle.slate_table.proofs.crc.round.Goals as goal

pub begin-requires-clause-none : goal.begin-requires-clause-none
begin-requires-clause-none c = none_in 4608
