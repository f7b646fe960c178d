use Rattle.slate_types.proofs.RowLaws.{sequenced_total, sequenced_same, rows_by_sequenced}
use Rattle.slate_types.proofs.IterationLaws.{seek_filters}
use Rattle.slate_types.proofs.laws.orders.Goals as goal

pub returns-clause-sequenced_is_total : goal.returns-clause-sequenced_is_total
returns-clause-sequenced_is_total c = sequenced_total

pub returns-clause-sequenced_tells_apart : goal.returns-clause-sequenced_tells_apart
returns-clause-sequenced_tells_apart c = sequenced_same

pub returns-clause-rows_are_sequenced : goal.returns-clause-rows_are_sequenced
returns-clause-rows_are_sequenced c = rows_by_sequenced

pub returns-clause-seek_keeps_the_rest : goal.returns-clause-seek_keeps_the_rest
returns-clause-seek_keeps_the_rest c = λ order key rows h. seek_filters order key rows h
