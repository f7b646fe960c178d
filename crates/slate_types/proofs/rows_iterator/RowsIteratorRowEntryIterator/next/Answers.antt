use Rattle.std.proofs.Common.{[], rules}
use Rattle.slate_types.proofs.Calls.{call_none}
use Rattle.slate_types.proofs.rows_iterator.RowsIteratorRowEntryIterator.next.Goals as goal

pub returns-clause-taken : goal.returns-clause-taken
returns-clause-taken g c = ([], call_none _, (search rules, λ later at e h. h))
