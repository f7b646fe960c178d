use Rattle.std.proofs.lemmas.Iterator.{items_from_collect}
use Rattle.std.proofs.lemmas.Iterator.Consumers.{YieldsList-from_rest}
use Rattle.slate_txn.proofs.list.listed.Goals as goal

pub returns : goal.returns
returns c = record { keys = items_from_collect _ c.collect.ensures.ran (YieldsList-from_rest _ c.into_iter.ensures.into_iter_gives.0) }
