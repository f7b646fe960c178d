use Rattle.slate_txn.proofs.SeenLaws.{rows_are_seen}
use Rattle.slate_txn.proofs.laws.scans.Goals as goal

pub returns : goal.returns
returns c = record { rows_are_seen = rows_are_seen }
