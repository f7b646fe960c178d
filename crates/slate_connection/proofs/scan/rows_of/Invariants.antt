use Rattle.std.proofs.Common.{◌≡◌, ◌<◌, length}
use Rattle.std.specs.Prelude.{count_by}
use Rattle.slate_store.specs.Reach.{reach_of}
use Rattle.slate_txn.specs.Step.{is_scan}
use Rattle.slate_db.specs.Scans.{id_of, number_of}
use Rattle.slate_connection.specs.Connected.{plain_terms}
use Rattle.slate_connection.specs.Scanned.{WalksOn, next_steps}
use Rattle.slate_connection.proofs.scan.rows_of.Given as goal

abbrev pub invariant-loop : goal.invariant-loop
invariant-loop g l =
    let before = reach_of g.S.Store g.M.MergeOperator g.T.BlockTransformer l.initial.env in
    let now = reach_of g.S.Store g.M.MergeOperator g.T.BlockTransformer l.env in
    record {
      walking : WalksOn plain_terms before now l.initial.txn l.txn l.initial.scan l.scan (next_steps (number_of l.initial.scan) l.rows.items);
      ready : (id_of l.scan ≡ l.txn.id) × (number_of l.scan < count_by is_scan l.txn.tx.transcript);
      counted : length l.rows.items ≡ l.counter;
    }
