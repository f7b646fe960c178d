-- What a caller of a core needs of an id that is open.
--     open_reads      `Core::is_open` tells that it reads
--     transaction_reads, snapshot_reads      so do the clauses `open` of `Core::begin` and `Core::snapshot`, and `stay` of the calls behind them
pub use Rattle.slate_db.proofs.OpenIds.{open_reads, transaction_reads, snapshot_reads}
