-- How contracts see a log.
use Rattle.slate_txn.specs.Replay.{replay}
use Rattle.slate_db.specs.declared.log.Log.TheInside.{Inside}
use Rattle.slate_db.specs.Log.{LogModel}

abbrev pub log_view : Inside → LogModel
log_view s = record { start = s.start_seq; last = s.last; flushed = s.flushed; ids = s.ids; snapshot_ids = s.snapshot_ids; installs = s.installs; ends = s.ends; commits = (replay s.journal.events).commits; events = s.journal.events; spare = s.journal.spare }
