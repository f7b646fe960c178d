-- What a journal's line shows of commits.
--     shown_in e      what it shows of an event: a commit without its operations, or nothing
use Rattle.std.specs.Prelude.{List, [], Some}
use Rattle.slate_mem.specs.Batch.{batch_keys}
use Rattle.slate_txn.specs.declared.event.Event.{Event}
use Rattle.slate_txn.specs.declared.event.Event.TheVariants as events
use Rattle.slate_txn.specs.Replay.{commit_made}
use Rattle.slate_txn.specs.State.{Commit}

abbrev pub shown_in : Event → List Commit
shown_in (events.Commit id n now ops tracked transcript) = commit_made n now [] tracked
shown_in (events.Write n now ops) = commit_made (Some n) now [] (batch_keys ops)
shown_in _ = []
