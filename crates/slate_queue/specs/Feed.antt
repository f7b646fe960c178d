-- The feed of a journal: its commits and plain writes above a sequence, in order, each with all keys of its operations.
--     entry_above after e      the entry of one event, where it is one
--     feed_of after es      those of all
use Rattle.std.specs.Prelude.{ℕ, ℤ, nat_lt, if◌then◌else◌, List, filter_map, Option, Some, None}
use Rattle.slate_mem.specs.Batch.{Ops, batch_keys}
use Rattle.slate_txn.specs.declared.event.Event.{Event}
use Rattle.slate_txn.specs.declared.event.Event.TheVariants as events
use Rattle.slate_queue.specs.declared.entries.FeedEntry.{FeedEntry}

abbrev pub entry_if : ℕ → ℕ → ℤ → Ops → Option FeedEntry
entry_if after n now ops = if nat_lt after n then Some (record { seq = n; now = now; keys = batch_keys ops }) else None

abbrev pub entry_above : ℕ → Event → Option FeedEntry
entry_above after (events.Commit id (Some n) now ops tracked ts) = entry_if after n now ops
entry_above after (events.Write n now ops) = entry_if after n now ops
entry_above after _ = None

abbrev pub feed_of : ℕ → List Event → List FeedEntry
feed_of after es = filter_map (entry_above after) es
