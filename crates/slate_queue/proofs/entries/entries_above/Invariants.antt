use Rattle.std.proofs.Common.{◌≡◌, ◌++◌, drop}
use Rattle.slate_queue.specs.Feed.{feed_of}
use Rattle.slate_queue.proofs.entries.entries_above.Given as goal

abbrev pub invariant-loop-event : goal.invariant-loop-event
invariant-loop-event l = l.entries.items ++ feed_of l.after (drop l.event-index l.events) ≡ feed_of l.after l.events
