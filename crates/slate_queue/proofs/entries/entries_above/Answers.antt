use Rattle.std.proofs.Common.{arith}
use Rattle.slate_queue.proofs.FeedLaws.{feed_done, feed_goes}
use Rattle.slate_queue.proofs.entries.entries_above.Goals as goal

pub loop-event-preserved : goal.loop-event-preserved
loop-event-preserved c =
    feed_goes c.args.after c.args.events.now c.loop-event.event-index c.event-item.result c.event-item.result c.loop-event.entries.items c.push_above.new.entries.items (omega arith) c.event-item.is c.loop-event.invariant
    c.in_ok-push_above.ensures

pub returns : goal.returns
returns c = record { feed = feed_done c.args.after c.args.events.now c.loop-event.event-index c.loop-event.entries.items (omega arith) c.loop-event.invariant }
