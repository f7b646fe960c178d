use Rattle.std.proofs.Common.{true}
use Rattle.slate_read.proofs.SegmentRuns.{segment_merge}
use Rattle.slate_read.proofs.segment_merge_iterator.SegmentMergeIterator.new.Goals as goal

pub returns-clause-rows : goal.returns-clause-rows
returns-clause-rows g c =
    let order = c.args.options.order in
    let sources = c.in_ok-sources.sources.items in
    segment_merge c.args.range order c.args.runs.items sources _ (c.with_dedup-rows.ensures.merge sources order true c.new_with_order.ensures.merge) c.in_ok-sources.ensures.each
