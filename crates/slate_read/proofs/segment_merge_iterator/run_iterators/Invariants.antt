use Rattle.std.specs.Vec.Iter.{into_iter_items}
use Rattle.slate_read.proofs.SegmentRuns.{AddsRuns}
use Rattle.slate_read.proofs.segment_merge_iterator.run_iterators.Given as goal

abbrev pub invariant-loop-run : goal.invariant-loop-run
invariant-loop-run g l = AddsRuns l.range l.options.order (into_iter_items l.run-iterator) l.sources.items l.fn.runs.items
