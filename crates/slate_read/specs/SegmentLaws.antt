-- The laws of iterators over the runs of segments.
--     segment_rising, segment_more, segment_whole      its rest comes in the order; other reads before take no refusal away; and where each read is
--                                                      answered by the world, nothing is damaged
use Rattle.std.specs.Prelude.{ℕ, List, ◌++◌, Option}
use Rattle.std.specs.List.{AllByRecursion}
use Rattle.slate_types.specs.declared.error.SlateDBError.{SlateDBError}
use Rattle.slate_types.specs.Iteration.{IsInOrder}
use Rattle.slate_types.specs.Outside.{Act, Meaning}
use Rattle.slate_types.specs.Refusing.{IsDamage}
use Rattle.slate_types.specs.World.{World, AnswersWorld}
use Rattle.slate_merge.specs.MergeStateLaws.{refuses_more, refuses_whole, rest_rises}
use Rattle.slate_read.specs.declared.segment_merge_iterator.SegmentMergeIterator.{SegmentMergeIterator}
use Rattle.slate_read.specs.RunLaws.{run_iterator_more, run_iterator_whole}
use Rattle.slate_read.specs.SegmentIterators.{segment_order, segment_refuses, segment_rest, segment_sound, source_order, source_refuses, source_rest, source_sound}

pub segment_rising : (it : SegmentMergeIterator) (w : World) → segment_sound it w → IsInOrder (segment_order it) (segment_rest it w)
segment_rising it w h = rest_rises source_rest it.rows.order it.rows.dedup it.rows.state w

pub segment_more : (it : SegmentMergeIterator) (m : Meaning) (done reads : List Act) (at : Option (List ℕ)) (e : SlateDBError) → segment_refuses it m reads at e → segment_refuses it m (done ++ reads) at e
segment_more it m done reads at e h = refuses_more source_refuses (λ s n d r a x k. run_iterator_more s.rows n d r a x k) m done it.rows.state reads at e h

pub segment_whole : (it : SegmentMergeIterator) (w : World) (reads : List Act) (at : Option (List ℕ)) (e : SlateDBError) → segment_sound it w → AllByRecursion (AnswersWorld w) reads → segment_refuses it w.meaning reads at e → ¬ IsDamage e
segment_whole it w reads at e h k r = refuses_whole source_refuses source_rest source_sound source_order (λ s v d a x p q z. run_iterator_whole s.rows v d a x p q z) it.rows.order w reads at e it.rows.state h k r
