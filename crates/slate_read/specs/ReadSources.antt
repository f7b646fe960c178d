-- What a read of many sources takes its rows from.
--     rest_of, IsSoundSource, order_of, source_bound, source_refuses, source_unbegun      a source as an iterator
--     IsSourceWithin it paths      it reads objects at these paths alone
--     source_rising, source_more, source_whole      what it owes as one
use Rattle.slate_read.specs.TableWalk.{IsWalkWithin}
use Rattle.slate_read.specs.RunWalk.{IsRunWithin}
use Rattle.std.specs.Prelude.{ℕ, List, [], ◌++◌, length, Option}
use Rattle.std.specs.List.{AllByRecursion}
use Rattle.slate_types.specs.declared.error.SlateDBError.{SlateDBError}
use Rattle.slate_types.specs.declared.iter.IterationOrder.{IterationOrder}
use Rattle.slate_types.specs.declared.iter.IterationOrder.TheVariants.{Ascending}
use Rattle.slate_types.specs.declared.types.RowEntry.{RowEntry}
use Rattle.slate_types.specs.Iteration.{IsInOrder}
use Rattle.slate_types.specs.Outside.{Act, Meaning}
use Rattle.slate_types.specs.Refusing.{IsDamage}
use Rattle.slate_types.specs.World.{World, AnswersWorld}
use Rattle.slate_merge.specs.MergeStates.{IsWaiting}
use Rattle.slate_merge.specs.NewestFirst.{IsNew}
use Rattle.slate_read.specs.declared.read_source.ReadSource.{ReadSource}
use Rattle.slate_read.specs.declared.read_source.ReadSource.TheVariants.{Empty, Internal, Table, Run, Segments, Batch, Memory}
use Rattle.slate_read.specs.RunIterators.{run_iterator_bound, run_refuses, run_rest, run_sound}
use Rattle.slate_read.specs.RunLaws.{run_iterator_more, run_iterator_rising, run_iterator_whole}
use Rattle.slate_read.specs.SegmentIterators.{segment_bound, segment_order, segment_refuses, segment_rest, segment_sound, IsSegmentWithin}
use Rattle.slate_read.specs.SegmentLaws.{segment_more, segment_rising, segment_whole}
use Rattle.slate_read.specs.SstIterators.{sst_bound, sst_refuses, sst_rest, sst_sound}
use Rattle.slate_read.specs.SstLaws.{sst_more, sst_rising, sst_whole}

abbrev pub rest_of : ReadSource → World → List RowEntry
rest_of (Empty it) w = []
rest_of (Internal it) w = sst_rest it.rows w
rest_of (Table it) w = sst_rest it.rows w
rest_of (Run it) w = run_rest it.rows w
rest_of (Segments it) w = segment_rest it w
rest_of (Batch it) w = it.rows
rest_of (Memory it) w = it.rows

abbrev pub IsSoundSource : ReadSource → World → Type 0
IsSoundSource (Empty it) w = Unit {0}
IsSoundSource (Internal it) w = sst_sound it.rows w
IsSoundSource (Table it) w = sst_sound it.rows w
IsSoundSource (Run it) w = run_sound it.rows w
IsSoundSource (Segments it) w = segment_sound it w
IsSoundSource (Batch it) w = IsInOrder it.order it.rows
IsSoundSource (Memory it) w = IsInOrder it.order it.rows

abbrev pub order_of : ReadSource → IterationOrder
order_of (Empty it) = Ascending
order_of (Internal it) = it.rows.iterator.iterator.order
order_of (Table it) = it.rows.iterator.iterator.order
order_of (Run it) = it.rows.iterator.iterator.order
order_of (Segments it) = segment_order it
order_of (Batch it) = it.order
order_of (Memory it) = it.order

abbrev pub IsSourceWithin : ReadSource → List (List ℕ) → Type 0
IsSourceWithin (Internal it) paths = IsWalkWithin it.rows.iterator.iterator paths
IsSourceWithin (Table it) paths = IsWalkWithin it.rows.iterator.iterator paths
IsSourceWithin (Run it) paths = IsRunWithin it.rows.iterator.iterator paths
IsSourceWithin (Segments it) paths = IsSegmentWithin it paths
IsSourceWithin _ paths = Unit {0}

abbrev pub source_bound : ReadSource → ℕ
source_bound (Empty it) = 0
source_bound (Internal it) = sst_bound it.rows
source_bound (Table it) = sst_bound it.rows
source_bound (Run it) = run_iterator_bound it.rows
source_bound (Segments it) = segment_bound it
source_bound (Batch it) = length it.rows
source_bound (Memory it) = length it.rows

abbrev pub source_refuses : ReadSource → Meaning → List Act → Option (List ℕ) → SlateDBError → Type 0
source_refuses (Empty it) m reads at e = ⊥
source_refuses (Internal it) m reads at e = sst_refuses it.rows m reads at e
source_refuses (Table it) m reads at e = sst_refuses it.rows m reads at e
source_refuses (Run it) m reads at e = run_refuses it.rows m reads at e
source_refuses (Segments it) m reads at e = segment_refuses it m reads at e
source_refuses (Batch it) m reads at e = ⊥
source_refuses (Memory it) m reads at e = ⊥

abbrev pub source_unbegun : ReadSource → Type 0
source_unbegun (Internal it) = IsNew it.rows.progress
source_unbegun (Table it) = IsNew it.rows.progress
source_unbegun (Run it) = IsNew it.rows.progress
source_unbegun (Segments it) = IsWaiting it.rows.state
source_unbegun _ = ⊥

-- ---- laws

pub source_rising : (it : ReadSource) (w : World) → IsSoundSource it w → IsInOrder (order_of it) (rest_of it w)
source_rising (Empty it) w h = tt
source_rising (Internal it) w h = sst_rising it.rows w h
source_rising (Table it) w h = sst_rising it.rows w h
source_rising (Run it) w h = run_iterator_rising it.rows w h
source_rising (Segments it) w h = segment_rising it w h
source_rising (Batch it) w h = h
source_rising (Memory it) w h = h

pub source_more : (it : ReadSource) (m : Meaning) (done reads : List Act) (at : Option (List ℕ)) (e : SlateDBError) → source_refuses it m reads at e → source_refuses it m (done ++ reads) at e
source_more (Empty it) m done reads at e h = h
source_more (Internal it) m done reads at e h = sst_more it.rows m done reads at e h
source_more (Table it) m done reads at e h = sst_more it.rows m done reads at e h
source_more (Run it) m done reads at e h = run_iterator_more it.rows m done reads at e h
source_more (Segments it) m done reads at e h = segment_more it m done reads at e h
source_more (Batch it) m done reads at e h = h
source_more (Memory it) m done reads at e h = h

pub source_whole : (it : ReadSource) (w : World) (reads : List Act) (at : Option (List ℕ)) (e : SlateDBError) → IsSoundSource it w → AllByRecursion (AnswersWorld w) reads → source_refuses it w.meaning reads at e → ¬ IsDamage e
source_whole (Empty it) w reads at e h k r = absurd r
source_whole (Internal it) w reads at e h k r = sst_whole it.rows w reads at e h k r
source_whole (Table it) w reads at e h k r = sst_whole it.rows w reads at e h k r
source_whole (Run it) w reads at e h k r = run_iterator_whole it.rows w reads at e h k r
source_whole (Segments it) w reads at e h k r = segment_whole it w reads at e h k r
source_whole (Batch it) w reads at e h k r = absurd r
source_whole (Memory it) w reads at e h k r = absurd r
