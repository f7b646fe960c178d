-- The laws of iterators over one stored table.
--     sst_rising, sst_more, sst_whole      its rest comes in the order; other reads before take no refusal away; and where each read is answered by
--                                          the world, nothing is damaged
use Rattle.std.specs.Prelude.{ℕ, List, ◌++◌, Option}
use Rattle.std.specs.List.{AllByRecursion}
use Rattle.slate_types.specs.declared.error.SlateDBError.{SlateDBError}
use Rattle.slate_types.specs.Iteration.{IsInOrder}
use Rattle.slate_types.specs.Outside.{Act, Meaning}
use Rattle.slate_types.specs.Refusing.{IsDamage}
use Rattle.slate_types.specs.World.{World, AnswersWorld}
use Rattle.slate_merge.specs.declared.filter_iterator.FilterIterator.{FilterIterator}
use Rattle.slate_merge.specs.declared.newest_first.NewestFirst.{NewestFirst}
use Rattle.slate_merge.specs.NewestLaws.{newest_more, newest_order, newest_whole}
use Rattle.slate_read.specs.declared.range_rows.InRange.{InRange}
use Rattle.slate_read.specs.declared.table_state.TableWalk.{TableWalk}
use Rattle.slate_read.specs.SstIterators.{source_order, source_refuses, source_rest, source_sound, sst_refuses, sst_rest, sst_sound}
use Rattle.slate_read.specs.WalkLaws.{refuses_more, refuses_whole}

pub sst_rising : (it : NewestFirst (FilterIterator TableWalk InRange)) (w : World) → sst_sound it w → IsInOrder it.iterator.iterator.order (sst_rest it w)
sst_rising it w h = newest_order source_rest source_sound source_order it.iterator it.progress w h

pub sst_more : (it : NewestFirst (FilterIterator TableWalk InRange)) (m : Meaning) (done reads : List Act) (at : Option (List ℕ)) (e : SlateDBError) → sst_refuses it m reads at e → sst_refuses it m (done ++ reads) at e
sst_more it m done reads at e h = newest_more source_refuses (λ s p d r a x k. refuses_more s.iterator.state s.iterator.table s.iterator.order p d r a x k) it.range it.iterator it.progress m done reads at e h

pub sst_whole : (it : NewestFirst (FilterIterator TableWalk InRange)) (w : World) (reads : List Act) (at : Option (List ℕ)) (e : SlateDBError) → sst_sound it w → AllByRecursion (AnswersWorld w) reads → sst_refuses it w.meaning reads at e → ¬ IsDamage e
sst_whole it w reads at e h answered r =
    newest_whole source_rest source_sound source_order source_refuses (λ s v rs a x k answers q. refuses_whole s.iterator.range s.iterator.table s.iterator.order s.iterator.state v rs a x k answers q) it.range it.iterator it.progress w reads at e h answered r
