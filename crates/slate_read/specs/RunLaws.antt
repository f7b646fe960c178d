-- The laws of a walk over the tables of a run, and of iterators over one.
--     open_more, waiting_more, cursor_more, run_more      what some reads refuse, more do: of the table that is open, of those that weren't opened,
--                                                         of all, and of a walk
--     run_whole      where each read is answered by the world, nothing is damaged
--     run_rising      the rest of a walk comes in the order
--     run_iterator_rising, run_iterator_more, run_iterator_whole      the same of an iterator that hands out the newest of each key first
use Rattle.std.proofs.Common.{inl, inr, ℕ, List, ◌++◌, Option, Some, None, subst}
use Rattle.std.specs.List.{AllByRecursion}
use Rattle.std.proofs.lemmas.List.Elements.{All-contains, All-from_recursion}
use Rattle.slate_types.specs.declared.bytes_range.BytesRange.{BytesRange}
use Rattle.slate_types.specs.declared.error.SlateDBError.{SlateDBError}
use Rattle.slate_types.specs.declared.iter.IterationOrder.{IterationOrder}
use Rattle.slate_types.specs.Iteration.{IsInOrder}
use Rattle.slate_types.specs.Outside.{Act, Meaning}
use Rattle.slate_types.specs.Refusing.{IsDamage}
use Rattle.slate_types.specs.World.{Kept, World, AnswersWorld}
use Rattle.slate_table.specs.declared.info.SsTableHandle.{SsTableHandle}
use Rattle.slate_table.specs.IndexValue.{entries_of}
use Rattle.slate_merge.specs.declared.filter_iterator.FilterIterator.{FilterIterator}
use Rattle.slate_merge.specs.declared.newest_first.NewestFirst.{NewestFirst}
use Rattle.slate_merge.specs.NewestLaws.{newest_more, newest_order, newest_whole}
use Rattle.slate_read.specs.declared.range_rows.InRange.{InRange}
use Rattle.slate_read.specs.declared.run_state.OpenTable.{OpenTable}
use Rattle.slate_read.specs.declared.run_state.RunCursor.{RunCursor}
use Rattle.slate_read.specs.declared.run_state.RunState.{RunState}
use Rattle.slate_read.specs.declared.run_state.RunState.TheVariants.{New, Going, Refused}
use Rattle.slate_read.specs.declared.run_state.RunWalk.{RunWalk}
use Rattle.slate_read.specs.RunIterators.{run_refuses, run_rest, run_sound, run_source_order, run_source_refuses, run_source_rest, run_source_sound}
use Rattle.slate_read.specs.RunWalk.{AreHeld, IsSoundOpen, IsSoundRun, RefusesOpen, RefusesWaiting, refuses_run, refuses_run_in, rest_run_in, sound_run_in, waiting}
use Rattle.slate_read.specs.TableWalk.{IsReadable, RefusesSome}
use Rattle.slate_read.specs.WalkLaws.{left_whole, ready_whole, some_more, some_whole, unread_more, unread_whole}

-- ---- what some reads refuse, more do

pub open_more : (order : IterationOrder) (x : Option OpenTable) (m : Meaning) (done reads : List Act) (e : SlateDBError) → RefusesOpen order x m reads e → RefusesOpen order x m (done ++ reads) e
open_more order None m done reads e h = h
open_more order (Some o) m done reads e (damage, inl k) = (damage, inl k)
open_more order (Some o) m done reads e (damage, inr (inl k)) = (damage, inr (inl k))
open_more order (Some o) m done reads e (damage, inr (inr k)) = (damage, inr (inr (some_more m o.table (entries_of o.cursor.index) order done reads e k)))

pub waiting_more : (order : IterationOrder) (tables : List SsTableHandle) (m : Meaning) (done reads : List Act) (e : SlateDBError) → RefusesWaiting m order tables reads e → RefusesWaiting m order tables (done ++ reads) e
waiting_more order tables m done reads e (h, among, k) = (h, among, unread_more m h order done reads e k)

pub cursor_more : (order : IterationOrder) (x : RunCursor) (m : Meaning) (done reads : List Act) (at : Option (List ℕ)) (e : SlateDBError) → refuses_run order x m reads at e → refuses_run order x m (done ++ reads) at e
cursor_more order x m done reads at e (inl k) = inl (open_more order x.current m done reads e k)
cursor_more order x m done reads at e (inr k) = inr (k.0, waiting_more order (waiting x) m done reads e k.1)

pub run_more : (s : RunState) (order : IterationOrder) (x : RunCursor) (m : Meaning) (done reads : List Act) (at : Option (List ℕ)) (e : SlateDBError) → refuses_run_in s order x m reads at e → refuses_run_in s order x m (done ++ reads) at e
run_more New order x m done reads at e (inl k) = inl k
run_more New order x m done reads at e (inr k) = inr (cursor_more order x m done reads at e k)
run_more Going order x m done reads at e k = cursor_more order x m done reads at e k
run_more (Refused kept) order x m done reads at e k = k

-- ---- nothing is damaged where the world answers

open_whole : (order : IterationOrder) (x : Option OpenTable) (w : World) (reads : List Act) (e : SlateDBError) → IsSoundOpen order x w → AllByRecursion (AnswersWorld w) reads → RefusesOpen order x w.meaning reads e → ⊥
open_whole order None w reads e sound answered k = k
open_whole order (Some o) w reads e sound answered (damage, inl k) = left_whole order o.cursor.rows e sound.whole k
open_whole order (Some o) w reads e sound answered (damage, inr (inl k)) = ready_whole w o.table order o.cursor e sound k
open_whole order (Some o) w reads e sound answered (damage, inr (inr k)) =
    some_whole w o.table sound.kept sound.table order reads e answered (subst (λ (es : List (ℕ × List ℕ)). RefusesSome w.meaning o.table es order reads e) sound.index k)

waiting_whole : (order : IterationOrder) (tables : List SsTableHandle) (w : World) (reads : List Act) (e : SlateDBError) → AreHeld w tables → AllByRecursion (AnswersWorld w) reads → RefusesWaiting w.meaning order tables reads e → ⊥
waiting_whole order tables w reads e held answered (h, among, k) =
    let table = All-contains (λ (t : SsTableHandle). (kept : Kept) × IsReadable w t kept) tables h (All-from_recursion (λ (t : SsTableHandle). (kept : Kept) × IsReadable w t kept) tables held) among in
    unread_whole w h table.0 table.1 order reads e answered k

cursor_whole : (range : BytesRange) (order : IterationOrder) (x : RunCursor) (w : World) (reads : List Act) (at : Option (List ℕ)) (e : SlateDBError) → IsSoundRun range order x w → AllByRecursion (AnswersWorld w) reads → refuses_run order x w.meaning reads at e → ⊥
cursor_whole range order x w reads at e sound answered (inl k) = open_whole order x.current w reads e sound.open_table answered k
cursor_whole range order x w reads at e sound answered (inr k) = waiting_whole order (waiting x) w reads e sound.held answered k.1

pub run_whole : (range : BytesRange) (order : IterationOrder) (s : RunState) (x : RunCursor) (w : World) (reads : List Act) (at : Option (List ℕ)) (e : SlateDBError) → sound_run_in s range order x w → AllByRecursion (AnswersWorld w) reads → refuses_run_in s order x w.meaning reads at e → ¬ IsDamage e
run_whole range order New x w reads at e sound answered (inl k) = λ damage. subst IsDamage k damage
run_whole range order New x w reads at e sound answered (inr k) = λ damage. cursor_whole range order x w reads at e sound answered k
run_whole range order Going x w reads at e sound answered k = λ damage. cursor_whole range order x w reads at e sound answered k
run_whole range order (Refused kept) x w reads at e sound answered k = λ damage. sound (subst IsDamage k.1 damage)

-- ---- the order

pub run_rising : (range : BytesRange) (order : IterationOrder) (s : RunState) (x : RunCursor) (w : World) → sound_run_in s range order x w → IsInOrder order (rest_run_in s range order x w)
run_rising range order New x w h = h.rising
run_rising range order Going x w h = h.rising
run_rising range order (Refused e) x w h = tt

-- ---- the newest of each key first

pub run_iterator_rising : (it : NewestFirst (FilterIterator RunWalk InRange)) (w : World) → run_sound it w → IsInOrder it.iterator.iterator.order (run_rest it w)
run_iterator_rising it w h = newest_order run_source_rest run_source_sound run_source_order it.iterator it.progress w h

pub run_iterator_more : (it : NewestFirst (FilterIterator RunWalk InRange)) (m : Meaning) (done reads : List Act) (at : Option (List ℕ)) (e : SlateDBError) → run_refuses it m reads at e → run_refuses it m (done ++ reads) at e
run_iterator_more it m done reads at e h =
    newest_more run_source_refuses (λ s p d r a x k. run_more s.iterator.state s.iterator.order s.iterator.cursor p d r a x k) it.range it.iterator it.progress m done reads at e h

pub run_iterator_whole : (it : NewestFirst (FilterIterator RunWalk InRange)) (w : World) (reads : List Act) (at : Option (List ℕ)) (e : SlateDBError) → run_sound it w → AllByRecursion (AnswersWorld w) reads → run_refuses it w.meaning reads at e → ¬ IsDamage e
run_iterator_whole it w reads at e h answered r =
    newest_whole run_source_rest run_source_sound run_source_order run_source_refuses (λ s v rs a x k answers q. run_whole s.iterator.range s.iterator.order s.iterator.state s.iterator.cursor v rs a x k answers q) it.range it.iterator it.progress w reads at e h answered r
