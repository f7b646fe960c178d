-- What reads show of tables that weren't opened.
use Rattle.std.proofs.Common.{◌≡◌, ◌⊎◌, inl, inr, ℕ, List, filter, Option, None, subst}
use Rattle.std.specs.Prelude.{Contains}
use Rattle.std.specs.List.{AllByRecursion}
use Rattle.std.proofs.lemmas.List.Elements.{All-contains, All-contains_itself, All-filter, All-from_recursion, recursion_from_All}
use Rattle.slate_types.specs.declared.bytes_range.BytesRange.{BytesRange}
use Rattle.slate_types.specs.declared.error.SlateDBError.{SlateDBError}
use Rattle.slate_types.specs.declared.error.SlateDBError.TheVariants.{IteratorNotInitialized}
use Rattle.slate_types.specs.declared.iter.IterationOrder.{IterationOrder}
use Rattle.slate_types.specs.declared.iter.IterationOrder.TheVariants.{Ascending, Descending}
use Rattle.slate_types.specs.Outside.{Act, Meaning}
use Rattle.slate_types.specs.Iteration.{in_order}
use Rattle.slate_types.specs.Refusing.{IsDamage}
use Rattle.slate_types.proofs.Lists.{AllByRecursion_reverse}
use Rattle.slate_table.specs.declared.info.SsTableHandle.{SsTableHandle}
use Rattle.slate_table.specs.Reading.{SectionRead}
use Rattle.slate_merge.specs.declared.progress.Progress.{Progress}
use Rattle.slate_merge.specs.declared.progress.Progress.TheVariants.{New as ProgressNew}
use Rattle.slate_merge.specs.NewestFirst.{RefusesSeek, refuses_newest}
use Rattle.slate_read.specs.Showing.{RefusesBlockOf, ShowsBlock, ShowsByReads, SomeShows, UnopenedRunsShow, UnopenedWalksShow}
use Rattle.slate_read.specs.declared.run_state.OpenTable.{OpenTable}
use Rattle.slate_read.specs.declared.run_state.RunCursor.{RunCursor}
use Rattle.slate_read.specs.declared.run_state.RunState.{RunState}
use Rattle.slate_read.specs.declared.run_state.RunState.TheVariants.{New as RunNew}
use Rattle.slate_read.specs.declared.table_state.TableState.{TableState}
use Rattle.slate_read.specs.declared.table_state.TableState.TheVariants.{New as TableNew}
use Rattle.slate_read.specs.RunIterators.{reached, run_source_refuses}
use Rattle.slate_read.specs.RunWalk.{RefusesOpen, can_reach, refuses_run_in, waiting}
use Rattle.slate_read.specs.SstIterators.{source_refuses}
use Rattle.slate_read.specs.TableWalk.{RefusesSome, RefusesUnread, RefusesWalk, answer_at, refuses_in}

walk_shows : (m : Meaning) (version : ℕ) (order : IterationOrder) (section : SectionRead) (e : SlateDBError) → RefusesWalk m.decode version order section e → RefusesBlockOf m.decode version section e
unfolding RefusesWalk
walk_shows m version order section e (inl h) = inl h
walk_shows m version order section e (inr (block, bytes, read, rows)) = inr (block, read, (order, rows))

some_shows : (m : Meaning) (h : SsTableHandle) (entries : List (ℕ × List ℕ)) (order : IterationOrder) (reads : List Act) (e : SlateDBError) → RefusesSome m h entries order reads e → ShowsBlock m.decode h entries reads e
some_shows m h entries order reads e r = record {
  first = r.first;
  stop = r.stop;
  at = r.at;
  from = r.from;
  upto = r.below;
  within = r.within;
  given = r.given;
  among = r.among;
  refuses = walk_shows m h.format_version order (answer_at h entries r.first r.stop r.given r.at) e r.why;
}

pub unread_shows : (m : Meaning) (h : SsTableHandle) (order : IterationOrder) (reads : List Act) (e : SlateDBError) → RefusesUnread m h order reads e → ShowsByReads m.decode h reads e
unread_shows m h order reads e (given, among, inl k) = record { given = given; among = among; why = inl k }
unread_shows m h order reads e (given, among, inr (entries, read, some)) = record { given = given; among = among; why = inr (entries, read, some_shows m h entries order reads e some) }

-- ---- of a table, and of a run

-- a walk that wasn't begun
pub new_walk_shows : (m : Meaning) (h : SsTableHandle) (order : IterationOrder) (s : TableState) (reads : List Act) (at : Option (List ℕ)) (e : SlateDBError) → s ≡ TableNew → refuses_in s h order m reads at e →
    (e ≡ IteratorNotInitialized) ⊎ (IsDamage e × ShowsByReads m.decode h reads e)
new_walk_shows m h order s reads at e new r = by (subst (λ (x : TableState). refuses_in x h order m reads at e) new r)
  where
    by : refuses_in TableNew h order m reads at e → (e ≡ IteratorNotInitialized) ⊎ (IsDamage e × ShowsByReads m.decode h reads e)
    by (inl k) = inl k
    by (inr k) = inr (k.0, unread_shows m h order reads e k.1)

pub among_reached : (range : BytesRange) (order : IterationOrder) (tables : List SsTableHandle) (h : SsTableHandle) → Contains (reached range order tables) h → Contains tables h
among_reached range order tables h among =
    All-contains (Contains tables) (reached range order tables) h (All-from_recursion (Contains tables) (reached range order tables) (turned order (recursion_from_All (Contains tables) (filter (λ t. can_reach range t.info) tables) (All-filter (λ t. can_reach range t.info) (Contains tables) tables (All-contains_itself tables))))) among
  where
    turned : (o : IterationOrder) → AllByRecursion (Contains tables) (filter (λ t. can_reach range t.info) tables) → AllByRecursion (Contains tables) (in_order o (filter (λ t. can_reach range t.info) tables))
    turned Ascending all = all
    turned Descending all = AllByRecursion_reverse (Contains tables) (filter (λ t. can_reach range t.info) tables) all

pub new_run_shows : (m : Meaning) (order : IterationOrder) (s : RunState) (x : RunCursor) (tables : List SsTableHandle) (reads : List Act) (at : Option (List ℕ)) (e : SlateDBError) → s ≡ RunNew → x.current ≡ None → ((h : SsTableHandle) → Contains (waiting x) h → Contains tables h) →
    refuses_run_in s order x m reads at e → (e ≡ IteratorNotInitialized) ⊎ (IsDamage e × SomeShows m.decode tables reads e)
new_run_shows m order s x tables reads at e new closed among r = by (subst (λ (y : RunState). refuses_run_in y order x m reads at e) new r)
  where
    by : refuses_run_in RunNew order x m reads at e → (e ≡ IteratorNotInitialized) ⊎ (IsDamage e × SomeShows m.decode tables reads e)
    by (inl k) = inl k
    by (inr (inl k)) = absurd (subst (λ (o : Option OpenTable). RefusesOpen order o m reads e) closed k)
    by (inr (inr (damage, (h, is, k)))) = inr (damage, (h, among h is, unread_shows m h order reads e k))

pub walks_show : UnopenedWalksShow
walks_show range table order it is m reads at e r = by (subst (λ (s : Progress). refuses_newest source_refuses it.range it.iterator s m reads at e) is.fresh r)
  where
    by : refuses_newest source_refuses it.range it.iterator ProgressNew m reads at e → (e ≡ IteratorNotInitialized) ⊎ RefusesSeek range at e ⊎ (IsDamage e × ShowsByReads m.decode table reads e)
    by (inl k) = inl k
    by (inr (inl k)) = of (new_walk_shows m it.iterator.iterator.table it.iterator.iterator.order it.iterator.iterator.state reads at e is.unopened k)
      where
        of : (e ≡ IteratorNotInitialized) ⊎ (IsDamage e × ShowsByReads m.decode it.iterator.iterator.table reads e) → (e ≡ IteratorNotInitialized) ⊎ RefusesSeek range at e ⊎ (IsDamage e × ShowsByReads m.decode table reads e)
        of (inl n) = inl n
        of (inr n) = inr (inr (n.0, subst (λ (h : SsTableHandle). ShowsByReads m.decode h reads e) is.over_table n.1))
    by (inr (inr k)) = inr (inl (subst (λ (x : BytesRange). RefusesSeek x at e) is.within k))

pub runs_show : UnopenedRunsShow
runs_show range run order it is m reads at e r = by (subst (λ (s : Progress). refuses_newest run_source_refuses it.range it.iterator s m reads at e) is.fresh r)
  where
    by : refuses_newest run_source_refuses it.range it.iterator ProgressNew m reads at e → (e ≡ IteratorNotInitialized) ⊎ RefusesSeek range at e ⊎ (IsDamage e × SomeShows m.decode run.tables.items reads e)
    by (inl k) = inl k
    by (inr (inl k)) =
        of (new_run_shows m it.iterator.iterator.order it.iterator.iterator.state it.iterator.iterator.cursor run.tables.items reads at e is.unopened is.closed (λ h among. among_reached range order run.tables.items h (subst (λ (l : List SsTableHandle). Contains l h) is.opens among)) k)
      where
        of : (e ≡ IteratorNotInitialized) ⊎ (IsDamage e × SomeShows m.decode run.tables.items reads e) → (e ≡ IteratorNotInitialized) ⊎ RefusesSeek range at e ⊎ (IsDamage e × SomeShows m.decode run.tables.items reads e)
        of (inl n) = inl n
        of (inr n) = inr (inr n)
    by (inr (inr k)) = inr (inl (subst (λ (x : BytesRange). RefusesSeek x at e) is.within k))
