-- Reads of objects at some paths alone.
use Rattle.std.proofs.Common.{◌≡◌, ◌⊎◌, inl, inr, ◌++◌, ℕ, List, [], ◌∷◌, map, Option, Some, None, refl, sym, subst, arith}
use Rattle.std.specs.Prelude.{Contains, IfOk, IfSome, OnErr, Result, Ok, Err, option_to_list}
use Rattle.std.specs.BinaryHeap.{heap_items}
use Rattle.std.specs.List.{AllByRecursion}
use Rattle.std.proofs.lemmas.List.Elements.{Contains-append_right}
use Rattle.slate_types.specs.declared.bytes_range.BytesRange.{BytesRange}
use Rattle.slate_types.specs.declared.error.SlateDBError.{SlateDBError}
use Rattle.slate_types.specs.declared.iter.IterationOrder.{IterationOrder}
use Rattle.slate_types.specs.declared.iter.IterationOrder.TheVariants.{Ascending, Descending}
use Rattle.slate_types.specs.Iteration.{in_order}
use Rattle.slate_types.specs.Outside.{Act, Reach}
use Rattle.slate_types.specs.World.{ReadsAt}
use Rattle.slate_types.proofs.Calls.{reads_at_call, reads_at_none, reads_at_then}
use Rattle.slate_types.proofs.Lists.{AllByRecursion_behind, AllByRecursion_filter, AllByRecursion_reverse, AllByRecursion_weaken}
use Rattle.slate_table.specs.declared.info.SsTableHandle.{SsTableHandle}
use Rattle.slate_table.specs.Reading.{Reads}
use Rattle.slate_merge.specs.declared.filter_iterator.FilterIterator.{FilterIterator}
use Rattle.slate_merge.specs.declared.merge_iterator.MergeState.{MergeState}
use Rattle.slate_merge.specs.declared.merge_iterator.MergeState.TheVariants.{New, Begun, Refused}
use Rattle.slate_merge.specs.declared.newest_first.NewestFirst.{NewestFirst}
use Rattle.slate_merge.specs.MergeStates.{IsWithinIn}
use Rattle.slate_merge.specs.Merging.{AreWithin, Sources, begun_sources, waiting_sources}
use Rattle.slate_read.specs.declared.range_rows.InRange.{InRange}
use Rattle.slate_read.specs.declared.read_source.ReadSource.{ReadSource}
use Rattle.slate_read.specs.declared.read_source.ReadSource.TheVariants.{Empty, Internal, Table, Run, Segments, Batch, Memory}
use Rattle.slate_read.specs.declared.run_state.OpenTable.{OpenTable}
use Rattle.slate_read.specs.declared.run_state.RunCursor.{RunCursor}
use Rattle.slate_read.specs.declared.run_state.RunWalk.{RunWalk}
use Rattle.slate_read.specs.declared.segment_merge_iterator.SegmentMergeIterator.{SegmentMergeIterator}
use Rattle.slate_read.specs.declared.sorted_run.SortedRun.{SortedRun}
use Rattle.slate_read.specs.declared.sorted_run_iterator.SortedRunIterator.{SortedRunIterator}
use Rattle.slate_read.specs.declared.table_state.TableWalk.{TableWalk}
use Rattle.slate_read.specs.ReadSources.{IsSourceWithin}
use Rattle.slate_read.specs.RunIterators.{IsRunIterator, reached}
use Rattle.slate_read.specs.RunWalk.{IsCursorWithin, IsOpenWithin, IsRunWithin, PassesOver, can_reach, waiting}
use Rattle.slate_read.specs.SegmentIterators.{IsSegmentWithin}
use Rattle.slate_read.specs.TableWalk.{IsWalkWithin, path_in}
use Rattle.slate_read.proofs.Openings.{call_nothing, call_of}

-- ---- one read

pub read_within : (paths : List (List ℕ)) (a b : Reach) (path : List ℕ) (start size : ℕ) (means : Option (List ℕ) → Type 0) → Contains paths path → b.objects ≡ a.objects → b.meaning ≡ a.meaning →
    Reads a.objects a.acts b.acts path start size means → ReadsAt paths a b
read_within paths a b path start size means here same meaning r = let c = call_of a b path start size means same meaning r in (Act.read path start size c.0 ∷ [], c.1, (here, tt))

-- or none
pub once_within : (paths : List (List ℕ)) (a b : Reach) (path : List ℕ) (start size : ℕ) → Contains paths path → b.objects ≡ a.objects → b.meaning ≡ a.meaning →
    (b.acts ≡ a.acts) ⊎ Reads a.objects a.acts b.acts path start size (λ _. Unit {0}) → ReadsAt paths a b
once_within paths a b path start size here same meaning (inl none) = reads_at_call paths a b (call_nothing a b same meaning none)
once_within paths a b path start size here same meaning (inr r) = read_within paths a b path start size (λ _. Unit {0}) here same meaning r

-- whatever the answer
pub asked_within : {X : Type 0} (r : Result X SlateDBError) (paths : List (List ℕ)) (a b : Reach) (path : List ℕ) (start size : ℕ) (means : X → Option (List ℕ) → Type 0) → Contains paths path → b.objects ≡ a.objects → b.meaning ≡ a.meaning →
    IfOk r (λ x. Reads a.objects a.acts b.acts path start size (means x)) → OnErr r ((b.acts ≡ a.acts) ⊎ Reads a.objects a.acts b.acts path start size (λ _. Unit {0})) → ReadsAt paths a b
asked_within (Ok x) paths a b path start size means here same meaning found once = read_within paths a b path start size (means x) here same meaning found
asked_within (Err e) paths a b path start size means here same meaning found once = once_within paths a b path start size here same meaning once

-- ---- a call of what reads within paths

-- it reads within them, and what it leaves does too
abbrev pub StaysWithin : {A : Type 0} → (A → List (List ℕ) → Type 0) → Reach → Reach → A → A → Type 0
StaysWithin within a b x y = (paths : List (List ℕ)) → within x paths → ReadsAt paths a b × within y paths

pub none_within : {A : Type 0} (within : A → List (List ℕ) → Type 0) (a : Reach) (x : A) → StaysWithin within a a x x
none_within within a x paths h = (reads_at_none paths a, h)

pub within_then : {A : Type 0} (within : A → List (List ℕ) → Type 0) (a b c : Reach) (x y z : A) → StaysWithin within a b x y → StaysWithin within b c y z → StaysWithin within a c x z
within_then within a b c x y z first last paths h =
    let f = first paths h in
    let l = last paths f.1 in
    (reads_at_then paths a b c f.0 l.0, l.1)

-- ---- a table

pub walk_stays : (paths : List (List ℕ)) (x y : SsTableHandle) → y ≡ x → Contains paths (path_in x) → Contains paths (path_in y)
walk_stays paths x y same h = subst (λ (t : SsTableHandle). Contains paths (path_in t)) (sym same) h

-- the table of a run that is open
pub open_at : (paths : List (List ℕ)) (x : Option OpenTable) (o : OpenTable) → x ≡ Some o → IsOpenWithin x paths → Contains paths (path_in o.table)
open_at paths x o is h = subst (λ (u : Option OpenTable). IsOpenWithin u paths) is h

pub open_of : (paths : List (List ℕ)) (y : Option OpenTable) (p : OpenTable) → y ≡ Some p → Contains paths (path_in p.table) → IsOpenWithin y paths
open_of paths y p is h = subst (λ (u : Option OpenTable). IsOpenWithin u paths) (sym is) h

pub open_stays : (paths : List (List ℕ)) (x y : Option OpenTable) (o p : OpenTable) → x ≡ Some o → y ≡ Some p → p.table ≡ o.table → IsOpenWithin x paths → IsOpenWithin y paths
open_stays paths x y o p ex ey same h = open_of paths y p ey (walk_stays paths o.table p.table same (open_at paths x o ex h))

pub none_open : (paths : List (List ℕ)) (y : Option OpenTable) → y ≡ None → IsOpenWithin y paths
none_open paths y is = subst (λ (u : Option OpenTable). IsOpenWithin u paths) (sym is) tt

-- ---- a run

abbrev AreAt : List (List ℕ) → List SsTableHandle → Type 0
AreAt paths tables = AllByRecursion (λ h. Contains paths (path_in h)) tables

-- a table is taken off those that weren't opened
pub popped_within : (paths : List (List ℕ)) (found : Option SsTableHandle) (before after : List SsTableHandle) → before ≡ option_to_list found ++ after → AreAt paths before → IfSome found (λ table. Contains paths (path_in table)) × AreAt paths after
popped_within paths None before after is h = (tt, subst (AreAt paths) is h)
popped_within paths (Some table) before after is h = subst (AreAt paths) is h

pub run_stays : (a b : Reach) (x y : RunCursor) → waiting y ≡ waiting x → StaysWithin IsOpenWithin a b x.current y.current → StaysWithin IsCursorWithin a b x y
run_stays a b x y same stays paths h =
    let k = stays paths h.0 in
    (k.0, (k.1, subst (AreAt paths) (sym same) h.1))

pub passes_within : (order : IterationOrder) (key : List ℕ) (a : Reach) (x y : RunCursor) → PassesOver order key x y → StaysWithin IsCursorWithin a a x y
passes_within order key a x y p paths h = (
  reads_at_none paths a,
  (subst (λ (u : Option OpenTable). IsOpenWithin u paths) (sym p.open_table) h.0, AllByRecursion_behind (λ h. Contains paths (path_in h)) p.passed (waiting y) (subst (AreAt paths) p.are h.1)),
)

pub closed_within : (paths : List (List ℕ)) (y : RunCursor) → y.current ≡ None → waiting y ≡ [] → IsCursorWithin y paths
closed_within paths y current none = (none_open paths y.current current, subst (AreAt paths) (sym none) tt)

-- a new one is within the paths of its tables
own_paths : (tables : List SsTableHandle) → AreAt (map path_in tables) tables
own_paths [] = tt
own_paths (table ∷ tables) = (
  (0, omega arith, refl),
  AllByRecursion_weaken (λ h. Contains (map path_in tables) (path_in h)) (λ h. Contains (path_in table ∷ map path_in tables) (path_in h)) (λ h k. Contains-append_right (path_in table ∷ []) (map path_in tables) (path_in h) k) tables (own_paths tables),
)

in_order_at : (paths : List (List ℕ)) (order : IterationOrder) (tables : List SsTableHandle) → AreAt paths tables → AreAt paths (in_order order tables)
in_order_at paths Ascending tables h = h
in_order_at paths Descending tables h = AllByRecursion_reverse (λ h. Contains paths (path_in h)) tables h

pub new_run_within : (range : BytesRange) (run : SortedRun) (order : IterationOrder) (it : NewestFirst (FilterIterator RunWalk InRange)) → IsRunIterator range run order it → IsRunWithin it.iterator.iterator (map path_in run.tables.items)
new_run_within range run order it is = (none_open paths it.iterator.iterator.cursor.current is.closed, subst (AreAt paths) (sym is.opens) there)
  where
    paths : List (List ℕ)
    paths = map path_in run.tables.items

    there : AreAt paths (reached range order run.tables.items)
    there = in_order_at paths order _ (AllByRecursion_filter (λ h. Contains paths (path_in h)) (λ h. can_reach range h.info) run.tables.items (own_paths run.tables.items))

-- ---- more paths

module _ (some all : List (List ℕ)) (more : (path : List ℕ) → Contains some path → Contains all path) where
  open_widens : (x : Option OpenTable) → IsOpenWithin x some → IsOpenWithin x all
  open_widens None h = tt
  open_widens (Some o) h = more (path_in o.table) h

  pub walk_widens : (it : TableWalk) → IsWalkWithin it some → IsWalkWithin it all
  walk_widens it h = more (path_in it.table) h

  pub run_widens : (it : RunWalk) → IsRunWithin it some → IsRunWithin it all
  run_widens it h = (open_widens it.cursor.current h.0, AllByRecursion_weaken (λ h. Contains some (path_in h)) (λ h. Contains all (path_in h)) (λ h k. more (path_in h) k) (waiting it.cursor) h.1)

  abbrev Reader : SortedRunIterator → List (List ℕ) → Type 0
  Reader it paths = IsRunWithin it.rows.iterator.iterator paths

  sources_widen : (x : Sources SortedRunIterator) → AreWithin Reader x some → AreWithin Reader x all
  sources_widen x h = (
    AllByRecursion_weaken (λ s. Reader s some) (λ s. Reader s all) (λ s k. run_widens s.rows.iterator.iterator k) x.waiting h.0,
    AllByRecursion_weaken (λ s. Reader s.source some) (λ s. Reader s.source all) (λ s k. run_widens s.source.rows.iterator.iterator k) x.heads h.1,
  )

  merge_widens : (s : MergeState SortedRunIterator) → IsWithinIn Reader s some → IsWithinIn Reader s all
  merge_widens (New sources) h = sources_widen (waiting_sources sources.items) h
  merge_widens (Begun heads) h = sources_widen (begun_sources (heap_items heads)) h
  merge_widens (Refused e) h = tt

  pub segment_widens : (it : SegmentMergeIterator) → IsSegmentWithin it some → IsSegmentWithin it all
  segment_widens it h = merge_widens it.rows.state h

  pub source_widens : (it : ReadSource) → IsSourceWithin it some → IsSourceWithin it all
  source_widens (Empty it) h = tt
  source_widens (Internal it) h = walk_widens it.rows.iterator.iterator h
  source_widens (Table it) h = walk_widens it.rows.iterator.iterator h
  source_widens (Run it) h = run_widens it.rows.iterator.iterator h
  source_widens (Segments it) h = segment_widens it h
  source_widens (Batch it) h = tt
  source_widens (Memory it) h = tt
