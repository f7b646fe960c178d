-- Rows in memory stand in turn: what rises among the sources of a scan stands in a table that was read.
use Rattle.std.proofs.Common.{◌≡◌, ◌⊎◌, inl, inr, ℕ, Bool, true, false, List, [], ◌∷◌, ◌++◌, reverse, Option, Some, None, refl, sym, subst, ◌∙◌}
use Rattle.std.specs.Prelude.{IfSome, IsSomeAnd}
use Rattle.slate_types.specs.declared.bytes_range.BytesRange.{BytesRange}
use Rattle.slate_types.specs.declared.iter.IterationOrder.{IterationOrder}
use Rattle.slate_types.specs.declared.types.RowEntry.{RowEntry}
use Rattle.slate_types.specs.Iteration.{TakesRow, comes_before, drop_before}
use Rattle.slate_types.specs.Outside.{Act, Meaning}
use Rattle.slate_types.specs.RowTurns.{AreInTurn, NoneEarlier, row_before}
use Rattle.slate_types.proofs.Lists.{AllByRecursion_reverse}
use Rattle.slate_mem.specs.Batch.{Ops}
use Rattle.slate_merge.specs.declared.merge_iterator.MergeState.{MergeState}
use Rattle.slate_merge.specs.declared.merge_iterator.MergeState.TheVariants as merge
use Rattle.slate_merge.specs.Calls.{AreCalls, CallsOnce}
use Rattle.slate_merge.specs.Filtering.{Skips, upto_seq}
use Rattle.slate_merge.specs.MergeBringing.{IsHeapedIn, merge_offers as state_offers}
use Rattle.slate_merge.specs.MergeStateLaws.{any_weaker}
use Rattle.slate_merge.specs.MergeStates.{WaitingAre}
use Rattle.slate_merge.specs.Offers.{AreBegins, Rises, RisesByCalls, offers}
use Rattle.slate_merge.specs.Turns.{both}
use Rattle.slate_merge.proofs.Heaps.{not_above}
use Rattle.slate_merge.proofs.MergeRises.{merge_rises}
use Rattle.slate_merge.proofs.Offerings.{rises_come}
use Rattle.slate_read.specs.declared.read_source.ReadSource.{ReadSource}
use Rattle.slate_read.specs.declared.read_source.ReadSource.TheVariants.{Empty, Internal, Table, Run, Segments, Batch, Memory}
use Rattle.slate_read.specs.declared.sorted_run.SortedRun.{SortedRun}
use Rattle.slate_read.specs.SourceBringing as bringing
use Rattle.slate_db.specs.Installs.{handles_of}
use Rattle.slate_db.specs.Model.{Rows}
use Rattle.slate_db.specs.OpenScans.{AreEach, AreScanSources, IsInMemory, IsMemorySource, SourcesRise}
use Rattle.slate_db.specs.Scans.{IsReadAmong, MergedSources, ScanSource, merge_begins, merge_seeks, merge_takes, source_begins, source_seeks, source_takes}
use Rattle.slate_db.proofs.ScanBringings.{by_source, some_run}
use Rattle.slate_db.proofs.ScanRefusals.{AreTablesAmong, all_among, any_both}

abbrev here : ScanSource → Option Rows
here s = bringing.rows_here s.iterator

some_weaker : (P Q : Rows → Type 0) → ((rows : Rows) → P rows → Q rows) → (o : Option Rows) → IsSomeAnd o P → IsSomeAnd o Q
some_weaker P Q f None h = absurd h
some_weaker P Q f (Some rows) h = f rows h

-- ---- what holds of rows, and so of those behind the first

module _ (P : Rows → Type 0) (tails : (r : RowEntry) (rows : Rows) → P (r ∷ rows) → P rows) where
  same_by : (o p : Option Rows) → IfSome o (λ x. IsSomeAnd p (λ y. y ≡ x)) → IsSomeAnd o P → IsSomeAnd p P
  same_by None p t h = absurd h
  same_by (Some xs) None t h = absurd t
  same_by (Some xs) (Some ys) t h = subst P (sym t) h

  taken_by : (o p : Option Rows) (answer : Option RowEntry) → IfSome o (λ x. IsSomeAnd p (λ y. TakesRow x answer y)) → IsSomeAnd o P → IsSomeAnd p P
  taken_by None p answer t h = absurd h
  taken_by (Some xs) None answer t h = absurd t
  taken_by (Some xs) (Some ys) None t h = subst P (t.0 ∙ sym t.1) h
  taken_by (Some xs) (Some ys) (Some r) t h = tails r ys (subst P t h)

  first_by : (o p : Option Rows) (r : RowEntry) → IfSome o (λ x. IsSomeAnd p (λ y. TakesRow x (Some r) y)) → IsSomeAnd o P → IsSomeAnd p (λ ys. P (r ∷ ys))
  first_by None p r t h = absurd h
  first_by (Some xs) None r t h = absurd t
  first_by (Some xs) (Some ys) r t h = subst P t h

  dropped : (order : IterationOrder) (key : List ℕ) (rows : Rows) → P rows → P (drop_before order key rows)
  dropped order key [] h = h
  dropped order key (r ∷ rows) h = elim (both (comes_before order r.key key)) as (λ _. P (drop_before order key (r ∷ rows))) [
    | inl e ↦ rw e (dropped order key rows (tails r rows h))
    | inr e ↦ rw e h
  ]

  sought_by : (o p : Option Rows) (key : List ℕ) → IfSome o (λ x. IsSomeAnd p (λ y. (order : IterationOrder) × (y ≡ drop_before order key x))) → IsSomeAnd o P → IsSomeAnd p P
  sought_by None p key t h = absurd h
  sought_by (Some xs) None key t h = absurd t
  sought_by (Some xs) (Some ys) key (order, is) h = subst P (sym is) (dropped order key xs h)

  module _ (m : Meaning) where
    skips_keep : (keep : RowEntry → Bool) (x y : ReadSource) (calls : List (List Act × RowEntry)) → Skips (λ u rs a v. bringing.source_takes u m rs a v) keep x calls y → IsSomeAnd (bringing.rows_here x) P → IsSomeAnd (bringing.rows_here y) P
    skips_keep keep x y [] s h = subst (λ (z : ReadSource). IsSomeAnd (bringing.rows_here z) P) s h
    skips_keep keep x y (call ∷ calls) s h = skips_keep keep s.0 y calls s.3 (taken_by (bringing.rows_here x) (bringing.rows_here s.0) (Some call.1) s.1.1 h)

    once_keeps : (x y : ScanSource) (by : List Act) → CallsOnce source_begins source_takes source_seeks m x by y → IsSomeAnd (here x) P → IsSomeAnd (here y) P
    once_keeps x y by (inl b) h = same_by (here x) (here y) b.0.1 h
    once_keeps x y by (inr (inl (answer, t))) h = taken_by (bringing.rows_here t.0.2) (here y) answer t.0.5.1 (skips_keep (upto_seq x.predicate.max_seq) x.iterator t.0.2 t.0.0 t.0.4 h)
    once_keeps x y by (inr (inr (key, s))) h = sought_by (here x) (here y) key s.0.1 h

    calls_keep : (reads : List Act) (x y : ScanSource) (each : List (List Act)) → AreCalls source_begins source_takes source_seeks m reads x each y → IsSomeAnd (here x) P → IsSomeAnd (here y) P
    calls_keep reads x y [] same h = subst (λ (z : ScanSource). IsSomeAnd (here z) P) same h
    calls_keep reads x y (by ∷ each) (among, (next, call, rest)) h = calls_keep reads next y each rest (once_keeps x next by call h)

    begins_keep : (reads : List Act) (x y : ScanSource) (each : List (List Act)) → AreBegins source_begins source_takes m reads x each y → IsSomeAnd (here x) P → IsSomeAnd (here y) P
    begins_keep reads x y [] same h = subst (λ (z : ScanSource). IsSomeAnd (here z) P) same h
    begins_keep reads x y (by ∷ each) (among, (next, b, rest)) h = begins_keep reads next y each rest (same_by (here x) (here next) b.0.1 h)

    first_holds : (x y : ScanSource) (by : List Act) (r : RowEntry) → source_takes x m by (Some r) y → IsSomeAnd (here x) P → IsSomeAnd (here y) (λ ys. P (r ∷ ys))
    first_holds x y by r t h = first_by (bringing.rows_here t.0.2) (here y) r t.0.5.1 (skips_keep (upto_seq x.predicate.max_seq) x.iterator t.0.2 t.0.0 t.0.4 h)

-- ---- rows in turn

module _ (m : Meaning) (range : BytesRange) (order : IterationOrder) (reads : List Act) (r : RowEntry) where
  abbrev InTurn : Rows → Type 0
  InTurn rows = AreInTurn (row_before order) rows

  abbrev Below : RowEntry → Rows → Type 0
  Below q rows = NoneEarlier (row_before order) q rows

  abbrev SourceRises : ScanSource → Type 0
  SourceRises s = RisesByCalls source_begins source_takes source_seeks s m reads r

  never_rises : {Q : Type 0} (x : ScanSource) → IsSomeAnd (here x) InTurn → SourceRises x → Q
  never_rises {Q} x turn c = by (here c.rises.after) (first_holds (Below c.row) (λ q rows h. h.1) m c.rises.last c.rises.after c.rises.by r c.rises.taken still)
    where
      behind : IsSomeAnd (here c.after) (λ ys. InTurn (c.row ∷ ys))
      behind = first_holds InTurn (λ q rows h. h.1) m c.last c.after c.by c.row c.taken (calls_keep InTurn (λ q rows h. h.1) m reads x c.last c.each c.calls turn)

      still : IsSomeAnd (here c.rises.last) (Below c.row)
      still = begins_keep (Below c.row) (λ q rows h. h.1) m reads c.after c.rises.last c.rises.each c.rises.begun (some_weaker (λ ys. InTurn (c.row ∷ ys)) (Below c.row) (λ ys h. h.0) (here c.after) behind)

      by : (o : Option Rows) → IsSomeAnd o (λ ys. Below c.row (r ∷ ys)) → Q
      by None h = absurd h
      by (Some ys) h = not_above order c.row r h.0 c.rises.above

  turn_here : (means : Rows → Type 0) (x : ReadSource) → IsInMemory order means x → IsSomeAnd (bringing.rows_here x) InTurn
  turn_here means (Batch it) h = h.turn
  turn_here means (Memory it) h = h.turn
  turn_here means (Empty it) h = absurd h
  turn_here means (Internal it) h = absurd h
  turn_here means (Table it) h = absurd h
  turn_here means (Run it) h = absurd h
  turn_here means (Segments it) h = absurd h

  no_layer : {Q : Type 0} (n : ℕ) (layers : List Rows) (sources : List ScanSource) → AreEach (IsMemorySource range order n) layers sources → SourcesRise sources m reads r → Q
  no_layer n [] [] h k = absurd k
  no_layer n (layer ∷ layers) (s ∷ sources) h (inl k) = never_rises s (turn_here _ s.iterator h.0.1) k
  no_layer n (layer ∷ layers) (s ∷ sources) h (inr k) = no_layer n layers sources h.1 k
  no_layer n [] (s ∷ sources) h k = absurd h
  no_layer n (layer ∷ layers) [] h k = absurd h

  pub sources_risen : (n : ℕ) (ops : Ops) (layers : List Rows) (runs : List SortedRun) (sources : List ScanSource) → AreScanSources range order n ops layers (reverse runs) sources → SourcesRise sources m reads r → IsReadAmong m (handles_of runs) reads r
  sources_risen n ops layers runs sources are some = by (subst (λ (l : List ScanSource). SourcesRise l m reads r) are.are some)
    where
      later : SourcesRise are.in_memory m reads r ⊎ SourcesRise are.in_runs m reads r → IsReadAmong m (handles_of runs) reads r
      later (inl k) = no_layer n layers are.in_memory are.of_memory k
      later (inr k) =
          some_run m range order reads r n (handles_of runs) (reverse runs) are.in_runs (AllByRecursion_reverse (AreTablesAmong (handles_of runs)) runs (all_among runs)) are.of_runs
          (any_weaker _ _ (λ s c. by_source m s reads r (rises_come source_begins source_takes source_seeks m s reads r c)) are.in_runs k)

      by : SourcesRise (are.own ∷ (are.in_memory ++ are.in_runs)) m reads r → IsReadAmong m (handles_of runs) reads r
      by (inl k) = never_rises are.own (turn_here _ are.own.iterator are.of_own.1) k
      by (inr k) = later (any_both SourceRises are.in_memory are.in_runs k)

-- ---- a merge that wasn't begun

waiting_heaped : (order : IterationOrder) (sources : List ScanSource) (s : MergeState ScanSource) → WaitingAre sources s → IsHeapedIn order s
waiting_heaped order sources (merge.New waiting) is = tt
waiting_heaped order sources (merge.Begun heads) is = absurd is
waiting_heaped order sources (merge.Refused e) is = tt

waiting_rise : (sources : List ScanSource) (s : MergeState ScanSource) → WaitingAre sources s → (m : Meaning) (reads : List Act) (r : RowEntry) → state_offers (offers source_begins source_takes source_seeks) s m reads (Rises r) → SourcesRise sources m reads r
waiting_rise sources (merge.New waiting) is m reads r (inl some) = subst (λ (l : List ScanSource). SourcesRise l m reads r) is some
waiting_rise sources (merge.New waiting) is m reads r (inr none) = absurd none
waiting_rise sources (merge.Begun heads) is m reads r k = absurd is
waiting_rise sources (merge.Refused e) is m reads r k = absurd is

pub merge_risen : (sources : List ScanSource) (it : MergedSources) → WaitingAre sources it.state → (m : Meaning) (reads : List Act) (r : RowEntry) → RisesByCalls merge_begins merge_takes merge_seeks it m reads r → SourcesRise sources m reads r
merge_risen sources it is m reads r c =
    waiting_rise sources it.state is m reads r (merge_rises source_begins source_takes source_seeks m it reads r c (waiting_heaped it.order sources it.state is))
