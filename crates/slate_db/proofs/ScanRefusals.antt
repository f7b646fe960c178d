-- What the sources of a scan refuse for, from its opening on.
use Rattle.std.proofs.Common.{◌≡◌, ◌≢◌, ◌⊎◌, inl, inr, ℕ, Bool, true, false, not, List, [], ◌∷◌, ◌++◌, reverse, Option, Some, None, refl, sym, ap, subst, ◌∙◌}
use Rattle.std.specs.Prelude.{Contains, IfErr, IfOk, Result, Ok, Err}
use Rattle.std.specs.List.{AllByRecursion}
use Rattle.std.proofs.lemmas.List.Elements.{Contains-append_left, Contains-append_right}
use Rattle.slate_types.specs.declared.bytes_range.BytesRange.{BytesRange}
use Rattle.slate_types.specs.declared.error.SlateDBError.{SlateDBError}
use Rattle.slate_types.specs.declared.error.SlateDBError.TheVariants.{IteratorNotInitialized, MergeOperatorMissing}
use Rattle.slate_types.specs.declared.iter.IterationOrder.{IterationOrder}
use Rattle.slate_types.specs.Keys.{is_past_start}
use Rattle.slate_types.specs.Outside.{Act, IsFault, Meaning, Reach}
use Rattle.slate_types.specs.Refusing.{IsDamage}
use Rattle.slate_types.specs.World.{AnswersWorld, Made, Sees, World}
use Rattle.slate_types.proofs.Calls.{seen}
use Rattle.slate_mem.specs.Batch.{Ops}
use Rattle.slate_merge.specs.declared.filter_iterator.FilterIterator.{FilterIterator}
use Rattle.slate_merge.specs.Merging.{AnyByRecursion, CanMerge, either_refusal}
use Rattle.slate_merge.specs.NewestFirst.{RefusesSeek}
use Rattle.slate_read.specs.declared.read_source.ReadSource.{ReadSource}
use Rattle.slate_read.specs.declared.read_source.ReadSource.TheVariants.{Empty, Internal, Table, Run, Segments, Batch, Memory}
use Rattle.slate_read.specs.declared.sorted_run.SortedRun.{SortedRun}
use Rattle.slate_read.specs.ReadSources as read
use Rattle.slate_read.proofs.Shows.{runs_show}
use Rattle.slate_table.specs.declared.info.SsTableHandle.{SsTableHandle}
use Rattle.slate_db.specs.Installs.{handles_of}
use Rattle.slate_db.specs.Model.{CoreModel, Rows}
use Rattle.slate_db.specs.OpenScans.{AreEach, AreScanSources, CanOpen, IsBlamedFor, IsInMemory, IsMemorySource, IsOverRun, IsRunSource}
use Rattle.slate_db.specs.Scans.{IsReached, ScanSource, ShowsAmong, source_refuses}
use Rattle.slate_db.specs.Whole.{IsWhole, Unseen}
use Rattle.slate_types.proofs.Lists.{AllByRecursion_weaken, AllByRecursion_reverse}

-- damage, shown of some of these tables
abbrev pub IsShown : Meaning → List SsTableHandle → List Act → SlateDBError → Type 0
IsShown m hs reads e = IsDamage e × ShowsAmong m.decode hs reads e

abbrev pub AreTablesAmong : List SsTableHandle → SortedRun → Type 0
AreTablesAmong hs run = (h : SsTableHandle) → Contains run.tables.items h → Contains hs h

pub all_among : (runs : List SortedRun) → AllByRecursion (AreTablesAmong (handles_of runs)) runs
all_among [] = tt
all_among (run ∷ runs) = (
  λ h there. Contains-append_left run.tables.items (handles_of runs) h there,
  AllByRecursion_weaken (AreTablesAmong (handles_of runs)) (AreTablesAmong (handles_of (run ∷ runs))) (λ r f h there. Contains-append_right run.tables.items (handles_of runs) h (f h there)) runs (all_among runs),
)

reached : (range : BytesRange) (at : Option (List ℕ)) (e : SlateDBError) {A : Type 0} → IsReached range at → RefusesSeek range at e → A
reached range None e h r = absurd r
reached range (Some key) e h r = let no : not (is_past_start range.start key) ≡ false = ap not h in let yes : not (is_past_start range.start key) ≡ true = r.0 in cc

pub any_both : {Y : Type 0} (Q : Y → Type 0) (xs ys : List Y) → AnyByRecursion Q (xs ++ ys) → AnyByRecursion Q xs ⊎ AnyByRecursion Q ys
any_both Q [] ys h = inr h
any_both Q (x ∷ xs) ys (inl h) = inl (inl h)
any_both Q (x ∷ xs) ys (inr h) = elim (any_both Q xs ys h) [ inl k ↦ inl (inr k) | inr k ↦ inr k ]

module _ (m : Meaning) (range : BytesRange) (order : IterationOrder) (reads : List Act) (e : SlateDBError) (begun : e ≢ IteratorNotInitialized) (hs : List SsTableHandle) where
  abbrev Refuses : Option (List ℕ) → ScanSource → Type 0
  Refuses at s = either_refusal (λ t. source_refuses t m reads) at s e

  memory_silent : {A : Type 0} (means : Rows → Type 0) (x : ReadSource) (at : Option (List ℕ)) → IsInMemory order means x → read.source_refuses x m reads at e → A
  memory_silent means (Batch it) at h r = absurd r
  memory_silent means (Memory it) at h r = absurd r
  memory_silent means (Empty it) at h r = absurd h
  memory_silent means (Internal it) at h r = absurd h
  memory_silent means (Table it) at h r = absurd h
  memory_silent means (Run it) at h r = absurd h
  memory_silent means (Segments it) at h r = absurd h

  run_shows : (run : SortedRun) (x : ReadSource) (at : Option (List ℕ)) → AreTablesAmong hs run → IsReached range at → IsOverRun range order run x → read.source_refuses x m reads at e → IsShown m hs reads e
  run_shows run (Run it) at among open_at h r = by (runs_show range run order it.rows h m reads at e r)
    where
      by : (e ≡ IteratorNotInitialized) ⊎ RefusesSeek range at e ⊎ (IsDamage e × ShowsAmong m.decode run.tables.items reads e) → IsShown m hs reads e
      by (inl bad) = absurd (begun bad)
      by (inr (inl bad)) = reached range at e open_at bad
      by (inr (inr (damage, (table, there, shows)))) = (damage, (table, among table there, shows))
  run_shows run (Empty it) at among open_at h r = absurd h
  run_shows run (Internal it) at among open_at h r = absurd h
  run_shows run (Table it) at among open_at h r = absurd h
  run_shows run (Segments it) at among open_at h r = absurd h
  run_shows run (Batch it) at among open_at h r = absurd h
  run_shows run (Memory it) at among open_at h r = absurd h

  memory_none : {A : Type 0} (n : ℕ) (layers : List Rows) (sources : List ScanSource) (at : Option (List ℕ)) → AreEach (IsMemorySource range order n) layers sources → AnyByRecursion (Refuses at) sources → A
  memory_none n [] [] at h r = absurd r
  memory_none n (rows ∷ layers) (s ∷ sources) at h (inl (inl r)) = memory_silent _ s.iterator at h.0.1 r
  memory_none n (rows ∷ layers) (s ∷ sources) at h (inl (inr r)) = memory_silent _ s.iterator None h.0.1 r
  memory_none n (rows ∷ layers) (s ∷ sources) at h (inr r) = memory_none n layers sources at h.1 r
  memory_none n [] (s ∷ sources) at h r = absurd h
  memory_none n (rows ∷ layers) [] at h r = absurd h

  some_run : (n : ℕ) (runs : List SortedRun) (sources : List ScanSource) (at : Option (List ℕ)) → AllByRecursion (AreTablesAmong hs) runs → IsReached range at → AreEach (IsRunSource range order n) runs sources → AnyByRecursion (Refuses at) sources → IsShown m hs reads e
  some_run n [] [] at among open_at h r = absurd r
  some_run n (run ∷ runs) (s ∷ sources) at among open_at h (inl (inl r)) = run_shows run s.iterator at among.0 open_at h.0.1 r
  some_run n (run ∷ runs) (s ∷ sources) at among open_at h (inl (inr r)) = run_shows run s.iterator None among.0 tt h.0.1 r
  some_run n (run ∷ runs) (s ∷ sources) at among open_at h (inr r) = some_run n runs sources at among.1 open_at h.1 r
  some_run n [] (s ∷ sources) at among open_at h r = absurd h
  some_run n (run ∷ runs) [] at among open_at h r = absurd h

-- what a source is blamed for is damage of one of the tables of the runs
pub blamed_shows : (m : Meaning) (range : BytesRange) (order : IterationOrder) (n : ℕ) (ops : Ops) (layers : List Rows) (runs : List SortedRun) (sources : List ScanSource) → AreScanSources range order n ops layers (reverse runs) sources →
    (reads : List Act) (at : Option (List ℕ)) (e : SlateDBError) → IsReached range at → IsBlamedFor sources m reads at e → IsShown m (handles_of runs) reads e
blamed_shows m range order n ops layers runs sources are reads at e open_at (begun, inr none) = absurd none
blamed_shows m range order n ops layers runs sources are reads at e open_at (begun, inl some) = by (subst (AnyByRecursion (Refuses m range order reads e begun (handles_of runs) at)) are.are some)
  where
    later : AnyByRecursion (Refuses m range order reads e begun (handles_of runs) at) are.in_memory ⊎ AnyByRecursion (Refuses m range order reads e begun (handles_of runs) at) are.in_runs → IsShown m (handles_of runs) reads e
    later (inl r) = memory_none m range order reads e begun (handles_of runs) n layers are.in_memory at are.of_memory r
    later (inr r) = some_run m range order reads e begun (handles_of runs) n (reverse runs) are.in_runs at (AllByRecursion_reverse (AreTablesAmong (handles_of runs)) runs (all_among runs)) open_at are.of_runs r

    by : AnyByRecursion (Refuses m range order reads e begun (handles_of runs) at) (are.own ∷ (are.in_memory ++ are.in_runs)) → IsShown m (handles_of runs) reads e
    by (inl (inl r)) = memory_silent m range order reads e begun (handles_of runs) _ are.own.iterator at are.of_own.1 r
    by (inl (inr r)) = memory_silent m range order reads e begun (handles_of runs) _ are.own.iterator None are.of_own.1 r
    by (inr r) = later (any_both (Refuses m range order reads e begun (handles_of runs) at) are.in_memory are.in_runs r)
