-- How a scan is opened: what its sources bring, and in which world.
--     HasRows order means it      rows in memory, in turn, that mean this
--     IsOwnSource range order ops s      the rows of own operations
--     IsMemorySource range order n rows s      those of a memtable, up to a sequence
--     IsRunSource range order n run s      those of a run of tables, up to a sequence
--     AreEach R xs ys      two lists of one length, of which R is true place by place
--     AreScanSources range order n ops memory runs sources      the own rows, then the memtables, then the runs
--     LeftSources policies query before after range order n own active frozen runs made      the sources of a scan: the runs are those that were left to it
--     CanOpen w order s      a source is sound in a world, of the order, and its rows there stand in turn
--     merged_rows order w sources      the rows of all sources merged, in a world
--     folded_rows m order w sources      what they fold to, by what the parts mean
--     IsBlamedFor sources m reads at e      by the reads a source refuses for it, and not for want of an `init`
--     SourcesBring sources m reads r      by the reads a source may hand out the row
--     SourcesRise sources m reads r      by the reads a source may hand out the row next behind an operand of its key with a lesser sequence
--     FoldsRefuse sources m reads at e      a row that is brought is an operand, and there is no operator, or one rises; or a source refuses for it
use Rattle.std.specs.Prelude.{◌≡◌, ◌≢◌, ◌⊎◌, ℕ, true, List, [], ◌∷◌, ◌++◌, map, reverse, Option, Some, None}
use Rattle.slate_types.specs.declared.bytes_range.BytesRange.{BytesRange}
use Rattle.slate_types.specs.declared.error.SlateDBError.{SlateDBError}
use Rattle.slate_types.specs.declared.error.SlateDBError.TheVariants.{IteratorNotInitialized}
use Rattle.slate_types.specs.declared.filter_policy.FilterQuery.{FilterQuery}
use Rattle.slate_types.specs.declared.iter.IterationOrder.{IterationOrder}
use Rattle.slate_types.specs.declared.types.RowEntry.{RowEntry}
use Rattle.slate_types.specs.Fold.{operator_at}
use Rattle.slate_types.specs.Iteration.{IsInOrder, RowList}
use Rattle.slate_types.specs.Outside.{Act, Meaning, Reach}
use Rattle.slate_types.specs.RowTurns.{AreInTurn, row_before}
use Rattle.slate_types.specs.World.{World}
use Rattle.slate_filter.specs.Policy.{Policy}
use Rattle.slate_mem.specs.Batch.{Ops}
use Rattle.slate_merge.specs.Folding.{folded}
use Rattle.slate_merge.specs.Folds.{RefusesBrought}
use Rattle.slate_merge.specs.Merge.{merged}
use Rattle.slate_merge.specs.Offers.{RisesByCalls}
use Rattle.slate_merge.specs.Merging.{AnyByRecursion, CanMerge, blames, waiting_sources}
use Rattle.slate_read.specs.declared.read_source.ReadSource.{ReadSource}
use Rattle.slate_read.specs.declared.read_source.ReadSource.TheVariants.{Run, Batch, Memory}
use Rattle.slate_read.specs.declared.sorted_run.SortedRun.{SortedRun}
use Rattle.slate_read.specs.RunIterators.{IsRunIterator}
use Rattle.slate_read.specs.SourceBringing as bringing
use Rattle.slate_db.specs.Model.{Rows}
use Rattle.slate_db.specs.ScanFilters.{RunsAreLeft}
use Rattle.slate_db.specs.Scanned.{Brings, HasOwn}
use Rattle.slate_db.specs.Scans.{IsSoundSource, ScanSource, order_of, source_begins, source_refuses, source_rows, source_seeks, source_takes}

pub record HasRows (order : IterationOrder) (means : Rows → Type 0) (it : RowList) : Type 0 where
  pub rows : means it.rows
  pub in_order : IsInOrder order it.rows
  pub turn : AreInTurn (row_before order) it.rows
  pub same_order : it.order ≡ order

abbrev pub AreEach : {A B : Type 0} → (A → B → Type 0) → List A → List B → Type 0
AreEach R [] [] = Unit {0}
AreEach R (x ∷ xs) (y ∷ ys) = R x y × AreEach R xs ys
AreEach R [] (y ∷ ys) = ⊥
AreEach R (x ∷ xs) [] = ⊥

abbrev pub IsInMemory : IterationOrder → (Rows → Type 0) → ReadSource → Type 0
IsInMemory order means (Batch it) = HasRows order means it
IsInMemory order means (Memory it) = HasRows order means it
IsInMemory order means _ = ⊥

abbrev pub IsOverRun : BytesRange → IterationOrder → SortedRun → ReadSource → Type 0
IsOverRun range order run (Run it) = IsRunIterator range run order it.rows
IsOverRun range order run _ = ⊥

abbrev pub IsOwnSource : BytesRange → IterationOrder → Ops → ScanSource → Type 0
IsOwnSource range order ops s = (s.predicate.max_seq ≡ None) × IsInMemory order (HasOwn range ops) s.iterator

abbrev pub IsMemorySource : BytesRange → IterationOrder → ℕ → Rows → ScanSource → Type 0
IsMemorySource range order n rows s = (s.predicate.max_seq ≡ Some n) × IsInMemory order (Brings range rows) s.iterator

abbrev pub IsRunSource : BytesRange → IterationOrder → ℕ → SortedRun → ScanSource → Type 0
IsRunSource range order n run s = (s.predicate.max_seq ≡ Some n) × IsOverRun range order run s.iterator

-- memory, runs: the newest first
pub record AreScanSources (range : BytesRange) (order : IterationOrder) (n : ℕ) (ops : Ops) (memory : List Rows) (runs : List SortedRun) (sources : List ScanSource) : Type 0 where
  pub own : ScanSource
  pub in_memory : List ScanSource
  pub in_runs : List ScanSource
  pub are : sources ≡ own ∷ (in_memory ++ in_runs)
  pub of_own : IsOwnSource range order ops own
  pub of_memory : AreEach (IsMemorySource range order n) memory in_memory
  pub of_runs : AreEach (IsRunSource range order n) runs in_runs

pub record LeftSources (policies : List Policy) (query : Option FilterQuery) (before after : Reach) (range : BytesRange) (order : IterationOrder) (n : ℕ) (own : RowList) (active : Rows) (frozen : List Rows) (runs : List SortedRun) (made : List ScanSource) : Type 0 where
  pub left : List SortedRun
  pub asked : RunsAreLeft policies query before after range runs left
  pub are : (ops : Ops) → HasRows order (HasOwn range ops) own → AreScanSources range order n ops (active ∷ reverse frozen) (reverse left) made

abbrev pub CanOpen : World → IterationOrder → ScanSource → Type 0
CanOpen w order s = CanMerge (λ x. source_rows x w) (λ x. IsSoundSource x w × (order_of x ≡ order)) order s

abbrev pub merged_rows : IterationOrder → World → List ScanSource → Rows
merged_rows order w sources = merged order true (map (λ s. source_rows s w) sources)

abbrev pub folded_rows : Meaning → IterationOrder → World → List ScanSource → Rows
folded_rows m order w sources = folded (operator_at m.combine) true None (merged_rows order w sources)

abbrev pub IsBlamedFor : List ScanSource → Meaning → List Act → Option (List ℕ) → SlateDBError → Type 0
IsBlamedFor sources m reads at e = (e ≢ IteratorNotInitialized) × blames source_refuses (waiting_sources sources) m reads at e

abbrev pub SourcesBring : List ScanSource → Meaning → List Act → RowEntry → Type 0
SourcesBring sources m reads r = AnyByRecursion (λ s. bringing.brings_source s.iterator m reads r) sources

abbrev pub SourcesRise : List ScanSource → Meaning → List Act → RowEntry → Type 0
SourcesRise sources m reads r = AnyByRecursion (λ s. RisesByCalls source_begins source_takes source_seeks s m reads r) sources

abbrev pub FoldsRefuse : List ScanSource → Meaning → List Act → Option (List ℕ) → SlateDBError → Type 0
FoldsRefuse sources m reads at e = RefusesBrought (SourcesBring sources m reads) (SourcesRise sources m reads) m at e ⊎ IsBlamedFor sources m reads at e
