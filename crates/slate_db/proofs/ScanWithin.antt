-- What a scan reads of tables: nothing but their filters, of those that these don't let in.
use Rattle.std.proofs.Common.{◌⊎◌, inl, inr, ℕ, suc, List, [], ◌∷◌, ◌++◌, map, reverse, filter, Option, refl, sym, subst, arith}
use Rattle.std.specs.Prelude.{Contains}
use Rattle.std.specs.List.{AllByRecursion}
use Rattle.slate_types.specs.declared.bytes_range.BytesRange.{BytesRange}
use Rattle.slate_types.specs.declared.filter_policy.FilterQuery.{FilterQuery}
use Rattle.slate_types.specs.declared.iter.IterationOrder.{IterationOrder}
use Rattle.slate_types.specs.declared.iter.IterationOrder.TheVariants.{Ascending, Descending}
use Rattle.slate_types.specs.Iteration.{in_order}
use Rattle.slate_types.specs.Outside.{Act, Meaning, Reach}
use Rattle.slate_types.specs.World.{IsReadAt, Made, ReadsAt}
use Rattle.slate_types.proofs.Calls.{call_both, call_none}
use Rattle.slate_types.proofs.Lists.{AllByRecursion_append, AllByRecursion_behind, AllByRecursion_filter, AllByRecursion_front, AllByRecursion_reverse, AllByRecursion_weaken}
use Rattle.slate_filter.specs.Policy.{Policy}
use Rattle.slate_mem.specs.Batch.{Ops}
use Rattle.slate_merge.specs.declared.filter_iterator.FilterIterator.{FilterIterator}
use Rattle.slate_merge.specs.declared.merge_iterator.MergeState.{MergeState}
use Rattle.slate_merge.specs.declared.merge_iterator.MergeState.TheVariants.{Begun, New, Refused}
use Rattle.slate_merge.specs.declared.newest_first.NewestFirst.{NewestFirst}
use Rattle.slate_merge.specs.MergeStates.{IsWithinIn, WaitingAre}
use Rattle.slate_read.specs.declared.range_rows.InRange.{InRange}
use Rattle.slate_read.specs.declared.read_source.ReadSource.{ReadSource}
use Rattle.slate_read.specs.declared.read_source.ReadSource.TheVariants.{Empty, Internal, Table, Run, Segments, Batch, Memory}
use Rattle.slate_read.specs.declared.run_state.RunWalk.{RunWalk}
use Rattle.slate_read.specs.declared.run_state.OpenTable.{OpenTable}
use Rattle.slate_read.specs.declared.sorted_run.SortedRun.{SortedRun}
use Rattle.slate_read.specs.ReadSources.{IsSourceWithin}
use Rattle.slate_read.specs.RunIterators.{IsRunIterator, reached}
use Rattle.slate_read.specs.RunWalk.{IsOpenWithin, IsRunWithin, can_reach}
use Rattle.slate_read.specs.TableWalk.{path_in}
use Rattle.slate_table.specs.declared.info.SsTableHandle.{SsTableHandle}
use Rattle.slate_db.specs.Installs.{handles_of}
use Rattle.slate_db.specs.Model.{CoreModel, Rows}
use Rattle.slate_db.specs.OpenScans.{AreEach, AreScanSources, IsInMemory, IsMemorySource, IsOverRun, IsRunSource}
use Rattle.slate_db.specs.ScanFilters.{IsAskingRead, RunsAreLeft}
use Rattle.slate_db.specs.Scans.{IsOpeningRead, OpensWithin, ScanSource}
use Rattle.slate_db.specs.Whole.{IsWhole, Unseen}
use Rattle.slate_db.proofs.Runs.{all_handles}
use Rattle.slate_db.proofs.ScanFilters.{among_none, let_in_before, let_in_none}

-- ---- the tables of runs

abbrev IsAt : List (List ℕ) → SsTableHandle → Type 0
IsAt paths h = Contains paths (path_in h)

each_at : (hs : List SsTableHandle) → AllByRecursion (IsAt (map path_in hs)) hs
each_at [] = tt
each_at (h ∷ hs) = (
  (0, omega arith, refl),
  AllByRecursion_weaken (IsAt (map path_in hs)) (IsAt (map path_in (h ∷ hs))) (λ t k. (suc k.0, (let lt = k.1 in omega (arith, lt)), k.2)) hs (each_at hs),
)

abbrev AreAt : List (List ℕ) → SortedRun → Type 0
AreAt paths run = AllByRecursion (IsAt paths) run.tables.items

runs_at : (paths : List (List ℕ)) (runs : List SortedRun) → AllByRecursion (IsAt paths) (handles_of runs) → AllByRecursion (AreAt paths) runs
runs_at paths [] h = tt
runs_at paths (run ∷ runs) h = (AllByRecursion_front (IsAt paths) run.tables.items (handles_of runs) h, runs_at paths runs (AllByRecursion_behind (IsAt paths) run.tables.items (handles_of runs) h))

-- ---- the sources over them

all_in_order : (P : SsTableHandle → Type 0) (order : IterationOrder) (hs : List SsTableHandle) → AllByRecursion P hs → AllByRecursion P (in_order order hs)
all_in_order P Ascending hs h = h
all_in_order P Descending hs h = AllByRecursion_reverse P hs h

run_within : (range : BytesRange) (run : SortedRun) (order : IterationOrder) (it : NewestFirst (FilterIterator RunWalk InRange)) (paths : List (List ℕ)) → IsRunIterator range run order it → AreAt paths run → IsRunWithin it.iterator.iterator paths
run_within range run order it paths is at = (
  subst (λ (o : Option OpenTable). IsOpenWithin o paths) (sym is.closed) tt,
  subst (AllByRecursion (IsAt paths)) (sym is.opens) (all_in_order (IsAt paths) order (filter (λ h. can_reach range h.info) run.tables.items) (AllByRecursion_filter (IsAt paths) (λ h. can_reach range h.info) run.tables.items at)),
)

over_run_within : (range : BytesRange) (order : IterationOrder) (run : SortedRun) (x : ReadSource) (paths : List (List ℕ)) → IsOverRun range order run x → AreAt paths run → IsSourceWithin x paths
over_run_within range order run (Run it) paths is at = run_within range run order it.rows paths is at
over_run_within range order run (Empty it) paths is at = absurd is
over_run_within range order run (Internal it) paths is at = absurd is
over_run_within range order run (Table it) paths is at = absurd is
over_run_within range order run (Segments it) paths is at = absurd is
over_run_within range order run (Batch it) paths is at = absurd is
over_run_within range order run (Memory it) paths is at = absurd is

in_memory_within : (order : IterationOrder) (means : Rows → Type 0) (x : ReadSource) (paths : List (List ℕ)) → IsInMemory order means x → IsSourceWithin x paths
in_memory_within order means (Batch it) paths is = tt
in_memory_within order means (Memory it) paths is = tt
in_memory_within order means (Empty it) paths is = absurd is
in_memory_within order means (Internal it) paths is = absurd is
in_memory_within order means (Table it) paths is = absurd is
in_memory_within order means (Run it) paths is = absurd is
in_memory_within order means (Segments it) paths is = absurd is

abbrev pub AreSourcesWithin : List (List ℕ) → List ScanSource → Type 0
AreSourcesWithin paths sources = AllByRecursion (λ s. IsSourceWithin s.iterator paths) sources

memory_within : (range : BytesRange) (order : IterationOrder) (n : ℕ) (layers : List Rows) (sources : List ScanSource) (paths : List (List ℕ)) → AreEach (IsMemorySource range order n) layers sources → AreSourcesWithin paths sources
memory_within range order n [] [] paths h = tt
memory_within range order n (rows ∷ layers) (s ∷ sources) paths h = (in_memory_within order _ s.iterator paths h.0.1, memory_within range order n layers sources paths h.1)
memory_within range order n [] (s ∷ sources) paths h = absurd h
memory_within range order n (rows ∷ layers) [] paths h = absurd h

runs_within : (range : BytesRange) (order : IterationOrder) (n : ℕ) (runs : List SortedRun) (sources : List ScanSource) (paths : List (List ℕ)) → AllByRecursion (AreAt paths) runs → AreEach (IsRunSource range order n) runs sources → AreSourcesWithin paths sources
runs_within range order n [] [] paths at h = tt
runs_within range order n (run ∷ runs) (s ∷ sources) paths at h = (over_run_within range order run s.iterator paths h.0.1 at.0, runs_within range order n runs sources paths at.1 h.1)
runs_within range order n [] (s ∷ sources) paths at h = absurd h
runs_within range order n (run ∷ runs) [] paths at h = absurd h

-- left: the runs, the oldest first
pub sources_within : (range : BytesRange) (order : IterationOrder) (n : ℕ) (ops : Ops) (layers : List Rows) (left : List SortedRun) (sources : List ScanSource) → AreScanSources range order n ops layers (reverse left) sources → AreSourcesWithin (map path_in (handles_of left)) sources
sources_within range order n ops layers left sources are =
    let paths = map path_in (handles_of left) in
    subst (AreSourcesWithin paths) (sym are.are) (
      in_memory_within order _ are.own.iterator paths are.of_own.1,
      AllByRecursion_append (λ (s : ScanSource). IsSourceWithin s.iterator paths) are.in_memory are.in_runs (memory_within range order n layers are.in_memory paths are.of_memory)
          (runs_within range order n (reverse left) are.in_runs paths (AllByRecursion_reverse (AreAt paths) left (runs_at paths left (each_at (handles_of left)))) are.of_runs),
    )

-- and the merge of them
pub waiting_within : {S : Type 0} (within : S → List (List ℕ) → Type 0) (sources : List S) (s : MergeState S) (paths : List (List ℕ)) → WaitingAre sources s → AllByRecursion (λ x. within x paths) sources → IsWithinIn within s paths
waiting_within {S = S} within sources (New waiting) paths is h = (subst (AllByRecursion (λ (x : S). within x paths)) (sym is) h, tt)
waiting_within within sources (Begun heads) paths is h = absurd is
waiting_within within sources (Refused k) paths is h = absurd is

-- ---- an opening

-- asked alone
pub asking_within : (policies : List Policy) (query : Option FilterQuery) (before after : Reach) (c : CoreModel) (x : Unseen) (means : List SsTableHandle → Type 0) → IsWhole c x → Made before after (AllByRecursion (IsAskingRead (handles_of x.runs))) → means [] →
    Made before after (λ reads. OpensWithin policies query before.meaning c reads means)
asking_within policies query before after c x means w (reads, call, each) none = (
  reads,
  call,
  record {
    left = [];
    tables = record { handles = handles_of x.runs; are = all_handles c.events x.runs w.tied.runs; among = among_none (handles_of x.runs) [] refl; asked = let_in_none before.meaning.decode policies query [] reads refl };
    each = AllByRecursion_weaken (IsAskingRead (handles_of x.runs)) (IsOpeningRead (handles_of x.runs) []) (λ act k. inl k) reads each;
    meant = none;
  },
)

-- nothing was read
pub none_within : (policies : List Policy) (query : Option FilterQuery) (a : Reach) (c : CoreModel) (x : Unseen) (means : List SsTableHandle → Type 0) → IsWhole c x → means [] → Made a a (λ reads. OpensWithin policies query a.meaning c reads means)
none_within policies query a c x means w none = asking_within policies query a a c x means w ([], call_none a, tt) none

-- asked to the middle, and read of the tables that were left from there on
pub left_within : (policies : List Policy) (query : Option FilterQuery) (before middle after : Reach) (c : CoreModel) (x : Unseen) (range : BytesRange) (left : List SortedRun) (means : List SsTableHandle → Type 0) → IsWhole c x → RunsAreLeft policies query before middle range x.runs left →
    ReadsAt (map path_in (handles_of left)) middle after → means (handles_of left) → Made before after (λ reads. OpensWithin policies query before.meaning c reads means)
left_within policies query before middle after c x range left means w lefts (reads, call, each) them =
    let asked = lefts.let_in in
    let all = handles_of x.runs in
    let some = handles_of left in (
      asked.0 ++ reads,
      call_both before middle after asked.0 reads asked.1 call,
      record {
        left = some;
        tables = record { handles = all; are = all_handles c.events x.runs w.tied.runs; among = lefts.among; asked = let_in_before before.meaning.decode policies query some asked.0 reads asked.2.1 };
        each = AllByRecursion_append (IsOpeningRead all some) asked.0 reads (AllByRecursion_weaken (IsAskingRead all) (IsOpeningRead all some) (λ act k. inl k) asked.0 asked.2.0)
            (AllByRecursion_weaken (IsReadAt (map path_in some)) (IsOpeningRead all some) (λ act k. inr k) reads each);
        meant = them;
      },
    )

-- of which less is told
pub within_as : (policies : List Policy) (query : Option FilterQuery) (before after : Reach) (m : Meaning) (c : CoreModel) (means tells : List SsTableHandle → Type 0) → ((left : List SsTableHandle) → means left → tells left) →
    Made before after (λ reads. OpensWithin policies query m c reads means) → Made before after (λ reads. OpensWithin policies query m c reads tells)
within_as policies query before after m c means tells less (reads, call, o) = (reads, call, record { left = o.left; tables = o.tables; each = o.each; meant = less o.left o.meant })
