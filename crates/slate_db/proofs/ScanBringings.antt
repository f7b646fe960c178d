-- Rows that the sources of a scan may hand out, from its opening on.
use Rattle.std.proofs.Common.{◌≡◌, ◌⊎◌, inl, inr, ℕ, suc, zero, Bool, true, false, cond, List, [], ◌∷◌, ◌++◌, filter, flat_map, reverse, Option, Some, None, refl, sym, ap, subst, ◌∙◌, arith}
use Rattle.std.specs.Prelude.{Contains, bytes_eq, if◌then◌else◌}
use Rattle.std.specs.List.{AllByRecursion}
use Rattle.std.proofs.lemmas.List.{reverse-append}
use Rattle.std.proofs.lemmas.List.Elements.{All-contains, All-from_recursion, Contains-append_left, Contains-append_right}
use Rattle.slate_types.specs.declared.bytes_range.BytesRange.{BytesRange}
use Rattle.slate_types.specs.declared.iter.IterationOrder.{IterationOrder}
use Rattle.slate_types.specs.declared.types.RowEntry.{RowEntry}
use Rattle.slate_types.specs.Keys.{in_range}
use Rattle.slate_types.specs.Outside.{Act, Meaning}
use Rattle.slate_types.specs.Rows.{of_key}
use Rattle.slate_types.proofs.KeyOrder.{bytes_eq_same}
use Rattle.slate_mem.specs.Batch.{Ops}
use Rattle.slate_mem.specs.Lookup.{newest_first}
use Rattle.slate_mem.specs.Table.{ranged}
use Rattle.slate_merge.specs.declared.merge_iterator.MergeState.{MergeState}
use Rattle.slate_merge.specs.declared.merge_iterator.MergeState.TheVariants as merge
use Rattle.slate_merge.specs.NoMoreRows.{HandsOut, NoMoreRows}
use Rattle.slate_merge.specs.CallLaws.{brings_within}
use Rattle.slate_merge.specs.Calls.{BringsByCalls, CallsOnce}
use Rattle.slate_merge.specs.Filtering.{upto_seq}
use Rattle.slate_merge.specs.MergeBringing.{brings_merge, merge_brings as state_brings}
use Rattle.slate_merge.specs.MergeStateLaws.{any_weaker}
use Rattle.slate_merge.specs.MergeStates.{WaitingAre}
use Rattle.slate_merge.proofs.Calling.{calls_to}
use Rattle.slate_merge.proofs.MergeBringings.{merge_grows}
use Rattle.slate_merge.proofs.Tellings.{kept_tells, none_of}
use Rattle.slate_read.specs.declared.read_source.ReadSource.{ReadSource}
use Rattle.slate_read.specs.declared.read_source.ReadSource.TheVariants.{Empty, Internal, Table, Run, Segments, Batch, Memory}
use Rattle.slate_read.specs.declared.sorted_run.SortedRun.{SortedRun}
use Rattle.slate_read.specs.SourceBringing as bringing
use Rattle.slate_read.proofs.Bringings.{unread_grows}
use Rattle.slate_read.proofs.RunBringings.{unopened_runs_bring}
use Rattle.slate_read.proofs.Shows.{among_reached}
use Rattle.slate_read.proofs.SourceBringings.{source_grows}
use Rattle.slate_table.specs.declared.info.SsTableHandle.{SsTableHandle}
use Rattle.slate_db.specs.Installs.{handles_of}
use Rattle.slate_db.specs.Model.{CoreModel, Rows, memory}
use Rattle.slate_db.specs.OpenScans.{AreEach, AreScanSources, IsInMemory, IsMemorySource, IsOverRun, IsRunSource, SourcesBring}
use Rattle.slate_db.specs.Readable.{IsOwnRow}
use Rattle.slate_db.specs.Scanned.{Brings, HasOwn, own_rows}
use Rattle.slate_db.specs.Scans.{IsReadAmong, IsScanned, MergedSources, ScanSource, merge_begins, merge_brings, merge_seeks, merge_takes, source_begins, source_seeks, source_takes}
use Rattle.slate_db.proofs.ScanRefusals.{AreTablesAmong, all_among, any_both}
use Rattle.slate_types.proofs.Lists.{AllByRecursion_reverse}

-- ---- calls of a source

abbrev source_brings : Meaning → ScanSource → List Act → RowEntry → Type 0
source_brings m s reads r = bringing.brings_source s.iterator m reads r

source_handed : (m : Meaning) (x y : ScanSource) (by : List Act) (answer : Option RowEntry) → source_takes x m by answer y → HandsOut (source_brings m x) by answer (source_brings m y)
source_handed m x y by answer takes =
    kept_tells (λ (u : ReadSource) acts q. bringing.brings_source u m acts q) (λ u rs a v. bringing.source_takes u m rs a v) (λ u v rs a k. k.0) (upto_seq x.predicate.max_seq) x.iterator y.iterator by answer takes.0

source_less : (m : Meaning) (x y : ScanSource) (by : List Act) → CallsOnce source_begins source_takes source_seeks m x by y → NoMoreRows (source_brings m x) by (source_brings m y)
source_less m x y by (inl begins) = begins.0.0
source_less m x y by (inr (inl (answer, takes))) = (source_handed m x y by answer takes).1
source_less m x y by (inr (inr (key, seeks))) = seeks.0.0

pub by_source : (m : Meaning) (x : ScanSource) (reads : List Act) (r : RowEntry) → BringsByCalls source_begins source_takes source_seeks x m reads r → source_brings m x reads r
by_source m x reads r c =
    calls_to source_begins source_takes source_seeks m (source_brings m) (source_less m) (λ u v by q takes. (source_handed m u v by (Some q) takes).0) (λ u some all q k within. source_grows u.iterator m some all q k within) x reads r c

-- ---- and of a merge of them

abbrev merged_brings : Meaning → MergedSources → List Act → RowEntry → Type 0
merged_brings m it reads r = brings_merge source_begins source_takes source_seeks it m reads r

merged_less : (m : Meaning) (x y : MergedSources) (by : List Act) → CallsOnce merge_begins merge_takes merge_seeks m x by y → NoMoreRows (merged_brings m x) by (merged_brings m y)
merged_less m x y by (inl begins) = begins.4
merged_less m x y by (inr (inl (answer, takes))) = takes.1.1
merged_less m x y by (inr (inr (key, seeks))) = seeks.4

merged_taken : (m : Meaning) (x y : MergedSources) (by : List Act) (r : RowEntry) → merge_takes x m by (Some r) y → merged_brings m x by r
merged_taken m x y by r takes = takes.1.0

merged_grows : (m : Meaning) (x : MergedSources) (reads all : List Act) (r : RowEntry) → merged_brings m x reads r → ((a : Act) → Contains reads a → Contains all a) → merged_brings m x all r
merged_grows m x reads all r k within = merge_grows (BringsByCalls source_begins source_takes source_seeks) x.state m reads all r k (λ s c. brings_within source_begins source_takes source_seeks s m reads all r c within)

waiting_bring : (sources : List ScanSource) (s : MergeState ScanSource) → WaitingAre sources s → (m : Meaning) (reads : List Act) (r : RowEntry) → state_brings (BringsByCalls source_begins source_takes source_seeks) s m reads r → SourcesBring sources m reads r
waiting_bring sources (merge.New waiting) is m reads r (inl some) = subst (λ (l : List ScanSource). SourcesBring l m reads r) is (any_weaker _ _ (λ s c. by_source m s reads r c) waiting.items some)
waiting_bring sources (merge.New waiting) is m reads r (inr none) = absurd none
waiting_bring sources (merge.Begun heads) is m reads r k = absurd is
waiting_bring sources (merge.Refused e) is m reads r k = absurd is

-- what calls of a merge may hand out that wasn't begun, a source may
pub merge_sources : (sources : List ScanSource) (it : MergedSources) → WaitingAre sources it.state → (m : Meaning) (reads : List Act) (r : RowEntry) → merge_brings it m reads r → SourcesBring sources m reads r
merge_sources sources it is m reads r c =
    waiting_bring sources it.state is m reads r (calls_to merge_begins merge_takes merge_seeks m (merged_brings m) (merged_less m) (merged_taken m) (merged_grows m) it reads r c)

-- ---- rows of lists

behind_first : (x r : RowEntry) (rows : Rows) → Contains rows r → Contains (x ∷ rows) r
behind_first x r rows k = Contains-append_right (x ∷ []) rows r k

pub of_its_key : (rows : Rows) (r : RowEntry) → Contains rows r → Contains (of_key r.key rows) r
of_its_key [] r k = absurd (none_of r k)
of_its_key (x ∷ rows) r (zero, lt, is) = by (bytes_eq x.key r.key) (ap (λ (y : RowEntry). bytes_eq y.key r.key) is ∙ bytes_eq_same r.key)
  where
    by : (t : Bool) → t ≡ true → Contains (cond t (x ∷ of_key r.key rows) (of_key r.key rows)) r
    by true e = (0, omega arith, is)
    by false e = cc
of_its_key (x ∷ rows) r (suc i, lt, is) = by (bytes_eq x.key r.key) (of_its_key rows r (i, omega (arith, lt), is))
  where
    by : (t : Bool) → Contains (of_key r.key rows) r → Contains (cond t (x ∷ of_key r.key rows) (of_key r.key rows)) r
    by true k = behind_first x r (of_key r.key rows) k
    by false k = k

first_or : (x r : RowEntry) (rows more : Rows) → (Contains rows r → Contains more r) → Contains (x ∷ rows) r → Contains (x ∷ more) r
first_or x r rows more next (zero, lt, is) = (0, omega arith, is)
first_or x r rows more next (suc i, lt, is) = behind_first x r more (next (i, omega (arith, lt), is))

pub kept_among : (t : RowEntry → Bool) (rows : Rows) (r : RowEntry) → Contains (filter t rows) r → Contains rows r
kept_among t [] r k = k
kept_among t (x ∷ rows) r k = by (t x) (kept_among t rows r) k
  where
    by : (b : Bool) → (Contains (filter t rows) r → Contains rows r) → Contains (cond b (x ∷ filter t rows) (filter t rows)) r → Contains (x ∷ rows) r
    by true next h = first_or x r (filter t rows) rows next h
    by false next h = behind_first x r rows (next h)

-- ---- the sources of a scan

-- read: what reads show is read behind others
pub read_later : (m : Meaning) (hs : List SsTableHandle) (done reads : List Act) (r : RowEntry) → IsReadAmong m hs reads r → IsReadAmong m hs (done ++ reads) r
read_later m hs done reads r (h, there, (order, unread)) = (h, there, (order, unread_grows m h order reads (done ++ reads) r (λ a k. Contains-append_right done reads a k) unread))

pub scanned_later : (m : Meaning) (c : CoreModel) (hs : List SsTableHandle) (done reads : List Act) (r : RowEntry) → IsScanned m c hs reads r → IsScanned m c hs (done ++ reads) r
scanned_later m c hs done reads r (inl own) = inl own
scanned_later m c hs done reads r (inr (inl there)) = inr (inl there)
scanned_later m c hs done reads r (inr (inr read)) = inr (inr (read_later m hs done reads r read))

-- the layers in memory, the newest first
pub layers_turned : (c : CoreModel) → newest_first (memory c) ≡ flat_map (λ rows. rows) (c.active ∷ reverse c.frozen)
layers_turned c = ap (λ (l : List Rows). flat_map (λ rows. rows) l) (reverse-append c.frozen (c.active ∷ []))

module _ (m : Meaning) (range : BytesRange) (order : IterationOrder) (reads : List Act) (r : RowEntry) where
  in_memory : {Q : Type 0} (means : Rows → Type 0) (x : ReadSource) → ((rows : Rows) → means rows → Contains rows r → Q) → IsInMemory order means x → bringing.brings_source x m reads r → Q
  in_memory means (Batch it) f h k = f it.rows h.rows k
  in_memory means (Memory it) f h k = f it.rows h.rows k
  in_memory means (Empty it) f h k = absurd h
  in_memory means (Internal it) f h k = absurd h
  in_memory means (Table it) f h k = absurd h
  in_memory means (Run it) f h k = absurd h
  in_memory means (Segments it) f h k = absurd h

  own_there : (c : CoreModel) (ops : Ops) → ((k : List ℕ) → AllByRecursion (IsOwnRow c) (own_rows ops k)) → (rows : Rows) → HasOwn range ops rows → Contains rows r → IsOwnRow c r
  own_there c ops owns rows has k = by (in_range range r.key) (subst (λ (l : Rows). Contains l r) (has r.key) (of_its_key rows r k))
    where
      by : (t : Bool) → Contains (if t then own_rows ops r.key else []) r → IsOwnRow c r
      by true h = All-contains (IsOwnRow c) (own_rows ops r.key) r (All-from_recursion (IsOwnRow c) (own_rows ops r.key) (owns r.key)) h
      by false h = absurd (none_of r h)

  layer_there : (layer : Rows) (rows : Rows) → Brings range layer rows → Contains rows r → Contains layer r
  layer_there layer rows brings k =
      kept_among (λ x. in_range range x.key) layer r (kept_among (λ x. bytes_eq x.key r.key) (ranged range layer) r (subst (λ (l : Rows). Contains l r) (brings r.key) (of_its_key rows r k)))

  some_layer : (n : ℕ) (layers : List Rows) (sources : List ScanSource) → AreEach (IsMemorySource range order n) layers sources → SourcesBring sources m reads r → Contains (flat_map (λ rows. rows) layers) r
  some_layer n [] [] h k = absurd k
  some_layer n (layer ∷ layers) (s ∷ sources) h (inl k) = Contains-append_left layer (flat_map (λ rows. rows) layers) r (in_memory (Brings range layer) s.iterator (layer_there layer) h.0.1 k)
  some_layer n (layer ∷ layers) (s ∷ sources) h (inr k) = Contains-append_right layer (flat_map (λ rows. rows) layers) r (some_layer n layers sources h.1 k)
  some_layer n [] (s ∷ sources) h k = absurd h
  some_layer n (layer ∷ layers) [] h k = absurd h

  run_there : (hs : List SsTableHandle) (run : SortedRun) (x : ReadSource) → AreTablesAmong hs run → IsOverRun range order run x → bringing.brings_source x m reads r → IsReadAmong m hs reads r
  run_there hs run (Run it) among h k = let b = unopened_runs_bring range run order it.rows h m reads r k in (b.0, among b.0 (among_reached range order run.tables.items b.0 b.1), b.2)
  run_there hs run (Empty it) among h k = absurd h
  run_there hs run (Internal it) among h k = absurd h
  run_there hs run (Table it) among h k = absurd h
  run_there hs run (Segments it) among h k = absurd h
  run_there hs run (Batch it) among h k = absurd h
  run_there hs run (Memory it) among h k = absurd h

  pub some_run : (n : ℕ) (hs : List SsTableHandle) (runs : List SortedRun) (sources : List ScanSource) → AllByRecursion (AreTablesAmong hs) runs → AreEach (IsRunSource range order n) runs sources → SourcesBring sources m reads r → IsReadAmong m hs reads r
  some_run n hs [] [] among h k = absurd k
  some_run n hs (run ∷ runs) (s ∷ sources) among h (inl k) = run_there hs run s.iterator among.0 h.0.1 k
  some_run n hs (run ∷ runs) (s ∷ sources) among h (inr k) = some_run n hs runs sources among.1 h.1 k
  some_run n hs [] (s ∷ sources) among h k = absurd h
  some_run n hs (run ∷ runs) [] among h k = absurd h

  -- owns: the own operations are of an open transaction
  pub sources_scanned : (c : CoreModel) (n : ℕ) (ops : Ops) (layers : List Rows) (runs : List SortedRun) (sources : List ScanSource) → AreScanSources range order n ops layers (reverse runs) sources → ((k : List ℕ) → AllByRecursion (IsOwnRow c) (own_rows ops k)) →
      (Contains (flat_map (λ rows. rows) layers) r → Contains (newest_first (memory c)) r) → SourcesBring sources m reads r → IsScanned m c (handles_of runs) reads r
  sources_scanned c n ops layers runs sources are owns there some = by (subst (λ (l : List ScanSource). SourcesBring l m reads r) are.are some)
    where
      later : SourcesBring are.in_memory m reads r ⊎ SourcesBring are.in_runs m reads r → IsScanned m c (handles_of runs) reads r
      later (inl k) = inr (inl (there (some_layer n layers are.in_memory are.of_memory k)))
      later (inr k) = inr (inr (some_run n (handles_of runs) (reverse runs) are.in_runs (AllByRecursion_reverse (AreTablesAmong (handles_of runs)) runs (all_among runs)) are.of_runs k))

      by : SourcesBring (are.own ∷ (are.in_memory ++ are.in_runs)) m reads r → IsScanned m c (handles_of runs) reads r
      by (inl k) = inl (in_memory (HasOwn range ops) are.own.iterator (own_there c ops owns) are.of_own.1 k)
      by (inr k) = later (any_both (λ s. bringing.brings_source s.iterator m reads r) are.in_memory are.in_runs k)
