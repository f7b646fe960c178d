-- What the sources of a scan bring in the world of the tables that the journal names.
use Rattle.std.proofs.Common.{◌≡◌, ℕ, ◌+◌, ◌^◌, ◌≤◌, Bool, true, false, cond, List, [], ◌∷◌, ◌++◌, length, map, filter, flat_map, reverse, Some, None, refl, sym, ap, subst, ◌∙◌, arith}
use Rattle.std.specs.List.{AllByRecursion}
use Rattle.std.proofs.lemmas.List.{reverse-append}
use Rattle.slate_types.specs.declared.bytes_range.BytesRange.{BytesRange}
use Rattle.slate_types.specs.declared.iter.IterationOrder.{IterationOrder}
use Rattle.slate_types.specs.declared.types.RowEntry.{RowEntry}
use Rattle.slate_types.specs.declared.types.Ulid.{Ulid}
use Rattle.slate_types.specs.Fold.{operator_at}
use Rattle.slate_types.specs.Iteration.{IsInOrder}
use Rattle.slate_types.specs.Keys.{in_range}
use Rattle.slate_types.specs.Outside.{Objects}
use Rattle.slate_types.specs.RowTurns.{AreInTurn, row_before}
use Rattle.slate_types.specs.Rows.{is_base, of_key}
use Rattle.slate_types.specs.World.{World}
use Rattle.slate_mem.specs.declared.WriteOp.{WriteOp}
use Rattle.slate_mem.specs.declared.WriteOp.TheVariants as ops
use Rattle.slate_mem.specs.Batch.{Ops, kept, replaces}
use Rattle.slate_mem.specs.BatchModel.{holds_merge}
use Rattle.slate_mem.specs.RowOf.{own_row}
use Rattle.slate_mem.specs.Table.{ranged}
use Rattle.slate_merge.specs.Filtering.{upto_seq}
use Rattle.slate_merge.specs.Folding.{folded}
use Rattle.slate_merge.specs.Merge.{all_rows, merged}
use Rattle.slate_merge.proofs.Turns.{turn_filtered}
use Rattle.slate_read.specs.declared.read_source.ReadSource.{ReadSource}
use Rattle.slate_read.specs.declared.read_source.ReadSource.TheVariants.{Empty, Internal, Table, Run, Segments, Batch, Memory}
use Rattle.slate_read.specs.declared.sorted_run.SortedRun.{SortedRun}
use Rattle.slate_read.specs.ReadSources as read
use Rattle.slate_table.specs.Paths.{path_of}
use Rattle.slate_txn.specs.Reads.{rows_seen}
use Rattle.slate_db.specs.Installs.{AreRuns, Holds, root, runs_of, tables_of}
use Rattle.slate_db.specs.Log.{AreFine}
use Rattle.slate_db.specs.Meaning.{Meaning, IsLawfulMeaning, rules_of}
use Rattle.slate_db.specs.Model.{CoreModel, Rows, memory}
use Rattle.slate_db.specs.OpenScans.{AreEach, AreScanSources, CanOpen, IsInMemory, IsMemorySource, IsOverRun, IsRunSource, folded_rows, merged_rows}
use Rattle.slate_db.specs.RangeShares.{HasUpto}
use Rattle.slate_db.specs.ScanFilters.{AreRunsLeft}
use Rattle.slate_db.specs.Scanned.{AreStoredRuns, BringEach, Brings, HasOwn, in_one, left_of, own_rows}
use Rattle.slate_db.specs.Scans.{IsWorldOf, ScanSource, has_value, source_rows}
use Rattle.slate_db.specs.Sound.{AreBases, IsKept}
use Rattle.slate_db.specs.Whole.{IsWhole, Unseen}
use Rattle.slate_db.proofs.FlushRows.{AreFalling, falling}
use Rattle.slate_db.proofs.NoMerges.{memory_bases}
use Rattle.slate_db.proofs.Plain.{kept_replace}
use Rattle.slate_db.proofs.RangeRows.{AreWider, active_rises, are_wider}
use Rattle.slate_db.proofs.RunsOf.{tables_are}
use Rattle.slate_db.proofs.ScanFolds.{folded_keys}
use Rattle.slate_db.proofs.ScanLists.{Grouped, grouped, have_some, stored_runs}
use Rattle.slate_db.proofs.ScanRows.{all_brought, all_merged, all_of_keys, all_ranged}
use Rattle.slate_db.proofs.ScanSources.{core_scans}
use Rattle.slate_db.proofs.ScanTables.{IsRunHere, IsRunLeft, RunsLeft, runs_here, runs_left}
use Rattle.slate_db.proofs.ScanWorlds.{AreNew, all_found, held_paths, held_runs, is_world, map_both, paths_of, runs_new, world_of}
use Rattle.slate_db.proofs.SourceLists.{each_back}
use Rattle.slate_types.proofs.Lists.{AllByRecursion_append, AllByRecursion_front, AllByRecursion_behind, AllByRecursion_filter, AllByRecursion_reverse}

-- ---- rows

filter_all : (rows : Rows) → filter (upto_seq None) rows ≡ rows
filter_all [] = refl
filter_all (r ∷ rows) = ap (λ (l : Rows). r ∷ l) (filter_all rows)

-- ---- the own rows

own_base : (k : List ℕ) (op : WriteOp) → replaces op ≡ true → is_base (own_row k op) ≡ true
own_base k (ops.Put v o) h = refl
own_base k ops.Delete h = refl
own_base k (ops.Merge v o) h = cc

own_bases : (k : List ℕ) (xs : List WriteOp) → AllByRecursion (λ op. replaces op ≡ true) xs → AllByRecursion (λ r. is_base r ≡ true) (map (own_row k) xs)
own_bases k [] h = tt
own_bases k (x ∷ xs) h = (own_base k x h.0, own_bases k xs h.1)

own_keys : (range : BytesRange) (k : List ℕ) → in_range range k ≡ true → (xs : List WriteOp) → AllByRecursion (λ r. in_range range r.key ≡ true) (map (own_row k) xs)
own_keys range k within [] = tt
own_keys range k within (x ∷ xs) = (within, own_keys range k within xs)

module _ (range : BytesRange) (ops : Ops) (own : Rows) (has : HasOwn range ops own) where
  own_of_range : (P : RowEntry → Type 0) → ((k : List ℕ) → in_range range k ≡ true → AllByRecursion P (own_rows ops k)) → AllByRecursion P own
  own_of_range P h = all_of_keys P own (λ k. subst (AllByRecursion P) (sym (has k)) (by k (in_range range k) refl))
    where
      by : (k : List ℕ) (b : Bool) → in_range range k ≡ b → AllByRecursion P (cond b (own_rows ops k) [])
      by k true e = h k e
      by k false e = tt

  own_within : AllByRecursion (λ r. in_range range r.key ≡ true) own
  own_within = own_of_range (λ r. in_range range r.key ≡ true) (λ k within. own_keys range k within (reverse (kept ops k)))

  own_all_bases : holds_merge ops ≡ false → AllByRecursion (λ r. is_base r ≡ true) own
  own_all_bases plain = own_of_range (λ r. is_base r ≡ true) (λ k within. own_bases k (reverse (kept ops k)) (AllByRecursion_reverse (λ op. replaces op ≡ true) (kept ops k) (kept_replace ops k plain)))

-- what is true of all rows of the layers in the range
all_lists : (Q : RowEntry → Type 0) (range : BytesRange) (n : ℕ) (layers : List Rows) (lists : List Rows) → BringEach range layers lists → AllByRecursion (λ rows. AllByRecursion Q (ranged range rows)) layers → AllByRecursion (AllByRecursion Q) (map (filter (upto_seq (Some n))) lists)
all_lists Q range n [] [] h k = tt
all_lists Q range n (rows ∷ layers) (list ∷ lists) h k = (AllByRecursion_filter Q (upto_seq (Some n)) list (all_brought Q (ranged range rows) list h.0 k.0), all_lists Q range n layers lists h.1 k.1)
all_lists Q range n [] (list ∷ lists) h k = absurd h
all_lists Q range n (rows ∷ layers) [] h k = absurd h

module _ (w : World) (order : IterationOrder) where
  -- ---- one source

  record IsIn (means : Rows → Type 0) (x : ReadSource) : Type 0 where
    sound : read.IsSoundSource x w
    ordered : read.order_of x ≡ order
    turn : AreInTurn (row_before order) (read.rest_of x w)
    rows : means (read.rest_of x w)

  memory_in : (means : Rows → Type 0) (x : ReadSource) → IsInMemory order means x → IsIn means x
  memory_in means (Batch it) h = record { sound = subst (λ (o : IterationOrder). IsInOrder o it.rows) (sym h.same_order) h.in_order; ordered = h.same_order; turn = h.turn; rows = h.rows }
  memory_in means (Memory it) h = record { sound = subst (λ (o : IterationOrder). IsInOrder o it.rows) (sym h.same_order) h.in_order; ordered = h.same_order; turn = h.turn; rows = h.rows }
  memory_in means (Empty it) h = absurd h
  memory_in means (Internal it) h = absurd h
  memory_in means (Table it) h = absurd h
  memory_in means (Run it) h = absurd h
  memory_in means (Segments it) h = absurd h

  run_in : (range : BytesRange) (run : SortedRun) (layers : List Rows) (x : ReadSource) → IsOverRun range order run x → IsRunLeft w range run layers → IsIn (Brings range (all_rows layers)) x
  run_in range run layers (Run it) h here =
      let b = h.brings w here.kepts here.are in
      record {
        sound = b.sound;
        ordered = b.same_order;
        turn = subst (AreInTurn (row_before order)) (sym b.rest) b.turn;
        rows = subst (Brings range (all_rows layers)) (sym b.rest) (here.brings order);
      }
  run_in range run layers (Empty it) h here = absurd h
  run_in range run layers (Internal it) h here = absurd h
  run_in range run layers (Table it) h here = absurd h
  run_in range run layers (Segments it) h here = absurd h
  run_in range run layers (Batch it) h here = absurd h
  run_in range run layers (Memory it) h here = absurd h

  can_open : (means : Rows → Type 0) (s : ScanSource) → IsIn means s.iterator → CanOpen w order s
  can_open means s h = ((h.sound, h.ordered), turn_filtered (row_before order) (upto_seq s.predicate.max_seq) (read.rest_of s.iterator w) h.turn)

  -- ---- the sources of several layers

  abbrev rests : List ScanSource → List Rows
  rests sources = map (λ s. read.rest_of s.iterator w) sources

  record AreIn (range : BytesRange) (n : ℕ) (layers : List Rows) (sources : List ScanSource) : Type 0 where
    can : AllByRecursion (CanOpen w order) sources
    bring : BringEach range layers (rests sources)
    rows : map (λ s. source_rows s w) sources ≡ map (filter (upto_seq (Some n))) (rests sources)

  none_in : (range : BytesRange) (n : ℕ) → AreIn range n [] []
  none_in range n = record { can = tt; bring = tt; rows = refl }

  one_in : (range : BytesRange) (n : ℕ) (rows : Rows) (layers : List Rows) (s : ScanSource) (sources : List ScanSource) → s.predicate.max_seq ≡ Some n → IsIn (Brings range rows) s.iterator → AreIn range n layers sources →
      AreIn range n (rows ∷ layers) (s ∷ sources)
  one_in range n rows layers s sources upto h later = record {
    can = (can_open (Brings range rows) s h, later.can);
    bring = (h.rows, later.bring);
    rows = λ i. filter (upto_seq (upto i)) (read.rest_of s.iterator w) ∷ later.rows i;
  }

  memory_all : (range : BytesRange) (n : ℕ) (layers : List Rows) (sources : List ScanSource) → AreEach (IsMemorySource range order n) layers sources → AreIn range n layers sources
  memory_all range n [] [] h = none_in range n
  memory_all range n (rows ∷ layers) (s ∷ sources) h = one_in range n rows layers s sources h.0.0 (memory_in (Brings range rows) s.iterator h.0.1) (memory_all range n layers sources h.1)
  memory_all range n [] (s ∷ sources) h = absurd h
  memory_all range n (rows ∷ layers) [] h = absurd h

  runs_all : (range : BytesRange) (n : ℕ) (runs : List SortedRun) (groups : List (List Rows)) (sources : List ScanSource) → AreEach (IsRunSource range order n) runs sources → AreEach (IsRunLeft w range) runs groups → AreIn range n (in_one groups) sources
  runs_all range n [] [] [] h here = none_in range n
  runs_all range n (run ∷ runs) (layers ∷ groups) (s ∷ sources) h here =
      one_in range n (all_rows layers) (in_one groups) s sources h.0.0 (run_in range run layers s.iterator h.0.1 here.0) (runs_all range n runs groups sources h.1 here.1)
  runs_all range n [] groups (s ∷ sources) h here = absurd h
  runs_all range n (run ∷ runs) groups [] h here = absurd h
  runs_all range n [] (layers ∷ groups) [] h here = absurd here
  runs_all range n (run ∷ runs) [] (s ∷ sources) h here = absurd here

-- ---- all sources of a scan

all_flat : (Q : RowEntry → Type 0) (ls : List Rows) → AllByRecursion (AllByRecursion Q) ls → AllByRecursion Q (all_rows ls)
all_flat Q [] h = tt
all_flat Q (rows ∷ ls) h = AllByRecursion_append Q rows (all_rows ls) h.0 (all_flat Q ls h.1)

-- for a scan at a sequence, under own operations
pub record ScanOpens (os : Objects) (m : Meaning) (c : CoreModel) (n : ℕ) (ops : Ops) (range : BytesRange) (order : IterationOrder) (sources : List ScanSource) : Type 0 where
  pub world : World
  pub is : IsWorldOf os m world
  pub can : AllByRecursion (CanOpen world order) sources
  pub operable : m.combine ≡ None → AreBases (merged_rows order world sources)
  pub within : AllByRecursion (λ r. in_range range r.key ≡ true) (folded_rows m order world sources)
  pub left : filter has_value (folded_rows m order world sources) ≡ rows_seen (rules_of c.settings m) c.state.commits n ops order range

module _ (m : Meaning) (c : CoreModel) (x : Unseen) (w : IsWhole c x) (law : IsLawfulMeaning m) (kept_m : IsKept m c) where
  abbrev layers : List Rows
  layers = (kept_m.1 law).layers

  pub runs_of_core : Grouped m w.tied.runs.groups layers
  runs_of_core = grouped m (tables_of c.events) x.runs w.tied.runs layers (kept_m.1 law).tables

  pub stored : (os : Objects) → Holds os (tables_of c.events) → AreStoredRuns m os x.runs runs_of_core.groups
  stored os holds = stored_runs m law os w.tied.runs.groups x.runs runs_of_core.groups runs_of_core.tables w.tied.runs.each (subst (Holds os) (sym w.tied.runs.are) holds)

  runs_paths : (os : Objects) (runs : List (List (Ulid × List ℕ))) (kept : List SortedRun) (groups : List (List Rows)) (s : AreStoredRuns m os kept groups) → AreRuns runs kept → map (λ e. e.0) (held_runs m os kept groups s) ≡ paths_of (flat_map (λ ts. ts) runs)
  runs_paths os [] [] [] s are = refl
  runs_paths os (ts ∷ runs) (run ∷ kept) (ls ∷ groups) s are =
      map_both (λ e. e.0) _ (held_runs m os kept groups s.1)
      ∙ (λ i. held_paths m os ts run.tables.items ls s.0 are.0.handles i ++ runs_paths os runs kept groups s.1 are.1 i)
      ∙ sym (map_both (λ t. path_of root t.0.0) ts (flat_map (λ us. us) runs))
  runs_paths os runs [] (ls ∷ groups) s are = absurd s
  runs_paths os runs (run ∷ kept) [] s are = absurd s
  runs_paths os [] (run ∷ kept) groups s are = absurd are
  runs_paths os (ts ∷ runs) [] groups s are = absurd are

  abbrev world_at : (os : Objects) → Holds os (tables_of c.events) → World
  world_at os holds = world_of m (held_runs m os x.runs runs_of_core.groups (stored os holds))

  few : 1 + length (runs_of c.events) ≤ 2 ^ 64
  few =
      let installs : x.installs ≡ length (runs_of c.events) = w.log.installs in
      let within : x.installs ≤ length c.events = w.log.installs_within in
      let bound : length c.events + x.ends ≤ 9223372036854775807 = w.log.bound in
      omega arith

  here : (os : Objects) (holds : Holds os (tables_of c.events)) → AreEach (IsRunHere (world_at os holds)) x.runs runs_of_core.groups
  here os holds =
      let s = stored os holds in
      let h = held_runs m os x.runs runs_of_core.groups s in
      runs_here m os (world_at os holds) w.tied.runs.groups x.runs runs_of_core.groups s w.tied.runs.each refl refl
      (all_found [] h
      (subst (AreNew []) (sym (runs_paths os w.tied.runs.groups x.runs runs_of_core.groups s w.tied.runs.each))
      (subst (λ (ts : List (Ulid × List ℕ)). AreNew [] (paths_of ts)) (sym (tables_are c.events) ∙ sym w.tied.runs.are) (runs_new 1 [] (runs_of c.events) tt w.log.numbered few))))

  memory_plain : m.combine ≡ None → AllByRecursion AreBases (memory c)
  memory_plain none = memory_bases m c none kept_m.0 kept_m.2

  bases_of : (groups : List (List Rows)) → AllByRecursion AreBases (flat_map (λ ls. ls) groups) → AllByRecursion AreBases (in_one groups)
  bases_of [] h = tt
  bases_of (ls ∷ groups) h = (all_flat (λ r. is_base r ≡ true) ls (AllByRecursion_front AreBases ls (flat_map (λ l. l) groups) h), bases_of groups (AllByRecursion_behind AreBases ls (flat_map (λ l. l) groups) h))

  run_bases : m.combine ≡ None → AllByRecursion AreBases (in_one runs_of_core.groups)
  run_bases none = bases_of runs_of_core.groups (subst (AllByRecursion AreBases) runs_of_core.is ((kept_m.1 law).bases none))

  newest_memory : reverse (memory c) ≡ c.active ∷ reverse c.frozen
  newest_memory = reverse-append c.frozen (c.active ∷ [])

  -- the active rows of a key, the newest first
  active_falls : (k : List ℕ) → AreFalling (of_key k c.active)
  active_falls k = falling (of_key k c.active) (active_rises c.frozen c.active w.layers.rise k)

  newest_runs : (groups : List (List Rows)) → in_one (reverse groups) ≡ reverse (in_one groups)
  newest_runs [] = refl
  newest_runs (ls ∷ groups) =
      ap in_one (reverse-append (ls ∷ []) groups) ∙ map_both all_rows (reverse groups) (ls ∷ []) ∙ ap (λ (l : List Rows). l ++ (all_rows ls ∷ [])) (newest_runs groups) ∙ sym (reverse-append (all_rows ls ∷ []) (in_one groups))

  module _ (os : Objects) (holds : Holds os (tables_of c.events)) (n : ℕ) (from : c.floor ≤ n) (ops : Ops) (fine : AreFine ops) (plain : m.combine ≡ None → holds_merge ops ≡ false) (range : BytesRange) (order : IterationOrder) (left : List SortedRun)
      (lefts : AreRunsLeft range x.runs runs_of_core.groups left) (active : Rows) (has : HasUpto range n c.active active) (sources : List ScanSource) (are : AreScanSources range order n ops (active ∷ reverse c.frozen) (reverse left) sources) where
    abbrev v : World
    v = world_at os holds

    own_in : IsIn v order (HasOwn range ops) are.own.iterator
    own_in = memory_in v order (HasOwn range ops) are.own.iterator are.of_own.1

    in_memory : AreIn v order range n (active ∷ reverse c.frozen) are.in_memory
    in_memory = memory_all v order range n (active ∷ reverse c.frozen) are.in_memory are.of_memory

    -- lists that bring all rows in memory, and up to the sequence those of the sources
    wider : AreWider range n (reverse (memory c)) (rests v order are.in_memory)
    wider = subst (λ (ls : List Rows). AreWider range n ls (rests v order are.in_memory)) (sym newest_memory) (are_wider range n c.active active (reverse c.frozen) (rests v order are.in_memory) active_falls has in_memory.bring)

    of_left : RunsLeft v range runs_of_core.groups left
    of_left = runs_left v range x.runs runs_of_core.groups left (here os holds) lefts

    in_runs : AreIn v order range n (reverse (in_one of_left.some)) are.in_runs
    in_runs =
        subst (λ (ls : List Rows). AreIn v order range n ls are.in_runs) (newest_runs of_left.some)
        (runs_all v order range n (reverse left) (reverse of_left.some) are.in_runs are.of_runs (each_back (IsRunLeft v range) left of_left.some of_left.here))

    abbrev own_list : Rows
    own_list = read.rest_of are.own.iterator v

    abbrev lists : List Rows
    lists = wider.all ++ rests v order are.in_runs

    own_rows_are : source_rows are.own v ≡ own_list
    own_rows_are = ap (λ o. filter (upto_seq o) own_list) are.of_own.0 ∙ filter_all own_list

    rows_are : map (λ s. source_rows s v) sources ≡ left_of n own_list lists
    rows_are =
        ap (map (λ s. source_rows s v)) are.are
        ∙ (λ i. own_rows_are i ∷ (map_both (λ s. source_rows s v) are.in_memory are.in_runs ∙ (λ j. (in_memory.rows ∙ sym wider.same) j ++ in_runs.rows j) ∙ sym (map_both (filter (upto_seq (Some n))) wider.all (rests v order are.in_runs))) i)

    all_of_merged : (Q : RowEntry → Type 0) → AllByRecursion Q own_list → AllByRecursion (λ rows. AllByRecursion Q (ranged range rows)) (memory c) → AllByRecursion (λ rows. AllByRecursion Q (ranged range rows)) (in_one of_left.some) →
        AllByRecursion Q (merged_rows order v sources)
    all_of_merged Q own in_mem in_run =
        subst (λ (ls : List Rows). AllByRecursion Q (merged order true ls)) (sym rows_are)
        (all_merged Q order (left_of n own_list lists) (
          own,
          subst (AllByRecursion (AllByRecursion Q)) (sym (map_both (filter (upto_seq (Some n))) wider.all (rests v order are.in_runs)))
              (AllByRecursion_append (AllByRecursion Q) (map (filter (upto_seq (Some n))) wider.all) (map (filter (upto_seq (Some n))) (rests v order are.in_runs))
              (all_lists Q range n (reverse (memory c)) wider.all wider.bring (AllByRecursion_reverse _ (memory c) in_mem))
              (all_lists Q range n (reverse (in_one of_left.some)) (rests v order are.in_runs) in_runs.bring (AllByRecursion_reverse _ (in_one of_left.some) in_run))),
        ))

    every_within : (ls : List Rows) → AllByRecursion (λ rows. AllByRecursion (λ r. in_range range r.key ≡ true) (ranged range rows)) ls
    every_within [] = tt
    every_within (rows ∷ ls) = (all_ranged range rows, every_within ls)

    every_base : (ls : List Rows) → AllByRecursion AreBases ls → AllByRecursion (λ rows. AllByRecursion (λ r. is_base r ≡ true) (ranged range rows)) ls
    every_base [] h = tt
    every_base (rows ∷ ls) h = (AllByRecursion_filter (λ r. is_base r ≡ true) (λ r. in_range range r.key) rows h.0, every_base ls h.1)

    pub scan_opens : ScanOpens os m c n ops range order sources
    scan_opens = record {
      world = v;
      is = is_world m os x.runs runs_of_core.groups (stored os holds);
      can = subst (AllByRecursion (CanOpen v order)) (sym are.are) (can_open v order (HasOwn range ops) are.own own_in, AllByRecursion_append (CanOpen v order) are.in_memory are.in_runs in_memory.can in_runs.can);
      operable = λ none. all_of_merged (λ r. is_base r ≡ true) (own_all_bases range ops own_list own_in.rows (plain none)) (every_base (memory c) (memory_plain none)) (every_base (in_one of_left.some) (of_left.bases (run_bases none)));
      within = folded_keys (λ k. in_range range k ≡ true) (operator_at m.combine) true None (merged_rows order v sources)
          (all_of_merged (λ r. in_range range r.key ≡ true) (own_within range ops own_list own_in.rows) (every_within (memory c)) (every_within (in_one of_left.some)));
      left = ap (λ (ls : List Rows). filter has_value (folded (operator_at m.combine) true None (merged order true ls))) rows_are
          ∙ core_scans m c x w law kept_m layers (kept_m.1 law).tables n from ops fine range own_list lists own_in.rows
          (have_some m c range w.tied.runs.groups x.runs layers runs_of_core.groups of_left.some runs_of_core.is runs_of_core.tables w.tied.runs.each of_left.same wider.all (rests v order are.in_runs) wider.bring in_runs.bring) order;
    }
