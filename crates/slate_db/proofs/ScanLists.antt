-- The lists of memtables and of runs have the rows of all layers.
use Rattle.std.proofs.Common.{◌≡◌, ℕ, Bool, true, false, cond, ◌&&◌, List, [], ◌∷◌, ◌++◌, flat_map, reverse, Option, bytes_eq, refl, sym, ap, subst, ◌∙◌, append-nil}
use Rattle.std.specs.List.{AllByRecursion}
use Rattle.std.proofs.lemmas.Grind.{flat_map-append}
use Rattle.std.proofs.lemmas.List.{reverse-append, reverse-reverse}
use Rattle.std.proofs.lemmas.List.Elements.{filter-append}
use Rattle.std.proofs.lemmas.Slice.Eq.{bytes_eq-Decides}
use Rattle.slate_types.specs.declared.bytes_range.BytesRange.{BytesRange}
use Rattle.slate_types.specs.declared.types.Ulid.{Ulid}
use Rattle.slate_types.specs.declared.iter.IterationOrder.{IterationOrder}
use Rattle.slate_types.specs.declared.iter.IterationOrder.TheVariants.{Ascending, Descending}
use Rattle.slate_types.specs.Iteration.{in_order}
use Rattle.slate_types.specs.Keys.{in_range, key_le, key_lt}
use Rattle.slate_types.specs.Outside.{Objects}
use Rattle.slate_types.specs.Rows.{of_key}
use Rattle.slate_types.proofs.KeyOrder.{le_lt_trans, lt_irreflexive}
use Rattle.slate_mem.specs.Table.{ranged}
use Rattle.slate_table.specs.declared.info.SsTableHandle.{SsTableHandle}
use Rattle.slate_table.specs.Finding.{encloses, is_from, is_upto}
use Rattle.slate_table.specs.InfoReading.{seen_info}
use Rattle.slate_table.specs.Parts.{Encode}
use Rattle.slate_table.specs.TableEnd.{HasInfo}
use Rattle.slate_table.proofs.TableFinds.{outside_none}
use Rattle.slate_merge.specs.Merge.{all_rows}
use Rattle.slate_read.specs.declared.sorted_run.SortedRun.{SortedRun}
use Rattle.slate_db.specs.Installs.{AreApart, AreHandles, AreRuns, AreRunsOf, EndsBelow, Holds}
use Rattle.slate_db.specs.Lookup.{AreStored}
use Rattle.slate_db.specs.Meaning.{Meaning, IsLawfulMeaning}
use Rattle.slate_db.specs.Model.{CoreModel, Rows, memory, versions, versions_in}
use Rattle.slate_db.specs.ScanLaws.{ListsHaveAllRows}
use Rattle.slate_db.specs.Scanned.{AreStoredRuns, AreTablesOfRuns, BringEach, Brings, HaveRows, in_one}
use Rattle.slate_db.specs.Sound.{AreTables}
use Rattle.slate_db.proofs.Gets.{all_stored}
use Rattle.slate_types.proofs.Lists.{AllByRecursion_front, AllByRecursion_behind}
use Rattle.slate_txn.proofs.PartLaws.{filter_swap}

-- ---- one list for each layer

pub ranged_key : (range : BytesRange) (k : List ℕ) (rows : Rows) → of_key k (ranged range rows) ≡ cond (in_range range k) (of_key k rows) []
ranged_key range k [] = by (in_range range k)
  where
    none : Rows
    none = []

    by : (b : Bool) → none ≡ cond b none none
    by true = refl
    by false = refl
ranged_key range k (r ∷ rs) = filter_swap (λ x. bytes_eq x.key k) (λ x. in_range range x.key) (r ∷ rs) ∙ by (bytes_eq r.key k) refl (sym (filter_swap (λ x. bytes_eq x.key k) (λ x. in_range range x.key) rs) ∙ ranged_key range k rs)
  where
    more : (a b : Bool) → a ≡ b → ranged range (of_key k rs) ≡ cond b (of_key k rs) [] → cond a (r ∷ ranged range (of_key k rs)) (ranged range (of_key k rs)) ≡ cond b (r ∷ of_key k rs) []
    more true true e later = ap (λ xs. r ∷ xs) later
    more false false e later = later
    more true false e later = cc
    more false true e later = cc

    by : (t : Bool) → bytes_eq r.key k ≡ t → ranged range (of_key k rs) ≡ cond (in_range range k) (of_key k rs) [] → ranged range (cond t (r ∷ of_key k rs) (of_key k rs)) ≡ cond (in_range range k) (cond t (r ∷ of_key k rs) (of_key k rs)) []
    by true e later = more (in_range range r.key) (in_range range k) (ap (in_range range) ((bytes_eq-Decides r.key k).0 e)) later
    by false e later = later

each_key : (range : BytesRange) (k : List ℕ) (layers lists : List Rows) → BringEach range layers lists → flat_map (of_key k) lists ≡ cond (in_range range k) (flat_map (of_key k) layers) []
each_key range k [] [] h = by (in_range range k)
  where
    none : Rows
    none = []

    by : (b : Bool) → none ≡ cond b none none
    by true = refl
    by false = refl
each_key range k (rows ∷ layers) (list ∷ lists) h = (λ i. (h.0 k ∙ ranged_key range k rows) i ++ each_key range k layers lists h.1 i) ∙ by (in_range range k)
  where
    by : (b : Bool) → cond b (of_key k rows) [] ++ cond b (flat_map (of_key k) layers) [] ≡ cond b (of_key k rows ++ flat_map (of_key k) layers) []
    by true = refl
    by false = refl
each_key range k [] (list ∷ lists) h = absurd h
each_key range k (rows ∷ layers) [] h = absurd h

newest_key : (k : List ℕ) (layers : List Rows) → flat_map (of_key k) (reverse layers) ≡ reverse (versions_in k layers)
newest_key k [] = refl
newest_key k (rows ∷ layers) =
    ap (flat_map (of_key k)) (reverse-append (rows ∷ []) layers)
    ∙ flat_map-append (of_key k) (reverse layers) (rows ∷ [])
    ∙ (λ i. newest_key k layers i ++ (append-nil (of_key k rows) ∙ sym (reverse-reverse (of_key k rows))) i)
    ∙ sym (reverse-append (versions k rows) (versions_in k layers))

pub have_each : (range : BytesRange) (layers lists : List Rows) → BringEach range (reverse layers) lists → HaveRows range layers lists
have_each range layers lists h k = each_key range k (reverse layers) lists h ∙ ap (λ rows. cond (in_range range k) rows []) (newest_key k layers)

pub have_both : (range : BytesRange) (older newer in_older in_newer : List Rows) → HaveRows range older in_older → HaveRows range newer in_newer → HaveRows range (older ++ newer) (in_newer ++ in_older)
have_both range older newer in_older in_newer h g k =
    flat_map-append (of_key k) in_newer in_older
    ∙ (λ i. g k i ++ h k i)
    ∙ by (in_range range k)
    ∙ ap (λ rows. cond (in_range range k) (reverse rows) []) (sym (flat_map-append (versions k) older newer))
  where
    by : (b : Bool) → cond b (reverse (versions_in k newer)) [] ++ cond b (reverse (versions_in k older)) [] ≡ cond b (reverse (versions_in k older ++ versions_in k newer)) []
    by true = sym (reverse-append (versions_in k older) (versions_in k newer))
    by false = refl

-- ---- no key is in two tables of a run

-- a table has no row of a key that it doesn't enclose
abbrev pub AreWithin : List SsTableHandle → List Rows → Type 0
AreWithin [] [] = Unit {0}
AreWithin (h ∷ hs) (rows ∷ layers) = ((k : List ℕ) → encloses (seen_info h.info) k ≡ false → of_key k rows ≡ []) × AreWithin hs layers
AreWithin [] (rows ∷ layers) = ⊥
AreWithin (h ∷ hs) [] = ⊥

pub within_tables : (m : Meaning) (ts : List (Ulid × List ℕ)) (hs : List SsTableHandle) (layers : List Rows) → AreTables m ts layers → AreHandles ts hs → AreWithin hs layers
within_tables m [] [] layers tables handles = subst (AreWithin []) (sym tables) tt
within_tables m [] (h ∷ hs) layers tables handles = absurd handles
within_tables m (t ∷ ts) [] layers tables handles = absurd handles
within_tables m (t ∷ ts) (h ∷ hs) layers (version, rows, rest, is, others, same) handles =
    subst (AreWithin (h ∷ hs)) (sym same) (
      outside_none m.encode t.1 h.format_version t.0.0 (seen_info h.info) rows
          (record { written = version; is = is; info = subst (λ (x : Ulid). HasInfo t.1 h.format_version x.0 (seen_info h.info)) handles.0.id handles.0.info }),
      within_tables m ts hs rest others handles.1,
    )

pub within_stored : (encode decode : Encode) (objects : Option Objects) (hs : List SsTableHandle) (layers : List Rows) → AreStored encode decode objects hs layers → AreWithin hs layers
within_stored encode decode objects [] [] are = tt
within_stored encode decode objects (h ∷ hs) (rows ∷ layers) are = (outside_none encode are.0.bytes h.format_version h.id.0 (seen_info h.info) rows are.0.is, within_stored encode decode objects hs layers are.1)
within_stored encode decode objects [] (rows ∷ layers) are = absurd are
within_stored encode decode objects (h ∷ hs) [] are = absurd are

second_true : (a b : Bool) → (a && b) ≡ true → b ≡ true
second_true true b h = h
second_true false b h = cc

first_false : (a b : Bool) → a ≡ false → (a && b) ≡ false
first_false true b h = cc
first_false false b h = refl

not_above : (first k : List ℕ) → key_lt k first ≡ true → key_le first k ≡ false
not_above first k h = by (key_le first k) refl
  where
    by : (t : Bool) → key_le first k ≡ t → t ≡ false
    by true e = lt_irreflexive first (le_lt_trans first k first e h)
    by false e = refl

not_behind : (h g : SsTableHandle) (k : List ℕ) → EndsBelow h g → encloses (seen_info h.info) k ≡ true → encloses (seen_info g.info) k ≡ false
not_behind h g k b e =
    first_false (is_from g.info.first_entry k) (is_upto g.info.last_entry k)
    (ap (λ o. is_from o k) b.begins ∙ not_above b.first k (le_lt_trans k b.last b.first (sym (ap (λ o. is_upto o k) b.ends) ∙ second_true (is_from h.info.first_entry k) (is_upto h.info.last_entry k) e) b.below))

none_behind : (k : List ℕ) (h : SsTableHandle) (hs : List SsTableHandle) (layers : List Rows) → encloses (seen_info h.info) k ≡ true → AllByRecursion (EndsBelow h) hs → AreWithin hs layers → of_key k (all_rows layers) ≡ []
none_behind k h [] [] e below within = refl
none_behind k h (g ∷ hs) (rows ∷ layers) e below within =
    filter-append (λ r. bytes_eq r.key k) rows (all_rows layers)
    ∙ (λ i. within.0 k (not_behind h g k below.0 e) i ++ none_behind k h hs layers e below.1 within.1 i)
none_behind k h [] (rows ∷ layers) e below within = absurd within
none_behind k h (g ∷ hs) [] e below within = absurd within

apart_versions : (k : List ℕ) (hs : List SsTableHandle) (layers : List Rows) → AreApart hs → AreWithin hs layers → versions k (all_rows layers) ≡ versions_in k layers
apart_versions k [] [] apart within = refl
apart_versions k (h ∷ hs) (rows ∷ layers) apart within =
    ap reverse (filter-append (λ r. bytes_eq r.key k) rows (all_rows layers))
    ∙ by (encloses (seen_info h.info) k) refl (none_behind k h hs layers)
    ∙ ap (λ xs. versions k rows ++ xs) (apart_versions k hs layers apart.1 within.1)
  where
    by : (t : Bool) → encloses (seen_info h.info) k ≡ t → (encloses (seen_info h.info) k ≡ true → AllByRecursion (EndsBelow h) hs → AreWithin hs layers → of_key k (all_rows layers) ≡ []) →
        reverse (of_key k rows ++ of_key k (all_rows layers)) ≡ versions k rows ++ versions k (all_rows layers)
    by true e none =
        let is : of_key k (all_rows layers) ≡ [] = none e apart.0 within.1 in
        ap (λ xs. reverse (of_key k rows ++ xs)) is ∙ ap reverse (append-nil (of_key k rows)) ∙ sym (append-nil (versions k rows)) ∙ ap (λ xs. versions k rows ++ reverse xs) (sym is)
    by false e none =
        let is : of_key k rows ≡ [] = within.0 k e in
        ap (λ xs. reverse (xs ++ of_key k (all_rows layers))) is ∙ ap (λ xs. reverse xs ++ versions k (all_rows layers)) (sym is)
apart_versions k [] (rows ∷ layers) apart within = absurd within
apart_versions k (h ∷ hs) [] apart within = absurd within

all_key : (k : List ℕ) (layers : List Rows) → of_key k (all_rows layers) ≡ flat_map (of_key k) layers
all_key k [] = refl
all_key k (rows ∷ layers) = filter-append (λ r. bytes_eq r.key k) rows (all_rows layers) ∙ ap (λ xs. of_key k rows ++ xs) (all_key k layers)

each_key_back : (range : BytesRange) (k : List ℕ) (layers lists : List Rows) → BringEach range layers lists → flat_map (of_key k) (reverse lists) ≡ cond (in_range range k) (flat_map (of_key k) (reverse layers)) []
each_key_back range k [] [] h = each_key range k [] [] h
each_key_back range k (rows ∷ layers) (list ∷ lists) h =
    ap (flat_map (of_key k)) (reverse-append (list ∷ []) lists)
    ∙ flat_map-append (of_key k) (reverse lists) (list ∷ [])
    ∙ (λ i. each_key_back range k layers lists h.1 i ++ (append-nil (of_key k list) ∙ h.0 k ∙ ranged_key range k rows) i)
    ∙ by (in_range range k)
    ∙ ap (λ xs. cond (in_range range k) xs []) (sym (ap (flat_map (of_key k)) (reverse-append (rows ∷ []) layers) ∙ flat_map-append (of_key k) (reverse layers) (rows ∷ []) ∙ ap (λ xs. flat_map (of_key k) (reverse layers) ++ xs) (append-nil (of_key k rows))))
  where
    by : (b : Bool) → cond b (flat_map (of_key k) (reverse layers)) [] ++ cond b (of_key k rows) [] ≡ cond b (flat_map (of_key k) (reverse layers) ++ of_key k rows) []
    by true = refl
    by false = refl
each_key_back range k [] (list ∷ lists) h = absurd h
each_key_back range k (rows ∷ layers) [] h = absurd h

-- lists for the tables of a run, one after another in the order, have the rows of the tables
pub run_brings : (range : BytesRange) (order : IterationOrder) (hs : List SsTableHandle) (layers lists : List Rows) → AreApart hs → AreWithin hs layers → BringEach range layers lists → Brings range (all_rows layers) (all_rows (in_order order lists))
run_brings range Ascending hs layers lists apart within h k =
    all_key k lists ∙ each_key range k layers lists h ∙ ap (λ xs. cond (in_range range k) xs []) (sym (all_key k layers)) ∙ sym (ranged_key range k (all_rows layers))
run_brings range Descending hs layers lists apart within h k =
    all_key k (reverse lists)
    ∙ each_key_back range k layers lists h
    ∙ ap (λ xs. cond (in_range range k) xs []) (newest_key k layers ∙ ap reverse (sym (apart_versions k hs layers apart within)) ∙ reverse-reverse (of_key k (all_rows layers)))
    ∙ sym (ranged_key range k (all_rows layers))

-- ---- the runs of a journal

runs_versions : (m : Meaning) (k : List ℕ) (runs : List (List (Ulid × List ℕ))) (kept : List SortedRun) (groups : List (List Rows)) → AreTablesOfRuns m runs groups → AreRuns runs kept →
    versions_in k (in_one groups) ≡ versions_in k (flat_map (λ layers. layers) groups)
runs_versions m k [] [] [] tables are = refl
runs_versions m k (ts ∷ runs) (run ∷ kept) (layers ∷ groups) tables are =
    (λ i. apart_versions k run.tables.items layers are.0.apart (within_tables m ts run.tables.items layers tables.0 are.0.handles) i ++ runs_versions m k runs kept groups tables.1 are.1 i)
    ∙ sym (flat_map-append (versions k) layers (flat_map (λ ls. ls) groups))
runs_versions m k [] kept (layers ∷ groups) tables are = absurd tables
runs_versions m k (ts ∷ runs) kept [] tables are = absurd tables
runs_versions m k [] (run ∷ kept) groups tables are = absurd are
runs_versions m k (ts ∷ runs) [] groups tables are = absurd are

-- the tables of a journal, run by run
pub record Grouped (m : Meaning) (runs : List (List (Ulid × List ℕ))) (layers : List Rows) : Type 0 where
  pub groups : List (List Rows)
  pub is : layers ≡ flat_map (λ ls. ls) groups
  pub tables : AreTablesOfRuns m runs groups

record Cut (m : Meaning) (ts us : List (Ulid × List ℕ)) (layers : List Rows) : Type 0 where
  pub front : List Rows
  pub back : List Rows
  pub is : layers ≡ front ++ back
  pub first : AreTables m ts front
  pub last : AreTables m us back

cut_at : (m : Meaning) (ts us : List (Ulid × List ℕ)) (layers : List Rows) → AreTables m (ts ++ us) layers → Cut m ts us layers
cut_at m [] us layers tables = record { front = []; back = layers; is = refl; first = refl; last = tables }
cut_at m (t ∷ ts) us layers (version, rows, rest, table, others, same) =
    let c = cut_at m ts us rest others in
    record { front = rows ∷ c.front; back = c.back; is = same ∙ ap (λ ls. rows ∷ ls) c.is; first = (version, rows, c.front, table, c.first, refl); last = c.last }

group_all : (m : Meaning) (runs : List (List (Ulid × List ℕ))) (layers : List Rows) → AreTables m (flat_map (λ ts. ts) runs) layers → Grouped m runs layers
group_all m [] layers tables = record { groups = []; is = tables; tables = tt }
group_all m (ts ∷ runs) layers tables =
    let c = cut_at m ts (flat_map (λ us. us) runs) layers tables in
    let g = group_all m runs c.back c.last in
    record { groups = c.front ∷ g.groups; is = c.is ∙ ap (λ ls. c.front ++ ls) g.is; tables = (c.first, g.tables) }

pub grouped : (m : Meaning) (ts : List (Ulid × List ℕ)) (kept : List SortedRun) (are : AreRunsOf ts kept) (layers : List Rows) → AreTables m ts layers → Grouped m are.groups layers
grouped m ts kept are layers tables = group_all m are.groups layers (subst (λ (us : List (Ulid × List ℕ)). AreTables m us layers) (sym are.are) tables)

have_runs : (m : Meaning) (range : BytesRange) (runs : List (List (Ulid × List ℕ))) (kept : List SortedRun) (groups : List (List Rows)) (lists : List Rows) → AreTablesOfRuns m runs groups → AreRuns runs kept →
    HaveRows range (in_one groups) lists → HaveRows range (flat_map (λ layers. layers) groups) lists
have_runs m range runs kept groups lists tables are h k = h k ∙ ap (λ rows. cond (in_range range k) (reverse rows) []) (runs_versions m k runs kept groups tables are)

-- the lists of memtables, the newest first, and then those of runs have the rows of all layers of a core
have_layers : (m : Meaning) (c : CoreModel) (range : BytesRange) (runs : List (List (Ulid × List ℕ))) (kept : List SortedRun) (layers : List Rows) (groups : List (List Rows)) → layers ≡ flat_map (λ ls. ls) groups → AreTablesOfRuns m runs groups → AreRuns runs kept →
    (in_memory in_runs : List Rows) → BringEach range (reverse (memory c)) in_memory → HaveRows range (in_one groups) in_runs → HaveRows range (layers ++ memory c) (in_memory ++ in_runs)
have_layers m c range runs kept layers groups is tables are in_memory in_runs h g =
    have_both range layers (memory c) in_runs in_memory
    (subst (λ (ls : List Rows). HaveRows range ls in_runs) (sym is) (have_runs m range runs kept groups in_runs tables are g))
    (have_each range (memory c) in_memory h)

pub have_all : ListsHaveAllRows
have_all m c x w runs are layers groups is tables range in_memory in_runs h g = have_layers m c range runs x.runs layers groups is tables are in_memory in_runs h (have_each range (in_one groups) in_runs g)

-- where some groups have all rows of each key in the range, lists of these will do
pub have_some : (m : Meaning) (c : CoreModel) (range : BytesRange) (runs : List (List (Ulid × List ℕ))) (kept : List SortedRun) (layers : List Rows) (groups some : List (List Rows)) → layers ≡ flat_map (λ ls. ls) groups → AreTablesOfRuns m runs groups → AreRuns runs kept →
    ((k : List ℕ) → in_range range k ≡ true → versions_in k (in_one some) ≡ versions_in k (in_one groups)) →
    (in_memory in_runs : List Rows) → BringEach range (reverse (memory c)) in_memory → BringEach range (reverse (in_one some)) in_runs → HaveRows range (layers ++ memory c) (in_memory ++ in_runs)
have_some m c range runs kept layers groups some is tables are same in_memory in_runs h g =
    have_layers m c range runs kept layers groups is tables are in_memory in_runs h (λ k. have_each range (in_one some) in_runs g k ∙ by k (in_range range k) refl)
  where
    by : (k : List ℕ) (t : Bool) → in_range range k ≡ t → cond t (reverse (versions_in k (in_one some))) [] ≡ cond t (reverse (versions_in k (in_one groups))) []
    by k true within = ap reverse (same k within)
    by k false out = refl

-- the objects that hold the tables hold those of each run
pub stored_runs : (m : Meaning) → IsLawfulMeaning m → (os : Objects) (runs : List (List (Ulid × List ℕ))) (kept : List SortedRun) (groups : List (List Rows)) → AreTablesOfRuns m runs groups → AreRuns runs kept → Holds os (flat_map (λ ts. ts) runs) → AreStoredRuns m os kept groups
stored_runs m law os [] [] [] tables are holds = tt
stored_runs m law os (ts ∷ runs) (run ∷ kept) (layers ∷ groups) tables are holds = (
  all_stored m law os ts run.tables.items layers tables.0 are.0.handles (AllByRecursion_front _ ts (flat_map (λ us. us) runs) holds),
  stored_runs m law os runs kept groups tables.1 are.1 (AllByRecursion_behind _ ts (flat_map (λ us. us) runs) holds),
)
stored_runs m law os [] kept (layers ∷ groups) tables are holds = absurd tables
stored_runs m law os (ts ∷ runs) kept [] tables are holds = absurd tables
stored_runs m law os [] (run ∷ kept) groups tables are holds = absurd are
stored_runs m law os (ts ∷ runs) [] groups tables are holds = absurd are
