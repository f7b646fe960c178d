-- The runs of a core in a world that has their tables, and the rows that they bring there.
use Rattle.std.proofs.Common.{inl, inr, ◌≡◌, ℕ, Bool, true, false, cond, List, [], ◌∷◌, ◌++◌, reverse, map, flat_map, filter, Some, refl, sym, ap, subst, ◌∙◌}
use Rattle.std.specs.Prelude.{◌&&◌}
use Rattle.std.specs.List.{AllByRecursion}
use Rattle.std.proofs.lemmas.List.Elements.{filter-append}
use Rattle.slate_types.specs.declared.bytes_range.BytesRange.{BytesRange}
use Rattle.slate_types.specs.declared.iter.IterationOrder.{IterationOrder}
use Rattle.slate_types.specs.declared.iter.IterationOrder.TheVariants.{Ascending}
use Rattle.slate_types.specs.declared.types.RowEntry.{RowEntry}
use Rattle.slate_types.specs.Iteration.{IsInOrder, NoneBefore}
use Rattle.slate_types.specs.Keys.{in_range, key_lt}
use Rattle.slate_types.specs.Outside.{Objects}
use Rattle.slate_types.specs.Rows.{of_key}
use Rattle.slate_types.specs.declared.types.Ulid.{Ulid}
use Rattle.slate_types.specs.World.{Kept, World}
use Rattle.slate_types.proofs.IterationLaws.{in_order_filtered}
use Rattle.slate_types.proofs.KeyOrder.{le_lt_trans, lt_irreflexive, lt_le_trans, lt_trans}
use Rattle.slate_mem.specs.Table.{ranged}
use Rattle.slate_block.specs.BlockSpelling.{as_read}
use Rattle.slate_table.specs.declared.info.SsTableHandle.{SsTableHandle}
use Rattle.slate_table.specs.Finding.{encloses, is_from, is_upto}
use Rattle.slate_table.specs.InfoReading.{seen_info}
use Rattle.slate_table.specs.Parts.{sum_fits}
use Rattle.slate_table.proofs.HeldParts.{blocks_held, index_found, index_held}
use Rattle.slate_table.proofs.OpenLaws.{same_end}
use Rattle.slate_merge.specs.Groups.{in_turn}
use Rattle.slate_merge.specs.Merge as merge
use Rattle.slate_read.specs.declared.sorted_run.SortedRun.{SortedRun}
use Rattle.slate_read.specs.Readable.{TablesAreReadable}
use Rattle.slate_read.specs.RunIterators.{AreBelow, AreEachReadable, AreReadable, AreRisingTables, all_rows, rows_in_run, run_rows}
use Rattle.slate_read.specs.TableWalk.{is_in}
use Rattle.slate_read.proofs.Readable.{readable}
use Rattle.slate_db.specs.Installs.{AreApart, AreRuns, EndsBelow}
use Rattle.slate_db.specs.Lookup.{AreStoredAs}
use Rattle.slate_db.specs.Meaning.{Meaning}
use Rattle.slate_db.specs.Model.{Rows, versions, versions_in}
use Rattle.slate_db.specs.OpenScans.{AreEach}
use Rattle.slate_db.specs.ScanFilters.{AreLeft, AreRunsLeft}
use Rattle.slate_db.specs.Scanned.{AreStoredRuns, Brings, in_one}
use Rattle.slate_db.specs.Sound.{AreBases}
use Rattle.slate_db.proofs.ScanLists.{ranged_key}
use Rattle.slate_db.proofs.ScanRows.{turned_same}
use Rattle.slate_db.proofs.ScanWorlds.{held, held_runs, kept_in, map_both, table_held}
use Rattle.slate_types.proofs.Plain.{both_true}
use Rattle.slate_types.proofs.Lists.{AllByRecursion_append, AllByRecursion_front, AllByRecursion_behind, AllByRecursion_weaken}

tables_readable : TablesAreReadable
tables_readable = readable same_end index_held index_found blocks_held

-- ---- the tables of a run

abbrev kepts_of : (m : Meaning) (os : Objects) (hs : List SsTableHandle) (layers : List Rows) → AreStoredAs m os hs layers → List Kept
kepts_of m os [] [] s = []
kepts_of m os (h ∷ hs) (rows ∷ layers) s = kept_in m os h rows s.0 ∷ kepts_of m os hs layers s.1
kepts_of m os [] (rows ∷ layers) s = absurd s
kepts_of m os (h ∷ hs) [] s = absurd s

each_readable : (m : Meaning) (os : Objects) (w : World) (hs : List SsTableHandle) (layers : List Rows) (s : AreStoredAs m os hs layers) → w.meaning ≡ m → w.fits ≡ sum_fits → AllByRecursion (λ e. w.holds e.0 ≡ Some e.1) (held m os hs layers s) →
    AreEachReadable w hs (kepts_of m os hs layers s)
each_readable m os w [] [] s meant fits found = tt
each_readable m os w (h ∷ hs) (rows ∷ layers) s meant fits found =
    let t = table_held m os h rows s.0 in (
      tables_readable m.encode m.decode t.lawful w h t.bytes t.blocks t.filters (ap (λ (x : Meaning). x.decode) meant) fits found.0 t.each t.is t.info,
      each_readable m os w hs layers s.1 meant fits found.1,
    )
each_readable m os w [] (rows ∷ layers) s meant fits found = absurd s
each_readable m os w (h ∷ hs) [] s meant fits found = absurd s

flat_mapped : (f : RowEntry → RowEntry) (blocks : List Rows) → flat_map (λ b. b) (map (map f) blocks) ≡ map f (flat_map (λ b. b) blocks)
flat_mapped f [] = refl
flat_mapped f (b ∷ blocks) = ap (λ (l : Rows). map f b ++ l) (flat_mapped f blocks) ∙ sym (map_both f b (flat_map (λ b. b) blocks))

rows_are : (m : Meaning) (os : Objects) (hs : List SsTableHandle) (layers : List Rows) (s : AreStoredAs m os hs layers) → run_rows (kepts_of m os hs layers s) ≡ merge.all_rows layers
rows_are m os [] [] s = refl
rows_are m os (h ∷ hs) (rows ∷ layers) s = λ i. (flat_mapped (as_read h.format_version) (table_held m os h rows s.0).blocks ∙ sym (table_held m os h rows s.0).rows_are) i ++ rows_are m os hs layers s.1 i
rows_are m os [] (rows ∷ layers) s = absurd s
rows_are m os (h ∷ hs) [] s = absurd s

-- table by table
abbrev pub AreRowsOf : List Kept → List Rows → Type 0
AreRowsOf [] [] = Unit {0}
AreRowsOf (kept ∷ kepts) (rows ∷ layers) = (all_rows kept ≡ rows) × AreRowsOf kepts layers
AreRowsOf [] (rows ∷ layers) = ⊥
AreRowsOf (kept ∷ kepts) [] = ⊥

each_rows : (m : Meaning) (os : Objects) (hs : List SsTableHandle) (layers : List Rows) (s : AreStoredAs m os hs layers) → AreRowsOf (kepts_of m os hs layers s) layers
each_rows m os [] [] s = tt
each_rows m os (h ∷ hs) (rows ∷ layers) s = (flat_mapped (as_read h.format_version) (table_held m os h rows s.0).blocks ∙ sym (table_held m os h rows s.0).rows_are, each_rows m os hs layers s.1)
each_rows m os [] (rows ∷ layers) s = absurd s
each_rows m os (h ∷ hs) [] s = absurd s

-- ---- they rise

below_one : (h g : SsTableHandle) (j k : List ℕ) → EndsBelow h g → encloses (seen_info h.info) j ≡ true → encloses (seen_info g.info) k ≡ true → key_lt j k ≡ true
below_one h g j k b e f =
    lt_le_trans j b.first k
    (le_lt_trans j b.last b.first (sym (ap (λ o. is_upto o j) b.ends) ∙ (both_true (is_from h.info.first_entry j) (is_upto h.info.last_entry j) e).1) b.below)
    (sym (ap (λ o. is_from o k) b.begins) ∙ (both_true (is_from g.info.first_entry k) (is_upto g.info.last_entry k) f).0)

below_rest : (w : World) (h : SsTableHandle) (j : List ℕ) (hs : List SsTableHandle) (kepts : List Kept) → encloses (seen_info h.info) j ≡ true → AllByRecursion (EndsBelow h) hs → AreEachReadable w hs kepts → AllByRecursion (λ s. key_lt j s.key ≡ true) (run_rows kepts)
below_rest w h j [] [] e below each = tt
below_rest w h j (g ∷ hs) (kept ∷ kepts) e below each =
    AllByRecursion_append (λ s. key_lt j s.key ≡ true) (all_rows kept) (run_rows kepts)
    (AllByRecursion_weaken (λ s. encloses (seen_info g.info) s.key ≡ true) (λ s. key_lt j s.key ≡ true) (λ s f. below_one h g j s.key below.0 e f) (all_rows kept) each.0.enclosed)
    (below_rest w h j hs kepts e below.1 each.1)
below_rest w h j [] (kept ∷ kepts) e below each = absurd each
below_rest w h j (g ∷ hs) [] e below each = absurd each

rising : (w : World) (hs : List SsTableHandle) (kepts : List Kept) → AreApart hs → AreEachReadable w hs kepts → AreRisingTables kepts
rising w [] [] apart each = tt
rising w (h ∷ hs) (kept ∷ kepts) apart each = (
  AllByRecursion_weaken (λ r. encloses (seen_info h.info) r.key ≡ true) (λ r. AllByRecursion (λ s. key_lt r.key s.key ≡ true) (run_rows kepts)) (λ r e. below_rest w h r.key hs kepts e apart.0 each.1) (all_rows kept) each.0.enclosed,
  rising w hs kepts apart.1 each.1,
)
rising w [] (kept ∷ kepts) apart each = absurd each
rising w (h ∷ hs) [] apart each = absurd each

-- ---- their rows come in order

not_turned : (j k : List ℕ) → key_lt j k ≡ true → key_lt k j ≡ false
not_turned j k h = by (key_lt k j) refl
  where
    by : (b : Bool) → key_lt k j ≡ b → b ≡ false
    by true e = lt_irreflexive j (lt_trans j k j h e)
    by false e = refl

none_both : (k : List ℕ) (xs ys : Rows) → NoneBefore Ascending k xs → AllByRecursion (λ s. key_lt k s.key ≡ true) ys → NoneBefore Ascending k (xs ++ ys)
none_both k [] [] h b = tt
none_both k [] (y ∷ ys) h b = (not_turned k y.key b.0, none_both k [] ys h b.1)
none_both k (x ∷ xs) ys h b = (h.0, none_both k xs ys h.1 b)

order_both : (xs ys : Rows) → IsInOrder Ascending xs → IsInOrder Ascending ys → AreBelow xs ys → IsInOrder Ascending (xs ++ ys)
order_both [] ys h k b = k
order_both (x ∷ xs) ys h k b = (none_both x.key xs ys h.0 b.0, order_both xs ys h.1 k b.1)

in_order_all : (w : World) (hs : List SsTableHandle) (kepts : List Kept) → AreEachReadable w hs kepts → AreRisingTables kepts → IsInOrder Ascending (run_rows kepts)
in_order_all w [] [] each rise = tt
in_order_all w (h ∷ hs) (kept ∷ kepts) each rise = order_both (all_rows kept) (run_rows kepts) each.0.rising (in_order_all w hs kepts each.1 rise.1) rise.0
in_order_all w [] (kept ∷ kepts) each rise = absurd each
in_order_all w (h ∷ hs) [] each rise = absurd each

-- ---- all runs

-- a world has the tables of a run, with these rows
pub record IsRunHere (w : World) (run : SortedRun) (layers : List Rows) : Type 0 where
  pub kepts : List Kept
  pub tables : AreRowsOf kepts layers
  pub are : AreReadable w run.tables.items kepts
  pub rows : run_rows kepts ≡ merge.all_rows layers
  pub order : IsInOrder Ascending (run_rows kepts)

pub runs_here : (m : Meaning) (os : Objects) (w : World) (ts : List (List (Ulid × List ℕ))) (runs : List SortedRun) (groups : List (List Rows)) (s : AreStoredRuns m os runs groups) → AreRuns ts runs → w.meaning ≡ m → w.fits ≡ sum_fits → AllByRecursion (λ e. w.holds e.0 ≡ Some e.1) (held_runs m os runs groups s) →
    AreEach (IsRunHere w) runs groups
runs_here m os w [] [] [] s are meant fits found = tt
runs_here m os w (t ∷ ts) (run ∷ runs) (layers ∷ groups) s are meant fits found =
    let hs = run.tables.items in
    let each = each_readable m os w hs layers s.0 meant fits (AllByRecursion_front _ (held m os hs layers s.0) (held_runs m os runs groups s.1) found) in
    let rise = rising w hs (kepts_of m os hs layers s.0) are.0.apart each in (
      record { kepts = kepts_of m os hs layers s.0; tables = each_rows m os hs layers s.0; are = record { each = each; rising = rise }; rows = rows_are m os hs layers s.0; order = in_order_all w hs (kepts_of m os hs layers s.0) each rise },
      runs_here m os w ts runs groups s.1 are.1 meant fits (AllByRecursion_behind _ (held m os hs layers s.0) (held_runs m os runs groups s.1) found),
    )
runs_here m os w ts [] (layers ∷ groups) s are meant fits found = absurd s
runs_here m os w ts (run ∷ runs) [] s are meant fits found = absurd s
runs_here m os w [] (run ∷ runs) groups s are meant fits found = absurd are
runs_here m os w (t ∷ ts) [] groups s are meant fits found = absurd are

-- ---- what filters leave of it

-- some of the tables, which have all rows of the range
record Part (w : World) (range : BytesRange) (hs : List SsTableHandle) (kepts : List Kept) : Type 0 where
  pub some : List Kept
  pub each : AreEachReadable w hs some
  pub same : filter (is_in range) (run_rows some) ≡ filter (is_in range) (run_rows kepts)
  pub below : (k : List ℕ) → AllByRecursion (λ s. key_lt k s.key ≡ true) (run_rows kepts) → AllByRecursion (λ s. key_lt k s.key ≡ true) (run_rows some)
  pub rising : AreRisingTables some

part_left : (w : World) (range : BytesRange) (hs : List SsTableHandle) (layers : List Rows) (kepts : List Kept) (left : List SsTableHandle) → AreEachReadable w hs kepts → AreRowsOf kepts layers → AreRisingTables kepts → AreLeft range hs layers left → Part w range left kepts
part_left w range [] [] [] left each rows rise is = record { some = []; each = subst (λ (l : List SsTableHandle). AreEachReadable w l []) (sym is) tt; same = refl; below = λ k h. h; rising = tt }
part_left w range (h ∷ hs) (rs ∷ layers) (kept ∷ kepts) left each rows rise (inl (later, is, rest)) =
    let p = part_left w range hs layers kepts later each.1 rows.1 rise.1 rest in
    record {
      some = kept ∷ p.some;
      each = subst (λ (l : List SsTableHandle). AreEachReadable w l (kept ∷ p.some)) (sym is) (each.0, p.each);
      same = filter-append (is_in range) (all_rows kept) (run_rows p.some) ∙ ap (λ (l : Rows). filter (is_in range) (all_rows kept) ++ l) p.same ∙ sym (filter-append (is_in range) (all_rows kept) (run_rows kepts));
      below = λ k h. AllByRecursion_append (λ s. key_lt k s.key ≡ true) (all_rows kept) (run_rows p.some) (AllByRecursion_front (λ s. key_lt k s.key ≡ true) (all_rows kept) (run_rows kepts) h) (p.below k (AllByRecursion_behind (λ s. key_lt k s.key ≡ true) (all_rows kept) (run_rows kepts) h));
      rising = (AllByRecursion_weaken (λ (r : RowEntry). AllByRecursion (λ s. key_lt r.key s.key ≡ true) (run_rows kepts)) (λ (r : RowEntry). AllByRecursion (λ s. key_lt r.key s.key ≡ true) (run_rows p.some)) (λ r h. p.below r.key h) (all_rows kept) rise.0, p.rising);
    }
part_left w range (h ∷ hs) (rs ∷ layers) (kept ∷ kepts) left each rows rise (inr (none, rest)) =
    let p = part_left w range hs layers kepts left each.1 rows.1 rise.1 rest in
    record {
      some = p.some;
      each = p.each;
      same = p.same ∙ ap (λ (l : Rows). l ++ filter (is_in range) (run_rows kepts)) (sym (ap (filter (is_in range)) rows.0 ∙ none)) ∙ sym (filter-append (is_in range) (all_rows kept) (run_rows kepts));
      below = λ k h. p.below k (AllByRecursion_behind (λ s. key_lt k s.key ≡ true) (all_rows kept) (run_rows kepts) h);
      rising = p.rising;
    }
part_left w range [] [] (kept ∷ kepts) left each rows rise is = absurd each
part_left w range [] (rs ∷ layers) kepts left each rows rise is = absurd is
part_left w range (h ∷ hs) [] kepts left each rows rise is = absurd is
part_left w range (h ∷ hs) (rs ∷ layers) [] left each rows rise is = absurd each

-- a world has the tables of a run that are left, and these bring what the run has in the range
pub record IsRunLeft (w : World) (range : BytesRange) (run : SortedRun) (layers : List Rows) : Type 0 where
  pub kepts : List Kept
  pub are : AreReadable w run.tables.items kepts
  pub brings : (order : IterationOrder) → Brings range (merge.all_rows layers) (in_turn order (rows_in_run range order kepts))

run_left : (w : World) (range : BytesRange) (run left : SortedRun) (layers : List Rows) → IsRunHere w run layers → AreLeft range run.tables.items layers left.tables.items → IsRunLeft w range left layers
run_left w range run left layers h is =
    let p = part_left w range run.tables.items layers h.kepts left.tables.items h.are.each h.tables h.are.rising is in
    record {
      kepts = p.some;
      are = record { each = p.each; rising = p.rising };
      brings = λ order k.
          turned_same order (filter (is_in range) (run_rows p.some)) (in_order_filtered Ascending (is_in range) (run_rows p.some) (in_order_all w left.tables.items p.some p.each p.rising)) k
          ∙ ap (λ (rows : Rows). of_key k rows) (p.same ∙ ap (λ (rows : Rows). filter (is_in range) rows) h.rows);
    }

-- a run of which no table is left has no row in the range
none_left : (range : BytesRange) (hs : List SsTableHandle) (layers : List Rows) (left : List SsTableHandle) → left ≡ [] → AreLeft range hs layers left → ranged range (merge.all_rows layers) ≡ []
none_left range [] [] left none is = refl
none_left range (h ∷ hs) (rows ∷ layers) left none (inl (later, same, rest)) = let clash : [] ≡ h ∷ later = sym none ∙ same in cc
none_left range (h ∷ hs) (rows ∷ layers) left none (inr (out, rest)) = filter-append (is_in range) rows (merge.all_rows layers) ∙ (λ i. out i ++ none_left range hs layers left none rest i)
none_left range [] (rows ∷ layers) left none is = absurd is
none_left range (h ∷ hs) [] left none is = absurd is

none_of_key : (range : BytesRange) (k : List ℕ) (rows : Rows) → in_range range k ≡ true → ranged range rows ≡ [] → of_key k rows ≡ []
none_of_key range k rows within none = sym (ap (λ (b : Bool). cond b (of_key k rows) []) within) ∙ sym (ranged_key range k rows) ∙ ap (of_key k) none

-- the runs that are left, with the layers of each: those of the others have no row in the range
pub record RunsLeft (w : World) (range : BytesRange) (groups : List (List Rows)) (left : List SortedRun) : Type 0 where
  pub some : List (List Rows)
  pub here : AreEach (IsRunLeft w range) left some
  pub same : (k : List ℕ) → in_range range k ≡ true → versions_in k (in_one some) ≡ versions_in k (in_one groups)
  pub bases : AllByRecursion AreBases (in_one groups) → AllByRecursion AreBases (in_one some)

pub runs_left : (w : World) (range : BytesRange) (runs : List SortedRun) (groups : List (List Rows)) (left : List SortedRun) → AreEach (IsRunHere w) runs groups → AreRunsLeft range runs groups left → RunsLeft w range groups left
runs_left w range [] [] left here is = record { some = []; here = subst (λ (l : List SortedRun). AreEach (IsRunLeft w range) l []) (sym is) tt; same = λ k within. refl; bases = λ h. h }
runs_left w range (run ∷ runs) (layers ∷ groups) left here (inl (one, later, same, tables, rest)) =
    let behind = runs_left w range runs groups later here.1 rest in
    record {
      some = layers ∷ behind.some;
      here = subst (λ (l : List SortedRun). AreEach (IsRunLeft w range) l (layers ∷ behind.some)) (sym same) (run_left w range run one layers here.0 tables, behind.here);
      same = λ k within. ap (λ (rows : Rows). versions k (merge.all_rows layers) ++ rows) (behind.same k within);
      bases = λ h. (h.0, behind.bases h.1);
    }
runs_left w range (run ∷ runs) (layers ∷ groups) left here (inr (none, rest)) =
    let behind = runs_left w range runs groups left here.1 rest in
    record {
      some = behind.some;
      here = behind.here;
      same = λ k within. behind.same k within ∙ ap (λ (rows : Rows). reverse rows ++ versions_in k (in_one groups)) (sym (none_of_key range k (merge.all_rows layers) within (none_left range run.tables.items layers [] refl none)));
      bases = λ h. behind.bases h.1;
    }
runs_left w range [] (layers ∷ groups) left here is = absurd here
runs_left w range (run ∷ runs) [] left here is = absurd here
