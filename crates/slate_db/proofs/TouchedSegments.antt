-- The runs of a flush are of the segments that its rows touch.
use Rattle.std.proofs.Common.{◌≡◌, ◌⊎◌, inl, inr, ℕ, ◌<◌, Bool, true, false, not, ◌&&◌, ◌||◌, List, [], ◌∷◌, ◌++◌, length, map, flat_map, Option, Some, None, unwrap_or, is_none, refl, sym, ap, subst, ◌∙◌, arith, bytes_eq, Ordering, Less, Equal, Greater}
use Rattle.std.specs.Prelude.{IsTrue, nat_eq}
use Rattle.std.specs.BTreeSet.{insert_key}
use Rattle.std.specs.List.{AllByRecursion, starts_with}
use Rattle.std.specs.Ordering.{is_le, match_ordering}
use Rattle.std.proofs.lemmas.Cmp.{nat_list_cmp_total, tied_itself}
use Rattle.std.proofs.lemmas.List.{map-append}
use Rattle.std.proofs.lemmas.Slice.Eq.{bytes_eq-Decides}
use Rattle.slate_types.specs.declared.error.SlateDBError.{SlateDBError}
use Rattle.slate_types.specs.declared.error.SlateDBError.TheVariants as errors
use Rattle.slate_types.specs.declared.types.RowEntry.{RowEntry}
use Rattle.slate_types.specs.Keys.{key_cmp, key_le, key_lt, keys_set}
use Rattle.slate_types.specs.Rows.{row_lt}
use Rattle.slate_types.proofs.KeyOrder.{is_less, lt_le}
use Rattle.slate_mem.specs.KeyTests.{Segments, nest, prefix_of_len, segment_refusal}
use Rattle.slate_mem.specs.Refusals.{when}
use Rattle.slate_read.specs.declared.sorted_run.SortedRun.{SortedRun}
use Rattle.slate_table.specs.declared.info.SsTableHandle.{SsTableHandle}
use Rattle.slate_table.specs.Table.{AreInOrder}
use Rattle.slate_db.specs.Cut.{AreOfSegments, GoesOn, StandsIn, segment_of}
use Rattle.slate_db.specs.Flushed.{Differ}
use Rattle.slate_db.specs.FlushLaws.{NoneNest, RunsAreOfSegments, TablesAreOfOneSegment}
use Rattle.slate_db.specs.Installs.{prefixes_of}
use Rattle.slate_db.specs.Model.{Rows}
use Rattle.slate_db.proofs.Cuts.{one_segment, row_keys}
use Rattle.slate_db.proofs.Lists.{all_both}
use Rattle.slate_db.proofs.Prefixes.{begins_itself, rises}
use Rattle.slate_types.proofs.Lists.{AllByRecursion_front, AllByRecursion_map, AllByRecursion_behind}

-- ---- a list in which each of some prefixes stands once or more, side by side

record Repeats (all : List (List ℕ)) (prefix : List ℕ) (Rest : List (List ℕ) → Type 0) : Type 0 where
  pub front : List (List ℕ)
  pub rest : List (List ℕ)
  pub is : all ≡ front ++ rest
  pub some : 0 < length front
  pub same : AllByRecursion (λ p. p ≡ prefix) front
  pub more : Rest rest

abbrev AreRepeated : List (List ℕ) → List (List ℕ) → Type 0
AreRepeated all [] = all ≡ []
AreRepeated all (prefix ∷ prefixes) = Repeats all prefix (λ rest. AreRepeated rest prefixes)

inserted_twice : (k : List ℕ) (ks : List (List ℕ)) → insert_key key_cmp (insert_key key_cmp ks k) k ≡ insert_key key_cmp ks k
inserted_twice k [] = ap (λ o. match_ordering o (k ∷ k ∷ []) (k ∷ []) (k ∷ k ∷ [])) (tied_itself nat_list_cmp_total k)
inserted_twice k (x ∷ ks) = by (key_cmp k x) refl (inserted_twice k ks)
  where
    by : (o : Ordering) → key_cmp k x ≡ o → insert_key key_cmp (insert_key key_cmp ks k) k ≡ insert_key key_cmp ks k →
        insert_key key_cmp (match_ordering o (k ∷ x ∷ ks) (x ∷ ks) (x ∷ insert_key key_cmp ks k)) k ≡ match_ordering o (k ∷ x ∷ ks) (x ∷ ks) (x ∷ insert_key key_cmp ks k)
    by Less e later = ap (λ o. match_ordering o (k ∷ k ∷ x ∷ ks) (k ∷ x ∷ ks) (k ∷ insert_key key_cmp (x ∷ ks) k)) (tied_itself nat_list_cmp_total k)
    by Equal e later = ap (λ o. match_ordering o (k ∷ x ∷ ks) (x ∷ ks) (x ∷ insert_key key_cmp ks k)) e
    by Greater e later = ap (λ o. match_ordering o (k ∷ x ∷ insert_key key_cmp ks k) (x ∷ insert_key key_cmp ks k) (x ∷ insert_key key_cmp (insert_key key_cmp ks k) k)) e ∙ ap (λ ys. x ∷ ys) later

pub set_of_same : (prefix : List ℕ) (front rest : List (List ℕ)) → 0 < length front → AllByRecursion (λ p. p ≡ prefix) front → keys_set (front ++ rest) ≡ insert_key key_cmp (keys_set rest) prefix
set_of_same prefix [] rest some same = absurd (omega arith)
set_of_same prefix (p ∷ []) rest some same = ap (insert_key key_cmp (keys_set rest)) same.0
set_of_same prefix (p ∷ (q ∷ front)) rest some same =
    ap (insert_key key_cmp (keys_set ((q ∷ front) ++ rest))) same.0 ∙ ap (λ ks. insert_key key_cmp ks prefix) (set_of_same prefix (q ∷ front) rest (omega arith) same.1) ∙ inserted_twice prefix (keys_set rest)

set_of_repeated : (all prefixes : List (List ℕ)) → AreRepeated all prefixes → keys_set all ≡ keys_set prefixes
set_of_repeated all [] are = ap keys_set are
set_of_repeated all (prefix ∷ prefixes) are =
    ap keys_set are.is ∙ set_of_same prefix are.front are.rest are.some are.same ∙ ap (λ ks. insert_key key_cmp ks prefix) (set_of_repeated are.rest prefixes are.more)

-- ---- none falls

abbrev pub IsUpTo : List ℕ → List ℕ → Type 0
IsUpTo p q = (p ≡ q) ⊎ (key_lt p q ≡ true)

abbrev pub NoneFalls : List (List ℕ) → Type 0
NoneFalls [] = Unit {0}
NoneFalls (p ∷ ps) = AllByRecursion (IsUpTo p) ps × NoneFalls ps

pub falls_behind : (front rest : List (List ℕ)) → NoneFalls (front ++ rest) → NoneFalls rest
falls_behind [] rest none = none
falls_behind (p ∷ front) rest none = falls_behind front rest none.1

-- what is true of a list in which they are repeated is true of them
all_repeated : (P : List ℕ → Type 0) (all prefixes : List (List ℕ)) → AreRepeated all prefixes → AllByRecursion P all → AllByRecursion P prefixes
all_repeated P all [] are h = tt
all_repeated P all (prefix ∷ prefixes) are h =
    let both = subst (AllByRecursion P) are.is h in
    (first are.front are.some are.same (AllByRecursion_front P are.front are.rest both), all_repeated P are.rest prefixes are.more (AllByRecursion_behind P are.front are.rest both))
  where
    first : (front : List (List ℕ)) → 0 < length front → AllByRecursion (λ p. p ≡ prefix) front → AllByRecursion P front → P prefix
    first [] some same h = absurd (omega arith)
    first (p ∷ front) some same h = subst P same.0 h.0

none_falls : (all prefixes : List (List ℕ)) → AreRepeated all prefixes → NoneFalls all → NoneFalls prefixes
none_falls all [] are none = tt
none_falls all (prefix ∷ prefixes) are none =
    let both = subst NoneFalls are.is none in
    (all_repeated (IsUpTo prefix) are.rest prefixes are.more (first are.front are.some are.same both), none_falls are.rest prefixes are.more (falls_behind are.front are.rest both))
  where
    first : (front : List (List ℕ)) → 0 < length front → AllByRecursion (λ p. p ≡ prefix) front → NoneFalls (front ++ are.rest) → AllByRecursion (IsUpTo prefix) are.rest
    first [] some same none = absurd (omega arith)
    first (p ∷ front) some same none = AllByRecursion_behind (IsUpTo prefix) front are.rest (subst (λ (q : List ℕ). AllByRecursion (IsUpTo q) (front ++ are.rest)) same.0 none.0)

-- ---- the prefixes of rows

apart : (p q : List ℕ) → nest p q ≡ false → (p ≡ q) ⊎ ((starts_with nat_eq p q ≡ false) × (starts_with nat_eq q p ≡ false))
apart p q none = by (bytes_eq p q) (starts_with nat_eq p q) (starts_with nat_eq q p) refl refl refl none
  where
    by : (same first second : Bool) → bytes_eq p q ≡ same → starts_with nat_eq p q ≡ first → starts_with nat_eq q p ≡ second → (not same && (first || second)) ≡ false → (p ≡ q) ⊎ ((starts_with nat_eq p q ≡ false) × (starts_with nat_eq q p ≡ false))
    by true first second e f h none = inl ((bytes_eq-Decides p q).0 e)
    by false false false e f h none = inr (f, h)
    by false true second e f h none = cc
    by false false true e f h none = cc

le_itself : (k : List ℕ) → key_le k k ≡ true
le_itself k = ap is_le (tied_itself nat_list_cmp_total k)

keys_up : (r s : RowEntry) → IsTrue (row_lt r s) → key_le r.key s.key ≡ true
keys_up r s h = by (row_keys r s h)
  where
    by : (key_lt r.key s.key ≡ true) ⊎ (r.key ≡ s.key) → key_le r.key s.key ≡ true
    by (inl below) = lt_le r.key s.key below
    by (inr same) = subst (λ (k : List ℕ). key_le r.key k ≡ true) same (le_itself r.key)

up_to : (g : Segments) (r s : RowEntry) → key_le r.key s.key ≡ true → nest (segment_of g r.key) (segment_of g s.key) ≡ false → IsUpTo (segment_of g r.key) (segment_of g s.key)
up_to g r s le none = by (apart (segment_of g r.key) (segment_of g s.key) none)
  where
    by : (segment_of g r.key ≡ segment_of g s.key) ⊎ ((starts_with nat_eq (segment_of g r.key) (segment_of g s.key) ≡ false) × (starts_with nat_eq (segment_of g s.key) (segment_of g r.key) ≡ false)) → IsUpTo (segment_of g r.key) (segment_of g s.key)
    by (inl same) = inl same
    by (inr other) = inr (rises (segment_of g r.key) (segment_of g s.key) r.key s.key le (begins_itself g r.key) (begins_itself g s.key) other.0 other.1)

some_mapped : {X Y : Type 0} (f : X → Y) (xs : List X) → 0 < length xs → 0 < length (map f xs)
some_mapped f [] some = some
some_mapped f (x ∷ xs) some = omega arith

pub rows_rise : (g : Segments) (rows : Rows) → AreInOrder rows → NoneNest g rows → NoneFalls (map (λ r. segment_of g r.key) rows)
rows_rise g [] order none = tt
rows_rise g (r ∷ rows) order none = (
  AllByRecursion_map (λ s. segment_of g s.key) (IsUpTo (segment_of g r.key)) rows (all_both _ _ _ (λ s h k. up_to g r s (keys_up r s h) k) rows order.0 none.0),
  rows_rise g rows order.1 none.1,
)

-- ---- rows in tables, and tables in runs

tables_repeat : (g : Segments) (tables : List Rows) (prefixes : List (List ℕ)) → AllByRecursion (λ rows. 0 < length rows) tables → AreOfSegments g tables prefixes → AreRepeated (map (λ r. segment_of g r.key) (flat_map (λ rows. rows) tables)) prefixes
tables_repeat g [] [] some are = refl
tables_repeat g (rows ∷ tables) (prefix ∷ prefixes) some are = record {
  front = map (λ r. segment_of g r.key) rows;
  rest = map (λ r. segment_of g r.key) (flat_map (λ xs. xs) tables);
  is = map-append (λ r. segment_of g r.key) rows (flat_map (λ xs. xs) tables);
  some = some_mapped (λ r. segment_of g r.key) rows some.0;
  same = AllByRecursion_map (λ r. segment_of g r.key) (λ p. p ≡ prefix) rows are.0;
  more = tables_repeat g tables prefixes some.1 are.1;
}
tables_repeat g [] (prefix ∷ prefixes) some are = absurd are
tables_repeat g (rows ∷ tables) [] some are = absurd are

runs_repeat : (runs : List SortedRun) → AllByRecursion (λ run. 0 < length run.tables.items) runs → AreRepeated (prefixes_of runs) (map (λ run. run.prefix) runs)
runs_repeat [] some = refl
runs_repeat (run ∷ runs) some = record {
  front = map (λ h. run.prefix) run.tables.items;
  rest = prefixes_of runs;
  is = refl;
  some = some_mapped (λ h. run.prefix) run.tables.items some.0;
  same = all_same run.tables.items;
  more = runs_repeat runs some.1;
}
  where
    all_same : (hs : List SsTableHandle) → AllByRecursion (λ p. p ≡ run.prefix) (map (λ h. run.prefix) hs)
    all_same [] = tt
    all_same (h ∷ hs) = (refl, all_same hs)

set_of_runs : (runs : List SortedRun) → Differ runs → NoneFalls (map (λ run. run.prefix) runs) → keys_set (map (λ run. run.prefix) runs) ≡ map (λ run. run.prefix) runs
set_of_runs [] differ none = refl
set_of_runs (run ∷ []) differ none = refl
set_of_runs (run ∷ (next ∷ runs)) differ none =
    ap (λ ks. insert_key key_cmp ks run.prefix) (set_of_runs (next ∷ runs) differ.1 none.1) ∙ by none.0.0
  where
    by : IsUpTo run.prefix next.prefix → insert_key key_cmp (map (λ r. r.prefix) (next ∷ runs)) run.prefix ≡ run.prefix ∷ map (λ r. r.prefix) (next ∷ runs)
    by (inl same) = absurd (differ.0 same)
    by (inr below) = ap (λ o. match_ordering o (run.prefix ∷ map (λ r. r.prefix) (next ∷ runs)) (map (λ r. r.prefix) (next ∷ runs)) (next.prefix ∷ insert_key key_cmp (map (λ r. r.prefix) runs) run.prefix)) (is_less (key_cmp run.prefix next.prefix) below)

pub runs_of_segments : RunsAreOfSegments
runs_of_segments g limit rows tables prefixes runs order none cut are stand =
    let in_tables = subst (λ (rs : Rows). AreRepeated (map (λ r. segment_of g r.key) rs) prefixes) cut.all (tables_repeat g tables prefixes cut.some are) in
    let in_runs = subst (λ (ps : List (List ℕ)). AreRepeated ps (map (λ run. run.prefix) runs)) stand.each (runs_repeat runs stand.some) in
    sym (set_of_runs runs stand.differ (none_falls prefixes (map (λ run. run.prefix) runs) in_runs (none_falls (map (λ r. segment_of g r.key) rows) prefixes in_tables (rows_rise g rows order none))))
    ∙ sym (set_of_repeated prefixes (map (λ run. run.prefix) runs) in_runs)
    ∙ sym (set_of_repeated (map (λ r. segment_of g r.key) rows) prefixes in_tables)

-- ---- the rows of a table

pub has_prefix : (o : Option (List ℕ)) (p : List ℕ) (e : SlateDBError) → when (is_none o) e ≡ None → unwrap_or o [] ≡ p → o ≡ Some p
has_prefix None p e none is = let clash : Some e ≡ None = none in cc
has_prefix (Some q) p e none is = ap Some is

pub stands_in : (g : Segments) (prefix : List ℕ) (r : RowEntry) → segment_refusal g r.key ≡ None → segment_of g r.key ≡ prefix → StandsIn g prefix r
stands_in None prefix r fine is = tt
stands_in (Some f) prefix r fine is = has_prefix (prefix_of_len r.key (f r.key)) prefix (errors.EmptySegmentPrefix r.key) fine is

pub cut_stands_in_one : (g : Segments) (limit : ℕ) (table : Rows) → 0 < length table → GoesOn g limit table → AllByRecursion (λ r. segment_refusal g r.key ≡ None) table → (prefix : List ℕ) × AllByRecursion (StandsIn g prefix) table
cut_stands_in_one g limit [] some on fine = absurd (omega arith)
cut_stands_in_one g limit (r ∷ rs) some on fine = (segment_of g r.key, all_both _ _ _ (λ s h k. stands_in g (segment_of g r.key) s h k) (r ∷ rs) fine (one_segment g limit r rs on))

pub tables_stand : TablesAreOfOneSegment
tables_stand g limit rows tables fine cut = each tables (subst (AllByRecursion (λ r. segment_refusal g r.key ≡ None)) (sym cut.all) fine) cut.some cut.go_on
  where
    each : (tables : List Rows) → AllByRecursion (λ r. segment_refusal g r.key ≡ None) (flat_map (λ xs. xs) tables) → AllByRecursion (λ table. 0 < length table) tables → AllByRecursion (GoesOn g limit) tables →
        AllByRecursion (λ table. (prefix : List ℕ) × AllByRecursion (StandsIn g prefix) table) tables
    each [] fine some on = tt
    each (table ∷ tables) fine some on = (
      cut_stands_in_one g limit table some.0 on.0 (AllByRecursion_front _ table (flat_map (λ xs. xs) tables) fine),
      each tables (AllByRecursion_behind _ table (flat_map (λ xs. xs) tables) fine) some.1 on.1,
    )
