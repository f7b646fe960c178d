-- Rows that are cut into tables.
--     tables_from g limit table rows      the tables of rows, of which the first has begun with these
use Rattle.std.proofs.Common.{◌≡◌, ℕ, ◌+◌, ◌-◌, ◌<◌, Bool, true, false, cond, ◌&&◌, ◌||◌, ◌⊎◌, inl, inr, List, [], ◌∷◌, ◌++◌, ◌^◌, min, suc, rules, reverse, length, flat_map, refl, sym, ap, subst, ◌∙◌, arith, append_assoc, append-nil, length-append, bytes_eq, nat_le, nat_lt, Option, Some, None}
use Rattle.std.specs.Prelude.{IsTrue, not, slice_get, sum_by}
use Rattle.std.specs.List.{AllByRecursion}
use Rattle.std.proofs.lemmas.Bool.Decides.{nat_tests}
use Rattle.std.proofs.lemmas.List.{reverse-append}
use Rattle.std.proofs.lemmas.List.Sums.{sum_by_push}
use Rattle.std.proofs.lemmas.List.Elements.{filter-append}
use Rattle.std.proofs.lemmas.Option.{same_Some}
use Rattle.std.proofs.lemmas.Slice.Eq.{bytes_eq-Decides}
use Rattle.slate_types.specs.declared.types.RowEntry.{RowEntry}
use Rattle.slate_types.specs.Keys.{key_lt}
use Rattle.slate_types.specs.Rows.{estimated_size, row_lt, of_key}
use Rattle.slate_types.proofs.KeyOrder.{lt_irreflexive, lt_trans}
use Rattle.slate_mem.specs.Gathered.{last_row}
use Rattle.slate_mem.specs.KeyTests.{Segments}
use Rattle.slate_table.specs.Parts.{last_key}
use Rattle.slate_table.specs.Table.{AreInOrder}
use Rattle.slate_db.specs.Cut.{AreCut, AreEnded, AreOfSegment, AreOfSegments, EndsAt, GoesOn, begins_key, begins_segment, ends_before, segment_of}
use Rattle.slate_db.specs.Model.{Rows, versions, versions_in}
use Rattle.slate_db.proofs.FlushRows.{order_front}
use Rattle.slate_types.proofs.Lists.{AllByRecursion_front, AllByRecursion_push, AllByRecursion_behind, AllByRecursion_weaken}

abbrev pub tables_from : Segments → ℕ → Rows → Rows → List Rows
tables_from g limit table [] = table ∷ []
tables_from g limit table (r ∷ rs) = cond (ends_before g limit table r) (table ∷ tables_from g limit (r ∷ []) rs) (tables_from g limit (table ++ (r ∷ [])) rs)

-- ---- they are cut

one_goes_on : (g : Segments) (limit : ℕ) (r : RowEntry) → GoesOn g limit (r ∷ [])
one_goes_on g limit r [] x rest is = refl
one_goes_on g limit r (y ∷ front) x rest is = let n = ap length is in let m = length-append front (x ∷ rest) in absurd (omega arith)

split_last : (table front rest : Rows) (r x : RowEntry) → table ++ (r ∷ []) ≡ front ++ (x ∷ rest) → ((front ≡ table) × (x ≡ r)) ⊎ ((more : Rows) × (table ≡ front ++ (x ∷ more)))
split_last [] [] rest r x is = inl (refl, cc)
split_last [] (f ∷ front) rest r x is = let n = ap length is in let m = length-append front (x ∷ rest) in absurd (omega arith)
split_last (t ∷ table) [] rest r x is = let h : t ≡ x = cc in inr (table, ap (λ y. y ∷ table) h)
split_last (t ∷ table) (f ∷ front) rest r x is =
    let h : t ≡ f = cc in
    let later : table ++ (r ∷ []) ≡ front ++ (x ∷ rest) = cc in
    by h (split_last table front rest r x later)
  where
    by : t ≡ f → ((front ≡ table) × (x ≡ r)) ⊎ ((more : Rows) × (table ≡ front ++ (x ∷ more))) → ((f ∷ front ≡ t ∷ table) × (x ≡ r)) ⊎ ((more : Rows) × (t ∷ table ≡ f ∷ (front ++ (x ∷ more))))
    by h (inl (same, is)) = inl ((λ i. sym h i ∷ same i), is)
    by h (inr (more, same)) = inr (more, λ i. h i ∷ same i)

goes_on_more : (g : Segments) (limit : ℕ) (table : Rows) (r : RowEntry) → GoesOn g limit table → ends_before g limit table r ≡ false → GoesOn g limit (table ++ (r ∷ []))
goes_on_more g limit table r on ends front x rest is = by (split_last table front rest r x is)
  where
    by : ((front ≡ table) × (x ≡ r)) ⊎ ((more : Rows) × (table ≡ front ++ (x ∷ more))) → ends_before g limit front x ≡ false
    by (inl (same, row)) = (λ i. ends_before g limit (same i) (row i)) ∙ ends
    by (inr (more, same)) = on front x more same

cut_on : (g : Segments) (limit : ℕ) (table rows : Rows) → 0 < length table → GoesOn g limit table → AreCut g limit (table ++ rows) (tables_from g limit table rows)
cut_on g limit table [] some on = record { all = refl; some = (some, tt); go_on = (on, tt); ended = (tt, tt) }
cut_on g limit table (r ∷ rs) some on =
    by (ends_before g limit table r) refl (cut_on g limit (r ∷ []) rs (omega arith) (one_goes_on g limit r))
    (λ ends. cut_on g limit (table ++ (r ∷ [])) rs (let n = length-append table (r ∷ []) in omega arith) (goes_on_more g limit table r on ends))
  where
    by : (b : Bool) → ends_before g limit table r ≡ b → AreCut g limit (r ∷ rs) (tables_from g limit (r ∷ []) rs) →
        (ends_before g limit table r ≡ false → AreCut g limit ((table ++ (r ∷ [])) ++ rs) (tables_from g limit (table ++ (r ∷ [])) rs)) →
        AreCut g limit (table ++ (r ∷ rs)) (cond b (table ∷ tables_from g limit (r ∷ []) rs) (tables_from g limit (table ++ (r ∷ [])) rs))
    by true ends next more = record {
      all = ap (λ xs. table ++ xs) next.all;
      some = (some, next.some);
      go_on = (on, next.go_on);
      ended = (subst (EndsAt g limit table) (sym next.all) ends, next.ended);
    }
    by false ends next more = subst (λ (xs : Rows). AreCut g limit xs (tables_from g limit (table ++ (r ∷ [])) rs)) (append_assoc table (r ∷ []) rs) (more ends)

-- an empty table doesn't end
pub cut_all : (g : Segments) (limit : ℕ) (rows : Rows) → 0 < length rows → AreCut g limit rows (tables_from g limit [] rows)
cut_all g limit [] some = absurd (omega arith)
cut_all g limit (r ∷ rs) some = cut_on g limit (r ∷ []) rs (omega arith) (one_goes_on g limit r)

-- ---- one row more

pub cut_ends : (g : Segments) (limit : ℕ) (tables tables2 : List Rows) (table table2 rest : Rows) (r : RowEntry) → ends_before g limit table r ≡ true → tables2 ≡ tables ++ (table ∷ []) → table2 ≡ [] → tables2 ++ tables_from g limit (table2 ++ (r ∷ [])) rest ≡ tables ++ tables_from g limit table (r ∷ rest)
cut_ends g limit tables tables2 table table2 rest r ends is none =
    (λ i. is i ++ tables_from g limit (none i ++ (r ∷ [])) rest) ∙ append_assoc tables (table ∷ []) (tables_from g limit (r ∷ []) rest)
    ∙ ap (λ b. tables ++ cond b (table ∷ tables_from g limit (r ∷ []) rest) (tables_from g limit (table ++ (r ∷ [])) rest)) (sym ends)

pub cut_goes_on : (g : Segments) (limit : ℕ) (tables tables2 : List Rows) (table table2 rest : Rows) (r : RowEntry) → ends_before g limit table r ≡ false → tables2 ≡ tables → table2 ≡ table → tables2 ++ tables_from g limit (table2 ++ (r ∷ [])) rest ≡ tables ++ tables_from g limit table (r ∷ rest)
cut_goes_on g limit tables tables2 table table2 rest r ends is same =
    (λ i. is i ++ tables_from g limit (same i ++ (r ∷ [])) rest) ∙ ap (λ b. tables ++ cond b (table ∷ tables_from g limit (r ∷ []) rest) (tables_from g limit (table ++ (r ∷ [])) rest)) (sym ends)

-- a size past the greatest number stands there
pub full_is : (limit size : ℕ) (table : Rows) → size ≡ min (sum_by estimated_size table) (2 ^ 64 - 1) → limit < 2 ^ 64 → nat_le limit size ≡ nat_le limit (sum_by estimated_size table)
full_is limit size table is fits = by (nat_le limit size) (nat_le limit (sum_by estimated_size table)) refl refl
  where
    by : (a b : Bool) → nat_le limit size ≡ a → nat_le limit (sum_by estimated_size table) ≡ b → a ≡ b
    by true true e f = refl
    by false false e f = refl
    by true false e f = grind (arith, nat_tests, is, fits, e, f)
    by false true e f = grind (arith, nat_tests, is, fits, e, f)

pub no_size : (size : ℕ) (table : Rows) → size ≡ 0 → table ≡ [] → size ≡ min (sum_by estimated_size table) (2 ^ 64 - 1)
no_size size table is none = let e : sum_by estimated_size table ≡ 0 = ap (sum_by estimated_size) none in omega arith

pub more_size : (size new more : ℕ) (table after : Rows) (r : RowEntry) → size ≡ min (sum_by estimated_size table) (2 ^ 64 - 1) → more ≡ min (estimated_size r) (2 ^ 64 - 1) → new ≡ min (size + more) (2 ^ 64 - 1) → after ≡ table ++ (r ∷ []) →
    new ≡ min (sum_by estimated_size after) (2 ^ 64 - 1)
more_size size new more table after r was one is behind =
    let e : sum_by estimated_size after ≡ sum_by estimated_size table + estimated_size r = ap (sum_by estimated_size) behind ∙ sum_by_push estimated_size table r in
    omega arith

-- ---- the segment of a table

last_again : (s u : RowEntry) (t : Rows) → last_row (s ∷ (u ∷ t)) ≡ last_row (u ∷ t)
last_again s u t =
    let a : length (s ∷ (u ∷ t)) - 1 ≡ suc (length t) = omega arith in
    let b : length (u ∷ t) - 1 ≡ length t = omega arith in
    ap (slice_get (s ∷ (u ∷ t))) a ∙ sym (ap (slice_get (u ∷ t)) b)

-- what is true of each row is true of the last one
record HasLast (P : RowEntry → Type 0) (table : Rows) : Type 0 where
  pub row : RowEntry
  pub is : last_row table ≡ Some row
  pub so : P row

has_last : (P : RowEntry → Type 0) (s : RowEntry) (t : Rows) → AllByRecursion P (s ∷ t) → HasLast P (s ∷ t)
has_last P s [] h = record { row = s; is = refl; so = h.0 }
has_last P s (u ∷ t) h = let later = has_last P u t h.1 in record { row = later.row; is = last_again s u t ∙ later.is; so = later.so }

same_segment : (g : Segments) (s r : RowEntry) (full : Bool) → (begins_key (Some s) r && (full || begins_segment g (Some s) r)) ≡ false → segment_of g r.key ≡ segment_of g s.key
same_segment g s r full goes = by (bytes_eq s.key r.key) (bytes_eq (segment_of g s.key) (segment_of g r.key)) full refl refl goes
  where
    by : (key segment full : Bool) → bytes_eq s.key r.key ≡ key → bytes_eq (segment_of g s.key) (segment_of g r.key) ≡ segment → (not key && (full || not segment)) ≡ false → segment_of g r.key ≡ segment_of g s.key
    by true segment full e f goes = sym (ap (segment_of g) ((bytes_eq-Decides s.key r.key).0 e))
    by false true full e f goes = sym ((bytes_eq-Decides (segment_of g s.key) (segment_of g r.key)).0 f)
    by false false true e f goes = cc
    by false false false e f goes = cc

-- a row before which a table goes on is of its segment
pub row_joins : (g : Segments) (limit : ℕ) (prefix : List ℕ) (table : Rows) (r : RowEntry) → AreOfSegment g prefix table → (table ≡ [] → segment_of g r.key ≡ prefix) → ends_before g limit table r ≡ false → segment_of g r.key ≡ prefix
row_joins g limit prefix [] r are first goes = first refl
row_joins g limit prefix (s ∷ t) r are first goes =
    let last = has_last (λ x. segment_of g x.key ≡ prefix) s t are in
    same_segment g last.row r (nat_le limit (sum_by estimated_size (s ∷ t))) (ap (λ o. begins_key o r && (nat_le limit (sum_by estimated_size (s ∷ t)) || begins_segment g o r)) (sym last.is) ∙ goes) ∙ last.so

-- the row begins a segment where its prefix is another
pub begins_other : (g : Segments) (prefix : List ℕ) (table : Rows) (r : RowEntry) → AreOfSegment g prefix table → begins_key (last_row table) r ≡ true → begins_segment g (last_row table) r ≡ not (bytes_eq prefix (segment_of g r.key))
begins_other g prefix [] r are begins = cc
begins_other g prefix (s ∷ t) r are begins =
    let last = has_last (λ x. segment_of g x.key ≡ prefix) s t are in
    ap (λ o. begins_segment g o r) last.is ∙ ap (λ p. not (bytes_eq p (segment_of g r.key))) last.so

pub next_is : (begins full other : Bool) (p q : List ℕ) → begins ≡ true → (full || other) ≡ true → p ≡ q → Some p ≡ cond (begins && (full || other)) (Some q) None
next_is begins full other p q h k same = ap Some same ∙ (let b : (begins && (full || other)) ≡ true = ap (λ x. x && (full || other)) h ∙ k in ap (λ x. cond x (Some q) None) (sym b))

pub no_next : (begins full other : Bool) (q : List ℕ) → (full || other) ≡ false → None ≡ cond (begins && (full || other)) (Some q) None
no_next begins full other q k = ap (λ x. cond x (Some q) None) (sym (never begins (full || other) k))
  where
    never : (a b : Bool) → b ≡ false → (a && b) ≡ false
    never true b k = k
    never false b k = refl

-- what of a next prefix there is
pub ends_of_next : (b : Bool) (p q : List ℕ) (next : Option (List ℕ)) → next ≡ cond b (Some q) None → next ≡ Some p → (b ≡ true) × (p ≡ q)
ends_of_next true p q next is some = (refl, same_Some _ _ (sym some ∙ is))
ends_of_next false p q next is some = let clash : Some p ≡ None = sym some ∙ is in cc

pub goes_of_next : (b : Bool) (q : List ℕ) (next : Option (List ℕ)) → next ≡ cond b (Some q) None → next ≡ None → b ≡ false
goes_of_next true q next is none = let clash : None ≡ Some q = sym none ∙ is in cc
goes_of_next false q next is none = refl

-- so all its rows are of one
all_join : (g : Segments) (limit : ℕ) (prefix : List ℕ) (front rest : Rows) → 0 < length front → AreOfSegment g prefix front → GoesOn g limit (front ++ rest) → AreOfSegment g prefix rest
all_join g limit prefix front [] some are on = tt
all_join g limit prefix front (r ∷ rest) some are on =
    let one = row_joins g limit prefix front r are (λ none. absurd (let n = ap length none in omega arith)) (on front r rest refl) in
    (one, all_join g limit prefix (front ++ (r ∷ [])) rest (let n = length-append front (r ∷ []) in omega arith) (AllByRecursion_push _ front r are one) (subst (GoesOn g limit) (sym (append_assoc front (r ∷ []) rest)) on))

pub one_segment : (g : Segments) (limit : ℕ) (r : RowEntry) (rs : Rows) → GoesOn g limit (r ∷ rs) → AreOfSegment g (segment_of g r.key) (r ∷ rs)
one_segment g limit r rs on = (refl, all_join g limit (segment_of g r.key) (r ∷ []) rs (omega arith) (refl, tt) on)

pub segments_more : (g : Segments) (tables : List Rows) (prefixes : List (List ℕ)) (rows : Rows) (prefix : List ℕ) → AreOfSegments g tables prefixes → AreOfSegment g prefix rows → AreOfSegments g (tables ++ (rows ∷ [])) (prefixes ++ (prefix ∷ []))
segments_more g [] [] rows prefix are is = (is, tt)
segments_more g (t ∷ tables) (p ∷ prefixes) rows prefix are is = (are.0, segments_more g tables prefixes rows prefix are.1 is)
segments_more g [] (p ∷ prefixes) rows prefix are is = absurd are
segments_more g (t ∷ tables) [] rows prefix are is = absurd are

-- ---- a row, behind what was cut before it

pub record IsNext (g : Segments) (limit : ℕ) (tables : List Rows) (prefixes : List (List ℕ)) (prefix : List ℕ) (table rest : Rows) (size : ℕ) (row : RowEntry) (all : List Rows) : Type 0 where
  pub cut : tables ++ tables_from g limit (table ++ (row ∷ [])) rest ≡ all
  pub sum : size ≡ min (sum_by estimated_size table) (2 ^ 64 - 1)
  pub segments : AreOfSegments g tables prefixes
  pub segment : AreOfSegment g prefix table
  pub joins : segment_of g row.key ≡ prefix

pub next_ends : (g : Segments) (limit : ℕ) (tables tables2 : List Rows) (prefixes prefixes2 : List (List ℕ)) (prefix prefix2 : List ℕ) (table table2 rest : Rows) (size2 : ℕ) (row : RowEntry) (all : List Rows) →
    tables ++ tables_from g limit table (row ∷ rest) ≡ all → AreOfSegments g tables prefixes → AreOfSegment g prefix table → (ends_before g limit table row ≡ true) × (prefix2 ≡ segment_of g row.key) →
    tables2 ≡ tables ++ (table ∷ []) → prefixes2 ≡ prefixes ++ (prefix ∷ []) → table2 ≡ [] → size2 ≡ 0 → IsNext g limit tables2 prefixes2 prefix2 table2 rest size2 row all
next_ends g limit tables tables2 prefixes prefixes2 prefix prefix2 table table2 rest size2 row all is are of ends more_tables more_prefixes empty zero_size = record {
  cut = cut_ends g limit tables tables2 table table2 rest row ends.0 more_tables empty ∙ is;
  sum = no_size size2 table2 zero_size empty;
  segments = subst (λ (ts : List Rows). AreOfSegments g ts prefixes2) (sym more_tables) (subst (λ (ps : List (List ℕ)). AreOfSegments g (tables ++ (table ∷ [])) ps) (sym more_prefixes) (segments_more g tables prefixes table prefix are of));
  segment = subst (AreOfSegment g prefix2) (sym empty) tt;
  joins = sym ends.1;
}

pub next_goes : (g : Segments) (limit : ℕ) (tables tables2 : List Rows) (prefixes prefixes2 : List (List ℕ)) (prefix prefix2 : List ℕ) (table table2 rest : Rows) (size size2 : ℕ) (row : RowEntry) (all : List Rows) →
    tables ++ tables_from g limit table (row ∷ rest) ≡ all → size ≡ min (sum_by estimated_size table) (2 ^ 64 - 1) → AreOfSegments g tables prefixes → AreOfSegment g prefix table → (table ≡ [] → segment_of g row.key ≡ prefix) → ends_before g limit table row ≡ false →
    tables2 ≡ tables → prefixes2 ≡ prefixes → prefix2 ≡ prefix → table2 ≡ table → size2 ≡ size → IsNext g limit tables2 prefixes2 prefix2 table2 rest size2 row all
next_goes g limit tables tables2 prefixes prefixes2 prefix prefix2 table table2 rest size size2 row all is sum are of first goes same_tables same_prefixes same_prefix same_table same_size = record {
  cut = cut_goes_on g limit tables tables2 table table2 rest row goes same_tables same_table ∙ is;
  sum = same_size ∙ sum ∙ sym (ap (λ (xs : Rows). min (sum_by estimated_size xs) (2 ^ 64 - 1)) same_table);
  segments = subst (λ (ts : List Rows). AreOfSegments g ts prefixes2) (sym same_tables) (subst (λ (ps : List (List ℕ)). AreOfSegments g tables ps) (sym same_prefixes) are);
  segment = subst (λ (p : List ℕ). AreOfSegment g p table2) (sym same_prefix) (subst (AreOfSegment g prefix) (sym same_table) of);
  joins = row_joins g limit prefix table row of first goes ∙ sym same_prefix;
}

-- ---- what the tables have of the rows

pub order_behind : (xs ys : Rows) → AreInOrder (xs ++ ys) → AreInOrder ys
order_behind [] ys h = h
order_behind (x ∷ xs) ys h = order_behind xs ys h.1

pub parts_order : (tables : List Rows) → AreInOrder (flat_map (λ rows. rows) tables) → AllByRecursion AreInOrder tables
parts_order [] h = tt
parts_order (t ∷ ts) h = (order_front t (flat_map (λ rows. rows) ts) h, parts_order ts (order_behind t (flat_map (λ rows. rows) ts) h))

pub parts_all : (P : RowEntry → Type 0) (tables : List Rows) → AllByRecursion P (flat_map (λ rows. rows) tables) → AllByRecursion (λ rows. AllByRecursion P rows) tables
parts_all P [] h = tt
parts_all P (t ∷ ts) h = (AllByRecursion_front P t (flat_map (λ rows. rows) ts) h, parts_all P ts (AllByRecursion_behind P t (flat_map (λ rows. rows) ts) h))

-- ---- no key is in two tables

pub row_keys : (a b : RowEntry) → IsTrue (row_lt a b) → (key_lt a.key b.key ≡ true) ⊎ (a.key ≡ b.key)
row_keys a b h = by (key_lt a.key b.key) (bytes_eq a.key b.key) refl refl h
  where
    by : (t u : Bool) → key_lt a.key b.key ≡ t → bytes_eq a.key b.key ≡ u → IsTrue (t || (u && nat_lt b.seq a.seq)) → (t ≡ true) ⊎ (a.key ≡ b.key)
    by true u e f h = inl refl
    by false true e f h = inr ((bytes_eq-Decides a.key b.key).0 f)
    by false false e f h = absurd (search rules)

-- the keys of a table that ends before a row
keys_below : (t rest : Rows) (r : RowEntry) → AreInOrder (t ++ (r ∷ rest)) → begins_key (last_row t) r ≡ true → AllByRecursion (λ s. key_lt s.key r.key ≡ true) t
keys_below [] rest r order other = tt
keys_below (s ∷ []) rest r order other = (by (row_keys s r order.0.0), tt)
  where
    by : (key_lt s.key r.key ≡ true) ⊎ (s.key ≡ r.key) → key_lt s.key r.key ≡ true
    by (inl below) = below
    by (inr same) = let e : bytes_eq s.key r.key ≡ true = (bytes_eq-Decides s.key r.key).1 same in let f : not (bytes_eq s.key r.key) ≡ true = other in let g : not (bytes_eq s.key r.key) ≡ false = ap not e in cc
keys_below (s ∷ (u ∷ t)) rest r order other =
    let later = keys_below (u ∷ t) rest r order.1 (sym (ap (λ x. begins_key x r) (last_again s u t)) ∙ other) in
    (by (row_keys s u order.0.0) later.0, later)
  where
    by : (key_lt s.key u.key ≡ true) ⊎ (s.key ≡ u.key) → key_lt u.key r.key ≡ true → key_lt s.key r.key ≡ true
    by (inl below) next = lt_trans s.key u.key r.key below next
    by (inr same) next = subst (λ (k : List ℕ). key_lt k r.key ≡ true) (sym same) next

-- and of the rows from that one on
keys_from : (k : List ℕ) (r : RowEntry) (rest : Rows) → AreInOrder (r ∷ rest) → key_lt k r.key ≡ true → AllByRecursion (λ s. key_lt k s.key ≡ true) (r ∷ rest)
keys_from k r rest order below = (below, AllByRecursion_weaken _ _ (λ s h. by s (row_keys r s h)) rest order.0)
  where
    by : (s : RowEntry) → (key_lt r.key s.key ≡ true) ⊎ (r.key ≡ s.key) → key_lt k s.key ≡ true
    by s (inl more) = lt_trans k r.key s.key below more
    by s (inr same) = subst (λ (j : List ℕ). key_lt k j ≡ true) same below

pub begins : (g : Segments) (limit : ℕ) (t rest : Rows) (r : RowEntry) → EndsAt g limit t (r ∷ rest) → begins_key (last_row t) r ≡ true
begins g limit t rest r ends = by (begins_key (last_row t) r) (nat_le limit (sum_by estimated_size t) || begins_segment g (last_row t) r) ends
  where
    by : (b c : Bool) → (b && c) ≡ true → b ≡ true
    by true c h = refl
    by false c h = h

last_below : (k j : List ℕ) (rows : Rows) → key_lt k j ≡ true → AllByRecursion (λ s. key_lt s.key j ≡ true) rows → key_lt (last_key k rows) j ≡ true
last_below k j [] h all = h
last_below k j (r ∷ rs) h all = last_below r.key j rs all.0 all.1

-- the last key of a table is below the keys behind it
pub keys_after : (g : Segments) (limit : ℕ) (r : RowEntry) (rs rest : Rows) → AreInOrder ((r ∷ rs) ++ rest) → EndsAt g limit (r ∷ rs) rest → AllByRecursion (λ s. key_lt (last_key r.key rs) s.key ≡ true) rest
keys_after g limit r rs [] order ends = tt
keys_after g limit r rs (s ∷ rest) order ends =
    let below = keys_below (r ∷ rs) rest s order (begins g limit (r ∷ rs) rest s ends) in
    keys_from (last_key r.key rs) s rest (order_behind (r ∷ rs) (s ∷ rest) order) (last_below r.key s.key rs below.0 below.1)

none_of : (k : List ℕ) (rows : Rows) → AllByRecursion (λ s. s.key ≡ k → ⊥) rows → of_key k rows ≡ []
none_of k [] h = refl
none_of k (r ∷ rs) h = by (bytes_eq r.key k) refl (none_of k rs h.1)
  where
    by : (b : Bool) → bytes_eq r.key k ≡ b → of_key k rs ≡ [] → cond b (r ∷ of_key k rs) (of_key k rs) ≡ []
    by true e rest = absurd (h.0 ((bytes_eq-Decides r.key k).0 e))
    by false e rest = rest

-- a key's rows stand on one side
apart : (g : Segments) (limit : ℕ) (t rest : Rows) (k : List ℕ) → AreInOrder (t ++ rest) → EndsAt g limit t rest → (of_key k t ≡ []) ⊎ (of_key k rest ≡ [])
apart g limit t [] k order ends = inr refl
apart g limit t (r ∷ rest) k order ends = by (key_lt k r.key) refl
  where
    by : (b : Bool) → key_lt k r.key ≡ b → (of_key k t ≡ []) ⊎ (of_key k (r ∷ rest) ≡ [])
    by true e = inr (none_of k (r ∷ rest) (AllByRecursion_weaken _ _ (λ s h same. lt_irreflexive k (subst (λ (j : List ℕ). key_lt k j ≡ true) same h)) (r ∷ rest) (keys_from k r rest (order_behind t (r ∷ rest) order) e)))
    by false e = inl (none_of k t (AllByRecursion_weaken _ _ (λ s h same. let f : key_lt k r.key ≡ true = subst (λ (j : List ℕ). key_lt j r.key ≡ true) same h in cc) t (keys_below t rest r order (begins g limit t rest r ends))))

pub versions_cut : (g : Segments) (limit : ℕ) (tables : List Rows) (k : List ℕ) → AreInOrder (flat_map (λ rows. rows) tables) → AreEnded g limit tables → versions_in k tables ≡ versions k (flat_map (λ rows. rows) tables)
versions_cut g limit [] k order ended = refl
versions_cut g limit (t ∷ ts) k order ended =
    ap (λ xs. versions k t ++ xs) (versions_cut g limit ts k (order_behind t rest order) ended.1)
    ∙ by (apart g limit t rest k order ended.0)
    ∙ sym (reverse-append (of_key k t) (of_key k rest))
    ∙ ap reverse (sym (filter-append (λ r. bytes_eq r.key k) t rest))
  where
    rest : Rows
    rest = flat_map (λ rows. rows) ts

    by : (of_key k t ≡ []) ⊎ (of_key k rest ≡ []) → versions k t ++ versions k rest ≡ versions k rest ++ versions k t
    by (inl none) = ap (λ xs. reverse xs ++ versions k rest) none ∙ sym (append-nil (versions k rest)) ∙ sym (ap (λ xs. versions k rest ++ reverse xs) none)
    by (inr none) = ap (λ xs. versions k t ++ reverse xs) none ∙ append-nil (versions k t) ∙ sym (ap (λ xs. reverse xs ++ versions k t) none)
