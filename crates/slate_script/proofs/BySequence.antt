-- Rows by sequence, where those of a table are put among older ones.
use Rattle.std.proofs.Common.{◌≡◌, ℕ, ◌<◌, Bool, true, false, cond, List, [], ◌∷◌, ◌++◌, reverse, nat_lt, bytes_eq, refl, sym, ap, subst, ◌∙◌, arith, append_assoc, append-nil}
use Rattle.std.specs.List.{AllByRecursion}
use Rattle.std.proofs.lemmas.Bool.Decides.{nat_tests}
use Rattle.std.proofs.lemmas.Grind.{flat_map-append}
use Rattle.std.proofs.lemmas.List.{reverse-append}
use Rattle.std.proofs.lemmas.List.Elements.{filter-append}
use Rattle.slate_types.specs.declared.types.RowEntry.{RowEntry}
use Rattle.slate_table.specs.Stored.{insert_row, by_seq}
use Rattle.slate_types.specs.Rows.{of_key}
use Rattle.slate_types.proofs.Lists.{AllByRecursion_append, AllByRecursion_behind, AllByRecursion_front}
use Rattle.slate_db.specs.Model.{Rows, versions, versions_in}
use Rattle.slate_db.specs.Layers.{AreRising}

-- ---- each row

all_inserted : (P : RowEntry → Type 0) (r : RowEntry) (rows : Rows) → P r → AllByRecursion P rows → AllByRecursion P (insert_row r rows)
all_inserted P r [] p h = (p, tt)
all_inserted P r (s ∷ rows) p h = by (nat_lt s.seq r.seq) (all_inserted P r rows p h.1)
  where
    by : (t : Bool) → AllByRecursion P (insert_row r rows) → AllByRecursion P (cond t (s ∷ insert_row r rows) (r ∷ s ∷ rows))
    by true rest = (h.0, rest)
    by false rest = (p, h)

all_by_seq : (P : RowEntry → Type 0) (rows : Rows) → AllByRecursion P rows → AllByRecursion P (by_seq rows)
all_by_seq P [] h = tt
all_by_seq P (r ∷ rows) h = all_inserted P r (by_seq rows) h.0 (all_by_seq P rows h.1)

inserted_all : (P : RowEntry → Type 0) (r : RowEntry) (rows : Rows) → AllByRecursion P (insert_row r rows) → AllByRecursion P (r ∷ rows)
inserted_all P r [] h = h
inserted_all P r (s ∷ rows) h = by (nat_lt s.seq r.seq) h (inserted_all P r rows)
  where
    by : (t : Bool) → AllByRecursion P (cond t (s ∷ insert_row r rows) (r ∷ s ∷ rows)) → (AllByRecursion P (insert_row r rows) → AllByRecursion P (r ∷ rows)) → AllByRecursion P (r ∷ s ∷ rows)
    by true h rest = let all : AllByRecursion P (r ∷ rows) = rest h.1 in (all.0, (h.0, all.1))
    by false h rest = h

by_seq_all : (P : RowEntry → Type 0) (rows : Rows) → AllByRecursion P (by_seq rows) → AllByRecursion P rows
by_seq_all P [] h = tt
by_seq_all P (r ∷ rows) h = let all : AllByRecursion P (r ∷ by_seq rows) = inserted_all P r (by_seq rows) h in (all.0, by_seq_all P rows all.1)

-- ---- rising rows in two parts

abbrev IsBelow : Rows → RowEntry → Type 0
IsBelow rows r = AllByRecursion (λ s. r.seq < s.seq) rows

pub rising_first : (xs ys : Rows) → AreRising (xs ++ ys) → AreRising xs
rising_first [] ys h = tt
rising_first (x ∷ xs) ys h = (AllByRecursion_front _ xs ys h.0, rising_first xs ys h.1)

rising_last : (xs ys : Rows) → AreRising (xs ++ ys) → AreRising ys
rising_last [] ys h = h
rising_last (x ∷ xs) ys h = rising_last xs ys h.1

rising_apart : (xs ys : Rows) → AreRising (xs ++ ys) → AllByRecursion (IsBelow ys) xs
rising_apart [] ys h = tt
rising_apart (x ∷ xs) ys h = (AllByRecursion_behind _ xs ys h.0, rising_apart xs ys h.1)

-- ---- where a row is put

put_last : (r : RowEntry) (rows : Rows) → AllByRecursion (λ s. s.seq < r.seq) rows → insert_row r rows ≡ rows ++ (r ∷ [])
put_last r [] h = refl
put_last r (s ∷ rows) h =
    let below : s.seq < r.seq = h.0 in
    let first : nat_lt s.seq r.seq ≡ true = grind (arith, nat_tests) in
    rw first (ap (λ xs. s ∷ xs) (put_last r rows h.1))

put_before : (r : RowEntry) (rows later : Rows) → IsBelow later r → insert_row r (rows ++ later) ≡ insert_row r rows ++ later
put_before r [] [] h = refl
put_before r [] (s ∷ later) h =
    let below : r.seq < s.seq = h.0 in
    let behind : nat_lt s.seq r.seq ≡ false = grind (arith, nat_tests) in
    rw behind refl
put_before r (s ∷ rows) later h = by (nat_lt s.seq r.seq) (put_before r rows later h)
  where
    by : (t : Bool) → insert_row r (rows ++ later) ≡ insert_row r rows ++ later → cond t (s ∷ insert_row r (rows ++ later)) (r ∷ s ∷ (rows ++ later)) ≡ cond t (s ∷ insert_row r rows) (r ∷ s ∷ rows) ++ later
    by true rest = ap (λ xs. s ∷ xs) rest
    by false rest = refl

below_last : (xs : Rows) (r : RowEntry) (rows : Rows) → AllByRecursion (IsBelow (xs ++ (r ∷ []))) rows → AllByRecursion (λ s. s.seq < r.seq) rows
below_last xs r [] h = tt
below_last xs r (s ∷ rows) h = ((AllByRecursion_behind (λ (x : RowEntry). s.seq < x.seq) xs (r ∷ []) h.0).0, below_last xs r rows h.1)

below_first : (xs ys : Rows) (rows : Rows) → AllByRecursion (IsBelow (xs ++ ys)) rows → AllByRecursion (IsBelow xs) rows
below_first xs ys [] h = tt
below_first xs ys (s ∷ rows) h = (AllByRecursion_front (λ (x : RowEntry). s.seq < x.seq) xs ys h.0, below_first xs ys rows h.1)

-- newest first, before older ones
put_all : (here older : Rows) → AreRising (reverse here) → AllByRecursion (IsBelow (reverse here)) (by_seq older) → by_seq (here ++ older) ≡ by_seq older ++ reverse here
put_all [] older rise below = sym (append-nil (by_seq older))
put_all (r ∷ here) older rise below =
    let turned : reverse (r ∷ here) ≡ reverse here ++ (r ∷ []) = reverse-append (r ∷ []) here in
    let up : AreRising (reverse here ++ (r ∷ [])) = subst AreRising turned rise in
    let under : AllByRecursion (IsBelow (reverse here ++ (r ∷ []))) (by_seq older) = subst (λ (xs : Rows). AllByRecursion (IsBelow xs) (by_seq older)) turned below in
    ap (insert_row r) (put_all here older (rising_first (reverse here) (r ∷ []) up) (below_first (reverse here) (r ∷ []) (by_seq older) under))
    ∙ put_last r (by_seq older ++ reverse here) (AllByRecursion_append _ (by_seq older) (reverse here) (below_last (reverse here) r (by_seq older) under) (below_last [] r (reverse here) (rising_apart (reverse here) (r ∷ []) up)))
    ∙ append_assoc (by_seq older) (reverse here) (r ∷ [])
    ∙ ap (λ xs. by_seq older ++ xs) (sym turned)

put_behind : (rows after older newer : Rows) → AllByRecursion (IsBelow newer) rows → by_seq after ≡ by_seq older ++ newer → by_seq (rows ++ after) ≡ by_seq (rows ++ older) ++ newer
put_behind [] after older newer below is = is
put_behind (r ∷ rows) after older newer below is = ap (insert_row r) (put_behind rows after older newer below.1 is) ∙ put_before r (by_seq (rows ++ older)) newer below.0

-- newer rows among others
put_among : (a here b older : Rows) → by_seq (a ++ b) ≡ older → AreRising (older ++ reverse here) → by_seq (a ++ (here ++ b)) ≡ older ++ reverse here
put_among a here b older is rise =
    let below : AllByRecursion (IsBelow (reverse here)) (a ++ b) = by_seq_all (IsBelow (reverse here)) (a ++ b) (subst (AllByRecursion (IsBelow (reverse here))) (sym is) (rising_apart older (reverse here) rise)) in
    put_behind a (here ++ b) b (reverse here) (AllByRecursion_front _ a b below) (put_all here b (rising_last older (reverse here) rise) (all_by_seq _ b (AllByRecursion_behind _ a b below)))
    ∙ ap (λ xs. xs ++ reverse here) is

-- the rows of a key, where one table more was put among others
pub one_table_more : (k : List ℕ) (layers : List Rows) (a here b rows : Rows) → rows ≡ a ++ b → (AreRising (versions_in k layers) → by_seq (of_key k rows) ≡ versions_in k layers) →
    AreRising (versions_in k (layers ++ (here ∷ []))) → by_seq (of_key k (a ++ (here ++ b))) ≡ versions_in k (layers ++ (here ∷ []))
one_table_more k layers a here b rows is older rise =
    let more : versions_in k (layers ++ (here ∷ [])) ≡ versions_in k layers ++ versions k here = flat_map-append (versions k) layers (here ∷ []) ∙ ap (λ xs. versions_in k layers ++ xs) (append-nil (versions k here)) in
    let up : AreRising (versions_in k layers ++ versions k here) = subst AreRising more rise in
    let parts : of_key k (a ++ (here ++ b)) ≡ of_key k a ++ (of_key k here ++ of_key k b) = filter-append (λ r. bytes_eq r.key k) a (here ++ b) ∙ ap (λ xs. of_key k a ++ xs) (filter-append (λ r. bytes_eq r.key k) here b) in
    let before : by_seq (of_key k a ++ of_key k b) ≡ versions_in k layers =
    ap by_seq (sym (filter-append (λ r. bytes_eq r.key k) a b)) ∙ ap (λ xs. by_seq (of_key k xs)) (sym is) ∙ older (rising_first (versions_in k layers) (versions k here) up) in
    ap by_seq parts ∙ put_among (of_key k a) (of_key k here) (of_key k b) (versions_in k layers) before up ∙ sym more
