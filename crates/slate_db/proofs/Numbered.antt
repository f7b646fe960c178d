-- Rows at another sequence: those of a commit at one are those at another.
--     first_numbered i n rows      the first i rows are at the sequence n
use Rattle.std.proofs.Common.{◌≡◌, ℕ, zero, suc, ◌<◌, Bool, true, false, cond, ◌||◌, List, [], ◌∷◌, ◌++◌, ◌+◌, length, take, drop, map, set, get_or, arith, Option, Some, None, ℤ, refl, sym, ap, ◌∙◌}
use Rattle.std.specs.Prelude.{option_map, filter_map}
use Rattle.std.specs.List.{AllByRecursion, list_any}
use Rattle.slate_types.specs.declared.types.RowEntry.{RowEntry}
use Rattle.slate_types.specs.declared.types.ValueDeletable.{ValueDeletable}
use Rattle.slate_types.specs.declared.types.ValueDeletable.TheVariants.{Value, Merge, Tombstone}
use Rattle.slate_types.specs.Rows.{is_base, operand, latest, earliest}
use Rattle.slate_types.specs.Fold.{Combine, from_last, onto, value_of_taken, greatest_seq, latest_creation, earliest_expiry, fold_taken, fold_rows}
use Rattle.slate_mem.specs.declared.WriteOp.{WriteOp}
use Rattle.slate_mem.specs.Batch.{Ops, batch_keys, kept}
use Rattle.slate_mem.specs.CommitRows.{commit_rows}
use Rattle.slate_mem.specs.RowOf.{op_row, row_of}
use Rattle.slate_db.specs.Layers.{FitsMemory}
use Rattle.slate_db.specs.Model.{Rows}
use Rattle.slate_db.specs.Prepared.{numbered}
use Rattle.slate_db.proofs.Puts.{all_rows}
use Rattle.slate_mem.proofs.RowOfLaws.{row_has}

abbrev at : ℕ → RowEntry → RowEntry
at n r = record r { seq = n }

-- ---- a loop

abbrev pub first_numbered : ℕ → ℕ → Rows → Rows
first_numbered zero n rows = rows
first_numbered (suc i) n [] = []
first_numbered (suc i) n (r ∷ rs) = record r { seq = n } ∷ first_numbered i n rs

pub all_numbered : (n : ℕ) (rows : Rows) → first_numbered (length rows) n rows ≡ numbered n rows
all_numbered n [] = refl
all_numbered n (r ∷ rs) = ap (λ xs. record r { seq = n } ∷ xs) (all_numbered n rs)

pub one_more : (i n : ℕ) (rows : Rows) (d : RowEntry) → i < length rows → set (first_numbered i n rows) i (record (get_or (first_numbered i n rows) i d) { seq = n }) ≡ first_numbered (suc i) n rows
one_more i n [] d h = absurd (omega (arith, h))
one_more zero n (r ∷ rs) d h = refl
one_more (suc i) n (r ∷ rs) d h = ap (λ xs. record r { seq = n } ∷ xs) (one_more i n rs d (let below : suc i < suc (length rs) = h in omega (arith, below)))

pub as_many : (i n : ℕ) (rows : Rows) → length (first_numbered i n rows) ≡ length rows
as_many zero n rows = refl
as_many (suc i) n [] = refl
as_many (suc i) n (r ∷ rs) = ap suc (as_many i n rs)

-- what a loop over a vector leaves of it
pub left_whole : (n : ℕ) (xs ys : Rows) → length xs ≡ length ys → n ≡ length ys → take n (xs ++ drop (length xs) ys) ≡ xs
left_whole n xs ys same is = ap (λ k. take k (xs ++ drop (length xs) ys)) is ∙ by xs ys same
  where
    by : (xs ys : Rows) → length xs ≡ length ys → take (length ys) (xs ++ drop (length xs) ys) ≡ xs
    by [] [] h = refl
    by [] (y ∷ ys) h = absurd (omega (arith, h))
    by (x ∷ xs) [] h = absurd (omega (arith, h))
    by (x ∷ xs) (y ∷ ys) h = ap (λ zs. x ∷ zs) (by xs ys (let e : suc (length xs) ≡ suc (length ys) = h in omega (arith, e)))

-- ---- a fold

any_numbered : (n : ℕ) (rows : Rows) → list_any is_base (numbered n rows) ≡ list_any is_base rows
any_numbered n [] = refl
any_numbered n (r ∷ rs) = ap (λ b. is_base r || b) (any_numbered n rs)

taken_numbered : (n : ℕ) (rows : Rows) → from_last is_base (numbered n rows) ≡ numbered n (from_last is_base rows)
taken_numbered n [] = refl
taken_numbered n (r ∷ rs) = ap (λ b. cond b (from_last is_base (numbered n rs)) (at n r ∷ numbered n rs)) (any_numbered n rs) ∙ by (list_any is_base rs) (taken_numbered n rs)
  where
    by : (b : Bool) → from_last is_base (numbered n rs) ≡ numbered n (from_last is_base rs) → cond b (from_last is_base (numbered n rs)) (at n r ∷ numbered n rs) ≡ numbered n (cond b (from_last is_base rs) (r ∷ rs))
    by true later = later
    by false later = refl

onto_numbered : (c : Combine) (n : ℕ) (v : List ℕ) (rows : Rows) → onto c v (numbered n rows) ≡ onto c v rows
onto_numbered c n v [] = refl
onto_numbered c n v (r ∷ rs) = onto_numbered c n (c (Some v) (operand r)) rs

value_numbered : (c : Combine) (n : ℕ) (v : ValueDeletable) (rows : Rows) → value_of_taken c v (numbered n rows) ≡ value_of_taken c v rows
value_numbered c n v [] = refl
value_numbered c n (Value v) (r ∷ rs) = ap Value (onto_numbered c n v (r ∷ rs))
value_numbered c n Tombstone (r ∷ rs) = ap Value (onto_numbered c n (c None (operand r)) rs)
value_numbered c n (Merge v) (r ∷ rs) = ap Merge (onto_numbered c n (c None v) (r ∷ rs))

creation_numbered : (n : ℕ) (t : Option ℤ) (rows : Rows) → latest_creation t (numbered n rows) ≡ latest_creation t rows
creation_numbered n t [] = refl
creation_numbered n t (r ∷ rs) = creation_numbered n (latest t r.create_ts) rs

expiry_numbered : (n : ℕ) (t : Option ℤ) (rows : Rows) → earliest_expiry t (numbered n rows) ≡ earliest_expiry t rows
expiry_numbered n t [] = refl
expiry_numbered n t (r ∷ rs) = expiry_numbered n (earliest t r.expire_ts) rs

-- but for its sequence
fold_numbered : (c : Combine) (n : ℕ) (rows : Rows) → option_map (at n) (fold_taken c (numbered n rows)) ≡ option_map (at n) (fold_taken c rows)
fold_numbered c n [] = refl
fold_numbered c n (r ∷ rs) =
    let a = value_numbered c n r.value rs in
    let b = creation_numbered n r.create_ts rs in
    let d = expiry_numbered n r.expire_ts rs in
    λ i. Some (record { key = r.key; value = a i; seq = n; create_ts = b i; expire_ts = d i })

-- ---- a commit

ops_numbered : (k : List ℕ) (d : Option ℕ) (n : ℕ) (now : ℤ) (ops : List WriteOp) → map (op_row k n d now) ops ≡ numbered n (map (op_row k 0 d now) ops)
ops_numbered k d n now [] = refl
ops_numbered k d n now (op ∷ ops) = ap (λ xs. op_row k n d now op ∷ xs) (ops_numbered k d n now ops)

-- a row at its sequence is as it was
same_row : (c : Combine) (d : Option ℕ) (n : ℕ) (now : ℤ) (ops : Ops) (k : List ℕ) → option_map (at n) (row_of c d n now ops k) ≡ row_of c d n now ops k
same_row c d n now ops k = by (row_of c d n now ops k) refl
  where
    by : (o : Option RowEntry) → row_of c d n now ops k ≡ o → option_map (at n) o ≡ o
    by None e = refl
    by (Some r) e = let same : n ≡ r.seq = sym (row_has c d n now ops k r e).1.0 in λ i. Some (record r { seq = same i })

row_numbered : (c : Combine) (d : Option ℕ) (n : ℕ) (now : ℤ) (ops : Ops) (k : List ℕ) → option_map (at n) (row_of c d 0 now ops k) ≡ row_of c d n now ops k
row_numbered c d n now ops k =
    sym (
    ap (λ xs. option_map (at n) (fold_rows c xs)) (ops_numbered k d n now (kept ops k))
    ∙ ap (λ xs. option_map (at n) (fold_taken c xs)) (taken_numbered n (map (op_row k 0 d now) (kept ops k)))
    ∙ fold_numbered c n (from_last is_base (map (op_row k 0 d now) (kept ops k))))
    ∙ same_row c d n now ops k

abbrev found : {X : Type 0} → Option X → List X → List X
found None xs = xs
found (Some x) xs = x ∷ xs

each_numbered : (n : ℕ) (f g : List ℕ → Option RowEntry) → ((k : List ℕ) → option_map (at n) (f k) ≡ g k) → (ks : List (List ℕ)) → numbered n (filter_map f ks) ≡ filter_map g ks
each_numbered n f g same [] = refl
each_numbered n f g same (k ∷ ks) = by (f k) refl (each_numbered n f g same ks)
  where
    by : (o : Option RowEntry) → f k ≡ o → numbered n (filter_map f ks) ≡ filter_map g ks → numbered n (filter_map f (k ∷ ks)) ≡ filter_map g (k ∷ ks)
    by None e later = rw (e, sym (same k) ∙ ap (option_map (at n)) e) later
    by (Some r) e later = rw (e, sym (same k) ∙ ap (option_map (at n)) e) (ap (λ xs. at n r ∷ xs) later)

pub rows_numbered : (c : List ℕ → Combine) (d : Option ℕ) (n : ℕ) (now : ℤ) (ops : Ops) → numbered n (commit_rows c d 0 now ops) ≡ commit_rows c d n now ops
rows_numbered c d n now ops = each_numbered n (λ k. row_of (c k) d 0 now ops k) (λ k. row_of (c k) d n now ops k) (λ k. row_numbered (c k) d n now ops k) (batch_keys ops)

pub fits_numbered : (n : ℕ) (rows : Rows) → AllByRecursion FitsMemory rows → AllByRecursion FitsMemory (numbered n rows)
fits_numbered n [] h = tt
fits_numbered n (r ∷ rs) h = (record { key = h.0.key; value = h.0.value; read = ap (at n) h.0.read }, fits_numbered n rs h.1)
