-- The rows in memory: each fits a table as it is, and those of a key rise.
use Rattle.std.proofs.Common.{◌≡◌, ℕ, ◌+◌, ◌<◌, ◌≤◌, ◌^◌, Bool, true, false, cond, List, [], ◌∷◌, ◌++◌, map, filter, length, Option, Some, None, option_to_list, unwrap_or, ℤ, refl, sym, ap, subst, ◌∙◌, arith, Ordering, Less, Equal, Greater, append_assoc, append-nil, bytes_eq, nat_lt}
use Rattle.std.specs.Prelude.{◌==◌}
use Rattle.std.specs.Ordering.{match_ordering}
use Rattle.std.specs.List.{AllByRecursion}
use Rattle.std.proofs.lemmas.Bool.Decides.{nat_tests}
use Rattle.std.proofs.lemmas.Grind.{flat_map-append}
use Rattle.std.proofs.lemmas.Slice.Eq.{bytes_eq-Decides}
use Rattle.slate_types.specs.declared.error.SlateDBError.{SlateDBError}
use Rattle.slate_types.specs.declared.error.SlateDBError.TheVariants.{EmptyKey, KeyTooLong}
use Rattle.slate_types.specs.declared.types.RowEntry.{RowEntry}
use Rattle.slate_types.specs.declared.types.ValueDeletable.{ValueDeletable}
use Rattle.slate_types.specs.declared.types.ValueDeletable.TheVariants.{Value, Merge, Tombstone}
use Rattle.slate_types.specs.Fold.{Combine, fold_rows, fold_taken, taken, value_of_taken, greatest_seq, latest_creation, earliest_expiry, AreShort, IsShort, KeepsShort}
use Rattle.slate_types.specs.Rows.{is_base, operand, sequenced, sequenced_cmp, of_key}
use Rattle.slate_block.specs.BlockSpelling.{IsKey, as_read}
use Rattle.slate_mem.specs.declared.WriteOp.{WriteOp}
use Rattle.slate_mem.specs.declared.WriteOp.TheVariants.{Put, Delete, Merge as MergeOp}
use Rattle.slate_mem.specs.Batch.{Ops, kept, ops_of, batch_keys, replaces}
use Rattle.slate_mem.specs.CommitRows.{commit_rows}
use Rattle.slate_mem.specs.Refusals.{op_refusal, first_refusal, when, value_refusal}
use Rattle.slate_mem.specs.RowOf.{op_row, row_of}
use Rattle.slate_mem.specs.Table.{put_row, put_rows}
use Rattle.slate_db.specs.Model.{CoreModel, Rows, versions, versions_in, memory}
use Rattle.slate_db.specs.Layers.{FitsMemory, AreRising}
use Rattle.slate_db.specs.Log.{AreFine}
use Rattle.slate_db.proofs.Folds.{row_of_seq}
use Rattle.slate_db.proofs.Puts.{all_rows, versions_more}
use Rattle.slate_mem.proofs.RowOfLaws.{row_has}
use Rattle.slate_db.proofs.Short.{all_from_last, fine_one, fold_short}
use Rattle.slate_db.proofs.Versions.{all_versions_in}
use Rattle.slate_types.proofs.Lists.{AllByRecursion_append, AllByRecursion_behind, AllByRecursion_weaken, AllByRecursion_filter}

-- ---- the row of an operation

some_key : (a b : Bool) (x y : SlateDBError) (rest : List (Option SlateDBError)) → first_refusal (when a x ∷ when b y ∷ rest) ≡ None → (a ≡ false) × (b ≡ false)
some_key true b x y rest h = cc
some_key false true x y rest h = cc
some_key false false x y rest h = (refl, refl)

is_key : (k : List ℕ) (rest : List (Option SlateDBError)) → first_refusal (when (length k == 0) EmptyKey ∷ when (nat_lt 65535 (length k)) (KeyTooLong (length k)) ∷ rest) ≡ None → IsKey k
is_key k rest h =
    let both : ((length k == 0) ≡ false) × (nat_lt 65535 (length k) ≡ false) = some_key (length k == 0) (nat_lt 65535 (length k)) EmptyKey (KeyTooLong (length k)) rest h in
    let a : (length k == 0) ≡ false = both.0 in
    let b : nat_lt 65535 (length k) ≡ false = both.1 in
    let some : 0 < length k = grind (arith, nat_tests) in
    let few : length k < 2 ^ 16 = grind (arith, nat_tests) in
    (some, few)

op_key : (k : List ℕ) (op : WriteOp) → op_refusal k op ≡ None → IsKey k
op_key k (Put v o) h = is_key k (value_refusal v ∷ []) h
op_key k Delete h = is_key k [] h
op_key k (MergeOp v o) h = is_key k (value_refusal v ∷ []) h

-- of a tombstone no expiry is kept
AreRead : Rows → Type 0
AreRead rows = AllByRecursion (λ r. as_read 1 r ≡ r) rows

op_read : (k : List ℕ) (n : ℕ) (d : Option ℕ) (now : ℤ) (op : WriteOp) → as_read 1 (op_row k n d now op) ≡ op_row k n d now op
op_read k n d now (Put v o) = refl
op_read k n d now Delete = refl
op_read k n d now (MergeOp v o) = refl

all_read : (k : List ℕ) (n : ℕ) (d : Option ℕ) (now : ℤ) (ops : List WriteOp) → AreRead (map (op_row k n d now) ops)
unfolding AreRead
all_read k n d now [] = tt
all_read k n d now (op ∷ ops) = (op_read k n d now op, all_read k n d now ops)

-- the row that several rows fold to, by the first one's value
abbrev folded : Combine → RowEntry → RowEntry → Rows → ValueDeletable → RowEntry
folded c x y ys v = record { key = x.key; value = value_of_taken c v (y ∷ ys); seq = greatest_seq x.seq (y ∷ ys); create_ts = latest_creation x.create_ts (y ∷ ys); expire_ts = earliest_expiry x.expire_ts (y ∷ ys) }

read_folded : (c : Combine) (x y : RowEntry) (ys : Rows) (v : ValueDeletable) → as_read 1 (folded c x y ys v) ≡ folded c x y ys v
read_folded c x y ys (Value v) = refl
read_folded c x y ys Tombstone = refl
read_folded c x y ys (Merge v) = refl

fold_read : (c : Combine) (rows : Rows) (r : RowEntry) → AreRead rows → fold_taken c rows ≡ Some r → as_read 1 r ≡ r
unfolding AreRead
fold_read c [] r h e = cc
fold_read c (x ∷ []) r h e = subst (λ (y : RowEntry). as_read 1 y ≡ y) (ap (λ o. unwrap_or o r) e) h.0
fold_read c (x ∷ y ∷ ys) r h e = subst (λ (z : RowEntry). as_read 1 z ≡ z) (ap (λ o. unwrap_or o r) e) (read_folded c x y ys x.value)

-- ---- the rows of a commit

fine_ops : (k : List ℕ) (ops : Ops) → AreFine ops → AllByRecursion (λ op. op_refusal k op ≡ None) (ops_of ops k)
fine_ops k [] fine = tt
fine_ops k (o ∷ os) fine = by (bytes_eq o.0 k) refl (fine_ops k os fine.1)
  where
    by : (b : Bool) → bytes_eq o.0 k ≡ b → AllByRecursion (λ op. op_refusal k op ≡ None) (ops_of os k) →
        AllByRecursion (λ op. op_refusal k op ≡ None) (map (λ p. p.1) (cond b (o ∷ filter (λ p. bytes_eq p.0 k) os) (filter (λ p. bytes_eq p.0 k) os)))
    by true e later = (subst (λ (j : List ℕ). op_refusal j o.1 ≡ None) ((bytes_eq-Decides o.0 k).0 e) fine.0, later)
    by false e later = later

rows_short : (k : List ℕ) (n : ℕ) (d : Option ℕ) (now : ℤ) (ops : List WriteOp) → AllByRecursion (λ op. op_refusal k op ≡ None) ops → AreShort (map (op_row k n d now) ops)
rows_short k n d now [] h = tt
rows_short k n d now (op ∷ ops) h = (fine_one k op h.0, rows_short k n d now ops h.1)

is_short : (o : Option RowEntry) (r : RowEntry) → o ≡ Some r → AreShort (option_to_list o) → IsShort (operand r)
is_short None r e h = cc
is_short (Some x) r e h = subst (λ (y : RowEntry). IsShort (operand y)) (ap (λ o. unwrap_or o r) e) h.0

row_fits : (c : Combine) (d : Option ℕ) (n : ℕ) (now : ℤ) (ops : Ops) (k : List ℕ) (r : RowEntry) → KeepsShort c → AreFine ops → row_of c d n now ops k ≡ Some r → FitsMemory r
unfolding AreRead
row_fits c d n now ops k r keeps fine is = by (kept ops k) (all_from_last (λ op. op_refusal k op ≡ None) replaces (ops_of ops k) (fine_ops k ops fine)) is
  where
    by : (xs : List WriteOp) → AllByRecursion (λ op. op_refusal k op ≡ None) xs → fold_rows c (map (op_row k n d now) xs) ≡ Some r → FitsMemory r
    by [] all e = cc
    by (x ∷ xs) all e = record {
      key = subst IsKey (sym (row_has c d n now ops k r is).0) (op_key k x all.0);
      value = is_short (fold_rows c (map (op_row k n d now) (x ∷ xs))) r e (fold_short c keeps (map (op_row k n d now) (x ∷ xs)) (rows_short k n d now (x ∷ xs) all));
      read = fold_read c (taken (map (op_row k n d now) (x ∷ xs))) r (all_from_last (λ r. as_read 1 r ≡ r) is_base (map (op_row k n d now) (x ∷ xs)) (all_read k n d now (x ∷ xs))) e;
    }

-- c: what an operator makes, which keeps values short
pub commit_fits : (c : List ℕ → Combine) (d : Option ℕ) (n : ℕ) (now : ℤ) (ops : Ops) → ((k : List ℕ) → KeepsShort (c k)) → AreFine ops → AllByRecursion FitsMemory (commit_rows c d n now ops)
commit_fits c d n now ops keeps fine = all_rows FitsMemory (λ k. row_of (c k) d n now ops k) (λ k r is. row_fits (c k) d n now ops k r (keeps k) fine is) (batch_keys ops)

-- ---- rows that are put

put_all : (P : RowEntry → Type 0) (rows : Rows) (row : RowEntry) → AllByRecursion P rows → P row → AllByRecursion P (put_row rows row)
put_all P [] row h p = (p, tt)
put_all P (r ∷ rs) row h p = by (sequenced_cmp (sequenced row) (sequenced r)) (put_all P rs row h.1 p)
  where
    by : (o : Ordering) → AllByRecursion P (put_row rs row) → AllByRecursion P (match_ordering o (row ∷ r ∷ rs) (row ∷ rs) (r ∷ put_row rs row))
    by Less later = (p, h)
    by Equal later = (p, h.1)
    by Greater later = (h.0, later)

pub puts_all : (P : RowEntry → Type 0) (rows more : Rows) → AllByRecursion P rows → AllByRecursion P more → AllByRecursion P (put_rows rows more)
puts_all P rows [] h hs = h
puts_all P rows (m ∷ more) h hs = puts_all P (put_row rows m) more (put_all P rows m h hs.0) hs.1

-- ---- sequences rise

rising_end : (xs : Rows) (r : RowEntry) → AreRising xs → AllByRecursion (λ s. s.seq < r.seq) xs → AreRising (xs ++ (r ∷ []))
rising_end [] r h hs = (tt, tt)
rising_end (x ∷ xs) r h hs = (AllByRecursion_append (λ s. x.seq < s.seq) xs (r ∷ []) h.0 (hs.0, tt), rising_end xs r h.1 hs.1)

rising_option : (xs : Rows) (n : ℕ) (o : Option RowEntry) → AreRising xs → AllByRecursion (λ s. s.seq < n) xs → AllByRecursion (λ r. r.seq ≡ n) (option_to_list o) → AreRising (xs ++ option_to_list o)
rising_option xs n None h hs is = subst (λ (ys : Rows). AreRising ys) (sym (append-nil xs)) h
rising_option xs n (Some r) h hs is = rising_end xs r h (AllByRecursion_weaken _ _ (λ s below. let e : r.seq ≡ n = is.0 in let b : s.seq < n = below in omega arith) xs hs)

pub rising_behind : (xs ys : Rows) → AreRising (xs ++ ys) → AreRising ys
rising_behind [] ys h = h
rising_behind (x ∷ xs) ys h = rising_behind xs ys h.1

-- the rows of a key in memory, with those of a commit more
memory_more : (c : CoreModel) (f : List ℕ → Combine) (d : Option ℕ) (n : ℕ) (now : ℤ) (ops : Ops) (k : List ℕ) → AllByRecursion (λ r. r.seq < n) (of_key k c.active) →
    versions_in k (c.frozen ++ (put_rows c.active (commit_rows f d n now ops) ∷ [])) ≡ versions_in k (memory c) ++ option_to_list (row_of (f k) d n now ops k)
memory_more c f d n now ops k older =
    flat_map-append (versions k) c.frozen (rows ∷ [])
    ∙ ap (λ xs. versions_in k c.frozen ++ xs) (append-nil (versions k rows) ∙ versions_more f d n now ops c.active k older ∙ ap (λ xs. xs ++ option_to_list (row_of (f k) d n now ops k)) (sym (append-nil (versions k c.active))))
    ∙ sym (append_assoc (versions_in k c.frozen) (versions_in k (c.active ∷ [])) (option_to_list (row_of (f k) d n now ops k)))
    ∙ ap (λ xs. xs ++ option_to_list (row_of (f k) d n now ops k)) (sym (flat_map-append (versions k) c.frozen (c.active ∷ [])))
  where
    rows : Rows
    rows = put_rows c.active (commit_rows f d n now ops)

pub rise_more : (c : CoreModel) (f : List ℕ → Combine) (d : Option ℕ) (n : ℕ) (now : ℤ) (ops : Ops) → AllByRecursion (λ rows. AllByRecursion (λ r. r.seq ≤ n) rows) (memory c) → ((k : List ℕ) → AreRising (versions_in k (memory c))) →
    (k : List ℕ) → AreRising (versions_in k (c.frozen ++ (put_rows c.active (commit_rows f d (n + 1) now ops) ∷ [])))
rise_more c f d n now ops within rise k =
    subst (λ (xs : Rows). AreRising xs) (sym (memory_more c f d (n + 1) now ops k (AllByRecursion_filter _ (λ r. bytes_eq r.key k) c.active (AllByRecursion_weaken _ _ below c.active (AllByRecursion_behind _ c.frozen (c.active ∷ []) within).0))))
    (rising_option (versions_in k (memory c)) (n + 1) (row_of (f k) d (n + 1) now ops k) (rise k) (AllByRecursion_weaken _ _ below _ (all_versions_in (λ r. r.seq ≤ n) k (memory c) within)) (row_of_seq (f k) d (n + 1) now ops k))
  where
    below : (r : RowEntry) → r.seq ≤ n → r.seq < n + 1
    below r h = omega arith

-- the rows of a commit have its sequence
pub commit_within : (c : List ℕ → Combine) (d : Option ℕ) (n : ℕ) (now : ℤ) (ops : Ops) → AllByRecursion (λ r. r.seq ≤ n) (commit_rows c d n now ops)
commit_within c d n now ops = all_rows (λ r. r.seq ≤ n) (λ k. row_of (c k) d n now ops k) (λ k r is. by (row_of (c k) d n now ops k) r (row_of_seq (c k) d n now ops k) is) (batch_keys ops)
  where
    by : (o : Option RowEntry) (r : RowEntry) → AllByRecursion (λ x. x.seq ≡ n) (option_to_list o) → o ≡ Some r → r.seq ≤ n
    by None r h e = cc
    by (Some x) r h e = let same : x.seq ≡ r.seq = ap (λ o. (unwrap_or o r).seq) e in let s : x.seq ≡ n = h.0 in omega arith
