-- The rows that the operations of a batch fold to, key by key.
use Rattle.std.proofs.Common.{◌≡◌, ℕ, Bool, true, false, cond, ◌||◌, List, [], ◌∷◌, ◌++◌, length, map, filter_map, reverse, Option, Some, None, option_to_list, ℤ, refl, sym, ap, subst, ◌∙◌, append_assoc, arith, inl, inr}
use Rattle.std.specs.Prelude.{◌⊎◌, Result, Ok, Err, IfErr, IsOkUnless}
use Rattle.std.specs.List.{list_any, cons_option, AllByRecursion}
use Rattle.std.specs.Map.{keys_of}
use Rattle.std.proofs.lemmas.List.{reverse-append, reverse-reverse, map-append}
use Rattle.smallvec.specs.SmallVec.{SmallVec}
use Rattle.slate_types.specs.declared.error.SlateDBError.{SlateDBError}
use Rattle.slate_types.specs.declared.error.SlateDBError.TheVariants.{OutOfMemory}
use Rattle.slate_types.specs.declared.error.SlateDBError.TheVariants as errors
use Rattle.slate_types.specs.declared.types.RowEntry.{RowEntry}
use Rattle.slate_types.specs.Rows.{is_base}
use Rattle.slate_types.specs.Fold.{Combine, from_last, fold_rows}
use Rattle.slate_mem.specs.declared.WriteOp.{WriteOp}
use Rattle.slate_mem.specs.declared.WriteOp.TheVariants.{Put, Delete, Merge}
use Rattle.slate_mem.specs.declared.batch_iterator.Stamps.{Stamps}
use Rattle.slate_mem.specs.Batch.{replaces}
use Rattle.slate_mem.specs.BatchRows.{stamped, folded_entries}
use Rattle.slate_mem.specs.CommitRows.{commit_rows}
use Rattle.slate_mem.specs.Lookup.{IsCallback}
use Rattle.slate_mem.specs.Kept.{Entries, items_at, listed, IsKept, IsWhole}
use Rattle.slate_mem.specs.RowOf.{op_row, row_at}
use Rattle.slate_mem.specs.Table.{to_base}
use Rattle.slate_mem.proofs.BatchRowLaws.{key_stamped}
use Rattle.slate_mem.proofs.KeptLaws.{Gives, gives_each, kept_listed, keys_listed, rows_listed}
use Rattle.slate_mem.proofs.MemLaws.{taken_newest}

-- ---- the rows of a key

stamped_keys : (s : Stamps) (k : List ℕ) (ops : List WriteOp) → AllByRecursion (λ (r : RowEntry). r.key ≡ k) (map (stamped s k) ops)
stamped_keys s k [] = tt
stamped_keys s k (op ∷ ops) = (key_stamped s k op, stamped_keys s k ops)

turned_map : {A B : Type 0} (f : A → B) (xs : List A) → reverse (map f (reverse xs)) ≡ map f xs
turned_map f [] = refl
turned_map f (x ∷ xs) =
    ap (λ ys. reverse (map f ys)) (reverse-append (x ∷ []) xs)
    ∙ ap reverse (map-append f (reverse xs) (x ∷ []))
    ∙ reverse-append (map f (reverse xs)) (f x ∷ [])
    ∙ ap (λ ys. f x ∷ ys) (turned_map f xs)

base_at : (s : Stamps) (k : List ℕ) (op : WriteOp) → is_base (stamped s k op) ≡ replaces op
base_at s k op = by s.create_ts op
  where
    by : (moment : Option ℤ) (op : WriteOp) → is_base (row_at k s.seq s.default_ttl_millis moment op) ≡ replaces op
    by None (Put v o) = refl
    by None Delete = refl
    by None (Merge v o) = refl
    by (Some now) (Put v o) = refl
    by (Some now) Delete = refl
    by (Some now) (Merge v o) = refl

any_base : (s : Stamps) (k : List ℕ) (ops : List WriteOp) → list_any is_base (map (stamped s k) ops) ≡ list_any replaces ops
any_base s k [] = refl
any_base s k (op ∷ ops) = λ i. base_or (base_at s k op i) (any_base s k ops i)
  where
    base_or : Bool → Bool → Bool
    base_or a b = a || b

last_map : (s : Stamps) (k : List ℕ) (ops : List WriteOp) → from_last is_base (map (stamped s k) ops) ≡ map (stamped s k) (from_last replaces ops)
last_map s k [] = refl
last_map s k (op ∷ ops) =
    ap (λ b. cond b (from_last is_base (map (stamped s k) ops)) (stamped s k op ∷ map (stamped s k) ops)) (any_base s k ops)
    ∙ by (list_any replaces ops) (last_map s k ops)
  where
    by : (b : Bool) → from_last is_base (map (stamped s k) ops) ≡ map (stamped s k) (from_last replaces ops) →
        cond b (from_last is_base (map (stamped s k) ops)) (stamped s k op ∷ map (stamped s k) ops) ≡ map (stamped s k) (cond b (from_last replaces ops) (op ∷ ops))
    by true later = later
    by false later = refl

-- the rows of kept operations, newest first
pub record OwnRows (s : Stamps) (k : List ℕ) (ops : List WriteOp) (own : List RowEntry) : Type 0 where
  pub keys : AllByRecursion (λ (r : RowEntry). r.key ≡ k) own
  pub based : to_base own ≡ own
  pub turned : reverse own ≡ map (stamped s k) ops

pub own_rows : (s : Stamps) (k : List ℕ) (ops : List WriteOp) (own : List RowEntry) → own ≡ map (stamped s k) (reverse ops) → IsKept ops → OwnRows s k ops own
own_rows s k ops own is kept = record {
  keys = subst (AllByRecursion (λ (r : RowEntry). r.key ≡ k)) (sym is) (stamped_keys s k (reverse ops));
  based = sym (reverse-reverse (to_base own)) ∙ ap reverse (taken_newest own ∙ ap (from_last is_base) turned ∙ last_map s k ops ∙ ap (map (stamped s k)) kept.1 ∙ sym turned) ∙ reverse-reverse own;
  turned = turned;
}
  where
    turned : reverse own ≡ map (stamped s k) ops
    turned = ap reverse is ∙ turned_map (stamped s k) ops

-- the row of a lone operation
pub lone_row : (c : Combine) (s : Stamps) (k : List ℕ) (ops : List WriteOp) → length ops ≡ 1 → map (stamped s k) (reverse ops) ≡ option_to_list (fold_rows c (map (stamped s k) ops))
lone_row c s k [] one = absurd cc
lone_row c s k (op ∷ []) one = refl
lone_row c s k (a ∷ b ∷ ops) one = absurd (omega (arith, one))

-- ---- one key more

pub one_key : (c : List ℕ → Combine) (s : Stamps) (e : List ℕ × SmallVec WriteOp) (es : Entries) (before after : List RowEntry) → after ≡ before ++ option_to_list (fold_rows (c e.0) (map (stamped s e.0) e.1.items)) →
    after ++ folded_entries c s es ≡ before ++ folded_entries c s (e ∷ es)
one_key c s e es before after is =
    ap (λ xs. xs ++ folded_entries c s es) is
    ∙ append_assoc before (option_to_list (fold_rows (c e.0) (map (stamped s e.0) e.1.items))) (folded_entries c s es)
    ∙ ap (λ xs. before ++ xs) (listed_option (fold_rows (c e.0) (map (stamped s e.0) e.1.items)) (folded_entries c s es))
  where
    listed_option : (o : Option RowEntry) (rows : List RowEntry) → option_to_list o ++ rows ≡ cons_option o rows
    listed_option None rows = refl
    listed_option (Some r) rows = refl

-- ---- the rows of a commit

by_entries : (f : List ℕ → List WriteOp) (c : List ℕ → Combine) (default_millis : Option ℕ) (n : ℕ) (now : ℤ) (es : Entries) → Gives f es →
    filter_map (λ k. fold_rows (c k) (map (op_row k n default_millis now) (f k))) (keys_of es) ≡ folded_entries c (record { seq = n; create_ts = Some now; default_ttl_millis = default_millis }) es
by_entries f c default_millis n now [] h = refl
by_entries f c default_millis n now (e ∷ es) h = λ i. cons_option (fold_rows (c e.0) (map (op_row e.0 n default_millis now) (h.0 i))) (by_entries f c default_millis n now es h.1 i)

pub rows_folded : (c : List ℕ → Combine) (default_millis : Option ℕ) (n : ℕ) (now : ℤ) (es : Entries) (held : Bool) → IsWhole es held →
    commit_rows c default_millis n now (listed es) ≡ folded_entries c (record { seq = n; create_ts = Some now; default_ttl_millis = default_millis }) es
rows_folded c default_millis n now es held w =
    (λ i. filter_map (λ k. fold_rows (c k) (map (op_row k n default_millis now) (kept_listed es k w.rising w.kept i))) (keys_listed es w.rising w.kept i))
    ∙ by_entries (items_at es) c default_millis n now es (gives_each es w.rising)

-- where no merge was taken, whatever the operator does
pub any_operator : (c d : List ℕ → Combine) (default_millis : Option ℕ) (n : ℕ) (now : ℤ) (es : Entries) → IsWhole es false → commit_rows c default_millis n now (listed es) ≡ commit_rows d default_millis n now (listed es)
any_operator c d default_millis n now es w = rows_listed c default_millis n now es w ∙ sym (rows_listed d default_millis n now es w)

-- ---- without an operator

no_fault : (e : SlateDBError) → (e ≡ OutOfMemory) ⊎ IsCallback 0 0 e → e ≡ OutOfMemory
no_fault e (inl is) = is
no_fault (errors.Callback m) (inr rose) = absurd (omega (arith, rose))
no_fault (errors.TransactionConflict _) (inr rose) = absurd rose
no_fault (errors.IncompatibleMergeTtls _ _ _) (inr rose) = absurd rose
no_fault (errors.InvalidSegmentPrefix _ _) (inr rose) = absurd rose
no_fault errors.EmptyKey (inr rose) = absurd rose
no_fault (errors.KeyTooLong _) (inr rose) = absurd rose
no_fault (errors.ValueTooLong _) (inr rose) = absurd rose
no_fault errors.InvalidRange (inr rose) = absurd rose
no_fault (errors.ChecksumMismatch _ _) (inr rose) = absurd rose
no_fault errors.MergeOperatorMissing (inr rose) = absurd rose
no_fault (errors.EmptySegmentPrefix _) (inr rose) = absurd rose
no_fault (errors.UnknownTransaction _) (inr rose) = absurd rose
no_fault (errors.DuplicateTransaction _) (inr rose) = absurd rose
no_fault errors.SequenceExhausted (inr rose) = absurd rose
no_fault (errors.ScriptSyntax _) (inr rose) = absurd rose
no_fault errors.ScriptTooLong (inr rose) = absurd rose
no_fault errors.ReadFault (inr rose) = absurd rose
no_fault errors.WriteFault (inr rose) = absurd rose
no_fault errors.StoreFault (inr rose) = absurd rose
no_fault errors.EmptyBatch (inr rose) = absurd rose
no_fault errors.BlockTransformError (inr rose) = absurd rose
no_fault (errors.EmptySSTable _) (inr rose) = absurd rose
no_fault (errors.EmptyBlockMeta _) (inr rose) = absurd rose
no_fault (errors.InvalidVersion _) (inr rose) = absurd rose
no_fault (errors.InvalidRowFlags _) (inr rose) = absurd rose
no_fault (errors.InvalidFilterBlock _) (inr rose) = absurd rose
no_fault (errors.CorruptTable _) (inr rose) = absurd rose
no_fault (errors.UnsupportedCompression _) (inr rose) = absurd rose
no_fault (errors.BlockOutOfRange _ _) (inr rose) = absurd rose
no_fault errors.EmptyBlock (inr rose) = absurd rose
no_fault errors.IteratorNotInitialized (inr rose) = absurd rose
no_fault (errors.SeekKeyOutOfKeyRange _) (inr rose) = absurd rose
no_fault (errors.InvalidSequenceOrder _ _) (inr rose) = absurd rose
no_fault (errors.LimitReached _) (inr rose) = absurd rose
no_fault errors.OutOfMemory (inr rose) = absurd rose

pub only_memory : {X : Type 0} (r : Result X SlateDBError) → IfErr r (λ e. (e ≡ OutOfMemory) ⊎ IsCallback 0 0 e) → IsOkUnless r OutOfMemory
only_memory (Ok x) h = tt
only_memory (Err e) h = no_fault e h
