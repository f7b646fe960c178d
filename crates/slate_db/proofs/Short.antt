-- Values stay short under a fold.
use Rattle.std.proofs.Common.{◌≡◌, ℕ, Bool, true, false, cond, List, [], ◌∷◌, ◌++◌, map, filter, Option, Some, None, option_to_list, ℤ, bytes_eq}
use Rattle.std.specs.List.{AllByRecursion, list_any, cons_option}
use Rattle.slate_types.specs.declared.types.RowEntry.{RowEntry}
use Rattle.slate_types.specs.declared.types.ValueDeletable.{ValueDeletable}
use Rattle.slate_types.specs.declared.types.ValueDeletable.TheVariants.{Value, Merge, Tombstone}
use Rattle.slate_types.specs.Rows.{is_base, bytes_of, operand}
use Rattle.slate_types.specs.Fold.{Combine, fold_rows, fold_taken, taken, from_last, onto, value_of_taken, AreShort, IsShort, KeepsShort}
use Rattle.slate_mem.specs.declared.WriteOp.{WriteOp}
use Rattle.slate_mem.specs.Batch.{Ops, kept, replaces, op_value, ops_of}
use Rattle.slate_mem.specs.RowOf.{op_row, own_row}
use Rattle.slate_txn.specs.State.{Rules, Commit, combine_at}
use Rattle.slate_txn.specs.Reads.{key_rows}
use Rattle.slate_db.specs.Log.{AreFine}
use Rattle.slate_mem.specs.declared.WriteOp.TheVariants.{Put, Delete, Merge as MergeOp}
use Rattle.slate_mem.specs.Refusals.{op_refusal, first_refusal, when}
use Rattle.slate_types.specs.declared.error.SlateDBError.{SlateDBError}
use Rattle.slate_types.specs.declared.error.SlateDBError.TheVariants.{EmptyKey, KeyTooLong, ValueTooLong}
use Rattle.std.specs.Prelude.{◌==◌}
use Rattle.std.proofs.lemmas.Bool.Decides.{nat_tests}
use Rattle.std.proofs.Common.{◌≤◌, ◌-◌, ◌^◌, length, refl, arith, nat_lt}

abbrev pub AreShortOps : Ops → Type 0
AreShortOps ops = AllByRecursion (λ o. IsShort (bytes_of (op_value o.1))) ops

pub all_from_last : {X : Type 0} (P : X → Type 0) (t : X → Bool) (xs : List X) → AllByRecursion P xs → AllByRecursion P (from_last t xs)
all_from_last P t [] h = tt
all_from_last P t (x ∷ xs) h = by (list_any t xs) (all_from_last P t xs h.1)
  where
    by : (b : Bool) → AllByRecursion P (from_last t xs) → AllByRecursion P (cond b (from_last t xs) (x ∷ xs))
    by true rest = rest
    by false rest = h

onto_short : (c : Combine) → KeepsShort c → (v : List ℕ) (rs : List RowEntry) → IsShort v → AreShort rs → IsShort (onto c v rs)
onto_short c keeps v [] h hs = h
onto_short c keeps v (r ∷ rs) h hs = onto_short c keeps (c (Some v) (operand r)) rs (keeps (Some v) (operand r) h hs.0) hs.1

pub value_short : (c : Combine) → KeepsShort c → (v : ValueDeletable) (rs : List RowEntry) → IsShort (bytes_of v) → AreShort rs → IsShort (bytes_of (value_of_taken c v rs))
value_short c keeps v [] h hs = h
value_short c keeps (Value v) (r ∷ rs) h hs = onto_short c keeps v (r ∷ rs) h hs
value_short c keeps Tombstone (r ∷ rs) h hs = onto_short c keeps (c None (operand r)) rs (keeps None (operand r) tt hs.0) hs.1
value_short c keeps (Merge v) (r ∷ rs) h hs = onto_short c keeps (c None v) (r ∷ rs) (keeps None v tt h) hs

pub fold_short : (c : Combine) → KeepsShort c → (rows : List RowEntry) → AreShort rows → AreShort (option_to_list (fold_rows c rows))
fold_short c keeps rows h = by (taken rows) (all_from_last (λ r. IsShort (operand r)) is_base rows h)
  where
    by : (rs : List RowEntry) → AreShort rs → AreShort (option_to_list (fold_taken c rs))
    by [] h = tt
    by (r ∷ rs) h = (value_short c keeps r.value rs h.0 h.1, tt)

ops_short : (k : List ℕ) (ops : Ops) → AreShortOps ops → AllByRecursion (λ op. IsShort (bytes_of (op_value op))) (ops_of ops k)
ops_short k [] h = tt
ops_short k (o ∷ os) h = by (bytes_eq o.0 k) (ops_short k os h.1)
  where
    by : (b : Bool) → AllByRecursion (λ op. IsShort (bytes_of (op_value op))) (ops_of os k) → AllByRecursion (λ op. IsShort (bytes_of (op_value op))) (map (λ o. o.1) (cond b (o ∷ filter (λ o. bytes_eq o.0 k) os) (filter (λ o. bytes_eq o.0 k) os)))
    by true rest = (h.0, rest)
    by false rest = rest

kept_short : (k : List ℕ) (ops : Ops) → AreShortOps ops → AllByRecursion (λ op. IsShort (bytes_of (op_value op))) (kept ops k)
kept_short k ops h = all_from_last _ replaces (ops_of ops k) (ops_short k ops h)

rows_short : (k : List ℕ) (n : ℕ) (d : Option ℕ) (now : ℤ) (ops : List WriteOp) → AllByRecursion (λ op. IsShort (bytes_of (op_value op))) ops → AreShort (map (op_row k n d now) ops)
rows_short k n d now [] h = tt
rows_short k n d now (o ∷ os) h = (h.0, rows_short k n d now os h.1)

own_rows_short : (k : List ℕ) (ops : List WriteOp) → AllByRecursion (λ op. IsShort (bytes_of (op_value op))) ops → AreShort (map (own_row k) ops)
own_rows_short k [] h = tt
own_rows_short k (o ∷ os) h = (h.0, own_rows_short k os h.1)

cons_short : (o : Option RowEntry) (rows : List RowEntry) → AreShort (option_to_list o) → AreShort rows → AreShort (cons_option o rows)
cons_short None rows h k = k
cons_short (Some r) rows h k = (h.0, k)

pub commits_short : (r : Rules) (k : List ℕ) → KeepsShort (combine_at r k) → (cs : List Commit) → AllByRecursion (λ x. AreShortOps x.ops) cs → AreShort (key_rows r k cs)
commits_short r k keeps [] h = tt
commits_short r k keeps (c ∷ cs) h =
    cons_short _ (key_rows r k cs) (fold_short (combine_at r k) keeps _ (rows_short k c.seq r.default_millis c.now (kept c.ops k) (kept_short k c.ops h.0))) (commits_short r k keeps cs h.1)

-- operations that are not refused by themselves have short values
last_when : (a b c : Bool) (x y z : SlateDBError) → first_refusal (when a x ∷ when b y ∷ when c z ∷ []) ≡ None → c ≡ false
last_when true b c x y z h = cc
last_when false true c x y z h = cc
last_when false false true x y z h = cc
last_when false false false x y z h = refl

within : (v : List ℕ) → nat_lt (2 ^ 32 - 1) (length v) ≡ false → IsShort v
within v h = let k : length v ≤ 2 ^ 32 - 1 = grind (arith, nat_tests) in k

pub fine_one : (k : List ℕ) (op : WriteOp) → op_refusal k op ≡ None → IsShort (bytes_of (op_value op))
fine_one k (Put v o) h = within v (last_when (length k == 0) (nat_lt 65535 (length k)) (nat_lt (2 ^ 32 - 1) (length v)) EmptyKey (KeyTooLong (length k)) (ValueTooLong (length v)) h)
fine_one k Delete h = omega arith
fine_one k (MergeOp v o) h = within v (last_when (length k == 0) (nat_lt 65535 (length k)) (nat_lt (2 ^ 32 - 1) (length v)) EmptyKey (KeyTooLong (length k)) (ValueTooLong (length v)) h)

pub fine_short : (ops : Ops) → AreFine ops → AreShortOps ops
fine_short [] h = tt
fine_short (o ∷ os) h = (fine_one o.0 o.1 h.0, fine_short os h.1)

-- the same of own operations of a key
pub kept_fine : (k : List ℕ) (ops : Ops) → AreFine ops → AllByRecursion (λ op. IsShort (bytes_of (op_value op))) (kept ops k)
kept_fine k ops h = kept_short k ops (fine_short ops h)
