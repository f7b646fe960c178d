-- What the row of a commit has of the commit.
use Rattle.std.proofs.Common.{◌≡◌, ℕ, max, Bool, true, false, cond, List, [], ◌∷◌, map, Option, Some, unwrap_or, ℤ, refl, ap, subst, ◌∙◌, arith}
use Rattle.std.specs.Prelude.{int_lt}
use Rattle.std.specs.Int.{int_max}
use Rattle.std.specs.List.{list_any, AllByRecursion}
use Rattle.slate_types.specs.declared.types.RowEntry.{RowEntry}
use Rattle.slate_types.specs.Rows.{is_base, latest}
use Rattle.slate_types.specs.Fold.{Combine, from_last, taken, fold_taken, greatest_seq, latest_creation}
use Rattle.slate_mem.specs.declared.WriteOp.{WriteOp}
use Rattle.slate_mem.specs.Batch.{Ops, kept}
use Rattle.slate_mem.specs.RowOf.{op_row, row_of}

abbrev Has : List ℕ → ℕ → ℤ → RowEntry → Type 0
Has k n now r = (r.key ≡ k) × ((r.seq ≡ n) × (r.create_ts ≡ Some now))

rows_have : (k : List ℕ) (n : ℕ) (default_millis : Option ℕ) (now : ℤ) (ops : List WriteOp) → AllByRecursion (Has k n now) (map (op_row k n default_millis now) ops)
rows_have k n default_millis now [] = tt
rows_have k n default_millis now (o ∷ os) = ((refl, (refl, refl)), rows_have k n default_millis now os)

pub from_last_all : {A : Type 0} (P : A → Type 0) (test : A → Bool) (xs : List A) → AllByRecursion P xs → AllByRecursion P (from_last test xs)
from_last_all P test [] h = h
from_last_all P test (x ∷ xs) h = by (list_any test xs) (from_last_all P test xs h.1)
  where
    by : (b : Bool) → AllByRecursion P (from_last test xs) → AllByRecursion P (cond b (from_last test xs) (x ∷ xs))
    by true later = later
    by false later = h

same_max : (n : ℕ) → max n n ≡ n
same_max n = omega arith

same_int_max : (z : ℤ) → int_max z z ≡ z
same_int_max z = by (int_lt z z)
  where
    by : (t : Bool) → cond t z z ≡ z
    by true = refl
    by false = refl

same_seq : (k : List ℕ) (n : ℕ) (now : ℤ) (rows : List RowEntry) → AllByRecursion (Has k n now) rows → greatest_seq n rows ≡ n
same_seq k n now [] h = refl
same_seq k n now (r ∷ rs) h = ap (λ m. greatest_seq m rs) (ap (λ m. max n m) h.0.1.0 ∙ same_max n) ∙ same_seq k n now rs h.1

same_creation : (k : List ℕ) (n : ℕ) (now : ℤ) (rows : List RowEntry) → AllByRecursion (Has k n now) rows → latest_creation (Some now) rows ≡ Some now
same_creation k n now [] h = refl
same_creation k n now (r ∷ rs) h =
    ap (λ t. latest_creation t rs) (ap (λ t. latest (Some now) t) h.0.1.1 ∙ ap Some (same_int_max now)) ∙ same_creation k n now rs h.1

taken_has : (c : Combine) (k : List ℕ) (n : ℕ) (now : ℤ) (rows : List RowEntry) (r : RowEntry) → AllByRecursion (Has k n now) rows → fold_taken c rows ≡ Some r → Has k n now r
taken_has c k n now [] r h e = cc
taken_has c k n now (x ∷ xs) r h e =
    subst (Has k n now) (ap (λ o. unwrap_or o x) e)
    (h.0.0, (ap (λ m. greatest_seq m xs) h.0.1.0 ∙ same_seq k n now xs h.1, ap (λ t. latest_creation t xs) h.0.1.1 ∙ same_creation k n now xs h.1))

pub row_has : (c : Combine) (default_millis : Option ℕ) (n : ℕ) (now : ℤ) (ops : Ops) (k : List ℕ) (r : RowEntry) → row_of c default_millis n now ops k ≡ Some r → Has k n now r
row_has c default_millis n now ops k r e =
    taken_has c k n now (taken rows) r (from_last_all (Has k n now) is_base rows (rows_have k n default_millis now (kept ops k))) e
  where
    rows : List RowEntry
    rows = map (op_row k n default_millis now) (kept ops k)
