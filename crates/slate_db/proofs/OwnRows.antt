-- What a transaction sees of its own operations.
use Rattle.std.proofs.Common.{◌≡◌, ◌≢◌, not, ℕ, Bool, true, false, cond, ◌||◌, List, [], ◌∷◌, ◌++◌, map, reverse, drop, refl, sym, ap, subst, ◌∙◌, append_assoc, Some}
use Rattle.std.specs.Prelude.{Contains}
use Rattle.std.specs.List.{AllByRecursion, list_any}
use Rattle.std.proofs.lemmas.List.{map-append, reverse-append}
use Rattle.std.proofs.lemmas.List.Folds.{list_any-append}
use Rattle.slate_types.specs.declared.types.RowEntry.{RowEntry}
use Rattle.slate_types.specs.Fold.{AreShort, Combine, IsShort, fold_rows, from_last}
use Rattle.slate_types.specs.Rows.{is_base, is_operand, operand}
use Rattle.slate_types.proofs.FoldLaws.{hides_older}
use Rattle.slate_mem.specs.declared.WriteOp.{WriteOp}
use Rattle.slate_mem.specs.declared.WriteOp.TheVariants.{Put, Delete, Merge}
use Rattle.slate_mem.specs.Batch.{Ops, kept, ops_of, replaces}
use Rattle.slate_mem.specs.Lookup.{is_decided, is_merge_among}
use Rattle.slate_mem.specs.RowOf.{own_row}
use Rattle.slate_txn.specs.Named.{find_named}
use Rattle.slate_txn.specs.State.{Tx}
use Rattle.slate_db.specs.Log.{AreFine}
use Rattle.slate_db.specs.Model.{CoreModel, Rows}
use Rattle.slate_db.specs.Readable.{IsOwnRow, decides_own, keeps_merge}
use Rattle.slate_db.proofs.Shown.{contains_here}
use Rattle.slate_db.proofs.Short.{kept_fine}
use Rattle.slate_db.proofs.UnderOwn.{decided_last}
use Rattle.slate_types.proofs.Lists.{AllByRecursion_weaken, AllByRecursion_reverse}

pub own_base : (k : List ℕ) (op : WriteOp) → replaces op ≡ true → is_base (own_row k op) ≡ true
own_base k (Put v o) h = refl
own_base k Delete h = refl
own_base k (Merge v o) h = cc

base_is : (k : List ℕ) (op : WriteOp) → is_base (own_row k op) ≡ replaces op
base_is k (Put v o) = refl
base_is k Delete = refl
base_is k (Merge v o) = refl

pub own_operand : (k : List ℕ) (op : WriteOp) → replaces op ≡ false → is_operand (own_row k op) ≡ true
own_operand k (Put v o) h = cc
own_operand k Delete h = cc
own_operand k (Merge v o) h = refl

-- ---- which of the kept operations decides

behind_none : {X : Type 0} (test : X → Bool) (xs : List X) → list_any test (drop 1 (from_last test xs)) ≡ false
behind_none test [] = refl
behind_none test (x ∷ xs) = by (list_any test xs) refl (behind_none test xs)
  where
    by : (b : Bool) → list_any test xs ≡ b → list_any test (drop 1 (from_last test xs)) ≡ false → list_any test (drop 1 (cond b (from_last test xs) (x ∷ xs))) ≡ false
    by true e rest = rest
    by false e rest = e

turned : (k : List ℕ) (op : WriteOp) (ops : List WriteOp) → map (own_row k) (reverse (op ∷ ops)) ≡ map (own_row k) (reverse ops) ++ (own_row k op ∷ [])
turned k op ops = ap (map (own_row k)) (reverse-append (op ∷ []) ops) ∙ map-append (own_row k) (reverse ops) (op ∷ [])

decides : (k : List ℕ) (xs : List WriteOp) → list_any replaces (drop 1 xs) ≡ false → is_decided (map (own_row k) (reverse xs)) ≡ list_any replaces xs
decides k [] h = refl
decides k (x ∷ xs) h = ap is_decided (turned k x xs) ∙ decided_last (map (own_row k) (reverse xs)) (own_row k x) ∙ base_is k x ∙ with_none (replaces x)
  where
    with_none : (b : Bool) → b ≡ (b || list_any replaces xs)
    with_none true = refl
    with_none false = sym h

-- the rows decide exactly where one of the operations does
pub own_decides : (k : List ℕ) (ops : Ops) → is_decided (map (own_row k) (reverse (kept ops k))) ≡ decides_own k ops
own_decides k ops = decides k (kept ops k) (behind_none replaces (ops_of ops k))

-- ---- rows that decide hide what is older

hidden : (c : Combine) (k : List ℕ) (older : Rows) (xs : List WriteOp) → list_any replaces (drop 1 xs) ≡ false → list_any replaces xs ≡ true → fold_rows c (map (own_row k) xs) ≡ fold_rows c (older ++ map (own_row k) xs)
hidden c k older [] none some = cc
hidden c k older (x ∷ xs) none some = sym (hides_older c older (map (own_row k) xs) (own_row k x) (own_base k x (by (replaces x) some)))
  where
    by : (b : Bool) → (b || list_any replaces xs) ≡ true → b ≡ true
    by true e = refl
    by false e = let clash : false ≡ true = sym none ∙ e in cc

-- own rows, oldest first
own_turned : (k : List ℕ) (xs : List WriteOp) → reverse (map (own_row k) (reverse xs)) ≡ map (own_row k) xs
own_turned k [] = refl
own_turned k (x ∷ xs) = ap reverse (turned k x xs) ∙ reverse-append (map (own_row k) (reverse xs)) (own_row k x ∷ []) ∙ ap (λ rows. own_row k x ∷ rows) (own_turned k xs)

-- ---- what is true of each row

each_among : {X : Type 0} (before xs : List X) → AllByRecursion (Contains (before ++ xs)) xs
each_among before [] = tt
each_among before (x ∷ xs) =
    (contains_here before xs x, subst (λ ys. AllByRecursion (Contains ys) xs) (append_assoc before (x ∷ []) xs) (each_among (before ++ (x ∷ [])) xs))

mapped : (P : RowEntry → Type 0) (k : List ℕ) (xs : List WriteOp) → AllByRecursion (λ op. P (own_row k op)) xs → AllByRecursion P (map (own_row k) xs)
mapped P k [] h = tt
mapped P k (x ∷ xs) h = (h.0, mapped P k xs h.1)

each_operand : (k : List ℕ) (xs : List WriteOp) → list_any replaces xs ≡ false → AllByRecursion (λ op. is_operand (own_row k op) ≡ true) xs
each_operand k [] h = tt
each_operand k (x ∷ xs) h = by (replaces x) refl h (λ none. each_operand k xs none)
  where
    by : (b : Bool) → replaces x ≡ b → (b || list_any replaces xs) ≡ false → (list_any replaces xs ≡ false → AllByRecursion (λ op. is_operand (own_row k op) ≡ true) xs) → AllByRecursion (λ op. is_operand (own_row k op) ≡ true) (x ∷ xs)
    by true e none rest = cc
    by false e none rest = (own_operand k x e, rest none)

each_of_key : (k : List ℕ) (xs : List WriteOp) → AllByRecursion (λ op. (own_row k op).key ≡ k) xs
each_of_key k [] = tt
each_of_key k (x ∷ xs) = (refl, each_of_key k xs)

pub one_decides : (k : List ℕ) (ops : Ops) (op : WriteOp) → kept ops k ≡ op ∷ [] → replaces op ≡ true → decides_own k ops ≡ true
one_decides k ops op is h = ap (list_any replaces) is ∙ ap (λ b. b || false) h

pub plain_alone : (k : List ℕ) (op : WriteOp) → replaces op ≡ true → is_merge_among (own_row k op ∷ []) ≡ false
plain_alone k (Put v o) h = refl
plain_alone k Delete h = refl
plain_alone k (Merge v o) h = cc

-- ---- which of them is a merge

merges_turned : (k : List ℕ) (xs : List WriteOp) → is_merge_among (map (own_row k) (reverse xs)) ≡ list_any (λ op. not (replaces op)) xs
merges_turned k [] = refl
merges_turned k (x ∷ xs) =
    ap is_merge_among (turned k x xs) ∙ list_any-append is_operand (map (own_row k) (reverse xs)) (own_row k x ∷ [])
    ∙ (λ i. merges_turned k xs i || (operand_is k x i || false)) ∙ swapped (list_any (λ op. not (replaces op)) xs) (not (replaces x))
  where
    operand_is : (k : List ℕ) (op : WriteOp) → is_operand (own_row k op) ≡ not (replaces op)
    operand_is k (Put v o) = refl
    operand_is k Delete = refl
    operand_is k (Merge v o) = refl

    swapped : (a b : Bool) → (a || (b || false)) ≡ (b || a)
    swapped true true = refl
    swapped true false = refl
    swapped false true = refl
    swapped false false = refl

module _ (k : List ℕ) (ops : Ops) (own : Rows) (is : own ≡ map (own_row k) (reverse (kept ops k))) where
  of_kept : (P : RowEntry → Type 0) → AllByRecursion (λ op. P (own_row k op)) (kept ops k) → AllByRecursion P own
  of_kept P h = subst (AllByRecursion P) (sym is) (mapped P k (reverse (kept ops k)) (AllByRecursion_reverse (λ op. P (own_row k op)) (kept ops k) h))

  pub oldest_first : reverse own ≡ map (own_row k) (kept ops k)
  oldest_first = ap reverse is ∙ own_turned k (kept ops k)

  pub own_decided : (c : Combine) (older : Rows) → is_decided own ≡ true → fold_rows c (reverse own) ≡ fold_rows c (older ++ map (own_row k) (kept ops k))
  own_decided c older decided =
      ap (fold_rows c) oldest_first
      ∙ hidden c k older (kept ops k) (behind_none replaces (ops_of ops k)) (sym (own_decides k ops) ∙ ap is_decided (sym is) ∙ decided)

  pub own_decide : decides_own k ops ≡ true → is_decided own ≡ true
  own_decide some = ap is_decided is ∙ own_decides k ops ∙ some

  -- where none decides, all are operands
  pub own_operands : is_decided own ≡ false → AllByRecursion (λ r. is_operand r ≡ true) own
  own_operands undecided = of_kept (λ r. is_operand r ≡ true) (each_operand k (kept ops k) (sym (own_decides k ops) ∙ ap is_decided (sym is) ∙ undecided))

  pub own_keys : AllByRecursion (λ r. r.key ≡ k) own
  own_keys = of_kept (λ r. r.key ≡ k) (each_of_key k (kept ops k))

  pub own_short : AreFine ops → AreShort own
  own_short fine = of_kept (λ r. IsShort (operand r)) (kept_fine k ops fine)

  pub own_of_open : (c : CoreModel) (id : List ℕ) (t : Tx) → find_named id c.state.txns ≡ Some t → ops ≡ t.ops → AllByRecursion (IsOwnRow c) own
  own_of_open c id t found same =
      of_kept (IsOwnRow c) (subst (λ (os : Ops). AllByRecursion (λ op. IsOwnRow c (own_row k op)) (kept os k)) (sym same)
      (AllByRecursion_weaken (Contains (kept t.ops k)) (λ op. IsOwnRow c (own_row k op)) (λ op among. record { id = id; tx = t; open_there = found; key = k; op = op; among = among; is = refl }) (kept t.ops k) (each_among [] (kept t.ops k))))

  pub own_merges : keeps_merge k ops ≡ true → is_merge_among own ≡ true
  own_merges some = ap is_merge_among is ∙ merges_turned k (kept ops k) ∙ some

  pub merge_kept : is_merge_among own ≡ true → keeps_merge k ops ≡ true
  merge_kept some = sym (ap is_merge_among is ∙ merges_turned k (kept ops k)) ∙ some

  pub own_some : keeps_merge k ops ≡ true → own ≢ []
  own_some some none = let clash : false ≡ true = sym (ap is_merge_among none) ∙ own_merges some in cc
