-- The rows of a key, oldest first, and what all rows have in common.
use Rattle.std.proofs.Common.{◌≡◌, ℕ, Bool, true, false, cond, List, [], ◌∷◌, ◌++◌, reverse, refl, sym, subst, bytes_eq}
use Rattle.std.specs.List.{AllByRecursion}
use Rattle.std.proofs.lemmas.List.{reverse-append}
use Rattle.std.proofs.lemmas.Slice.Eq.{bytes_eq-Decides}
use Rattle.slate_types.specs.declared.types.RowEntry.{RowEntry}
use Rattle.slate_types.specs.Rows.{operand, of_key}
use Rattle.slate_types.specs.Fold.{AreShort, IsShort}
use Rattle.slate_db.specs.Model.{Rows, versions, versions_in}
use Rattle.slate_types.proofs.Lists.{AllByRecursion_append, AllByRecursion_filter, AllByRecursion_reverse}

pub all_versions : (P : RowEntry → Type 0) (k : List ℕ) (rows : Rows) → AllByRecursion P rows → AllByRecursion P (versions k rows)
all_versions P k rows h = AllByRecursion_reverse P (of_key k rows) (AllByRecursion_filter P (λ r. bytes_eq r.key k) rows h)

pub all_versions_in : (P : RowEntry → Type 0) (k : List ℕ) (layers : List Rows) → AllByRecursion (λ rows. AllByRecursion P rows) layers → AllByRecursion P (versions_in k layers)
all_versions_in P k [] h = tt
all_versions_in P k (rows ∷ layers) h = AllByRecursion_append P (versions k rows) (versions_in k layers) (all_versions P k rows h.0) (all_versions_in P k layers h.1)

pub short_versions : (k : List ℕ) (layers : List Rows) → AllByRecursion AreShort layers → AreShort (versions_in k layers)
short_versions k layers h = all_versions_in (λ r. IsShort (operand r)) k layers h

by_key : (P : RowEntry → Type 0) (rows : Rows) → ((k : List ℕ) → AllByRecursion P (of_key k rows)) → AllByRecursion P rows
by_key P [] h = tt
by_key P (r ∷ rs) h = (head (bytes_eq r.key r.key) ((bytes_eq-Decides r.key r.key).1 refl) (h r.key), by_key P rs (λ k. tail k (bytes_eq r.key k) (h k)))
  where
    head : (b : Bool) → b ≡ true → AllByRecursion P (cond b (r ∷ of_key r.key rs) (of_key r.key rs)) → P r
    head true e h = h.0
    head false e h = cc

    tail : (k : List ℕ) (b : Bool) → AllByRecursion P (cond b (r ∷ of_key k rs) (of_key k rs)) → AllByRecursion P (of_key k rs)
    tail k true h = h.1
    tail k false h = h

-- what is true of each item of a reversed list is so of each of the list
pub twice : {X : Type 0} (P : X → Type 0) (xs : List X) → AllByRecursion P (reverse xs) → AllByRecursion P xs
twice P [] h = tt
twice {X = X} P (x ∷ xs) h = let h2 : AllByRecursion P (reverse xs ++ (x ∷ [])) = subst (AllByRecursion P) (reverse-append (x ∷ []) xs) h in (last (reverse xs) h2, twice P xs (front (reverse xs) h2))
  where
    front : (ys : List X) → AllByRecursion P (ys ++ (x ∷ [])) → AllByRecursion P ys
    front [] h = tt
    front (y ∷ ys) h = (h.0, front ys h.1)

    last : (ys : List X) → AllByRecursion P (ys ++ (x ∷ [])) → P x
    last [] h = h.0
    last (y ∷ ys) h = last ys h.1

-- what is true of each key's rows is so of all
pub all_by_versions : (P : RowEntry → Type 0) (rows : Rows) → ((k : List ℕ) → AllByRecursion P (versions k rows)) → AllByRecursion P rows
all_by_versions P rows h = by_key P rows (λ k. twice P (of_key k rows) (h k))

pub short_by_key : (rows : Rows) → ((k : List ℕ) → AreShort (versions k rows)) → AreShort rows
short_by_key rows h = all_by_versions (λ r. IsShort (operand r)) rows h
