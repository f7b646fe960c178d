-- Rows of a key, newest first, and their fold.
use Rattle.std.proofs.Common.{◌≡◌, ℕ, Bool, true, false, ◌||◌, List, [], ◌∷◌, ◌++◌, reverse, Option, Some, None, refl, sym, ap, subst, not, ◌∙◌}
use Rattle.std.specs.List.{list_any}
use Rattle.std.proofs.lemmas.List.{reverse-append}
use Rattle.slate_types.specs.declared.types.RowEntry.{RowEntry}
use Rattle.slate_types.specs.Rows.{is_operand}
use Rattle.slate_types.specs.Fold.{Combine, IsLawful, KeepsShort, fold_rows}
use Rattle.slate_types.specs.Join.{AreOf, join}
use Rattle.slate_types.proofs.FoldLaws.{hides_older, fold_join, AreOf_join}

abbrev pub first_of : List RowEntry → Option RowEntry
first_of [] = None
first_of (r ∷ rs) = Some r

base_of : (b : Bool) → b ≡ false → not b ≡ true
base_of true h = cc
base_of false h = refl

first_is : (a b : Bool) → (a || b) ≡ false → a ≡ false
first_is true b h = cc
first_is false b h = refl

-- where none is an operand, the newest row stands for all
pub first_folds : (c : Combine) (rows : List RowEntry) (o : Option RowEntry) → o ≡ first_of rows → list_any is_operand rows ≡ false → o ≡ fold_rows c (reverse rows)
first_folds c [] o is none = is
first_folds c (r ∷ rs) o is none =
    is ∙ sym (ap (fold_rows c) (reverse-append (r ∷ []) rs) ∙ hides_older c (reverse rs) [] r (base_of (is_operand r) (first_is (is_operand r) (list_any is_operand rs) none)))

-- the two oldest rows are joined
pub record Joined (combine : List ℕ → Combine) (k : List ℕ) (row : RowEntry) (rs all : List RowEntry) : Type 0 where
  pub are : AreOf k (row ∷ rs)
  pub fold : fold_rows (combine k) (row ∷ rs) ≡ fold_rows (combine k) all

pub joined : (combine now : List ℕ → Combine) (k : List ℕ) (a b row : RowEntry) (rows rs : List RowEntry) → IsLawful (combine k) → KeepsShort (combine k) → now ≡ combine → reverse rows ≡ b ∷ reverse rs → row ≡ join (now a.key) a b → AreOf k (a ∷ reverse rows) →
    Joined combine k row (reverse rs) (a ∷ reverse rows)
joined combine now k a b row rows rs law keeps same split is h =
    let are : AreOf k (a ∷ b ∷ reverse rs) = subst (λ (xs : List RowEntry). AreOf k (a ∷ xs)) split h in
    let made : row ≡ join (combine k) a b = is ∙ (λ i. join (same i (are.0.0 i)) a b) in
    record {
      are = subst (λ (r : RowEntry). AreOf k (r ∷ reverse rs)) (sym made) (AreOf_join k (combine k) law keeps a b (reverse rs) are);
      fold = ap (λ r. fold_rows (combine k) (r ∷ reverse rs)) made ∙ fold_join k (combine k) law keeps a b (reverse rs) are ∙ ap (λ xs. fold_rows (combine k) (a ∷ xs)) (sym split);
    }

pub last_first : (rows new : List RowEntry) (b : RowEntry) → rows ≡ new ++ (b ∷ []) → reverse rows ≡ b ∷ reverse new
last_first rows new b h = ap reverse h ∙ reverse-append new (b ∷ [])
