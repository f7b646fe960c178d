-- The keys of the rows that a flush stores are keys of rows that waited.
use Rattle.std.proofs.Common.{◌≡◌, ℕ, Bool, true, false, cond, List, [], ◌∷◌, ◌++◌, option_to_list, refl, sym, ap, subst, ◌∙◌, bytes_eq}
use Rattle.std.specs.List.{AllByRecursion}
use Rattle.std.proofs.lemmas.Slice.Eq.{bytes_eq-Decides}
use Rattle.slate_types.specs.declared.types.RowEntry.{RowEntry}
use Rattle.slate_types.specs.Fold.{fold_rows}
use Rattle.slate_types.specs.Rows.{of_key}
use Rattle.slate_db.specs.Flushed.{IsFolded}
use Rattle.slate_db.specs.Meaning.{Meaning, combine_of}
use Rattle.slate_db.specs.Model.{Rows, versions, versions_in}
use Rattle.slate_db.specs.Sound.{at_most, later}
use Rattle.slate_db.proofs.Versions.{all_by_versions}
use Rattle.slate_types.proofs.Lists.{AllByRecursion_weaken, AllByRecursion_reverse}

keys_are : (k : List ℕ) (rows : Rows) → AllByRecursion (λ r. r.key ≡ k) (of_key k rows)
keys_are k [] = tt
keys_are k (r ∷ rows) = by (bytes_eq r.key k) refl (keys_are k rows)
  where
    by : (b : Bool) → bytes_eq r.key k ≡ b → AllByRecursion (λ s. s.key ≡ k) (of_key k rows) → AllByRecursion (λ s. s.key ≡ k) (cond b (r ∷ of_key k rows) (of_key k rows))
    by true e rest = ((bytes_eq-Decides r.key k).0 e, rest)
    by false e rest = rest

pub flushed_keys : (m : Meaning) (barrier : ℕ) (layers : List Rows) (out : Rows) (P : List ℕ → Type 0) → IsFolded m barrier layers out → ((k : List ℕ) (r : RowEntry) (rs : Rows) → versions_in k layers ≡ r ∷ rs → P k) → AllByRecursion (λ r. P r.key) out
flushed_keys m barrier layers out P folded has = all_by_versions (λ r. P r.key) out (λ k. by k (versions_in k layers) refl)
  where
    by : (k : List ℕ) (rows : Rows) → versions_in k layers ≡ rows → AllByRecursion (λ r. P r.key) (versions k out)
    by k [] is = subst (AllByRecursion (λ r. P r.key)) (sym (folded k ∙ ap (λ (xs : Rows). option_to_list (fold_rows (combine_of m k) (at_most barrier xs)) ++ later barrier xs) is)) tt
    by k (r ∷ rs) is = AllByRecursion_weaken (λ s. s.key ≡ k) (λ s. P s.key) (λ s same. subst P (sym same) (has k r rs is)) (versions k out) (AllByRecursion_reverse (λ s. s.key ≡ k) (of_key k out) (keys_are k out))
