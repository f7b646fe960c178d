-- What a fold makes of rows of which none is a merge.
use Rattle.std.proofs.Common.{◌≡◌, ℕ, Bool, true, false, not, ◌||◌, List, [], ◌∷◌, option_to_list, refl, sym, subst}
use Rattle.std.specs.List.{AllByRecursion, list_any}
use Rattle.slate_types.specs.declared.types.RowEntry.{RowEntry}
use Rattle.slate_types.specs.declared.types.ValueDeletable.{ValueDeletable}
use Rattle.slate_types.specs.declared.types.ValueDeletable.TheVariants.{Value, Merge, Tombstone}
use Rattle.slate_types.specs.Fold.{Combine, fold_rows, fold_taken, taken, value_of_taken}
use Rattle.slate_types.specs.Rows.{is_base, is_merge, is_operand}
use Rattle.slate_db.specs.Meaning.{Meaning, combine_of}
use Rattle.slate_db.specs.Flushed.{IsFolded}
use Rattle.slate_db.specs.Model.{Rows, versions_in}
use Rattle.slate_db.specs.Sound.{AreBases}
use Rattle.slate_db.proofs.Short.{all_from_last}
use Rattle.slate_db.proofs.Versions.{all_by_versions, all_versions_in}
use Rattle.slate_types.proofs.Lists.{AllByRecursion_append, AllByRecursion_filter}

value_base : (c : Combine) (v : ValueDeletable) (rs : List RowEntry) → not (is_merge v) ≡ true → not (is_merge (value_of_taken c v rs)) ≡ true
value_base c v [] h = h
value_base c (Value v) (r ∷ rs) h = refl
value_base c Tombstone (r ∷ rs) h = refl
value_base c (Merge v) (r ∷ rs) h = cc

pub fold_base : (c : Combine) (rows : List RowEntry) → AreBases rows → AreBases (option_to_list (fold_rows c rows))
fold_base c rows h = by (taken rows) (all_from_last (λ r. is_base r ≡ true) is_base rows h)
  where
    by : (rs : List RowEntry) → AreBases rs → AreBases (option_to_list (fold_taken c rs))
    by [] h = tt
    by (r ∷ rs) h = (value_base c r.value rs h.0, tt)

-- what a flush makes
pub folded_bases : (m : Meaning) (b : ℕ) (layers : List Rows) (rows : Rows) → AllByRecursion AreBases layers → IsFolded m b layers rows → AreBases rows
folded_bases m b layers rows h folded = all_by_versions (λ r. is_base r ≡ true) rows (λ k.
    let here : AreBases (versions_in k layers) = all_versions_in (λ r. is_base r ≡ true) k layers h in
    subst AreBases (sym (folded k)) (AllByRecursion_append _ _ _ (fold_base (combine_of m k) _ (AllByRecursion_filter _ _ _ here)) (AllByRecursion_filter _ _ _ here)))

pub no_merge_among : (rows : Rows) → AreBases rows → list_any is_operand rows ≡ false
no_merge_among [] h = refl
no_merge_among (r ∷ rs) h = by (is_operand r) h.0 (no_merge_among rs h.1)
  where
    by : (b : Bool) → not b ≡ true → list_any is_operand rs ≡ false → (b || list_any is_operand rs) ≡ false
    by true e rest = cc
    by false e rest = rest
