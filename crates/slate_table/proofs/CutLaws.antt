-- Cutting keeps the rows.
use Rattle.std.proofs.Common.{◌≡◌, ℕ, Bool, true, false, cond, List, [], ◌∷◌, ◌++◌, map, flat_map, refl, sym, ap, ◌∙◌, append_assoc}
use Rattle.slate_types.specs.declared.types.RowEntry.{RowEntry}
use Rattle.slate_filter.specs.Policy.{Policy, filters_of}
use Rattle.slate_block.specs.BlockSpelling.{as_read}
use Rattle.slate_block.specs.Fitting.{fits_in}
use Rattle.slate_table.specs.Parts.{Encode}
use Rattle.slate_table.specs.Table.{IsTable, IsBuilt, cut, cut_from}

cut_from_keeps : (size version : ℕ) (block rows : List RowEntry) → flat_map (λ b. b) (cut_from size version block rows) ≡ block ++ rows
cut_from_keeps size version block [] = refl
cut_from_keeps size version block (r ∷ rs) = by (fits_in size version block r) (cut_from_keeps size version (block ++ (r ∷ [])) rs) (cut_from_keeps size version (r ∷ []) rs)
  where
    by : (t : Bool) → flat_map (λ b. b) (cut_from size version (block ++ (r ∷ [])) rs) ≡ (block ++ (r ∷ [])) ++ rs → flat_map (λ b. b) (cut_from size version (r ∷ []) rs) ≡ r ∷ rs →
        flat_map (λ b. b) (cond t (cut_from size version (block ++ (r ∷ [])) rs) (block ∷ cut_from size version (r ∷ []) rs)) ≡ block ++ (r ∷ rs)
    by true more next = more ∙ append_assoc block (r ∷ []) rs
    by false more next = ap (λ l. block ++ l) next

pub cut_keeps : (size version : ℕ) (rows : List RowEntry) → flat_map (λ b. b) (cut size version rows) ≡ rows
cut_keeps size version [] = refl
cut_keeps size version (r ∷ rs) = cut_from_keeps size version (r ∷ []) rs

pub built_has : (encode : Encode) (policies : List Policy) (min size version id : ℕ) (bytes : List ℕ) (rows : List RowEntry) →
    IsBuilt encode policies min size version id bytes rows → IsTable encode bytes version id (map (as_read version) rows)
built_has encode policies min size version id bytes rows t =
    (cut size version rows, filters_of policies min rows, t, ap (λ l. map (as_read version) l) (sym (cut_keeps size version rows)))
