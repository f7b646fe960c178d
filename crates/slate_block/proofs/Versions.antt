-- Versions of blocks: which there are, and that blocks of version 3 are those of version 2.
use Rattle.std.proofs.Common.{◌≡◌, ◌≢◌, ℕ, eqb, ◌<◌, ◌^◌, true, false, List, [], ◌∷◌, flat_map, length, refl, sym, ap, subst, ◌∙◌, ◌⊎◌, inl, inr, arith}
use Rattle.std.specs.List.{AllByRecursion}
use Rattle.std.proofs.lemmas.Bool.{ne_eqb, false≢true}
use Rattle.std.proofs.lemmas.Bool.Decides.{eqb_tells}
use Rattle.slate_types.specs.declared.types.RowEntry.{RowEntry}
use Rattle.slate_block.specs.BlockSpelling.{IsSecond, IsKnown, is_known, AreRows, IsBlockOf, FitsBlock, block_bytes, block_spelling, places, restarts, spelled}

-- ---- which there are

pub two_versions : (version : ℕ) → version ≡ 1 → IsSecond version → ⊥
two_versions version e (inl s) = omega (arith, e, s)
two_versions version e (inr s) = omega (arith, e, s)

pub not_first : (version : ℕ) → IsSecond version → eqb version 1 ≡ false
not_first version s = ne_eqb version 1 (λ e. two_versions version e s)

pub below_16 : (version : ℕ) → IsKnown version → version < 2 ^ 16
below_16 version (inl e) = omega (arith, e)
below_16 version (inr (inl e)) = omega (arith, e)
below_16 version (inr (inr e)) = omega (arith, e)

pub is_known_of : (version : ℕ) → IsKnown version → is_known version ≡ true
is_known_of version (inl e) = subst (λ (v : ℕ). is_known v ≡ true) (sym e) refl
is_known_of version (inr (inl e)) = subst (λ (v : ℕ). is_known v ≡ true) (sym e) refl
is_known_of version (inr (inr e)) = subst (λ (v : ℕ). is_known v ≡ true) (sym e) refl

pub is_unknown : (version : ℕ) → (IsKnown version → ⊥) → is_known version ≡ false
is_unknown version none = rw (ne_eqb version 1 (λ e. none (inl e)), ne_eqb version 2 (λ e. none (inr (inl e))), ne_eqb version 3 (λ e. none (inr (inr e)))) refl

abbrev Tells : ℕ → ℕ → Type 0
Tells version n = ((eqb version n ≡ true) × (version ≡ n)) ⊎ ((eqb version n ≡ false) × (version ≢ n))

none_of : (version : ℕ) → version ≢ 1 → version ≢ 2 → version ≢ 3 → IsKnown version → ⊥
none_of version a b c (inl e) = a e
none_of version a b c (inr (inl e)) = b e
none_of version a b c (inr (inr e)) = c e

pub known_or_not : (version : ℕ) → IsKnown version ⊎ (IsKnown version → ⊥)
known_or_not version = by (eqb_tells version 1) (eqb_tells version 2) (eqb_tells version 3)
  where
    by : Tells version 1 → Tells version 2 → Tells version 3 → IsKnown version ⊎ (IsKnown version → ⊥)
    by (inl one) two three = inl (inl one.1)
    by (inr one) (inl two) three = inl (inr (inl two.1))
    by (inr one) (inr two) (inl three) = inl (inr (inr three.1))
    by (inr one) (inr two) (inr three) = inr (none_of version one.1 two.1 three.1)

pub known : (version : ℕ) → is_known version ≡ true → IsKnown version
known version is = by (known_or_not version)
  where
    by : IsKnown version ⊎ (IsKnown version → ⊥) → IsKnown version
    by (inl it) = it
    by (inr none) = absurd (false≢true (sym (is_unknown version none) ∙ is))

-- ---- version 3

pub same_spelled : (rows : List RowEntry) → spelled 3 rows ≡ spelled 2 rows
same_spelled [] = refl
same_spelled (r ∷ rs) = refl

pub same_bytes : (rows : List RowEntry) → block_bytes 3 rows ≡ block_bytes 2 rows
same_bytes rows = ap (λ (bs : List (List ℕ)). block_spelling (flat_map (λ b. b) bs) (restarts 0 (places 0 bs))) (same_spelled rows)

pub fits_second : (rows : List RowEntry) → FitsBlock 3 rows → FitsBlock 2 rows
fits_second rows f = record {
  some = f.some;
  counted = f.counted;
  each = f.each;
  fit = subst (λ (bs : List (List ℕ)). AllByRecursion (λ at. at < 2 ^ 16) (restarts 0 (places 0 bs))) (same_spelled rows) f.fit;
  few = subst (λ (bs : List (List ℕ)). length (restarts 0 (places 0 bs)) < 2 ^ 16) (same_spelled rows) f.few;
}

rows_of_third : (bs : List (List ℕ)) (rows : List RowEntry) → AreRows 2 bs rows → AreRows 3 bs rows
rows_of_third bs [] h = absurd h
rows_of_third bs (r ∷ rs) (inl h) = absurd (omega (arith, h.0))
rows_of_third bs (r ∷ rs) (inr h) = inr (inr refl, h.1)

rows_of_second : (bs : List (List ℕ)) (rows : List RowEntry) → AreRows 3 bs rows → AreRows 2 bs rows
rows_of_second bs [] h = absurd h
rows_of_second bs (r ∷ rs) (inl h) = absurd (omega (arith, h.0))
rows_of_second bs (r ∷ rs) (inr h) = inr (inl refl, h.1)

pub block_of_third : (body offsets : List ℕ) (rows : List RowEntry) → IsBlockOf body offsets 2 rows → IsBlockOf body offsets 3 rows
block_of_third body offsets rows b = record { pieces = b.pieces; are_rows = rows_of_third b.pieces rows b.are_rows; keys = b.keys; is_body = b.is_body; are_offsets = b.are_offsets; fit = b.fit; few = b.few }

pub block_of_second : (body offsets : List ℕ) (rows : List RowEntry) → IsBlockOf body offsets 3 rows → IsBlockOf body offsets 2 rows
block_of_second body offsets rows b = record { pieces = b.pieces; are_rows = rows_of_second b.pieces rows b.are_rows; keys = b.keys; is_body = b.is_body; are_offsets = b.are_offsets; fit = b.fit; few = b.few }

-- a block's version is known
pub block_known : (body offsets : List ℕ) (version : ℕ) (rows : List RowEntry) → IsBlockOf body offsets version rows → IsKnown version
block_known body offsets version rows b = by rows b.are_rows
  where
    by : (rows : List RowEntry) → AreRows version b.pieces rows → IsKnown version
    by [] h = absurd h
    by (r ∷ rs) (inl h) = inl h.0
    by (r ∷ rs) (inr h) = inr h.0
