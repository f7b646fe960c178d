-- What is spelled with longest fronts is a block of the rows.
use Rattle.std.proofs.Common.{◌≡◌, ℕ, suc, ◌+◌, ◌-◌, ◌<◌, ◌≤◌, Bool, true, false, cond, List, [], ◌∷◌, length, take, drop, map, inl, inr, refl, sym, subst, ap, ◌∙◌, arith, length-drop}
use Rattle.std.specs.Prelude.{nat_eq, ◌==◌, flat_map}
use Rattle.std.specs.List.{AllByRecursion}
use Rattle.std.proofs.lemmas.Bool.Decides.{nat_tests}
use Rattle.std.proofs.lemmas.List.Sums.{common_prefix_len-le}
use Rattle.slate_types.specs.declared.types.RowEntry.{RowEntry}
use Rattle.slate_block.specs.RowSpelling.{read_expiry, v1_bytes, FitsV1, FitsV2, IsRowV1}
use Rattle.slate_block.specs.BlockSpelling.{IsKnown, IsKey, entry_v1, entry_v2, Shares, SharesV1, SharesV2, shared_with, AreRows, offsets_of, IsBlockOf, IsBlock, longest, spelled, spelled_v1, spelled_v2, block_bytes, as_read, FitsRow, FitsBlock}
use Rattle.slate_block.proofs.Versions.{same_spelled, fits_second, block_of_third}

longest_stands : (a b : List ℕ) → take (longest a b) a ≡ take (longest a b) b
longest_stands [] b = refl
longest_stands (x ∷ a) [] = refl
longest_stands (x ∷ a) (y ∷ b) = by (nat_eq x y) refl (longest_stands a b)
  where
    by : (t : Bool) → nat_eq x y ≡ t → take (longest a b) a ≡ take (longest a b) b → take (cond t (1 + longest a b) 0) (x ∷ a) ≡ take (cond t (1 + longest a b) 0) (y ∷ b)
    by true e rest =
        let same : x ≡ y = grind (arith, nat_tests) in
        let more : 1 + longest a b ≡ suc (longest a b) = omega arith in
        ap (λ k. take k (x ∷ a)) more ∙ (λ i. same i ∷ rest i) ∙ sym (ap (λ k. take k (y ∷ b)) more)
    by false e rest = refl

pub shares_longest : (a b : List ℕ) → Shares (longest a b) a b
shares_longest a b = let within = common_prefix_len-le nat_eq a b in (within.0, within.1, longest_stands a b)

pub fits_v1 : (n : ℕ) (r : RowEntry) → n ≤ length r.key → FitsRow r → FitsV1 (entry_v1 n r)
fits_v1 n r p f = let suffix : length (drop n r.key) ≡ length r.key - n = length-drop n r.key in
    (omega (arith, p, f.key.1), omega (arith, suffix, f.key.1), f.value, f.seq, f.expire, f.create)

pub fits_v2 : (n : ℕ) (r : RowEntry) → n ≤ length r.key → FitsRow r → FitsV2 (entry_v2 n r)
fits_v2 n r p f = let suffix : length (drop n r.key) ≡ length r.key - n = length-drop n r.key in
    (omega (arith, p, f.key.1), omega (arith, suffix, f.key.1), f.value, f.seq, f.expire, f.create)

is_row_v1 : (n : ℕ) (r : RowEntry) → n ≤ length r.key → FitsRow r → IsRowV1 (v1_bytes (entry_v1 n r)) (entry_v1 n (as_read 1 r))
is_row_v1 n r p f = (entry_v1 n r, fits_v1 n r p f, refl, refl)

shares_v1 : (first : List ℕ) (rs : List RowEntry) → AllByRecursion FitsRow rs → SharesV1 first (spelled_v1 first rs) (map (as_read 1) rs)
shares_v1 first [] f = tt
shares_v1 first (r ∷ rs) f = let front = shares_longest first r.key in
    ((longest first r.key, front, is_row_v1 (longest first r.key) r front.1 f.0), shares_v1 first rs f.1)

shares_v2 : (i : ℕ) (previous : List ℕ) (rs : List RowEntry) → AllByRecursion FitsRow rs → SharesV2 i previous (spelled_v2 i previous rs) (map (as_read 2) rs)
shares_v2 i previous [] f = tt
shares_v2 i previous (r ∷ rs) f = let front = shares_longest (shared_with i previous) r.key in
    ((longest (shared_with i previous) r.key, front, (fits_v2 (longest (shared_with i previous) r.key) r front.1 f.0, refl)), shares_v2 (i + 1) r.key rs f.1)

are_rows_v1 : (rows : List RowEntry) → 0 < length rows → AllByRecursion FitsRow rows → AreRows 1 (spelled 1 rows) (map (as_read 1) rows)
are_rows_v1 [] p f = absurd (omega (arith, p))
are_rows_v1 (r ∷ rs) p f = inl (refl, v1_bytes (entry_v1 0 r), spelled_v1 r.key rs, refl, is_row_v1 0 r (omega arith) f.0, shares_v1 r.key rs f.1)

are_rows_v2 : (rows : List RowEntry) → 0 < length rows → AllByRecursion FitsRow rows → AreRows 2 (spelled 2 rows) (map (as_read 2) rows)
are_rows_v2 [] p f = absurd (omega (arith, p))
are_rows_v2 (r ∷ rs) p f = inr (inl refl, shares_v2 0 [] (r ∷ rs) f)

as_read_key : (version : ℕ) (r : RowEntry) → (as_read version r).key ≡ r.key
as_read_key version r = by (version == 1)
  where
    by : (t : Bool) → (cond t (record r { expire_ts = read_expiry r.value r.expire_ts }) r).key ≡ r.key
    by true = refl
    by false = refl

are_keys : (version : ℕ) (rows : List RowEntry) → AllByRecursion FitsRow rows → AllByRecursion (λ r. IsKey r.key) (map (as_read version) rows)
are_keys version [] f = tt
are_keys version (r ∷ rs) f = (subst (λ k. IsKey k) (sym (as_read_key version r)) f.0.key, are_keys version rs f.1)

pub block_of_v1 : (rows : List RowEntry) → FitsBlock 1 rows → IsBlockOf (flat_map (λ b. b) (spelled 1 rows)) (offsets_of 1 (spelled 1 rows)) 1 (map (as_read 1) rows)
block_of_v1 rows f = record {
  pieces = spelled 1 rows;
  are_rows = are_rows_v1 rows f.some f.each;
  keys = are_keys 1 rows f.each;
  is_body = refl;
  are_offsets = refl;
  fit = f.fit;
  few = f.few;
}

is_block_v1 : (rows : List RowEntry) → FitsBlock 1 rows → IsBlock (block_bytes 1 rows) 1 (map (as_read 1) rows)
is_block_v1 rows f = (flat_map (λ b. b) (spelled 1 rows), offsets_of 1 (spelled 1 rows), block_of_v1 rows f, refl)

pub block_of_v2 : (rows : List RowEntry) → FitsBlock 2 rows → IsBlockOf (flat_map (λ b. b) (spelled 2 rows)) (offsets_of 2 (spelled 2 rows)) 2 (map (as_read 2) rows)
block_of_v2 rows f = record {
  pieces = spelled 2 rows;
  are_rows = are_rows_v2 rows f.some f.each;
  keys = are_keys 2 rows f.each;
  is_body = refl;
  are_offsets = refl;
  fit = f.fit;
  few = f.few;
}

is_block_v2 : (rows : List RowEntry) → FitsBlock 2 rows → IsBlock (block_bytes 2 rows) 2 (map (as_read 2) rows)
is_block_v2 rows f = (flat_map (λ b. b) (spelled 2 rows), offsets_of 2 (spelled 2 rows), block_of_v2 rows f, refl)

pub block_of_v3 : (rows : List RowEntry) → FitsBlock 3 rows → IsBlockOf (flat_map (λ b. b) (spelled 3 rows)) (offsets_of 3 (spelled 3 rows)) 3 (map (as_read 3) rows)
block_of_v3 rows f = subst (λ (bs : List (List ℕ)). IsBlockOf (flat_map (λ b. b) bs) (offsets_of 3 bs) 3 (map (as_read 3) rows)) (sym (same_spelled rows))
    (block_of_third (flat_map (λ b. b) (spelled 2 rows)) (offsets_of 2 (spelled 2 rows)) (map (as_read 2) rows) (block_of_v2 rows (fits_second rows f)))

is_block_v3 : (rows : List RowEntry) → FitsBlock 3 rows → IsBlock (block_bytes 3 rows) 3 (map (as_read 3) rows)
is_block_v3 rows f = (flat_map (λ b. b) (spelled 3 rows), offsets_of 3 (spelled 3 rows), block_of_v3 rows f, refl)

-- what is spelled, at a version that is known
Spells : List RowEntry → ℕ → Type 0
Spells rows version = FitsBlock version rows → IsBlock (block_bytes version rows) version (map (as_read version) rows)

pub longest_fronts : (version : ℕ) (rows : List RowEntry) → IsKnown version → FitsBlock version rows → IsBlock (block_bytes version rows) version (map (as_read version) rows)
unfolding Spells
longest_fronts version rows (inl e) = subst (Spells rows) (sym e) (is_block_v1 rows)
longest_fronts version rows (inr (inl e)) = subst (Spells rows) (sym e) (is_block_v2 rows)
longest_fronts version rows (inr (inr e)) = subst (Spells rows) (sym e) (is_block_v3 rows)
