-- A block with longest fronts is spelled of one list of rows, the expiries of tombstones among them.
use Rattle.std.proofs.Common.{◌≡◌, ℕ, ◌+◌, ◌<◌, List, [], ◌∷◌, length, flat_map, inl, inr, refl, sym, subst, ap, ◌∙◌, arith}
use Rattle.std.specs.List.{AllByRecursion}
use Rattle.slate_types.specs.declared.types.RowEntry.{RowEntry}
use Rattle.slate_block.specs.RowSpelling.{v2_bytes}
use Rattle.slate_block.specs.BlockSpelling.{IsKnown, entry_v1, entry_v2, shared_with, longest, spelled, spelled_v1, spelled_v2, offsets_of, block_bytes, FitsRow, FitsBlock}
use Rattle.slate_block.proofs.RowLaws.{same_row_v1, same_row_v2}
use Rattle.slate_block.proofs.BlockLaws.{same_row_from_v1, same_row_from_v2, some_v2, same_body, nothing_shared}
use Rattle.slate_block.proofs.LongestFronts.{shares_longest, fits_v1, fits_v2}
use Rattle.slate_block.proofs.Versions.{fits_second, same_bytes}

same_written_v1 : (first : List ℕ) (rs ss : List RowEntry) → AllByRecursion FitsRow rs → AllByRecursion FitsRow ss → flat_map (λ b. b) (spelled_v1 first rs) ≡ flat_map (λ b. b) (spelled_v1 first ss) → rs ≡ ss
same_written_v1 first [] [] f g h = refl
same_written_v1 first [] (s ∷ ss) f g h = let n = ap (λ l. length l) h in absurd (omega (arith, n))
same_written_v1 first (r ∷ rs) [] f g h = let n = ap (λ l. length l) h in absurd (omega (arith, n))
same_written_v1 first (r ∷ rs) (s ∷ ss) f g h =
    let a = longest first r.key in
    let b = longest first s.key in
    let p = shares_longest first r.key in
    let q = shares_longest first s.key in
    let next = same_row_v1 (entry_v1 a r) (entry_v1 b s) (flat_map (λ b. b) (spelled_v1 first rs)) (flat_map (λ b. b) (spelled_v1 first ss)) (fits_v1 a r p.1 f.0) (fits_v1 b s q.1 g.0) h in
    let row : r ≡ s = same_row_from_v1 a b first r s p q next.0 in
    let rest = same_written_v1 first rs ss f.1 g.1 next.1 in
    λ i. row i ∷ rest i

pub same_written_v2 : (i : ℕ) (previous : List ℕ) (rs ss : List RowEntry) → AllByRecursion FitsRow rs → AllByRecursion FitsRow ss → flat_map (λ b. b) (spelled_v2 i previous rs) ≡ flat_map (λ b. b) (spelled_v2 i previous ss) → rs ≡ ss
same_written_v2 i previous [] [] f g h = refl
same_written_v2 i previous [] (s ∷ ss) f g h =
    let b = longest (shared_with i previous) s.key in
    let q = shares_longest (shared_with i previous) s.key in
    absurd (some_v2 (v2_bytes (entry_v2 b s)) (flat_map (λ b. b) (spelled_v2 (i + 1) s.key ss)) (entry_v2 b s) (fits_v2 b s q.1 g.0, refl) h)
same_written_v2 i previous (r ∷ rs) [] f g h =
    let a = longest (shared_with i previous) r.key in
    let p = shares_longest (shared_with i previous) r.key in
    absurd (some_v2 (v2_bytes (entry_v2 a r)) (flat_map (λ b. b) (spelled_v2 (i + 1) r.key rs)) (entry_v2 a r) (fits_v2 a r p.1 f.0, refl) (sym h))
same_written_v2 i previous (r ∷ rs) (s ∷ ss) f g h =
    let a = longest (shared_with i previous) r.key in
    let b = longest (shared_with i previous) s.key in
    let p = shares_longest (shared_with i previous) r.key in
    let q = shares_longest (shared_with i previous) s.key in
    let next = same_row_v2 (entry_v2 a r) (entry_v2 b s) (flat_map (λ b. b) (spelled_v2 (i + 1) r.key rs)) (flat_map (λ b. b) (spelled_v2 (i + 1) s.key ss)) (fits_v2 a r p.1 f.0) (fits_v2 b s q.1 g.0) h in
    let row : r ≡ s = same_row_from_v2 a b (shared_with i previous) r s p q next.0 in
    let later = next.1 ∙ ap (λ (t : RowEntry). flat_map (λ b. b) (spelled_v2 (i + 1) t.key ss)) (sym row) in
    let rest = same_written_v2 (i + 1) r.key rs ss f.1 g.1 later in
    λ j. row j ∷ rest j

pub all_written_v1 : (rows other : List RowEntry) → AllByRecursion FitsRow rows → AllByRecursion FitsRow other → flat_map (λ b. b) (spelled 1 rows) ≡ flat_map (λ b. b) (spelled 1 other) → rows ≡ other
all_written_v1 [] [] f g h = refl
all_written_v1 [] (s ∷ ss) f g h = let n = ap (λ l. length l) h in absurd (omega (arith, n))
all_written_v1 (r ∷ rs) [] f g h = let n = ap (λ l. length l) h in absurd (omega (arith, n))
all_written_v1 (r ∷ rs) (s ∷ ss) f g h =
    let next = same_row_v1 (entry_v1 0 r) (entry_v1 0 s) (flat_map (λ b. b) (spelled_v1 r.key rs)) (flat_map (λ b. b) (spelled_v1 s.key ss)) (fits_v1 0 r (omega arith) f.0) (fits_v1 0 s (omega arith) g.0) h in
    let row : r ≡ s = same_row_from_v1 0 0 [] r s (nothing_shared r.key) (nothing_shared s.key) next.0 in
    let later = next.1 ∙ ap (λ (t : RowEntry). flat_map (λ b. b) (spelled_v1 t.key ss)) (sym row) in
    let rest = same_written_v1 r.key rs ss f.1 g.1 later in
    λ j. row j ∷ rest j

all_written_v2 : (rows other : List RowEntry) → 0 < length rows → 0 < length other → AllByRecursion FitsRow rows → AllByRecursion FitsRow other → flat_map (λ b. b) (spelled 2 rows) ≡ flat_map (λ b. b) (spelled 2 other) → rows ≡ other
all_written_v2 [] other p q f g h = absurd (omega (arith, p))
all_written_v2 (r ∷ rs) [] p q f g h = absurd (omega (arith, q))
all_written_v2 (r ∷ rs) (s ∷ ss) p q f g h = same_written_v2 0 [] (r ∷ rs) (s ∷ ss) f g h

one_v1 : (rows other : List RowEntry) → FitsBlock 1 rows → FitsBlock 1 other → block_bytes 1 rows ≡ block_bytes 1 other → rows ≡ other
one_v1 rows other f g h = all_written_v1 rows other f.each g.each
    (same_body (flat_map (λ b. b) (spelled 1 rows)) (flat_map (λ b. b) (spelled 1 other)) (offsets_of 1 (spelled 1 rows)) (offsets_of 1 (spelled 1 other)) f.few g.few h)

one_v2 : (rows other : List RowEntry) → FitsBlock 2 rows → FitsBlock 2 other → block_bytes 2 rows ≡ block_bytes 2 other → rows ≡ other
one_v2 rows other f g h = all_written_v2 rows other f.some g.some f.each g.each
    (same_body (flat_map (λ b. b) (spelled 2 rows)) (flat_map (λ b. b) (spelled 2 other)) (offsets_of 2 (spelled 2 rows)) (offsets_of 2 (spelled 2 other)) f.few g.few h)

one_v3 : (rows other : List RowEntry) → FitsBlock 3 rows → FitsBlock 3 other → block_bytes 3 rows ≡ block_bytes 3 other → rows ≡ other
one_v3 rows other f g h = one_v2 rows other (fits_second rows f) (fits_second other g) (sym (same_bytes rows) ∙ h ∙ same_bytes other)

Written : List RowEntry → List RowEntry → ℕ → Type 0
Written rows other version = FitsBlock version rows → FitsBlock version other → block_bytes version rows ≡ block_bytes version other → rows ≡ other

pub one_written : (version : ℕ) (rows other : List RowEntry) → IsKnown version → FitsBlock version rows → FitsBlock version other → block_bytes version rows ≡ block_bytes version other → rows ≡ other
unfolding Written
one_written version rows other (inl e) = subst (Written rows other) (sym e) (one_v1 rows other)
one_written version rows other (inr (inl e)) = subst (Written rows other) (sym e) (one_v2 rows other)
one_written version rows other (inr (inr e)) = subst (Written rows other) (sym e) (one_v3 rows other)
