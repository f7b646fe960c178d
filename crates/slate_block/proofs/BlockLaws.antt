-- A block is read one way.
use Rattle.std.proofs.Common.{◌≡◌, ℕ, ◌+◌, ◌*◌, ◌<◌, ◌^◌, List, [], ◌∷◌, ◌++◌, length, take, drop, flat_map, inl, inr, refl, sym, subst, ap, ◌∙◌, arith, length-append}
use Rattle.std.proofs.lemmas.List.{take-append-drop}
use Rattle.slate_types.specs.declared.types.RowEntry.{RowEntry}
use Rattle.slate_block.specs.declared.row.SstRowEntry.{SstRowEntry}
use Rattle.slate_block.specs.declared.row.SstRowEntryV2.{SstRowEntryV2}
use Rattle.slate_types.specs.Rows.{bytes_of}
use Rattle.slate_block.specs.Varint.{varint}
use Rattle.slate_block.specs.RowSpelling.{be16, meta_bytes, v2_bytes, as_read_v1, IsRowV1, IsRowV2}
use Rattle.slate_block.specs.BlockSpelling.{entry_v1, entry_v2, Shares, SharesV1, SharesV2, shared_with, AreRows, IsBlock, block_spelling}
use Rattle.slate_block.proofs.Pieces.{same_ends, same_be16}
use Rattle.slate_block.proofs.RowLaws.{same_row_v1, same_row_v2}
use Rattle.slate_block.proofs.Versions.{two_versions}

-- ---- a row of a block

same_key : (n m : ℕ) (other k l : List ℕ) → Shares n other k → Shares m other l → n ≡ m → drop n k ≡ drop m l → k ≡ l
same_key n m other k l p q number suffix =
    let front : take n k ≡ take m l = sym p.2 ∙ ap (λ j. take j other) number ∙ q.2 in
    sym (take-append-drop n k) ∙ (λ i. front i ++ suffix i) ∙ take-append-drop m l

pub same_row_from_v1 : (n m : ℕ) (other : List ℕ) (r s : RowEntry) → Shares n other r.key → Shares m other s.key → entry_v1 n r ≡ entry_v1 m s → r ≡ s
same_row_from_v1 n m other r s p q h =
    let key : r.key ≡ s.key = same_key n m other r.key s.key p q (ap (λ (e : SstRowEntry). e.key_prefix_len) h) (ap (λ (e : SstRowEntry). e.key_suffix) h) in
    λ i. record { key = key i; value = (h i).value; seq = (h i).seq; create_ts = (h i).create_ts; expire_ts = (h i).expire_ts }

pub same_row_from_v2 : (n m : ℕ) (other : List ℕ) (r s : RowEntry) → Shares n other r.key → Shares m other s.key → entry_v2 n r ≡ entry_v2 m s → r ≡ s
same_row_from_v2 n m other r s p q h =
    let key : r.key ≡ s.key = same_key n m other r.key s.key p q (ap (λ (e : SstRowEntryV2). e.shared_bytes) h) (ap (λ (e : SstRowEntryV2). e.key_suffix) h) in
    λ i. record { key = key i; value = (h i).value; seq = (h i).seq; create_ts = (h i).create_ts; expire_ts = (h i).expire_ts }

-- two rows, each at the front of the same bytes
pub next_v1 : (a b x y : List ℕ) (e f : SstRowEntry) → IsRowV1 a e → IsRowV1 b f → a ++ x ≡ b ++ y → (e ≡ f) × (x ≡ y)
next_v1 a b x y e f s t h =
    let both = same_row_v1 s.0 t.0 x y s.1 t.1 (ap (λ l. l ++ x) (sym s.2) ∙ h ∙ ap (λ l. l ++ y) t.2) in
    (s.3 ∙ ap as_read_v1 both.0 ∙ sym t.3, both.1)

next_v2 : (a b x y : List ℕ) (e f : SstRowEntryV2) → IsRowV2 a e → IsRowV2 b f → a ++ x ≡ b ++ y → (e ≡ f) × (x ≡ y)
next_v2 a b x y e f s t h = same_row_v2 e f x y s.0 t.0 (ap (λ l. l ++ x) (sym s.1) ∙ h ∙ ap (λ l. l ++ y) t.1)

-- no row has no bytes
pub some_v1 : (b x : List ℕ) (e : SstRowEntry) → IsRowV1 b e → [] ≡ b ++ x → ⊥
some_v1 b x e s h = let n = ap (λ l. length l) (h ∙ ap (λ l. l ++ x) s.2) in absurd (omega (arith, n))

pub some_v2 : (b x : List ℕ) (e : SstRowEntryV2) → IsRowV2 b e → [] ≡ b ++ x → ⊥
some_v2 b x e s h =
    let front = varint e.shared_bytes ++ varint (length e.key_suffix) ++ varint (length (bytes_of e.value)) ++ e.key_suffix ++ bytes_of e.value in
    let meta = meta_bytes e.seq e.value e.expire_ts e.create_ts in
    let n : 0 ≡ length (v2_bytes e ++ x) = ap (λ l. length l) (h ∙ ap (λ l. l ++ x) s.1) in
    let parts : length (v2_bytes e) ≡ length front + length meta = length-append front meta in
    let whole : length (v2_bytes e ++ x) ≡ length (v2_bytes e) + length x = length-append (v2_bytes e) x in
    let some : 0 < length meta = omega arith in
    omega (arith, n, parts, whole, some)

same_rows_v1 : (first : List ℕ) (bs cs : List (List ℕ)) (rs ss : List RowEntry) → SharesV1 first bs rs → SharesV1 first cs ss → flat_map (λ b. b) bs ≡ flat_map (λ b. b) cs → rs ≡ ss
same_rows_v1 first [] [] [] [] p q h = refl
same_rows_v1 first [] [] [] (s ∷ ss) p q h = absurd q
same_rows_v1 first [] [] (r ∷ rs) ss p q h = absurd p
same_rows_v1 first [] (c ∷ cs) (r ∷ rs) ss p q h = absurd p
same_rows_v1 first [] (c ∷ cs) [] [] p q h = absurd q
same_rows_v1 first [] (c ∷ cs) [] (s ∷ ss) p q h = absurd (some_v1 c (flat_map (λ b. b) cs) _ q.0.2 h)
same_rows_v1 first (b ∷ bs) cs [] ss p q h = absurd p
same_rows_v1 first (b ∷ bs) [] (r ∷ rs) (s ∷ ss) p q h = absurd q
same_rows_v1 first (b ∷ bs) [] (r ∷ rs) [] p q h = absurd (some_v1 b (flat_map (λ b. b) bs) _ p.0.2 (sym h))
same_rows_v1 first (b ∷ bs) (c ∷ cs) (r ∷ rs) [] p q h = absurd q
same_rows_v1 first (b ∷ bs) (c ∷ cs) (r ∷ rs) (s ∷ ss) p q h =
    let next = next_v1 b c (flat_map (λ b. b) bs) (flat_map (λ b. b) cs) (entry_v1 p.0.0 r) (entry_v1 q.0.0 s) p.0.2 q.0.2 h in
    let row = same_row_from_v1 p.0.0 q.0.0 first r s p.0.1 q.0.1 next.0 in
    let rest = same_rows_v1 first bs cs rs ss p.1 q.1 next.1 in
    λ i. row i ∷ rest i

same_rows_v2 : (i : ℕ) (previous : List ℕ) (bs cs : List (List ℕ)) (rs ss : List RowEntry) → SharesV2 i previous bs rs → SharesV2 i previous cs ss → flat_map (λ b. b) bs ≡ flat_map (λ b. b) cs → rs ≡ ss
same_rows_v2 i previous [] [] [] [] p q h = refl
same_rows_v2 i previous [] [] [] (s ∷ ss) p q h = absurd q
same_rows_v2 i previous [] [] (r ∷ rs) ss p q h = absurd p
same_rows_v2 i previous [] (c ∷ cs) (r ∷ rs) ss p q h = absurd p
same_rows_v2 i previous [] (c ∷ cs) [] [] p q h = absurd q
same_rows_v2 i previous [] (c ∷ cs) [] (s ∷ ss) p q h = absurd (some_v2 c (flat_map (λ b. b) cs) (entry_v2 q.0.0 s) q.0.2 h)
same_rows_v2 i previous (b ∷ bs) cs [] ss p q h = absurd p
same_rows_v2 i previous (b ∷ bs) [] (r ∷ rs) (s ∷ ss) p q h = absurd q
same_rows_v2 i previous (b ∷ bs) [] (r ∷ rs) [] p q h = absurd (some_v2 b (flat_map (λ b. b) bs) (entry_v2 p.0.0 r) p.0.2 (sym h))
same_rows_v2 i previous (b ∷ bs) (c ∷ cs) (r ∷ rs) [] p q h = absurd q
same_rows_v2 i previous (b ∷ bs) (c ∷ cs) (r ∷ rs) (s ∷ ss) p q h =
    let next = next_v2 b c (flat_map (λ b. b) bs) (flat_map (λ b. b) cs) (entry_v2 p.0.0 r) (entry_v2 q.0.0 s) p.0.2 q.0.2 h in
    let row : r ≡ s = same_row_from_v2 p.0.0 q.0.0 (shared_with i previous) r s p.0.1 q.0.1 next.0 in
    let later : SharesV2 (i + 1) r.key cs ss = subst (λ (t : RowEntry). SharesV2 (i + 1) t.key cs ss) (sym row) q.1 in
    let rest = same_rows_v2 (i + 1) r.key bs cs rs ss p.1 later next.1 in
    λ j. row j ∷ rest j

-- ---- the rows of a block

AreV1 : ℕ → List (List ℕ) → RowEntry → List RowEntry → Type 0
AreV1 version bs r rs = (version ≡ 1) × (first : List ℕ) × (rest : List (List ℕ)) × (bs ≡ first ∷ rest) × IsRowV1 first (entry_v1 0 r) × SharesV1 r.key rest rs

pub nothing_shared : (k : List ℕ) → Shares 0 [] k
nothing_shared k = (omega arith, omega arith, refl)

all_rows_v1 : (version : ℕ) (bs cs : List (List ℕ)) (r s : RowEntry) (rs ss : List RowEntry) → AreV1 version bs r rs → AreV1 version cs s ss →
    flat_map (λ b. b) bs ≡ flat_map (λ b. b) cs → r ∷ rs ≡ s ∷ ss
unfolding AreV1
all_rows_v1 version bs cs r s rs ss p q h =
    let whole : p.1 ++ flat_map (λ b. b) p.2 ≡ q.1 ++ flat_map (λ b. b) q.2 = ap (λ l. flat_map (λ b. b) l) (sym p.3) ∙ h ∙ ap (λ l. flat_map (λ b. b) l) q.3 in
    let next = next_v1 p.1 q.1 (flat_map (λ b. b) p.2) (flat_map (λ b. b) q.2) (entry_v1 0 r) (entry_v1 0 s) p.4 q.4 whole in
    let row : r ≡ s = same_row_from_v1 0 0 [] r s (nothing_shared r.key) (nothing_shared s.key) next.0 in
    let later : SharesV1 r.key q.2 ss = subst (λ (t : RowEntry). SharesV1 t.key q.2 ss) (sym row) q.5 in
    let rest = same_rows_v1 r.key p.2 q.2 rs ss p.5 later next.1 in
    λ j. row j ∷ rest j

same_rows : (version : ℕ) (bs cs : List (List ℕ)) (rows other : List RowEntry) → AreRows version bs rows → AreRows version cs other → flat_map (λ b. b) bs ≡ flat_map (λ b. b) cs → rows ≡ other
unfolding AreV1
same_rows version bs cs [] other p q h = absurd p
same_rows version bs cs (r ∷ rs) [] p q h = absurd q
same_rows version bs cs (r ∷ rs) (s ∷ ss) (inl p) (inl q) h = all_rows_v1 version bs cs r s rs ss p q h
same_rows version bs cs (r ∷ rs) (s ∷ ss) (inl p) (inr q) h = absurd (two_versions version p.0 q.0)
same_rows version bs cs (r ∷ rs) (s ∷ ss) (inr p) (inl q) h = absurd (two_versions version q.0 p.0)
same_rows version bs cs (r ∷ rs) (s ∷ ss) (inr p) (inr q) h = same_rows_v2 0 [] bs cs (r ∷ rs) (s ∷ ss) p.1 q.1 h

-- ---- the bytes of a block

pub two_bytes_each : (ats : List ℕ) → length (flat_map be16 ats) ≡ 2 * length ats
two_bytes_each [] = refl
two_bytes_each (at ∷ ats) = let rest = two_bytes_each ats in omega (arith, rest)

pub same_body : (a b ats bts : List ℕ) → length ats < 2 ^ 16 → length bts < 2 ^ 16 → block_spelling a ats ≡ block_spelling b bts → a ≡ b
same_body a b ats bts p q h =
    let ends = same_ends (a ++ flat_map be16 ats) (b ++ flat_map be16 bts) (be16 (length ats)) (be16 (length bts)) refl h in
    let count : length ats ≡ length bts = (same_be16 (length ats) (length bts) [] [] p q (ap (λ l. l ++ []) ends.1)).0 in
    let parts = same_ends a b (flat_map be16 ats) (flat_map be16 bts) (two_bytes_each ats ∙ ap (λ n. 2 * n) count ∙ sym (two_bytes_each bts)) ends.0 in
    parts.0

pub blocks_one_way : (bytes : List ℕ) (version : ℕ) (rows other : List RowEntry) → IsBlock bytes version rows → IsBlock bytes version other → rows ≡ other
blocks_one_way bytes version rows other s t =
    let body : s.0 ≡ t.0 = same_body s.0 t.0 s.1 t.1 s.2.few t.2.few (sym s.3 ∙ t.3) in
    same_rows version s.2.pieces t.2.pieces rows other s.2.are_rows t.2.are_rows (sym s.2.is_body ∙ body ∙ t.2.is_body)
