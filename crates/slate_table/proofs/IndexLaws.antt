-- The offsets of an index say where blocks end.
use Rattle.std.proofs.Common.{◌≡◌, ℕ, ◌+◌, ◌<◌, ◌^◌, Bool, true, false, cond, List, [], ◌∷◌, ◌++◌, length, map, take, flat_map, refl, sym, ap, ◌∙◌, arith, length-append}
use Rattle.std.specs.Prelude.{bytes_eq}
use Rattle.std.specs.List.{AllByRecursion}
use Rattle.std.proofs.lemmas.List.{length-take}
use Rattle.slate_types.specs.declared.types.RowEntry.{RowEntry}
use Rattle.slate_types.specs.Lawful.{IsLawfulTransform}
use Rattle.slate_block.specs.RowSpelling.{be16, be32}
use Rattle.slate_block.specs.BlockSpelling.{block_bytes, places, longest, FitsBlock, IsKnown}
use Rattle.slate_block.proofs.Pieces.{same_head, same_tail, same_pieces, same_ends, same_be16, same_be32, same_be64}
use Rattle.slate_block.proofs.WrittenLaws.{one_written}
use Rattle.slate_table.specs.Checksum.{crc32}
use Rattle.slate_table.specs.Parts.{Encode, section, cover_of, block_kind, separator, later_separators, separators, first_key, last_key, index_entries, index_bytes}
use Rattle.slate_table.specs.Table.{sections_from}

-- ---- sections

-- whatever their checksums cover
pub same_part : (cover other : List ℕ) (encode decode : Encode) → IsLawfulTransform encode decode → (a b : List ℕ) → section cover encode a ≡ section other encode b → a ≡ b
same_part cover other encode decode lawful a b h =
    let parts = same_ends (encode a) (encode b) (be32 (crc32 (cover ++ encode a))) (be32 (crc32 (other ++ encode b))) refl h in
    sym (lawful a) ∙ ap decode parts.0 ∙ lawful b

-- ---- separators are short

separator_short : (previous key : List ℕ) → length key < 2 ^ 16 → length (separator previous key) < 2 ^ 16
separator_short previous key p = by (bytes_eq previous key)
  where
    by : (t : Bool) → length (cond t key (take (longest previous key + 1) key)) < 2 ^ 16
    by true = p
    by false = let n = length-take (longest previous key + 1) key in omega (arith, n, p)

first_key_short : (version : ℕ) (b : List RowEntry) → FitsBlock version b → length (first_key b) < 2 ^ 16
first_key_short version [] f = omega arith
first_key_short version (r ∷ rs) f = f.each.0.key.1

later_short : (version : ℕ) (previous : List ℕ) (bs : List (List RowEntry)) → AllByRecursion (FitsBlock version) bs → AllByRecursion (λ k. length k < 2 ^ 16) (later_separators previous bs)
later_short version previous [] f = tt
later_short version previous (b ∷ bs) f = (separator_short previous (first_key b) (first_key_short version b f.0), later_short version (last_key previous b) bs f.1)

pub separators_short : (version : ℕ) (bs : List (List RowEntry)) → AllByRecursion (FitsBlock version) bs → AllByRecursion (λ k. length k < 2 ^ 16) (separators bs)
separators_short version [] f = tt
separators_short version (b ∷ bs) f = (first_key_short version b f.0, later_short version (last_key [] b) bs f.1)

later_count : (previous : List ℕ) (bs : List (List RowEntry)) → length (later_separators previous bs) ≡ length bs
later_count previous [] = refl
later_count previous (b ∷ bs) = let n = later_count (last_key previous b) bs in omega (arith, n)

pub separators_count : (bs : List (List RowEntry)) → length (separators bs) ≡ length bs
separators_count [] = refl
separators_count (b ∷ bs) = let n = later_count (last_key [] b) bs in omega (arith, n)

-- ---- places

pub places_count : (at : ℕ) (ss : List (List ℕ)) → length (places at ss) ≡ length ss
places_count at [] = refl
places_count at (s ∷ ss) = let n = places_count (at + length s) ss in omega (arith, n)

pub places_below : (at n : ℕ) (ss : List (List ℕ)) → at + length (flat_map (λ s. s) ss) < n → AllByRecursion (λ x. x < n) (places at ss)
places_below at n [] p = tt
places_below at n (s ∷ ss) p =
    let whole = length-append s (flat_map (λ s. s) ss) in
    (omega (arith, p), places_below (at + length s) n ss (omega (arith, p, whole)))

-- ---- entries

same_entries : (ats bts : List ℕ) (ks ls : List (List ℕ)) → length ats ≡ length bts → length ks ≡ length ats → length ls ≡ length bts →
    AllByRecursion (λ x. x < 2 ^ 64) ats → AllByRecursion (λ x. x < 2 ^ 64) bts → AllByRecursion (λ k. length k < 2 ^ 16) ks → AllByRecursion (λ k. length k < 2 ^ 16) ls →
    index_entries ats ks ≡ index_entries bts ls → ats ≡ bts
same_entries [] [] ks ls n p q f g k l h = refl
same_entries [] (b ∷ bts) ks ls n p q f g k l h = absurd (omega (arith, n))
same_entries (a ∷ ats) [] ks ls n p q f g k l h = absurd (omega (arith, n))
same_entries (a ∷ ats) (b ∷ bts) [] ls n p q f g k l h = absurd (omega (arith, p))
same_entries (a ∷ ats) (b ∷ bts) (x ∷ ks) [] n p q f g k l h = absurd (omega (arith, q))
same_entries (a ∷ ats) (b ∷ bts) (x ∷ ks) (y ∷ ls) n p q f g k l h =
    let at = same_be64 a b (be16 (length x) ++ x ++ index_entries ats ks) (be16 (length y) ++ y ++ index_entries bts ls) f.0 g.0 h in
    let size = same_be16 (length x) (length y) (x ++ index_entries ats ks) (y ++ index_entries bts ls) k.0 l.0 at.1 in
    let key = same_pieces x y (index_entries ats ks) (index_entries bts ls) size.0 size.1 in
    let rest = same_entries ats bts ks ls (omega (arith, n)) (omega (arith, p)) (omega (arith, q)) f.1 g.1 k.1 l.1 key.1 in
    λ i. at.0 i ∷ rest i

pub same_offsets : (version : ℕ) (bs cs : List (List RowEntry)) (ss ts : List (List ℕ)) → AllByRecursion (FitsBlock version) bs → AllByRecursion (FitsBlock version) cs →
    length ss ≡ length bs → length ts ≡ length cs → length bs < 2 ^ 32 → length cs < 2 ^ 32 → length (flat_map (λ s. s) ss) < 2 ^ 64 → length (flat_map (λ s. s) ts) < 2 ^ 64 →
    index_bytes (places 0 ss) (separators bs) ≡ index_bytes (places 0 ts) (separators cs) → places 0 ss ≡ places 0 ts
same_offsets version bs cs ss ts f g m n p q short tiny h =
    let ms = places_count 0 ss in
    let ns = places_count 0 ts in
    let mk = separators_count bs in
    let nk = separators_count cs in
    let count = same_be32 (length (places 0 ss)) (length (places 0 ts)) (index_entries (places 0 ss) (separators bs)) (index_entries (places 0 ts) (separators cs)) (omega (arith, ms, m, p)) (omega (arith, ns, n, q)) h in
    same_entries (places 0 ss) (places 0 ts) (separators bs) (separators cs) count.0 (omega (arith, ms, mk, m)) (omega (arith, ns, nk, n))
    (places_below 0 (2 ^ 64) ss (omega (arith, short))) (places_below 0 (2 ^ 64) ts (omega (arith, tiny))) (separators_short version bs f) (separators_short version cs g) count.1

-- ---- blocks

same_first : (x y : ℕ) (ss ts : List (List ℕ)) → places x ss ≡ places y ts → x + length (flat_map (λ s. s) ss) ≡ y + length (flat_map (λ s. s) ts) → x ≡ y
same_first x y [] [] h n = omega (arith, n)
same_first x y [] (t ∷ ts) h n = let m = ap (λ l. length l) h in absurd (omega (arith, m))
same_first x y (s ∷ ss) [] h n = let m = ap (λ l. length l) h in absurd (omega (arith, m))
same_first x y (s ∷ ss) (t ∷ ts) h n = same_head x y (places (x + length s) ss) (places (y + length t) ts) h

-- of versions, ids and places that their checksums may cover
pub same_blocks : (encode decode : Encode) → IsLawfulTransform encode decode → (version id at x y : ℕ) → IsKnown version → (bs cs : List (List RowEntry)) →
    AllByRecursion (FitsBlock version) bs → AllByRecursion (FitsBlock version) cs →
    let ss = sections_from version id encode x (map (λ b. block_bytes version b) bs) in
    let ts = sections_from version id encode y (map (λ b. block_bytes version b) cs) in
    places at ss ≡ places at ts → flat_map (λ s. s) ss ≡ flat_map (λ s. s) ts → bs ≡ cs
same_blocks encode decode lawful version id at x y known [] [] f g p h = refl
same_blocks encode decode lawful version id at x y known [] (c ∷ cs) f g p h = let m = ap (λ l. length l) p in absurd (omega (arith, m))
same_blocks encode decode lawful version id at x y known (b ∷ bs) [] f g p h = let m = ap (λ l. length l) p in absurd (omega (arith, m))
same_blocks encode decode lawful version id at x y known (b ∷ bs) (c ∷ cs) f g p h =
    let here = block_bytes version b in
    let there = block_bytes version c in
    let s = section (cover_of version id block_kind x) encode here in
    let t = section (cover_of version id block_kind y) encode there in
    let ss = sections_from version id encode (x + (length (encode here) + 4)) (map (λ d. block_bytes version d) bs) in
    let ts = sections_from version id encode (y + (length (encode there) + 4)) (map (λ d. block_bytes version d) cs) in
    let rest = flat_map (λ d. d) ss in
    let more = flat_map (λ d. d) ts in
    let ends : places (at + length s) ss ≡ places (at + length t) ts = same_tail at at (places (at + length s) ss) (places (at + length t) ts) p in
    let all : length (s ++ rest) ≡ length (t ++ more) = ap (λ l. length l) h in
    let ls = length-append s rest in
    let lt = length-append t more in
    let first = same_first (at + length s) (at + length t) ss ts ends (omega (arith, all, ls, lt)) in
    let size : length s ≡ length t = omega (arith, first) in
    let both = same_pieces s t rest more size h in
    let block = one_written version b c known f.0 g.0 (same_part (cover_of version id block_kind x) (cover_of version id block_kind y) encode decode lawful here there both.0) in
    let later = same_blocks encode decode lawful version id (at + length s) (x + (length (encode here) + 4)) (y + (length (encode there) + 4)) known bs cs f.1 g.1 (ends ∙ ap (λ n. places (at + n) ts) (sym size)) both.1 in
    λ i. block i ∷ later i
