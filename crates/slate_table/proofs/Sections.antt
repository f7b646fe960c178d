-- Sections of a table, whatever their checksums cover.
use Rattle.std.proofs.Common.{◌≡◌, ℕ, suc, zero, ◌+◌, List, [], ◌∷◌, ◌++◌, length, map, flat_map, Option, Some, None, refl, sym, ap, ◌∙◌, arith, length-append}
use Rattle.std.specs.Prelude.{slice_get}
use Rattle.std.proofs.lemmas.List.{length-map}
use Rattle.slate_types.specs.declared.types.RowEntry.{RowEntry}
use Rattle.slate_types.specs.Lawful.{IsLawfulTransform}
use Rattle.slate_block.specs.RowSpelling.{be32}
use Rattle.slate_block.specs.BlockSpelling.{block_bytes, places}
use Rattle.slate_block.proofs.Pieces.{same_ends}
use Rattle.slate_table.specs.Checksum.{crc32}
use Rattle.slate_table.specs.Parts.{Encode, cover_of, block_kind, summed, section}
use Rattle.slate_table.specs.Table.{sections_from, block_sections}

pub summed_length : (cover bytes : List ℕ) → length (summed cover bytes) ≡ length bytes + 4
summed_length cover bytes = length-append bytes (be32 (crc32 (cover ++ bytes)))

pub section_length : (cover : List ℕ) (encode : Encode) (part : List ℕ) → length (section cover encode part) ≡ length (encode part) + 4
section_length cover encode part = summed_length cover (encode part)

-- of equal sections with one cover
pub same_summed : (cover a b : List ℕ) → summed cover a ≡ summed cover b → a ≡ b
same_summed cover a b h = (same_ends a b (be32 (crc32 (cover ++ a))) (be32 (crc32 (cover ++ b))) refl h).0

pub same_section : (cover : List ℕ) (encode decode : Encode) → IsLawfulTransform encode decode → (a b : List ℕ) → section cover encode a ≡ section cover encode b → a ≡ b
same_section cover encode decode lawful a b h = sym (lawful a) ∙ ap decode (same_summed cover (encode a) (encode b) h) ∙ lawful b

-- ---- of blocks

pub sections_count : (version id : ℕ) (encode : Encode) (at : ℕ) (ps : List (List ℕ)) → length (sections_from version id encode at ps) ≡ length ps
sections_count version id encode at [] = refl
sections_count version id encode at (p ∷ ps) = let n = sections_count version id encode (at + (length (encode p) + 4)) ps in omega (arith, n)

pub block_count : (encode : Encode) (version id : ℕ) (bs : List (List RowEntry)) → length (block_sections encode version id bs) ≡ length bs
block_count encode version id bs = sections_count version id encode 0 (map (λ b. block_bytes version b) bs) ∙ length-map bs (λ b. block_bytes version b)

-- a further one stands behind all others
pub sections_end : (version id : ℕ) (encode : Encode) (at : ℕ) (ps : List (List ℕ)) (p : List ℕ) →
    sections_from version id encode at (ps ++ (p ∷ []))
    ≡ sections_from version id encode at ps ++ (section (cover_of version id block_kind (at + length (flat_map (λ s. s) (sections_from version id encode at ps)))) encode p ∷ [])
sections_end version id encode at [] p = let same : at ≡ at + 0 = omega arith in ap (λ (n : ℕ). section (cover_of version id block_kind n) encode p ∷ []) same
sections_end version id encode at (q ∷ ps) p =
    let first = section (cover_of version id block_kind at) encode q in
    let rest = sections_from version id encode (at + (length (encode q) + 4)) ps in
    let size = section_length (cover_of version id block_kind at) encode q in
    let all = length-append first (flat_map (λ s. s) rest) in
    let same : at + (length (encode q) + 4) + length (flat_map (λ s. s) rest) ≡ at + length (first ++ flat_map (λ s. s) rest) = omega (arith, size, all) in
    ap (λ (l : List (List ℕ)). first ∷ l) (sections_end version id encode (at + (length (encode q) + 4)) ps p
    ∙ ap (λ (n : ℕ). rest ++ (section (cover_of version id block_kind n) encode p ∷ [])) same)

-- one of them, and where it begins
pub record Placed (version id : ℕ) (encode : Encode) (at : ℕ) (ps : List (List ℕ)) (i : ℕ) (p : List ℕ) : Type 0 where
  pub begin : ℕ
  pub place : slice_get (places at (sections_from version id encode at ps)) i ≡ Some begin
  pub there : slice_get (sections_from version id encode at ps) i ≡ Some (section (cover_of version id block_kind begin) encode p)

pub section_placed : (version id : ℕ) (encode : Encode) (at : ℕ) (ps : List (List ℕ)) (i : ℕ) (p : List ℕ) → slice_get ps i ≡ Some p → Placed version id encode at ps i p
section_placed version id encode at [] i p h = cc
section_placed version id encode at (q ∷ ps) zero p h = record {
  begin = at;
  place = refl;
  there = ap (λ (o : Option (List ℕ)). by o) h;
}
  where
    by : Option (List ℕ) → Option (List ℕ)
    by None = None
    by (Some x) = Some (section (cover_of version id block_kind at) encode x)
section_placed version id encode at (q ∷ ps) (suc i) p h =
    let size = section_length (cover_of version id block_kind at) encode q in
    let same : at + (length (encode q) + 4) ≡ at + length (section (cover_of version id block_kind at) encode q) = omega (arith, size) in
    let rest = section_placed version id encode (at + (length (encode q) + 4)) ps i p h in
    record {
      begin = rest.begin;
      place = ap (λ (n : ℕ). slice_get (places n (sections_from version id encode (at + (length (encode q) + 4)) ps)) i) (sym same) ∙ rest.place;
      there = rest.there;
    }
