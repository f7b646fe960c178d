-- A filter section is read one way.
use Rattle.std.proofs.Common.{◌≡◌, ℕ, ◌<◌, ◌^◌, List, [], ◌∷◌, ◌++◌, length, flat_map, refl, sym, ap, ◌∙◌, append_assoc, arith}
use Rattle.std.specs.List.{AllByRecursion}
use Rattle.slate_types.specs.Lawful.{IsLawfulTransform}
use Rattle.slate_block.specs.RowSpelling.{be64}
use Rattle.slate_block.proofs.Pieces.{same_pieces, same_be16, same_be64}
use Rattle.slate_table.specs.Parts.{Encode, section, filter_bytes, filters_bytes}
use Rattle.slate_table.specs.Table.{FitsFilter, filter_section}
use Rattle.slate_table.proofs.IndexLaws.{same_part}
use Rattle.slate_table.proofs.Sections.{section_length}

filter_apart : (name bytes size rest : List ℕ) → ((name ++ size) ++ bytes) ++ rest ≡ name ++ (size ++ (bytes ++ rest))
filter_apart name bytes size rest = append_assoc (name ++ size) bytes rest ∙ append_assoc name size (bytes ++ rest)

same_filters : (fs gs : List (List ℕ × List ℕ)) → length fs ≡ length gs → AllByRecursion FitsFilter fs → AllByRecursion FitsFilter gs → flat_map filter_bytes fs ≡ flat_map filter_bytes gs → fs ≡ gs
same_filters [] [] n f g h = refl
same_filters [] (y ∷ gs) n f g h = absurd (omega (arith, n))
same_filters (x ∷ fs) [] n f g h = absurd (omega (arith, n))
same_filters (x ∷ fs) (y ∷ gs) n f g h =
    let later = flat_map filter_bytes fs in
    let other = flat_map filter_bytes gs in
    let size = same_be16 (length x.0) (length y.0) (((x.0 ++ be64 (length x.1)) ++ x.1) ++ later) (((y.0 ++ be64 (length y.1)) ++ y.1) ++ other) f.0.name g.0.name h in
    let apart = sym (filter_apart x.0 x.1 (be64 (length x.1)) later) ∙ size.1 ∙ filter_apart y.0 y.1 (be64 (length y.1)) other in
    let name = same_pieces x.0 y.0 (be64 (length x.1) ++ (x.1 ++ later)) (be64 (length y.1) ++ (y.1 ++ other)) size.0 apart in
    let amount = same_be64 (length x.1) (length y.1) (x.1 ++ later) (y.1 ++ other) f.0.bytes g.0.bytes name.1 in
    let bytes = same_pieces x.1 y.1 later other amount.0 amount.1 in
    let rest = same_filters fs gs (omega (arith, n)) f.1 g.1 bytes.1 in
    λ i. (name.0 i, bytes.0 i) ∷ rest i

no_section : (cover : List ℕ) (encode : Encode) (part : List ℕ) → [] ≡ section cover encode part → ⊥
no_section cover encode part h =
    let n = ap (λ l. length l) h in
    let m = section_length cover encode part in
    absurd (omega (arith, n, m))

pub same_filter_part : (fs gs : List (List ℕ × List ℕ)) → length fs < 2 ^ 16 → length gs < 2 ^ 16 → AllByRecursion FitsFilter fs → AllByRecursion FitsFilter gs → filters_bytes fs ≡ filters_bytes gs → fs ≡ gs
same_filter_part fs gs p q f g h =
    let count = same_be16 (length fs) (length gs) (flat_map filter_bytes fs) (flat_map filter_bytes gs) p q h in
    same_filters fs gs count.0 f g count.1

pub same_filter_section : (cover other : List ℕ) (encode decode : Encode) → IsLawfulTransform encode decode → (fs gs : List (List ℕ × List ℕ)) → length fs < 2 ^ 16 → length gs < 2 ^ 16 →
    AllByRecursion FitsFilter fs → AllByRecursion FitsFilter gs → filter_section cover encode fs ≡ filter_section other encode gs → fs ≡ gs
same_filter_section cover other encode decode lawful [] [] p q f g h = refl
same_filter_section cover other encode decode lawful [] (y ∷ gs) p q f g h = absurd (no_section other encode (filters_bytes (y ∷ gs)) h)
same_filter_section cover other encode decode lawful (x ∷ fs) [] p q f g h = absurd (no_section cover encode (filters_bytes (x ∷ fs)) (sym h))
same_filter_section cover other encode decode lawful (x ∷ fs) (y ∷ gs) p q f g h =
    same_filter_part (x ∷ fs) (y ∷ gs) p q f g (same_part cover other encode decode lawful (filters_bytes (x ∷ fs)) (filters_bytes (y ∷ gs)) h)
