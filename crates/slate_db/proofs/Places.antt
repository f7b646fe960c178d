-- Where the sections of a stored table lie, by what is kept of it.
use Rattle.std.proofs.Common.{◌≡◌, ◌≢◌, ℕ, ◌+◌, ◌<◌, ◌≤◌, Bool, true, false, not, List, [], ◌∷◌, ◌++◌, length, map, flat_map, Option, Some, refl, sym, ap, subst, ◌∙◌, arith, length-append}
use Rattle.std.specs.Prelude.{◌==◌, Contains, IfSome}
use Rattle.std.specs.List.{AllByRecursion}
use Rattle.std.proofs.lemmas.Bool.Decides.{nat_tests}
use Rattle.std.proofs.lemmas.List.Elements.{All-contains, All-from_recursion}
use Rattle.slate_types.specs.declared.filter_policy.FilterQuery.{FilterQuery}
use Rattle.slate_types.specs.declared.types.RowEntry.{RowEntry}
use Rattle.slate_types.specs.Lawful.{IsLawfulTransform}
use Rattle.slate_types.specs.World.{Section}
use Rattle.slate_store.specs.Store.{part_of}
use Rattle.slate_block.specs.BlockSpelling.{block_bytes}
use Rattle.slate_filter.specs.Asking.{asked}
use Rattle.slate_filter.specs.Policy.{Policy, is_denied}
use Rattle.slate_filter.proofs.AskingLaws.{denied}
use Rattle.slate_table.specs.Decoded.{Info}
use Rattle.slate_table.specs.Filtered.{IsAsked, asks_filters}
use Rattle.slate_table.specs.Parts.{Encode, cover_of, block_kind, filters_kind, filters_bytes, section}
use Rattle.slate_table.specs.Reading.{section_read, whole_answer}
use Rattle.slate_table.specs.Table.{IsTableOf, block_places, block_sections, blocks_end, filter_section, placed, sections_from}
use Rattle.slate_table.specs.TableEnd.{HasInfo}
use Rattle.slate_table.proofs.FilterLaws.{same_filter_part}
use Rattle.slate_table.proofs.Sections.{section_length}
use Rattle.slate_table.proofs.TableFinds.{filters_found, flat, found_in, part_is}

-- ---- sections and their places

section_some : (cover : List ℕ) (encode : Encode) (part : List ℕ) → 0 < length (section cover encode part)
section_some cover encode part = let l = section_length cover encode part in omega (arith, l)

sections_some : (version id : ℕ) (encode : Encode) (at : ℕ) (ps : List (List ℕ)) → AllByRecursion (λ s. 0 < length s) (sections_from version id encode at ps)
sections_some version id encode at [] = tt
sections_some version id encode at (p ∷ ps) = (section_some (cover_of version id block_kind at) encode p, sections_some version id encode (at + (length (encode p) + 4)) ps)

-- a place of some length before an end
abbrev EndsBy : ℕ → Section → Type 0
EndsBy n p = (p.at + p.len ≤ n) × (0 < p.len)

weaker : (m n : ℕ) → m ≤ n → (ps : List Section) → AllByRecursion (EndsBy m) ps → AllByRecursion (EndsBy n) ps
weaker m n le [] h = tt
weaker m n le (p ∷ ps) h = ((let a = h.0.0 in omega (arith, a, le), h.0.1), weaker m n le ps h.1)

places_end : (version id at : ℕ) (ss : List (List ℕ)) → AllByRecursion (λ s. 0 < length s) ss → AllByRecursion (EndsBy (at + length (flat_map (λ s. s) ss))) (placed version id at ss)
places_end version id at [] some = tt
places_end version id at (s ∷ ss) some =
    let l = length-append s (flat_map (λ x. x) ss) in (
      (omega (arith, l), some.0),
      weaker (at + length s + length (flat_map (λ x. x) ss)) (at + length (s ++ flat_map (λ x. x) ss)) (omega (arith, l)) (placed version id (at + length s) ss) (places_end version id (at + length s) ss some.1),
    )

-- a block's section ends before the filters
pub before_filters : (encode : Encode) (version id : ℕ) (bs : List (List RowEntry)) (place : Section) → Contains (block_places encode version id bs) place → (place.at + place.len ≤ blocks_end encode version id bs) × (0 < place.len)
before_filters encode version id bs place among =
    let end = blocks_end encode version id bs in
    let none : 0 + end ≡ end = omega arith in
    let some = sections_some version id encode 0 (map (λ b. block_bytes version b) bs) in
    let ends = subst (λ (n : ℕ). AllByRecursion (EndsBy n) (block_places encode version id bs)) none (places_end version id 0 (block_sections encode version id bs) some) in
    All-contains (EndsBy end) (block_places encode version id bs) place (All-from_recursion (EndsBy end) (block_places encode version id bs) ends) among

-- ---- what is kept of a table

pub record FiltersStand (encode : Encode) (bytes : List ℕ) (version id : ℕ) (bs : List (List RowEntry)) (fs : List (List ℕ × List ℕ)) (info : Info) : Type 0 where
  pub at : info.filters.at ≡ blocks_end encode version id bs
  pub len : info.filters.len ≡ length (filter_section (cover_of version id filters_kind info.filters.at) encode fs)
  pub answer : part_of (Some bytes) info.filters.at info.filters.len ≡ Some (filter_section (cover_of version id filters_kind info.filters.at) encode fs)

pub filters_stand : (encode : Encode) (bytes : List ℕ) (v id : ℕ) (info : Info) (version : ℕ) (bs : List (List RowEntry)) (fs : List (List ℕ × List ℕ)) → IsTableOf encode bytes version id bs fs → HasInfo bytes v id info →
    FiltersStand encode bytes version id bs fs info
unfolding flat
filters_stand encode bytes v id info version bs fs t h =
    let blocks = found_in encode bytes v id info version bs fs t h in
    let filters = filters_found encode bytes v id info version bs fs t h in
    record { at = blocks.end ∙ ap (λ ss. length (flat_map (λ s. s) ss)) blocks.are; len = filters.len; answer = filters.answer }

-- ---- what the filters of a table say

some_section : (cover : List ℕ) (encode : Encode) (fs : List (List ℕ × List ℕ)) → 0 < length fs → filter_section cover encode fs ≡ section cover encode (filters_bytes fs)
some_section cover encode [] some = absurd (omega (arith, some))
some_section cover encode (f ∷ fs) some = refl

pub asks_some : (cover : List ℕ) (encode : Encode) (policies : List Policy) (fs : List (List ℕ × List ℕ)) (len : ℕ) → policies ≢ [] → 0 < length fs → len ≡ length (filter_section cover encode fs) → asks_filters policies len ≡ true
asks_some cover encode [] fs len set some is = absurd (set refl)
asks_some cover encode (p ∷ ps) fs len set some is =
    let l = section_some cover encode (filters_bytes fs) in
    let same = ap length (some_section cover encode fs some) in
    let positive : 0 < len = omega (arith, l, same, is) in
    grind (arith, nat_tests, positive)

whole_given : (size : ℕ) (bytes : List ℕ) → size ≡ length bytes → whole_answer size (Some bytes) ≡ Some bytes
whole_given size bytes is = rw (fits (length bytes) size (sym is)) refl
  where
    fits : (m n : ℕ) → m ≡ n → (m == n) ≡ true
    fits m n h = grind (arith, nat_tests, h)

-- what is let through by the bytes of a section isn't denied by its filters
pub none_denies : (encode decode : Encode) → IsLawfulTransform encode decode → (policies : List Policy) (query : FilterQuery) (bytes : List ℕ) (version id : ℕ) (bs : List (List RowEntry)) (fs : List (List ℕ × List ℕ)) (info : Info) →
    IsTableOf encode bytes version id bs fs → FiltersStand encode bytes version id bs fs info → 0 < length fs →
    IsAsked decode policies query (section_read version id filters_kind info.filters.at (whole_answer info.filters.len (part_of (Some bytes) info.filters.at info.filters.len))) true → is_denied policies fs query ≡ false
none_denies encode decode lawful policies query bytes version id bs fs info t stand some (found, (part, p, is), says) =
    let cover = cover_of version id filters_kind info.filters.at in
    let given = whole_answer info.filters.len (part_of (Some bytes) info.filters.at info.filters.len) in
    let answer : given ≡ Some (section cover encode (filters_bytes fs)) =
    ap (whole_answer info.filters.len) stand.answer ∙ whole_given info.filters.len (filter_section cover encode fs) stand.len ∙ ap (λ (x : List ℕ). Some x) (some_section cover encode fs some) in
    let part_of_them : part ≡ filters_bytes fs = part_is encode decode lawful (filters_bytes fs) part (section_read version id filters_kind info.filters.at given) answer p in
    let same : found ≡ fs = same_filter_part found fs is.few t.few_filters is.each t.each_filter (sym is.is ∙ part_of_them) in
    subst (λ (o : Option Bool). IfSome o (λ b. is_denied policies fs query ≡ not b)) (ap (λ (x : List (List ℕ × List ℕ)). asked policies x query) (sym same) ∙ says) (denied policies fs query)
