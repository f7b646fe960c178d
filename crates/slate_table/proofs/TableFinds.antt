-- What is read of the bytes of a table by its info.
use Rattle.std.proofs.Common.{◌≡◌, ℕ, zero, suc, ◌+◌, ◌-◌, ◌^◌, ◌<◌, ◌≤◌, inl, inr, Bool, true, false, cond, ◌&&◌, List, [], ◌∷◌, ◌++◌, length, take, drop, map, flat_map, Option, Some, None, Ok, refl, sym, ap, subst, ◌∙◌, arith, bytes_eq, append_assoc, length-append}
use Rattle.std.specs.Prelude.{◌==◌, IsTrue, nat_le, slice_get}
use Rattle.std.specs.List.{AllByRecursion}
use Rattle.std.proofs.lemmas.Bool.Decides.{nat_tests}
use Rattle.std.proofs.lemmas.List.{length-take, length-drop, length-map, take_at, drop_at, take-take, drop-take, drop-drop}
use Rattle.std.proofs.lemmas.Option.{same_Some, slice_get_cases}
use Rattle.slate_types.specs.declared.error.SlateDBError.{SlateDBError}
use Rattle.slate_types.specs.declared.types.RowEntry.{RowEntry}
use Rattle.slate_types.specs.declared.iter.IterationOrder.TheVariants.{Ascending}
use Rattle.slate_types.specs.Iteration.{IsInOrder, NoneBefore}
use Rattle.slate_types.specs.Keys.{key_lt, key_le}
use Rattle.slate_types.specs.Lawful.{IsLawfulTransform}
use Rattle.slate_types.specs.Partitions.{CanHold}
use Rattle.slate_types.specs.Rows.{row_lt, of_key}
use Rattle.slate_store.specs.Store.{part_of}
use Rattle.slate_block.specs.declared.block.Block.{Block}
use Rattle.slate_block.specs.RowSpelling.{be16, be32, be64}
use Rattle.slate_block.specs.BlockReading.{IsApart, offsets_of_block}
use Rattle.slate_block.specs.BlockSpelling.{IsBlockOf, block_bytes, places, as_read, FitsBlock, IsKnown}
use Rattle.slate_block.specs.ReadingLaws.{EachIsAByte}
use Rattle.slate_block.specs.RowReading.{refusal}
use Rattle.slate_block.proofs.ApartLaws.{block_apart, apart_once}
use Rattle.slate_block.proofs.FieldLaws.{ok_is}
use Rattle.slate_block.proofs.LongestFronts.{longest_fronts}
use Rattle.slate_block.proofs.OffsetLaws.{block_again_apart}
use Rattle.slate_block.proofs.Pieces.{same_pieces, same_ends, same_be16, same_be32, same_be64, same_whole}
use Rattle.slate_block.proofs.Versions.{below_16}
use Rattle.slate_table.specs.Checksum.{crc32}
use Rattle.slate_table.specs.Decoded.{Info, IsIndex, FitsShort, FitsEntry, RisesFrom, RisesFromZero, entry_bytes}
use Rattle.slate_table.specs.Finding.{encloses, is_from, is_upto, IsTableWith, AreBlocksOf, index_answer, blocks_answer, block_read}
use Rattle.slate_table.specs.IndexReading.{index_keys, index_of}
use Rattle.slate_table.specs.InfoReading.{info_in}
use Rattle.slate_table.specs.Parts.{Encode, cover_of, block_kind, filters_kind, index_kind, info_kind, section, summed, separators, later_separators, index_bytes, index_entries, first_key, last_key}
use Rattle.slate_table.specs.Reading.{SectionRead, stored_of, IsPart, IsRefused, IsIndexRead, RefusesIndex, IsBlockRead, AreBlocksRead, RefusesBlocks, block_start, blocks_size, block_answer}
use Rattle.slate_table.specs.SectionReading.{footer_bytes}
use Rattle.slate_table.specs.Table.{filter_section, some_first, some_last, info_of, sections_then_info, sections_from, block_sections, filters_section, index_section, stats_section, info_section, info_start, AreInOrder, IsTableOf}
use Rattle.slate_table.specs.TableEnd.{HasInfo}
use Rattle.slate_table.proofs.Covering.{from_first, upto_last, AllFrom, AllUpto, AreSome, Follow, Holds, separators_hold, separators_follow, outside, covers, none_beyond, order_front}
use Rattle.slate_table.proofs.IndexLaws.{separators_short, separators_count}
use Rattle.slate_table.proofs.IndexReads.{index_again}
use Rattle.slate_table.proofs.InfoReads.{info_again}
use Rattle.slate_table.proofs.SectionReads.{cover_bytes, part_again}
use Rattle.slate_table.proofs.Sections.{block_count, same_summed, section_length, section_placed}
use Rattle.slate_types.proofs.Lists.{AllByRecursion_slice_get, AllByRecursion_append, slice_get_drop, slice_get_map}
use Rattle.slate_table.proofs.FrameLaws.{front_length}

-- ---- the info

made_info : List RowEntry → List ℕ → List ℕ → List ℕ → List ℕ → Info
made_info rows b f i s = record {
  first = some_first rows;
  last = some_last rows;
  index = record { at = length b + length f; len = length i };
  filters = record { at = length b; len = length f };
  stats = record { at = length b + length f + length i; len = length s };
}

info_is : (bytes : List ℕ) (v id : ℕ) (info : Info) (version : ℕ) (rows : List RowEntry) (b f i s : List ℕ) → version < 2 ^ 16 → length bytes < 2 ^ 64 → FitsShort (some_first rows) → FitsShort (some_last rows) →
    bytes ≡ sections_then_info version id rows b f i s → HasInfo bytes v id info → (v ≡ version) × (info ≡ made_info rows b f i s)
unfolding made_info
info_is bytes v id info version rows b f i s known short first last is h =
    let x = b ++ f ++ i ++ s in
    let n = length b + length f + length i + length s in
    let part = info_of version rows (length b) f i s in
    let front : length x ≡ n = front_length b f i s in
    let there = cover_of v id info_kind (length h.before) in
    let here = cover_of version id info_kind n in
    let e0 : ((h.before ++ summed there h.part) ++ be64 (length h.before)) ++ be16 v ≡ ((x ++ summed here part) ++ be64 n) ++ be16 version =
    append_assoc (h.before ++ summed there h.part) (be64 (length h.before)) (be16 v) ∙ append_assoc h.before (summed there h.part) (footer_bytes (length h.before) v) ∙ sym h.is ∙ is in
    let all : length bytes ≡ length h.before + length (summed there h.part ++ footer_bytes (length h.before) v) = ap length h.is ∙ length-append h.before (summed there h.part ++ footer_bytes (length h.before) v) in
    let l1 = length-append x (summed here part) in
    let l2 = length-append (x ++ summed here part) (be64 n) in
    let l3 = length-append ((x ++ summed here part) ++ be64 n) (be16 version) in
    let whole : length bytes ≡ length (((x ++ summed here part) ++ be64 n) ++ be16 version) = ap length is in
    let e1 = same_ends ((h.before ++ summed there h.part) ++ be64 (length h.before)) ((x ++ summed here part) ++ be64 n) (be16 v) (be16 version) refl e0 in
    let versions = same_be16 v version [] [] h.spelled.known known (same_whole (be16 v) (be16 version) e1.1) in
    let e2 = same_ends (h.before ++ summed there h.part) (x ++ summed here part) (be64 (length h.before)) (be64 n) refl e1.0 in
    let ats = same_be64 (length h.before) n [] [] (omega (arith, short, all)) (omega (arith, short, whole, l1, l2, l3, front)) (same_whole (be64 (length h.before)) (be64 n) e2.1) in
    let parts = same_pieces h.before x (summed there h.part) (summed here part) (ats.0 ∙ sym front) e2.0 in
    let infos = same_ends h.part part (be32 (crc32 (there ++ h.part))) (be32 (crc32 (here ++ part))) refl parts.1 in
    let read : info_in v (length h.before) h.part ≡ Ok info = info_again v (length h.before) h.part info (record { is = h.spelled; before = h.lies }) in
    let again : info_in version (length x) part ≡ Ok (made_info rows b f i s) = info_again version (length x) part (made_info rows b f i s) (record {
      is = record {
        known = known;
        first = first;
        last = last;
        index = (omega (arith, short, whole, l1, l2, l3, front), omega (arith, short, whole, l1, l2, l3, front));
        filters = (omega (arith, short, whole, l1, l2, l3, front), omega (arith, short, whole, l1, l2, l3, front));
        stats = (omega (arith, short, whole, l1, l2, l3, front), omega (arith, short, whole, l1, l2, l3, front));
        is = refl;
      };
      before = (omega (arith, front), omega (arith, front), omega (arith, front));
    }) in
    (versions.0, ok_is info (made_info rows b f i s) (sym read ∙ (λ j. info_in (versions.0 j) (length (parts.0 j)) (infos.0 j)) ∙ again))

-- ---- the rows' keys

keys_short : (version : ℕ) (b : List RowEntry) → FitsBlock version b → AllByRecursion (λ r. length r.key < 2 ^ 16) b
keys_short version b f = each b f.each
  where
    each : (rows : List RowEntry) → AllByRecursion (λ r. Rattle.slate_block.specs.BlockSpelling.FitsRow r) rows → AllByRecursion (λ r. length r.key < 2 ^ 16) rows
    each [] h = tt
    each (r ∷ rs) h = (h.0.key.1, each rs h.1)

all_short : (version : ℕ) (bs : List (List RowEntry)) → AllByRecursion (FitsBlock version) bs → AllByRecursion (λ r. length r.key < 2 ^ 16) (flat_map (λ b. b) bs)
all_short version [] f = tt
all_short version (b ∷ bs) f = AllByRecursion_append (λ r. length r.key < 2 ^ 16) b (flat_map (λ x. x) bs) (keys_short version b f.0) (all_short version bs f.1)

first_short : (rows : List RowEntry) → AllByRecursion (λ r. length r.key < 2 ^ 16) rows → FitsShort (some_first rows)
first_short [] h = tt
first_short (r ∷ rs) h = h.0

last_short : (r : RowEntry) (rs : List RowEntry) → AllByRecursion (λ r. length r.key < 2 ^ 16) (r ∷ rs) → length (last_key r.key rs) < 2 ^ 16
last_short r [] h = h.0
last_short r (s ∷ rs) h = last_short s rs h.1

some_last_short : (rows : List RowEntry) → AllByRecursion (λ r. length r.key < 2 ^ 16) rows → FitsShort (some_last rows)
some_last_short [] h = tt
some_last_short (r ∷ rs) h = last_short r rs h

rows_in : List (List RowEntry) → List RowEntry
rows_in bs = flat_map (λ b. b) bs

body_of : Encode → ℕ → ℕ → List (List RowEntry) → List ℕ
body_of encode version id bs = flat_map (λ b. b) (block_sections encode version id bs)

table_info : (encode : Encode) (bytes : List ℕ) (v id : ℕ) (info : Info) (version : ℕ) (bs : List (List RowEntry)) (fs : List (List ℕ × List ℕ)) → IsTableOf encode bytes version id bs fs → HasInfo bytes v id info →
    (v ≡ version) × (info ≡ made_info (rows_in bs) (body_of encode version id bs) (filters_section encode version id bs fs) (index_section encode version id bs fs) (stats_section encode version id bs fs))
unfolding rows_in body_of
table_info encode bytes v id info version bs fs t h =
    info_is bytes v id info version (rows_in bs) (body_of encode version id bs) (filters_section encode version id bs fs) (index_section encode version id bs fs) (stats_section encode version id bs fs)
    (below_16 version t.known) t.short (first_short (rows_in bs) (all_short version bs t.each)) (some_last_short (rows_in bs) (all_short version bs t.each)) t.is h

pub same_version : (encode : Encode) (bytes : List ℕ) (v id : ℕ) (info : Info) (version : ℕ) (bs : List (List RowEntry)) (fs : List (List ℕ × List ℕ)) → IsTableOf encode bytes version id bs fs → HasInfo bytes v id info → v ≡ version
same_version encode bytes v id info version bs fs t h = (table_info encode bytes v id info version bs fs t h).0

-- ---- keys outside

first_of : (rows : List RowEntry) (k : List ℕ) → AreInOrder rows → (is_from (some_first rows) k && is_upto (some_last rows) k) ≡ false → of_key k rows ≡ []
unfolding AllFrom AllUpto
first_of [] k order h = refl
first_of (r ∷ rs) k order h = none_beyond k (r ∷ rs) (pairs (r ∷ rs) (from_first r rs order) (upto_last [] (r ∷ rs) order)) (λ s both e.
    let low : key_le r.key k ≡ true = ap (key_le r.key) (sym e) ∙ both.0 in
    let high : key_le k (last_key r.key rs) ≡ true = ap (λ x. key_le x (last_key r.key rs)) (sym e) ∙ both.1 in
    let clash : true ≡ false = sym ((λ i. low i && high i)) ∙ h in cc)
  where
    pairs : (xs : List RowEntry) → AllByRecursion (λ s. key_le r.key s.key ≡ true) xs → AllByRecursion (λ s. key_le s.key (last_key r.key rs) ≡ true) xs → AllByRecursion (λ s. (key_le r.key s.key ≡ true) × (key_le s.key (last_key r.key rs) ≡ true)) xs
    pairs [] f u = tt
    pairs (x ∷ xs) f u = ((f.0, u.0), pairs xs f.1 u.1)

as_read_key : (version : ℕ) (r : RowEntry) → (as_read version r).key ≡ r.key
as_read_key version r = by (version == 1)
  where
    by : (t : Bool) → (cond t (record r { expire_ts = Rattle.slate_block.specs.RowSpelling.read_expiry r.value r.expire_ts }) r).key ≡ r.key
    by true = refl
    by false = refl

pub of_key_read : (version : ℕ) (k : List ℕ) (rows : List RowEntry) → of_key k (map (as_read version) rows) ≡ map (as_read version) (of_key k rows)
of_key_read version k [] = refl
of_key_read version k (r ∷ rs) =
    ap (λ x. cond (bytes_eq x k) (as_read version r ∷ of_key k (map (as_read version) rs)) (of_key k (map (as_read version) rs))) (as_read_key version r)
    ∙ by (bytes_eq r.key k) (of_key_read version k rs)
  where
    by : (t : Bool) → of_key k (map (as_read version) rs) ≡ map (as_read version) (of_key k rs) →
        cond t (as_read version r ∷ of_key k (map (as_read version) rs)) (of_key k (map (as_read version) rs)) ≡ map (as_read version) (cond t (r ∷ of_key k rs) (of_key k rs))
    by true rest = ap (λ xs. as_read version r ∷ xs) rest
    by false rest = rest

pub outside_none : (encode : Encode) (bytes : List ℕ) (version id : ℕ) (info : Info) (rows : List RowEntry) → IsTableWith encode bytes version id info rows → (k : List ℕ) → encloses info k ≡ false → of_key k rows ≡ []
unfolding rows_in made_info
outside_none encode bytes version id info rows t k h =
    let w = t.written in
    let bs = t.is.0 in
    let is = table_info encode bytes version id info w bs t.is.1 t.is.2 t.info in
    ap (of_key k) t.is.3 ∙ of_key_read w k (rows_in bs) ∙ ap (map (as_read w)) (first_of (rows_in bs) k t.is.2.order (sym (ap (λ x. encloses x k) is.1) ∙ h))

-- ---- ranges of bytes

within : (m n : ℕ) → m ≤ n → nat_le m n ≡ true
within m n h = grind (arith, nat_tests)

part_at : (front mid rest : List ℕ) (a n : ℕ) → a ≡ length front → n ≡ length mid → part_of (Some (front ++ (mid ++ rest))) a n ≡ Some mid
part_at front mid rest a n at size =
    let l1 = length-append front (mid ++ rest) in
    let l2 = length-append mid rest in
    rw (within (a + n) (length (front ++ (mid ++ rest))) (omega (arith, at, size, l1, l2)))
    (ap (λ xs. Some (take n xs)) (drop_at front (mid ++ rest) a (sym at)) ∙ ap Some (take_at mid rest n (sym size)))

part_twice : (bytes : List ℕ) (a m d n : ℕ) → a + m ≤ length bytes → d + n ≤ m → part_of (part_of (Some bytes) a m) d n ≡ part_of (Some bytes) (a + d) n
part_twice bytes a m d n whole inner =
    let dropped = length-drop a bytes in
    let taken = length-take m (drop a bytes) in
    let rest : d + (m - d) ≡ m = omega (arith, inner) in
    ap (λ o. part_of o d n) (ap (λ t. cond t (Some (take m (drop a bytes))) None) (within (a + m) (length bytes) whole))
    ∙ ap (λ t. cond t (Some (take n (drop d (take m (drop a bytes))))) None) (within (d + n) (length (take m (drop a bytes))) (omega (arith, whole, inner, dropped, taken)))
    ∙ ap (λ x. Some (take n (drop d (take x (drop a bytes))))) (sym rest)
    ∙ ap (λ xs. Some (take n xs)) (drop-take d (m - d) (drop a bytes))
    ∙ ap Some (take-take n (m - d) (drop d (drop a bytes)) (omega (arith, inner)))
    ∙ ap (λ xs. Some (take n xs)) (drop-drop d a bytes)
    ∙ sym (ap (λ t. cond t (Some (take n (drop (a + d) bytes))) None) (within (a + d + n) (length bytes) (omega (arith, whole, inner))))

-- ---- where blocks begin

unfoldable pub flat : List (List ℕ) → List ℕ
flat ss = flat_map (λ s. s) ss

abbrev no_sections : List (List ℕ)
no_sections = []

none_taken : (n : ℕ) → length (flat (take n no_sections)) ≡ 0
unfolding flat
none_taken zero = refl
none_taken (suc n) = refl

begins : (at : ℕ) (ss : List (List ℕ)) (es : List (ℕ × List ℕ)) (i : ℕ) → map (λ e. e.0) es ≡ places at ss → block_start (at + length (flat ss)) es i ≡ at + length (flat (take i ss))
unfolding flat
begins at [] [] i h = ap (λ n. at + n) (sym (none_taken i))
begins at [] (e ∷ es) i h = let n = ap length h in absurd (omega (arith, n))
begins at (s ∷ ss) [] i h = let n = ap length h in absurd (omega (arith, n))
begins at (s ∷ ss) (e ∷ es) zero h = let first : e.0 ≡ at = Rattle.slate_block.proofs.Pieces.same_head e.0 at (map (λ e. e.0) es) (places (at + length s) ss) h in omega (arith, first)
begins at (s ∷ ss) (e ∷ es) (suc i) h =
    let rest = begins (at + length s) ss es i (Rattle.slate_block.proofs.Pieces.same_tail e.0 at (map (λ e. e.0) es) (places (at + length s) ss) h) in
    let l1 = length-append s (flat_map (λ x. x) ss) in
    let l2 = length-append s (flat_map (λ x. x) (take i ss)) in
    let end : at + length (s ++ flat_map (λ x. x) ss) ≡ (at + length s) + length (flat_map (λ x. x) ss) = omega (arith, l1) in
    let start : (at + length s) + length (flat_map (λ x. x) (take i ss)) ≡ at + length (s ++ flat_map (λ x. x) (take i ss)) = omega (arith, l2) in
    ap (λ n. block_start n es i) end ∙ rest ∙ start

fronts_rise : (ss : List (List ℕ)) (i j : ℕ) → i ≤ j → length (flat (take i ss)) ≤ length (flat (take j ss))
unfolding flat
fronts_rise ss zero j h = omega arith
fronts_rise ss (suc i) zero h = absurd (omega (arith, h))
fronts_rise [] (suc i) (suc j) h = omega arith
fronts_rise (s ∷ ss) (suc i) (suc j) h =
    let rest = fronts_rise ss i j (omega (arith, h)) in
    omega (arith, rest, length-append s (flat_map (λ x. x) (take i ss)), length-append s (flat_map (λ x. x) (take j ss)))

fronts_within : (ss : List (List ℕ)) (i : ℕ) → length (flat (take i ss)) ≤ length (flat ss)
unfolding flat
fronts_within ss zero = omega arith
fronts_within [] (suc i) = omega arith
fronts_within (s ∷ ss) (suc i) =
    let rest = fronts_within ss i in
    omega (arith, rest, length-append s (flat_map (λ x. x) (take i ss)), length-append s (flat_map (λ x. x) ss))

-- one of the sections stands between the ones before it and the others
splits : (ss : List (List ℕ)) (i : ℕ) (s rest : List ℕ) → slice_get ss i ≡ Some s → flat ss ++ rest ≡ flat (take i ss) ++ (s ++ (flat (drop (suc i) ss) ++ rest))
unfolding flat
splits [] i s rest h = cc
splits (x ∷ ss) zero s rest h = ap (λ y. (y ++ flat_map (λ x. x) ss) ++ rest) (same_Some x s h) ∙ append_assoc s (flat_map (λ x. x) ss) rest
splits (x ∷ ss) (suc i) s rest h =
    append_assoc x (flat_map (λ x. x) ss) rest ∙ ap (λ ys. x ++ ys) (splits ss i s rest h)
    ∙ sym (append_assoc x (flat_map (λ x. x) (take i ss)) (s ++ (flat_map (λ x. x) (drop (suc i) ss) ++ rest)))

one_longer : (ss : List (List ℕ)) (i : ℕ) (s : List ℕ) → slice_get ss i ≡ Some s → length (flat (take (suc i) ss)) ≡ length (flat (take i ss)) + length s
unfolding flat
one_longer [] i s h = cc
one_longer (x ∷ ss) zero s h = let l = length-append x [] in let e : length x ≡ length s = ap length (same_Some x s h) in omega (arith, l, e)
one_longer (x ∷ ss) (suc i) s h =
    let rest = one_longer ss i s h in
    omega (arith, rest, length-append x (flat_map (λ x. x) (take (suc i) ss)), length-append x (flat_map (λ x. x) (take i ss)))

section_there : (bytes rest : List ℕ) (ss : List (List ℕ)) (i : ℕ) (s : List ℕ) (a n : ℕ) → bytes ≡ flat ss ++ rest → slice_get ss i ≡ Some s → a ≡ length (flat (take i ss)) → n ≡ length s → part_of (Some bytes) a n ≡ Some s
section_there bytes rest ss i s a n is h at size =
    ap (λ b. part_of (Some b) a n) (is ∙ splits ss i s rest h) ∙ part_at (flat (take i ss)) s (flat (drop (suc i) ss) ++ rest) a n at size

-- what an answer from the first block on says of a block
answer_is : (bytes rest : List ℕ) (ss : List (List ℕ)) (es : List (ℕ × List ℕ)) (end first stop i : ℕ) (s : List ℕ) → bytes ≡ flat ss ++ rest → end ≡ length (flat ss) → map (λ e. e.0) es ≡ places 0 ss →
    first ≤ i → i < stop → slice_get ss i ≡ Some s → block_answer end es first (part_of (Some bytes) (block_start end es first) (blocks_size end es first stop)) i ≡ Some s
answer_is bytes rest ss es end first stop i s is ends are low high found =
    let at : (j : ℕ) → block_start end es j ≡ length (flat (take j ss)) = λ j. ap (λ n. block_start n es j) ends ∙ ap (λ n. block_start n es j) (let e : length (flat ss) ≡ 0 + length (flat ss) = omega arith in e) ∙ begins 0 ss es j are ∙ (let e : 0 + length (flat (take j ss)) ≡ length (flat (take j ss)) = omega arith in e) in
    let f = at first in
    let g = at i in
    let next : block_start end es (i + 1) ≡ length (flat (take (suc i) ss)) = at (i + 1) ∙ ap (λ j. length (flat (take j ss))) (let e : i + 1 ≡ suc i = omega arith in e) in
    let z = at stop in
    let r1 = fronts_rise ss first i low in
    let r2 = fronts_rise ss (suc i) stop (omega (arith, high)) in
    let r3 = fronts_within ss stop in
    let longer = one_longer ss i s found in
    let whole : length bytes ≡ length (flat ss) + length rest = ap length is ∙ length-append (flat ss) rest in
    part_twice bytes (block_start end es first) (blocks_size end es first stop) (blocks_size end es first i) (blocks_size end es i (i + 1))
    (omega (arith, f, z, r1, r2, r3, longer, whole)) (omega (arith, f, g, next, z, r1, r2, longer))
    ∙ section_there bytes rest ss i s (block_start end es first + blocks_size end es first i) (blocks_size end es i (i + 1)) is found (omega (arith, f, g, r1)) (omega (arith, g, next, longer))

-- ---- the index

places_below : (at n : ℕ) (ss : List (List ℕ)) → at + length (flat ss) < n → AllByRecursion (λ x. x < n) (places at ss)
unfolding flat
places_below at n [] p = tt
places_below at n (s ∷ ss) p =
    let whole = length-append s (flat_map (λ s. s) ss) in
    (omega (arith, p), places_below (at + length s) n ss (omega (arith, p, whole)))

places_count : (at : ℕ) (ss : List (List ℕ)) → length (places at ss) ≡ length ss
places_count at [] = refl
places_count at (s ∷ ss) = let n = places_count (at + length s) ss in omega (arith, n)

entries_are : (end : ℕ) (es : List (ℕ × List ℕ)) (ats : List ℕ) (ks : List (List ℕ)) → length es ≡ length ats → length ks ≡ length ats → AllByRecursion (FitsEntry end) es →
    AllByRecursion (λ x. x < 2 ^ 64) ats → AllByRecursion (λ k. length k < 2 ^ 16) ks → flat_map entry_bytes es ≡ index_entries ats ks → (map (λ e. e.0) es ≡ ats) × (index_keys es ≡ ks)
entries_are end [] [] [] n p f g k h = (refl, refl)
entries_are end [] [] (x ∷ ks) n p f g k h = absurd (omega (arith, p))
entries_are end [] (a ∷ ats) ks n p f g k h = absurd (omega (arith, n))
entries_are end (e ∷ es) [] ks n p f g k h = absurd (omega (arith, n))
entries_are end (e ∷ es) (a ∷ ats) [] n p f g k h = absurd (omega (arith, p))
entries_are end (e ∷ es) (a ∷ ats) (x ∷ ks) n p f g k h =
    let at = same_be64 e.0 a (be16 (length e.1) ++ e.1 ++ flat_map entry_bytes es) (be16 (length x) ++ x ++ index_entries ats ks) f.0.1 g.0 h in
    let size = same_be16 (length e.1) (length x) (e.1 ++ flat_map entry_bytes es) (x ++ index_entries ats ks) f.0.2 k.0 at.1 in
    let key = same_pieces e.1 x (flat_map entry_bytes es) (index_entries ats ks) size.0 size.1 in
    let rest = entries_are end es ats ks (omega (arith, n)) (omega (arith, p)) f.1 g.1 k.1 key.1 in
    ((λ i. at.0 i ∷ rest.0 i), (λ i. key.0 i ∷ rest.1 i))

pub part_is : (encode decode : Encode) → IsLawfulTransform encode decode → (part found : List ℕ) (s : SectionRead) → s.answer ≡ Some (section s.cover encode part) → IsPart decode s found → found ≡ part
part_is encode decode lawful part found s is p =
    let same : summed s.cover p.0 ≡ summed s.cover (encode part) = same_Some (summed s.cover p.0) (summed s.cover (encode part)) (sym p.1 ∙ is) in
    p.2 ∙ ap decode (same_summed s.cover p.0 (encode part) same) ∙ lawful part

-- the entries are those of the blocks
index_is : (encode decode : Encode) → IsLawfulTransform encode decode → (version end : ℕ) (bs : List (List RowEntry)) (ss : List (List ℕ)) (s : SectionRead) (es : List (ℕ × List ℕ)) →
    AllByRecursion (FitsBlock version) bs → length ss ≡ length bs → length bs < 2 ^ 32 → length (flat ss) < 2 ^ 64 → s.answer ≡ Some (section s.cover encode (index_bytes (places 0 ss) (separators bs))) →
    IsIndexRead decode end s es → (map (λ e. e.0) es ≡ places 0 ss) × (index_keys es ≡ separators bs)
index_is encode decode lawful version end bs ss s es each count few short is read =
    let part = part_is encode decode lawful (index_bytes (places 0 ss) (separators bs)) read.0 s is read.1 in
    let ats = places_count 0 ss in
    let ks = separators_count bs in
    let number = same_be32 (length es) (length (places 0 ss)) (flat_map entry_bytes es) (index_entries (places 0 ss) (separators bs)) read.2.few (omega (arith, ats, count, few)) (sym read.2.is ∙ part) in
    entries_are end es (places 0 ss) (separators bs) number.0 (omega (arith, ats, ks, count)) read.2.each (places_below 0 (2 ^ 64) ss (omega (arith, short))) (separators_short version bs each) number.1

-- ---- blocks

block_is : (encode decode : Encode) → IsLawfulTransform encode decode → (version : ℕ) (b : List RowEntry) (s : SectionRead) (block : Block) → IsKnown version → FitsBlock version b →
    s.answer ≡ Some (section s.cover encode (block_bytes version b)) → IsBlockRead decode s block → IsBlockOf block.body block.offsets.items version (map (as_read version) b)
block_is encode decode lawful version b s block known fits is read =
    let part = part_is encode decode lawful (block_bytes version b) read.0 s is read.1 in
    let spelled = longest_fronts version b known fits in
    let apart = block_apart spelled.0 spelled.1 (block_bytes version b) version (map (as_read version) b) spelled.2 spelled.3 in
    let same = apart_once block.body spelled.0 block.offsets.items spelled.1 (block_bytes version b) (subst (λ p. IsApart block.body block.offsets.items p) part read.2) apart in
    subst (λ (o : List ℕ). IsBlockOf block.body o version (map (as_read version) b)) (sym same.1) (subst (λ (x : List ℕ). IsBlockOf x spelled.1 version (map (as_read version) b)) (sym same.0) spelled.2)

all_of : (version : ℕ) (blocks : List Block) (xs : List (List RowEntry)) → length blocks ≡ length xs →
    ((i : ℕ) (block : Block) (b : List RowEntry) → slice_get blocks i ≡ Some block → slice_get xs i ≡ Some b → IsBlockOf block.body block.offsets.items version (map (as_read version) b)) →
    AreBlocksOf version blocks (map (map (as_read version)) xs)
all_of version [] [] n h = tt
all_of version [] (b ∷ xs) n h = absurd (omega (arith, n))
all_of version (block ∷ blocks) [] n h = absurd (omega (arith, n))
all_of version (block ∷ blocks) (b ∷ xs) n h = (h 0 block b refl refl, all_of version blocks xs (omega (arith, n)) (λ i c d e f. h (suc i) c d e f))

taken_get : {X : Type 0} (xs : List X) (n i : ℕ) (x : X) → slice_get (take n xs) i ≡ Some x → (slice_get xs i ≡ Some x) × (i < n)
taken_get xs zero i x h = cc
taken_get [] (suc n) i x h = cc
taken_get (y ∷ xs) (suc n) zero x h = (h, omega arith)
taken_get (y ∷ xs) (suc n) (suc i) x h = let rest = taken_get xs n i x h in (rest.0, omega (arith, rest.1))

begin_is : (end : ℕ) (es : List (ℕ × List ℕ)) (i at : ℕ) → slice_get (map (λ e. e.0) es) i ≡ Some at → block_start end es i ≡ at
begin_is end [] i at h = cc
begin_is end (e ∷ es) zero at h = same_Some e.0 at h
begin_is end (e ∷ es) (suc i) at h = begin_is end es i at h

-- its checksum covers where the index says that it begins
pub block_there : (encode : Encode) (version id end : ℕ) (bs : List (List RowEntry)) (es : List (ℕ × List ℕ)) (i : ℕ) (b : List RowEntry) → map (λ e. e.0) es ≡ places 0 (block_sections encode version id bs) → slice_get bs i ≡ Some b →
    slice_get (block_sections encode version id bs) i ≡ Some (section (cover_of version id block_kind (block_start end es i)) encode (block_bytes version b))
block_there encode version id end bs es i b are here =
    let at = section_placed version id encode 0 (map (λ c. block_bytes version c) bs) i (block_bytes version b) (slice_get_map (λ c. block_bytes version c) bs i b here) in
    let begins_at : block_start end es i ≡ at.begin = begin_is end es i at.begin (ap (λ xs. slice_get xs i) are ∙ at.place) in
    at.there ∙ ap (λ n. Some (section (cover_of version id block_kind n) encode (block_bytes version b))) (sym begins_at)

-- ---- the rows of blocks stand in order

none_before : (version : ℕ) (r : RowEntry) (rs : List RowEntry) → AllByRecursion (λ s. IsTrue (row_lt r s)) rs → NoneBefore Ascending (as_read version r).key (map (as_read version) rs)
none_before version r [] h = tt
none_before version r (s ∷ rs) h = (ap (λ k. key_lt k (as_read version r).key) (as_read_key version s) ∙ ap (key_lt s.key) (as_read_key version r) ∙ Rattle.slate_table.proofs.Covering.not_above r s h.0, none_before version r rs h.1)

read_in_order : (version : ℕ) (rows : List RowEntry) → AreInOrder rows → IsInOrder Ascending (map (as_read version) rows)
read_in_order version [] h = tt
read_in_order version (r ∷ rs) h = (none_before version r rs h.0, read_in_order version rs h.1)

each_in_order : (version : ℕ) (xs : List (List RowEntry)) → AllByRecursion AreInOrder xs → AllByRecursion (IsInOrder Ascending) (map (map (as_read version)) xs)
each_in_order version [] h = tt
each_in_order version (x ∷ xs) h = (read_in_order version x h.0, each_in_order version xs h.1)

each_ordered : (bs : List (List RowEntry)) → AreInOrder (flat_map (λ b. b) bs) → AllByRecursion AreInOrder bs
each_ordered [] h = tt
each_ordered (b ∷ bs) h = (order_front b (flat_map (λ x. x) bs) h, each_ordered bs (Rattle.slate_table.proofs.Covering.order_back b (flat_map (λ x. x) bs) h))

all_taken : {X : Type 0} (P : X → Type 0) (n : ℕ) (xs : List X) → AllByRecursion P xs → AllByRecursion P (take n xs)
all_taken P zero xs h = tt
all_taken P (suc n) [] h = tt
all_taken P (suc n) (x ∷ xs) h = (h.0, all_taken P n xs h.1)

all_dropped : {X : Type 0} (P : X → Type 0) (n : ℕ) (xs : List X) → AllByRecursion P xs → AllByRecursion P (drop n xs)
all_dropped P zero xs h = h
all_dropped P (suc n) [] h = tt
all_dropped P (suc n) (x ∷ xs) h = all_dropped P n xs h.1

flat_read : (version : ℕ) (xs : List (List RowEntry)) → flat_map (λ b. b) (map (map (as_read version)) xs) ≡ map (as_read version) (flat_map (λ b. b) xs)
flat_read version [] = refl
flat_read version (x ∷ xs) = ap (λ ys. map (as_read version) x ++ ys) (flat_read version xs) ∙ sym (Rattle.std.proofs.lemmas.List.map-append (as_read version) x (flat_map (λ b. b) xs))

all_some : (version : ℕ) (bs : List (List RowEntry)) → AllByRecursion (FitsBlock version) bs → AreSome bs
unfolding AreSome
all_some version [] h = tt
all_some version (b ∷ bs) h = (h.0.some, all_some version bs h.1)

-- ---- a table

front_bytes : (a b : List ℕ) → EachIsAByte (a ++ b) → EachIsAByte a
front_bytes [] b fits i = omega arith
front_bytes (x ∷ a) b fits zero = fits 0
front_bytes (x ∷ a) b fits (suc i) = front_bytes a b (λ j. fits (suc j)) i

mid_bytes : (front mid rest : List ℕ) → EachIsAByte (front ++ (mid ++ rest)) → EachIsAByte mid
mid_bytes [] mid rest fits = front_bytes mid rest fits
mid_bytes (x ∷ front) mid rest fits = mid_bytes front mid rest (λ i. fits (suc i))

pub record Found (encode : Encode) (bytes : List ℕ) (version id : ℕ) (info : Info) (bs : List (List RowEntry)) : Type 0 where
  pub ss : List (List ℕ)
  pub are : ss ≡ block_sections encode version id bs
  pub rest : List ℕ
  pub is : bytes ≡ flat ss ++ rest
  pub end : info.filters.at ≡ length (flat ss)
  pub index : (index_answer version id bytes info).answer ≡ Some (section (cover_of version id index_kind info.index.at) encode (index_bytes (places 0 ss) (separators bs)))
  pub index_is : EachIsAByte bytes → EachIsAByte (section (cover_of version id index_kind info.index.at) encode (index_bytes (places 0 ss) (separators bs)))

pub found_in : (encode : Encode) (bytes : List ℕ) (v id : ℕ) (info : Info) (version : ℕ) (bs : List (List RowEntry)) (fs : List (List ℕ × List ℕ)) → IsTableOf encode bytes version id bs fs → HasInfo bytes v id info →
    Found encode bytes version id info bs
unfolding made_info body_of flat rows_in
found_in encode bytes v id info version bs fs t h =
    let is = table_info encode bytes v id info version bs fs t h in
    let part = index_bytes (places 0 (block_sections encode version id bs)) (separators bs) in
    let b = flat_map (λ s. s) (block_sections encode version id bs) in
    let f = filters_section encode version id bs fs in
    let i = index_section encode version id bs fs in
    let s = stats_section encode version id bs fs in
    let n = info_section encode version id bs fs in
    let end = be64 (info_start encode version id bs fs) in
    let whole : bytes ≡ (b ++ f) ++ (i ++ (s ++ (n ++ (end ++ be16 version)))) =
    t.is ∙ append_assoc (b ++ f ++ i ++ s ++ n) end (be16 version) ∙ append_assoc (b ++ f ++ i ++ s) n (end ++ be16 version) ∙ append_assoc (b ++ f ++ i) s (n ++ (end ++ be16 version)) ∙ append_assoc (b ++ f) i (s ++ (n ++ (end ++ be16 version))) in
    let covered : i ≡ section (cover_of version id index_kind info.index.at) encode part =
    ap (λ (x : Info). section (cover_of version id index_kind x.index.at) encode part) (sym is.1) in
    record {
      ss = block_sections encode version id bs;
      are = refl;
      rest = f ++ (i ++ (s ++ (n ++ (end ++ be16 version))));
      is = whole ∙ append_assoc b f (i ++ (s ++ (n ++ (end ++ be16 version))));
      end = ap (λ x. x.filters.at) is.1;
      index = (λ j. part_of (Some (whole j)) (is.1 j).index.at (is.1 j).index.len) ∙ part_at (b ++ f) i (s ++ (n ++ (end ++ be16 version))) (length b + length f) (length i) (sym (length-append b f)) refl ∙ ap Some covered;
      index_is = λ fits. subst EachIsAByte covered (mid_bytes (b ++ f) i (s ++ (n ++ (end ++ be16 version))) (subst EachIsAByte whole fits));
    }

pub key_held : (encode decode : Encode) → IsLawfulTransform encode decode → (bytes : List ℕ) (version id : ℕ) (info : Info) (rows : List RowEntry) → IsTableWith encode bytes version id info rows →
    (entries : List (ℕ × List ℕ)) → IsIndexRead decode info.filters.at (index_answer version id bytes info) entries →
    (k : List ℕ) (first stop : ℕ) → first ≤ stop → stop ≤ length entries → ((i : ℕ) → CanHold (index_keys entries) i k → (first ≤ i) × (i < stop)) →
    (blocks : List Block) → length blocks ≡ stop - first → AreBlocksRead decode (block_read version id info entries first (blocks_answer bytes info entries first stop)) first blocks →
    (found : List (List RowEntry)) × AreBlocksOf version blocks found × AllByRecursion (IsInOrder Ascending) found × (of_key k (flat_map (λ b. b) found) ≡ of_key k rows)
unfolding Holds
key_held encode decode lawful bytes version id info rows t es read k first stop order within cover blocks count are =
    (map (map (as_read version)) xs, blocks_are, each_in_order version xs (all_taken AreInOrder (stop - first) (drop first bs) (all_dropped AreInOrder first bs (each_ordered bs table.order))), held)
  where
    bs : List (List RowEntry)
    bs = t.is.0

    table : IsTableOf encode bytes t.written id t.is.0 t.is.1
    table = t.is.2

    same : version ≡ t.written
    same = same_version encode bytes version id info t.written t.is.0 t.is.1 t.is.2 t.info

    at : Found encode bytes t.written id info t.is.0
    at = found_in encode bytes version id info t.written t.is.0 t.is.1 t.is.2 t.info

    count_ss : length at.ss ≡ length t.is.0
    count_ss = ap length at.are ∙ block_count encode t.written id t.is.0

    short : length (flat at.ss) < 2 ^ 64
    short = let l : length bytes ≡ length (flat at.ss) + length at.rest = ap length at.is ∙ length-append (flat at.ss) at.rest in omega (arith, l, t.is.2.short)

    index : (map (λ e. e.0) es ≡ places 0 at.ss) × (index_keys es ≡ separators t.is.0)
    index = index_is encode decode lawful t.written info.filters.at t.is.0 at.ss (index_answer t.written id bytes info) es t.is.2.each count_ss t.is.2.few short at.index
        (subst (λ v. IsIndexRead decode info.filters.at (index_answer v id bytes info) es) same read)

    blocks_read : AreBlocksRead decode (block_read t.written id info es first (blocks_answer bytes info es first stop)) first blocks
    blocks_read = subst (λ v. AreBlocksRead decode (block_read v id info es first (blocks_answer bytes info es first stop)) first blocks) same are

    entries_count : length es ≡ length t.is.0
    entries_count = sym (length-map es (λ e. e.0)) ∙ ap length index.0 ∙ places_count 0 at.ss ∙ count_ss

    xs : List (List RowEntry)
    xs = take (stop - first) (drop first t.is.0)

    xs_count : length blocks ≡ length xs
    xs_count = let a = length-take (stop - first) (drop first t.is.0) in let b = length-drop first t.is.0 in omega (arith, a, b, count, order, within, entries_count)

    one : (i : ℕ) (block : Block) (b : List RowEntry) → slice_get blocks i ≡ Some block → slice_get xs i ≡ Some b → IsBlockOf block.body block.offsets.items t.written (map (as_read t.written) b)
    one i block b e f =
        let inside = taken_get (drop first t.is.0) (stop - first) i b f in
        let place : slice_get t.is.0 (first + i) ≡ Some b = slice_get_drop t.is.0 first i b inside.0 in
        let cover = cover_of t.written id block_kind (block_start info.filters.at es (first + i)) in
        let there : slice_get at.ss (first + i) ≡ Some (section cover encode (block_bytes t.written b)) =
        ap (λ ss. slice_get ss (first + i)) at.are ∙ block_there encode t.written id info.filters.at t.is.0 es (first + i) b (index.0 ∙ ap (places 0) at.are) place in
        let answer = answer_is bytes at.rest at.ss es info.filters.at first stop (first + i) (section cover encode (block_bytes t.written b)) at.is at.end index.0 (omega arith) (omega (arith, inside.1)) there in
        block_is encode decode lawful t.written b (block_read t.written id info es first (blocks_answer bytes info es first stop) (first + i)) block t.is.2.known
        (AllByRecursion_slice_get (FitsBlock t.written) t.is.0 (first + i) b t.is.2.each place) answer (blocks_read i block e)

    blocks_are : AreBlocksOf version blocks (map (map (as_read version)) xs)
    blocks_are = subst (λ v. AreBlocksOf v blocks (map (map (as_read v)) xs)) (sym same) (all_of t.written blocks xs xs_count one)

    held : of_key k (flat_map (λ b. b) (map (map (as_read version)) xs)) ≡ of_key k rows
    held =
        ap (of_key k) (flat_read version xs)
        ∙ of_key_read version k (flat_map (λ b. b) xs)
        ∙ ap (map (as_read version)) (covers k t.is.0 first stop (outside (index_keys es) k t.is.0 first stop (subst (λ ks. Holds ks t.is.0) (sym index.1) (separators_hold t.is.0 (all_some t.written t.is.0 t.is.2.each) t.is.2.order)) cover))
        ∙ sym (of_key_read version k (flat_map (λ b. b) t.is.0))
        ∙ ap (λ v. of_key k (map (as_read v) (flat_map (λ b. b) t.is.0))) same
        ∙ sym (ap (of_key k) t.is.3)

-- ---- nothing of a table is refused

nothing_refused : (encode decode : Encode) → IsLawfulTransform encode decode → (refused : List ℕ → Option SlateDBError) (part : List ℕ) (s : SectionRead) (e : SlateDBError) →
    s.answer ≡ Some (section s.cover encode part) → EachIsAByte s.cover → EachIsAByte (section s.cover encode part) → refused part ≡ None → IsRefused decode refused s e → ⊥
nothing_refused encode decode lawful refused part s e is covered fits fine (inl h) =
    let clash : None ≡ Some e = sym (ap (λ o. refusal (stored_of s.cover o)) is ∙ ap refusal (part_again s.cover (section s.cover encode part) (encode part) covered fits refl)) ∙ h in cc
nothing_refused encode decode lawful refused part s e is covered fits fine (inr h) =
    let clash : None ≡ Some e = sym (ap refused (part_is encode decode lawful part h.0 s is h.1) ∙ fine) ∙ h.2 in cc

pairs : List ℕ → List (List ℕ) → List (ℕ × List ℕ)
pairs [] ks = []
pairs (a ∷ ats) [] = []
pairs (a ∷ ats) (k ∷ ks) = (a, k) ∷ pairs ats ks

pairs_spelled : (ats : List ℕ) (ks : List (List ℕ)) → index_entries ats ks ≡ flat_map entry_bytes (pairs ats ks)
unfolding pairs
pairs_spelled [] ks = refl
pairs_spelled (a ∷ ats) [] = refl
pairs_spelled (a ∷ ats) (k ∷ ks) = ap (λ xs. be64 a ++ be16 (length k) ++ k ++ xs) (pairs_spelled ats ks)

pairs_count : (ats : List ℕ) (ks : List (List ℕ)) → length ks ≡ length ats → length (pairs ats ks) ≡ length ats
unfolding pairs
pairs_count [] ks h = refl
pairs_count (a ∷ ats) [] h = absurd (omega (arith, h))
pairs_count (a ∷ ats) (k ∷ ks) h = let n = pairs_count ats ks (omega (arith, h)) in omega (arith, n)

pairs_fit : (end : ℕ) (ats : List ℕ) (ks : List (List ℕ)) → AllByRecursion (λ x. x < end + 1) ats → AllByRecursion (λ x. x < 2 ^ 64) ats → AllByRecursion (λ k. length k < 2 ^ 16) ks → AllByRecursion (FitsEntry end) (pairs ats ks)
unfolding pairs
pairs_fit end [] ks a b c = tt
pairs_fit end (x ∷ ats) [] a b c = tt
pairs_fit end (x ∷ ats) (k ∷ ks) a b c = ((omega (arith, a.0), b.0, c.0), pairs_fit end ats ks a.1 b.1 c.1)

pairs_rise : (at : ℕ) (s : List ℕ) (ss : List (List ℕ)) (k : List ℕ) (ks : List (List ℕ)) → 0 < length s → AllByRecursion (λ x. 0 < length x) ss → Follow k ks → RisesFrom (at, k) (pairs (places (at + length s) ss) ks)
unfolding pairs Follow
pairs_rise at s [] k ks some more follow = tt
pairs_rise at s (t ∷ ss) k [] some more follow = tt
pairs_rise at s (t ∷ ss) k (j ∷ ks) some more follow = (omega (arith, some), follow.0, pairs_rise (at + length s) t ss j ks more.0 more.1 follow.1)

section_some : (cover : List ℕ) (encode : Encode) (part : List ℕ) → 0 < length (section cover encode part)
section_some cover encode part = let l = section_length cover encode part in omega (arith, l)

sections_some : (version id : ℕ) (encode : Encode) (at : ℕ) (ps : List (List ℕ)) → AllByRecursion (λ x. 0 < length x) (sections_from version id encode at ps)
sections_some version id encode at [] = tt
sections_some version id encode at (p ∷ ps) = (section_some (cover_of version id block_kind at) encode p, sections_some version id encode (at + (length (encode p) + 4)) ps)

rises_zero : (encode : Encode) (version id : ℕ) (bs : List (List RowEntry)) → 0 < length bs → AreSome bs → AreInOrder (flat_map (λ x. x) bs) → RisesFromZero (pairs (places 0 (block_sections encode version id bs)) (separators bs))
unfolding pairs
rises_zero encode version id [] some each order = absurd (omega (arith, some))
rises_zero encode version id (b ∷ bs) some each order =
    let part = block_bytes version b in
    let cover = cover_of version id block_kind 0 in
    let next = 0 + (length (encode part) + 4) in (
      refl,
      pairs_rise 0 (section cover encode part) (sections_from version id encode next (map (λ c. block_bytes version c) bs)) (first_key b) (later_separators (last_key [] b) bs)
          (section_some cover encode part) (sections_some version id encode next (map (λ c. block_bytes version c) bs)) (separators_follow b bs each order),
    )

index_stands : (encode : Encode) (version id end : ℕ) (bs : List (List RowEntry)) → 0 < length bs → length bs < 2 ^ 32 → AllByRecursion (FitsBlock version) bs → AreInOrder (flat_map (λ x. x) bs) →
    end ≡ length (flat (block_sections encode version id bs)) → length (flat (block_sections encode version id bs)) < 2 ^ 64 →
    IsIndex end (index_bytes (places 0 (block_sections encode version id bs)) (separators bs)) (pairs (places 0 (block_sections encode version id bs)) (separators bs))
index_stands encode version id end bs some few each order ends short =
    let ss = block_sections encode version id bs in
    let count = places_count 0 ss in
    let sections = block_count encode version id bs in
    let keys = separators_count bs in
    let all = pairs_count (places 0 ss) (separators bs) (omega (arith, count, sections, keys)) in
    record {
      few = omega (arith, all, count, sections, few);
      each = pairs_fit end (places 0 ss) (separators bs) (places_below 0 (end + 1) ss (omega (arith, ends))) (places_below 0 (2 ^ 64) ss (omega (arith, short))) (separators_short version bs each);
      rises = rises_zero encode version id bs some (all_some version bs each) order;
      is = (λ i. be32 (sym all i) ++ pairs_spelled (places 0 ss) (separators bs) i);
    }

pub not_refused : (encode decode : Encode) → IsLawfulTransform encode decode → (bytes : List ℕ) (version id : ℕ) (info : Info) (rows : List RowEntry) → EachIsAByte bytes → IsTableWith encode bytes version id info rows →
    ((e : SlateDBError) → RefusesIndex decode info.filters.at (index_answer version id bytes info) e → ⊥)
    × ((entries : List (ℕ × List ℕ)) → IsIndexRead decode info.filters.at (index_answer version id bytes info) entries → (first stop : ℕ) → first ≤ stop → stop ≤ length entries →
    (e : SlateDBError) → RefusesBlocks decode (block_read version id info entries first (blocks_answer bytes info entries first stop)) first stop e → ⊥)
not_refused encode decode lawful bytes version id info rows fits t = (index_fine, blocks_fine)
  where
    same : version ≡ t.written
    same = same_version encode bytes version id info t.written t.is.0 t.is.1 t.is.2 t.info

    at : Found encode bytes t.written id info t.is.0
    at = found_in encode bytes version id info t.written t.is.0 t.is.1 t.is.2 t.info

    count_ss : length at.ss ≡ length t.is.0
    count_ss = ap length at.are ∙ block_count encode t.written id t.is.0

    short : length (flat at.ss) < 2 ^ 64
    short = let l : length bytes ≡ length (flat at.ss) + length at.rest = ap length at.is ∙ length-append (flat at.ss) at.rest in omega (arith, l, t.is.2.short)

    stands : IsIndex info.filters.at (index_bytes (places 0 (block_sections encode t.written id t.is.0)) (separators t.is.0)) (pairs (places 0 (block_sections encode t.written id t.is.0)) (separators t.is.0))
    stands = index_stands encode t.written id info.filters.at t.is.0 t.is.2.some t.is.2.few t.is.2.each t.is.2.order (at.end ∙ ap (λ ss. length (flat ss)) at.are) (subst (λ ss. length (flat ss) < 2 ^ 64) at.are short)

    index_fine : (e : SlateDBError) → RefusesIndex decode info.filters.at (index_answer version id bytes info) e → ⊥
    index_fine e refuses =
        nothing_refused encode decode lawful (λ part. refusal (index_of info.filters.at part)) (index_bytes (places 0 at.ss) (separators t.is.0)) (index_answer t.written id bytes info) e at.index
        (cover_bytes t.written id index_kind info.index.at (omega arith)) (at.index_is fits)
        (ap (λ ss. refusal (index_of info.filters.at (index_bytes (places 0 ss) (separators t.is.0)))) at.are ∙ ap refusal (index_again info.filters.at _ _ stands))
        (subst (λ v. RefusesIndex decode info.filters.at (index_answer v id bytes info) e) same refuses)

    blocks_fine : (entries : List (ℕ × List ℕ)) → IsIndexRead decode info.filters.at (index_answer version id bytes info) entries → (first stop : ℕ) → first ≤ stop → stop ≤ length entries →
        (e : SlateDBError) → RefusesBlocks decode (block_read version id info entries first (blocks_answer bytes info entries first stop)) first stop e → ⊥
    blocks_fine es read first stop order within e refused =
        let refuses = subst (λ v. RefusesBlocks decode (block_read v id info es first (blocks_answer bytes info es first stop)) first stop e) same refused in
        let index = index_is encode decode lawful t.written info.filters.at t.is.0 at.ss (index_answer t.written id bytes info) es t.is.2.each count_ss t.is.2.few short at.index
        (subst (λ v. IsIndexRead decode info.filters.at (index_answer v id bytes info) es) same read) in
        let count : length es ≡ length t.is.0 = sym (length-map es (λ e. e.0)) ∙ ap length index.0 ∙ places_count 0 at.ss ∙ count_ss in
        elim (slice_get_cases t.is.0 refuses.0).1 [
          | inl found ↦
              let b = found.0 in
              let begin = block_start info.filters.at es refuses.0 in
              let cover = cover_of t.written id block_kind begin in
              let piece = section cover encode (block_bytes t.written b) in
              let there : slice_get at.ss refuses.0 ≡ Some piece =
              ap (λ ss. slice_get ss refuses.0) at.are ∙ block_there encode t.written id info.filters.at t.is.0 es refuses.0 b (index.0 ∙ ap (places 0) at.are) found.2 in
              let answer = answer_is bytes at.rest at.ss es info.filters.at first stop refuses.0 piece at.is at.end index.0 refuses.1 refuses.2 there in
              let spelled = longest_fronts t.written b t.is.2.known (AllByRecursion_slice_get (FitsBlock t.written) t.is.0 refuses.0 b t.is.2.each found.2) in
              let apart = block_apart spelled.0 spelled.1 (block_bytes t.written b) t.written (map (as_read t.written) b) spelled.2 spelled.3 in
              let again = block_again_apart spelled.0 spelled.1 (block_bytes t.written b) apart in
              nothing_refused encode decode lawful (λ part. refusal (offsets_of_block part)) (block_bytes t.written b) (block_read t.written id info es first (blocks_answer bytes info es first stop) refuses.0) e answer
              (cover_bytes t.written id block_kind begin (omega arith))
              (mid_bytes (flat (take refuses.0 at.ss)) piece (flat (drop (suc refuses.0) at.ss) ++ at.rest) (subst EachIsAByte (at.is ∙ splits at.ss refuses.0 piece at.rest there) fits))
              (ap refusal again.1) refuses.3
          | inr past ↦ absurd (omega (arith, past.0, refuses.2, within, count))
        ]

-- ---- the keys of an info

pub info_keys : (encode : Encode) (bytes : List ℕ) (v id : ℕ) (info : Info) (version : ℕ) (bs : List (List RowEntry)) (fs : List (List ℕ × List ℕ)) → IsTableOf encode bytes version id bs fs → HasInfo bytes v id info →
    (info.first ≡ some_first (flat_map (λ b. b) bs)) × (info.last ≡ some_last (flat_map (λ b. b) bs))
unfolding rows_in made_info
info_keys encode bytes v id info version bs fs t h =
    let is = table_info encode bytes v id info version bs fs t h in
    (ap (λ (x : Info). x.first) is.1, ap (λ (x : Info). x.last) is.1)

-- ---- the filters

pub record FiltersFound (encode : Encode) (bytes : List ℕ) (version id : ℕ) (info : Info) (fs : List (List ℕ × List ℕ)) : Type 0 where
  pub answer : part_of (Some bytes) info.filters.at info.filters.len ≡ Some (filter_section (cover_of version id filters_kind info.filters.at) encode fs)
  pub len : info.filters.len ≡ length (filter_section (cover_of version id filters_kind info.filters.at) encode fs)
  pub bytes_are : EachIsAByte bytes → EachIsAByte (filter_section (cover_of version id filters_kind info.filters.at) encode fs)

pub filters_found : (encode : Encode) (bytes : List ℕ) (v id : ℕ) (info : Info) (version : ℕ) (bs : List (List RowEntry)) (fs : List (List ℕ × List ℕ)) → IsTableOf encode bytes version id bs fs → HasInfo bytes v id info →
    FiltersFound encode bytes version id info fs
unfolding made_info body_of rows_in
filters_found encode bytes v id info version bs fs t h =
    let is = table_info encode bytes v id info version bs fs t h in
    let b = flat_map (λ s. s) (block_sections encode version id bs) in
    let f = filters_section encode version id bs fs in
    let i = index_section encode version id bs fs in
    let s = stats_section encode version id bs fs in
    let n = info_section encode version id bs fs in
    let end = be64 (info_start encode version id bs fs) in
    let rest = i ++ (s ++ (n ++ (end ++ be16 version))) in
    let whole : bytes ≡ b ++ (f ++ rest) =
    t.is ∙ append_assoc (b ++ f ++ i ++ s ++ n) end (be16 version) ∙ append_assoc (b ++ f ++ i ++ s) n (end ++ be16 version) ∙ append_assoc (b ++ f ++ i) s (n ++ (end ++ be16 version))
    ∙ append_assoc (b ++ f) i (s ++ (n ++ (end ++ be16 version))) ∙ append_assoc b f rest in
    let covered : f ≡ filter_section (cover_of version id filters_kind info.filters.at) encode fs =
    ap (λ (x : Info). filter_section (cover_of version id filters_kind x.filters.at) encode fs) (sym is.1) in
    record {
      answer = (λ j. part_of (Some (whole j)) (is.1 j).filters.at (is.1 j).filters.len) ∙ part_at b f rest (length b) (length f) refl refl ∙ ap Some covered;
      len = ap (λ (x : Info). x.filters.len) is.1 ∙ ap length covered;
      bytes_are = λ fits. subst EachIsAByte covered (mid_bytes b f rest (subst EachIsAByte whole fits));
    }
