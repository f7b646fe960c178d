-- What is read of the parts of a table that a store holds.
use Rattle.std.proofs.Common.{◌≡◌, ℕ, zero, suc, ◌+◌, ◌^◌, ◌<◌, ◌≤◌, Bool, cond, List, [], ◌∷◌, ◌++◌, length, map, flat_map, Option, Some, None, Ok, Err, inl, inr, refl, sym, ap, subst, ◌∙◌, arith}
use Rattle.std.specs.Prelude.{slice_get, option_map, sum_by}
use Rattle.std.specs.List.{AllByRecursion}
use Rattle.std.proofs.lemmas.List.{length-append, length-map}
use Rattle.std.proofs.lemmas.List.Sums.{count_by-le-length, sum_by-cons}
use Rattle.std.proofs.lemmas.List.Concat.{flat_map-cons}
use Rattle.std.proofs.lemmas.Option.{same_Some, slice_get_cases, slice_get-map}
use Rattle.slate_types.specs.declared.error.SlateDBError.{SlateDBError}
use Rattle.slate_types.specs.declared.error.SlateDBError.TheVariants.{BlockOutOfRange, InvalidVersion}
use Rattle.slate_types.specs.declared.types.RowEntry.{RowEntry}
use Rattle.slate_types.specs.Lawful.{IsLawfulTransform}
use Rattle.slate_types.specs.Outside.{Objects}
use Rattle.slate_types.specs.Rows.{operand, is_operand, is_put, is_tombstone}
use Rattle.slate_store.specs.Store.{Act, part_of}
use Rattle.slate_block.specs.RowSpelling.{be16, be32, be64}
use Rattle.slate_block.specs.BlockSpelling.{block_bytes, places, as_read, IsKnown, IsBlock, IsBlockOf, FitsBlock, FitsRow}
use Rattle.slate_block.specs.declared.block.Block.{Block}
use Rattle.slate_block.specs.BlockReading.{IsApart, offsets_of_block}
use Rattle.slate_block.specs.Walks.{block_rows}
use Rattle.slate_block.proofs.OffsetLaws.{block_again_apart}
use Rattle.slate_block.proofs.ApartLaws.{block_apart, apart_once}
use Rattle.slate_block.proofs.Versions.{is_known_of}
use Rattle.slate_block.proofs.WalkedVersions.{block_again}
use Rattle.slate_block.specs.RowReading.{refusal}
use Rattle.slate_block.proofs.Groups.{IsBytes}
use Rattle.slate_block.proofs.Pieces.{same_pieces, same_be16, same_be32, same_be64}
use Rattle.slate_block.proofs.FieldLaws.{ok_is}
use Rattle.slate_block.proofs.LongestFronts.{longest_fronts}
use Rattle.slate_block.proofs.BlockLaws.{blocks_one_way}
use Rattle.slate_table.specs.declared.info.SsTableHandle.{SsTableHandle}
use Rattle.slate_table.specs.Parts.{Encode, cover_of, block_kind, filters_kind, index_kind, stats_kind, info_kind, section, summed, separators, index_bytes, index_entries, stats_bytes, counts, filters_bytes}
use Rattle.slate_table.specs.Table.{IsTableOf, block_sections, blocks_end, filter_section, filters_section, index_section, stats_section, info_of}
use Rattle.slate_table.specs.Decoded.{Info, IsFilters, IsIndex, FitsEntry, entry_bytes, Stats, IsStats, FitCounts, counts_bytes}
use Rattle.slate_table.specs.InfoReading.{seen_info}
use Rattle.slate_table.specs.SectionReading.{footer_bytes}
use Rattle.slate_table.specs.Reading.{SectionRead, section_read, IsRead, Reads, stored_of, IsRefused, IsIndexRead, RefusesIndex, IsStatsRead, RefusesStats, AreFiltersRead, RefusesFilters, AreBlocksRead, block_start, blocks_size, block_answer}
use Rattle.slate_table.specs.IndexReading.{index_of}
use Rattle.slate_table.specs.StatsReading.{stats_in}
use Rattle.slate_table.specs.Finding.{block_read}
use Rattle.slate_table.specs.FileReading.{rows_in, AreRowsRead, RefusesRows, ReadsRows, RefusesReadRows}
use Rattle.slate_table.specs.FileLaws.{table_info, table_entries, table_stats, paired, row_counts, HoldsTable}
use Rattle.slate_table.proofs.SectionReads.{front_bytes, cover_bytes, part_again}
use Rattle.slate_table.proofs.OpenLaws.{bytes_behind, sealed_bytes}
use Rattle.slate_table.proofs.BuiltLaws.{blocks_rows}
use Rattle.slate_table.proofs.IndexLaws.{places_count, places_below, separators_count, separators_short}
use Rattle.slate_table.proofs.IndexReads.{index_again}
use Rattle.slate_table.proofs.IndexOrder.{index_is, paired_count}
use Rattle.slate_table.proofs.StatsReads.{stats_again}
use Rattle.slate_table.proofs.FilterLaws.{same_filter_part}
use Rattle.slate_table.proofs.Sections.{sections_count, section_placed}
use Rattle.slate_table.proofs.FrameReads.{part_at, part_within, starts_at, starts_rise, upto_end, answered, part_is, sections_split, in_filters, in_stats, in_index, block_split, stands}
use Rattle.slate_types.proofs.Lists.{AllByRecursion_slice_get}

-- ---- a table's bytes

all_of : Encode → ℕ → ℕ → List (List RowEntry) → List ℕ
all_of encode version id blocks = flat_map (λ b. b) (block_sections encode version id blocks)

front_of : Encode → ℕ → ℕ → List (List RowEntry) → List (List ℕ × List ℕ) → List ℕ
front_of encode version id blocks filters = ((all_of encode version id blocks ++ filters_section encode version id blocks filters) ++ index_section encode version id blocks filters) ++ stats_section encode version id blocks filters

tail_of : Encode → ℕ → ℕ → List (List RowEntry) → List (List ℕ × List ℕ) → List ℕ
tail_of encode version id blocks filters =
    summed (cover_of version id info_kind (length (front_of encode version id blocks filters)))
    (info_of version (flat_map (λ b. b) blocks) (length (all_of encode version id blocks)) (filters_section encode version id blocks filters) (index_section encode version id blocks filters) (stats_section encode version id blocks filters))
    ++ footer_bytes (length (front_of encode version id blocks filters)) version

record IsWhole (encode : Encode) (bytes : List ℕ) (version id : ℕ) (blocks : List (List RowEntry)) (filters : List (List ℕ × List ℕ)) : Type 0 where
  pub is : bytes ≡ (((all_of encode version id blocks ++ filters_section encode version id blocks filters) ++ index_section encode version id blocks filters) ++ stats_section encode version id blocks filters) ++ tail_of encode version id blocks filters
  pub short : length (all_of encode version id blocks) < 2 ^ 64

whole : (encode : Encode) (bytes : List ℕ) (version id : ℕ) (blocks : List (List RowEntry)) (filters : List (List ℕ × List ℕ)) → IsTableOf encode bytes version id blocks filters → IsWhole encode bytes version id blocks filters
unfolding all_of front_of tail_of
whole encode bytes version id blocks filters t =
    let b = all_of encode version id blocks in
    let f = filters_section encode version id blocks filters in
    let i = index_section encode version id blocks filters in
    let s = stats_section encode version id blocks filters in
    let is = t.is ∙ sections_split version id (flat_map (λ x. x) blocks) b f i s in
    let n = ap length is ∙ length-append (((b ++ f) ++ i) ++ s) (tail_of encode version id blocks filters) in
    record { is = is; short = omega (arith, n, length-append b f, length-append (b ++ f) i, length-append ((b ++ f) ++ i) s, t.short) }

-- ---- the statistics

counts_fit : (bits : ℕ) (rows : List RowEntry) → length rows < 2 ^ bits → FitCounts bits (row_counts rows)
counts_fit bits rows few =
    let puts = count_by-le-length is_put rows in
    let deletes = count_by-le-length is_tombstone rows in
    let merges = count_by-le-length is_operand rows in
    (omega (arith, puts, few), omega (arith, deletes, few), omega (arith, merges, few))

each_fits : (version : ℕ) (bs : List (List RowEntry)) → AllByRecursion (FitsBlock version) bs → AllByRecursion (FitCounts 16) (map row_counts bs)
each_fits version [] f = tt
each_fits version (b ∷ bs) f = (counts_fit 16 b f.0.counted, each_fits version bs f.1)

counts_spelled : (bs : List (List RowEntry)) → flat_map (counts be16) bs ≡ flat_map (counts_bytes be16) (map row_counts bs)
counts_spelled [] = refl
counts_spelled (b ∷ bs) = ap (λ (l : List ℕ). counts be16 b ++ l) (counts_spelled bs)

rows_few : (rows : List RowEntry) → AllByRecursion FitsRow rows → length rows ≤ sum_by (λ r. length r.key) rows
rows_few [] f = omega arith
rows_few (r ∷ rs) f =
    let rest = rows_few rs f.1 in
    let some : 0 < length r.key = f.0.key.0 in
    omega (arith, rest, some, sum_by-cons (λ (x : RowEntry). length x.key) r rs)

stats_are : (encode : Encode) (bytes : List ℕ) (version id : ℕ) (blocks : List (List RowEntry)) (filters : List (List ℕ × List ℕ)) → IsTableOf encode bytes version id blocks filters → IsStats (stats_bytes blocks) (table_stats blocks)
stats_are encode bytes version id blocks filters t =
    let rows = flat_map (λ b. b) blocks in
    let few = rows_few rows (blocks_rows version blocks t.each) in
    let count = length-map blocks row_counts in
    let spelled = counts_spelled blocks in
    record {
      all = counts_fit 64 rows (omega (arith, few, t.key_sum));
      keys = t.key_sum;
      values = t.value_sum;
      each = each_fits version blocks t.each;
      few = omega (arith, count, t.few);
      is = λ j. counts be64 rows ++ be64 (sum_by (λ r. length r.key) rows) ++ be64 (sum_by (λ r. length (operand r)) rows) ++ be32 (sym count j) ++ spelled j;
    }

pub stats_held : (encode decode : Encode) → IsLawfulTransform encode decode → (objects : Option Objects) (before after : Option (List Act)) (path : List ℕ) (version id : ℕ) (blocks : List (List RowEntry)) (filters : List (List ℕ × List ℕ)) (stats : Stats) →
    HoldsTable encode objects path version id blocks filters → let info = table_info encode version id blocks filters in
    Reads objects before after path info.stats.at info.stats.len (λ answer. IsStatsRead decode (section_read version id stats_kind info.stats.at answer) stats) → stats ≡ table_stats blocks
unfolding IsStatsRead all_of
stats_held encode decode lawful objects before after path version id blocks filters stats h read =
    let b = all_of encode version id blocks in
    let f = filters_section encode version id blocks filters in
    let i = index_section encode version id blocks filters in
    let s = stats_section encode version id blocks filters in
    let w = whole encode h.bytes version id blocks filters h.is in
    let answer : read.0 ≡ Some s = answered objects h.told before after path h.bytes (length b + length f + length i) (length s) read.0 h.tells h.there read.1 ∙ in_stats h.bytes b f i s (tail_of encode version id blocks filters) w.is in
    let part : read.2.0 ≡ stats_bytes blocks = part_is encode decode lawful (stats_bytes blocks) read.2.0 (section_read version id stats_kind (length b + length f + length i) read.0) answer read.2.1 in
    let found = subst (λ (l : List ℕ). IsStats l stats) part read.2.2 in
    ok_is stats (table_stats blocks) (sym (stats_again (stats_bytes blocks) stats found) ∙ stats_again (stats_bytes blocks) (table_stats blocks) (stats_are encode h.bytes version id blocks filters h.is))

section_refused : (encode decode : Encode) → IsLawfulTransform encode decode → (text : List ℕ) (refused : List ℕ → Option SlateDBError) (s : SectionRead) (e : SlateDBError) → IsBytes s.cover → IsBytes (section s.cover encode text) →
    s.answer ≡ Some (section s.cover encode text) → refused text ≡ None → IsRefused decode refused s e → ⊥
section_refused encode decode lawful text refused s e covered fits is none (inl r) =
    let again = part_again s.cover (section s.cover encode text) (encode text) covered fits refl in
    let clash : None ≡ Some e = sym (ap refusal again) ∙ ap (λ (a : Option (List ℕ)). refusal (stored_of s.cover a)) (sym is) ∙ r in cc
section_refused encode decode lawful text refused s e covered fits is none (inr r) =
    let part : r.0 ≡ text = part_is encode decode lawful text r.0 s is r.1 in
    let clash : None ≡ Some e = sym none ∙ ap refused (sym part) ∙ r.2 in cc

pub stats_found : (encode decode : Encode) → IsLawfulTransform encode decode → (objects : Option Objects) (before after : Option (List Act)) (path : List ℕ) (version id : ℕ) (blocks : List (List RowEntry)) (filters : List (List ℕ × List ℕ)) (e : SlateDBError) →
    (h : HoldsTable encode objects path version id blocks filters) → IsBytes h.bytes → let info = table_info encode version id blocks filters in
    Reads objects before after path info.stats.at info.stats.len (λ answer. RefusesStats decode (section_read version id stats_kind info.stats.at answer) e) → ⊥
unfolding RefusesStats all_of
stats_found encode decode lawful objects before after path version id blocks filters e h fits read =
    let b = all_of encode version id blocks in
    let f = filters_section encode version id blocks filters in
    let i = index_section encode version id blocks filters in
    let s = stats_section encode version id blocks filters in
    let t = tail_of encode version id blocks filters in
    let w = whole encode h.bytes version id blocks filters h.is in
    let answer : read.0 ≡ Some s = answered objects h.told before after path h.bytes (length b + length f + length i) (length s) read.0 h.tells h.there read.1 ∙ in_stats h.bytes b f i s t w.is in
    let bytes : IsBytes s = bytes_behind ((b ++ f) ++ i) s (front_bytes (((b ++ f) ++ i) ++ s) t (subst IsBytes w.is fits)) in
    let none = ap refusal (stats_again (stats_bytes blocks) (table_stats blocks) (stats_are encode h.bytes version id blocks filters h.is)) in
    let at = length b + length f + length i in
    section_refused encode decode lawful (stats_bytes blocks) (λ part. refusal (stats_in part)) (section_read version id stats_kind at read.0) e (cover_bytes version id stats_kind at (omega arith)) bytes answer none read.2

-- ---- the index

same_entries : (end : ℕ) (es : List (ℕ × List ℕ)) (ats : List ℕ) (ks : List (List ℕ)) → length es ≡ length ats → length ks ≡ length ats → AllByRecursion (FitsEntry end) es →
    AllByRecursion (λ x. x < 2 ^ 64) ats → AllByRecursion (λ k. length k < 2 ^ 16) ks → flat_map entry_bytes es ≡ index_entries ats ks → es ≡ paired ats ks
same_entries end [] [] ks n m f g k h = refl
same_entries end [] (a ∷ ats) ks n m f g k h = absurd (omega (arith, n))
same_entries end (e ∷ es) [] ks n m f g k h = absurd (omega (arith, n))
same_entries end (e ∷ es) (a ∷ ats) [] n m f g k h = absurd (omega (arith, m))
same_entries end (e ∷ es) (a ∷ ats) (x ∷ ks) n m f g k h =
    let later = flat_map entry_bytes es in
    let others = index_entries ats ks in
    let at = same_be64 e.0 a (be16 (length e.1) ++ (e.1 ++ later)) (be16 (length x) ++ (x ++ others)) f.0.1 g.0 (sym (flat_map-cons entry_bytes e es) ∙ h) in
    let size = same_be16 (length e.1) (length x) (e.1 ++ later) (x ++ others) f.0.2 k.0 at.1 in
    let key = same_pieces e.1 x later others size.0 size.1 in
    let rest = same_entries end es ats ks (omega (arith, n)) (omega (arith, m)) f.1 g.1 k.1 key.1 in
    λ j. (at.0 j, key.0 j) ∷ rest j

counted : (encode : Encode) (version id : ℕ) (blocks : List (List RowEntry)) → length (block_sections encode version id blocks) ≡ length blocks
counted encode version id blocks = sections_count version id encode 0 (map (λ b. block_bytes version b) blocks) ∙ length-map blocks (λ b. block_bytes version b)

sizes : (encode : Encode) (version id : ℕ) (blocks : List (List RowEntry)) → (length (places 0 (block_sections encode version id blocks)) ≡ length blocks) × (length (separators blocks) ≡ length blocks)
sizes encode version id blocks = (places_count 0 (block_sections encode version id blocks) ∙ counted encode version id blocks, separators_count blocks)

same_index : (encode : Encode) (version id end : ℕ) (blocks : List (List RowEntry)) (entries : List (ℕ × List ℕ)) → AllByRecursion (FitsBlock version) blocks → length blocks < 2 ^ 32 → length (all_of encode version id blocks) < 2 ^ 64 →
    IsIndex end (index_bytes (places 0 (block_sections encode version id blocks)) (separators blocks)) entries → entries ≡ table_entries encode version id blocks
unfolding all_of
same_index encode version id end blocks entries fits few short i =
    let ats = places 0 (block_sections encode version id blocks) in
    let ks = separators blocks in
    let n = sizes encode version id blocks in
    let count = same_be32 (length entries) (length ats) (flat_map entry_bytes entries) (index_entries ats ks) i.few (omega (arith, n.0, few)) (sym i.is) in
    same_entries end entries ats ks count.0 (omega (arith, n.0, n.1)) i.each (places_below 0 (2 ^ 64) (block_sections encode version id blocks) (omega (arith, short))) (separators_short version blocks fits) count.1

pub index_held : (encode decode : Encode) → IsLawfulTransform encode decode → (objects : Option Objects) (before after : Option (List Act)) (path : List ℕ) (version id : ℕ) (blocks : List (List RowEntry)) (filters : List (List ℕ × List ℕ)) (entries : List (ℕ × List ℕ)) →
    HoldsTable encode objects path version id blocks filters → let info = table_info encode version id blocks filters in
    Reads objects before after path info.index.at info.index.len (λ answer. IsIndexRead decode info.filters.at (section_read version id index_kind info.index.at answer) entries) → entries ≡ table_entries encode version id blocks
unfolding all_of
index_held encode decode lawful objects before after path version id blocks filters entries h read =
    let b = all_of encode version id blocks in
    let f = filters_section encode version id blocks filters in
    let i = index_section encode version id blocks filters in
    let s = stats_section encode version id blocks filters in
    let text = index_bytes (places 0 (block_sections encode version id blocks)) (separators blocks) in
    let w = whole encode h.bytes version id blocks filters h.is in
    let answer : read.0 ≡ Some i = answered objects h.told before after path h.bytes (length b + length f) (length i) read.0 h.tells h.there read.1 ∙ in_index h.bytes b f i s (tail_of encode version id blocks filters) w.is in
    let part : read.2.0 ≡ text = part_is encode decode lawful text read.2.0 (section_read version id index_kind (length b + length f) read.0) answer read.2.1 in
    let found = subst (λ (l : List ℕ). IsIndex (length b) l entries) part read.2.2 in
    same_index encode version id (length b) blocks entries h.is.each h.is.few w.short found

pub index_found : (encode decode : Encode) → IsLawfulTransform encode decode → (objects : Option Objects) (before after : Option (List Act)) (path : List ℕ) (version id : ℕ) (blocks : List (List RowEntry)) (filters : List (List ℕ × List ℕ)) (e : SlateDBError) →
    (h : HoldsTable encode objects path version id blocks filters) → IsBytes h.bytes → let info = table_info encode version id blocks filters in
    Reads objects before after path info.index.at info.index.len (λ answer. RefusesIndex decode info.filters.at (section_read version id index_kind info.index.at answer) e) → ⊥
unfolding all_of
index_found encode decode lawful objects before after path version id blocks filters e h fits read =
    let b = all_of encode version id blocks in
    let f = filters_section encode version id blocks filters in
    let i = index_section encode version id blocks filters in
    let s = stats_section encode version id blocks filters in
    let t = tail_of encode version id blocks filters in
    let text = index_bytes (places 0 (block_sections encode version id blocks)) (separators blocks) in
    let w = whole encode h.bytes version id blocks filters h.is in
    let answer : read.0 ≡ Some i = answered objects h.told before after path h.bytes (length b + length f) (length i) read.0 h.tells h.there read.1 ∙ in_index h.bytes b f i s t w.is in
    let front : IsBytes ((b ++ f) ++ i) = front_bytes ((b ++ f) ++ i) s (front_bytes (((b ++ f) ++ i) ++ s) t (subst IsBytes w.is fits)) in
    let bytes : IsBytes i = bytes_behind (b ++ f) i front in
    let is = index_is encode version id (length b) blocks h.is.each h.is.some h.is.few h.is.order refl w.short in
    let none = ap refusal (index_again (length b) text (table_entries encode version id blocks) is) in
    let at = length b + length f in
    section_refused encode decode lawful text (λ part. refusal (index_of (length b) part)) (section_read version id index_kind at read.0) e (cover_bytes version id index_kind at (omega arith)) bytes answer none read.2

-- ---- the filters

pub some_section : (cover : List ℕ) (encode : Encode) (fs : List (List ℕ × List ℕ)) → 0 < length (filter_section cover encode fs) → filter_section cover encode fs ≡ section cover encode (filters_bytes fs)
some_section cover encode [] some = absurd (omega (arith, some))
some_section cover encode (f ∷ fs) some = refl

filters_answered : (encode : Encode) (objects : Option Objects) (before after : Option (List Act)) (path : List ℕ) (version id : ℕ) (blocks : List (List RowEntry)) (filters : List (List ℕ × List ℕ)) (answer : Option (List ℕ)) →
    HoldsTable encode objects path version id blocks filters → let info = table_info encode version id blocks filters in 0 < info.filters.len → IsRead objects before after path info.filters.at info.filters.len answer →
    answer ≡ Some (section (cover_of version id filters_kind info.filters.at) encode (filters_bytes filters))
unfolding all_of
filters_answered encode objects before after path version id blocks filters answer h some read =
    let b = all_of encode version id blocks in
    let f = filters_section encode version id blocks filters in
    let i = index_section encode version id blocks filters in
    let s = stats_section encode version id blocks filters in
    let w = whole encode h.bytes version id blocks filters h.is in
    answered objects h.told before after path h.bytes (length b) (length f) answer h.tells h.there read ∙ in_filters h.bytes b f i s (tail_of encode version id blocks filters) w.is
    ∙ ap (λ (l : List ℕ). Some l) (some_section (cover_of version id filters_kind (length b)) encode filters some)

filters_are : (encode : Encode) (bytes : List ℕ) (version id : ℕ) (blocks : List (List RowEntry)) (filters : List (List ℕ × List ℕ)) → IsTableOf encode bytes version id blocks filters → IsFilters (filters_bytes filters) filters
filters_are encode bytes version id blocks filters t = record { few = t.few_filters; each = t.each_filter; is = refl }

filters_bytes_are : (encode : Encode) (bytes : List ℕ) (version id : ℕ) (blocks : List (List RowEntry)) (filters : List (List ℕ × List ℕ)) → IsTableOf encode bytes version id blocks filters → IsBytes bytes →
    let info = table_info encode version id blocks filters in 0 < info.filters.len → IsBytes (section (cover_of version id filters_kind info.filters.at) encode (filters_bytes filters))
unfolding all_of
filters_bytes_are encode bytes version id blocks filters is fits some =
    let b = all_of encode version id blocks in
    let f = filters_section encode version id blocks filters in
    let i = index_section encode version id blocks filters in
    let s = stats_section encode version id blocks filters in
    let t = tail_of encode version id blocks filters in
    let w = whole encode bytes version id blocks filters is in
    let front : IsBytes (b ++ f) = front_bytes (b ++ f) i (front_bytes ((b ++ f) ++ i) s (front_bytes (((b ++ f) ++ i) ++ s) t (subst IsBytes w.is fits))) in
    subst IsBytes (some_section (cover_of version id filters_kind (length b)) encode filters some) (bytes_behind b f front)

pub filters_held : (encode decode : Encode) → IsLawfulTransform encode decode → (objects : Option Objects) (before after : Option (List Act)) (path : List ℕ) (version id : ℕ) (blocks : List (List RowEntry)) (filters found : List (List ℕ × List ℕ)) →
    HoldsTable encode objects path version id blocks filters → let info = table_info encode version id blocks filters in 0 < info.filters.len →
    Reads objects before after path info.filters.at info.filters.len (λ answer. AreFiltersRead decode (section_read version id filters_kind info.filters.at answer) found) → found ≡ filters
filters_held encode decode lawful objects before after path version id blocks filters found h some (answer, read, (part, p, is)) =
    let at = (table_info encode version id blocks filters).filters.at in
    let answered = filters_answered encode objects before after path version id blocks filters answer h some read in
    let same : part ≡ filters_bytes filters = part_is encode decode lawful (filters_bytes filters) part (section_read version id filters_kind at answer) answered p in
    same_filter_part found filters is.few h.is.few_filters is.each h.is.each_filter (sym is.is ∙ same)

pub filters_found : (encode decode : Encode) → IsLawfulTransform encode decode → (objects : Option Objects) (before after : Option (List Act)) (path : List ℕ) (version id : ℕ) (blocks : List (List RowEntry)) (filters : List (List ℕ × List ℕ)) (e : SlateDBError) →
    (h : HoldsTable encode objects path version id blocks filters) → IsBytes h.bytes → let info = table_info encode version id blocks filters in 0 < info.filters.len →
    Reads objects before after path info.filters.at info.filters.len (λ answer. RefusesFilters decode (section_read version id filters_kind info.filters.at answer) e) → ⊥
filters_found encode decode lawful objects before after path version id blocks filters e h fits some (answer, read, refuses) = by refuses
  where
    at : ℕ
    at = (table_info encode version id blocks filters).filters.at

    s : SectionRead
    s = section_read version id filters_kind at answer

    text : List ℕ
    text = filters_bytes filters

    answered : answer ≡ Some (section (cover_of version id filters_kind at) encode text)
    answered = filters_answered encode objects before after path version id blocks filters answer h some read

    by : RefusesFilters decode s e → ⊥
    by (inl none) =
        let bytes = filters_bytes_are encode h.bytes version id blocks filters h.is fits some in
        section_refused encode decode lawful text (λ _. None) s e (cover_bytes version id filters_kind at (omega arith)) bytes answered refl (inl none)
    by (inr (part, p, none)) =
        let same : part ≡ text = part_is encode decode lawful text part s answered p in
        none.1 filters (subst (λ (l : List ℕ). IsFilters l filters) (sym same) (filters_are encode h.bytes version id blocks filters h.is))

-- ---- a block

abbrev start_of : Encode → ℕ → ℕ → List (List RowEntry) → ℕ → ℕ
start_of encode version id blocks block = block_start (blocks_end encode version id blocks) (table_entries encode version id blocks) block

-- the section of a block
abbrev piece_of : Encode → ℕ → ℕ → List (List RowEntry) → ℕ → List RowEntry → List ℕ
piece_of encode version id blocks block written = section (cover_of version id block_kind (start_of encode version id blocks block)) encode (block_bytes version written)

record Pieced (encode : Encode) (bytes : List ℕ) (version id : ℕ) (blocks : List (List RowEntry)) (block : ℕ) (piece : List ℕ) : Type 0 where
  pub front : List ℕ
  pub rest : List ℕ
  pub is : bytes ≡ front ++ (piece ++ rest)
  pub start : block_start (blocks_end encode version id blocks) (table_entries encode version id blocks) block ≡ length front
  pub next : block_start (blocks_end encode version id blocks) (table_entries encode version id blocks) (block + 1) ≡ length front + length piece
  pub size : blocks_size (blocks_end encode version id blocks) (table_entries encode version id blocks) block (block + 1) ≡ length piece

piece_there : (encode : Encode) (version id : ℕ) (blocks : List (List RowEntry)) (block : ℕ) (written : List RowEntry) → slice_get blocks block ≡ Some written →
    slice_get (block_sections encode version id blocks) block ≡ Some (piece_of encode version id blocks block written)
piece_there encode version id blocks block written there =
    let ps = map (λ b. block_bytes version b) blocks in
    let n = sizes encode version id blocks in
    let text : slice_get ps block ≡ Some (block_bytes version written) = slice_get-map (λ b. block_bytes version b) blocks block ∙ ap (option_map (λ b. block_bytes version b)) there in
    let p = section_placed version id encode 0 ps block (block_bytes version written) text in
    let begin = starts_at (blocks_end encode version id blocks) (places 0 (block_sections encode version id blocks)) (separators blocks) block p.begin (omega (arith, n.0, n.1)) p.place in
    p.there ∙ ap (λ (at : ℕ). Some (section (cover_of version id block_kind at) encode (block_bytes version written))) (sym begin)

pieced : (encode : Encode) (bytes : List ℕ) (version id : ℕ) (blocks : List (List RowEntry)) (filters : List (List ℕ × List ℕ)) (block : ℕ) (written : List RowEntry) → IsTableOf encode bytes version id blocks filters → slice_get blocks block ≡ Some written →
    Pieced encode bytes version id blocks block (piece_of encode version id blocks block written)
unfolding all_of
pieced encode bytes version id blocks filters block written t there =
    let b = all_of encode version id blocks in
    let f = filters_section encode version id blocks filters in
    let i = index_section encode version id blocks filters in
    let s = stats_section encode version id blocks filters in
    let tail = tail_of encode version id blocks filters in
    let ss = block_sections encode version id blocks in
    let piece = piece_of encode version id blocks block written in
    let n = sizes encode version id blocks in
    let count = counted encode version id blocks in
    let among = piece_there encode version id blocks block written there in
    let at = stands 0 (length b) ss (separators blocks) block piece (omega (arith, n.1, count)) (omega arith) among in
    let w = whole encode bytes version id blocks filters t in
    record {
      front = at.front;
      rest = at.rest ++ (f ++ (i ++ (s ++ tail)));
      is = block_split bytes b f i s tail at.front piece at.rest w.is at.is;
      start = at.start ∙ omega arith;
      next = at.next ∙ omega arith;
      size = omega (arith, at.start, at.next);
    }

piece_answer : (encode : Encode) (objects : Option Objects) (before after : Option (List Act)) (path : List ℕ) (version id : ℕ) (blocks : List (List RowEntry)) (filters : List (List ℕ × List ℕ)) (block : ℕ) (written : List RowEntry) (answer : Option (List ℕ)) →
    HoldsTable encode objects path version id blocks filters → slice_get blocks block ≡ Some written → let end = blocks_end encode version id blocks in let entries = table_entries encode version id blocks in
    IsRead objects before after path (block_start end entries block) (blocks_size end entries block (block + 1)) answer → answer ≡ Some (piece_of encode version id blocks block written)
piece_answer encode objects before after path version id blocks filters block written answer h there read =
    let start = block_start (blocks_end encode version id blocks) (table_entries encode version id blocks) block in
    let size = blocks_size (blocks_end encode version id blocks) (table_entries encode version id blocks) block (block + 1) in
    let piece = piece_of encode version id blocks block written in
    let p = pieced encode h.bytes version id blocks filters block written h.is there in
    answered objects h.told before after path h.bytes start size answer h.tells h.there read ∙ part_at h.bytes p.front piece p.rest start size p.is p.start p.size

is_block : (encode : Encode) (bytes : List ℕ) (version id : ℕ) (blocks : List (List RowEntry)) (filters : List (List ℕ × List ℕ)) (block : ℕ) (written : List RowEntry) → IsTableOf encode bytes version id blocks filters → slice_get blocks block ≡ Some written →
    IsBlock (block_bytes version written) version (map (as_read version) written)
is_block encode bytes version id blocks filters block written t there = longest_fronts version written t.known (AllByRecursion_slice_get (FitsBlock version) blocks block written t.each there)

block_held : (encode decode : Encode) → IsLawfulTransform encode decode → (objects : Option Objects) (before after : Option (List Act)) (path : List ℕ) (version id : ℕ) (blocks : List (List RowEntry)) (filters : List (List ℕ × List ℕ)) (block : ℕ) (written rows : List RowEntry) →
    HoldsTable encode objects path version id blocks filters → slice_get blocks block ≡ Some written → let end = blocks_end encode version id blocks in let entries = table_entries encode version id blocks in
    Reads objects before after path (block_start end entries block) (blocks_size end entries block (block + 1)) (λ answer. AreRowsRead decode version (section_read version id block_kind (block_start end entries block) answer) rows) → rows ≡ map (as_read version) written
block_held encode decode lawful objects before after path version id blocks filters block written rows h there read =
    let text = block_bytes version written in
    let answer = piece_answer encode objects before after path version id blocks filters block written read.0 h there read.1 in
    let part : read.2.0 ≡ text = part_is encode decode lawful text read.2.0 (section_read version id block_kind (start_of encode version id blocks block) read.0) answer read.2.1 in
    let found = subst (λ (l : List ℕ). IsBlock l version rows) part read.2.2 in
    blocks_one_way text version rows (map (as_read version) written) found (is_block encode h.bytes version id blocks filters block written h.is there)

no_row : (version : ℕ) (block : Block) (text : List ℕ) (rows : List RowEntry) (e : SlateDBError) → IsKnown version → IsBytes block.body → IsApart block.body block.offsets.items text → IsBlock text version rows → rows_in version block ≡ Err e → ⊥
no_row version block text rows e known fits apart is refused =
    let here = block_apart is.0 is.1 text version rows is.2 is.3 in
    let same = apart_once is.0 block.body is.1 block.offsets.items text here apart in
    let of : IsBlockOf block.body block.offsets.items version rows = subst (λ (b : List ℕ). IsBlockOf b block.offsets.items version rows) same.0 (subst (λ (o : List ℕ). IsBlockOf is.0 o version rows) same.1 is.2) in
    let again = block_again version block.body block.offsets.items rows fits of in
    let right : rows_in version block ≡ Ok rows = ap (λ (t : Bool). cond t (block_rows version block.body block.offsets.items) (Err (InvalidVersion version))) (is_known_of version known) ∙ again in
    let clash : Ok rows ≡ Err e = sym right ∙ refused in cc

no_refusal : (encode decode : Encode) → IsLawfulTransform encode decode → (version : ℕ) (text : List ℕ) (rows : List RowEntry) (s : SectionRead) (e : SlateDBError) → IsKnown version → IsBytes s.cover → IsBytes (section s.cover encode text) →
    s.answer ≡ Some (section s.cover encode text) → IsBlock text version rows → RefusesRows decode version s e → ⊥
no_refusal encode decode lawful version text rows s e known covered fits is block (inl r) =
    let apart = block_apart block.0 block.1 text version rows block.2 block.3 in
    section_refused encode decode lawful text (λ part. refusal (offsets_of_block part)) s e covered fits is (ap refusal (block_again_apart block.0 block.1 text apart).1) r
no_refusal encode decode lawful version text rows s e known covered fits is block (inr r) =
    let part : r.2.0 ≡ text = part_is encode decode lawful text r.2.0 s is r.2.1 in
    let apart = subst (λ (l : List ℕ). IsApart r.0.body r.0.offsets.items l) part r.2.2 in
    no_row version r.0 text rows e known r.1 apart block r.3

pub rows_held : (encode decode : Encode) → IsLawfulTransform encode decode → (objects : Option Objects) (before after : Option (List Act)) (path : List ℕ) (blocks : List (List RowEntry)) (filters : List (List ℕ × List ℕ)) (table : SsTableHandle) (block : ℕ) (rows : List RowEntry) →
    HoldsTable encode objects path table.format_version table.id.0 blocks filters → seen_info table.info ≡ table_info encode table.format_version table.id.0 blocks filters → ReadsRows decode objects before after path table block rows →
    (written : List RowEntry) × (slice_get blocks block ≡ Some written) × (rows ≡ map (as_read table.format_version) written)
unfolding ReadsRows
rows_held encode decode lawful objects before after path blocks filters table block rows h info read =
    let version = table.format_version in
    let id = table.id.0 in
    let index = subst (λ (i : Info). Reads objects before read.1 path i.index.at i.index.len (λ answer. IsIndexRead decode i.filters.at (section_read version id index_kind i.index.at answer) read.0)) info read.2 in
    let entries = index_held encode decode lawful objects before read.1 path version id blocks filters read.0 h index in
    let placed = subst (λ (i : Info). Reads objects read.1 after path (block_start i.filters.at read.0 block) (blocks_size i.filters.at read.0 block (block + 1)) (λ answer. AreRowsRead decode version (section_read version id block_kind (block_start i.filters.at read.0 block) answer) rows)) info read.4 in
    let named = subst (λ (es : List (ℕ × List ℕ)). Reads objects read.1 after path (block_start (blocks_end encode version id blocks) es block) (blocks_size (blocks_end encode version id blocks) es block (block + 1)) (λ answer. AreRowsRead decode version (section_read version id block_kind (block_start (blocks_end encode version id blocks) es block) answer) rows)) entries placed in
    let n = sizes encode version id blocks in
    let count = paired_count (places 0 (block_sections encode version id blocks)) (separators blocks) (omega (arith, n.0, n.1)) in
    let within : block < length blocks = omega (arith, read.3, ap length entries, count, n.0) in
    elim (slice_get_cases blocks block).1 [
      | inl found ↦ (found.0, found.2, block_held encode decode lawful objects read.1 after path version id blocks filters block found.0 rows h found.2 named)
      | inr past ↦ absurd (omega (arith, within, past.0))
    ]

table_count : (encode : Encode) (version id : ℕ) (blocks : List (List RowEntry)) → length (table_entries encode version id blocks) ≡ length blocks
table_count encode version id blocks =
    let n = sizes encode version id blocks in
    paired_count (places 0 (block_sections encode version id blocks)) (separators blocks) (omega (arith, n.0, n.1)) ∙ n.0

abbrev pub OutOfRange : List (List RowEntry) → ℕ → SlateDBError → Type 0
OutOfRange blocks block e = (length blocks ≤ block) × (e ≡ BlockOutOfRange block (length blocks))

pub rows_found : (encode decode : Encode) → IsLawfulTransform encode decode → (objects : Option Objects) (before after : Option (List Act)) (path : List ℕ) (blocks : List (List RowEntry)) (filters : List (List ℕ × List ℕ)) (table : SsTableHandle) (block : ℕ) (e : SlateDBError) →
    (h : HoldsTable encode objects path table.format_version table.id.0 blocks filters) → IsBytes h.bytes → seen_info table.info ≡ table_info encode table.format_version table.id.0 blocks filters → RefusesReadRows decode objects before after path table block e → OutOfRange blocks block e
unfolding RefusesReadRows
rows_found encode decode lawful objects before after path blocks filters table block e h fits info (inl r) =
    let index = subst (λ (i : Info). Reads objects before after path i.index.at i.index.len (λ answer. RefusesIndex decode i.filters.at (section_read table.format_version table.id.0 index_kind i.index.at answer) e)) info r in
    absurd (index_found encode decode lawful objects before after path table.format_version table.id.0 blocks filters e h fits index)
rows_found encode decode lawful objects before after path blocks filters table block e h fits info (inr (inl r)) =
    let version = table.format_version in
    let id = table.id.0 in
    let index = subst (λ (i : Info). Reads objects before after path i.index.at i.index.len (λ answer. IsIndexRead decode i.filters.at (section_read version id index_kind i.index.at answer) r.0)) info r.1 in
    let entries = index_held encode decode lawful objects before after path version id blocks filters r.0 h index in
    let count : length r.0 ≡ length blocks = ap length entries ∙ table_count encode version id blocks in
    (omega (arith, r.2, count), r.3 ∙ ap (λ (n : ℕ). BlockOutOfRange block n) count)
rows_found encode decode lawful objects before after path blocks filters table block e h fits info (inr (inr r)) =
    let version = table.format_version in
    let id = table.id.0 in
    let index = subst (λ (i : Info). Reads objects before r.1 path i.index.at i.index.len (λ answer. IsIndexRead decode i.filters.at (section_read version id index_kind i.index.at answer) r.0)) info r.2 in
    let entries = index_held encode decode lawful objects before r.1 path version id blocks filters r.0 h index in
    let placed = subst (λ (i : Info). Reads objects r.1 after path (block_start i.filters.at r.0 block) (blocks_size i.filters.at r.0 block (block + 1)) (λ answer. RefusesRows decode version (section_read version id block_kind (block_start i.filters.at r.0 block) answer) e)) info r.4 in
    let named = subst (λ (es : List (ℕ × List ℕ)). Reads objects r.1 after path (block_start (blocks_end encode version id blocks) es block) (blocks_size (blocks_end encode version id blocks) es block (block + 1)) (λ answer. RefusesRows decode version (section_read version id block_kind (block_start (blocks_end encode version id blocks) es block) answer) e)) entries placed in
    let within : block < length blocks = omega (arith, r.3, ap length entries, table_count encode version id blocks) in
    elim (slice_get_cases blocks block).1 [
      | inl found ↦
          let answer = piece_answer encode objects r.1 after path version id blocks filters block found.0 named.0 h found.2 named.1 in
          let p = pieced encode h.bytes version id blocks filters block found.0 h.is found.2 in
          let begin = start_of encode version id blocks block in
          let bytes = sealed_bytes h.bytes p.front (piece_of encode version id blocks block found.0) p.rest p.is fits in
          absurd (no_refusal encode decode lawful version (block_bytes version found.0) (map (as_read version) found.0) (section_read version id block_kind begin named.0) e h.is.known (cover_bytes version id block_kind begin (omega arith)) bytes answer (is_block encode h.bytes version id blocks filters block found.0 h.is found.2) named.2)
      | inr past ↦ absurd (omega (arith, within, past.0))
    ]

-- ---- neighbouring blocks

end_within : (encode : Encode) (bytes : List ℕ) (version id : ℕ) (blocks : List (List RowEntry)) (filters : List (List ℕ × List ℕ)) → IsTableOf encode bytes version id blocks filters → blocks_end encode version id blocks ≤ length bytes
unfolding all_of
end_within encode bytes version id blocks filters t =
    let b = all_of encode version id blocks in
    let f = filters_section encode version id blocks filters in
    let i = index_section encode version id blocks filters in
    let s = stats_section encode version id blocks filters in
    let w = whole encode bytes version id blocks filters t in
    let n = ap length w.is ∙ length-append (((b ++ f) ++ i) ++ s) (tail_of encode version id blocks filters) in
    omega (arith, n, length-append b f, length-append (b ++ f) i, length-append ((b ++ f) ++ i) s)

pub blocks_held : (encode decode : Encode) → IsLawfulTransform encode decode → (objects : Option Objects) (before after : Option (List Act)) (path : List ℕ) (version id : ℕ) (blocks : List (List RowEntry)) (filters : List (List ℕ × List ℕ)) (first stop at : ℕ) (found : List Block) (block : Block) (written : List RowEntry) →
    HoldsTable encode objects path version id blocks filters → let info = table_info encode version id blocks filters in let end = info.filters.at in let entries = table_entries encode version id blocks in
    Reads objects before after path (block_start end entries first) (blocks_size end entries first stop) (λ answer. AreBlocksRead decode (block_read version id info entries first answer) first found) →
    slice_get found at ≡ Some block → first + at < stop → slice_get blocks (first + at) ≡ Some written → IsBlockOf block.body block.offsets.items version (map (as_read version) written)
blocks_held encode decode lawful objects before after path version id blocks filters first stop at found block written h read here below there =
    let end = blocks_end encode version id blocks in
    let entries = table_entries encode version id blocks in
    let ss = block_sections encode version id blocks in
    let text = block_bytes version written in
    let k = first + at in
    let piece = piece_of encode version id blocks k written in
    let n = sizes encode version id blocks in
    let same : length (separators blocks) ≡ length ss = omega (arith, n.1, counted encode version id blocks) in
    let p = pieced encode h.bytes version id blocks filters k written h.is there in
    let start = block_start end entries first in
    let size = blocks_size end entries first stop in
    let low = starts_rise 0 end ss (separators blocks) first k same (omega arith) (omega arith) in
    let high = starts_rise 0 end ss (separators blocks) (k + 1) stop same (omega arith) (omega (arith, below)) in
    let last = upto_end 0 end ss (separators blocks) stop same (omega arith) in
    let within = end_within encode h.bytes version id blocks filters h.is in
    let answer : read.0 ≡ part_of (Some h.bytes) start size = answered objects h.told before after path h.bytes start size read.0 h.tells h.there read.1 in
    let part : block_answer end entries first read.0 k ≡ Some piece = ap (λ (o : Option (List ℕ)). block_answer end entries first o k) answer
    ∙ part_within h.bytes p.front piece p.rest start size (blocks_size end entries first k) (blocks_size end entries k (k + 1)) p.is (omega (arith, low, p.start)) (omega (arith, p.start)) p.size (omega (arith, p.next, high, low, p.start)) (omega (arith, last, within, high, low, p.start, p.next)) in
    let taken = read.2 at block here in
    let spelled : taken.0 ≡ text = part_is encode decode lawful text taken.0 (block_read version id (table_info encode version id blocks filters) entries first read.0 k) part taken.1 in
    let apart = subst (λ (l : List ℕ). IsApart block.body block.offsets.items l) spelled taken.2 in
    let is = is_block encode h.bytes version id blocks filters k written h.is there in
    let once = apart_once is.0 block.body is.1 block.offsets.items text (block_apart is.0 is.1 text version (map (as_read version) written) is.2 is.3) apart in
    subst (λ (b : List ℕ). IsBlockOf b block.offsets.items version (map (as_read version) written)) once.0 (subst (λ (o : List ℕ). IsBlockOf is.0 o version (map (as_read version) written)) once.1 is.2)
