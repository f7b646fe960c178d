-- A table is read one way.
use Rattle.std.proofs.Common.{◌≡◌, ℕ, ◌+◌, ◌<◌, ◌^◌, List, ◌++◌, length, flat_map, refl, sym, subst, ◌∙◌, arith}
use Rattle.slate_types.specs.declared.types.RowEntry.{RowEntry}
use Rattle.slate_types.specs.Lawful.{IsLawfulTransform}
use Rattle.slate_block.specs.RowSpelling.{be16}
use Rattle.slate_block.specs.BlockSpelling.{places}
use Rattle.slate_block.proofs.Versions.{below_16}
use Rattle.slate_table.specs.Checksum.{crc32}
use Rattle.slate_table.specs.Parts.{Encode, Place, cover_of, filters_kind, index_kind, info_kind, separators, index_bytes, key_bytes}
use Rattle.slate_table.specs.Table.{some_first, some_last, table_bytes, IsTableOf, block_sections, blocks_end, filters_section, index_start, index_section, stats_section}
use Rattle.slate_table.proofs.FrameLaws.{info_from, frame, IsShortFrame, frame_short, SameSections, same_sections, index_place, filters_place}
use Rattle.slate_table.proofs.IndexLaws.{same_part, same_offsets, same_blocks}
use Rattle.slate_table.proofs.FilterLaws.{same_filter_section}
use Rattle.slate_table.proofs.Sections.{block_count}

-- the four sections before the info
all_blocks : Encode → ℕ → ℕ → List (List RowEntry) → List ℕ
all_blocks encode version id blocks = flat_map (λ b. b) (block_sections encode version id blocks)

filters_in : Encode → ℕ → ℕ → List (List RowEntry) → List (List ℕ × List ℕ) → List ℕ
filters_in encode version id blocks filters = filters_section encode version id blocks filters

index_in : Encode → ℕ → ℕ → List (List RowEntry) → List (List ℕ × List ℕ) → List ℕ
index_in encode version id blocks filters = index_section encode version id blocks filters

stats_in : Encode → ℕ → ℕ → List (List RowEntry) → List (List ℕ × List ℕ) → List ℕ
stats_in encode version id blocks filters = stats_section encode version id blocks filters

info_start : ℕ → List (List RowEntry) → List ℕ
info_start version blocks = be16 version ++ key_bytes (some_first (flat_map (λ b. b) blocks)) ++ key_bytes (some_last (flat_map (λ b. b) blocks))

stats_place : List ℕ → List ℕ → List ℕ → List ℕ → Place
stats_place blocks filters index stats = record { at = length blocks + length filters + length index; len = length stats }

info : ℕ → List (List RowEntry) → List ℕ → List ℕ → List ℕ → List ℕ → List ℕ
info version rows blocks filters index stats = info_from (info_start version rows) (index_place blocks filters index) (filters_place blocks filters) (stats_place blocks filters index stats)

info_sum : ℕ → ℕ → List (List RowEntry) → List ℕ → List ℕ → List ℕ → List ℕ → ℕ
info_sum version id rows blocks filters index stats =
    crc32 (cover_of version id info_kind (length blocks + length filters + length index + length stats) ++ info version rows blocks filters index stats)

framed_by : ℕ → ℕ → List (List RowEntry) → List ℕ → List ℕ → List ℕ → List ℕ → List ℕ
framed_by version id rows blocks filters index stats =
    frame blocks filters index stats (info version rows blocks filters index stats) (info_sum version id rows blocks filters index stats) version

framed : Encode → ℕ → ℕ → List (List RowEntry) → List (List ℕ × List ℕ) → List ℕ
framed encode version id blocks filters =
    framed_by version id blocks (all_blocks encode version id blocks) (filters_in encode version id blocks filters) (index_in encode version id blocks filters) (stats_in encode version id blocks filters)

table_is_framed : (encode : Encode) (version id : ℕ) (blocks : List (List RowEntry)) (filters : List (List ℕ × List ℕ)) →
    table_bytes encode version id blocks filters ≡ framed encode version id blocks filters
unfolding framed all_blocks filters_in index_in stats_in info_start stats_place info info_sum framed_by frame info_from index_place filters_place
table_is_framed encode version id blocks filters = refl

IsShort : Encode → ℕ → ℕ → List (List RowEntry) → List (List ℕ × List ℕ) → Type 0
IsShort encode version id blocks filters =
    IsShortFrame (all_blocks encode version id blocks) (filters_in encode version id blocks filters) (index_in encode version id blocks filters) (stats_in encode version id blocks filters)

is_short : (encode : Encode) (bytes : List ℕ) (version id : ℕ) (blocks : List (List RowEntry)) (filters : List (List ℕ × List ℕ)) →
    IsTableOf encode bytes version id blocks filters → IsShort encode version id blocks filters
unfolding IsShort framed framed_by
is_short encode bytes version id blocks filters t =
    frame_short (all_blocks encode version id blocks) (filters_in encode version id blocks filters) (index_in encode version id blocks filters) (stats_in encode version id blocks filters) _ _ version
    (subst (λ l. length l < 2 ^ 64) (t.is ∙ table_is_framed encode version id blocks filters) t.short)

Same : Encode → ℕ → ℕ → List (List RowEntry) → List (List ℕ × List ℕ) → ℕ → List (List RowEntry) → List (List ℕ × List ℕ) → Type 0
Same encode id v bs fs w cs gs = SameSections (all_blocks encode v id bs) (filters_in encode v id bs fs) (index_in encode v id bs fs) (stats_in encode v id bs fs)
    (all_blocks encode w id cs) (filters_in encode w id cs gs) (index_in encode w id cs gs) (stats_in encode w id cs gs) v w

same_tables : (encode : Encode) (bytes : List ℕ) (id v w : ℕ) (bs cs : List (List RowEntry)) (fs gs : List (List ℕ × List ℕ)) →
    IsTableOf encode bytes v id bs fs → IsTableOf encode bytes w id cs gs → Same encode id v bs fs w cs gs
unfolding Same IsShort framed framed_by info
same_tables encode bytes id v w bs cs fs gs s t =
    same_sections (all_blocks encode v id bs) (filters_in encode v id bs fs) (index_in encode v id bs fs) (stats_in encode v id bs fs)
    (all_blocks encode w id cs) (filters_in encode w id cs gs) (index_in encode w id cs gs) (stats_in encode w id cs gs)
    (info_start v bs) (info_start w cs)
    (stats_place (all_blocks encode v id bs) (filters_in encode v id bs fs) (index_in encode v id bs fs) (stats_in encode v id bs fs))
    (stats_place (all_blocks encode w id cs) (filters_in encode w id cs gs) (index_in encode w id cs gs) (stats_in encode w id cs gs))
    _ _ v w (below_16 v s.known) (below_16 w t.known)
    (is_short encode bytes v id bs fs s) (is_short encode bytes w id cs gs t)
    (sym (table_is_framed encode v id bs fs) ∙ sym s.is ∙ t.is ∙ table_is_framed encode w id cs gs)

-- of one version
same_content : (encode decode : Encode) → IsLawfulTransform encode decode → (bytes : List ℕ) (v id : ℕ) (bs cs : List (List RowEntry)) (fs gs : List (List ℕ × List ℕ)) →
    IsTableOf encode bytes v id bs fs → IsTableOf encode bytes v id cs gs → (bs ≡ cs) × (fs ≡ gs)
unfolding Same IsShort all_blocks filters_in index_in
same_content encode decode lawful bytes v id bs cs fs gs s t =
    let e = same_tables encode bytes id v v bs cs fs gs s t in
    let short = is_short encode bytes v id bs fs s in
    let tiny = is_short encode bytes v id cs gs t in
    let ss = block_sections encode v id bs in
    let ts = block_sections encode v id cs in
    let parts = same_part (cover_of v id index_kind (index_start encode v id bs fs)) (cover_of v id index_kind (index_start encode v id cs gs)) encode decode lawful
    (index_bytes (places 0 ss) (separators bs)) (index_bytes (places 0 ts) (separators cs)) e.index in
    let offsets = same_offsets v bs cs ss ts s.each t.each (block_count encode v id bs) (block_count encode v id cs) s.few t.few (omega (arith, short.all)) (omega (arith, tiny.all)) parts in (
      same_blocks encode decode lawful v id 0 0 0 s.known bs cs s.each t.each offsets e.blocks,
      same_filter_section (cover_of v id filters_kind (blocks_end encode v id bs)) (cover_of v id filters_kind (blocks_end encode v id cs)) encode decode lawful
          fs gs s.few_filters t.few_filters s.each_filter t.each_filter e.filters,
    )

pub tables_one_way : (encode decode : Encode) → IsLawfulTransform encode decode → (bytes : List ℕ) (v w id : ℕ) (bs cs : List (List RowEntry)) (fs gs : List (List ℕ × List ℕ)) →
    IsTableOf encode bytes v id bs fs → IsTableOf encode bytes w id cs gs → (v ≡ w) × (bs ≡ cs) × (fs ≡ gs)
unfolding Same
tables_one_way encode decode lawful bytes v w id bs cs fs gs s t =
    let version : v ≡ w = (same_tables encode bytes id v w bs cs fs gs s t).version in
    let content = same_content encode decode lawful bytes v id bs cs fs gs s (subst (λ x. IsTableOf encode bytes x id cs gs) (sym version) t) in
    (version, content.0, content.1)
