use Rattle.std.proofs.Common.{◌≡◌, List, [], ◌∷◌, drop, length, ◌++◌, refl, ap, ◌∙◌}
use Rattle.slate_types.specs.declared.types.RowEntry.{RowEntry}
use Rattle.slate_block.specs.BlockSpelling.{places}
use Rattle.slate_block.specs.RowSpelling.{be16, be64}
use Rattle.slate_block.specs.Varint.{varint}
use Rattle.slate_table.specs.Parts.{cover_of, index_kind, stats_kind, info_kind, section, summed, separators, index_bytes, stats_bytes}
use Rattle.slate_table.specs.Table.{info_of, block_sections, blocks_end, filters_section, index_section, stats_section, index_start, stats_start, info_start}
use Rattle.slate_table.specs.Vectors.{row_a, id_e, table_v3, Sums, Separators, OneRow, Places, FilterPart, SumsFit, DamageShows, DamagedEnds, BlockV3, IndexV3, StatsV3, InfoV3, CoversDiffer}
use Rattle.slate_table.proofs.vectors.tables_are_computed.Goals as goal

-- each by itself, since a declaration may take only so many steps

sums : Sums
sums = (refl, refl)

three_separators : Separators
three_separators = (refl, refl, refl)

one_row : OneRow
unfolding varint
one_row = (refl, refl, refl, refl, refl, refl, refl)

sections_lie : Places
unfolding varint
sections_lie = refl

filter_part : FilterPart
filter_part = refl

sums_fit : SumsFit
unfolding varint
sums_fit = (refl, refl, refl, refl)

damage : DamageShows
unfolding varint
damage = (refl, refl, refl, refl)

ends : DamagedEnds
unfolding varint
ends = (refl, refl, refl, refl, refl, refl, refl)

-- of the table in version 3: where a section begins is computed before its checksum, which covers it

abbrev blocks : List (List RowEntry)
blocks = (row_a ∷ []) ∷ []

length_v3 : length table_v3 ≡ 177
unfolding varint
length_v3 = refl

block_v3 : BlockV3
unfolding varint
block_v3 = refl

index_begins : index_start (λ b. b) 3 id_e blocks [] ≡ 30
unfolding varint
index_begins = refl

index_v3 : IndexV3
unfolding varint
index_v3 = ap (λ at. section (cover_of 3 id_e index_kind at) (λ b. b) (index_bytes (places 0 (block_sections (λ b. b) 3 id_e blocks)) (separators blocks))) index_begins ∙ refl

stats_begin : stats_start (λ b. b) 3 id_e blocks [] ≡ 49
unfolding varint
stats_begin = refl

stats_v3 : StatsV3
unfolding varint
stats_v3 = ap (λ at. section (cover_of 3 id_e stats_kind at) (λ b. b) (stats_bytes blocks)) stats_begin ∙ refl

info_begins : info_start (λ b. b) 3 id_e blocks [] ≡ 103
unfolding varint
info_begins = refl

info_v3 : InfoV3
unfolding varint
info_v3 = ap (λ at. summed (cover_of 3 id_e info_kind at) (info_of 3 (row_a ∷ []) (blocks_end (λ b. b) 3 id_e blocks) (filters_section (λ b. b) 3 id_e blocks [])
    (index_section (λ b. b) 3 id_e blocks []) (stats_section (λ b. b) 3 id_e blocks []))) info_begins ∙ refl

end_v3 : drop 167 table_v3 ≡ be64 0x67 ++ be16 3
unfolding varint
end_v3 = refl

covers : CoversDiffer
unfolding varint
covers = (refl, refl, refl, refl)

pub returns : goal.returns
unfolding varint
returns c = record {
  sums = sums;
  separators = three_separators;
  one_row = one_row;
  places = sections_lie;
  is_read = ((row_a ∷ []) ∷ [], [], c.one_row_is_table.ensures, refl);
  filter_part = filter_part;
  sums_fit = sums_fit;
  damage = damage;
  ends = ends;
  version_three = (length_v3, block_v3, index_v3, stats_v3, info_v3, end_v3);
  covers = covers;
}
