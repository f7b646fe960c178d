use Rattle.std.proofs.Common.{refl}
use Rattle.slate_block.specs.Varint.{varint}
use Rattle.slate_block.specs.Damage.{number_field, block_field}
use Rattle.slate_table.specs.SectionReading.{footer_in, part_in}
use Rattle.slate_table.specs.InfoReading.{byte_field, version_field, key_text, key_field, place_field, ending, info_from, info_in}
use Rattle.slate_table.specs.IndexReading.{offset_field, separator_field, entry_field, entries_from, counted, index_of}
use Rattle.slate_lower_tests.specs.Refusals.{EndsAreRefused, InfosAreRefused, PartsAreRefused, IndexesAreRefused}
use Rattle.slate_lower_tests.proofs.refusals.of_tables.Goals as goal

ends : EndsAreRefused
unfolding varint footer_in number_field
ends = (refl, refl, refl, refl, refl, refl)

infos : InfosAreRefused
unfolding varint number_field block_field byte_field version_field key_text key_field place_field ending info_from info_in
infos = (refl, refl, refl, refl, refl)

parts : PartsAreRefused
unfolding varint part_in
parts = (refl, refl)

indexes : IndexesAreRefused
unfolding varint number_field block_field offset_field separator_field entry_field entries_from counted index_of
indexes = (refl, refl, refl)

pub returns : goal.returns
returns c = record { ends = ends; infos = infos; parts = parts; indexes = indexes }
