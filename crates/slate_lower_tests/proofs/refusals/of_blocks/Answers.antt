use Rattle.std.proofs.Common.{refl}
use Rattle.slate_block.specs.Damage.{varint_field, number_field, block_field, flags_field, stamp_field, head_layout, stamps_layout, value_layout, layout_v1, layout_v2, key_layout_v1, key_layout_v2, length_agrees}
use Rattle.slate_block.specs.RowReading.{row_v1_of, row_v2_of, key_v2_of}
use Rattle.slate_block.specs.BlockReading.{counted_offsets, offset_field, offsets_from, offsets_of_block}
use Rattle.slate_lower_tests.specs.Refusals.{VarintsAreRefused, KeysEndTheirPart, RowsOfV1AreRefused, RowsOfV2AreRefused, BlocksAreRefused}
use Rattle.slate_lower_tests.proofs.refusals.of_blocks.Goals as goal

varints : VarintsAreRefused
varints = (refl, refl, refl)

keys : KeysEndTheirPart
unfolding varint_field number_field block_field key_layout_v2 key_v2_of
keys = refl

rows_of_v1 : RowsOfV1AreRefused
unfolding number_field block_field flags_field stamp_field head_layout stamps_layout value_layout layout_v1 key_layout_v1 row_v1_of
rows_of_v1 = (refl, refl, refl, refl, refl, refl, refl)

rows_of_v2 : RowsOfV2AreRefused
unfolding varint_field number_field block_field flags_field stamp_field head_layout stamps_layout layout_v2 key_layout_v2 length_agrees row_v2_of
rows_of_v2 = (refl, refl, refl, refl, refl)

blocks : BlocksAreRefused
unfolding number_field counted_offsets offset_field offsets_from offsets_of_block
blocks = (refl, refl, refl, refl, refl, refl, refl)

pub returns : goal.returns
returns c = record { varints = varints; keys = keys; rows_of_v1 = rows_of_v1; rows_of_v2 = rows_of_v2; blocks = blocks }
