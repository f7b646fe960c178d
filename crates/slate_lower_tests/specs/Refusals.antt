-- Refusals, computed: what bytes are refused for that spell nothing, and at which place.
--     VarintsAreRefused      spellings that aren't the shortest, that are too great, and that are cut
--     KeysEndTheirPart      a key of version 2 is read without the rest of its row
--     tiny_v1, tiny_v2      a row of each version with these flags, the second with a value of a length
--     RowsOfV1AreRefused, RowsOfV2AreRefused      rows that are cut, whose flags are none, or that are a tombstone and have a value
--     BlocksAreRefused      blocks without an offset, or with one that doesn't fit
--     EndsAreRefused, InfosAreRefused, PartsAreRefused, IndexesAreRefused      the table of one row, cut or changed: its end, its info, a section of it, and its index
use Rattle.std.specs.Prelude.{◌≡◌, ℕ, ◌-◌, List, [], ◌∷◌, ◌++◌, take, drop, Option, Some, None, Result, Ok, Err, codes}
use Rattle.slate_types.specs.declared.error.SlateDBError.TheVariants.{CorruptTable, InvalidVersion, EmptySSTable, ChecksumMismatch, InvalidRowFlags, UnsupportedCompression}
use Rattle.slate_block.specs.RowSpelling.{be16, be64}
use Rattle.slate_block.specs.Damage.{front_varint}
use Rattle.slate_block.specs.RowReading.{key_v2_of, row_v1_of, row_v2_of, refusal}
use Rattle.slate_block.specs.BlockReading.{offsets_of_block}
use Rattle.slate_table.specs.Vectors.{table_e, changed}
use Rattle.slate_table.specs.SectionReading.{footer_in, part_in}
use Rattle.slate_table.specs.Opening.{long_in, info_size}
use Rattle.slate_table.specs.InfoReading.{info_in}
use Rattle.slate_table.specs.IndexReading.{index_of}

abbrev pub VarintsAreRefused : Type 0
VarintsAreRefused = (front_varint (0x80 ∷ 0x00 ∷ []) ≡ None) × (front_varint (0xff ∷ 0xff ∷ 0xff ∷ 0xff ∷ 0x1f ∷ []) ≡ None) × (front_varint (0x80 ∷ []) ≡ None)

abbrev pub tiny_v2 : ℕ → ℕ → List ℕ
tiny_v2 value_len flags = 0x03 ∷ 0x03 ∷ value_len ∷ codes "abcxyz" ++ (0 ∷ 0 ∷ 0 ∷ 0 ∷ 0 ∷ 0 ∷ 0 ∷ 1 ∷ flags ∷ [])

-- the key of a row of version 2 is read by its first 6 bytes
abbrev pub KeysEndTheirPart : Type 0
KeysEndTheirPart = key_v2_of (tiny_v2 3 0) ≡ Ok ((3, codes "abc"), 6)

abbrev pub tiny_v1 : ℕ → List ℕ
tiny_v1 flags = be16 0 ++ be16 1 ++ (0x61 ∷ []) ++ be64 1 ++ (flags ∷ [])

-- flags that are none, and a row that ends behind its flags: at the length of its value, and at a stamp
abbrev pub RowsOfV1AreRefused : Type 0
RowsOfV1AreRefused = (refusal (row_v1_of (tiny_v1 0x09)) ≡ Some (InvalidRowFlags 0x09)) × (refusal (row_v1_of (tiny_v1 0x10)) ≡ Some (InvalidRowFlags 0x10))
    × (refusal (row_v1_of (tiny_v1 0x80)) ≡ Some (InvalidRowFlags 0x80)) × (refusal (row_v1_of (tiny_v1 0)) ≡ Some (CorruptTable 14))
    × (refusal (row_v1_of (tiny_v1 4)) ≡ Some (CorruptTable 14)) × (refusal (row_v1_of (be16 0 ++ be16 2 ++ (0x61 ∷ []))) ≡ Some (CorruptTable 4)) × (refusal (row_v1_of []) ≡ Some (CorruptTable 0))

-- a tombstone with a value is refused at its length, before a stamp that is cut and behind flags that are none
abbrev pub RowsOfV2AreRefused : Type 0
RowsOfV2AreRefused = (refusal (row_v2_of (tiny_v2 3 1)) ≡ Some (CorruptTable 2)) × (refusal (row_v2_of (tiny_v2 3 5)) ≡ Some (CorruptTable 2))
    × (refusal (row_v2_of (tiny_v2 3 9)) ≡ Some (InvalidRowFlags 9)) × (refusal (row_v2_of (tiny_v2 3 2)) ≡ Some (CorruptTable 18)) × (refusal (row_v2_of (tiny_v2 3 0)) ≡ None)

abbrev pub BlocksAreRefused : Type 0
BlocksAreRefused = (refusal (offsets_of_block (7 ∷ [])) ≡ Some (CorruptTable 0)) × (refusal (offsets_of_block (be16 0)) ≡ Some (CorruptTable 0))
    × (refusal (offsets_of_block (7 ∷ be16 0)) ≡ Some (CorruptTable 1)) × (refusal (offsets_of_block (7 ∷ be16 2)) ≡ Some (CorruptTable 1))
    × (refusal (offsets_of_block (7 ∷ be16 1 ++ be16 1)) ≡ Some (CorruptTable 1)) × (refusal (offsets_of_block (7 ∷ 7 ∷ be16 0 ++ be16 0 ++ be16 2)) ≡ Some (CorruptTable 4))
    × (refusal (offsets_of_block (7 ∷ be16 0 ++ be16 1)) ≡ None)

-- cut by a byte; missing; no longer than its end; with an info that is empty, and with one behind the end
abbrev pub EndsAreRefused : Type 0
EndsAreRefused = (footer_in 181 (drop 171 (take 181 table_e)) ≡ Err (InvalidVersion 27648)) × (long_in None ≡ Err (CorruptTable 0)) × (long_in (Some 10) ≡ Err (EmptySSTable 10))
    × (footer_in 182 (drop 172 (changed 179 168 table_e)) ≡ Ok (168, 1)) × (info_size 182 168 ≡ 4) × (footer_in 182 (drop 172 (changed 179 173 table_e)) ≡ Err (CorruptTable 0))

-- another version than the end has, another codec, a byte left over, and a version and a codec at once
abbrev pub InfosAreRefused : Type 0
InfosAreRefused = (refusal (info_in 2 108 (take 60 (drop 108 table_e))) ≡ Some (CorruptTable 0)) × (refusal (info_in 1 108 (changed 58 7 (take 60 (drop 108 table_e)))) ≡ Some (UnsupportedCompression 7))
    × (refusal (info_in 1 108 (take 60 (drop 108 table_e) ++ (0 ∷ []))) ≡ Some (CorruptTable 60)) × (refusal (info_in 1 108 (changed 59 2 (changed 58 7 (take 60 (drop 108 table_e))))) ≡ Some (CorruptTable 59))
    × (refusal (info_in 1 108 (take 60 (drop 108 table_e))) ≡ None)

-- with a byte of the key changed, and shorter than a checksum
abbrev pub PartsAreRefused : Type 0
PartsAreRefused = (refusal (part_in [] (take 35 (changed 4 0x60 table_e))) ≡ Some (ChecksumMismatch 3827995144 2326169929)) × (refusal (part_in [] (take 3 table_e)) ≡ Some (CorruptTable 0))

abbrev pub IndexesAreRefused : Type 0
IndexesAreRefused = (refusal (index_of 35 (take 15 (drop 35 table_e))) ≡ None) × (refusal (index_of 35 (be16 0 ++ be16 0)) ≡ Some (CorruptTable 0)) × (refusal (index_of 35 (take 14 (drop 35 table_e))) ≡ Some (CorruptTable 14))
