-- Tables, computed.
--     Sums      checksums
--     Separators      three separators
--     table_e, OneRow      the whole table of one row, and its bytes
--     OneRowIsTable, OneRowIsRead      it is a table, and of that row
--     Places      where its sections lie
--     FilterPart      the part with one filter
--     SumsFit, DamageShows      the checksums of its sections fit, and no longer do where a byte of a section was changed
--     OneRowV3      the table of the same row in version 3, whose checksums cover its id, and each section's kind and place
--     CoversDiffer      its block fits neither the id of another table, nor the kind of an index, nor another place
--     DamagedEnds      what a reader finds at the end of a table that was cut, or whose last bytes were changed
use Rattle.std.specs.Prelude.{◌≡◌, ℕ, ◌+◌, ◌-◌, ◌*◌, ◌^◌, true, false, List, [], ◌∷◌, ◌++◌, take, drop, length, Some, None, pos, codes}
use Rattle.std.specs.Int.{w16, w64, from_be_bytes}
use Rattle.slate_types.specs.declared.types.ValueDeletable.TheVariants.{Value}
use Rattle.slate_types.specs.declared.types.RowEntry.{RowEntry}
use Rattle.slate_block.specs.RowSpelling.{be16, be64}
use Rattle.slate_table.specs.Checksum.{crc32}
use Rattle.slate_table.specs.Parts.{cover_of, block_kind, index_kind, separator, summed, sum_fits, filters_bytes}
use Rattle.slate_table.specs.Table.{table_bytes, IsTableOf, IsTable, table_places}
use Rattle.slate_types.specs.World.{Section}
use Rattle.slate_store.specs.Store.{part}

-- the check value that CRC-32 is known by
abbrev pub Sums : Type 0
Sums = (crc32 [] ≡ 0) × (crc32 (codes "123456789") ≡ 0xcbf43926)

abbrev pub Separators : Type 0
Separators = (separator (codes "abcd") (codes "abxyz") ≡ codes "abx") × (separator (codes "ab") (codes "abc") ≡ codes "abc") × (separator (codes "b") (codes "b") ≡ codes "b")

-- a is 1, of sequence 1, made at moment 0
abbrev pub row_a : RowEntry
row_a = record { key = codes "a"; value = Value (codes "1"); seq = 1; create_ts = Some (pos 0); expire_ts = None }

-- of the first table of the first flush
abbrev pub id_e : ℕ
id_e = 2 ^ 64

abbrev pub table_e : List ℕ
table_e = table_bytes (λ bytes. bytes) 1 id_e ((row_a ∷ []) ∷ []) []

abbrev pub OneRow : Type 0
OneRow = (length table_e ≡ 182)
    × (take 27 table_e ≡ 0 ∷ 0 ∷ 0 ∷ 1 ∷ 0x61 ∷ 0 ∷ 0 ∷ 0 ∷ 0 ∷ 0 ∷ 0 ∷ 0 ∷ 1 ∷ 4 ∷ 0 ∷ 0 ∷ 0 ∷ 0 ∷ 0 ∷ 0 ∷ 0 ∷ 0 ∷ 0 ∷ 0 ∷ 0 ∷ 1 ∷ 0x31 ∷ [])
    × (take 8 (drop 27 table_e) ≡ drop 27 (summed [] (take 31 table_e)))
    × (take 15 (drop 35 table_e) ≡ 0 ∷ 0 ∷ 0 ∷ 1 ∷ be64 0 ++ (0 ∷ 1 ∷ 0x61 ∷ []))
    × (take 50 (drop 54 table_e) ≡ be64 1 ++ be64 0 ++ be64 0 ++ be64 1 ++ be64 1 ++ (0 ∷ 0 ∷ 0 ∷ 1 ∷ 0 ∷ 1 ∷ 0 ∷ 0 ∷ 0 ∷ 0 ∷ []))
    × (take 60 (drop 108 table_e) ≡ (0 ∷ 1 ∷ 1 ∷ 0 ∷ 1 ∷ 0x61 ∷ 1 ∷ 0 ∷ 1 ∷ 0x61 ∷ []) ++ be64 35 ++ be64 19 ++ be64 35 ++ be64 0 ++ be64 54 ++ be64 54 ++ (0 ∷ 1 ∷ []))
    × (drop 172 table_e ≡ be64 0x6c ++ be16 1)

abbrev pub OneRowIsTable : Type 0
OneRowIsTable = IsTableOf (λ bytes. bytes) table_e 1 id_e ((row_a ∷ []) ∷ []) []

abbrev pub OneRowIsRead : Type 0
OneRowIsRead = IsTable (λ bytes. bytes) table_e 1 id_e (row_a ∷ [])

-- a section whose checksum covers nothing else
abbrev pub lying : ℕ → ℕ → Section
lying at len = record { at = at; len = len; cover = [] }

-- the block, the filters, which there are none of, the index, the statistics and the info
abbrev pub Places : Type 0
Places = table_places (λ bytes. bytes) 1 id_e ((row_a ∷ []) ∷ []) []
    ≡ lying 0 35 ∷ lying 35 0 ∷ lying 35 19 ∷ lying 54 54 ∷ lying 108 64 ∷ []

abbrev pub FilterPart : Type 0
FilterPart = filters_bytes ((codes "_bf:p=fixed4:wh=0", 0 ∷ 6 ∷ []) ∷ []) ≡ (0 ∷ 1 ∷ 0 ∷ 0x11 ∷ []) ++ codes "_bf:p=fixed4:wh=0" ++ be64 2 ++ (0 ∷ 6 ∷ [])

abbrev pub changed : ℕ → ℕ → List ℕ → List ℕ
changed at b bytes = take at bytes ++ (b ∷ drop (at + 1) bytes)

abbrev pub SumsFit : Type 0
SumsFit = (sum_fits [] (part 0 35 table_e) ≡ true) × (sum_fits [] (part 35 19 table_e) ≡ true) × (sum_fits [] (part 54 54 table_e) ≡ true) × (sum_fits [] (part 108 64 table_e) ≡ true)

-- a byte of the key, of the separator, of the counts and of the version in the info
abbrev pub DamageShows : Type 0
DamageShows = (sum_fits [] (part 0 35 (changed 4 0x60 table_e)) ≡ false) × (sum_fits [] (part 35 19 (changed 49 0x62 table_e)) ≡ false)
    × (sum_fits [] (part 54 54 (changed 61 2 table_e)) ≡ false) × (sum_fits [] (part 108 64 (changed 109 2 table_e)) ≡ false)

abbrev pub footer_version : List ℕ → ℕ
footer_version bytes = from_be_bytes w16 (drop (length bytes - 2) bytes)

abbrev pub info_at : List ℕ → ℕ
info_at bytes = from_be_bytes w64 (take 8 (drop (length bytes - 10) bytes))

-- cut by a byte, with another version than the info has, and with an info that is empty
abbrev pub DamagedEnds : Type 0
DamagedEnds = (footer_version table_e ≡ 1) × (info_at table_e ≡ 108)
    × (footer_version (take 181 table_e) ≡ 27648)
    × (footer_version (changed 181 2 table_e) ≡ 2) × (take 2 (drop 108 (changed 181 2 table_e)) ≡ be16 1)
    × (info_at (changed 179 168 table_e) ≡ 168) × (length (part 168 4 (changed 179 168 table_e)) ≡ 182 - 10 - 168)

-- ---- version 3

abbrev pub table_v3 : List ℕ
table_v3 = table_bytes (λ bytes. bytes) 3 id_e ((row_a ∷ []) ∷ []) []

-- its sections with their checksums
abbrev pub BlockV3 : Type 0
BlockV3 = take 30 table_v3 ≡ 0 ∷ 1 ∷ 1 ∷ 0x61 ∷ 0x31 ∷ be64 1 ++ (4 ∷ be64 0) ++ (0 ∷ 0 ∷ 0 ∷ 1 ∷ 105 ∷ 167 ∷ 119 ∷ 89 ∷ [])

abbrev pub IndexV3 : Type 0
IndexV3 = take 19 (drop 30 table_v3) ≡ (0 ∷ 0 ∷ 0 ∷ 1 ∷ be64 0) ++ (0 ∷ 1 ∷ 0x61 ∷ 249 ∷ 174 ∷ 224 ∷ 191 ∷ [])

abbrev pub StatsV3 : Type 0
StatsV3 = take 54 (drop 49 table_v3) ≡ be64 1 ++ be64 0 ++ be64 0 ++ be64 1 ++ be64 1 ++ (0 ∷ 0 ∷ 0 ∷ 1 ∷ 0 ∷ 1 ∷ 0 ∷ 0 ∷ 0 ∷ 0 ∷ 199 ∷ 20 ∷ 4 ∷ 114 ∷ [])

abbrev pub InfoV3 : Type 0
InfoV3 = take 64 (drop 103 table_v3)
    ≡ (0 ∷ 3 ∷ 1 ∷ 0 ∷ 1 ∷ 0x61 ∷ 1 ∷ 0 ∷ 1 ∷ 0x61 ∷ []) ++ be64 30 ++ be64 19 ++ be64 30 ++ be64 0 ++ be64 49 ++ be64 54 ++ (0 ∷ 1 ∷ 145 ∷ 54 ∷ 58 ∷ 233 ∷ [])

abbrev pub OneRowV3 : Type 0
OneRowV3 = (length table_v3 ≡ 177) × BlockV3 × IndexV3 × StatsV3 × InfoV3 × (drop 167 table_v3 ≡ be64 0x67 ++ be16 3)

-- the block, as it lies, under the id of the second flush, as another kind, and elsewhere
abbrev pub CoversDiffer : Type 0
CoversDiffer = (sum_fits (cover_of 3 id_e block_kind 0) (take 30 table_v3) ≡ true)
    × (sum_fits (cover_of 3 (2 * id_e) block_kind 0) (take 30 table_v3) ≡ false)
    × (sum_fits (cover_of 3 id_e index_kind 0) (take 30 table_v3) ≡ false)
    × (sum_fits (cover_of 3 id_e block_kind 30) (take 30 table_v3) ≡ false)
