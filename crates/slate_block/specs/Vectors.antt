-- Spellings, computed.
--     Varints      five numbers, and two byte strings that are no number's
--     RowOfV1, RowOfV2      a row of each version
--     Flags      bytes that are the flags of a row, and bytes that aren't
--     Lengths      how long a row of version 1 is that leaves out bytes of its key
--     WholeKeys      keys whose front was left out
--     Fronts      how many bytes two keys share
use Rattle.std.specs.Prelude.{◌≡◌, ℕ, true, false, length, ◌++◌, [], ◌∷◌, Some, None, pos, codes}
use Rattle.slate_types.specs.declared.types.ValueDeletable.{ValueDeletable}
use Rattle.slate_types.specs.declared.types.ValueDeletable.TheVariants.{Value, Merge, Tombstone}
use Rattle.slate_types.specs.declared.types.RowEntry.{RowEntry}
use Rattle.slate_block.specs.Varint.{varint, IsVarint}
use Rattle.slate_block.specs.RowSpelling.{v1_bytes, v2_bytes, are_flags}
use Rattle.slate_block.specs.BlockSpelling.{entry_v1, whole_key, longest}

abbrev pub Varints : Type 0
Varints = (varint 0 ≡ 0x00 ∷ []) × (varint 127 ≡ 0x7f ∷ []) × (varint 300 ≡ 0xac ∷ 0x02 ∷ []) × (varint 16384 ≡ 0x80 ∷ 0x80 ∷ 0x01 ∷ [])
    × (varint 4294967295 ≡ 0xff ∷ 0xff ∷ 0xff ∷ 0xff ∷ 0x0f ∷ []) × IsVarint (0xac ∷ 0x02 ∷ []) 300
    × ((n : ℕ) → IsVarint (0x80 ∷ 0x00 ∷ []) n → ⊥) × ((n : ℕ) → IsVarint (0xff ∷ 0xff ∷ 0xff ∷ 0xff ∷ 0x1f ∷ []) n → ⊥)

abbrev pub RowOfV2 : Type 0
RowOfV2 = v2_bytes (record { shared_bytes = 3; key_suffix = codes "abc"; seq = 1; expire_ts = None; create_ts = None; value = Value (codes "xyz") })
    ≡ 0x03 ∷ 0x03 ∷ 0x03 ∷ codes "abcxyz" ++ (0 ∷ 0 ∷ 0 ∷ 0 ∷ 0 ∷ 0 ∷ 0 ∷ 1 ∷ 0 ∷ [])

abbrev pub RowOfV1 : Type 0
RowOfV1 = v1_bytes (record { key_prefix_len = 5; key_suffix = codes "merge"; seq = 1; expire_ts = Some (pos 1); create_ts = Some (pos 2); value = Merge (codes "value") })
    ≡ 0 ∷ 5 ∷ 0 ∷ 5 ∷ codes "merge" ++ (0 ∷ 0 ∷ 0 ∷ 0 ∷ 0 ∷ 0 ∷ 0 ∷ 1 ∷ 0x0e ∷ 0 ∷ 0 ∷ 0 ∷ 0 ∷ 0 ∷ 0 ∷ 0 ∷ 1 ∷ 0 ∷ 0 ∷ 0 ∷ 0 ∷ 0 ∷ 0 ∷ 0 ∷ 2 ∷ 0 ∷ 0 ∷ 0 ∷ 5 ∷ []) ++ codes "value"

abbrev pub Flags : Type 0
Flags = (are_flags 0 ≡ true) × (are_flags 1 ≡ true) × (are_flags 7 ≡ true) × (are_flags 8 ≡ true) × (are_flags 14 ≡ true)
    × (are_flags 0x09 ≡ false) × (are_flags 0x10 ≡ false) × (are_flags 0x20 ≡ false) × (are_flags 0x40 ≡ false) × (are_flags 0x80 ≡ false)

abbrev pub hello : ValueDeletable → RowEntry
hello value = record { key = codes "hello"; value = value; seq = 1; create_ts = None; expire_ts = None }

abbrev pub length_v1 : ℕ → ValueDeletable → ℕ
length_v1 shared value = length (v1_bytes (entry_v1 shared (hello value)))

abbrev pub Lengths : Type 0
Lengths = (length_v1 0 Tombstone ≡ 18) × (length_v1 2 Tombstone ≡ 16) × (length_v1 4 Tombstone ≡ 14)
    × (length_v1 0 (Value (codes "val")) ≡ 25) × (length_v1 2 (Value (codes "val")) ≡ 23) × (length_v1 4 (Value (codes "val")) ≡ 21)

abbrev pub WholeKeys : Type 0
WholeKeys = (whole_key 5 (codes "happybeefdata") (codes "merge") ≡ codes "happymerge")
    × (whole_key 13 (codes "shared_prefix_different_suffix") (codes "_new_suffix") ≡ codes "shared_prefix_new_suffix")

abbrev pub Fronts : Type 0
Fronts = (longest (codes "1") (codes "11") ≡ 1) × (longest (codes "222") (codes "111") ≡ 0) × (longest (codes "1234567") (codes "123456789") ≡ 7)
