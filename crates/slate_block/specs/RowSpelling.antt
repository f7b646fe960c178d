-- The bytes of a row in a block.
--     be16 n, be32 n, be64 n      numbers of 2, 4 and 8 bytes, the highest byte first
--     flags value expire create      the byte that says what a row is and has; are_flags b      b is such a byte
--     stamp_bytes z, meta_bytes ..      a stamp, and the sequence, the flags and the stamps of a row
--     v1_bytes e, v2_bytes e      the layouts of a row in version 1 and 2
--     FitsV1 e, FitsV2 e      the numbers fit their fields
--     as_read_v1 e      the row that version 1 reads where e was written
--     IsRowV1 bytes e, IsRowV2 bytes e      bytes is a row's spelling, and e the row that is read
use Rattle.std.specs.Prelude.{◌≡◌, ℕ, ◌+◌, ◌%◌, ◌^◌, ◌<◌, Bool, not, ◌&&◌, ◌==◌, nat_lt, nat_le, if◌then◌else◌, is_some, List, [], ◌∷◌, ◌++◌, length, Option, Some, None, IfSome, ℤ, FitsSigned}
use Rattle.std.specs.Int.{w16, w32, w64, to_be_bytes, cast_unsigned}
use Rattle.slate_types.specs.declared.types.ValueDeletable.{ValueDeletable}
use Rattle.slate_types.specs.declared.types.ValueDeletable.TheVariants.{Value, Merge, Tombstone}
use Rattle.slate_types.specs.Rows.{bytes_of}
use Rattle.slate_block.specs.declared.row.SstRowEntry.{SstRowEntry}
use Rattle.slate_block.specs.declared.row.SstRowEntryV2.{SstRowEntryV2}
use Rattle.slate_block.specs.Varint.{varint}

abbrev pub be16 : ℕ → List ℕ
be16 n = to_be_bytes w16 n

abbrev pub be32 : ℕ → List ℕ
be32 n = to_be_bytes w32 n

abbrev pub be64 : ℕ → List ℕ
be64 n = to_be_bytes w64 n

abbrev pub kind_bits : ValueDeletable → ℕ
kind_bits (Value v) = 0
kind_bits (Merge v) = 8
kind_bits Tombstone = 1

-- 1 tombstone, 2 expiry, 4 creation, 8 merge
abbrev pub flags : ValueDeletable → Option ℤ → Option ℤ → ℕ
flags value expire create = kind_bits value + (if is_some expire then 2 else 0) + (if is_some create then 4 else 0)

-- no other bits, and no tombstone that is a merge
abbrev pub are_flags : ℕ → Bool
are_flags b = nat_lt b 16 && not (b % 2 == 1 && nat_le 8 b)

abbrev pub stamp_bytes : Option ℤ → List ℕ
stamp_bytes None = []
stamp_bytes (Some z) = be64 (cast_unsigned w64 z)

-- the sequence, the flags and the stamps that they name
abbrev pub meta_bytes : ℕ → ValueDeletable → Option ℤ → Option ℤ → List ℕ
meta_bytes seq value expire create = be64 seq ++ (flags value expire create ∷ []) ++ stamp_bytes expire ++ stamp_bytes create

abbrev pub v1_value : ValueDeletable → List ℕ
v1_value (Value v) = be32 (length v) ++ v
v1_value (Merge v) = be32 (length v) ++ v
v1_value Tombstone = []

abbrev pub v1_bytes : SstRowEntry → List ℕ
v1_bytes e = be16 e.key_prefix_len ++ be16 (length e.key_suffix) ++ e.key_suffix ++ meta_bytes e.seq e.value e.expire_ts e.create_ts ++ v1_value e.value

abbrev pub v2_bytes : SstRowEntryV2 → List ℕ
v2_bytes e = varint e.shared_bytes ++ varint (length e.key_suffix) ++ varint (length (bytes_of e.value)) ++ e.key_suffix ++ bytes_of e.value
    ++ meta_bytes e.seq e.value e.expire_ts e.create_ts

-- the numbers fit their fields
abbrev pub FitsStamp : Option ℤ → Type 0
FitsStamp z = IfSome z (λ x. FitsSigned w64 x)

abbrev pub FitsV1 : SstRowEntry → Type 0
FitsV1 e = (e.key_prefix_len < 2 ^ 16) × (length e.key_suffix < 2 ^ 16) × (length (bytes_of e.value) < 2 ^ 32) × (e.seq < 2 ^ 64) × FitsStamp e.expire_ts × FitsStamp e.create_ts

abbrev pub FitsV2 : SstRowEntryV2 → Type 0
FitsV2 e = (e.shared_bytes < 2 ^ 32) × (length e.key_suffix < 2 ^ 32) × (length (bytes_of e.value) < 2 ^ 32) × (e.seq < 2 ^ 64) × FitsStamp e.expire_ts × FitsStamp e.create_ts

-- A tombstone is read without an expiry, though its bytes may hold one.
abbrev pub read_expiry : ValueDeletable → Option ℤ → Option ℤ
read_expiry (Value v) t = t
read_expiry (Merge v) t = t
read_expiry Tombstone t = None

abbrev pub as_read_v1 : SstRowEntry → SstRowEntry
as_read_v1 e = record e { expire_ts = read_expiry e.value e.expire_ts }

abbrev pub IsRowV1 : List ℕ → SstRowEntry → Type 0
IsRowV1 bytes e = (w : SstRowEntry) × FitsV1 w × (bytes ≡ v1_bytes w) × (e ≡ as_read_v1 w)

abbrev pub IsRowV2 : List ℕ → SstRowEntryV2 → Type 0
IsRowV2 bytes e = FitsV2 e × (bytes ≡ v2_bytes e)
