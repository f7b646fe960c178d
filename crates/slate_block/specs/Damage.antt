-- The fields of a row in its bytes, one behind the other, and the refusal of the first one that fails: with the place of its
-- first byte, or with the byte that stands in the place of the flags and is none.
--     front_varint bytes      the number whose spelling begins the bytes, and how many bytes it has; none where no spelling begins them
--     Field A      what a field at a place holds, and the place behind it; or why it is refused
--     varint_field, number_field, block_field, flags_field, stamp_field      the fields of a row
--     head_layout, stamps_layout, value_layout      fields that stand together
--     layout_v1 bytes, layout_v2 bytes      the fields of a row in their order, from the front of the bytes
--     key_layout_v1 bytes, key_layout_v2 bytes      those up to the suffix of the key
--     length_agrees flags key      a tombstone's value has the length 0
--     AreWithin fields bytes      the places are in the bytes
--     IsDamageIn n e      a refusal for damage, whose place is at most n
use Rattle.std.specs.Prelude.{◌≤◌, ℕ, ◌+◌, ◌-◌, ◌*◌, ◌^◌, Bool, true, false, ◌&&◌, if◌then◌else◌, nat_lt, ◌==◌, bit_and, List, [], ◌∷◌, length, take, drop, slice_get, Option, Some, None, Result, Ok, Err, ℤ}
use Rattle.std.specs.Int.{Width, w16, w32, w64, byte_len, from_be_bytes, cast_signed}
use Rattle.slate_types.specs.declared.error.SlateDBError.{SlateDBError}
use Rattle.slate_types.specs.declared.error.SlateDBError.TheVariants.{CorruptTable, InvalidRowFlags}
use Rattle.slate_block.specs.declared.flags.RowFlags.{RowFlags}
use Rattle.slate_block.specs.declared.fields.KeyFields.{KeyFields}
use Rattle.slate_block.specs.declared.fields.RowFields.{RowFields}
use Rattle.slate_block.specs.RowSpelling.{are_flags}

-- the low group before what the bytes behind it spell, which isn't 0
abbrev pub before_high : ℕ → Option (ℕ × ℕ) → Option (ℕ × ℕ)
before_high b None = None
before_high b (Some high) = if high.0 == 0 then None else Some (b - 128 + 128 * high.0, high.1 + 1)

abbrev pub front_groups : List ℕ → Option (ℕ × ℕ)
front_groups [] = None
front_groups (b ∷ bs) = if nat_lt b 128 then Some (b, 1) else before_high b (front_groups bs)

abbrev pub of_32_bits : Option (ℕ × ℕ) → Option (ℕ × ℕ)
of_32_bits None = None
of_32_bits (Some found) = if nat_lt found.0 (2 ^ 32) then Some found else None

abbrev pub front_varint : List ℕ → Option (ℕ × ℕ)
front_varint bytes = of_32_bits (front_groups bytes)

-- ---- fields

abbrev pub Field : Type 0 → Type 0
Field A = Result (A × ℕ) SlateDBError

infixl 10 ◌>>=◌
abbrev pub ◌>>=◌ : {A B : Type 0} → Result A SlateDBError → (A → Result B SlateDBError) → Result B SlateDBError
(Ok x) >>= f = f x
(Err e) >>= f = Err e

abbrev pub varint_at : ℕ → Option (ℕ × ℕ) → Field ℕ
varint_at at None = Err (CorruptTable at)
varint_at at (Some found) = Ok (found.0, at + found.1)

unfoldable pub varint_field : List ℕ → ℕ → Field ℕ
varint_field bytes at = varint_at at (front_varint (drop at bytes))

-- a number of fixed width, the highest byte first
unfoldable pub number_field : Width → List ℕ → ℕ → Field ℕ
number_field w bytes at = if nat_lt (length (drop at bytes)) (byte_len w) then Err (CorruptTable at) else Ok (from_be_bytes w (take (byte_len w) (drop at bytes)), at + byte_len w)

-- so many bytes; what it holds is its place
unfoldable pub block_field : ℕ → List ℕ → ℕ → Field ℕ
block_field len bytes at = if nat_lt (length (drop at bytes)) len then Err (CorruptTable at) else Ok (at, at + len)

abbrev pub row_flags : ℕ → RowFlags
row_flags b = record { 0 = b }

abbrev pub has : ℕ → RowFlags → Bool
has bit flags = bit_and flags.0 bit == bit

abbrev pub flags_at : ℕ → Option ℕ → Field RowFlags
flags_at at None = Err (CorruptTable at)
flags_at at (Some b) = if are_flags b then Ok (row_flags b, at + 1) else Err (InvalidRowFlags b)

unfoldable pub flags_field : List ℕ → ℕ → Field RowFlags
flags_field bytes at = flags_at at (slice_get bytes at)

-- a stamp, where the flags name it
unfoldable pub stamp_field : Bool → List ℕ → ℕ → Field (Option ℤ)
stamp_field false bytes at = Ok (None, at)
stamp_field true bytes at = number_field w64 bytes at >>= λ bits. Ok (Some (cast_signed w64 bits.0), bits.1)

-- ---- rows

-- the sequence and the flags
unfoldable pub head_layout : List ℕ → ℕ → Field (ℕ × RowFlags)
head_layout bytes at = do
  seq ← number_field w64 bytes at
  flags ← flags_field bytes seq.1
  Ok ((seq.0, flags.0), flags.1)

-- the stamps that the flags name
unfoldable pub stamps_layout : RowFlags → List ℕ → ℕ → Field (Option ℤ × Option ℤ)
stamps_layout flags bytes at = do
  expire ← stamp_field (has 2 flags) bytes at
  create ← stamp_field (has 4 flags) bytes expire.1
  Ok ((expire.0, create.0), create.1)

-- the value of a row that is no tombstone
unfoldable pub value_layout : Bool → List ℕ → ℕ → Field ℕ
value_layout true bytes at = Ok (at, at)
value_layout false bytes at = number_field w32 bytes at >>= λ len. block_field len.0 bytes len.1

unfoldable pub key_layout_v1 : List ℕ → Result (ℕ × (ℕ × ℕ)) SlateDBError
key_layout_v1 bytes = do
  shared ← number_field w16 bytes 0
  suffix_len ← number_field w16 bytes shared.1
  suffix ← block_field suffix_len.0 bytes suffix_len.1
  Ok (shared.0, suffix)

unfoldable pub layout_v1 : List ℕ → Result (ℕ × RowFields) SlateDBError
layout_v1 bytes = do
  key ← key_layout_v1 bytes
  head ← head_layout bytes key.1.1
  stamps ← stamps_layout head.0.1 bytes head.1
  value ← value_layout (has 1 head.0.1) bytes stamps.1
  Ok (key.0, record { suffix_at = key.1.0; suffix_end = key.1.1; value_at = value.0; value_end = value.1; seq = head.0.0; flags = head.0.1; expire_ts = stamps.0.0; create_ts = stamps.0.1; end = value.1 })

unfoldable pub key_layout_v2 : List ℕ → Result KeyFields SlateDBError
key_layout_v2 bytes = do
  shared ← varint_field bytes 0
  suffix_len ← varint_field bytes shared.1
  value_len ← varint_field bytes suffix_len.1
  suffix ← block_field suffix_len.0 bytes value_len.1
  Ok (record { shared_bytes = shared.0; value_len_at = suffix_len.1; value_len = value_len.0; suffix_at = suffix.0; suffix_end = suffix.1 })

-- a tombstone has no value: its length is the field that fails
unfoldable pub length_agrees : RowFlags → KeyFields → Result RowFlags SlateDBError
length_agrees flags key = if has 1 flags && nat_lt 0 key.value_len then Err (CorruptTable key.value_len_at) else Ok flags

unfoldable pub layout_v2 : List ℕ → Result (ℕ × RowFields) SlateDBError
layout_v2 bytes = do
  key ← key_layout_v2 bytes
  value ← block_field key.value_len bytes key.suffix_end
  head ← head_layout bytes value.1
  flags ← length_agrees head.0.1 key
  stamps ← stamps_layout flags bytes head.1
  Ok (key.shared_bytes, record { suffix_at = key.suffix_at; suffix_end = key.suffix_end; value_at = value.0; value_end = value.1; seq = head.0.0; flags = flags; expire_ts = stamps.0.0; create_ts = stamps.0.1; end = stamps.1 })

-- the places are in the bytes
pub record AreWithin (fields : RowFields) (bytes : List ℕ) : Type 0 where
  pub suffix : fields.suffix_at ≤ fields.suffix_end
  pub value : fields.value_at ≤ fields.value_end
  pub suffix_in : fields.suffix_end ≤ length bytes
  pub value_in : fields.value_end ≤ length bytes
  pub end_in : fields.end ≤ length bytes

abbrev pub IsDamageIn : ℕ → SlateDBError → Type 0
IsDamageIn n (CorruptTable place) = place ≤ n
IsDamageIn n (InvalidRowFlags b) = Unit {0}
IsDamageIn n e = ⊥
