-- Rows read from the front of bytes.
--     value_of flags bytes      the value of a row with these flags
--     row_v1_of bytes, row_v2_of bytes      the row that begins the bytes and how many bytes it has, or the refusal
--     key_v2_of bytes      the same of the length that a row shares and the suffix of its key
--     refusal read      why nothing was read
--     BeginsV1 row bytes rest, BeginsV2 row bytes rest      a spelling of the row begins the bytes, and the rest is behind it
--     BeginsKeyV2 key bytes rest      the same of the fields up to the suffix
use Rattle.std.specs.Prelude.{◌≡◌, ℕ, ◌<◌, ◌^◌, if◌then◌else◌, List, ◌++◌, length, slice_range, Option, Some, None, Result, Ok, Err, ℤ}
use Rattle.slate_types.specs.declared.error.SlateDBError.{SlateDBError}
use Rattle.slate_types.specs.declared.types.ValueDeletable.{ValueDeletable}
use Rattle.slate_types.specs.declared.types.ValueDeletable.TheVariants.{Value, Merge, Tombstone}
use Rattle.slate_block.specs.declared.flags.RowFlags.{RowFlags}
use Rattle.slate_block.specs.declared.fields.RowFields.{RowFields}
use Rattle.slate_block.specs.declared.row.SstRowEntry.{SstRowEntry}
use Rattle.slate_block.specs.declared.row.SstRowEntryV2.{SstRowEntryV2}
use Rattle.slate_block.specs.Varint.{varint}
use Rattle.slate_block.specs.RowSpelling.{v1_bytes, v2_bytes, FitsV1, FitsV2, as_read_v1}
use Rattle.slate_block.specs.Damage.{◌>>=◌, has, layout_v1, layout_v2, key_layout_v2}

abbrev pub value_of : RowFlags → List ℕ → ValueDeletable
value_of flags bytes = if has 1 flags then Tombstone else (if has 8 flags then Merge bytes else Value bytes)

abbrev pub fields_value : List ℕ → RowFields → ValueDeletable
fields_value bytes fields = value_of fields.flags (slice_range bytes fields.value_at fields.value_end)

-- a tombstone's expiry is dropped
abbrev pub expiry_of : RowFlags → Option ℤ → Option ℤ
expiry_of flags expire = if has 1 flags then None else expire

abbrev pub entry_of_v1 : List ℕ → ℕ → RowFields → SstRowEntry
entry_of_v1 bytes shared fields = record { key_prefix_len = shared; key_suffix = slice_range bytes fields.suffix_at fields.suffix_end; seq = fields.seq; expire_ts = expiry_of fields.flags fields.expire_ts; create_ts = fields.create_ts; value = fields_value bytes fields }

abbrev pub entry_of_v2 : List ℕ → ℕ → RowFields → SstRowEntryV2
entry_of_v2 bytes shared fields = record { shared_bytes = shared; key_suffix = slice_range bytes fields.suffix_at fields.suffix_end; seq = fields.seq; expire_ts = fields.expire_ts; create_ts = fields.create_ts; value = fields_value bytes fields }

unfoldable pub row_v1_of : List ℕ → Result (SstRowEntry × ℕ) SlateDBError
row_v1_of bytes = layout_v1 bytes >>= λ row. Ok (entry_of_v1 bytes row.0 row.1, row.1.end)

unfoldable pub row_v2_of : List ℕ → Result (SstRowEntryV2 × ℕ) SlateDBError
row_v2_of bytes = layout_v2 bytes >>= λ row. Ok (entry_of_v2 bytes row.0 row.1, row.1.end)

unfoldable pub key_v2_of : List ℕ → Result ((ℕ × List ℕ) × ℕ) SlateDBError
key_v2_of bytes = key_layout_v2 bytes >>= λ key. Ok ((key.shared_bytes, slice_range bytes key.suffix_at key.suffix_end), key.suffix_end)

abbrev pub refusal : {A : Type 0} → Result A SlateDBError → Option SlateDBError
refusal (Ok x) = None
refusal (Err e) = Some e

abbrev pub BeginsV1 : SstRowEntry → List ℕ → List ℕ → Type 0
BeginsV1 row bytes rest = (written : SstRowEntry) × FitsV1 written × (bytes ≡ v1_bytes written ++ rest) × (row ≡ as_read_v1 written)

abbrev pub BeginsV2 : SstRowEntryV2 → List ℕ → List ℕ → Type 0
BeginsV2 row bytes rest = FitsV2 row × (bytes ≡ v2_bytes row ++ rest)

abbrev pub BeginsKeyV2 : ℕ × List ℕ → List ℕ → List ℕ → Type 0
BeginsKeyV2 key bytes rest = (value_len : ℕ) × (key.0 < 2 ^ 32) × (length key.1 < 2 ^ 32) × (value_len < 2 ^ 32)
    × (bytes ≡ varint key.0 ++ varint (length key.1) ++ varint value_len ++ key.1 ++ rest)
