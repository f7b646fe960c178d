-- Rows of either version, read at places of a block's rows' part.
--     fields_of version bytes      the length that the row shares which begins the bytes, and its other fields, with the expiry that is read; or the refusal
--     suffix_of bytes fields      the suffix of its key
--     whole_of bytes other shared fields      the row, whose key leaves out a front of the other key
--     row_in version body other from upto      the row that begins the bytes between two places of the rows' part, and the place behind it; or the refusal
use Rattle.std.specs.Prelude.{ℕ, List, slice_range, Result, Ok}
use Rattle.slate_types.specs.declared.error.SlateDBError.{SlateDBError}
use Rattle.slate_types.specs.declared.types.RowEntry.{RowEntry}
use Rattle.slate_block.specs.declared.fields.RowFields.{RowFields}
use Rattle.slate_block.specs.declared.rows_part.Version.{Version}
use Rattle.slate_block.specs.declared.rows_part.Version.TheVariants.{V1, V2, V3}
use Rattle.slate_block.specs.BlockSpelling.{whole_key}
use Rattle.slate_block.specs.Damage.{◌>>=◌, layout_v1, layout_v2}
use Rattle.slate_block.specs.RowReading.{expiry_of, fields_value}
use Rattle.slate_block.specs.Walks.{row_v1_in, row_v2_in}

abbrev pub as_read : RowFields → RowFields
as_read f = record { suffix_at = f.suffix_at; suffix_end = f.suffix_end; value_at = f.value_at; value_end = f.value_end; seq = f.seq; flags = f.flags; expire_ts = expiry_of f.flags f.expire_ts; create_ts = f.create_ts; end = f.end }

unfoldable pub fields_of : Version → List ℕ → Result (ℕ × RowFields) SlateDBError
fields_of V1 bytes = layout_v1 bytes >>= λ row. Ok (row.0, as_read row.1)
fields_of V2 bytes = layout_v2 bytes
fields_of V3 bytes = layout_v2 bytes

abbrev pub suffix_of : List ℕ → RowFields → List ℕ
suffix_of bytes fields = slice_range bytes fields.suffix_at fields.suffix_end

abbrev pub whole_of : List ℕ → List ℕ → ℕ → RowFields → RowEntry
whole_of bytes other shared fields = record { key = whole_key shared other (suffix_of bytes fields); value = fields_value bytes fields; seq = fields.seq; create_ts = fields.create_ts; expire_ts = fields.expire_ts }

abbrev pub row_in : Version → List ℕ → List ℕ → ℕ → ℕ → Result (RowEntry × ℕ) SlateDBError
row_in V1 body other from upto = row_v1_in body other from upto
row_in V2 body other from upto = row_v2_in body other from upto
row_in V3 body other from upto = row_v2_in body other from upto
