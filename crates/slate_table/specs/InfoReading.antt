-- The info of a table, read from its bytes.
--     section_place offset len, seen_info i      the place of a section and the info, as their bytes spell them
--     info_at first last p      the info with these keys, whose sections lie there
--     byte_field bytes at      one byte
--     version_field version bytes      the version, which is the one that is looked for
--     key_text bytes at, key_field bytes at      a key, and one that may be missing
--     place_field end bytes at      the offset and the length of a section that lies before the end
--     ending bytes at      the codec and the format of filters, which nothing stands behind
--     info_from end bytes at first last      what follows the keys, with these keys
--     info_in version end bytes      the info, or the refusal of the first field that fails
use Rattle.std.specs.Prelude.{ℕ, ◌+◌, ◌-◌, if◌then◌else◌, nat_lt, ◌==◌, List, length, slice_get, slice_range, Option, Some, None, Result, Ok, Err}
use Rattle.std.specs.Int.{w16, w64}
use Rattle.slate_types.specs.declared.error.SlateDBError.{SlateDBError}
use Rattle.slate_types.specs.declared.error.SlateDBError.TheVariants.{CorruptTable, UnsupportedCompression}
use Rattle.slate_block.specs.Damage.{◌>>=◌, Field, number_field, block_field}
use Rattle.slate_table.specs.declared.info.SsTableInfo.{SsTableInfo}
use Rattle.slate_table.specs.declared.info.Places.{Places}
use Rattle.slate_table.specs.Parts.{Place}
use Rattle.slate_table.specs.Decoded.{Info}

abbrev pub section_place : ℕ → ℕ → Place
section_place offset size = record { at = offset; len = size }

abbrev pub seen_info : SsTableInfo → Info
seen_info i = record {
  first = i.first_entry;
  last = i.last_entry;
  index = section_place i.index_offset i.index_len;
  filters = section_place i.filter_offset i.filter_len;
  stats = section_place i.stats_offset i.stats_len;
}

abbrev pub info_at : Option (List ℕ) → Option (List ℕ) → Places → Info
info_at first last p = record {
  first = first;
  last = last;
  index = section_place p.index.0 p.index.1;
  filters = section_place p.filters.0 p.filters.1;
  stats = section_place p.stats.0 p.stats.1;
}

abbrev pub byte_at : ℕ → Option ℕ → Field ℕ
byte_at at None = Err (CorruptTable at)
byte_at at (Some b) = Ok (b, at + 1)

unfoldable pub byte_field : List ℕ → ℕ → Field ℕ
byte_field bytes at = byte_at at (slice_get bytes at)

unfoldable pub version_field : ℕ → List ℕ → Field ℕ
version_field version bytes = number_field w16 bytes 0 >>= λ stored. if stored.0 == version then Ok stored else Err (CorruptTable 0)

unfoldable pub key_text : List ℕ → ℕ → Field (List ℕ)
key_text bytes at = do
  size ← number_field w16 bytes at
  key ← block_field size.0 bytes size.1
  Ok (slice_range bytes key.0 key.1, key.1)

-- 0 for a missing key, 1 before one
unfoldable pub key_field : List ℕ → ℕ → Field (Option (List ℕ))
key_field bytes at = byte_field bytes at >>= λ there. if there.0 == 0 then Ok (None, there.1)
    else (if there.0 == 1 then (key_text bytes there.1 >>= λ key. Ok (Some key.0, key.1)) else Err (CorruptTable at))

-- an offset past the end fails by itself
unfoldable pub place_field : ℕ → List ℕ → ℕ → Field (ℕ × ℕ)
place_field end bytes at = number_field w64 bytes at >>= λ offset. if nat_lt end offset.0 then Err (CorruptTable at)
    else (number_field w64 bytes offset.1 >>= λ size. if nat_lt (end - offset.0) size.0 then Err (CorruptTable offset.1) else Ok ((offset.0, size.0), size.1))

-- a codec is refused where nothing else is
unfoldable pub ending : List ℕ → ℕ → Result (Unit {0}) SlateDBError
ending bytes at = byte_field bytes at >>= λ codec. byte_field bytes codec.1 >>= λ format. if format.0 == 1
    then (if nat_lt format.1 (length bytes) then Err (CorruptTable format.1) else (if codec.0 == 0 then Ok tt else Err (UnsupportedCompression codec.0)))
    else Err (CorruptTable codec.1)

-- the info with these keys, of which the places of the sections stand from a place on
unfoldable pub info_from : ℕ → List ℕ → ℕ → Option (List ℕ) → Option (List ℕ) → Result Info SlateDBError
info_from end bytes at first last = do
  index ← place_field end bytes at
  filters ← place_field end bytes index.1
  stats ← place_field end bytes filters.1
  ended ← ending bytes stats.1
  Ok (record { first = first; last = last; index = section_place index.0.0 index.0.1; filters = section_place filters.0.0 filters.0.1; stats = section_place stats.0.0 stats.0.1 })

unfoldable pub info_in : ℕ → ℕ → List ℕ → Result Info SlateDBError
info_in version end bytes = do
  stored ← version_field version bytes
  first ← key_field bytes stored.1
  last ← key_field bytes first.1
  info_from end bytes last.1 first.0 last.0
