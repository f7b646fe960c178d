-- The index of a table, read from its bytes.
--     is_next_offset last at, is_next_key last key      the first offset is 0, a later one is past the last; no separator is below the last
--     offset_field end last bytes at, separator_field last bytes at      the fields of an entry behind the last one
--     entry_field end last bytes at      the entry, or the refusal of the first field that fails
--     entries_from count end last bytes at      so many entries
--     counted bytes      their number, which isn't 0
--     index_of end bytes      the entries, or the refusal
--     index_keys entries      their separators
--     borrowed_entry e      an entry whose separator is borrowed
--     entry_in bytes place, LiesIn bytes place      the entry at a place, and whether the bytes have that place
use Rattle.std.specs.Prelude.{◌≤◌, ℕ, zero, suc, Bool, true, ◌&&◌, if◌then◌else◌, nat_lt, nat_le, ◌==◌, List, [], ◌∷◌, length, map, slice_range, Option, Some, None, Result, Ok, Err}
use Rattle.std.specs.Int.{w16, w32, w64}
use Rattle.std.specs.Borrow.{Bor}
use Rattle.slate_table.specs.declared.sst_index.EntryPlace.{EntryPlace}
use Rattle.slate_types.specs.declared.error.SlateDBError.{SlateDBError}
use Rattle.slate_types.specs.declared.error.SlateDBError.TheVariants.{CorruptTable}
use Rattle.slate_types.specs.Keys.{key_le}
use Rattle.slate_block.specs.Damage.{◌>>=◌, Field, number_field, block_field}

abbrev pub is_next_offset : Option (ℕ × List ℕ) → ℕ → Bool
is_next_offset None at = at == 0
is_next_offset (Some last) at = nat_lt last.0 at

abbrev pub is_next_key : Option (ℕ × List ℕ) → List ℕ → Bool
is_next_key None key = true
is_next_key (Some last) key = key_le last.1 key

-- it doesn't pass the blocks' end
unfoldable pub offset_field : ℕ → Option (ℕ × List ℕ) → List ℕ → ℕ → Field ℕ
offset_field end last bytes at = number_field w64 bytes at >>= λ offset. if is_next_offset last offset.0 && nat_le offset.0 end then Ok offset else Err (CorruptTable at)

-- what it holds is its place
unfoldable pub separator_field : Option (ℕ × List ℕ) → List ℕ → ℕ → Field ℕ
separator_field last bytes at = do
  len ← number_field w16 bytes at
  key ← block_field len.0 bytes len.1
  if is_next_key last (slice_range bytes key.0 key.1) then Ok key else Err (CorruptTable key.0)

unfoldable pub entry_field : ℕ → Option (ℕ × List ℕ) → List ℕ → ℕ → Field (ℕ × List ℕ)
entry_field end last bytes at = do
  offset ← offset_field end last bytes at
  key ← separator_field last bytes offset.1
  Ok ((offset.0, slice_range bytes key.0 key.1), key.1)

unfoldable pub entries_from : ℕ → ℕ → Option (ℕ × List ℕ) → List ℕ → ℕ → Field (List (ℕ × List ℕ))
entries_from zero end last bytes at = Ok ([], at)
entries_from (suc count) end last bytes at = entry_field end last bytes at >>= λ first. entries_from count end (Some first.0) bytes first.1 >>= λ rest. Ok (first.0 ∷ rest.0, rest.1)

unfoldable pub counted : List ℕ → Field ℕ
counted bytes = number_field w32 bytes 0 >>= λ count. if count.0 == 0 then Err (CorruptTable 0) else Ok count

-- nothing is left over
unfoldable pub index_of : ℕ → List ℕ → Result (List (ℕ × List ℕ)) SlateDBError
index_of end bytes = do
  count ← counted bytes
  entries ← entries_from count.0 end None bytes count.1
  if entries.1 == length bytes then Ok entries.0 else Err (CorruptTable entries.1)

abbrev pub index_keys : List (ℕ × List ℕ) → List (List ℕ)
index_keys entries = map (λ e. e.1) entries

abbrev pub borrowed_entry : ℕ × Bor (List ℕ) → ℕ × List ℕ
borrowed_entry e = (e.0, e.1.now)

abbrev pub entry_in : List ℕ → EntryPlace → ℕ × List ℕ
entry_in bytes place = (place.offset, slice_range bytes place.start place.end)

abbrev pub LiesIn : List ℕ → EntryPlace → Type 0
LiesIn bytes place = (place.start ≤ place.end) × (place.end ≤ length bytes)
