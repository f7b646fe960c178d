-- The filters of a table, read from their bytes.
--     name_field bytes at      a name, which is UTF-8, behind its length
--     filter_field bytes at      a name and the bytes of its filter, or the refusal of the first field that fails
--     filters_from count bytes at      so many filters
--     filters_in bytes      the filters, or the refusal
--     filters_say policies query filters      what the filters answer that were read, or why they weren't
--     filters_say_from policies query answer filters      what so many filters answer behind an answer so far
--     in_filters len e      a refusal of the fields of a part as the part's own, with its length; want of memory stays
use Rattle.std.specs.Prelude.{ℕ, zero, suc, Bool, if◌then◌else◌, ◌==◌, List, [], ◌∷◌, length, slice_range, Option, Result, Ok, Err}
use Rattle.std.specs.Int.{w16, w64}
use Rattle.std.specs.Str.{is_utf8}
use Rattle.slate_types.specs.declared.error.SlateDBError.{SlateDBError}
use Rattle.slate_types.specs.declared.error.SlateDBError.TheVariants.{CorruptTable, InvalidFilterBlock, OutOfMemory}
use Rattle.slate_types.specs.declared.filter_policy.FilterQuery.{FilterQuery}
use Rattle.slate_block.specs.Damage.{◌>>=◌, Field, number_field, block_field}
use Rattle.slate_filter.specs.Asking.{also, asked}
use Rattle.slate_filter.specs.Policy.{Policy}

unfoldable pub name_field : List ℕ → ℕ → Field (List ℕ)
name_field bytes at = do
  len ← number_field w16 bytes at
  name ← block_field len.0 bytes len.1
  if is_utf8 (slice_range bytes name.0 name.1) then Ok (slice_range bytes name.0 name.1, name.1) else Err (CorruptTable name.0)

unfoldable pub filter_field : List ℕ → ℕ → Field (List ℕ × List ℕ)
filter_field bytes at = do
  name ← name_field bytes at
  len ← number_field w64 bytes name.1
  filter ← block_field len.0 bytes len.1
  Ok ((name.0, slice_range bytes filter.0 filter.1), filter.1)

unfoldable pub filters_from : ℕ → List ℕ → ℕ → Field (List (List ℕ × List ℕ))
filters_from zero bytes at = Ok ([], at)
filters_from (suc count) bytes at = filter_field bytes at >>= λ first. filters_from count bytes first.1 >>= λ rest. Ok (first.0 ∷ rest.0, rest.1)

-- nothing is left over
unfoldable pub filters_in : List ℕ → Result (List (List ℕ × List ℕ)) SlateDBError
filters_in bytes = do
  count ← number_field w16 bytes 0
  filters ← filters_from count.0 bytes count.1
  if filters.1 == length bytes then Ok filters.0 else Err (CorruptTable filters.1)

-- filters that were read, asked
abbrev pub filters_say : List Policy → FilterQuery → Result (List (List ℕ × List ℕ)) SlateDBError → Result (Option Bool) SlateDBError
filters_say policies query filters = filters >>= λ fs. Ok (asked policies fs query)

abbrev pub filters_say_from : List Policy → FilterQuery → Option Bool → Field (List (List ℕ × List ℕ)) → Field (Option Bool)
filters_say_from policies query answer filters = filters >>= λ fs. Ok (also answer (asked policies fs.0 query), fs.1)

-- where a field of a part is refused, the part is
abbrev pub in_filters : ℕ → SlateDBError → SlateDBError
in_filters len OutOfMemory = OutOfMemory
in_filters len e = InvalidFilterBlock len
