-- A block's bytes, taken apart.
--     IsApart body offsets bytes      the bytes are those of a rows' part and offsets that begin at 0, rise, and stand in the rows' part
--     counted_offsets bytes      the length of the rows' part and the number of offsets, or the refusal
--     offset_field low high bytes at      an offset from low on and below high
--     offsets_from count low high end bytes at      so many offsets, the first from low on and below high, each later one past the one before and below the end
--     offsets_of_block bytes      the length of the rows' part and the offsets, or the refusal
use Rattle.std.specs.Prelude.{◌≡◌, ℕ, zero, suc, ◌+◌, ◌-◌, ◌*◌, ◌^◌, ◌<◌, ◌≤◌, if◌then◌else◌, nat_lt, ◌==◌, min, List, [], ◌∷◌, length, Result, Ok, Err}
use Rattle.std.specs.Int.{w16}
use Rattle.slate_types.specs.declared.error.SlateDBError.{SlateDBError}
use Rattle.slate_types.specs.declared.error.SlateDBError.TheVariants.{CorruptTable}
use Rattle.slate_block.specs.BlockSpelling.{block_spelling}
use Rattle.slate_block.specs.Damage.{◌>>=◌, Field, number_field}

-- from a bound on, each past the one before it, all below the end
abbrev pub Rise : ℕ → ℕ → List ℕ → Type 0
Rise low end [] = Unit {0}
Rise low end (at ∷ ats) = (low ≤ at) × (at < end) × (at < 2 ^ 16) × Rise (at + 1) end ats

abbrev pub AreOffsets : ℕ → List ℕ → Type 0
AreOffsets end [] = ⊥
AreOffsets end (at ∷ ats) = (at ≡ 0) × (0 < end) × Rise 1 end ats

abbrev pub IsApart : List ℕ → List ℕ → List ℕ → Type 0
IsApart body offsets bytes = AreOffsets (length body) offsets × (length offsets < 2 ^ 16) × (bytes ≡ block_spelling body offsets)

-- ---- the refusal of the first field that fails: the count, then each offset

unfoldable pub counted_offsets : List ℕ → Result (ℕ × ℕ) SlateDBError
counted_offsets bytes = if nat_lt (length bytes) 2 then Err (CorruptTable 0) else (number_field w16 bytes (length bytes - 2) >>= λ count.
    if count.0 == 0 then Err (CorruptTable (length bytes - 2)) else (if nat_lt (length bytes - 2) (2 * count.0) then Err (CorruptTable (length bytes - 2)) else Ok (length bytes - 2 - 2 * count.0, count.0)))

unfoldable pub offset_field : ℕ → ℕ → List ℕ → ℕ → Field ℕ
offset_field low high bytes at = number_field w16 bytes at >>= λ offset. if nat_lt offset.0 low then Err (CorruptTable at) else (if nat_lt offset.0 high then Ok offset else Err (CorruptTable at))

unfoldable pub offsets_from : ℕ → ℕ → ℕ → ℕ → List ℕ → ℕ → Result (List ℕ) SlateDBError
offsets_from zero low high end bytes at = Ok []
offsets_from (suc count) low high end bytes at = offset_field low high bytes at >>= λ first. offsets_from count (first.0 + 1) end end bytes first.1 >>= λ rest. Ok (first.0 ∷ rest)

-- the first offset is 0
unfoldable pub offsets_of_block : List ℕ → Result (ℕ × List ℕ) SlateDBError
offsets_of_block bytes = counted_offsets bytes >>= λ counted. offsets_from counted.1 0 (min 1 counted.0) counted.0 bytes counted.0 >>= λ offsets. Ok (counted.0, offsets)
