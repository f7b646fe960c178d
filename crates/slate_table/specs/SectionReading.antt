-- Sections and the last bytes of a table, read.
--     part_of_sum bytes      all but the last four bytes
--     covered_by place      what the checksum of the section at a place covers beside its bytes
--     part_in cover bytes      the part before the checksum, or the refusal of a checksum that doesn't fit
--     changed_by change transformer bytes      what a transformer makes of bytes, which without one stay as they are
--     IsTransformFault before after e      want of memory, or a failure that raised the transformer's count of faults
--     footer_bytes offset version      the last bytes of a table
--     footer_in size bytes      what they say, or the refusal, for an object of a size
use Rattle.std.specs.Prelude.{◌≡◌, ℕ, ◌-◌, ◌⊎◌, if◌then◌else◌, nat_lt, ◌==◌, List, ◌++◌, length, take, drop, Option, Some, None, Result, Ok, Err}
use Rattle.std.specs.Int.{w16, w32, w64, from_be_bytes}
use Rattle.slate_types.specs.declared.error.SlateDBError.{SlateDBError}
use Rattle.slate_types.specs.declared.error.SlateDBError.TheVariants.{CorruptTable, ChecksumMismatch, InvalidVersion, BlockTransformError, OutOfMemory}
use Rattle.slate_types.specs.Faults.{Rose}
pub use Rattle.slate_store.specs.Env.{changed_by}
use Rattle.slate_block.specs.BlockSpelling.{is_known}
use Rattle.slate_block.specs.RowSpelling.{be16, be64}
use Rattle.slate_block.specs.Damage.{◌>>=◌, number_field}
use Rattle.slate_table.specs.declared.section.SectionPlace.{SectionPlace}
use Rattle.slate_table.specs.Checksum.{crc32}
use Rattle.slate_table.specs.Parts.{cover_of}

abbrev pub part_of_sum : List ℕ → List ℕ
part_of_sum bytes = take (length bytes - 4) bytes

abbrev pub stored_sum : List ℕ → ℕ
stored_sum bytes = from_be_bytes w32 (drop (length bytes - 4) bytes)

abbrev pub covered_by : SectionPlace → List ℕ
covered_by p = cover_of p.version p.id.0 p.kind p.offset

unfoldable pub part_in : List ℕ → List ℕ → Result (List ℕ) SlateDBError
part_in cover bytes = if nat_lt (length bytes) 4 then Err (CorruptTable 0)
    else (if stored_sum bytes == crc32 (cover ++ part_of_sum bytes) then Ok (part_of_sum bytes) else Err (ChecksumMismatch (stored_sum bytes) (crc32 (cover ++ part_of_sum bytes))))

abbrev pub IsTransformFault : ℕ → ℕ → SlateDBError → Type 0
IsTransformFault before after e = (e ≡ OutOfMemory) ⊎ ((e ≡ BlockTransformError) × Rose before after)

-- the place of the info, and the version
abbrev pub footer_bytes : ℕ → ℕ → List ℕ
footer_bytes offset version = be64 offset ++ be16 version

-- the version is tested before the place
unfoldable pub footer_in : ℕ → List ℕ → Result (ℕ × ℕ) SlateDBError
footer_in size bytes = number_field w64 bytes 0 >>= λ offset. number_field w16 bytes offset.1 >>= λ version.
    if is_known version.0 then (if nat_lt (size - 10) offset.0 then Err (CorruptTable 0) else Ok (offset.0, version.0)) else Err (InvalidVersion version.0)
