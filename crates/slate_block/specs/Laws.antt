-- What spellings are for their readers. Each statement is proved by a function of src/laws.rt.
--     VarintsDelimitThemselves      no varint begins another
--     VarintsAreSpelledOneWay      each number of 32 bits has the computed spelling, and no other
--     RowsOfV1DelimitThemselves, RowsOfV2DelimitThemselves      a row is read back, whatever follows it
--     RowsOfV1AreReadOneWay, RowsOfV2AreReadOneWay      a byte string is at most one row
--     FlagsAreKnown      the flags of a row are flags
--     LongestFrontsAreBlocks      what is spelled with longest fronts is a block of the rows, as they are read
--     LongestFrontsAreSpelledOneWay      of one list of rows as they were written
--     BlocksAreReadOneWay      a byte string is a block of at most one list of rows
use Rattle.std.specs.Prelude.{◌≡◌, ℕ, ◌^◌, ◌<◌, true, List, ◌++◌, map, Option, ℤ}
use Rattle.slate_types.specs.declared.types.ValueDeletable.{ValueDeletable}
use Rattle.slate_types.specs.declared.types.RowEntry.{RowEntry}
use Rattle.slate_block.specs.declared.row.SstRowEntry.{SstRowEntry}
use Rattle.slate_block.specs.declared.row.SstRowEntryV2.{SstRowEntryV2}
use Rattle.slate_block.specs.Varint.{IsVarint, varint}
use Rattle.slate_block.specs.RowSpelling.{v1_bytes, v2_bytes, FitsV1, FitsV2, IsRowV1, IsRowV2, flags, are_flags}
use Rattle.slate_block.specs.BlockSpelling.{IsKnown, IsBlock, FitsBlock, block_bytes, as_read}

abbrev pub VarintsDelimitThemselves : Type 0
VarintsDelimitThemselves = (a b x y : List ℕ) (m n : ℕ) → IsVarint a m → IsVarint b n → a ++ x ≡ b ++ y → (m ≡ n) × (a ≡ b) × (x ≡ y)

abbrev pub VarintsAreSpelledOneWay : Type 0
VarintsAreSpelledOneWay = ((n : ℕ) → n < 2 ^ 32 → IsVarint (varint n) n) × ((bytes : List ℕ) (n : ℕ) → IsVarint bytes n → bytes ≡ varint n)

-- over the row as it was written, whose expiry stands in the bytes
abbrev pub RowsOfV1DelimitThemselves : Type 0
RowsOfV1DelimitThemselves = (e f : SstRowEntry) (x y : List ℕ) → FitsV1 e → FitsV1 f → v1_bytes e ++ x ≡ v1_bytes f ++ y → (e ≡ f) × (x ≡ y)

abbrev pub RowsOfV2DelimitThemselves : Type 0
RowsOfV2DelimitThemselves = (e f : SstRowEntryV2) (x y : List ℕ) → FitsV2 e → FitsV2 f → v2_bytes e ++ x ≡ v2_bytes f ++ y → (e ≡ f) × (x ≡ y)

abbrev pub RowsOfV1AreReadOneWay : Type 0
RowsOfV1AreReadOneWay = (bytes : List ℕ) (e f : SstRowEntry) → IsRowV1 bytes e → IsRowV1 bytes f → e ≡ f

abbrev pub RowsOfV2AreReadOneWay : Type 0
RowsOfV2AreReadOneWay = (bytes : List ℕ) (e f : SstRowEntryV2) → IsRowV2 bytes e → IsRowV2 bytes f → e ≡ f

abbrev pub FlagsAreKnown : Type 0
FlagsAreKnown = (value : ValueDeletable) (expire create : Option ℤ) → are_flags (flags value expire create) ≡ true

abbrev pub LongestFrontsAreBlocks : Type 0
LongestFrontsAreBlocks = (version : ℕ) (rows : List RowEntry) → IsKnown version → FitsBlock version rows →
    IsBlock (block_bytes version rows) version (map (as_read version) rows)

-- also in version 1, where the expiry of a tombstone stands in the bytes and isn't read
abbrev pub LongestFrontsAreSpelledOneWay : Type 0
LongestFrontsAreSpelledOneWay = (version : ℕ) (rows other : List RowEntry) → IsKnown version → FitsBlock version rows → FitsBlock version other →
    block_bytes version rows ≡ block_bytes version other → rows ≡ other

abbrev pub BlocksAreReadOneWay : Type 0
BlocksAreReadOneWay = (bytes : List ℕ) (version : ℕ) (rows other : List RowEntry) → IsBlock bytes version rows → IsBlock bytes version other → rows ≡ other
