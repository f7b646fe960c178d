-- What a table that was opened is read for.
--     rows_in version block      the rows of a block of a version, or the refusal
--     AreRowsRead decode version section rows      a section is read whose part is a block of these rows
--     RefusesRows decode version section e      the section is refused, or its block is, or a row of that
--     ReadsIndex decode objects before after path table entries      the index of a table, by one read of its section
--     ReadsRows decode objects before after path table block rows      the index, and then the rows of one of its blocks, by one read each
--     RefusesReadRows decode objects before after path table block e      the index is refused, or has no such block, or the block is refused
--     FailsReadRows decode objects before after path table block a b e      the transformer failed at the index, or at the block
--     ReadsFittingIndex objects before after path table block      the index was read, whose checksum fits, and then nothing, or the block
--     MayReadRows decode objects before after path table block      none of the two reads was answered, or the first, or both
use Rattle.std.specs.Prelude.{◌≡◌, ◌≤◌, ◌<◌, ◌⊎◌, ℕ, ◌+◌, if◌then◌else◌, List, length, Option, Result, Err}
use Rattle.slate_types.specs.declared.error.SlateDBError.{SlateDBError}
use Rattle.slate_types.specs.declared.error.SlateDBError.TheVariants.{InvalidVersion, BlockOutOfRange}
use Rattle.slate_types.specs.declared.types.RowEntry.{RowEntry}
use Rattle.slate_types.specs.Outside.{Objects}
use Rattle.slate_store.specs.Store.{Act}
use Rattle.slate_block.specs.declared.block.Block.{Block}
use Rattle.slate_block.specs.BlockSpelling.{IsBlock, is_known}
use Rattle.slate_block.specs.ReadingLaws.{EachIsAByte}
use Rattle.slate_block.specs.Walks.{block_rows}
use Rattle.slate_table.specs.declared.info.SsTableHandle.{SsTableHandle}
use Rattle.slate_table.specs.Parts.{Encode}
use Rattle.slate_table.specs.Reading.{Fits, Reads, SectionRead, of_index, of_block, FailsDecoding, IsPart, IsIndexRead, RefusesIndex, IsBlockRead, RefusesBlock, block_start, blocks_size}

abbrev pub rows_in : ℕ → Block → Result (List RowEntry) SlateDBError
rows_in version block = if is_known version then block_rows version block.body block.offsets.items else Err (InvalidVersion version)

abbrev pub AreRowsRead : Encode → ℕ → SectionRead → List RowEntry → Type 0
AreRowsRead decode version s rows = (part : List ℕ) × IsPart decode s part × IsBlock part version rows

abbrev pub RefusesRows : Encode → ℕ → SectionRead → SlateDBError → Type 0
RefusesRows decode version s e = RefusesBlock decode s e ⊎ ((block : Block) × EachIsAByte block.body × IsBlockRead decode s block × (rows_in version block ≡ Err e))

-- objects: what the store tells; before, after: the acts that it tells
abbrev pub ReadsIndex : Encode → Option Objects → Option (List Act) → Option (List Act) → List ℕ → SsTableHandle → List (ℕ × List ℕ) → Type 0
ReadsIndex decode objects before after path table entries =
    Reads objects before after path table.info.index_offset table.info.index_len (λ answer. IsIndexRead decode table.info.filter_offset (of_index table answer) entries)

-- a read of a block's section, whose place the index names
abbrev pub ReadsBlock : Option Objects → Option (List Act) → Option (List Act) → List ℕ → SsTableHandle → List (ℕ × List ℕ) → ℕ → (SectionRead → Type 0) → Type 0
ReadsBlock objects before after path table entries block means =
    Reads objects before after path (block_start table.info.filter_offset entries block) (blocks_size table.info.filter_offset entries block (block + 1)) (λ answer. means (of_block table entries block answer))

unfoldable pub ReadsRows : Encode → Option Objects → Option (List Act) → Option (List Act) → List ℕ → SsTableHandle → ℕ → List RowEntry → Type 0
ReadsRows decode objects before after path table block rows =
    (entries : List (ℕ × List ℕ)) × (between : Option (List Act)) × ReadsIndex decode objects before between path table entries × (block < length entries)
    × ReadsBlock objects between after path table entries block (λ s. AreRowsRead decode table.format_version s rows)

unfoldable pub RefusesReadRows : Encode → Option Objects → Option (List Act) → Option (List Act) → List ℕ → SsTableHandle → ℕ → SlateDBError → Type 0
RefusesReadRows decode objects before after path table block e =
    Reads objects before after path table.info.index_offset table.info.index_len (λ answer. RefusesIndex decode table.info.filter_offset (of_index table answer) e)
    ⊎ ((entries : List (ℕ × List ℕ)) × ReadsIndex decode objects before after path table entries × (length entries ≤ block) × (e ≡ BlockOutOfRange block (length entries)))
    ⊎ ((entries : List (ℕ × List ℕ)) × (between : Option (List Act)) × ReadsIndex decode objects before between path table entries × (block < length entries)
    × ReadsBlock objects between after path table entries block (λ s. RefusesRows decode table.format_version s e))

-- a, b: the transformer's count of faults
unfoldable pub FailsReadRows : Encode → Option Objects → Option (List Act) → Option (List Act) → List ℕ → SsTableHandle → ℕ → ℕ → ℕ → SlateDBError → Type 0
FailsReadRows decode objects before after path table block a b e =
    Reads objects before after path table.info.index_offset table.info.index_len (λ answer. FailsDecoding a b (of_index table answer) e)
    ⊎ ((entries : List (ℕ × List ℕ)) × (between : Option (List Act)) × ReadsIndex decode objects before between path table entries × (block < length entries)
    × ReadsBlock objects between after path table entries block (λ s. FailsDecoding a b s e))

unfoldable pub MayReadRows : Encode → Option Objects → Option (List Act) → Option (List Act) → List ℕ → SsTableHandle → ℕ → Type 0
MayReadRows decode objects before after path table block =
    (after ≡ before)
    ⊎ Reads objects before after path table.info.index_offset table.info.index_len (λ _. Unit {0})
    ⊎ ((entries : List (ℕ × List ℕ)) × (between : Option (List Act)) × ReadsIndex decode objects before between path table entries × (block < length entries)
    × ReadsBlock objects between after path table entries block (λ _. Unit {0}))

unfoldable pub ReadsFittingIndex : Option Objects → Option (List Act) → Option (List Act) → List ℕ → SsTableHandle → ℕ → Type 0
ReadsFittingIndex objects before after path table block =
    (between : Option (List Act)) × Reads objects before between path table.info.index_offset table.info.index_len (λ answer. Fits (of_index table answer))
    × ((after ≡ between) ⊎ ((entries : List (ℕ × List ℕ)) × ReadsBlock objects between after path table entries block (λ _. Unit {0})))
