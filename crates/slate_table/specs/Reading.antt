-- Tables, read from a store.
--     whole_answer size answer      what a store answers to a read of so many bytes, and nothing where they aren't so many
--     IsRead objects before after path start size answer      the store was asked once for a range of an object, and answered so, as a whole
--     Reads objects before after path start size means      the same, and the answer means this
--     ReadsIndex, ReadsFilters, ReadsStats, ReadsBlocks      the same of a table's sections
--     IsStoreFault before after e      want of memory, or a failure that raised the store's count of faults
--     SectionRead      what a store answered where a section lies, and what the section's checksum covers beside its bytes
--     section_read version id kind at answer      the same, of a section of a table of this id
--     read_at place answer      the same, of the section at a place
--     of_index, of_filters, of_stats, of_block      the same, of the sections of a table that was put or opened
--     stored_in section      what stands before the checksum of a section that was read, or the refusal
--     Fits section      the section was read in full, and its checksum fits
--     unchanged      what decodes bytes where there is no transformer
--     IsPart decode section part      a section was read whose stored bytes are decoded to the part
--     FailsDecoding before after section e      the transformer failed at a section whose checksum fits
--     IsRefused decode refused section e      the section is refused, or its part is
--     IsIndexRead, RefusesIndex      an index of blocks that end at a place is read, or refused
--     IsStatsRead, RefusesStats      statistics are read, or refused
--     AreFiltersRead, RefusesFilters      filters are read, or refused, with the length of the part that is none
--     IsBlockRead, RefusesBlock      a block is read, or refused
--     block_start end entries block      where a block's section begins, and the blocks' end behind the last
--     blocks_size end entries first stop      how many bytes a row of neighbouring blocks has
--     block_answer end entries first answer block      what an answer from the first block's start on says of the section of a block
--     AreBlocksRead decode sections first blocks      they are the blocks of these sections, from the first one on
--     RefusesBlocks decode sections first stop e      a block of the row is refused, and those before it aren't
--     FailsBlocks decode sections first stop before after e      the transformer failed at the section of a block of the row, and those before it are read
use Rattle.std.specs.Prelude.{◌≡◌, ◌≤◌, ◌<◌, ◌⊎◌, ◌==◌, ℕ, ◌+◌, ◌-◌, if◌then◌else◌, List, length, slice_get, Option, Some, None, Result, Err}
use Rattle.slate_types.specs.declared.error.SlateDBError.{SlateDBError}
use Rattle.slate_types.specs.declared.error.SlateDBError.TheVariants.{CorruptTable, BlockTransformError, InvalidFilterBlock, OutOfMemory, StoreFault}
use Rattle.slate_types.specs.Faults.{Rose}
use Rattle.slate_types.specs.Outside.{Objects}
use Rattle.slate_store.specs.Store.{Act, AddsAct, AnswersRead, part_of}
use Rattle.slate_block.specs.declared.block.Block.{Block}
use Rattle.slate_block.specs.RowReading.{refusal}
use Rattle.slate_block.specs.BlockReading.{IsApart, offsets_of_block}
use Rattle.slate_table.specs.declared.info.SsTableHandle.{SsTableHandle}
use Rattle.slate_table.specs.declared.section.SectionPlace.{SectionPlace}
use Rattle.slate_table.specs.Paths.{path_of}
use Rattle.slate_table.specs.Parts.{Encode, cover_of, block_kind, filters_kind, index_kind, stats_kind, summed}
use Rattle.slate_table.specs.Decoded.{IsFilters, IsIndex, Stats, IsStats}
use Rattle.slate_table.specs.SectionReading.{part_in}
use Rattle.slate_table.specs.IndexReading.{index_of}
use Rattle.slate_table.specs.StatsReading.{stats_in}

-- bytes of another length than was asked for are none
abbrev pub whole_answer : ℕ → Option (List ℕ) → Option (List ℕ)
whole_answer size None = None
whole_answer size (Some bytes) = if length bytes == size then Some bytes else None

-- objects: what the store tells; before, after: the acts that it tells; given: what the store answered
abbrev pub IsRead : Option Objects → Option (List Act) → Option (List Act) → List ℕ → ℕ → ℕ → Option (List ℕ) → Type 0
IsRead objects before after path start size answer =
    (given : Option (List ℕ)) × ((os : Objects) → objects ≡ Some os → AnswersRead os path start size given) × AddsAct before (Act.read path start size given) after
    × (answer ≡ whole_answer size given)

abbrev pub Reads : Option Objects → Option (List Act) → Option (List Act) → List ℕ → ℕ → ℕ → (Option (List ℕ) → Type 0) → Type 0
Reads objects before after path start size means = (answer : Option (List ℕ)) × IsRead objects before after path start size answer × means answer

-- h: what is kept of a table
abbrev pub ReadsIndex : Option Objects → Option (List Act) → Option (List Act) → List ℕ → SsTableHandle → (Option (List ℕ) → Type 0) → Type 0
ReadsIndex objects before after root h means = Reads objects before after (path_of root h.id.0) h.info.index_offset h.info.index_len means

abbrev pub ReadsFilters : Option Objects → Option (List Act) → Option (List Act) → List ℕ → SsTableHandle → (Option (List ℕ) → Type 0) → Type 0
ReadsFilters objects before after root h means = Reads objects before after (path_of root h.id.0) h.info.filter_offset h.info.filter_len means

abbrev pub ReadsStats : Option Objects → Option (List Act) → Option (List Act) → List ℕ → SsTableHandle → (Option (List ℕ) → Type 0) → Type 0
ReadsStats objects before after root h means = Reads objects before after (path_of root h.id.0) h.info.stats_offset h.info.stats_len means

abbrev pub IsStoreFault : ℕ → ℕ → SlateDBError → Type 0
IsStoreFault before after e = (e ≡ OutOfMemory) ⊎ ((e ≡ StoreFault) × Rose before after)

-- ---- sections

pub record SectionRead : Type 0 where
  pub cover : List ℕ
  pub answer : Option (List ℕ)

abbrev pub section_read : ℕ → ℕ → ℕ → ℕ → Option (List ℕ) → SectionRead
section_read version id kind at answer = record { cover = cover_of version id kind at; answer = answer }

abbrev pub read_at : SectionPlace → Option (List ℕ) → SectionRead
read_at p answer = section_read p.version p.id.0 p.kind p.offset answer

-- a range that isn't there is refused
abbrev pub stored_of : List ℕ → Option (List ℕ) → Result (List ℕ) SlateDBError
stored_of cover None = Err (CorruptTable 0)
stored_of cover (Some bytes) = part_in cover bytes

abbrev pub stored_in : SectionRead → Result (List ℕ) SlateDBError
stored_in s = stored_of s.cover s.answer

-- bytes that no transformer changes
abbrev pub unchanged : Encode
unchanged bytes = bytes

abbrev pub IsPart : Encode → SectionRead → List ℕ → Type 0
IsPart decode s part = (stored : List ℕ) × (s.answer ≡ Some (summed s.cover stored)) × (part ≡ decode stored)

abbrev pub Fits : SectionRead → Type 0
Fits s = (stored : List ℕ) × (s.answer ≡ Some (summed s.cover stored))

-- before, after: the transformer's count of faults
abbrev pub FailsDecoding : ℕ → ℕ → SectionRead → SlateDBError → Type 0
FailsDecoding before after s e = (e ≡ BlockTransformError) × Rose before after × Fits s

-- refused: why a part is no such part
abbrev pub IsRefused : Encode → (List ℕ → Option SlateDBError) → SectionRead → SlateDBError → Type 0
IsRefused decode refused s e = (refusal (stored_in s) ≡ Some e) ⊎ ((part : List ℕ) × IsPart decode s part × (refused part ≡ Some e))

abbrev pub of_index : SsTableHandle → Option (List ℕ) → SectionRead
of_index table answer = section_read table.format_version table.id.0 index_kind table.info.index_offset answer

abbrev pub of_filters : SsTableHandle → Option (List ℕ) → SectionRead
of_filters table answer = section_read table.format_version table.id.0 filters_kind table.info.filter_offset answer

abbrev pub of_stats : SsTableHandle → Option (List ℕ) → SectionRead
of_stats table answer = section_read table.format_version table.id.0 stats_kind table.info.stats_offset answer

-- ---- the index and the statistics

abbrev pub IsIndexRead : Encode → ℕ → SectionRead → List (ℕ × List ℕ) → Type 0
IsIndexRead decode end s entries = (part : List ℕ) × IsPart decode s part × IsIndex end part entries

abbrev pub RefusesIndex : Encode → ℕ → SectionRead → SlateDBError → Type 0
RefusesIndex decode end s e = IsRefused decode (λ part. refusal (index_of end part)) s e

unfoldable pub IsStatsRead : Encode → SectionRead → Stats → Type 0
IsStatsRead decode s stats = (part : List ℕ) × IsPart decode s part × IsStats part stats

unfoldable pub RefusesStats : Encode → SectionRead → SlateDBError → Type 0
RefusesStats decode s e = IsRefused decode (λ part. refusal (stats_in part)) s e

-- ---- filters

abbrev pub AreFiltersRead : Encode → SectionRead → List (List ℕ × List ℕ) → Type 0
AreFiltersRead decode s filters = (part : List ℕ) × IsPart decode s part × IsFilters part filters

-- a filter part that is cut, whose names aren't UTF-8, or that has more behind its filters is refused with its length
abbrev pub AreNoFilters : List ℕ → SlateDBError → Type 0
AreNoFilters part e = (e ≡ InvalidFilterBlock (length part)) × ((filters : List (List ℕ × List ℕ)) → IsFilters part filters → ⊥)

abbrev pub RefusesFilters : Encode → SectionRead → SlateDBError → Type 0
RefusesFilters decode s e = (refusal (stored_in s) ≡ Some e) ⊎ ((part : List ℕ) × IsPart decode s part × AreNoFilters part e)

-- ---- blocks

abbrev pub IsBlockRead : Encode → SectionRead → Block → Type 0
IsBlockRead decode s block = (part : List ℕ) × IsPart decode s part × IsApart block.body block.offsets.items part

abbrev pub RefusesBlock : Encode → SectionRead → SlateDBError → Type 0
RefusesBlock decode s e = IsRefused decode (λ part. refusal (offsets_of_block part)) s e

abbrev pub offset_or : ℕ → Option (ℕ × List ℕ) → ℕ
offset_or end None = end
offset_or end (Some entry) = entry.0

-- the end of a block is the start of the next one
abbrev pub block_start : ℕ → List (ℕ × List ℕ) → ℕ → ℕ
block_start end entries block = offset_or end (slice_get entries block)

abbrev pub blocks_size : ℕ → List (ℕ × List ℕ) → ℕ → ℕ → ℕ
blocks_size end entries first stop = block_start end entries stop - block_start end entries first

abbrev pub ReadsBlocks : Option Objects → Option (List Act) → Option (List Act) → List ℕ → SsTableHandle → List (ℕ × List ℕ) → ℕ → ℕ → (Option (List ℕ) → Type 0) → Type 0
ReadsBlocks objects before after root h entries first stop means =
    Reads objects before after (path_of root h.id.0) (block_start h.info.filter_offset entries first) (blocks_size h.info.filter_offset entries first stop) means

abbrev pub block_answer : ℕ → List (ℕ × List ℕ) → ℕ → Option (List ℕ) → ℕ → Option (List ℕ)
block_answer end entries first answer block = part_of answer (blocks_size end entries first block) (blocks_size end entries block (block + 1))

-- of the section of a block, by an answer from its own start on, and by one from the first block's start on
abbrev pub of_block : SsTableHandle → List (ℕ × List ℕ) → ℕ → Option (List ℕ) → SectionRead
of_block table entries block answer = section_read table.format_version table.id.0 block_kind (block_start table.info.filter_offset entries block) answer

abbrev pub of_blocks : SsTableHandle → List (ℕ × List ℕ) → ℕ → Option (List ℕ) → ℕ → SectionRead
of_blocks table entries first answer block = of_block table entries block (block_answer table.info.filter_offset entries first answer block)

abbrev pub AreBlocksRead : Encode → (ℕ → SectionRead) → ℕ → List Block → Type 0
AreBlocksRead decode sections first blocks = (i : ℕ) (block : Block) → slice_get blocks i ≡ Some block → IsBlockRead decode (sections (first + i)) block

abbrev pub RefusesBlocks : Encode → (ℕ → SectionRead) → ℕ → ℕ → SlateDBError → Type 0
RefusesBlocks decode sections first stop e =
    (at : ℕ) × (first ≤ at) × (at < stop) × RefusesBlock decode (sections at) e × ((i : ℕ) → first ≤ i → i < at → (block : Block) × IsBlockRead decode (sections i) block)

abbrev pub FailsBlocks : Encode → (ℕ → SectionRead) → ℕ → ℕ → ℕ → ℕ → SlateDBError → Type 0
FailsBlocks decode sections first stop before after e =
    (at : ℕ) × (first ≤ at) × (at < stop) × FailsDecoding before after (sections at) e × ((i : ℕ) → first ≤ i → i < at → (block : Block) × IsBlockRead decode (sections i) block)
