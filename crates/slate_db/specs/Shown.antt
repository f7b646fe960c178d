-- What the reads of a get show of stored tables. h: what is kept of a table; acts: reads, as the store answered them
--     Asking      what a get asks of the filters of tables: by which policies, and for what
--     filters_act h given      the read of a table's filters, and what was given
--     LetsThrough decode by h acts      the acts are that read, where filters are asked, and it lets the query through; else there is none
--     Passed decode by h acts means      behind such acts stand those that mean this
--     index_act h given      the read of a table's index, and what was given
--     blocks_act h entries first stop given      the read of neighbouring blocks
--     IsOpened decode h acts      the acts are these two, and the index is read
--     section_at o i      what they say of the section of a block
--     HasBlock decode h acts block      a block is read from them
--     IsRowOf version block r, RefusesRow version block e      one of the rows of a block, which is bytes, is read, or is refused, or none of them is read
--     HasRowRead decode h acts r      a row of such a block
--     HasRow decode by h acts r      the same behind the filters
--     IsUnreadable e      a refusal of a section, of a part of a table, or of a row
--     RefusesIndexRead, RefusesBlocksRead decode h acts e      the index is refused, or one of the blocks or of their rows
--     ShowsRead decode h acts e      one of these, and so the error
--     RefusesFiltersRead decode by h acts e      the filters are refused
--     Shows decode by h acts e      the filters show the error, or let the query through, and what is read then shows it
--     BringsRow decode by upto hs reads r      of some tables one has the row, by reads of its own, and it is of the key that is asked for, of a sequence up to that one
--     BringsRows decode by upto hs newer all reads      all are newer rows, and behind them such rows
--     ShowsDamage decode by hs reads e      of some tables one shows the error, by the last reads
use Rattle.std.specs.Prelude.{◌≡◌, ◌⊎◌, ℕ, ◌≤◌, ◌<◌, true, false, List, [], ◌∷◌, ◌++◌, length, Contains, Option, Ok, Err}
use Rattle.std.specs.List.{AllByRecursion}
use Rattle.slate_types.specs.declared.error.SlateDBError.{SlateDBError}
use Rattle.slate_types.specs.declared.error.SlateDBError.TheVariants.{CorruptTable, ChecksumMismatch, InvalidFilterBlock, InvalidRowFlags}
use Rattle.slate_types.specs.declared.types.RowEntry.{RowEntry}
use Rattle.slate_types.specs.declared.filter_policy.FilterQuery.{FilterQuery}
use Rattle.slate_types.specs.declared.filter_policy.PrefixTarget.TheVariants.{Point}
use Rattle.slate_types.specs.Outside.{Act}
use Rattle.slate_block.specs.declared.block.Block.{Block}
use Rattle.slate_block.specs.ReadingLaws.{EachIsAByte}
use Rattle.slate_block.specs.Walks.{RowRead, block_reads}
use Rattle.slate_filter.specs.Policy.{Policy}
use Rattle.slate_table.specs.declared.info.SsTableHandle.{SsTableHandle}
use Rattle.slate_table.specs.Filtered.{asks_filters, IsAsked, RefusesQuery}
use Rattle.slate_table.specs.Parts.{Encode}
use Rattle.slate_table.specs.Paths.{path_of}
use Rattle.slate_table.specs.Reading.{SectionRead, of_blocks, of_filters, of_index, whole_answer, IsIndexRead, RefusesIndex, IsBlockRead, RefusesBlocks, block_start, blocks_size}
use Rattle.slate_db.specs.Installs.{root}

pub record Asking : Type 0 where
  pub policies : List Policy
  pub query : FilterQuery

-- ---- the reads of a table

abbrev pub filters_act : SsTableHandle → Option (List ℕ) → Act
filters_act h given = Act.read (path_of root h.id.0) h.info.filter_offset h.info.filter_len given

abbrev pub index_act : SsTableHandle → Option (List ℕ) → Act
index_act h given = Act.read (path_of root h.id.0) h.info.index_offset h.info.index_len given

abbrev pub blocks_act : SsTableHandle → List (ℕ × List ℕ) → ℕ → ℕ → Option (List ℕ) → Act
blocks_act h entries first stop given = Act.read (path_of root h.id.0) (block_start h.info.filter_offset entries first) (blocks_size h.info.filter_offset entries first stop) given

-- nothing is read where there are no policies or no filters
abbrev pub LetsThrough : Encode → Asking → SsTableHandle → List Act → Type 0
LetsThrough decode by h acts =
    ((asks_filters by.policies h.info.filter_len ≡ false) × (acts ≡ []))
    ⊎ ((asks_filters by.policies h.info.filter_len ≡ true) × ((given : Option (List ℕ)) × (acts ≡ filters_act h given ∷ [])
    × IsAsked decode by.policies by.query (of_filters h (whole_answer h.info.filter_len given)) true))

pub record Passed (decode : Encode) (by : Asking) (h : SsTableHandle) (acts : List Act) (means : List Act → Type 0) : Type 0 where
  pub filters : List Act
  pub lets : LetsThrough decode by h filters
  pub opened : List Act
  pub are : acts ≡ filters ++ opened
  pub meant : means opened

pub record IsOpened (decode : Encode) (h : SsTableHandle) (acts : List Act) : Type 0 where
  pub index : Option (List ℕ)
  pub entries : List (ℕ × List ℕ)
  pub read : IsIndexRead decode h.info.filter_offset (of_index h (whole_answer h.info.index_len index)) entries
  pub first : ℕ
  pub stop : ℕ
  pub order : first ≤ stop
  pub within : stop ≤ length entries
  pub blocks : Option (List ℕ)
  pub are : acts ≡ index_act h index ∷ blocks_act h entries first stop blocks ∷ []

abbrev pub section_at : {decode : Encode} {h : SsTableHandle} {acts : List Act} → IsOpened decode h acts → ℕ → SectionRead
section_at {h} o i = of_blocks h o.entries o.first (whole_answer (blocks_size h.info.filter_offset o.entries o.first o.stop) o.blocks) i

pub record HasBlock (decode : Encode) (h : SsTableHandle) (acts : List Act) (block : Block) : Type 0 where
  pub table : IsOpened decode h acts
  pub i : ℕ
  pub from : table.first ≤ i
  pub upto : i < table.stop
  pub read : IsBlockRead decode (section_at table i) block

-- ---- rows

abbrev pub IsRowOf : ℕ → Block → RowEntry → Type 0
IsRowOf version block r = EachIsAByte block.body × (reads : List RowRead) × (block_reads version block.body block.offsets.items ≡ Ok reads) × Contains reads (Ok r)

abbrev pub RefusesRow : ℕ → Block → SlateDBError → Type 0
RefusesRow version block e =
    (block_reads version block.body block.offsets.items ≡ Err e)
    ⊎ ((reads : List RowRead) × (block_reads version block.body block.offsets.items ≡ Ok reads) × Contains reads (Err e))

abbrev pub HasRowRead : Encode → SsTableHandle → List Act → RowEntry → Type 0
HasRowRead decode h acts r = (block : Block) × HasBlock decode h acts block × IsRowOf h.format_version block r

abbrev pub HasRow : Encode → Asking → SsTableHandle → List Act → RowEntry → Type 0
HasRow decode by h acts r = Passed decode by h acts (λ opened. HasRowRead decode h opened r)

-- ---- refusals

abbrev pub IsUnreadable : SlateDBError → Type 0
IsUnreadable (CorruptTable place) = Unit {0}
IsUnreadable (ChecksumMismatch stored computed) = Unit {0}
IsUnreadable (InvalidRowFlags bits) = Unit {0}
IsUnreadable (InvalidFilterBlock len) = Unit {0}
IsUnreadable e = ⊥

abbrev pub RefusesIndexRead : Encode → SsTableHandle → List Act → SlateDBError → Type 0
RefusesIndexRead decode h acts e =
    (given : Option (List ℕ)) × (acts ≡ index_act h given ∷ []) × RefusesIndex decode h.info.filter_offset (of_index h (whole_answer h.info.index_len given)) e

abbrev pub RefusesBlocksRead : Encode → SsTableHandle → List Act → SlateDBError → Type 0
RefusesBlocksRead decode h acts e =
    ((table : IsOpened decode h acts) × RefusesBlocks decode (section_at table) table.first table.stop e)
    ⊎ ((block : Block) × HasBlock decode h acts block × RefusesRow h.format_version block e)

abbrev pub ShowsRead : Encode → SsTableHandle → List Act → SlateDBError → Type 0
ShowsRead decode h acts e = IsUnreadable e × (RefusesIndexRead decode h acts e ⊎ RefusesBlocksRead decode h acts e)

abbrev pub RefusesFiltersRead : Encode → Asking → SsTableHandle → List Act → SlateDBError → Type 0
RefusesFiltersRead decode by h acts e =
    (asks_filters by.policies h.info.filter_len ≡ true) × ((given : Option (List ℕ)) × (acts ≡ filters_act h given ∷ [])
    × RefusesQuery decode by.policies by.query (of_filters h (whole_answer h.info.filter_len given)) e)

abbrev pub Shows : Encode → Asking → SsTableHandle → List Act → SlateDBError → Type 0
Shows decode by h acts e =
    (IsUnreadable e × RefusesFiltersRead decode by h acts e) ⊎ Passed decode by h acts (λ opened. ShowsRead decode h opened e)

-- ---- of several tables

pub record BringsRow (decode : Encode) (by : Asking) (upto : ℕ) (hs : List SsTableHandle) (reads : List Act) (r : RowEntry) : Type 0 where
  pub table : SsTableHandle
  pub among : Contains hs table
  pub earlier : List Act
  pub acts : List Act
  pub later : List Act
  pub split : reads ≡ earlier ++ (acts ++ later)
  pub row : HasRow decode by table acts r
  pub asked : by.query.target ≡ Point r.key
  pub within : r.seq ≤ upto

abbrev pub BringsRows : Encode → Asking → ℕ → List SsTableHandle → List RowEntry → List RowEntry → List Act → Type 0
BringsRows decode by upto hs newer all reads = (more : List RowEntry) × (all ≡ newer ++ more) × AllByRecursion (BringsRow decode by upto hs reads) more

pub record ShowsDamage (decode : Encode) (by : Asking) (hs : List SsTableHandle) (reads : List Act) (e : SlateDBError) : Type 0 where
  pub table : SsTableHandle
  pub among : Contains hs table
  pub earlier : List Act
  pub last : List Act
  pub split : reads ≡ earlier ++ last
  pub shown : Shows decode by table last e
