-- What a check of a table says.
--     seen_summary s      a summary as the code has it
--     HasBlocks w h entries blocks      the blocks of a table, as far as they were read, have these
--                            rows
--     HasParts w h stats entries      a table that was opened, and its statistics, its index and
--                            its filters
--     IsWhole w id s      every part of the table was read, and they agree
--     IsFlawed w id flaw      a part is refused, or parts disagree
--     IsChecked w id checked      what the check says is what it found
use Rattle.std.specs.Prelude.{◌≡◌, ◌⊎◌, ◌<◌, ℕ, List, [], ◌∷◌, ◌++◌, length, slice_get, Option}
use Rattle.std.specs.Prelude.{Some, None, Result, Ok, Err}
use Rattle.slate_types.specs.declared.error.SlateDBError.{SlateDBError}
use Rattle.slate_types.specs.declared.error.SlateDBError.TheVariants as errors
use Rattle.slate_types.specs.declared.types.RowEntry.{RowEntry}
use Rattle.slate_table.specs.declared.info.SsTableHandle.{SsTableHandle}
use Rattle.slate_table.specs.Decoded.{Stats}
use Rattle.slate_table.specs.FileLaws.{table_stats}
use Rattle.slate_table.specs.Reading.{block_start}
use Rattle.slate_table.specs.Table.{some_first, some_last}
use Rattle.slate_tables.specs.declared.check.Checked.{Checked}
use Rattle.slate_tables.specs.declared.check.Checked.TheVariants as checks
use Rattle.slate_tables.specs.declared.check.Flaw.{Flaw}
use Rattle.slate_tables.specs.declared.check.Part.{Part}
use Rattle.slate_tables.specs.declared.check.Part.TheVariants as parts
use Rattle.slate_tables.specs.declared.check.Tallied.{Tallied}
use Rattle.slate_tables.specs.declared.check.Tallied.TheVariants as tallies
use Rattle.slate_tables.specs.declared.tally.Tally.{Tally}
use Rattle.slate_tables.specs.declared.check.TableSummary.{TableSummary}
use Rattle.slate_tables.specs.Good.{AreGood, Summary, rows_of, summary_of}
use Rattle.slate_tables.specs.Tallies.{IsTally}
use Rattle.slate_tables.specs.Finds.{Asked, FindsEntries, FindsFilters, FindsRowsOf, FindsStats}
use Rattle.slate_tables.specs.Finds.{OpensTo, RefusesFiltersOf, RefusesIndexOf, RefusesRowsOf}
use Rattle.slate_tables.specs.Finds.{RefusesStatsOf, RefusesTable}

abbrev pub seen_summary : TableSummary → Summary
seen_summary s = record {
  version = s.version;
  rows = s.rows;
  least = s.least;
  greatest = s.greatest;
  first = s.first;
  last = s.last;
}

-- ---- what was read

abbrev pub HasBlocks : Asked → SsTableHandle → List (ℕ × List ℕ) → List (List RowEntry) → Type 0
HasBlocks w h entries blocks =
    (i : ℕ) (rows : List RowEntry) → slice_get blocks i ≡ Some rows → FindsRowsOf w h entries i rows

pub record HasParts (w : Asked) (h : SsTableHandle) (stats : Stats) (entries : List (ℕ × List ℕ)) :
    Type 0 where
  pub filters : List (List ℕ × List ℕ)
  pub opened : OpensTo w h
  pub has_stats : FindsStats w h stats
  pub has_index : FindsEntries w h entries
  pub has_filters : FindsFilters w h filters

-- each block
pub record IsRead (w : Asked) (h : SsTableHandle) (stats : Stats) (blocks : List (List RowEntry)) :
    Type 0 where
  pub entries : List (ℕ × List ℕ)
  pub parts : HasParts w h stats entries
  pub count : length blocks ≡ length entries
  pub each : HasBlocks w h entries blocks

-- ---- what is said

pub record IsWhole (w : Asked) (id : ℕ) (s : TableSummary) : Type 0 where
  pub table : SsTableHandle
  pub named : table.id.0 ≡ id
  pub blocks : List (List RowEntry)
  pub read : IsRead w table (table_stats blocks) blocks
  pub good : AreGood blocks
  pub first : table.info.first_entry ≡ some_first (rows_of blocks)
  pub last : table.info.last_entry ≡ some_last (rows_of blocks)
  pub summary : seen_summary s ≡ summary_of table.format_version (rows_of blocks)

-- the rows aren't those that statistics or info speak of
abbrev pub HasOtherStats : Asked → SsTableHandle → Type 0
HasOtherStats w h = (stats : Stats) × (blocks : List (List RowEntry)) × IsRead w h stats blocks
    × (stats ≡ table_stats blocks → ⊥)

abbrev pub HasOtherKeys : Asked → SsTableHandle → Type 0
HasOtherKeys w h = (stats : Stats) × (blocks : List (List RowEntry)) × IsRead w h stats blocks
    × (h.info.first_entry ≡ some_first (rows_of blocks) →
    h.info.last_entry ≡ some_last (rows_of blocks) → ⊥)

-- a block whose rows don't follow those before it, or whose counts don't fit
abbrev pub HasBadRows : Asked → SsTableHandle → List (ℕ × List ℕ) → ℕ → Type 0
HasBadRows w h entries n =
    (blocks : List (List RowEntry)) × (rows : List RowEntry) × (length blocks ≡ n)
    × HasBlocks w h entries (blocks ++ (rows ∷ [])) × (AreGood (blocks ++ (rows ∷ [])) → ⊥)

-- at: the offset that is said
abbrev pub IsFlawedIn : Asked → SsTableHandle → Part → Option ℕ → SlateDBError → Type 0
IsFlawedIn w h parts.Info at e = (at ≡ None) × HasOtherKeys w h
IsFlawedIn w h parts.Stats at e = (at ≡ Some h.info.stats_offset)
    × (RefusesStatsOf w h e ⊎ (h.info.stats_len ≡ 0) ⊎ HasOtherStats w h)
IsFlawedIn w h parts.Index at e = (at ≡ Some h.info.index_offset) × RefusesIndexOf w h e
IsFlawedIn w h parts.Filters at e =
    (at ≡ Some h.info.filter_offset) × (0 < h.info.filter_len) × RefusesFiltersOf w h e
IsFlawedIn w h (parts.Block n) at e =
    (entries : List (ℕ × List ℕ)) × FindsEntries w h entries × (n < length entries)
    × (at ≡ Some (block_start h.info.filter_offset entries n))
    × (RefusesRowsOf w h entries n e ⊎ HasBadRows w h entries n)

abbrev pub IsFlawed : Asked → ℕ → Flaw → Type 0
IsFlawed w id flaw =
    ((flaw.part ≡ parts.Info) × (flaw.offset ≡ None) × RefusesTable w id flaw.error)
    ⊎ ((h : SsTableHandle) × (h.id.0 ≡ id) × OpensTo w h
    × IsFlawedIn w h flaw.part flaw.offset flaw.error)

abbrev pub IsChecked : Asked → ℕ → Checked → Type 0
IsChecked w id (checks.Whole s) = IsWhole w id s
IsChecked w id (checks.Damaged flaw) = IsFlawed w id flaw

-- ---- how a check goes on

-- the errors that end a check
abbrev pub IsOutsideError : SlateDBError → Type 0
IsOutsideError e = (e ≡ errors.OutOfMemory) ⊎ (e ≡ errors.StoreFault)
    ⊎ (e ≡ errors.BlockTransformError)

-- the first n blocks, or a flaw of one of these
abbrev pub IsTallied : Asked → SsTableHandle → List (ℕ × List ℕ) → ℕ → Tallied → Type 0
IsTallied w h entries n (tallies.Good tally) = (blocks : List (List RowEntry)) × (length blocks ≡ n)
    × HasBlocks w h entries blocks × IsTally blocks tally
IsTallied w h entries n (tallies.Flawed flaw) = (m : ℕ) × (m < n) × (flaw.part ≡ parts.Block m)
    × (flaw.offset ≡ Some (block_start h.info.filter_offset entries m))
    × (RefusesRowsOf w h entries m flaw.error ⊎ HasBadRows w h entries m)

abbrev pub IsTallyOf : Result (Option Tally) SlateDBError → ℕ → Option ℕ → Tallied → Type 0
IsTallyOf added n at (tallies.Good tally) = added ≡ Ok (Some tally)
IsTallyOf added n at (tallies.Flawed flaw) =
    (added ≡ Ok None) × (flaw.part ≡ parts.Block n) × (flaw.offset ≡ at)

-- a fault ends the check, and anything else is a flaw of the part, of which this is made
abbrev pub Tells : {A : Type 0} → (Flaw → A) → Flaw → Result A SlateDBError → Type 0
Tells make flaw (Ok x) = (x ≡ make flaw) × (IsOutsideError flaw.error → ⊥)
Tells make flaw (Err e) = (e ≡ flaw.error) × IsOutsideError e
