-- What reads of a table find, in a call that asks for more.
--     reader_reach store transformer reader      what a reader reaches
--     Asked      what was reached when the asking began, the root of tables, and the acts that the
--                store tells now
--     Within before after P      P holds of two moments, of which none is before the first or after
--                            the last
--     OpensTo, RefusesTable      a table is opened, or refused
--     FindsStats, FindsEntries, FindsFilters, FindsBlock, FindsRowsOf      the parts of one that
--                            was opened: its statistics, its index, its filters, a block, the rows
--                            of a block
--     RefusesStatsOf, RefusesIndexOf, RefusesFiltersOf, RefusesBlockAt, RefusesRowsOf      the same
--                            parts, refused
use Rattle.std.specs.Prelude.{◌≡◌, ◌⊎◌, ℕ, ◌+◌, List, Option, string_bytes, None}
use Rattle.slate_types.specs.declared.block_transformer.BlockTransformer as transformers
use Rattle.slate_types.specs.declared.error.SlateDBError.{SlateDBError}
use Rattle.slate_types.specs.declared.types.RowEntry.{RowEntry}
use Rattle.slate_types.specs.Faults.{faults_of}
use Rattle.slate_types.specs.Outside.{Act, AddsReads, Objects, Reach}
use Rattle.slate_store.specs.declared.store.Store as stores
use Rattle.slate_block.specs.declared.block.Block.{Block}
use Rattle.slate_store.specs.Env.{changed_by}
use Rattle.slate_table.specs.declared.info.SsTableHandle.{SsTableHandle}
use Rattle.slate_table.specs.declared.sst_reader.SstReader.{SstReader}
use Rattle.slate_table.specs.Decoded.{Stats}
use Rattle.slate_table.specs.FileReading.{AreRowsRead, RefusesRows}
use Rattle.slate_table.specs.InfoReading.{seen_info}
use Rattle.slate_table.specs.Opening.{IsOpened, RefusesOpen}
use Rattle.slate_table.specs.Paths.{path_of}
use Rattle.slate_table.specs.Reading.{AreFiltersRead, IsBlockRead, IsIndexRead, IsStatsRead}
use Rattle.slate_table.specs.Reading.{ReadsBlocks, ReadsFilters, ReadsIndex, ReadsStats}
use Rattle.slate_table.specs.Reading.{RefusesBlock, RefusesFilters, RefusesIndex, RefusesStats}
use Rattle.slate_table.specs.Reading.{of_block, of_filters, of_index, of_stats}

-- a reader has no operator, and owns its store
abbrev pub reader_reach : {S T : Type 0} → stores.Ghosts S → transformers.Ghosts T →
    SstReader S T → Reach
reader_reach s t r = record {
  objects = s.objects r.store;
  acts = s.acts r.store;
  meaning = record {
    combine = None;
    encode = changed_by t.encoded r.transformer;
    decode = changed_by t.decoded r.transformer;
  };
  faults = record {
    store = s.faults r.store;
    operator = 0;
    transformer = faults_of t.faults r.transformer;
  };
  store = 0;
}

pub record Asked : Type 0 where
  pub begun : Reach
  pub root : List ℕ
  pub acts : Option (List Act)

abbrev pub asked_of : Reach → List ℕ → Option (List Act) → Asked
asked_of begun root acts = record { begun = begun; root = root; acts = acts }

abbrev pub Within : Option (List Act) → Option (List Act) →
    (Option (List Act) → Option (List Act) → Type 0) → Type 0
Within before after P = (a : Option (List Act)) × (b : Option (List Act)) × AddsReads before a
    × P a b × AddsReads b after

-- P: of what the store tells, what the transformer undoes, and the moments of a read
abbrev pub Finds : Asked →
    (Option Objects → (List ℕ → List ℕ) → Option (List Act) → Option (List Act) → Type 0) → Type 0
Finds w P = Within w.begun.acts w.acts (P w.begun.objects w.begun.meaning.decode)

-- ---- the table

abbrev pub OpensTo : Asked → SsTableHandle → Type 0
OpensTo w h = Finds w
    (λ objects decode a b. IsOpened objects a b (path_of w.root h.id.0) h.id.0 h.format_version
    (seen_info h.info))

abbrev pub RefusesTable : Asked → ℕ → SlateDBError → Type 0
RefusesTable w id e =
    Finds w (λ objects decode a b. RefusesOpen objects a b (path_of w.root id) id e)

-- ---- its parts

abbrev pub FindsStats : Asked → SsTableHandle → Stats → Type 0
FindsStats w h stats =
    Finds w (λ objects decode a b. ReadsStats objects a b w.root h
    (λ answer. IsStatsRead decode (of_stats h answer) stats))

abbrev pub RefusesStatsOf : Asked → SsTableHandle → SlateDBError → Type 0
RefusesStatsOf w h e =
    Finds w (λ objects decode a b. ReadsStats objects a b w.root h
    (λ answer. RefusesStats decode (of_stats h answer) e))

abbrev pub FindsEntries : Asked → SsTableHandle → List (ℕ × List ℕ) → Type 0
FindsEntries w h entries =
    Finds w (λ objects decode a b. ReadsIndex objects a b w.root h
    (λ answer. IsIndexRead decode h.info.filter_offset (of_index h answer) entries))

abbrev pub RefusesIndexOf : Asked → SsTableHandle → SlateDBError → Type 0
RefusesIndexOf w h e =
    Finds w (λ objects decode a b. ReadsIndex objects a b w.root h
    (λ answer. RefusesIndex decode h.info.filter_offset (of_index h answer) e))

-- a section of length 0 is none, and isn't read
abbrev pub FindsFilters : Asked → SsTableHandle → List (List ℕ × List ℕ) → Type 0
FindsFilters w h filters = (h.info.filter_len ≡ 0)
    ⊎ Finds w (λ objects decode a b. ReadsFilters objects a b w.root h
    (λ answer. AreFiltersRead decode (of_filters h answer) filters))

abbrev pub RefusesFiltersOf : Asked → SsTableHandle → SlateDBError → Type 0
RefusesFiltersOf w h e =
    Finds w (λ objects decode a b. ReadsFilters objects a b w.root h
    (λ answer. RefusesFilters decode (of_filters h answer) e))

-- the bytes of a block, which are a block's, and its rows
abbrev pub FindsBlock : Asked → SsTableHandle → List (ℕ × List ℕ) → ℕ → Block → Type 0
FindsBlock w h entries block found =
    Finds w (λ objects decode a b. ReadsBlocks objects a b w.root h entries block (block + 1)
    (λ answer. IsBlockRead decode (of_block h entries block answer) found))

abbrev pub RefusesBlockAt : Asked → SsTableHandle → List (ℕ × List ℕ) → ℕ → SlateDBError → Type 0
RefusesBlockAt w h entries block e =
    Finds w (λ objects decode a b. ReadsBlocks objects a b w.root h entries block (block + 1)
    (λ answer. RefusesBlock decode (of_block h entries block answer) e))

abbrev pub FindsRowsOf : Asked → SsTableHandle → List (ℕ × List ℕ) → ℕ → List RowEntry → Type 0
FindsRowsOf w h entries block rows =
    Finds w (λ objects decode a b. ReadsBlocks objects a b w.root h entries block (block + 1)
    (λ answer. AreRowsRead decode h.format_version (of_block h entries block answer) rows))

abbrev pub RefusesRowsOf : Asked → SsTableHandle → List (ℕ × List ℕ) → ℕ → SlateDBError → Type 0
RefusesRowsOf w h entries block e =
    Finds w (λ objects decode a b. ReadsBlocks objects a b w.root h entries block (block + 1)
    (λ answer. RefusesRows decode h.format_version (of_block h entries block answer) e))
