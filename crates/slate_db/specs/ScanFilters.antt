-- What a scan asks the filters of tables, and which tables these leave to it.
--     scan_query range prefix context      the query of a scan: for the key of a range that is a point, else for its prefix, where it has one
--     Covers query range      each key of the range matches the query, where there is one
--     AreLeft range hs layers left      some of these tables are left; of the others no row is in the range
--     AreRunsLeft range runs groups left      the same of the tables of each run; a run of which none is left may be left out
--     AddsRun one old new      a run is added to these, where it has any table
--     IsLetIn decode policies query h reads, AreLetIn decode policies query hs reads      where the query is one and the table's filters are asked, the reads have these, and they let it through; and the same of several tables
--     ShowsFilters decode policies query hs reads e      the filters of one of these tables were read, and they are refused, or the bytes of one that was asked
--     IsAskingRead hs act      the act is a read of the filters of one of these tables
--     AsksOf hs before after means      a call made reads of these alone, and they mean this
--     AsksTable policies query before after range h result
--                 a call tells whether a table is left: else no row of it is in the range
--     AddsLeft policies query before after range h old new, TablesAreLeft policies query before after range hs left, RunsAreLeft policies query before after range runs left
--                 a call let a table in and left it, or its keys don't reach the range, or the filters that were read deny it; and the same of several tables, and of runs
--     FailsAsking policies query before after hs e      a call that asked was refused, by a fault or by what such filters show
use Rattle.std.specs.Prelude.{◌≡◌, ◌≢◌, ◌⊎◌, ℕ, Bool, true, false, if◌then◌else◌, List, [], ◌∷◌, ◌++◌, Contains, Option, Some, None, Result, IfOk, OnOk}
use Rattle.std.specs.List.{AllByRecursion}
use Rattle.slate_types.specs.declared.bytes_range.BytesRange.{BytesRange}
use Rattle.slate_types.specs.declared.error.SlateDBError.{SlateDBError}
use Rattle.slate_types.specs.declared.filter_policy.FilterContext.{FilterContext}
use Rattle.slate_types.specs.declared.filter_policy.FilterQuery.{FilterQuery}
use Rattle.slate_types.specs.declared.filter_policy.PrefixTarget.TheVariants.{Prefix}
use Rattle.slate_types.specs.Keys.{in_range, point_of}
use Rattle.slate_types.specs.Outside.{Act, IsFault, Meaning, Objects, Reach}
use Rattle.slate_types.specs.World.{Made}
use Rattle.slate_filter.specs.Policy.{IsOf, Policy}
use Rattle.slate_mem.specs.Table.{ranged}
use Rattle.slate_read.specs.declared.sorted_run.SortedRun.{SortedRun}
use Rattle.slate_table.specs.declared.info.SsTableHandle.{SsTableHandle}
use Rattle.slate_table.specs.Filtered.{RefusesQuery, asks_filters, point_query}
use Rattle.slate_table.specs.Parts.{Encode}
use Rattle.slate_table.specs.Reading.{of_filters, whole_answer}
use Rattle.slate_db.specs.Answered.{AnswersFrom}
use Rattle.slate_db.specs.Asked.{IsFiltersRead, IsLetThrough}
use Rattle.slate_db.specs.Checked.{ChecksFrom}
use Rattle.slate_db.specs.Installs.{handles_of}
use Rattle.slate_db.specs.Lookup.{AreFilteredAs, AreStoredAs, IsStoredAs}
use Rattle.slate_db.specs.Model.{Rows}
use Rattle.slate_db.specs.Scanned.{AreStoredRuns}
use Rattle.slate_db.specs.Shown.{IsUnreadable, filters_act}

-- ---- what is asked

abbrev pub query_for : Option (List ℕ) → Option (List ℕ) → Option FilterContext → Option FilterQuery
query_for (Some k) prefix context = Some (point_query k context)
query_for None (Some p) context = Some (record { target = Prefix p; context = context })
query_for None None context = None

abbrev pub scan_query : BytesRange → Option (List ℕ) → Option FilterContext → Option FilterQuery
scan_query range prefix context = query_for (point_of range) prefix context

abbrev pub Covers : Option FilterQuery → BytesRange → Type 0
Covers None range = Unit {0}
Covers (Some query) range = (k : List ℕ) → in_range range k ≡ true → IsOf query.target k

-- ---- what is left

abbrev pub AreLeft : BytesRange → List SsTableHandle → List Rows → List SsTableHandle → Type 0
AreLeft range [] [] left = left ≡ []
AreLeft range (h ∷ hs) (rows ∷ layers) left =
    ((later : List SsTableHandle) × (left ≡ h ∷ later) × AreLeft range hs layers later) ⊎ ((ranged range rows ≡ []) × AreLeft range hs layers left)
AreLeft range [] (rows ∷ layers) left = ⊥
AreLeft range (h ∷ hs) [] left = ⊥

abbrev pub AreRunsLeft : BytesRange → List SortedRun → List (List Rows) → List SortedRun → Type 0
AreRunsLeft range [] [] left = left ≡ []
AreRunsLeft range (run ∷ runs) (layers ∷ groups) left =
    ((one : SortedRun) × (later : List SortedRun) × (left ≡ one ∷ later) × AreLeft range run.tables.items layers one.tables.items × AreRunsLeft range runs groups later)
    ⊎ (AreLeft range run.tables.items layers [] × AreRunsLeft range runs groups left)
AreRunsLeft range [] (layers ∷ groups) left = ⊥
AreRunsLeft range (run ∷ runs) [] left = ⊥

abbrev pub AddsRun : SortedRun → List SortedRun → List SortedRun → Type 0
AddsRun one old new = ((one.tables.items ≡ []) × (new ≡ old)) ⊎ ((one.tables.items ≢ []) × (new ≡ old ++ (one ∷ [])))

-- ---- what is let in

abbrev pub IsLetIn : Encode → List Policy → Option FilterQuery → SsTableHandle → List Act → Type 0
IsLetIn decode policies query h reads = (asked : FilterQuery) → query ≡ Some asked → IsLetThrough decode (record { policies = policies; query = asked }) h reads

abbrev pub AreLetIn : Encode → List Policy → Option FilterQuery → List SsTableHandle → List Act → Type 0
AreLetIn decode policies query hs reads = (h : SsTableHandle) → Contains hs h → IsLetIn decode policies query h reads

-- ---- what is refused

pub record ShowsFilters (decode : Encode) (policies : List Policy) (query : Option FilterQuery) (hs : List SsTableHandle) (reads : List Act) (e : SlateDBError) : Type 0 where
  pub table : SsTableHandle
  pub among : Contains hs table
  pub asked : FilterQuery
  pub is : query ≡ Some asked
  pub asks : asks_filters policies table.info.filter_len ≡ true
  pub given : Option (List ℕ)
  pub read : Contains reads (filters_act table given)
  pub kind : IsUnreadable e
  pub refuses : RefusesQuery decode policies asked (of_filters table (whole_answer table.info.filter_len given)) e

-- ---- calls that ask

abbrev pub IsAskingRead : List SsTableHandle → Act → Type 0
IsAskingRead hs act = (table : SsTableHandle) × Contains hs table × IsFiltersRead table act

abbrev pub AsksOf : List SsTableHandle → Reach → Reach → (List Act → Type 0) → Type 0
AsksOf hs before after means = Made before after (λ reads. AllByRecursion (IsAskingRead hs) reads × means reads)

pub record AsksTable (policies : List Policy) (query : Option FilterQuery) (before after : Reach)
    (range : BytesRange) (h : SsTableHandle) (result : Result Bool SlateDBError) : Type 0 where
  pub denied : (rows : Rows) (os : Objects) → IsStoredAs before.meaning os h rows →
      AreFilteredAs policies before.meaning os (h ∷ []) → AnswersFrom os before after →
      IfOk result (λ left. left ≡ false → ranged range rows ≡ [])
  pub checked : (rows : Rows) (os : Objects) → IsStoredAs before.meaning os h rows →
      OnOk result (ChecksFrom os before after)
  pub let_in : IfOk result (λ left. AsksOf (h ∷ []) before after (λ reads.
      left ≡ true → IsLetIn before.meaning.decode policies query h reads))

pub record AddsLeft (policies : List Policy) (query : Option FilterQuery) (before after : Reach) (range : BytesRange) (h : SsTableHandle) (old new : List SsTableHandle) : Type 0 where
  pub kept : Bool
  pub are : new ≡ (if kept then old ++ (h ∷ []) else old)
  pub let_in : AsksOf (h ∷ []) before after (λ reads. kept ≡ true → IsLetIn before.meaning.decode policies query h reads)
  pub denied : (rows : Rows) (os : Objects) → IsStoredAs before.meaning os h rows → AreFilteredAs policies before.meaning os (h ∷ []) → AnswersFrom os before after → kept ≡ false → ranged range rows ≡ []
  pub checked : (rows : Rows) (os : Objects) → IsStoredAs before.meaning os h rows → ChecksFrom os before after

pub record TablesAreLeft (policies : List Policy) (query : Option FilterQuery) (before after : Reach) (range : BytesRange) (hs left : List SsTableHandle) : Type 0 where
  pub among : (h : SsTableHandle) → Contains left h → Contains hs h
  pub let_in : AsksOf hs before after (λ reads. AreLetIn before.meaning.decode policies query left reads)
  pub others : (layers : List Rows) (os : Objects) → AreStoredAs before.meaning os hs layers → AreFilteredAs policies before.meaning os hs → AnswersFrom os before after → AreLeft range hs layers left
  pub checked : (layers : List Rows) (os : Objects) → AreStoredAs before.meaning os hs layers → ChecksFrom os before after

pub record RunsAreLeft (policies : List Policy) (query : Option FilterQuery) (before after : Reach) (range : BytesRange) (runs left : List SortedRun) : Type 0 where
  pub among : (h : SsTableHandle) → Contains (handles_of left) h → Contains (handles_of runs) h
  pub let_in : AsksOf (handles_of runs) before after (λ reads. AreLetIn before.meaning.decode policies query (handles_of left) reads)
  pub others : (groups : List (List Rows)) (os : Objects) → AreStoredRuns before.meaning os runs groups → AreFilteredAs policies before.meaning os (handles_of runs) → AnswersFrom os before after → AreRunsLeft range runs groups left
  pub checked : (groups : List (List Rows)) (os : Objects) → AreStoredRuns before.meaning os runs groups → ChecksFrom os before after

-- each is a table of some rows
abbrev pub AreTablesThere : Meaning → Objects → List SsTableHandle → Type 0
AreTablesThere m os hs = AllByRecursion (λ h. (rows : Rows) × IsStoredAs m os h rows) hs

pub record FailsAsking (policies : List Policy) (query : Option FilterQuery) (before after : Reach) (hs : List SsTableHandle) (e : SlateDBError) : Type 0 where
  pub undamaged : (os : Objects) → AreTablesThere before.meaning os hs → AreFilteredAs policies before.meaning os hs → AnswersFrom os before after → IsFault before after e
  pub cause : IsFault before after e ⊎ Made before after (λ reads. ShowsFilters before.meaning.decode policies query hs reads e)
  pub asks : Made before after (AllByRecursion (IsAskingRead hs))
