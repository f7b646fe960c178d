-- What a get reads of tables. Each act is a read, as the store answered it; h: what is kept of a table
--     HasPlace place start len answer      a range was returned that holds the section
--     Covers act path place      the act is a read of that object which returned such a range
--     ReadsKey ..      a block was read that holds a row of the key
--     ReadsFiltersFirst ..      no block was read of a table whose filters weren't read before, or deny the query
--     Asks by before after c      where policies are set, so were the reads of a call that the tables answered which the journal names
--     Finds k needs before after c result      where the fold needs these tables, and they answered, a call that is Ok read such a block
--     takes_flushed s rows      the fold of rows takes one of a commit that was flushed
--     needs_tables r s n ops k      the fold that answers does so
--     IsReadOf h act, IsFiltersRead h act      the act is a read of the table, or of its filters
--     IsLetThrough decode by h before      where the table's filters are asked, they were read before, and let the query through
--     IsBehindFilters decode by hs before act      the act is a read of the filters of one of the tables, or of one that is let through
--     AreBehindFilters decode by hs reads      each of the reads is one, behind those before it
use Rattle.std.specs.Prelude.{◌≡◌, ◌≢◌, ◌⊎◌, ℕ, ◌+◌, ◌<◌, ◌≤◌, nat_le, Bool, true, false, List, [], ◌∷◌, ◌++◌, map, length, Contains, slice_get, Option, Some, IfOk, Result, bytes_eq}
use Rattle.std.specs.List.{list_any}
use Rattle.slate_types.specs.declared.error.SlateDBError.{SlateDBError}
use Rattle.slate_types.specs.declared.types.RowEntry.{RowEntry}
use Rattle.slate_types.specs.declared.types.Ulid.{Ulid}
use Rattle.slate_types.specs.Fold.{taken}
use Rattle.slate_types.specs.World.{Section}
use Rattle.slate_types.specs.Outside.{Act, Reach}
use Rattle.slate_types.specs.World.{Made}
use Rattle.slate_filter.specs.Policy.{is_denied}
use Rattle.slate_table.specs.declared.info.SsTableHandle.{SsTableHandle}
use Rattle.slate_table.specs.Filtered.{asks_filters, IsAsked}
use Rattle.slate_table.specs.Parts.{Encode}
use Rattle.slate_table.specs.Paths.{path_of}
use Rattle.slate_table.specs.Reading.{of_filters, whole_answer}
use Rattle.slate_table.specs.Table.{IsTableOf, block_places, filter_place}
use Rattle.slate_mem.specs.Batch.{Ops, kept}
use Rattle.slate_mem.specs.RowOf.{own_row}
use Rattle.slate_txn.specs.State.{Rules, State}
use Rattle.slate_txn.specs.Reads.{key_rows, up_to}
use Rattle.slate_db.specs.Installs.{root, tables_of}
use Rattle.slate_db.specs.Model.{CoreModel}
use Rattle.slate_db.specs.Readable.{IsAnswered}
use Rattle.slate_db.specs.Shown.{Asking, filters_act}

pub record HasPlace (place : Section) (start len : ℕ) (answer : Option (List ℕ)) : Type 0 where
  pub bytes : List ℕ
  pub returned : answer ≡ Some bytes
  pub from : start ≤ place.at
  pub upto : place.at + place.len ≤ start + len

abbrev pub Covers : Act → List ℕ → Section → Type 0
Covers (Act.read at start len answer) path place = (at ≡ path) × HasPlace place start len answer
Covers _ path place = ⊥

abbrev pub holds_key : List ℕ → List RowEntry → Bool
holds_key k rows = list_any (λ r. bytes_eq r.key k) rows

-- a read of a block that holds a row of the key; tables by id and bytes
pub record ReadsKey (encode : Encode) (k : List ℕ) (tables : List (Ulid × List ℕ)) (reads : List Act) : Type 0 where
  pub table : Ulid × List ℕ
  pub among : Contains tables table
  pub version : ℕ
  pub blocks : List (List RowEntry)
  pub filters : List (List ℕ × List ℕ)
  pub is : IsTableOf encode table.1 version table.0.0 blocks filters
  pub block : ℕ
  pub rows : List RowEntry
  pub place : Section
  pub at_block : slice_get blocks block ≡ Some rows
  pub at_place : slice_get (block_places encode version table.0.0 blocks) block ≡ Some place
  pub holds : holds_key k rows ≡ true
  pub act : Act
  pub done : Contains reads act
  pub covers : Covers act (path_of root table.0.0) place

-- a read of a block of a table with a filter section stands behind one of that section, and no policy denies the query by it
abbrev pub ReadsFiltersFirst : Encode → Asking → List (Ulid × List ℕ) → List Act → Type 0
ReadsFiltersFirst encode by tables reads =
    (before : List Act) (act : Act) (after : List Act) → reads ≡ before ++ (act ∷ after) →
    (table : Ulid × List ℕ) → Contains tables table →
    (version : ℕ) (blocks : List (List RowEntry)) (filters : List (List ℕ × List ℕ)) → IsTableOf encode table.1 version table.0.0 blocks filters →
    0 < length filters → (place : Section) → Contains (block_places encode version table.0.0 blocks) place → Covers act (path_of root table.0.0) place →
    ((asked : Act) × Contains before asked × Covers asked (path_of root table.0.0) (filter_place encode version table.0.0 blocks filters)) × (is_denied by.policies filters by.query ≡ false)

-- ---- of a call

abbrev pub Asks : Asking → Reach → Reach → CoreModel → Type 0
Asks by before after c = IsAnswered by.policies before after c → by.policies ≢ [] → Made before after (ReadsFiltersFirst before.meaning.encode by (tables_of c.events))

-- needs: the fold takes the row of a commit at or below the last flush
abbrev pub Finds : {A : Type 0} → Asking → List ℕ → Bool → Reach → Reach → CoreModel → Result A SlateDBError → Type 0
Finds by k needs before after c result = IsAnswered by.policies before after c → needs ≡ true → IfOk result (λ a. Made before after (ReadsKey before.meaning.encode k (tables_of c.events)))

-- own rows have no sequence of a commit
abbrev pub takes_flushed : State → List RowEntry → Bool
takes_flushed s rows = list_any (λ row. nat_le row.seq s.flushed) (taken rows)

-- n: the last sequence that the reader sees; ops: its own operations, none for a snapshot or a view
abbrev pub needs_tables : Rules → State → ℕ → Ops → List ℕ → Bool
needs_tables r s n ops k = takes_flushed s (key_rows r k (up_to n s.commits) ++ map (own_row k) (kept ops k))

-- ---- of the tables whose infos were kept

abbrev pub IsReadOf : SsTableHandle → Act → Type 0
IsReadOf h (Act.read path start len answer) = path ≡ path_of root h.id.0
IsReadOf h _ = ⊥

abbrev pub IsFiltersRead : SsTableHandle → Act → Type 0
IsFiltersRead h act = (given : Option (List ℕ)) × (act ≡ filters_act h given)

-- before: the reads of the call up to there
abbrev pub IsLetThrough : Encode → Asking → SsTableHandle → List Act → Type 0
IsLetThrough decode by h before = asks_filters by.policies h.info.filter_len ≡ true →
    (given : Option (List ℕ)) × Contains before (filters_act h given) × IsAsked decode by.policies by.query (of_filters h (whole_answer h.info.filter_len given)) true

abbrev pub IsBehindFilters : Encode → Asking → List SsTableHandle → List Act → Act → Type 0
IsBehindFilters decode by hs before act = (h : SsTableHandle) × Contains hs h × (IsFiltersRead h act ⊎ (IsReadOf h act × IsLetThrough decode by h before))

abbrev pub AreBehindFilters : Encode → Asking → List SsTableHandle → List Act → Type 0
AreBehindFilters decode by hs reads = (before : List Act) (act : Act) (after : List Act) → reads ≡ before ++ (act ∷ after) → IsBehindFilters decode by hs before act
