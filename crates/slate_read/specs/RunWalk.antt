-- A walk over the tables of a run, one after another.
--     can_reach range info      by its first and its last key a table can hold a key of the range
--     reaches_start range last, reaches_end range first      the last key of a table isn't before the range, and the first not behind it, or the
--                                                            table names none
--     is_passed order key info      by one of these all keys of a table come before the key
--     end_key order info, is_end_passed order key end      the key of a table that comes last in the order; it comes before the key
--     waiting cursor      the tables that weren't opened, the next one first
--     rest_open, IsSoundOpen, refuses_open, bound_open      of the table that is open
--     RefusesOpen order x m reads e      `refuses_open` in any call
--     rest_waiting, AreHeld, RefusesWaiting      of the tables that weren't opened
--     IsCursorWithin x paths, IsRunWithin it paths      a walk over a run reads objects at these paths alone
--     rest_run, IsSoundRun, refuses_run, bound_run      of all, with the row that was read ahead
--     rows_ahead ahead      the row that was read ahead, where there is one
--     rest_of_run it w, IsSoundRunWalk it w, refuses_of_run      of a walk over a run
--     rest_run_in, sound_run_in, refuses_run_in, bound_run_in      the same by where the walk stands
--     IsTableOpened range m table reads open      a table is opened, by one read of its index
--     OpensTable range m table reads open      the same, where it is open then
--     OpensNext range m reads before some after      the next table is opened, where one is left
--     FindsRow order key before after x answer y      the first row behind those before a key is taken off the table that is open
--     IsOpenRising order x w      the table that is open is sound, and its rest comes in the order
--     is_next_passed order key tables      all keys of the first table come before the key
--     PassesOver order key before after      tables that the order puts before a key as a whole are passed over
--     IsGoingRun, IsNewRun, IsUnrefusedRun s      it goes on, wasn't begun, or wasn't refused
--     IsSameRun before after      it has the same range and order
--     KeepsRun e s      a refusal is kept, or want of memory in its place
--     StaysRun before at e after      it refuses, and stands as it stood, or keeps the refusal
--     StaysRunIn before at e after      the same of where it stands
use Rattle.std.specs.Prelude.{◌≡◌, ◌≢◌, ◌⊎◌, ℕ, ◌+◌, ◌*◌, Bool, true, false, ◌&&◌, List, [], ◌∷◌, ◌++◌, length, flat_map, Contains, Option, Some, None}
use Rattle.std.specs.List.{AllByRecursion}
use Rattle.slate_types.specs.declared.bytes_range.BytesRange.{BytesRange}
use Rattle.slate_types.specs.declared.error.SlateDBError.{SlateDBError}
use Rattle.slate_types.specs.declared.error.SlateDBError.TheVariants.{IteratorNotInitialized, OutOfMemory}
use Rattle.slate_types.specs.declared.types.RowEntry.{RowEntry}
use Rattle.slate_types.specs.declared.iter.IterationOrder.{IterationOrder}
use Rattle.slate_types.specs.declared.iter.IterationOrder.TheVariants.{Ascending, Descending}
use Rattle.slate_types.specs.Iteration.{IsInOrder, TakesRow, comes_before, drop_before}
use Rattle.slate_types.specs.Keys.{is_before_end, is_past_start}
use Rattle.slate_types.specs.Outside.{Act, Meaning, Reach}
use Rattle.slate_types.specs.Refusing.{IsDamage, NoMore}
use Rattle.slate_types.specs.World.{Kept, World, Checks, Made, Sees}
use Rattle.slate_table.specs.declared.info.SsTableHandle.{SsTableHandle}
use Rattle.slate_table.specs.declared.info.SsTableInfo.{SsTableInfo}
use Rattle.slate_merge.specs.Kept.{Copies}
use Rattle.slate_read.specs.declared.run_state.OpenTable.{OpenTable}
use Rattle.slate_read.specs.declared.run_state.RunCursor.{RunCursor}
use Rattle.slate_read.specs.declared.run_state.RunState.{RunState}
use Rattle.slate_read.specs.declared.run_state.RunState.TheVariants.{New, Going, Refused}
use Rattle.slate_read.specs.declared.run_state.RunWalk.{RunWalk}
use Rattle.slate_read.specs.TableWalk.{BeginsAt, IsIndexed, IsReadable, IsSoundCursor, RefusesUnread, bound_behind, max_blocks, max_reads, path_in, refuses_behind, rest_after, rest_covered}

-- ---- what a table's first and last key tell

abbrev pub reaches_start : BytesRange → Option (List ℕ) → Bool
reaches_start range None = true
reaches_start range (Some last) = is_past_start range.start last

abbrev pub reaches_end : BytesRange → Option (List ℕ) → Bool
reaches_end range None = true
reaches_end range (Some first) = is_before_end range.end first

-- a table that names no such key can hold any
abbrev pub can_reach : BytesRange → SsTableInfo → Bool
can_reach range info = reaches_start range info.last_entry && reaches_end range info.first_entry

abbrev pub end_key : IterationOrder → SsTableInfo → Option (List ℕ)
end_key Ascending info = info.last_entry
end_key Descending info = info.first_entry

abbrev pub is_end_passed : IterationOrder → List ℕ → Option (List ℕ) → Bool
is_end_passed order key None = false
is_end_passed order key (Some end) = comes_before order end key

abbrev pub is_passed : IterationOrder → List ℕ → SsTableInfo → Bool
is_passed order key info = is_end_passed order key (end_key order info)

-- ---- the table that is open

abbrev pub rest_open : IterationOrder → Option OpenTable → World → List RowEntry
rest_open order None w = []
rest_open order (Some open_table) w = rest_after open_table.table order open_table.cursor w

abbrev pub IsSoundOpen : IterationOrder → Option OpenTable → World → Type 0
IsSoundOpen order None w = Unit {0}
IsSoundOpen order (Some open_table) w = IsSoundCursor open_table.table order open_table.cursor w

abbrev pub RefusesOpen : IterationOrder → Option OpenTable → Meaning → List Act → SlateDBError → Type 0
RefusesOpen order None m reads e = ⊥
RefusesOpen order (Some open_table) m reads e = refuses_behind open_table.table order open_table.cursor m reads None e

abbrev pub refuses_open : IterationOrder → Option OpenTable → Meaning → List Act → Option (List ℕ) → SlateDBError → Type 0
refuses_open order x m reads at e = RefusesOpen order x m reads e

abbrev pub bound_open : Option OpenTable → ℕ
bound_open None = 0
bound_open (Some open_table) = bound_behind open_table.cursor

-- ---- those that weren't opened

abbrev pub rest_waiting : BytesRange → IterationOrder → List SsTableHandle → World → List RowEntry
rest_waiting range order tables w = flat_map (λ h. rest_covered range order (w.holds (path_in h))) tables

abbrev pub AreHeld : World → List SsTableHandle → Type 0
AreHeld w tables = AllByRecursion (λ h. (kept : Kept) × IsReadable w h kept) tables

abbrev pub RefusesWaiting : Meaning → IterationOrder → List SsTableHandle → List Act → SlateDBError → Type 0
RefusesWaiting m order tables reads e = (h : SsTableHandle) × Contains tables h × RefusesUnread m h order reads e

-- ---- all that is left

abbrev pub waiting : RunCursor → List SsTableHandle
waiting cursor = cursor.tables.items

abbrev pub rows_ahead : Option RowEntry → List RowEntry
rows_ahead None = []
rows_ahead (Some row) = row ∷ []

abbrev pub rest_run : BytesRange → IterationOrder → RunCursor → World → List RowEntry
rest_run range order x w = rows_ahead x.ahead ++ (rest_open order x.current w ++ rest_waiting range order (waiting x) w)

pub record IsSoundRun (range : BytesRange) (order : IterationOrder) (x : RunCursor) (w : World) : Type 0 where
  pub open_table : IsSoundOpen order x.current w
  pub held : AreHeld w (waiting x)
  pub rising : IsInOrder order (rest_run range order x w)

abbrev pub IsOpenWithin : Option OpenTable → List (List ℕ) → Type 0
IsOpenWithin None paths = Unit {0}
IsOpenWithin (Some open_table) paths = Contains paths (path_in open_table.table)

abbrev pub IsCursorWithin : RunCursor → List (List ℕ) → Type 0
IsCursorWithin x paths = IsOpenWithin x.current paths × AllByRecursion (λ h. Contains paths (path_in h)) (waiting x)

abbrev pub IsRunWithin : RunWalk → List (List ℕ) → Type 0
IsRunWithin it paths = IsCursorWithin it.cursor paths

-- by the reads from now on, a block of the table that is open, or the index or a block of another one
abbrev pub refuses_run : IterationOrder → RunCursor → Meaning → List Act → Option (List ℕ) → SlateDBError → Type 0
refuses_run order x m reads at e = refuses_open order x.current m reads at e ⊎ (IsDamage e × RefusesWaiting m order (waiting x) reads e)

abbrev pub bound_run : RunCursor → ℕ
bound_run x = length (rows_ahead x.ahead) + bound_open x.current + length x.tables.items * (max_blocks * max_reads)

-- ---- parts of a call

-- a table is opened, by one read of its index
pub record IsTableOpened (range : BytesRange) (m : Meaning) (table : SsTableHandle) (reads : List Act) (open_table : OpenTable) : Type 0 where
  pub same : open_table.table ≡ table
  pub entries : List (ℕ × List ℕ)
  pub read : IsIndexed m table reads entries
  pub at : BeginsAt range entries open_table.cursor

abbrev pub OpensTable : BytesRange → Meaning → SsTableHandle → List Act → Option OpenTable → Type 0
OpensTable range m table reads None = ⊥
OpensTable range m table reads (Some open_table) = IsTableOpened range m table reads open_table

-- the next table is opened, where one is left
abbrev pub OpensNext : BytesRange → Meaning → List Act → RunCursor → Bool → RunCursor → Type 0
OpensNext range m reads before false after = (before.tables.items ≡ []) × (reads ≡ []) × (after.tables.items ≡ []) × (after.current ≡ before.current) × (after.ahead ≡ before.ahead)
OpensNext range m reads before true after = (table : SsTableHandle) × (before.tables.items ≡ table ∷ after.tables.items) × OpensTable range m table reads after.current × (after.ahead ≡ before.ahead)

abbrev pub IsOpenRising : IterationOrder → Option OpenTable → World → Type 0
IsOpenRising order x w = IsSoundOpen order x w × IsInOrder order (rest_open order x w)

-- the first row behind those before a key is taken off the table that is open
pub record FindsRow (order : IterationOrder) (key : List ℕ) (before after : Reach) (x : Option OpenTable) (answer : Option RowEntry) (y : Option OpenTable) : Type 0 where
  pub rows : (w : World) → Sees w before after → IsOpenRising order x w → TakesRow (drop_before order key (rest_open order x w)) answer (rest_open order y w)
  pub still : (w : World) → Sees w before after → IsOpenRising order x w → IsOpenRising order y w
  pub checked : (w : World) → IsOpenRising order x w → Checks w before after
  pub made : Made before after (λ reads. NoMore (refuses_open order x before.meaning) reads (refuses_open order y before.meaning))

abbrev pub is_next_passed : IterationOrder → List ℕ → List SsTableHandle → Bool
is_next_passed order key [] = false
is_next_passed order key (table ∷ tables) = is_passed order key table.info

-- tables that the order puts before a key as a whole are passed over, up to the first that isn't one
pub record PassesOver (order : IterationOrder) (key : List ℕ) (before after : RunCursor) : Type 0 where
  pub passed : List SsTableHandle
  pub are : before.tables.items ≡ passed ++ after.tables.items
  pub each : AllByRecursion (λ h. is_passed order key h.info ≡ true) passed
  pub stops : is_next_passed order key after.tables.items ≡ false
  pub open_table : after.current ≡ before.current
  pub ahead : after.ahead ≡ before.ahead

-- ---- a walk

abbrev pub rest_run_in : RunState → BytesRange → IterationOrder → RunCursor → World → List RowEntry
rest_run_in New range order x w = rest_run range order x w
rest_run_in Going range order x w = rest_run range order x w
rest_run_in (Refused e) range order x w = []

abbrev pub sound_run_in : RunState → BytesRange → IterationOrder → RunCursor → World → Type 0
sound_run_in New range order x w = IsSoundRun range order x w
sound_run_in Going range order x w = IsSoundRun range order x w
sound_run_in (Refused e) range order x w = ¬ IsDamage e

abbrev pub refuses_run_in : RunState → IterationOrder → RunCursor → Meaning → List Act → Option (List ℕ) → SlateDBError → Type 0
refuses_run_in New order x m reads at e = (e ≡ IteratorNotInitialized) ⊎ refuses_run order x m reads at e
refuses_run_in Going order x m reads at e = refuses_run order x m reads at e
refuses_run_in (Refused kept) order x m reads at e = (kept ≢ OutOfMemory) × (e ≡ kept)

abbrev pub bound_run_in : RunState → RunCursor → ℕ
bound_run_in New x = bound_run x
bound_run_in Going x = bound_run x
bound_run_in (Refused e) x = 0

abbrev pub rest_of_run : RunWalk → World → List RowEntry
rest_of_run it w = rest_run_in it.state it.range it.order it.cursor w

abbrev pub IsSoundRunWalk : RunWalk → World → Type 0
IsSoundRunWalk it w = sound_run_in it.state it.range it.order it.cursor w

abbrev pub refuses_of_run : RunWalk → Meaning → List Act → Option (List ℕ) → SlateDBError → Type 0
refuses_of_run it m reads at e = refuses_run_in it.state it.order it.cursor m reads at e

-- ---- what becomes of it

abbrev pub IsNewRun : RunState → Type 0
IsNewRun s = s ≡ New

abbrev pub IsGoingRun : RunState → Type 0
IsGoingRun s = s ≡ Going

abbrev pub IsUnrefusedRun : RunState → Type 0
IsUnrefusedRun (Refused e) = ⊥
IsUnrefusedRun s = Unit {0}

abbrev pub IsSameRun : RunWalk → RunWalk → Type 0
IsSameRun before after = (after.range ≡ before.range) × (after.order ≡ before.order)

-- a refusal is kept, or want of memory in its place
abbrev pub KeepsRun : SlateDBError → RunState → Type 0
KeepsRun e s = (s ≡ Refused e) ⊎ (s ≡ Refused OutOfMemory)

-- a walk that wasn't begun, one that goes on, and one that was refused
abbrev pub StaysRunIn : RunState → Option (List ℕ) → SlateDBError → RunState → Type 0
StaysRunIn New at e after = ((e ≡ IteratorNotInitialized) × (after ≡ New)) ⊎ ((at ≡ None) × KeepsRun e after)
StaysRunIn Going at e after = KeepsRun e after
StaysRunIn (Refused kept) at e after = Copies kept e × (after ≡ Refused kept)

abbrev pub StaysRun : RunWalk → Option (List ℕ) → SlateDBError → RunWalk → Type 0
StaysRun before at e after = StaysRunIn before.state at e after.state × IsSameRun before after
