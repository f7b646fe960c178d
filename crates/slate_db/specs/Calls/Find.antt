-- Finds of the rows of a key in stored tables. by: what filters are asked; k, n: the key and the
-- sequence up to which; before, after: what a call reaches.
--     FiltersLetThrough by h before after result      whether the filters of a table let the query
--                through
--     FindsInTable h k n before after result      the rows in a table that encloses the key
--     FindsBehindFilters by h k n before after result      the rows in a table, none where its
--                filters deny the query
--     FindsRows by hs k n newer before after result      the rows in tables, behind those of newer
--                layers
use Rattle.std.specs.Prelude.{◌≡◌, ◌⊎◌, ℕ, Bool, true, false, List, [], ◌∷◌, Contains, IfErr, IfOk, OnOk, Result}
use Rattle.std.specs.Global.{Vec}
use Rattle.std.specs.List.{AllByRecursion}
use Rattle.slate_types.specs.declared.error.SlateDBError.{SlateDBError}
use Rattle.slate_types.specs.declared.types.RowEntry.{RowEntry}
use Rattle.slate_types.specs.declared.filter_policy.PrefixTarget.TheVariants.{Point}
use Rattle.slate_types.specs.Outside.{Objects, IsFault, IsStill, OnlyReads, Reach}
use Rattle.slate_types.specs.Rows.{of_key}
use Rattle.slate_types.specs.World.{Made}
use Rattle.slate_mem.specs.Lookup.{IsRowUpTo}
use Rattle.slate_mem.specs.Table.{newest}
use Rattle.slate_table.specs.declared.info.SsTableHandle.{SsTableHandle}
use Rattle.slate_db.specs.Answered.{AnswersFrom}
use Rattle.slate_db.specs.Asked.{AreBehindFilters, IsFiltersRead, IsReadOf}
use Rattle.slate_db.specs.Checked.{ChecksFrom}
use Rattle.slate_db.specs.Lookup.{AreFilteredAs, AreStoredAs, Extends, FindsBehind, IsStoredAs, IsUnknown}
use Rattle.slate_db.specs.Model.{Rows}
use Rattle.slate_db.specs.Shown as shown
use Rattle.slate_db.specs.Shown.{Asking, BringsRows, HasRow, HasRowRead, IsUnreadable, RefusesFiltersRead, Shows, ShowsDamage, ShowsRead}

-- denied, whole: of objects that hold the table with its filters, and that answered each read
pub record FiltersLetThrough (by : Asking) (h : SsTableHandle) (before after : Reach)
    (result : Result Bool SlateDBError) : Type 0 where
  pub denied : (key : List ℕ) (rows : Rows) (os : Objects) → by.query.target ≡ Point key →
      IsStoredAs before.meaning os h rows → AreFilteredAs by.policies before.meaning os (h ∷ []) →
      AnswersFrom os before after → IfOk result (λ passes. passes ≡ false → of_key key rows ≡ [])
  pub whole : (key : List ℕ) (rows : Rows) (os : Objects) → by.query.target ≡ Point key →
      IsStoredAs before.meaning os h rows → AreFilteredAs by.policies before.meaning os (h ∷ []) →
      AnswersFrom os before after → IfErr result (IsFault before after)
  pub passes : IfOk result (λ passes. Made before after (λ reads.
      passes ≡ true → shown.LetsThrough before.meaning.decode by h reads))
  pub cause : IfErr result (λ e. IsFault before after e ⊎ Made before after (λ reads.
      IsUnreadable e × RefusesFiltersRead before.meaning.decode by h reads e))
  pub alone : Made before after (AllByRecursion (IsFiltersRead h))
  pub checked : (rows : Rows) (os : Objects) → IsStoredAs before.meaning os h rows →
      OnOk result (ChecksFrom os before after)
  pub reads : OnlyReads before after
  pub still : IsStill before.faults after.faults result

-- asked: rows of the key, up to the sequence; rows: by the reads
pub record FindsInTable (h : SsTableHandle) (k : List ℕ) (n : ℕ) (before after : Reach)
    (result : Result (Vec RowEntry) SlateDBError) : Type 0 where
  pub found : (rows : Rows) (os : Objects) → IsStoredAs before.meaning os h rows →
      AnswersFrom os before after → IfOk result (λ found. found.items ≡ newest k n rows)
  pub whole : (rows : Rows) (os : Objects) → IsStoredAs before.meaning os h rows →
      AnswersFrom os before after → IfErr result (IsFault before after)
  pub asked : IfOk result (λ found. AllByRecursion (IsRowUpTo k n) found.items)
  pub rows : IfOk result (λ found. Made before after (λ reads.
      AllByRecursion (HasRowRead before.meaning.decode h reads) found.items))
  pub cause : IfErr result (λ e. IsFault before after e ⊎ Made before after (λ reads.
      ShowsRead before.meaning.decode h reads e) ⊎ IsUnknown h.format_version e)
  pub alone : Made before after (AllByRecursion (IsReadOf h))
  pub checked : (rows : Rows) (os : Objects) → IsStoredAs before.meaning os h rows →
      OnOk result (ChecksFrom os before after)
  pub reads : OnlyReads before after
  pub still : IsStill before.faults after.faults result

pub record FindsBehindFilters (by : Asking) (h : SsTableHandle) (k : List ℕ) (n : ℕ)
    (before after : Reach) (result : Result (Vec RowEntry) SlateDBError) : Type 0 where
  pub found : (rows : Rows) (os : Objects) → IsStoredAs before.meaning os h rows →
      AreFilteredAs by.policies before.meaning os (h ∷ []) → AnswersFrom os before after →
      IfOk result (λ found. found.items ≡ newest k n rows)
  pub whole : (rows : Rows) (os : Objects) → IsStoredAs before.meaning os h rows →
      AreFilteredAs by.policies before.meaning os (h ∷ []) → AnswersFrom os before after →
      IfErr result (IsFault before after)
  pub asked : IfOk result (λ found. AllByRecursion (IsRowUpTo k n) found.items)
  pub rows : IfOk result (λ found. Made before after (λ reads.
      AllByRecursion (HasRow before.meaning.decode by h reads) found.items))
  pub cause : IfErr result (λ e. IsFault before after e ⊎ Made before after (λ reads.
      Shows before.meaning.decode by h reads e) ⊎ IsUnknown h.format_version e)
  pub behind : Made before after (AreBehindFilters before.meaning.decode by (h ∷ []))
  pub checked : (rows : Rows) (os : Objects) → IsStoredAs before.meaning os h rows →
      OnOk result (ChecksFrom os before after)
  pub reads : OnlyReads before after
  pub still : IsStill before.faults after.faults result

-- hs: the tables, of which the newest stands last; layers: their rows
pub record FindsRows (by : Asking) (hs : List SsTableHandle) (k : List ℕ) (n : ℕ) (newer : Rows)
    (before after : Reach) (result : Result (Vec RowEntry) SlateDBError) : Type 0 where
  pub found : (layers : List Rows) (os : Objects) → AreStoredAs before.meaning os hs layers →
      AreFilteredAs by.policies before.meaning os hs → AnswersFrom os before after →
      IfOk result (λ all. FindsBehind k n layers newer all.items)
  pub whole : (layers : List Rows) (os : Objects) → AreStoredAs before.meaning os hs layers →
      AreFilteredAs by.policies before.meaning os hs → AnswersFrom os before after →
      IfErr result (IsFault before after)
  pub extends : IfOk result (λ all. Extends newer all.items)
  pub rows : IfOk result (λ all. Made before after
      (BringsRows before.meaning.decode by n hs newer all.items))
  pub cause : IfErr result (λ e. IsFault before after e ⊎ Made before after (λ reads.
      ShowsDamage before.meaning.decode by hs reads e)
      ⊎ ((h : SsTableHandle) × Contains hs h × IsUnknown h.format_version e))
  pub behind : Made before after (AreBehindFilters before.meaning.decode by hs)
  pub checked : (layers : List Rows) (os : Objects) → AreStoredAs before.meaning os hs layers →
      OnOk result (ChecksFrom os before after)
  pub reads : OnlyReads before after
  pub still : IsStill before.faults after.faults result
