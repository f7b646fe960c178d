-- What the objects of a store hold after a run.
--     IsObjectOf tables o      an object is one of the tables, at its path
--     IsTableObject m layout o      an object is a table that a flush put: at the path of one, in the options' version, cut by their blocks' size, with the filters of the policies, and of rows with one segment prefix
--     IsStoredState m r layout objects s      all objects are such tables, and their rows alone fold to the state at the last flush
use Rattle.std.specs.Prelude.{◌≡◌, ◌≤◌, ◌<◌, ◌^◌, ℕ, List, Contains, Option, Some}
use Rattle.std.specs.List.{AllByRecursion}
use Rattle.slate_types.specs.declared.types.RowEntry.{RowEntry}
use Rattle.slate_types.specs.declared.types.Ulid.{Ulid}
use Rattle.slate_types.specs.Outside.{Objects}
use Rattle.slate_table.specs.Paths.{path_of, table_id}
use Rattle.slate_table.specs.Stored.{HoldRows, stored}
use Rattle.slate_table.specs.Table.{IsBuilt}
use Rattle.slate_txn.specs.Reads.{state_at}
use Rattle.slate_txn.specs.State.{Rules, State}
use Rattle.slate_db.specs.Cut.{StandsIn}
use Rattle.slate_db.specs.Flushed.{Layout}
use Rattle.slate_db.specs.Installs.{root}
use Rattle.slate_db.specs.Meaning.{Meaning, combine_of}

abbrev pub IsObjectOf : List (Ulid × List ℕ) → List ℕ × List ℕ → Type 0
IsObjectOf tables o = (table : Ulid × List ℕ) × Contains tables table × (o ≡ (path_of root table.0.0, table.1))

-- number: that of the flush, from 1; place: that of the table in it, from 0
pub record IsTableObject (m : Meaning) (layout : Layout) (o : List ℕ × List ℕ) : Type 0 where
  pub number : ℕ
  pub first : 1 ≤ number
  pub fits : number < 2 ^ 64
  pub place : ℕ
  pub place_fits : place < 2 ^ 64
  pub rows : List RowEntry
  pub path : o.0 ≡ path_of root (table_id number place)
  pub built : IsBuilt m.encode layout.policies layout.min_filter_keys layout.block_size layout.version (table_id number place) o.1 rows
  pub prefix : List ℕ
  pub one : AllByRecursion (StandsIn layout.segments prefix) rows

pub record IsStoredState (m : Meaning) (r : Rules) (layout : Layout) (objects : Option Objects) (s : State) : Type 0 where
  pub os : Objects
  pub told : objects ≡ Some os
  pub each : AllByRecursion (IsTableObject m layout) os
  pub rows : List RowEntry
  pub held : HoldRows m.encode os rows
  pub folds : (k : List ℕ) → stored (combine_of m k) rows k ≡ state_at r s.commits s.flushed k
