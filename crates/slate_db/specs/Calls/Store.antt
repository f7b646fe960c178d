-- Stores of a flush's tables. layout: how it cuts and spells rows; number: of the flush; before,
-- after: what a call reaches.
--     StoresRows layout number barrier layers before after result      the rows of memtables are
--                stored
--     StoresParts layout number parts before after same_operator result      a table of each of
--                these lists of rows is stored
--     StoresTable layout id rows before after same_operator result      a table is stored under
--                this id
use Rattle.std.specs.Prelude.{◌≡◌, ◌⊎◌, ◌∷◌, ℕ, true, List, [], None, IfErr, IfOk, OnErr, Result}
use Rattle.std.specs.Global.{Vec}
use Rattle.slate_types.specs.declared.error.SlateDBError.{SlateDBError}
use Rattle.slate_types.specs.declared.types.Ulid.{Ulid}
use Rattle.slate_types.specs.Outside.{IsFault, IsStill, Puts, Reach}
use Rattle.slate_mem.specs.Lookup.{is_merge_among, newest_first}
use Rattle.slate_read.specs.declared.sorted_run.SortedRun.{SortedRun}
use Rattle.slate_table.specs.declared.info.SsTableHandle.{SsTableHandle}
use Rattle.slate_table.specs.Table.{AreInOrder}
use Rattle.slate_db.specs.Answered.{AddsActs, AddsPuts}
use Rattle.slate_db.specs.Flushed.{AreSomeOfFlush, HasTooLarge, IsFolded, IsPut, IsTooLarge, Layout, MayTakeTables, WantsOperator}
use Rattle.slate_db.specs.Model.{Rows}
use Rattle.slate_db.specs.StoredParts.{AreLastParts, IsOneTable, IsPartTooLarge, IsPlace, IsTablePut}

pub record StoresRows (layout : Layout) (number barrier : ℕ) (layers : List Rows)
    (before after : Reach)
    (result : Result (List (Ulid × List ℕ) × Vec SortedRun) SlateDBError) : Type 0 where
  pub stored : IfOk result (λ a. IsPut before.meaning layout number barrier layers a.0 a.1.items
      before.objects after.objects)
  pub acts : IfOk result (λ a. AddsPuts a.0 before.acts after.acts)
  pub adds : AddsActs before.acts after.acts
  pub refused : OnErr result (MayTakeTables
      (AreSomeOfFlush before.meaning layout number barrier layers) before.objects after.objects)
  pub cause : IfErr result (λ e. IsFault before after e
      ⊎ ((rows : Rows) × IsFolded before.meaning barrier layers rows
      × AreInOrder rows × HasTooLarge layout rows e) ⊎ WantsOperator before.meaning layers e)
  pub wanted : before.meaning.combine ≡ None → is_merge_among (newest_first layers) ≡ true →
      IfOk result (λ a. ⊥)
  pub puts : Puts before after
  pub still : IsStill before.faults after.faults result

-- beside what an Ok tells of the tables
pub record StoresParts {A : Type 0} (layout : Layout) (number : ℕ) (parts : List Rows)
    (before after : Reach) (same_operator : Type 0) (result : Result A SlateDBError) : Type 0 where
  pub adds : AddsActs before.acts after.acts
  pub refused : OnErr result (MayTakeTables
      (AreLastParts before.meaning.encode layout number parts) before.objects after.objects)
  pub cause : IfErr result (λ e. IsFault before after e ⊎ IsPartTooLarge layout parts e)
  pub operator : same_operator
  pub puts : Puts before after
  pub still : IsStill before.faults after.faults result

pub record StoresTable (layout : Layout) (id : Ulid) (rows : Rows) (before after : Reach)
    (same_operator : Type 0)
    (result : Result ((Ulid × List ℕ) × SsTableHandle) SlateDBError) : Type 0 where
  pub stored : (number place : ℕ) → IsPlace id number place → IfOk result (λ a. IsTablePut
      before.meaning.encode layout number place rows a.0 a.1 before.objects after.objects)
  pub acts : IfOk result (λ a. AddsPuts (a.0 ∷ []) before.acts after.acts)
  pub adds : AddsActs before.acts after.acts
  pub refused : (number place : ℕ) → IsPlace id number place → OnErr result (MayTakeTables
      (IsOneTable before.meaning.encode layout number place rows) before.objects after.objects)
  pub cause : IfErr result (λ e. IsFault before after e ⊎ IsTooLarge layout rows e)
  pub operator : same_operator
  pub puts : Puts before after
  pub still : IsStill before.faults after.faults result
