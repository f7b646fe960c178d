-- The tables of a flush, one after another.
--     CanBuild rows      a table can be built of the rows: there are some, in a table's order, and each fits one
--     IsPlace id number place      the id of a table of the flush, at a place
--     IsTablePut ..      a table of the rows was put, and that is what is kept of it
--     IsOneTable ..      such a table alone
--     ArePartsPut ..      a table of each of the lists of rows was put, and these are kept of them
--     AreLastParts ..      tables of some last ones of the lists
--     IsLastRun prefix old new run      a run was the last one and was taken out, or is none of these and has no table
--     IsPartTooLarge layout parts e      a table of one of the lists would have too many blocks
use Rattle.std.specs.Prelude.{◌≡◌, ◌≢◌, ℕ, ◌<◌, ◌^◌, List, [], ◌∷◌, ◌++◌, length, Option}
use Rattle.std.specs.List.{AllByRecursion}
use Rattle.slate_types.specs.declared.error.SlateDBError.{SlateDBError}
use Rattle.slate_types.specs.declared.types.Ulid.{Ulid}
use Rattle.slate_types.specs.Outside.{Objects}
use Rattle.slate_read.specs.declared.sorted_run.SortedRun.{SortedRun}
use Rattle.slate_table.specs.declared.info.SsTableHandle.{SsTableHandle}
use Rattle.slate_table.specs.Parts.{Encode}
use Rattle.slate_table.specs.Paths.{table_id}
use Rattle.slate_table.specs.Table.{AreInOrder}
use Rattle.slate_db.specs.Flushed.{AreTablesAt, IsTableAt, IsTooLarge, Layout, TakesTables}
use Rattle.slate_db.specs.Installs.{AreHandles, IsHandle}
use Rattle.slate_db.specs.Layers.{FitsMemory}
use Rattle.slate_db.specs.Model.{Rows}

pub record CanBuild (rows : Rows) : Type 0 where
  pub some : 0 < length rows
  pub order : AreInOrder rows
  pub fit : AllByRecursion FitsMemory rows

pub record IsPlace (id : Ulid) (number place : ℕ) : Type 0 where
  pub is : id.0 ≡ table_id number place
  pub fits : place < 2 ^ 64

pub record IsTablePut (encode : Encode) (layout : Layout) (number place : ℕ) (rows : Rows) (t : Ulid × List ℕ) (handle : SsTableHandle) (before after : Option Objects) : Type 0 where
  pub made : IsTableAt encode layout number place rows t
  pub kept : IsHandle t handle
  pub taken : TakesTables (t ∷ []) before after

abbrev pub IsOneTable : Encode → Layout → ℕ → ℕ → Rows → List (Ulid × List ℕ) → Type 0
IsOneTable encode layout number place rows ts = (t : Ulid × List ℕ) × (ts ≡ t ∷ []) × IsTableAt encode layout number place rows t

pub record ArePartsPut (encode : Encode) (layout : Layout) (number : ℕ) (parts : List Rows) (ts : List (Ulid × List ℕ)) (handles : List SsTableHandle) (before after : Option Objects) : Type 0 where
  pub made : AreTablesAt encode layout number 0 parts ts
  pub kept : AreHandles ts handles
  pub taken : TakesTables ts before after

pub record AreLastParts (encode : Encode) (layout : Layout) (number : ℕ) (parts : List Rows)
    (ts : List (Ulid × List ℕ)) : Type 0 where
  pub left : List Rows
  pub done : List Rows
  pub split : left ++ done ≡ parts
  pub made : AreTablesAt encode layout number (length left) done ts

pub record IsPartTooLarge (layout : Layout) (parts : List Rows) (e : SlateDBError) : Type 0 where
  pub before : List Rows
  pub table : Rows
  pub behind : List Rows
  pub split : before ++ (table ∷ behind) ≡ parts
  pub large : IsTooLarge layout table e

pub data IsLastRun (prefix : List ℕ) (old new : List SortedRun) (run : SortedRun) : Type 0 where
  taken : old ≡ new ++ (run ∷ []) → run.prefix ≡ prefix → IsLastRun prefix old new run
  made : new ≡ old → run.prefix ≡ prefix → run.tables.items ≡ [] → ((before : List SortedRun) (last : SortedRun) → old ≡ before ++ (last ∷ []) → last.prefix ≢ prefix) → IsLastRun prefix old new run
