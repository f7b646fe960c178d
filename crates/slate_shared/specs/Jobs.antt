-- Tables that are to be built, and what comes of them.
--     CanMake job      a table can be built of the job's rows
--     AreJobsAt number place parts jobs      a job for each of these lists of rows, under the ids of their places from this one on
--     IsJobDone encode layout job t      the table of a job
--     IsStopped encode layout raised jobs e      the first job that wasn't done was refused for this
--     IsOutcome encode layout raised jobs made      the tables of the jobs in their order, or why there are none
--     tables_made items made      the tables of an outcome
--     joined_of outcomes      those of several, one behind the other, or the first refusal
use Rattle.std.specs.Prelude.{◌≡◌, ℕ, ◌+◌, ◌^◌, ◌<◌, ◌⊎◌, List, [], ◌∷◌, ◌++◌, Result, Ok, Err}
use Rattle.std.specs.List.{AllZip}
use Rattle.slate_types.specs.declared.error.SlateDBError.{SlateDBError}
use Rattle.slate_types.specs.declared.error.SlateDBError.TheVariants.{BlockTransformError, OutOfMemory}
use Rattle.slate_table.specs.InfoReading.{seen_info}
use Rattle.slate_table.specs.Parts.{Encode}
use Rattle.slate_table.specs.Paths.{table_id}
use Rattle.slate_table.specs.Table.{IsBuilt}
use Rattle.slate_table.specs.TableEnd.{EncodedTable, HasInfo}
use Rattle.slate_db.specs.Flushed.{IsTooLarge, Layout}
use Rattle.slate_db.specs.Model.{Rows}
use Rattle.slate_db.specs.StoredParts.{CanBuild, IsPlace}
use Rattle.slate_shared.specs.declared.encode.Job.{Job}

abbrev pub CanMake : Job → Type 0
CanMake job = CanBuild job.rows.items

abbrev pub AreJobsAt : ℕ → ℕ → List Rows → List Job → Type 0
AreJobsAt number place [] [] = Unit {0}
AreJobsAt number place (rows ∷ parts) (job ∷ jobs) = (IsPlace job.id number place × (job.rows.items ≡ rows)) × AreJobsAt number (place + 1) parts jobs
AreJobsAt number place [] (job ∷ jobs) = ⊥
AreJobsAt number place (rows ∷ parts) [] = ⊥

pub record IsJobDone (encode : Encode) (layout : Layout) (job : Job) (t : EncodedTable) : Type 0 where
  pub id : t.id.0 ≡ job.id.0
  pub built : IsBuilt encode layout.policies layout.min_filter_keys layout.block_size layout.version job.id.0 t.bytes job.rows.items
  pub version : t.version ≡ layout.version
  pub info : HasInfo t.bytes layout.version t.id.0 (seen_info t.info)

pub record IsStopped (encode : Encode) (layout : Layout) (raised : Type 0) (jobs : List Job) (e : SlateDBError) : Type 0 where
  pub done : List Job
  pub job : Job
  pub left : List Job
  pub split : done ++ (job ∷ left) ≡ jobs
  pub tables : List EncodedTable
  pub made : AllZip (IsJobDone encode layout) done tables
  pub cause : ((e ≡ BlockTransformError) × raised) ⊎ IsTooLarge layout job.rows.items e

abbrev pub IsOutcome : Encode → Layout → Type 0 → List Job → Result (List EncodedTable) SlateDBError → Type 0
IsOutcome encode layout raised jobs (Ok tables) = AllZip (IsJobDone encode layout) jobs tables
IsOutcome encode layout raised jobs (Err e) = (e ≡ OutOfMemory) ⊎ IsStopped encode layout raised jobs e

abbrev pub tables_made : {V : Type 0} → (V → List EncodedTable) → Result V SlateDBError → Result (List EncodedTable) SlateDBError
tables_made items (Ok v) = Ok (items v)
tables_made items (Err e) = Err e

abbrev pub in_front : List EncodedTable → Result (List EncodedTable) SlateDBError → Result (List EncodedTable) SlateDBError
in_front tables (Ok more) = Ok (tables ++ more)
in_front tables (Err e) = Err e

abbrev pub joined_of : List (Result (List EncodedTable) SlateDBError) → Result (List EncodedTable) SlateDBError
joined_of [] = Ok []
joined_of (Ok tables ∷ outcomes) = in_front tables (joined_of outcomes)
joined_of (Err e ∷ outcomes) = Err e
