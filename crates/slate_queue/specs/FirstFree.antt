-- A law of claims: the first row of a scan that a claim takes is the free job with the least id.
--     IsFreeRow now kv id job      the row is the job's, and that is free at the moment
--     rows_of r cs      the rows of the scan of all jobs, behind all commits, as a reader gets them
--     FirstIsTaken      it is so where rows before it were passed over, and where all were no job is free
use Rattle.std.specs.Prelude.{◌≡◌, ℕ, ◌^◌, ◌<◌, ℤ, true, List, [], ◌∷◌, ◌++◌, map, Some, None}
use Rattle.std.specs.List.{AllByRecursion}
use Rattle.slate_types.specs.declared.iter.IterationOrder.TheVariants.{Ascending}
use Rattle.slate_types.specs.declared.types.KeyValue.{KeyValue}
use Rattle.slate_types.specs.Keys.{prefix_range}
use Rattle.slate_types.specs.Rows.{key_value}
use Rattle.slate_txn.specs.Reads.{rows_seen}
use Rattle.slate_txn.specs.State.{Rules, Commit, last_of}
use Rattle.slate_queue.specs.Stored.{Job, jobs_prefix, job_key, job_of}
use Rattle.slate_queue.specs.Jobs.{Queue, first_free, is_free}
use Rattle.slate_queue.specs.Commits.{IsPassed}
use Rattle.slate_queue.specs.Standing.{Stands}

pub record IsFreeRow (now : ℤ) (kv : KeyValue) (id : ℕ) (job : Job) : Type 0 where
  pub fits : id < 2 ^ 64
  pub is_job : kv.key ≡ job_key id
  pub stands : job_of kv.value ≡ Some job
  pub free : is_free now job ≡ true

abbrev pub rows_of : Rules → List Commit → List KeyValue
rows_of r cs = map key_value (rows_seen r cs (last_of r.start_seq cs) [] Ascending (prefix_range jobs_prefix))

pub record FirstIsTaken : Type 0 where
  pub one : (r : Rules) (cs : List Commit) (q : Queue) (now : ℤ) (passed : List KeyValue) (kv : KeyValue) (rest : List KeyValue) (id : ℕ) (job : Job) → Stands r cs q →
      rows_of r cs ≡ passed ++ (kv ∷ rest) → AllByRecursion (IsPassed now) passed → IsFreeRow now kv id job → first_free now q ≡ Some (id, job)
  pub none : (r : Rules) (cs : List Commit) (q : Queue) (now : ℤ) (passed : List KeyValue) → Stands r cs q →
      rows_of r cs ≡ passed → AllByRecursion (IsPassed now) passed → first_free now q ≡ None
