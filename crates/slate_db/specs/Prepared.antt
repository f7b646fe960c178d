-- A batch that is prepared to become a commit, so that the core that takes it calls no operator.
--     PreparedWith      the operator, the segments, the default time to live, the moment and the batch that it was prepared with
--     lone_refusal w      what such a batch is refused for by itself
--     whole_refusal w recorded      what it is refused for beside the prefixes that earlier commits recorded
--     IsPrepared w p      p is what was prepared so
--     numbered n rows      the rows at a sequence
--     IsPassed w recorded n x      what is left of it to put at a sequence, once nothing refuses it
--     own_batch ops      the batch of a transaction's operations
--     prepared_for combine g default now b      the batch, with these
--     WasPrepared default now b p      p is this batch, prepared with these and some operator and segments
--     IsAccepted fault combine g o now recorded cs full b r      the same of a batch that is to commit by itself; full: the journal has no place for its event
--     IsDecided fault combine g o now recorded cs t r      over these commits a transaction is committed or refused as the definition says; fault: a fault that came in the call, or want of memory
use Rattle.std.specs.Prelude.{◌≡◌, ◌≢◌, ◌⊎◌, ℕ, ◌-◌, ◌^◌, ◌<◌, [], false, List, map, is_some, Option, None, Some, Result, IfOk, IfErr, OnOk, ℤ}
use Rattle.std.specs.List.{AllByRecursion}
use Rattle.slate_types.specs.declared.error.SlateDBError.{SlateDBError}
use Rattle.slate_types.specs.declared.error.SlateDBError.TheVariants.{LimitReached, OutOfMemory, SequenceExhausted}
use Rattle.slate_types.specs.declared.types.RowEntry.{RowEntry}
use Rattle.slate_types.specs.Fold.{Combine, operator_at}
use Rattle.slate_types.specs.Keys.{keys_set}
use Rattle.slate_mem.specs.Batch.{Ops, batch_keys, kept_ops}
use Rattle.slate_mem.specs.BatchModel.{BatchModel, holds_merge}
use Rattle.slate_mem.specs.CommitRows.{commit_rows}
use Rattle.slate_mem.specs.KeyTests.{Segments, prefixes, test_refusals}
use Rattle.slate_mem.specs.Refusals.{first_refusal}
use Rattle.slate_txn.specs.Conflict.{conflict}
use Rattle.slate_txn.specs.HandedOver.{IsConflict}
use Rattle.slate_txn.specs.Settings.{Settings}
use Rattle.slate_txn.specs.State.{Commit, Tx, last_of}
use Rattle.slate_db.specs.declared.prepared.Prepared.{Prepared}
use Rattle.slate_db.specs.declared.prepared.Passed.{Passed}
use Rattle.slate_db.specs.BatchTests.{IsTestRefusal, batch_refusal, test_refusal}
use Rattle.slate_db.specs.Committed.{IsFull, IsNextOf}
use Rattle.slate_db.specs.Layers.{FitsMemory}
use Rattle.slate_db.specs.Log.{LIMIT, AreFine}

pub record PreparedWith : Type 0 where
  pub combine : Option (List ℕ → Combine)
  pub segments : Segments
  pub default_millis : Option ℕ
  pub now : ℤ
  pub batch : BatchModel

abbrev pub lone_refusal : PreparedWith → Option SlateDBError
lone_refusal w = first_refusal (test_refusals (is_some w.combine) w.batch.held_merge w.segments w.default_millis w.now w.batch.ops)

abbrev pub whole_refusal : PreparedWith → List (List ℕ) → Option SlateDBError
whole_refusal w recorded = batch_refusal w.combine w.segments recorded w.default_millis w.now w.batch

-- a refusal is kept, or want of memory in the tests; where there is none, so are the prefixes and the rows, as those of the sequence 0
pub record IsPrepared (w : PreparedWith) (p : Prepared) : Type 0 where
  pub ops : p.ops ≡ w.batch.ops
  pub keys : p.keys.items ≡ batch_keys w.batch.ops
  pub kept : kept_ops w.batch.ops ≡ w.batch.ops
  pub fine : AreFine w.batch.ops
  pub refused : IfErr p.folded (λ e. (e ≡ OutOfMemory) ⊎ (lone_refusal w ≡ Some e))
  pub plain : w.batch.held_merge ≡ false → holds_merge w.batch.ops ≡ false
  pub passed : IfOk p.folded (λ f. lone_refusal w ≡ None)
  pub prefixes : IfOk p.folded (λ f. f.prefixes.keys ≡ keys_set (prefixes w.segments w.batch.ops))
  pub rows : IfOk p.folded (λ f. f.rows.items ≡ commit_rows (operator_at w.combine) w.default_millis 0 w.now w.batch.ops)
  pub fit : IfOk p.folded (λ f. AllByRecursion FitsMemory f.rows.items)

abbrev pub numbered : ℕ → List RowEntry → List RowEntry
numbered n rows = map (λ (r : RowEntry). record r { seq = n }) rows

pub record IsPassed (w : PreparedWith) (recorded : List (List ℕ)) (n : ℕ) (x : Passed) : Type 0 where
  pub ops : x.ops ≡ w.batch.ops
  pub keys : x.keys.items ≡ batch_keys w.batch.ops
  pub prefixes : x.prefixes.keys ≡ keys_set (prefixes w.segments w.batch.ops)
  pub rows : x.rows.items ≡ commit_rows (operator_at w.combine) w.default_millis n w.now w.batch.ops
  pub fit : AllByRecursion FitsMemory x.rows.items
  pub tested : whole_refusal w recorded ≡ None

abbrev pub own_batch : Ops → BatchModel
own_batch ops = record { ops = kept_ops ops; held_merge = holds_merge ops }

abbrev pub prepared_for : Option (List ℕ → Combine) → Segments → Option ℕ → ℤ → BatchModel → PreparedWith
prepared_for combine g default_millis now b = record { combine = combine; segments = g; default_millis = default_millis; now = now; batch = b }

pub record WasPrepared (default_millis : Option ℕ) (now : ℤ) (b : BatchModel) (p : Prepared) : Type 0 where
  pub combine : Option (List ℕ → Combine)
  pub segments : Segments
  pub is : IsPrepared (prepared_for combine segments default_millis now b) p

-- an answer of Ok tells what was free, and each refusal that nothing before it refuses
pub record IsDecided {C : Type 0} (fault : SlateDBError → Type 0) (combine : Option C) (g : Segments) (o : Settings) (now : ℤ) (recorded : List (List ℕ)) (cs : List Commit) (t : Tx) (r : Result (Option ℕ) SlateDBError) : Type 0 where
  pub next : IfOk r (λ n. IsNextOf (last_of o.start_seq cs) t.ops n)
  pub free : OnOk r (conflict cs t ≡ None)
  pub tested : OnOk r (test_refusal combine g recorded o.default_millis now t.ops ≡ None)
  pub cause : IfErr r (λ e. fault e ⊎ IsConflict (conflict cs t) e ⊎ IsFull (last_of o.start_seq cs) (conflict cs t) t.ops e
      ⊎ IsTestRefusal combine g recorded o.default_millis now (last_of o.start_seq cs) (conflict cs t) t.ops e)

-- the same of a batch that is to commit by itself; full: the journal has no place for its event
pub record IsAccepted {C : Type 0} (fault : SlateDBError → Type 0) (combine : Option C) (g : Segments) (o : Settings) (now : ℤ) (recorded : List (List ℕ)) (cs : List Commit) (full : Type 0) (b : BatchModel) (r : Result (Option ℕ) SlateDBError) : Type 0 where
  pub next : IfOk r (λ n. IsNextOf (last_of o.start_seq cs) b.ops n)
  pub tested : OnOk r (b.ops ≢ [] → batch_refusal combine g recorded o.default_millis now b ≡ None)
  pub cause : IfErr r (λ e. fault e
      ⊎ ((e ≡ SequenceExhausted) × (b.ops ≢ []) × (last_of o.start_seq cs ≡ 2 ^ 64 - 2))
      ⊎ ((b.ops ≢ []) × (last_of o.start_seq cs < 2 ^ 64 - 2) × (batch_refusal combine g recorded o.default_millis now b ≡ Some e))
      ⊎ ((e ≡ LimitReached LIMIT) × (b.ops ≢ []) × (last_of o.start_seq cs < 2 ^ 64 - 2) × (batch_refusal combine g recorded o.default_millis now b ≡ None) × full))
