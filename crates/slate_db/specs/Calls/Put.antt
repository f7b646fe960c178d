-- What the calls under a commit and a write put. w: what a batch was prepared with; last, seq: the
-- core's last sequence, and the one behind it; id: the transaction; old, new: the manager.
--     IsShortOr refusal e      want of memory, or this refusal
--     IsShortOrCallback before after e      want of memory, or a failure of the operator, whose
--                count rose
--     lone_refusal_of o g d now b      what a batch is refused for by itself
--     FoldsAlone w r      of a batch this is kept: what is to be put of it, what it is refused for
--                by itself, or want of memory in its tests
--     AsPrepared prepared f      so it is for all that it may have been prepared with
--     AsPreparedOf ops prepared f      the same of a transaction's operations, of the operator, the
--                segments, the time to live and the moment
--     AreNotNewer last y      no row of the layers is newer than this
--     TestsBatch refusal before after same_operator result      a batch is refused just by this,
--                but for want of memory and a failure of the operator
--     with_prefixes w recorded      the recorded prefixes with the batch's
--     with_rows w seq y      the layers with its rows
--     HasEnded id seq old new      the transaction is ended at the sequence
--     StandsEnded id seq old new      so the manager stands for its commit too
--     HasTracked seq old new      it has the sequence as its last, and may keep one commit more
--     StandsTracked seq keys old new      so it stands for a commit of these keys too
--     PutsOwn w id seq .. result      the rows, the prefixes and the end are put, or nothing is
--                done
--     ManagesMade m id now last ids cs ps made      a manager stands for what a commit made too,
--                where it has a sequence
--     Manages old new id now last result      so it is of all that the old one stood for
--     MadeOf t last made      what a commit made is of this transaction, behind the last sequence
--     Makes o g d now t last .. x      its prefixes and rows are put too, by the operator, the
--                segments, the time to live and the moment
--     AnswersCommit verdict ops before after same_operator result      a commit is refused just by
--                the verdict, but for want of memory and a failure of the operator, and asks nobody
--                where it needn't
--     MakesCommit o g d now t last .. result      so it is of an Ok, and the commit answers as the
--                verdict over what the manager stands for
--     PutsPrepared o g d now ops .. x      of a commit whose batch was prepared with these: nothing
--                refuses it, and its prefixes and rows are put
--     LeavesGrown id before after old new m n      nothing is put, and of the manager what it
--                tracks of the transaction may have grown
--     IsCommitRefusal o g recorded d now last conflicting ops e      a commit is refused for this
--     PutsAlone w seq before after old new m n      the prefixes, the rows and the keys of a batch
--                that commits by itself are put, and nothing refuses it
--     IsAloneRefusal refusal l e      a batch that commits by itself is refused for this, and else
--                for want of place in the journal
use Rattle.std.specs.List.{AllByRecursion}
use Rattle.std.specs.Prelude.{◌≡◌, ◌⊎◌, ◌+◌, ◌<◌, ◌≤◌, ◌++◌, ◌∷◌, [], ℕ, ℤ, List, Option, None, Some, unwrap_or, Err, IfErr, IfOk, OnErr, OnOk, Result}
use Rattle.slate_types.specs.declared.error.SlateDBError.{SlateDBError}
use Rattle.slate_types.specs.declared.error.SlateDBError.TheVariants.{LimitReached, OutOfMemory}
use Rattle.slate_types.specs.Fold.{Combine, operator_at}
use Rattle.slate_types.specs.Keys.{keys_set}
use Rattle.slate_mem.specs.Batch.{Ops, batch_keys, kept_ops}
use Rattle.slate_mem.specs.BatchModel.{BatchModel}
use Rattle.slate_mem.specs.CommitRows.{commit_rows}
use Rattle.slate_mem.specs.KeyTests.{Segments, prefixes}
use Rattle.slate_mem.specs.Lookup.{IsCallback}
use Rattle.slate_mem.specs.Table.{put_rows}
use Rattle.slate_txn.specs.Conflict.{conflict, tracked_writes}
use Rattle.slate_txn.specs.HandedOver.{Grown, IsConflict}
use Rattle.slate_txn.specs.Managers.{IsCommitOf, Manager, StandsFor, with_commit, writes_at}
use Rattle.slate_txn.specs.Named.{find_named, without}
use Rattle.slate_txn.specs.Replay.{commit_made}
use Rattle.slate_txn.specs.State.{Commit, Tx}
use Rattle.slate_db.specs.declared.commit.Made.{Made}
use Rattle.slate_db.specs.declared.prepared.Folded.{Folded}
use Rattle.slate_db.specs.declared.prepared.Prepared.{Prepared}
use Rattle.slate_db.specs.Calls.Commit.{AsksNobody, commit_verdict_of}
use Rattle.slate_db.specs.Calls.Common.{Decides}
use Rattle.slate_db.specs.BatchTests.{IsTestRefusal, test_refusal}
use Rattle.slate_db.specs.Committed.{IsFull, IsNextOf, put_at, recorded_at}
use Rattle.slate_db.specs.Layers.{FitsMemory, LayersModel, in_memory}
use Rattle.slate_db.specs.Log.{AreFine, LIMIT, LogModel, held_by}
use Rattle.slate_db.specs.Managed.{IsManaged}
use Rattle.slate_db.specs.Prepared.{IsPrepared, PreparedWith, lone_refusal, own_batch, prepared_for, whole_refusal}

abbrev pub IsShortOr : Option SlateDBError → SlateDBError → Type 0
IsShortOr refusal e = (e ≡ OutOfMemory) ⊎ (refusal ≡ Some e)

abbrev pub IsShortOrCallback : ℕ → ℕ → SlateDBError → Type 0
IsShortOrCallback before after e = (e ≡ OutOfMemory) ⊎ IsCallback before after e

abbrev pub lone_refusal_of : Option (List ℕ → Combine) → Segments → Option ℕ → ℤ → BatchModel →
    Option SlateDBError
lone_refusal_of o g d now b = lone_refusal (prepared_for o g d now b)

pub record FoldsAlone (w : PreparedWith) (r : Result Folded SlateDBError) : Type 0 where
  pub refused : IfErr r (IsShortOr (lone_refusal w))
  pub passed : IfOk r (λ f. lone_refusal w ≡ None)
  pub prefixes : IfOk r (λ f. f.prefixes.keys ≡ keys_set (prefixes w.segments w.batch.ops))
  pub rows : IfOk r (λ f. f.rows.items ≡
      commit_rows (operator_at w.combine) w.default_millis 0 w.now w.batch.ops)
  pub fit : AreFine w.batch.ops → IfOk r (λ f. AllByRecursion FitsMemory f.rows.items)

abbrev pub AsPrepared : Prepared → (PreparedWith → Type 0) → Type 0
AsPrepared prepared f = (w : PreparedWith) → IsPrepared w prepared → f w

abbrev pub AsPreparedOf : Ops → Prepared →
    (Option (List ℕ → Combine) → Segments → Option ℕ → ℤ → Type 0) → Type 0
AsPreparedOf ops prepared f = (o : Option (List ℕ → Combine)) (g : Segments) (d : Option ℕ)
    (now : ℤ) → IsPrepared (prepared_for o g d now (own_batch ops)) prepared → f o g d now

abbrev pub AreNotNewer : ℕ → LayersModel → Type 0
AreNotNewer last y =
    AllByRecursion (λ rows. AllByRecursion (λ r. r.seq ≤ last) rows) (in_memory y)

pub record TestsBatch {A : Type 0} (refusal : Option SlateDBError) (before after : ℕ)
    (same_operator : Type 0) (result : Result A SlateDBError) : Type 0 where
  pub tested : OnOk result (refusal ≡ None)
  pub first : (e : SlateDBError) → refusal ≡ Some e →
      (result ≡ Err e) ⊎ (result ≡ Err OutOfMemory)
  pub cause : IfErr result (λ e. (e ≡ OutOfMemory) ⊎ (refusal ≡ Some e) ⊎ IsCallback before after e)
  pub unasked : (e : SlateDBError) → refusal ≡ Some e → same_operator

abbrev pub with_prefixes : PreparedWith → List (List ℕ) → List (List ℕ)
with_prefixes w recorded = keys_set (recorded ++ prefixes w.segments w.batch.ops)

abbrev pub with_rows : PreparedWith → ℕ → LayersModel → LayersModel
with_rows w seq y = record y {
  active = put_rows y.active
      (commit_rows (operator_at w.combine) w.default_millis seq w.now w.batch.ops);
}

-- ---- the manager

abbrev pub HasEnded : List ℕ → ℕ → Manager → Manager → Type 0
HasEnded id seq old new =
    new ≡ record old { last = seq; active = without id old.active; kept = new.kept }

abbrev pub StandsEnded : List ℕ → ℕ → Manager → Manager → Type 0
StandsEnded id seq old new = (cs : List Commit) (c : Commit) →
    IsCommitOf seq (writes_at (find_named id old.active)) c → StandsFor old cs →
    StandsFor new (with_commit cs c (find_named id old.active))

abbrev pub ManagesMade : Manager → List ℕ → ℤ → ℕ → ℕ → List Commit → List (List ℕ × Tx) → Made →
    Type 0
ManagesMade m id now last ids cs ps made = IsManaged m ids (unwrap_or made.seq last)
    (cs ++ commit_made made.seq now made.ops made.tracked) (without id ps)

abbrev pub Manages : Manager → Manager → List ℕ → ℤ → ℕ → Result Made SlateDBError → Type 0
Manages old new id now last result = (ids : ℕ) (cs : List Commit) (ps : List (List ℕ × Tx)) →
    IsManaged old ids last cs ps → IfOk result (ManagesMade new id now last ids cs ps)

abbrev pub HasTracked : ℕ → Manager → Manager → Type 0
HasTracked seq old new = new ≡ record old { last = seq; kept = new.kept }

abbrev pub StandsTracked : ℕ → List (List ℕ) → Manager → Manager → Type 0
StandsTracked seq keys old new = (cs : List Commit) (c : Commit) → IsCommitOf seq keys c →
    StandsFor old cs → StandsFor new (cs ++ c ∷ [])

-- ---- what a commit makes

abbrev pub IsCommitRefusal : Option (List ℕ → Combine) → Segments → List (List ℕ) → Option ℕ → ℤ →
    ℕ → Option ℕ → Ops → SlateDBError → Type 0
IsCommitRefusal o g recorded d now last conflicting ops e = (e ≡ OutOfMemory)
    ⊎ (IsConflict conflicting e ⊎ IsFull last conflicting ops e)
    ⊎ IsTestRefusal o g recorded d now last conflicting ops e

pub record MadeOf (t : Tx) (last : ℕ) (made : Made) : Type 0 where
  pub tracked : made.tracked ≡ tracked_writes t
  pub steps : made.transcript ≡ t.transcript
  pub ops : made.ops ≡ kept_ops t.ops
  pub fine : AreFine made.ops
  pub next : IsNextOf last t.ops made.seq

pub record Makes (o : Option (List ℕ → Combine)) (g : Segments) (d : Option ℕ) (now : ℤ) (t : Tx)
    (last : ℕ) (before after : List (List ℕ)) (old new : LayersModel) (x : Made) : Type 0 where
  pub made : MadeOf t last x
  pub recorded : after ≡ recorded_at g x.seq x.ops before
  pub put : new ≡ put_at (operator_at o) d x.seq now t.ops old

pub record AnswersCommit {A : Type 0} (verdict : Option SlateDBError) (ops : Ops) (before after : ℕ)
    (same_operator : Type 0) (result : Result A SlateDBError) : Type 0 where
  pub decides : Decides verdict (IsShortOrCallback before after) result
  pub asks : AsksNobody verdict ops → same_operator

pub record MakesCommit (o : Option (List ℕ → Combine)) (g : Segments) (d : Option ℕ) (now : ℤ)
    (t : Tx) (last : ℕ) (before after : List (List ℕ)) (old new : LayersModel) (m : Manager)
    (faults_before faults_after : ℕ) (same_operator : Type 0)
    (result : Result Made SlateDBError) : Type 0 where
  pub makes : IfOk result (Makes o g d now t last before after old new)
  pub answer : (cs : List Commit) → StandsFor m cs →
      AnswersCommit (commit_verdict_of (conflict cs t) last t.ops
      (test_refusal o g before d now t.ops)) t.ops faults_before faults_after same_operator result

pub record PutsPrepared (o : Option (List ℕ → Combine)) (g : Segments) (d : Option ℕ) (now : ℤ)
    (ops : Ops) (before after : List (List ℕ)) (old new : LayersModel) (x : Made) : Type 0 where
  pub tested : test_refusal o g before d now ops ≡ None
  pub recorded : after ≡ recorded_at g x.seq x.ops before
  pub put : new ≡ put_at (operator_at o) d x.seq now ops old

pub record LeavesGrown (id : List ℕ) (before after : List (List ℕ)) (old new : LayersModel)
    (m n : Manager) : Type 0 where
  pub segments : after ≡ before
  pub layers : new ≡ old
  pub grown : Grown id m n

pub record PutsOwn (w : PreparedWith) (id : List ℕ) (seq : ℕ) (before after : List (List ℕ))
    (old new : LayersModel) (m n : Manager) (result : Result Ops SlateDBError) : Type 0 where
  pub recorded : OnOk result (after ≡ with_prefixes w before)
  pub put : OnOk result (new ≡ with_rows w seq old)
  pub ops : IfOk result (λ ops. ops ≡ w.batch.ops)
  pub fine : OnOk result (AreFine w.batch.ops)
  pub committed : OnOk result (HasEnded id seq m n)
  pub stands : OnOk result (StandsEnded id seq m n)
  pub same_segments : OnErr result (after ≡ before)
  pub same_layers : OnErr result (new ≡ old)
  pub same : OnErr result (n ≡ m)

-- ---- a batch that commits by itself

abbrev pub IsAloneRefusal : Option SlateDBError → LogModel → SlateDBError → Type 0
IsAloneRefusal refusal l e = (e ≡ OutOfMemory) ⊎ (refusal ≡ Some e)
    ⊎ ((e ≡ LimitReached LIMIT) × (LIMIT < held_by l + 1) × (refusal ≡ None))

pub record PutsAlone (w : PreparedWith) (seq : ℕ) (before after : List (List ℕ))
    (old new : LayersModel) (m n : Manager) : Type 0 where
  pub tested : whole_refusal w before ≡ None
  pub recorded : after ≡ with_prefixes w before
  pub put : new ≡ with_rows w seq old
  pub stands : StandsTracked seq (batch_keys w.batch.ops) m n
