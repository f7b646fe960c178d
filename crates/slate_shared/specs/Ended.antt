-- How a transaction ends, and what a write of its own leaves.
--     end_event id now t r      its event: a commit of the kept ones of its operations, its tracked writes and its transcript, or an end without a commit
--     IsEnding fault m g o now es t r      over the journal before, it is committed or refused as the definition says; fault: a fault that came in the call, or want of memory
--     HasEnded fault m g o now t old new r      so the transaction ended at the end of a journal that begins with what the pass and it had seen; of the pass: all of that journal is seen then, and a commit's place is its own
--     behind_write es now ops r, own_behind own es r      the journal behind a write of these operations: one event more where it has a sequence; the places of a pass then
--     IsWriting fault m g o now es b r      over the journal before, a batch that is to commit by itself is committed or refused as the definition says
--     HasWritten fault m g o now b old new r      so it was written at the end of a journal that begins with what the pass had seen; of the pass as for HasEnded
use Rattle.std.specs.Prelude.{◌≡◌, ℕ, List, [], ◌∷◌, ◌++◌, length, Option, Some, None, Result, Ok, Err, ℤ}
use mathlib.Core.List.{IsPrefix}
use Rattle.slate_types.specs.declared.error.SlateDBError.{SlateDBError}
use Rattle.slate_types.specs.Outside.{Meaning}
use Rattle.slate_mem.specs.Batch.{Ops, kept_ops}
use Rattle.slate_mem.specs.BatchModel.{BatchModel}
use Rattle.slate_mem.specs.KeyTests.{Segments}
use Rattle.slate_txn.specs.Conflict.{tracked_writes}
use Rattle.slate_txn.specs.declared.event.Event.{Event}
use Rattle.slate_txn.specs.declared.event.Event.TheVariants.{End, Commit, Write}
use Rattle.slate_txn.specs.Replay.{replay}
use Rattle.slate_txn.specs.Settings.{Settings}
use Rattle.slate_txn.specs.State.{Tx}
use Rattle.slate_db.specs.Prepared.{IsAccepted, IsDecided}
use Rattle.slate_db.specs.Segmented.{recorded_by}
use Rattle.slate_shared.specs.LockedModel.{IsFull}
use Rattle.slate_shared.specs.Passes.{Opened, PassModel}
use Rattle.slate_shared.specs.Shared.{own_after}

abbrev pub end_event : List ℕ → ℤ → Tx → Result (Option ℕ) SlateDBError → Event
end_event id now t (Ok n) = Commit id n now (kept_ops t.ops) (tracked_writes t) t.transcript
end_event id now t (Err e) = End id

abbrev pub IsEnding : (SlateDBError → Type 0) → Meaning → Segments → Settings → ℤ → List Event → Tx → Result (Option ℕ) SlateDBError → Type 0
IsEnding fault m g o now es t r = IsDecided fault m.combine g o now (recorded_by g (replay es).commits) (replay es).commits t r

pub record HasEnded (fault : SlateDBError → Type 0) (m : Meaning) (g : Segments) (o : Settings) (now : ℤ) (t : Opened) (old new : PassModel) (r : Result (Option ℕ) SlateDBError) : Type 0 where
  pub before : List Event
  pub seen : IsPrefix old.seen before
  pub own_seen : IsPrefix t.seen before
  pub after : new.seen ≡ before ++ end_event t.id now t.tx r ∷ []
  pub own : new.own ≡ own_after old.own (length before) (end_event t.id now t.tx r)
  pub is : IsEnding fault m g o now before t.tx r

abbrev pub behind_write : List Event → ℤ → Ops → Result (Option ℕ) SlateDBError → List Event
behind_write es now ops (Ok (Some n)) = es ++ Write n now ops ∷ []
behind_write es now ops (Ok None) = es
behind_write es now ops (Err e) = es

abbrev pub own_behind : List ℕ → List Event → Result (Option ℕ) SlateDBError → List ℕ
own_behind own es (Ok (Some n)) = own ++ length es ∷ []
own_behind own es (Ok None) = own
own_behind own es (Err e) = own

abbrev pub IsWriting : (SlateDBError → Type 0) → Meaning → Segments → Settings → ℤ → List Event → BatchModel → Result (Option ℕ) SlateDBError → Type 0
IsWriting fault m g o now es b r = IsAccepted fault m.combine g o now (recorded_by g (replay es).commits) (replay es).commits (IsFull 1 es) b r

pub record HasWritten (fault : SlateDBError → Type 0) (m : Meaning) (g : Segments) (o : Settings) (now : ℤ) (b : BatchModel) (old new : PassModel) (r : Result (Option ℕ) SlateDBError) : Type 0 where
  pub before : List Event
  pub seen : IsPrefix old.seen before
  pub after : new.seen ≡ behind_write before now b.ops r
  pub own : new.own ≡ own_behind old.own before r
  pub is : IsWriting fault m g o now before b r
