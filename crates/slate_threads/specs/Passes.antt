-- What a caller knows of a pass and of its own commits. o, m: the database's options, and what
-- its parts mean; old, new: the pass before and after a call
--     PassIsVouched o m p      what its own commits were answered is vouched
--     PassIsAlone o m p      each serializable commit of its own would read the same just before
--             it, unless another since its begin wrote what it read and doesn't track it
--     PassIsOfKind kind p      each commit of its own is of the kind, and no write is its own
--     Commits o old new      it has one place more, which has the commit of an attempt
--     CommitsVouched o m old new      so it has, and the answers are those of a reader at its begin
--     Writes old new result      it has one place more, which has a write, or none
--     Joins old other new      it takes in another pass
--     IsWholeCopy o p copy core      a copy of the journal, made just before the core was taken out
--     IsVouchedCopy o m es      all that a journal's commits were answered is vouched, so that each
--             serializable one would read the same just before it, as for PassIsAlone
use Rattle.std.specs.Prelude.{◌≡◌, ℕ, List, ◌++◌, Option, Result, ℤ}
use mathlib.Core.List.{IsPrefix}
use Rattle.slate_types.specs.declared.config.IsolationLevel.{IsolationLevel}
use Rattle.slate_types.specs.declared.config.Options.{Options}
use Rattle.slate_types.specs.declared.error.SlateDBError.{SlateDBError}
use Rattle.slate_mem.specs.Batch.{Ops}
use Rattle.slate_txn.specs.declared.event.Event.{Event}
use Rattle.slate_txn.specs.declared.event.TranscriptStep.{TranscriptStep}
use Rattle.slate_txn.specs.Audited.{Kind}
use Rattle.slate_txn.specs.Replay.{IsLegal}
use Rattle.slate_txn.specs.Settings.{settings_of}
use Rattle.slate_txn.specs.Vouched.{AreAlone, AreVouched}
use Rattle.slate_db.specs.Meaning.{Meaning, rules_of}
use Rattle.slate_shared.specs.Ended.{behind_write, own_behind}
use Rattle.slate_shared.specs.Passes.{Opened, PassModel}
use Rattle.slate_shared.specs.Shared.{IsOwner, OwnsAll, all_parts}
use Rattle.slate_steps.specs.Attempts.{HasCommittedBehind, IsAttempt, IsVouchedThere}
use Rattle.slate_threads.specs.Own.{OwnAreAlone, OwnAreOfKind, OwnAreVouched}

abbrev pub PassIsVouched : Options → Meaning → PassModel → Type 0
PassIsVouched o m p = OwnAreVouched (rules_of (settings_of o) m) p.own p.seen

abbrev pub PassIsAlone : Options → Meaning → PassModel → Type 0
PassIsAlone o m p = OwnAreAlone (rules_of (settings_of o) m) p.own p.seen

abbrev pub PassIsOfKind : Kind → PassModel → Type 0
PassIsOfKind kind p = OwnAreOfKind kind p.own p.seen

-- from: what the pass had seen at the begin
pub record Commits (o : Options) (old new : PassModel) : Type 0 where
  pub from : List Event
  pub level : IsolationLevel
  pub steps : List TranscriptStep
  pub txn : Opened
  pub seq : Option ℕ
  pub now : ℤ
  pub attempt : IsAttempt o from level steps txn
  pub committed : HasCommittedBehind o txn seq now old new
  pub legal : IsLegal o.start_seq new.seen

-- by the journal that is seen after the commit
pub record CommitsVouched (o : Options) (m : Meaning) (old new : PassModel) : Type 0 where
  pub commit : Commits o old new
  pub answers : IsVouchedThere o m (record commit.txn { seen = new.seen })

-- before: the journal after which it was written
pub record Writes (old new : PassModel) (result : Result (Option ℕ) SlateDBError) : Type 0 where
  pub now : ℤ
  pub ops : Ops
  pub before : List Event
  pub seen : IsPrefix old.seen before
  pub after : new.seen ≡ behind_write before now ops result
  pub own : new.own ≡ own_behind old.own before result

pub record Joins (old other new : PassModel) : Type 0 where
  pub seen : IsPrefix old.seen new.seen
  pub other_seen : IsPrefix other.seen new.seen
  pub own : new.own ≡ old.own ++ other.own

pub record IsWholeCopy (o : Options) (p : PassModel) (copy core : List Event) : Type 0 where
  pub legal : IsLegal o.start_seq copy
  pub seen : IsPrefix p.seen copy
  pub begins : IsPrefix copy core
  pub own : IsOwner p.own copy
  pub whole : p.parts ≡ all_parts → OwnsAll p.own copy

pub record IsVouchedCopy (o : Options) (m : Meaning) (es : List Event) : Type 0 where
  pub vouched : AreVouched (rules_of (settings_of o) m) es
  pub alone : AreAlone (rules_of (settings_of o) m) es
