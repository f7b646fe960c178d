-- What an attempt at a call on a queue does of a worker's, and what the journal of a queue says.
use Rattle.std.proofs.Common.{◌≡◌, ◌⊎◌, ⊎_elim, inl, inr, ℕ, ℤ, List, [], ◌∷◌, ◌++◌, Option, Some}
use Rattle.std.proofs.Common.{None}
use Rattle.std.proofs.Common.{Result, Ok, Err, refl, subst}
use Rattle.slate_mem.specs.Batch.{batch_keys, kept_ops}
use Rattle.slate_types.specs.Config.{defaults}
use Rattle.slate_types.specs.Outside.{Reach, no_parts}
use Rattle.slate_types.specs.declared.config.IsolationLevel.TheVariants.{SerializableSnapshot}
use Rattle.slate_txn.specs.declared.event.Event.{Event}
use Rattle.slate_txn.specs.Audited.{AreOfKind, TracksAll}
use Rattle.slate_txn.specs.Replay.{IsLegal}
use Rattle.slate_txn.specs.Vouched.{AreVouched}
use Rattle.slate_shared.specs.Passes.{PassModel}
use Rattle.slate_steps.specs.Attempts.{SeesOnly}
use Rattle.slate_queue.specs.declared.claims.Claim.{Claim}
use Rattle.slate_queue.specs.declared.error.QueueError.{QueueError}
use Rattle.slate_queue.specs.Calls.{Form}
use Rattle.slate_queue.specs.Commits.{IsQueueCommit}
use Rattle.slate_queue.specs.Deeds.{Deed, deed_of}
use Rattle.slate_queue.specs.Jobs.{Answer, Call}
use Rattle.slate_queue.specs.Laws.{IsAudited, Shows}
use Rattle.slate_queue.specs.OnPass.{AddsOn, ClaimsOn, CommitsOn, RefusesOn}
use Rattle.slate_queue.proofs.Journals.{all_keys, each_added_once, each_claimed_once}
use Rattle.slate_queue.proofs.Journals.{each_finished_once}
use Rattle.slate_threads.specs.Passes.{Commits, IsVouchedCopy, IsWholeCopy}
use Rattle.slate_threads.specs.Workers.{made_by}
use Rattle.slate_threads.proofs.Serial.{are_serial}
use Rattle.slate_services.specs.Claims.{claims_made}
use Rattle.slate_services.specs.Jobs.{AreJobs, AreNewDeeds, IsNewDeed}
use Rattle.slate_services.specs.Plain.{PlainWorked, plain_rules}
use Rattle.slate_services.proofs.PlainLaws.{AllWorked, checked_empty, copy_of_kind, one_plain}
use Rattle.slate_services.proofs.PlainLaws.{only_plain}

module _ (before after : Reach) (old new : PassModel) where
  abbrev call_commits : (form : Form) (call : Call) (a : Answer) (now : ℤ) →
      CommitsOn form call a now defaults no_parts [] before after old new →
      Commits defaults old new
  call_commits form call a now h = record {
    from = old.seen;
    level = SerializableSnapshot;
    steps = h.steps;
    txn = h.txn;
    seq = Some h.seq;
    now = now;
    attempt = h.attempt;
    committed = h.committed;
    legal = h.legal;
  }

  commit_worked : (form : Form) (call : Call) (a : Answer) (now : ℤ) → before.objects ≡ Some [] →
      (h : CommitsOn form call a now defaults no_parts [] before after old new) →
      IsQueueCommit SerializableSnapshot now (kept_ops h.txn.tx.ops) (batch_keys h.txn.tx.ops)
      h.txn.tx.transcript →
      PlainWorked IsQueueCommit old new 1
  commit_worked form call a now told h is =
      one_plain IsQueueCommit old new (call_commits form call a now h) is
      (λ none. record {
        commit = call_commits form call a now h;
        answers = (h.answers (checked_empty new.seen before after told none)).vouched;
      })

  refused_only : (e : QueueError) → RefusesOn defaults old new e → SeesOnly old new
  refused_only e (inl h) = h.only
  refused_only e (inr (x, is, h)) = h.only

  pub add_worked : (payload : List ℕ) (now : ℤ) (r : Result ℕ QueueError) →
      before.objects ≡ Some [] → AddsOn payload now defaults no_parts [] before after old new r →
      PlainWorked IsQueueCommit old new (made_by r)
  add_worked payload now (Ok id) told h =
      commit_worked _ _ _ now told h.done (record { serializable = refl; does = inl h.done.is.0 })
  add_worked payload now (Err e) told h =
      only_plain IsQueueCommit old new (refused_only e h.refused)

  pub claim_worked : (now : ℤ) (ms : ℕ) (r : Result (Option Claim) QueueError) →
      before.objects ≡ Some [] → ClaimsOn now ms defaults no_parts [] before after old new r →
      PlainWorked IsQueueCommit old new (claims_made r)
  claim_worked now ms (Ok (Some claim)) told h =
      commit_worked _ _ _ now told h.done
      (record { serializable = refl; does = inr (inl h.done.is.0) })
  claim_worked now ms (Ok None) told h = only_plain IsQueueCommit old new h.done.ends.ended.only
  claim_worked now ms (Err e) told h =
      only_plain IsQueueCommit old new (refused_only e h.refused)

-- ---- the journal

tracks_all : TracksAll IsQueueCommit
tracks_all = record {
  serializable = λ level now ops tracked ts h. h.serializable;
  tracks = λ level now ops tracked ts h. all_keys now ops tracked ts h.does;
}

new_deeds : (es : List Event) → IsLegal defaults.start_seq es → AreOfKind IsQueueCommit es →
    AreVouched plain_rules es → AreNewDeeds es
new_deeds es legal queue vouched before later event d is shows = by d shows
  where
    showing : (d : Deed) → deed_of event ≡ Some d → Shows plain_rules before d
    showing d shows = record {
      event = event;
      later = later;
      audited = subst (IsAudited defaults.start_seq) is (record { legal = legal; queue = queue });
      vouched = subst (AreVouched plain_rules) is vouched;
      deed = shows;
    }

    by : (d : Deed) → deed_of event ≡ Some d → IsNewDeed before d
    by (Deed.added id) shows = each_added_once plain_rules before id (showing (Deed.added id) shows)
    by (Deed.claimed id lease) shows =
        each_claimed_once plain_rules before id lease (showing (Deed.claimed id lease) shows)
    by (Deed.finished id lease) shows =
        each_finished_once plain_rules before id lease (showing (Deed.finished id lease) shows)

pub are_jobs : (p : PassModel) (es core : List Event) (made : ℕ) →
    AllWorked IsQueueCommit p made → IsWholeCopy defaults p es core →
    IsVouchedCopy defaults no_parts es → AreJobs plain_rules es
are_jobs p es core made h copy vouched = record {
  deeds = new_deeds es copy.legal queue vouched.vouched;
  queue = queue;
  serial = are_serial plain_rules IsQueueCommit es tracks_all queue vouched.alone;
}
  where
    queue : AreOfKind IsQueueCommit es
    queue = copy_of_kind IsQueueCommit p es core made h copy
