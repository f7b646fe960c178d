-- Where an attempt is committed in a queue's journal: its answers are those of a reader just before the commit, and the journal stays a queue's.
use Rattle.std.proofs.Common.{◌≡◌, ℕ, ℤ, List, [], ◌∷◌, ◌++◌, Option, Some, None, append-nil, refl, sym, ap, subst, ◌∙◌}
use Rattle.slate_types.specs.declared.config.IsolationLevel.TheVariants.{SerializableSnapshot}
use Rattle.slate_types.specs.declared.config.Options.{Options}
use Rattle.slate_mem.specs.Batch.{Ops, batch_keys, kept_ops}
use Rattle.slate_txn.specs.declared.event.Event.{Event}
use Rattle.slate_txn.specs.declared.event.Event.TheVariants as events
use Rattle.slate_txn.specs.declared.event.TranscriptStep.{TranscriptStep}
use Rattle.slate_txn.specs.Alone.{IsAlone}
use Rattle.slate_txn.specs.Audited.{AreOfKind, AreOfKindFrom, IsOfKindAt, IsOfKindBy}
use Rattle.slate_txn.specs.Laws.{Counts}
use Rattle.slate_txn.specs.Named.{find_named}
use Rattle.slate_txn.specs.Replay.{IsLegal, apply, apply_all, replay}
use Rattle.slate_txn.specs.Settings.{settings_of}
use Rattle.slate_txn.specs.State.{Commit, Rules, State, Tx, begun, last_of, opening}
use Rattle.slate_txn.specs.Tracking.{reads_of}
use Rattle.slate_txn.specs.Vouched.{AreVouched, AreVouchedFrom, VouchedAt}
use Rattle.slate_txn.proofs.PlaceLaws.{at_its_place}
use Rattle.slate_txn.proofs.SequenceLaws.{legal_counts}
use Rattle.slate_db.specs.Meaning.{Meaning, rules_of}
use Rattle.slate_shared.specs.Passes.{Opened, PassModel}
use Rattle.slate_steps.specs.Attempts.{HasCommittedBehind, IsAttempt, IsVouchedThere}
use Rattle.slate_steps.proofs.Attempts.{applied_both, attempt_ops, attempt_steps}
use Rattle.slate_steps.proofs.OpenThere.{committed_before, committed_open, committed_vouched}
use Rattle.slate_queue.specs.Jobs.{Answer, Call}
use Rattle.slate_queue.specs.Commits.{IsQueueCommit}
use Rattle.slate_queue.specs.OnPass.{AnswersOn}
use Rattle.slate_queue.specs.Standing.{Stands}
use Rattle.slate_queue.proofs.Journals.{TrackAll, all_keys, more_tracked, track_all}
use Rattle.slate_queue.proofs.Performing.{Performs}

-- ---- the commits of a queue's journal track all their keys

keys_by : (x : Option Tx) (n : ℕ) (now : ℤ) (ops : Ops) (tracked : List (List ℕ)) (ts : List TranscriptStep) → IsOfKindBy IsQueueCommit x (Some n) now ops tracked ts → tracked ≡ batch_keys ops
keys_by None n now ops tracked ts h = absurd h
keys_by (Some t) n now ops tracked ts h = all_keys now ops tracked ts h.does

tracked_by : (s : State) (e : Event) → IsOfKindAt IsQueueCommit s e → TrackAll s.commits → TrackAll (apply s e).commits
tracked_by s (events.Begin id level start) is h = h
tracked_by s (events.End id) is h = h
tracked_by s (events.Commit id None now ops tracked ts) is h = subst TrackAll (sym (append-nil s.commits)) h
tracked_by s (events.Commit id (Some n) now ops tracked ts) is h = more_tracked s.commits (record { seq = n; now = now; ops = ops; tracked = tracked }) h (keys_by (find_named id s.txns) n now ops tracked ts is)
tracked_by s (events.Write n now ops) is h = absurd is
tracked_by s events.Freeze is h = h
tracked_by s (events.Install through tables) is h = h
tracked_by s (events.Snapshot id n) is h = h
tracked_by s (events.Release id) is h = h

tracked_from : (es : List Event) (s : State) → AreOfKindFrom IsQueueCommit s es → TrackAll s.commits → TrackAll (apply_all s es).commits
tracked_from [] s kind h = h
tracked_from (e ∷ es) s kind h = tracked_from es (apply s e) kind.1 (tracked_by s e kind.0 h)

one_more_of : (s : State) (es : List Event) (e : Event) → AreOfKindFrom IsQueueCommit s es → IsOfKindAt IsQueueCommit (apply_all s es) e → AreOfKindFrom IsQueueCommit s (es ++ (e ∷ []))
one_more_of s [] e are is = (is, tt)
one_more_of s (x ∷ es) e are is = (are.0, one_more_of (apply s x) es e are.1 is)

vouched_more : (r : Rules) (s : State) (es : List Event) (e : Event) → AreVouchedFrom r s es → VouchedAt r (apply_all s es) e → AreVouchedFrom r s (es ++ (e ∷ []))
vouched_more r s [] e are is = (is, tt)
vouched_more r s (x ∷ es) e are is = (are.0, vouched_more r (apply s x) es e are.1 is)

-- ---- the commit of an attempt

module _ (o : Options) (m : Meaning) (from : List Event) (ts : List TranscriptStep) (t : Opened) (a : IsAttempt o from SerializableSnapshot ts t) (seq : ℕ) (now : ℤ) (old new : PassModel) (h : HasCommittedBehind o t (Some seq) now old new) (legal : IsLegal o.start_seq new.seen) where
  abbrev rs : Rules
  rs = rules_of (settings_of o) m

  abbrev made : Commit
  made = record { seq = seq; now = now; ops = kept_ops t.tx.ops; tracked = batch_keys t.tx.ops }

  abbrev event : Event
  event = events.Commit t.id (Some seq) now (kept_ops t.tx.ops) (batch_keys t.tx.ops) t.tx.transcript

  stood_open : find_named t.id (replay h.before).txns ≡ Some (begun SerializableSnapshot t.tx.begin)
  stood_open = committed_open o from SerializableSnapshot ts t a (Some seq) now old new h legal

  counts : Counts o.start_seq (replay h.before).commits
  counts = legal_counts o.start_seq h.before opening [] tt (committed_before o from SerializableSnapshot ts t a (Some seq) now old new h legal)

  one_more : (replay new.seen).commits ≡ (replay h.before).commits ++ (made ∷ [])
  one_more = ap (λ (l : List Event). (replay l).commits) h.after ∙ ap (λ (s : State). s.commits) (applied_both opening h.before (event ∷ []))

  alone_placed : IsVouchedThere o m t → AreOfKind IsQueueCommit h.before → IsAlone rs (replay h.before).commits (last_of o.start_seq (replay h.before).commits) ts
  alone_placed v kind =
      subst (IsAlone rs (replay h.before).commits (last_of o.start_seq (replay h.before).commits)) (attempt_steps o from SerializableSnapshot ts t a)
      (at_its_place rs h.before [] t.id (Some seq) now (kept_ops t.tx.ops) (batch_keys t.tx.ops) t.tx.transcript (begun SerializableSnapshot t.tx.begin)
      (subst (λ (l : List Event). IsLegal o.start_seq l) h.after legal) (committed_vouched o from SerializableSnapshot ts t a (Some seq) now old new h legal m v) stood_open refl
      (track_all (replay h.before).commits t.tx.begin (reads_of t.tx.transcript) (tracked_from h.before opening kind tt)))

  pub queue_more : IsQueueCommit SerializableSnapshot now (kept_ops t.tx.ops) (batch_keys t.tx.ops) t.tx.transcript → AreOfKind IsQueueCommit h.before → AreOfKind IsQueueCommit new.seen
  queue_more is are =
      subst (AreOfKind IsQueueCommit) (sym h.after)
      (one_more_of opening h.before event are
      (subst (λ (x : Option Tx). IsOfKindBy IsQueueCommit x (Some seq) now (kept_ops t.tx.ops) (batch_keys t.tx.ops) t.tx.transcript) (sym stood_open) is))

  -- alone: by the journal that is seen then
  pub answers_on : (call : Call) (answer : Answer) → Performs call answer ts → IsVouchedThere o m t → IsVouchedThere o m (record t { seen = new.seen }) → IsAlone rs (replay new.seen).commits t.tx.begin ts →
      AnswersOn call answer o m t h.before new.seen
  answers_on call answer performs v vouched alone = record {
    vouched = vouched;
    journal = λ are. subst (AreVouched rs) (sym h.after) (vouched_more rs opening h.before event are (committed_vouched o from SerializableSnapshot ts t a (Some seq) now old new h legal m v));
    begun = λ q stands. performs.tells rs (replay new.seen).commits t.tx.begin alone q stands;
    placed = λ kind q stands.
        let does = performs.places rs (replay h.before).commits made q counts h.next.0 (ap kept_ops (attempt_ops o from SerializableSnapshot ts t a)) stands (alone_placed v kind) in
        (does.0, does.1, subst (λ (cs : List Commit). Stands rs cs does.0) (sym one_more) does.2);
  }
