-- The test of a queue's commit, and that the first event that isn't of a kind shows that not all are.
use Rattle.std.proofs.Common.{◌≡◌, inl, inr, ℕ, ℤ, Bool, true, false, List, [], ◌∷◌, ◌++◌, Decides, refl, sym, ◌∙◌, subst}
use Rattle.slate_types.specs.declared.config.IsolationLevel.{IsolationLevel}
use Rattle.slate_types.specs.declared.config.IsolationLevel.TheVariants.{SerializableSnapshot}
use Rattle.slate_mem.specs.Batch.{Ops}
use Rattle.slate_txn.specs.declared.event.TranscriptStep.{TranscriptStep}
use Rattle.slate_txn.specs.declared.event.Event.{Event}
use Rattle.slate_txn.specs.declared.event.Event.TheVariants as events
use Rattle.slate_txn.specs.Named.{find_named}
use Rattle.slate_txn.specs.State.{State, opening}
use Rattle.slate_txn.specs.Replay.{apply, apply_all, replay}
use Rattle.slate_txn.specs.Audited.{Kind, IsOfKindBy, IsOfKindAt, AreOfKindFrom, AreOfKind, IsForeignAt, IsFirstForeign}
use Rattle.slate_queue.specs.Commits.{IsClaim, IsQueueCommit}
use Rattle.slate_queue.specs.Forms.{IsQueueWork, adds_in, finishes_in}
use Rattle.slate_queue.proofs.AddForm.{adds_in_decides}
use Rattle.slate_queue.proofs.FinishForm.{finishes_in_decides}
use Rattle.slate_queue.proofs.FormLaws.{never}

-- ---- one commit

pub does_add : (now : ℤ) (ops : Ops) (tracked : List (List ℕ)) (ts : List TranscriptStep) → adds_in ts ops tracked ≡ true → Decides true (IsQueueWork now ops tracked ts)
does_add now ops tracked ts e = (λ u. inl ((adds_in_decides ts ops tracked).0 e), λ h. refl)

pub does_claim : (now : ℤ) (ops : Ops) (tracked : List (List ℕ)) (ts : List TranscriptStep) → Decides true (IsClaim now ops tracked ts) → Decides true (IsQueueWork now ops tracked ts)
does_claim now ops tracked ts d = (λ u. inr (inl (d.0 u)), λ h. refl)

pub does_finish : (now : ℤ) (ops : Ops) (tracked : List (List ℕ)) (ts : List TranscriptStep) → adds_in ts ops tracked ≡ false → Decides false (IsClaim now ops tracked ts) → Decides (finishes_in ts ops tracked) (IsQueueWork now ops tracked ts)
does_finish now ops tracked ts no_add no_claim = (λ u. inr (inr ((finishes_in_decides ts ops tracked).0 u)), by)
  where
    by : IsQueueWork now ops tracked ts → finishes_in ts ops tracked ≡ true
    by (inl h) = never (sym no_add ∙ (adds_in_decides ts ops tracked).1 h)
    by (inr (inl h)) = never (no_claim.1 h)
    by (inr (inr h)) = (finishes_in_decides ts ops tracked).1 h

pub queue_yes : (level : IsolationLevel) (now : ℤ) (ops : Ops) (tracked : List (List ℕ)) (ts : List TranscriptStep) (b : Bool) → level ≡ SerializableSnapshot → Decides b (IsQueueWork now ops tracked ts) → b ≡ true → IsQueueCommit level now ops tracked ts
queue_yes level now ops tracked ts b is d e = record { serializable = is; does = d.0 e }

pub queue_no : (level : IsolationLevel) (now : ℤ) (ops : Ops) (tracked : List (List ℕ)) (ts : List TranscriptStep) (b : Bool) → Decides b (IsQueueWork now ops tracked ts) → b ≡ false → IsQueueCommit level now ops tracked ts → ⊥
queue_no level now ops tracked ts b d e h = never (sym e ∙ d.1 h.does)

-- ---- a journal

at_event : (kind : Kind) (before : List Event) (e : Event) (later : List Event) (s : State) → AreOfKindFrom kind s (before ++ (e ∷ later)) → IsOfKindAt kind (apply_all s before) e
at_event kind [] e later s h = h.0
at_event kind (x ∷ before) e later s h = at_event kind before e later (apply s x) h.1

not_both : (kind : Kind) (s : State) (e : Event) (n : ℕ) → IsForeignAt kind s e n → IsOfKindAt kind s e → ⊥
not_both kind s (events.Commit id m now ops tracked ts) n f is = f.1 (subst (λ o. IsOfKindBy kind (find_named id s.txns) o now ops tracked ts) f.0 is)
not_both kind s (events.Write m now ops) n f is = is
not_both kind s (events.Begin id level start) n f is = f
not_both kind s (events.End id) n f is = f
not_both kind s events.Freeze n f is = f
not_both kind s (events.Install through tables) n f is = f
not_both kind s (events.Snapshot id m) n f is = f
not_both kind s (events.Release id) n f is = f

pub foreign_refutes : (kind : Kind) (es : List Event) (n : ℕ) → IsFirstForeign kind es n → AreOfKind kind es → ⊥
foreign_refutes kind es n f all =
    not_both kind (replay f.before) f.event n f.foreign (at_event kind f.before f.event f.later opening (subst (AreOfKindFrom kind opening) f.whole all))
