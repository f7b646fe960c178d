-- The events of lines are vouched: each commit's transcript is that of the state's open transaction.
use Rattle.std.proofs.Common.{◌≡◌, ℕ, Bool, true, false, cond, List, [], ◌∷◌, ◌++◌, bytes_eq, unwrap_or, Option, Some, None, refl, sym, ap, subst, inl}
use Rattle.std.specs.List.{AllByRecursion}
use Rattle.slate_types.specs.declared.types.Ulid.{Ulid}
use Rattle.slate_types.specs.declared.config.IsolationLevel.{IsolationLevel}
use Rattle.slate_mem.specs.Batch.{Ops}
use Rattle.slate_txn.specs.declared.event.Event.{Event}
use Rattle.slate_txn.specs.declared.line.Line.{Line}
use Rattle.slate_txn.specs.declared.line.Line.TheVariants as lines
use Rattle.slate_txn.specs.Named.{find_named}
use Rattle.slate_txn.specs.State.{Rules, Tx, State, NamesStandOnce, opening}
use Rattle.slate_txn.specs.Reply.{Reply, Done, Refused, Begun, SnapshotAt, Committed, Written, Flushed}
use Rattle.slate_txn.specs.Step.{step}
use Rattle.slate_txn.specs.Replay.{apply, apply_all}
use Rattle.slate_txn.specs.Events.{bare_txns, as_replayed, begin_events, commit_events, rollback_events, write_events, flush_events, line_events, all_events}
use Rattle.slate_txn.specs.Vouched.{VouchedBy, AreVouchedFrom}
use Rattle.slate_txn.specs.Laws.{EventsAreVouched}
use Rattle.slate_txn.proofs.StepLaws.{step_keeps}
use Rattle.slate_txn.proofs.NameLaws.{names}
use Rattle.slate_txn.proofs.EventLaws.{agrees_step}
use Rattle.slate_txn.proofs.LegalLaws.{found_bare}
use Rattle.slate_txn.proofs.VouchedLaws.{IsFine, AreFine, fine}

found_is : {X : Type 0} (P : X → Type 0) (k : List ℕ) (x : X) (ps : List (List ℕ × X)) → AllByRecursion (λ p. P p.1) ps → find_named k ps ≡ Some x → P x
found_is P k x [] h e = cc
found_is P k x (p ∷ ps) h e = by (bytes_eq p.0 k) e (found_is P k x ps h.1)
  where
    by : (b : Bool) → cond b (Some p.1) (find_named k ps) ≡ Some x → (find_named k ps ≡ Some x → P x) → P x
    by true f later = subst P (ap (λ o. unwrap_or o p.1) f) h.0
    by false f later = later f

module _ (r : Rules) (tables : List (Ulid × List ℕ)) (s : State) (all : AreFine r s) where
  abbrev Vouched : List Event → Type 0
  Vouched es = AreVouchedFrom r (as_replayed s) es

  open_vouched : (name : List ℕ) (t : Tx) → find_named name s.txns ≡ Some t → VouchedBy r (as_replayed s) (find_named name (bare_txns s.txns)) t.transcript
  open_vouched name t e =
      let one : IsFine r s.commits t = found_is (IsFine r s.commits) name t s.txns all e in
      subst (λ o. VouchedBy r (as_replayed s) o t.transcript) (sym (found_bare name s t e)) one.vouched

  commit_vouched : (name : List ℕ) (o : Option Tx) (a : Reply) → find_named name s.txns ≡ o → Vouched (commit_events name s.now o a)
  commit_vouched name None a e = tt
  commit_vouched name (Some t) (Committed n) e = (open_vouched name t e, tt)
  commit_vouched name (Some t) (Refused d) e = (tt, tt)
  commit_vouched name (Some t) a e = tt

  begin_vouched : (name : List ℕ) (level : IsolationLevel) (a : Reply) → Vouched (begin_events (lines.Begin name level) a)
  begin_vouched name level (Begun m n) = (tt, tt)
  begin_vouched name level a = tt

  snapshot_vouched : (name : List ℕ) (a : Reply) → Vouched (begin_events (lines.Snapshot name) a)
  snapshot_vouched name (SnapshotAt m n) = (tt, tt)
  snapshot_vouched name a = tt

  rollback_vouched : (name : List ℕ) (o : Option Tx) (a : Reply) → Vouched (rollback_events name o a)
  rollback_vouched name (Some t) Done = (tt, tt)
  rollback_vouched name None Done = (tt, tt)
  rollback_vouched name (Some t) a = tt
  rollback_vouched name None a = tt

  write_vouched : (os : Ops) (a : Reply) → Vouched (write_events s.now os a)
  write_vouched os (Written (Some n)) = (tt, tt)
  write_vouched os (Written None) = tt
  write_vouched os a = tt

  flush_vouched : (a : Reply) → Vouched (flush_events tables a)
  flush_vouched (Flushed n) = (tt, (tt, tt))
  flush_vouched a = tt

  line_vouched : (l : Line) (a : Reply) → Vouched (line_events tables s l a)
  line_vouched (lines.Begin name level) a = begin_vouched name level a
  line_vouched (lines.Snapshot name) a = snapshot_vouched name a
  line_vouched (lines.Commit name) a = commit_vouched name (find_named name s.txns) a refl
  line_vouched (lines.Rollback name) a = rollback_vouched name (find_named name s.txns) a
  line_vouched (lines.Write os) a = write_vouched os a
  line_vouched lines.Freeze a = (tt, tt)
  line_vouched lines.Flush a = flush_vouched a
  line_vouched l a = tt

vouched_more : (r : Rules) (s : State) (es more : List Event) → AreVouchedFrom r s es → AreVouchedFrom r (apply_all s es) more → AreVouchedFrom r s (es ++ more)
vouched_more r s [] more h m = m
vouched_more r s (e ∷ es) more h m = (h.0, vouched_more r (apply s e) es more h.1 m)

vouched_after : (r : Rules) (tables : List (Ulid × List ℕ)) (ls : List Line) (s : State) → NamesStandOnce s → AreFine r s → AreVouchedFrom r (as_replayed s) (all_events r tables s ls)
vouched_after r tables [] s once all = tt
vouched_after r tables (l ∷ ls) s once all =
    let here : List Event = line_events tables s l (step r s l).1 in
    let rest : List Event = all_events r tables (step r s l).0 ls in
    vouched_more r (as_replayed s) here rest (line_vouched r tables s all l (step r s l).1)
    (subst (λ t. AreVouchedFrom r t rest) (sym (agrees_step r tables s once l))
    (vouched_after r tables ls (step r s l).0 (step_keeps r NamesStandOnce (names r) s l once) (step_keeps r (AreFine r) (fine r) s l all)))

pub events_are_vouched : EventsAreVouched
events_are_vouched r tables ls = vouched_after r tables ls opening (tt, tt, λ k. inl refl) tt
