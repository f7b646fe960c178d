use Rattle.std.proofs.Common.{◌≡◌, ℕ, List, false, ◌+◌, ◌++◌, ◌∷◌, [], refl, ap, sym, subst, ◌∙◌, inl, inr, arith, Err}
use Rattle.std.specs.List.{AllByRecursion}
use Rattle.std.proofs.lemmas.Result.{IfOk-from_err, err_from_is_err_and}
use Rattle.slate_txn.specs.declared.line.Line.TheVariants as lines
use Rattle.slate_txn.specs.Ids.{snapshot_id, IsSnapshotOf}
use Rattle.slate_txn.specs.Managers.{Snapshots}
use Rattle.slate_txn.specs.Reply.{SnapshotAt}
use Rattle.slate_txn.specs.State.{is_open}
use Rattle.slate_txn.specs.Step.{step}
use Rattle.slate_db.specs.declared.engine.Core.TheInside.{Inside}
use Rattle.slate_db.specs.Log.{IsLog, LogModel}
use Rattle.slate_db.specs.Meaning.{rules_in}
use Rattle.slate_db.specs.Model.{CoreModel}
use Rattle.slate_db.specs.View.{view_of, unseen_of, IsWholeInside}
use Rattle.slate_db.specs.Segmented.{IsSegmented}
use Rattle.slate_db.specs.Sound.{IsKept}
use Rattle.slate_db.specs.Vouched.{IsVouchedFor}
use Rattle.slate_db.proofs.Calls.{event_shown, only_short, past_place, placed, shown_is, shown_more}
use Rattle.slate_db.proofs.Managing.{back_shown, shown_back}
use Rattle.slate_db.proofs.Opened.{has_named, stay_same, stay_shown, unopened}
use Rattle.slate_db.proofs.Segmenting.{segmented_as}
use Rattle.slate_db.proofs.Steps.{step_snapshot}
use Rattle.slate_db.proofs.Wholes.{fresh_shown, kept_snapshot, unbegun_shown, whole_snapshot}
use Rattle.slate_db.proofs.engine.Core.snapshot.Goals as goal

pub push_snapshot-requires-clause-next : goal.push_snapshot-requires-clause-next
push_snapshot-requires-clause-next c = c.in_ok-id.ensures.id ∙ ap (λ n. snapshot_id (n + 1)) c.self.invariant.tied.shown.counted

pub take_back-requires-clause-given : goal.take_back-requires-clause-given
take_back-requires-clause-given c = let more = ap (λ (m : Snapshots). m.ids) c.in_ok-id.ensures.opened.1 in omega (arith, more)

pub take_back-requires-clause-newest : goal.take_back-requires-clause-newest
take_back-requires-clause-newest c = back_shown c.self.inside.snapshots c.new_snapshot.new.self c.in_ok-id.id c.in_ok-id.seq c.in_ok-id.ensures.opened.1 c.in_ok-id.ensures.fresh
    (subst (λ (k : ℕ). AllByRecursion (λ p. IsSnapshotOf k p.0) c.self.inside.snapshots.active) (sym c.self.invariant.tied.shown.counted) c.self.invariant.tied.shown.named)

-- ---- what is opened

pub invariant_of-self-in_default : goal.invariant_of-self-in_default
invariant_of-self-in_default c =
    let id = c.in_ok-id.ensures.id ∙ ap (λ n. snapshot_id (n + 1)) c.self.invariant.tied.shown.counted in
    let at = c.in_ok-id.ensures.opened.0 ∙ c.last.ensures in
    let shown : c.new_snapshot.new.self ≡ shown_more c.self.inside = c.in_ok-id.ensures.opened.1 ∙ (λ i. record c.self.inside.snapshots { ids = c.self.inside.snapshots.ids + 1; active = c.self.inside.snapshots.active ++ ((id i, at i) ∷ []) }) in
    subst IsWholeInside (shown_is c.self.inside c.push_snapshot.new.self c.new_snapshot.new.self c.in_default.ensures.value shown)
    (whole_snapshot (view_of c.self.inside) (unseen_of c.self.inside) c.push_snapshot.new.self.spare (shown_more c.self.inside) refl (subst IsLog c.in_default.ensures.value c.push_snapshot.ensures.whole) c.self.invariant)

pub returns : goal.returns
returns c =
    let id = c.in_ok-id.ensures.id ∙ ap (λ n. snapshot_id (n + 1)) c.self.invariant.tied.shown.counted in
    let at = c.in_ok-id.ensures.opened.0 ∙ c.last.ensures in
    let shown : c.new_snapshot.new.self ≡ shown_more c.self.inside = c.in_ok-id.ensures.opened.1 ∙ (λ i. record c.self.inside.snapshots { ids = c.self.inside.snapshots.ids + 1; active = c.self.inside.snapshots.active ++ ((id i, at i) ∷ []) }) in
    let becomes = shown_is c.self.inside c.push_snapshot.new.self c.new_snapshot.new.self c.in_default.ensures.value shown in
    record {
      step = (λ m h.
          sym (ap (λ (v : CoreModel). step (rules_in v.settings m h) v.state (lines.Snapshot c.in_ok-id.id)) c.self.view_is)
          ∙ (λ i. step (rules_in (view_of c.self.inside).settings m h) (view_of c.self.inside).state (lines.Snapshot (id i)))
          ∙ step_snapshot m (view_of c.self.inside) (unseen_of c.self.inside) c.push_snapshot.new.self.spare c.self.invariant
          ∙ (let ids = sym id in let ats = sym at in λ i. ((view_of (becomes i)).state, SnapshotAt (ids i) (ats i))));
      event = event_shown c.self.inside c.args.self.now c.push_snapshot.new.self c.new_snapshot.new.self c.in_ok-id.id c.in_ok-id.seq c.self.view_is id at c.in_default.ensures.value;
      vouched = (λ m k h.
          subst (λ (s : Inside). IsVouchedFor m (view_of s) k) becomes
          (subst (λ (v : CoreModel). IsVouchedFor m v k) (sym c.self.view_is) h));
      segmented = (λ h z.
          subst (λ (s : Inside). IsSegmented h (view_of s)) becomes
          (segmented_as h (view_of c.self.inside) _ refl refl (subst (λ (v : CoreModel). IsSegmented h v) (sym c.self.view_is) z)));
      kept = (λ m k.
          subst (λ (s : Inside). IsKept m (view_of s)) becomes
          (kept_snapshot m (view_of c.self.inside) c.self.inside.log.last (snapshot_id (c.self.inside.log.snapshot_ids + 1)) c.push_snapshot.new.self.spare (subst (λ (v : CoreModel). IsKept m v) (sym c.self.view_is) k)));
      «open» = has_named _ c.self.inside.snapshots.active c.in_ok-id.id c.in_ok-id.seq c.in_ok-id.ensures.fresh (ap (λ (n : Snapshots). n.active) c.in_ok-id.ensures.opened.1);
      fresh = subst (λ (v : CoreModel). is_open v.state c.in_ok-id.id ≡ false) c.self.view_is (subst (λ (i : List ℕ). is_open (view_of c.self.inside).state i ≡ false) (sym id)
          (unopened (view_of c.self.inside).state _ (unbegun_shown (view_of c.self.inside) (unseen_of c.self.inside) c.self.invariant) (fresh_shown (view_of c.self.inside) (unseen_of c.self.inside) c.self.invariant)));
      stay = stay_shown c.args.self.now _ c.in_ok-id.id c.in_ok-id.seq
          (ap (λ (v : CoreModel). v.state.txns) c.self.view_is)
          (ap (λ (n : Snapshots). n.active) c.in_ok-id.ensures.opened.1 ∙ ap (λ (v : CoreModel). v.state.snapshots ++ ((c.in_ok-id.id, c.in_ok-id.seq) ∷ [])) c.self.view_is);
      same = tt;
      limit = placed (view_of c.self.inside) c.args.self.now (unseen_of c.self.inside) 2 c.self.view_is c.self.invariant c.in_ok-place.ensures.place;
      cause = tt;
    }

-- ---- refusals: nothing is opened

-- the snapshots and the log as before
unopened_parts : (s : Inside) (l : LogModel) (n : Snapshots) → l ≡ s.log → n ≡ s.snapshots → record s { log = l; snapshots = n } ≡ s
unopened_parts s l n log shown = λ i. record s { log = log i; snapshots = shown i }

pub invariant_of-self-in-Err : goal.invariant_of-self-in-Err
invariant_of-self-in-Err c =
    subst IsWholeInside (sym (unopened_parts c.self.inside c.push_snapshot.new.self c.take_back.new.self c.in-Err.ensures.same
    (shown_back c.self.inside.snapshots c.new_snapshot.new.self c.take_back.new.self c.in_ok-id.id c.in_ok-id.seq c.in_ok-id.ensures.opened.1 c.in_ok-id.ensures.fresh c.take_back.ensures))) c.self.invariant

pub returns-in-Err : goal.returns-in-Err
returns-in-Err c =
    record {
      step = tt;
      event = tt;
      vouched = tt;
      segmented = tt;
      kept = tt;
      «open» = tt;
      fresh = tt;
      stay = stay_same c.args.self.now _ (ap view_of (unopened_parts c.self.inside c.push_snapshot.new.self c.take_back.new.self c.in-Err.ensures.same
          (shown_back c.self.inside.snapshots c.new_snapshot.new.self c.take_back.new.self c.in_ok-id.id c.in_ok-id.seq c.in_ok-id.ensures.opened.1 c.in_ok-id.ensures.fresh c.take_back.ensures)) ∙ c.self.view_is);
      same = (ap view_of (unopened_parts c.self.inside c.push_snapshot.new.self c.take_back.new.self c.in-Err.ensures.same
          (shown_back c.self.inside.snapshots c.new_snapshot.new.self c.take_back.new.self c.in_ok-id.id c.in_ok-id.seq c.in_ok-id.ensures.opened.1 c.in_ok-id.ensures.fresh c.take_back.ensures)) ∙ c.self.view_is);
      limit = placed (view_of c.self.inside) c.args.self.now (unseen_of c.self.inside) 2 c.self.view_is c.self.invariant c.in_ok-place.ensures.place;
      cause = inl c.from.ensures;
    }

pub invariant_of-self : goal.invariant_of-self
invariant_of-self c = subst IsWholeInside (ap (λ (n : Snapshots). record c.self.inside { snapshots = n }) (sym c.in_err-id.ensures.same)) c.self.invariant

pub returns-in_err-id : goal.returns-in_err-id
returns-in_err-id c =
    let p = err_from_is_err_and c.from_residual-in_err-id.result c.from_residual-in_err-id.ensures.1 in
    record {
      step = IfOk-from_err c.from_residual-in_err-id.result _ c.from_residual-in_err-id.ensures.0;
      event = IfOk-from_err c.from_residual-in_err-id.result _ c.from_residual-in_err-id.ensures.0;
      vouched = IfOk-from_err c.from_residual-in_err-id.result _ c.from_residual-in_err-id.ensures.0;
      segmented = IfOk-from_err c.from_residual-in_err-id.result _ c.from_residual-in_err-id.ensures.0;
      kept = IfOk-from_err c.from_residual-in_err-id.result _ c.from_residual-in_err-id.ensures.0;
      «open» = IfOk-from_err c.from_residual-in_err-id.result _ c.from_residual-in_err-id.ensures.0;
      fresh = IfOk-from_err c.from_residual-in_err-id.result _ c.from_residual-in_err-id.ensures.0;
      stay = stay_same c.args.self.now _ (ap (λ (n : Snapshots). view_of (record c.self.inside { snapshots = n })) c.in_err-id.ensures.same ∙ c.self.view_is);
      same = rw p.1 (ap (λ (n : Snapshots). view_of (record c.self.inside { snapshots = n })) c.in_err-id.ensures.same ∙ c.self.view_is);
      limit = placed (view_of c.self.inside) c.args.self.now (unseen_of c.self.inside) 2 c.self.view_is c.self.invariant c.in_ok-place.ensures.place;
      cause = rw (p.1, p.2) (inl (only_short (view_of c.self.inside) (unseen_of c.self.inside) _ c.self.invariant c.in_err-id.ensures.cause));
    }

pub returns-in_err-place : goal.returns-in_err-place
returns-in_err-place c =
    let p = err_from_is_err_and c.from_residual.result c.from_residual.ensures.1 in
    let limit = c.in_err-place.ensures.limit in
    record {
      step = IfOk-from_err c.from_residual.result _ c.from_residual.ensures.0;
      event = IfOk-from_err c.from_residual.result _ c.from_residual.ensures.0;
      vouched = IfOk-from_err c.from_residual.result _ c.from_residual.ensures.0;
      segmented = IfOk-from_err c.from_residual.result _ c.from_residual.ensures.0;
      kept = IfOk-from_err c.from_residual.result _ c.from_residual.ensures.0;
      «open» = IfOk-from_err c.from_residual.result _ c.from_residual.ensures.0;
      fresh = IfOk-from_err c.from_residual.result _ c.from_residual.ensures.0;
      stay = stay_same c.args.self.now _ refl;
      same = rw p.1 refl;
      limit = λ past. p.1 ∙ ap Err (p.2 ∙ limit.0);
      cause = rw (p.1, p.2) (inr (limit.0, past_place (view_of c.self.inside) c.args.self.now (unseen_of c.self.inside) 2 c.self.view_is c.self.invariant limit.1));
    }
