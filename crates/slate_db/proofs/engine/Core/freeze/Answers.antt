use Rattle.std.proofs.Common.{◌≡◌, [], refl, ap, sym, subst, ◌∙◌, inr, true, false, inl, Err}
use Rattle.std.proofs.lemmas.Result.{IfOk-from_err, err_from_is_err_and}
use Rattle.slate_txn.specs.declared.line.Line.TheVariants as lines
use Rattle.slate_txn.specs.Places.{IsQuiet}
use Rattle.slate_txn.specs.Reply.{Frozen}
use Rattle.slate_txn.specs.State.{last_of}
use Rattle.slate_txn.specs.Step.{step}
use Rattle.slate_db.specs.declared.engine.Core.TheInside.{Inside}
use Rattle.slate_db.specs.Layers.{AreLayers, LayersModel}
use Rattle.slate_db.specs.Log.{IsLog, LogModel, with_freeze}
use Rattle.slate_db.specs.Meaning.{rules_in}
use Rattle.slate_db.specs.Model.{CoreModel}
use Rattle.slate_db.specs.View.{view_of, unseen_of, IsWholeInside}
use Rattle.slate_db.specs.Sound.{IsKept}
use Rattle.slate_db.specs.Vouched.{IsVouchedFor}
use Rattle.slate_db.proofs.Calls.{frozen_is, layers_frozen_of, past_place, placed, room_to_freeze, unseen_freeze}
use Rattle.slate_db.proofs.Logs.{has_place}
use Rattle.slate_db.proofs.Opened.{stay_same, stay_state}
use Rattle.slate_db.proofs.Quiet.{quiet_frozen}
use Rattle.slate_db.proofs.Wholes.{after_freeze, whole_freeze, kept_freeze}
use Rattle.slate_db.proofs.engine.Core.freeze.Goals as goal

pub returns-then-is_empty : goal.returns-then-is_empty
returns-then-is_empty c =
    let none : c.args.self.now.active ≡ [] = ap (λ (v : CoreModel). v.active) (sym c.self.view_is) ∙ sym c.active.ensures ∙ c.is_empty.ensures.0 c.if-is_empty.true in
    record {
      step = λ m h. ap (λ n. (c.args.self.now.state, Frozen n)) (sym (c.last.ensures ∙ c.self.invariant.log.last ∙ ap (λ (v : CoreModel). last_of v.settings.start_seq v.state.commits) c.self.view_is));
      event = inl (none, refl);
      quiet = subst (λ (v : CoreModel). IsQuiet v.events) c.self.view_is (c.self.invariant.tied.quiet (sym c.active.ensures ∙ c.is_empty.ensures.0 c.if-is_empty.true));
      idle = λ is. refl;
      vouched = λ m other h. h;
      stay = stay_same c.args.self.now _ refl;
      kept = λ m k. k;
      same = tt;
      limit = λ some past. absurd (some none);
      cause = tt;
    }

pub freeze-requires : goal.freeze-requires
freeze-requires c = record {
  room = c.in_ok-reserve_freeze.ensures.room;
  some = λ e. let t : true ≡ false = sym (c.is_empty.ensures.1 (c.active.ensures ∙ sym (ap (λ (y : LayersModel). y.active) c.reserve_freeze.ensures.value) ∙ e)) ∙ c.if-is_empty.false in cc;
}

pub push_freeze-requires : goal.push_freeze-requires
push_freeze-requires c = has_place c.self.inside.log c.reserve.new.self c.reserve.ensures.value c.in_ok-reserve.ensures.room c.in_ok-place.ensures.place

pub invariant_of-self-2 : goal.invariant_of-self-2
invariant_of-self-2 c =
    subst IsWholeInside (frozen_is c.self.inside c.reserve.new.self c.push_freeze.new.self c.reserve_freeze.new.self c.freeze.new.self c.reserve.ensures.value c.push_freeze.ensures.value c.reserve_freeze.ensures.value c.freeze.ensures.value)
    (whole_freeze (view_of c.self.inside) (unseen_of c.self.inside) c.push_freeze.new.self.spare c.freeze.new.self.for_freeze
    (subst IsLog (c.push_freeze.ensures.value ∙ ap (λ (l : LogModel). with_freeze l c.push_freeze.new.self.spare) c.reserve.ensures.value) c.push_freeze.ensures.whole)
    (subst AreLayers (c.freeze.ensures.value ∙ ap (λ (y : LayersModel). layers_frozen_of y c.freeze.new.self.for_freeze) c.reserve_freeze.ensures.value) c.freeze.ensures.whole) c.self.invariant)

pub returns : goal.returns
returns c =
    let becomes = frozen_is c.self.inside c.reserve.new.self c.push_freeze.new.self c.reserve_freeze.new.self c.freeze.new.self c.reserve.ensures.value c.push_freeze.ensures.value c.reserve_freeze.ensures.value c.freeze.ensures.value in
    let log : c.push_freeze.new.self ≡ with_freeze c.self.inside.log c.push_freeze.new.self.spare = c.push_freeze.ensures.value ∙ ap (λ (l : LogModel). with_freeze l c.push_freeze.new.self.spare) c.reserve.ensures.value in
    record {
      step = (λ m h.
          sym (ap (λ (v : CoreModel). step (rules_in v.settings m h) v.state lines.Freeze) c.self.view_is)
          ∙ (let n = sym c.self.invariant.log.last in λ i. ((view_of c.self.inside).state, Frozen (n i)))
          ∙ (let n = sym (c.last-2.ensures ∙ ap (λ (l : LogModel). l.last) log) in λ i. ((view_of (becomes i)).state, Frozen (n i))));
      event = inr (
        (λ e. let t : true ≡ false = sym (c.is_empty.ensures.1 (c.active.ensures ∙ ap (λ (v : CoreModel). v.active) c.self.view_is ∙ e)) ∙ c.if-is_empty.false in cc),
        sym (ap view_of becomes) ∙ ap (λ (v : CoreModel). after_freeze v c.push_freeze.new.self.spare) c.self.view_is,
      );
      quiet = subst (λ (l : LogModel). IsQuiet l.events) (sym log) (quiet_frozen c.self.inside.log.events);
      idle = λ none. refl;
      stay = stay_state c.args.self.now _ (ap (λ (v : CoreModel). v.state) (sym (ap view_of becomes) ∙ ap (λ (v : CoreModel). after_freeze v c.push_freeze.new.self.spare) c.self.view_is));
      vouched = λ m other. subst (λ (v : CoreModel). IsVouchedFor m c.args.self.now other → IsVouchedFor m v other) (sym (sym (ap view_of becomes) ∙ ap (λ (v : CoreModel). after_freeze v c.push_freeze.new.self.spare) c.self.view_is)) (λ h. h);
      kept = (λ m k.
          subst (λ (s : Inside). IsKept m (view_of s)) becomes
          (kept_freeze m (view_of c.self.inside) c.push_freeze.new.self.spare (subst (λ (v : CoreModel). IsKept m v) (sym c.self.view_is) k)));
      same = tt;
      limit = λ some. placed (view_of c.self.inside) c.args.self.now (unseen_of c.self.inside) 1 c.self.view_is c.self.invariant c.in_ok-place.ensures.place;
      cause = tt;
    }

-- ---- refusals: at most room was made

pub invariant_of-self : goal.invariant_of-self
invariant_of-self c = room_to_freeze c.self.inside c.reserve_freeze.new.self c.reserve_freeze.ensures.value c.self.invariant

pub returns-in_err-reserve_freeze : goal.returns-in_err-reserve_freeze
returns-in_err-reserve_freeze c =
    let p = err_from_is_err_and c.from_residual-in_err-reserve_freeze.result c.from_residual-in_err-reserve_freeze.ensures.1 in
    record {
      step = IfOk-from_err c.from_residual-in_err-reserve_freeze.result _ c.from_residual-in_err-reserve_freeze.ensures.0;
      event = IfOk-from_err c.from_residual-in_err-reserve_freeze.result _ c.from_residual-in_err-reserve_freeze.ensures.0;
      quiet = IfOk-from_err c.from_residual-in_err-reserve_freeze.result _ c.from_residual-in_err-reserve_freeze.ensures.0;
      idle = λ none. let t : true ≡ false = sym (c.is_empty.ensures.1 (c.active.ensures ∙ ap (λ (v : CoreModel). v.active) c.self.view_is ∙ none)) ∙ c.if-is_empty.false in cc;
      vouched = IfOk-from_err c.from_residual-in_err-reserve_freeze.result _ c.from_residual-in_err-reserve_freeze.ensures.0;
      kept = IfOk-from_err c.from_residual-in_err-reserve_freeze.result _ c.from_residual-in_err-reserve_freeze.ensures.0;
      stay = stay_same c.args.self.now _ (unseen_freeze c.self.inside c.reserve_freeze.new.self c.reserve_freeze.ensures.value ∙ c.self.view_is);
      same = rw p.1 (unseen_freeze c.self.inside c.reserve_freeze.new.self c.reserve_freeze.ensures.value ∙ c.self.view_is);
      limit = λ some. placed (view_of c.self.inside) c.args.self.now (unseen_of c.self.inside) 1 c.self.view_is c.self.invariant c.in_ok-place.ensures.place;
      cause = rw (p.1, p.2) (inl refl);
    }

pub invariant_of-self-in_err-reserve : goal.invariant_of-self-in_err-reserve
invariant_of-self-in_err-reserve c =
    subst IsWholeInside (ap (λ (l : LogModel). record c.self.inside { log = l; layers = c.reserve_freeze.new.self }) (sym c.in_err-reserve.ensures.same))
    (room_to_freeze c.self.inside c.reserve_freeze.new.self c.reserve_freeze.ensures.value c.self.invariant)

pub returns-in_err-reserve : goal.returns-in_err-reserve
returns-in_err-reserve c =
    let p = err_from_is_err_and c.from_residual-in_err-reserve.result c.from_residual-in_err-reserve.ensures.1 in
    record {
      step = IfOk-from_err c.from_residual-in_err-reserve.result _ c.from_residual-in_err-reserve.ensures.0;
      event = IfOk-from_err c.from_residual-in_err-reserve.result _ c.from_residual-in_err-reserve.ensures.0;
      quiet = IfOk-from_err c.from_residual-in_err-reserve.result _ c.from_residual-in_err-reserve.ensures.0;
      idle = λ none. let t : true ≡ false = sym (c.is_empty.ensures.1 (c.active.ensures ∙ ap (λ (v : CoreModel). v.active) c.self.view_is ∙ none)) ∙ c.if-is_empty.false in cc;
      vouched = IfOk-from_err c.from_residual-in_err-reserve.result _ c.from_residual-in_err-reserve.ensures.0;
      kept = IfOk-from_err c.from_residual-in_err-reserve.result _ c.from_residual-in_err-reserve.ensures.0;
      stay = stay_same c.args.self.now _ (ap (λ (l : LogModel). view_of (record c.self.inside { log = l; layers = c.reserve_freeze.new.self })) c.in_err-reserve.ensures.same ∙ unseen_freeze c.self.inside c.reserve_freeze.new.self c.reserve_freeze.ensures.value ∙ c.self.view_is);
      same = rw p.1 (ap (λ (l : LogModel). view_of (record c.self.inside { log = l; layers = c.reserve_freeze.new.self })) c.in_err-reserve.ensures.same ∙ unseen_freeze c.self.inside c.reserve_freeze.new.self c.reserve_freeze.ensures.value ∙ c.self.view_is);
      limit = λ some. placed (view_of c.self.inside) c.args.self.now (unseen_of c.self.inside) 1 c.self.view_is c.self.invariant c.in_ok-place.ensures.place;
      cause = rw (p.1, p.2) (inl refl);
    }

pub returns-in_err-place : goal.returns-in_err-place
returns-in_err-place c =
    let p = err_from_is_err_and c.from_residual.result c.from_residual.ensures.1 in
    let limit = c.in_err-place.ensures.limit in
    record {
      step = IfOk-from_err c.from_residual.result _ c.from_residual.ensures.0;
      event = IfOk-from_err c.from_residual.result _ c.from_residual.ensures.0;
      quiet = IfOk-from_err c.from_residual.result _ c.from_residual.ensures.0;
      idle = λ none. let t : true ≡ false = sym (c.is_empty.ensures.1 (c.active.ensures ∙ ap (λ (v : CoreModel). v.active) c.self.view_is ∙ none)) ∙ c.if-is_empty.false in cc;
      vouched = IfOk-from_err c.from_residual.result _ c.from_residual.ensures.0;
      kept = IfOk-from_err c.from_residual.result _ c.from_residual.ensures.0;
      stay = stay_same c.args.self.now _ refl;
      same = rw p.1 refl;
      limit = λ some past. p.1 ∙ ap Err (p.2 ∙ limit.0);
      cause = rw (p.1, p.2) (inr (limit.0, past_place (view_of c.self.inside) c.args.self.now (unseen_of c.self.inside) 1 c.self.view_is c.self.invariant limit.1));
    }
