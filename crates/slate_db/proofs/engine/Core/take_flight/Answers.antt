use Rattle.std.proofs.Common.{◌≡◌, [], None, ap, sym, subst, ◌∙◌, inl, inr}
use Rattle.std.specs.Prelude.{IfSome}
use Rattle.std.proofs.lemmas.Result.{err_from_is_err_and, IfOk-from_err}
use Rattle.slate_txn.specs.Places.{above_install}
use Rattle.slate_txn.specs.State.{last_of}
use Rattle.slate_db.specs.Flying.{IsTaken, TakesOff}
use Rattle.slate_db.specs.Frozen.{IsFrozen}
use Rattle.slate_db.specs.Meaning.{Meaning}
use Rattle.slate_db.specs.Model.{CoreModel}
use Rattle.slate_db.specs.Sound.{IsKept}
use Rattle.slate_db.proofs.Flights.{frozen_newest}
use Rattle.slate_db.proofs.Flushes.{frozen_idle}
use Rattle.slate_db.proofs.engine.Core.take_flight.Goals as goal

pub take_frozen-requires : goal.take_frozen-requires
take_frozen-requires c = frozen_idle c.args.self.now c.freeze.new.self c.in_ok-freeze.ensures.event

pub returns : goal.returns
returns c = record {
  frozen = subst (IsFrozen c.args.self.now) (sym c.take_frozen.ensures.same) c.in_ok-freeze.ensures.event;
  newest = c.last.ensures ∙ c.self.invariant.log.last ∙ ap (λ (v : CoreModel). last_of v.settings.start_seq v.state.commits) (c.self.view_is ∙ c.take_frozen.ensures.same) ∙ frozen_newest c.args.self.now c.freeze.new.self c.in_ok-freeze.ensures.event;
  off = subst (λ (v : CoreModel). IfSome c.in_ok-taken.taken (λ x. TakesOff x.0 x.1.items v)) (sym c.take_frozen.ensures.same) c.in_ok-taken.ensures.off;
  tied = subst (λ (v : CoreModel). IfSome c.in_ok-taken.taken (λ x. (m : Meaning) → IsKept m v → IsTaken m x.0 v)) (sym c.take_frozen.ensures.same) c.in_ok-taken.ensures.tied;
  idle = subst (λ (v : CoreModel). c.in_ok-taken.taken ≡ None → above_install v.events ≡ []) (sym c.take_frozen.ensures.same) c.in_ok-taken.ensures.idle;
  kept = λ m k. subst (λ (v : CoreModel). IsKept m v) (sym c.take_frozen.ensures.same) (c.in_ok-freeze.ensures.kept m k);
  refused = tt;
  cause = tt;
}

pub returns-in_err-freeze : goal.returns-in_err-freeze
returns-in_err-freeze c =
    let p = err_from_is_err_and c.from_residual.result c.from_residual.ensures.1 in
    record {
      frozen = IfOk-from_err c.from_residual.result _ c.from_residual.ensures.0;
      newest = IfOk-from_err c.from_residual.result _ c.from_residual.ensures.0;
      off = IfOk-from_err c.from_residual.result _ c.from_residual.ensures.0;
      tied = IfOk-from_err c.from_residual.result _ c.from_residual.ensures.0;
      idle = IfOk-from_err c.from_residual.result _ c.from_residual.ensures.0;
      kept = λ m k. subst (λ (v : CoreModel). IsKept m v) (sym c.in_err-freeze.ensures.same) k;
      refused = rw p.1 (inl c.in_err-freeze.ensures.same);
      cause = rw (p.1, p.2) c.in_err-freeze.ensures.cause;
    }

pub returns-in_err-taken : goal.returns-in_err-taken
returns-in_err-taken c =
    let p = err_from_is_err_and c.from_residual-in_err-taken.result c.from_residual-in_err-taken.ensures.1 in
    record {
      frozen = IfOk-from_err c.from_residual-in_err-taken.result _ c.from_residual-in_err-taken.ensures.0;
      newest = IfOk-from_err c.from_residual-in_err-taken.result _ c.from_residual-in_err-taken.ensures.0;
      off = IfOk-from_err c.from_residual-in_err-taken.result _ c.from_residual-in_err-taken.ensures.0;
      tied = IfOk-from_err c.from_residual-in_err-taken.result _ c.from_residual-in_err-taken.ensures.0;
      idle = IfOk-from_err c.from_residual-in_err-taken.result _ c.from_residual-in_err-taken.ensures.0;
      kept = λ m k. subst (λ (v : CoreModel). IsKept m v) (sym c.take_frozen.ensures.same) (c.in_ok-freeze.ensures.kept m k);
      refused = rw p.1 (inr (subst (IsFrozen c.args.self.now) (sym c.take_frozen.ensures.same) c.in_ok-freeze.ensures.event));
      cause = rw (p.1, p.2) (inl c.in_err-taken.ensures.cause);
    }
