use Rattle.std.proofs.Common.{◌≡◌, ℕ, [], Some, None, refl, ap, sym, subst, ◌∙◌, length}
use Rattle.std.proofs.lemmas.Result.{err_from_is_err_and, IfOk-from_err}
use Rattle.slate_txn.specs.Open.{least_start}
use Rattle.slate_txn.specs.Places.{above_install}
use Rattle.slate_txn.specs.State.{last_of}
use Rattle.slate_db.specs.declared.flight.Flight.{Flight}
use Rattle.slate_db.specs.Flying.{IsTaken, TakesOff}
use Rattle.slate_db.specs.Layers.{LayersModel}
use Rattle.slate_db.specs.Model.{CoreModel}
use Rattle.slate_db.specs.Sound.{IsKept}
use Rattle.slate_db.specs.View.{view_of, unseen_of, IsWholeInside}
use Rattle.slate_db.proofs.Flights.{above_none, is_taken, takes_off}
use Rattle.slate_db.proofs.Flushes.{none_frozen, some_frozen}
use Rattle.slate_db.proofs.engine.Core.take_frozen.Goals as goal

some_none : {X : Type 0} (x : X) → Some x ≡ None → ⊥
some_none x e = cc e

-- the barrier
abbrev start : CoreModel → ℕ
start c = least_start (last_of c.settings.start_seq c.state.commits) c.state

pub returns-then-is_empty : goal.returns-then-is_empty
returns-then-is_empty c = record {
  same = refl;
  off = tt;
  tied = tt;
  idle = λ none. subst (λ (v : CoreModel). above_install v.events ≡ []) c.self.view_is
      (above_none (view_of c.self.inside) (unseen_of c.self.inside) c.self.invariant (ap (λ (v : CoreModel). v.active) c.self.view_is ∙ c.requires)
      (sym c.frozen.ensures ∙ none_frozen c.frozen.result.now c.frozen.result.now c.is_empty.result c.is_empty.ensures c.if-is_empty.true refl));
  cause = tt;
}

pub invariant_of-self : goal.invariant_of-self
invariant_of-self c = subst (λ (y : LayersModel). IsWholeInside (record c.self.inside { layers = y })) (sym c.share_frozen.ensures.same) c.self.invariant

pub invariant_of-self-2 : goal.invariant_of-self-2
invariant_of-self-2 c = subst (λ (y : LayersModel). IsWholeInside (record c.self.inside { layers = y })) (sym c.share_frozen.ensures.same) c.self.invariant

pub returns-in_err-tables : goal.returns-in_err-tables
returns-in_err-tables c =
    let p = err_from_is_err_and c.from_residual.result c.from_residual.ensures.1 in
    record {
      same = ap (λ (y : LayersModel). view_of (record c.self.inside { layers = y })) c.share_frozen.ensures.same ∙ c.self.view_is;
      off = IfOk-from_err c.from_residual.result _ c.from_residual.ensures.0;
      tied = IfOk-from_err c.from_residual.result _ c.from_residual.ensures.0;
      idle = IfOk-from_err c.from_residual.result _ c.from_residual.ensures.0;
      cause = rw (p.1, p.2) refl;
    }

pub returns : goal.returns
returns c =
    let f : Flight = record { number = c.next_install.result; barrier = c.barrier-barrier.result; through = c.last.result; tables = length c.as_slice.result.now; taken = c.of.result } in
    let tables = c.in_ok-tables.tables.items in
    let idle = ap (λ (v : CoreModel). v.active) c.self.view_is ∙ c.requires in
    let off : TakesOff f tables (view_of c.self.inside) = takes_off (view_of c.self.inside) (unseen_of c.self.inside) f tables c.self.invariant idle
    (some_frozen c.frozen.result.now c.frozen.result.now c.is_empty.result (view_of c.self.inside).frozen c.is_empty.ensures c.if-is_empty.false refl c.frozen.ensures)
    c.next_install.ensures (c.barrier-barrier.ensures ∙ sym (ap start c.self.view_is)) c.last.ensures (ap length c.as_slice.ensures.value) (ap (λ v. v.items) c.of.ensures) c.in_ok-tables.ensures.shared in
    record {
      same = ap (λ (y : LayersModel). view_of (record c.self.inside { layers = y })) c.share_frozen.ensures.same ∙ c.self.view_is;
      off = subst (λ (v : CoreModel). TakesOff f tables v) c.self.view_is off;
      tied = λ m kept. subst (λ (v : CoreModel). IsTaken m f v) c.self.view_is (is_taken m (view_of c.self.inside) (unseen_of c.self.inside) f tables c.self.invariant idle off (subst (IsKept m) (sym c.self.view_is) kept));
      idle = λ none. absurd (some_none (f, c.in_ok-tables.tables) none);
      cause = tt;
    }
