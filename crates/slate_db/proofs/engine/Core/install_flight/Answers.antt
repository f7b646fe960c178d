use Rattle.std.proofs.Common.{◌≡◌, ℕ, ◌+◌, ◌≤◌, refl, ap, sym, subst, ◌∙◌, inl, inr, Err}
use Rattle.std.proofs.lemmas.Result.{err_from_is_err_and, IfOk-from_err}
use Rattle.slate_db.specs.declared.engine.Core.TheInside.{Inside}
use Rattle.slate_db.specs.Flying.{HasTaken, IsFlying, after_flight}
use Rattle.slate_db.specs.Installs.{ArePlaced, installed}
use Rattle.slate_db.specs.Layers.{AreLayers, LayersModel}
use Rattle.slate_db.specs.Log.{IsLog, LogModel, with_install_through}
use Rattle.slate_db.specs.Model.{CoreModel, IsSame}
use Rattle.slate_db.specs.Segmented.{IsSegmented}
use Rattle.slate_db.specs.Sound.{IsKept}
use Rattle.slate_db.specs.View.{view_of, unseen_of, IsWholeInside}
use Rattle.slate_db.proofs.Calls.{past_place, placed, room_in_log}
use Rattle.slate_db.proofs.Flights.{kept_landed, landed_is, next_placed, segmented_landed, segmented_same, took_within, whole_landed}
use Rattle.slate_db.proofs.Installs.{tables_of_parts}
use Rattle.slate_db.proofs.Keeps.{kept_same}
use Rattle.slate_db.proofs.Logs.{has_place}
use Rattle.slate_db.proofs.engine.Core.install_flight.Goals as goal

pub install_first-requires : goal.install_first-requires
install_first-requires c = took_within c.args.flight.now (view_of c.self.inside) (subst (IsFlying c.args.flight.now) (sym c.self.view_is) c.requires.flying)

pub push_install_through-requires : goal.push_install_through-requires
push_install_through-requires c =
    let y = subst (IsFlying c.args.flight.now) (sym c.self.view_is) c.requires.flying in
    record {
      place = has_place c.self.inside.log c.reserve.new.self c.reserve.ensures.value c.in_ok-reserve.ensures.room c.in_ok-place.ensures.place;
      tables = subst (λ (l : LogModel). ArePlaced (l.installs + 1) 0 c.args.tables) (sym c.reserve.ensures.value) (next_placed (view_of c.self.inside) (unseen_of c.self.inside) c.args.flight.now c.args.tables c.self.invariant y c.requires.placed);
      behind = subst (λ (l : LogModel). installed l.events ≤ c.args.flight.now.through) (sym c.reserve.ensures.value) y.behind;
      within = subst (λ (l : LogModel). c.args.flight.now.through ≤ l.last) (sym c.reserve.ensures.value) (subst (λ (n : ℕ). c.args.flight.now.through ≤ n) (sym c.self.invariant.log.last) y.within);
    }

pub invariant_of-self-2 : goal.invariant_of-self-2
invariant_of-self-2 c =
    let f = c.args.flight.now in
    subst IsWholeInside (landed_is c.self.inside c.reserve.new.self c.push_install_through.new.self c.install_first.new.self f.tables f.through f.barrier c.args.tables c.args.runs.items c.reserve.ensures.value c.push_install_through.ensures.value c.in_ok-install_first.ensures.value)
    (whole_landed (view_of c.self.inside) (unseen_of c.self.inside) f c.args.tables c.args.runs.items c.push_install_through.new.self.spare c.install_first.new.self.for_freeze c.requires.runs (subst (IsFlying f) (sym c.self.view_is) c.requires.flying)
    (subst IsLog (c.push_install_through.ensures.value ∙ ap (λ (l : LogModel). with_install_through l f.through c.args.tables c.push_install_through.new.self.spare) c.reserve.ensures.value) c.push_install_through.ensures.whole)
    (subst AreLayers c.in_ok-install_first.ensures.value c.install_first.ensures.whole) c.self.invariant)

pub returns : goal.returns
returns c =
    let f = c.args.flight.now in
    let becomes = landed_is c.self.inside c.reserve.new.self c.push_install_through.new.self c.install_first.new.self f.tables f.through f.barrier c.args.tables c.args.runs.items c.reserve.ensures.value c.push_install_through.ensures.value c.in_ok-install_first.ensures.value in
    record {
      event = sym (ap view_of becomes) ∙ ap (λ (v : CoreModel). after_flight v f c.args.tables c.push_install_through.new.self.spare) c.self.view_is;
      through = refl;
      kept = (λ m layout k has made.
          subst (λ (s : Inside). IsKept m (view_of s)) becomes
          (kept_landed m (view_of c.self.inside) (unseen_of c.self.inside) f c.args.tables c.push_install_through.new.self.spare layout.segments layout.table_bytes made.rows made.parts c.self.invariant
          (subst (IsFlying f) (sym c.self.view_is) c.requires.flying)
          (subst (HasTaken m f) (sym c.self.view_is) has)
          (tables_of_parts m m.encode layout f.number 0 made.parts c.args.tables refl made.built)
          made.order
          made.cut
          made.folded
          (subst (λ (v : CoreModel). IsKept m v) (sym c.self.view_is) k)));
      segmented = λ h z. subst (λ (s : Inside). IsSegmented h (view_of s)) becomes (segmented_landed h (view_of c.self.inside) f c.args.tables c.push_install_through.new.self.spare (subst (IsSegmented h) (sym c.self.view_is) z));
      same = tt;
      limit = placed (view_of c.self.inside) c.args.self.now (unseen_of c.self.inside) 1 c.self.view_is c.self.invariant c.in_ok-place.ensures.place;
      cause = tt;
    }

-- ---- refusals: at most room was made

same_room : (s : Inside) (v : CoreModel) (l : LogModel) (y : LayersModel) → view_of s ≡ v → l ≡ record s.log { spare = l.spare } → y ≡ s.layers → IsSame v (view_of (record s { log = l; layers = y }))
same_room s v l y view room layers = subst (λ (x : CoreModel). IsSame x (view_of (record s { log = l; layers = y }))) view (λ i. view_of (record s { log = room i; layers = layers i }))

pub invariant_of-self : goal.invariant_of-self
invariant_of-self c = room_in_log c.self.inside c.reserve.new.self c.reserve.ensures.value c.reserve.ensures.whole c.self.invariant

pub invariant_of-self-in_err-install_first : goal.invariant_of-self-in_err-install_first
invariant_of-self-in_err-install_first c =
    subst (λ (y : LayersModel). IsWholeInside (record c.self.inside { log = c.reserve.new.self; layers = y })) (sym c.in_err-install_first.ensures.same)
    (room_in_log c.self.inside c.reserve.new.self c.reserve.ensures.value c.reserve.ensures.whole c.self.invariant)

pub returns-in_err-install_first : goal.returns-in_err-install_first
returns-in_err-install_first c =
    let p = err_from_is_err_and c.from_residual-in_err-install_first.result c.from_residual-in_err-install_first.ensures.1 in
    let same = same_room c.self.inside c.args.self.now c.reserve.new.self c.install_first.new.self c.self.view_is c.reserve.ensures.value c.in_err-install_first.ensures.same in
    record {
      event = IfOk-from_err c.from_residual-in_err-install_first.result _ c.from_residual-in_err-install_first.ensures.0;
      through = IfOk-from_err c.from_residual-in_err-install_first.result _ c.from_residual-in_err-install_first.ensures.0;
      kept = λ m layout k has made. kept_same m _ _ same k;
      segmented = λ h z. segmented_same h _ _ same z;
      same = rw p.1 same;
      limit = placed (view_of c.self.inside) c.args.self.now (unseen_of c.self.inside) 1 c.self.view_is c.self.invariant c.in_ok-place.ensures.place;
      cause = rw (p.1, p.2) (inl refl);
    }

pub returns-in_err-reserve : goal.returns-in_err-reserve
returns-in_err-reserve c =
    let p = err_from_is_err_and c.from_residual-in_err-reserve.result c.from_residual-in_err-reserve.ensures.1 in
    let same = same_room c.self.inside c.args.self.now c.reserve.new.self c.self.inside.layers c.self.view_is c.reserve.ensures.value refl in
    record {
      event = IfOk-from_err c.from_residual-in_err-reserve.result _ c.from_residual-in_err-reserve.ensures.0;
      through = IfOk-from_err c.from_residual-in_err-reserve.result _ c.from_residual-in_err-reserve.ensures.0;
      kept = λ m layout k has made. kept_same m _ _ same k;
      segmented = λ h z. segmented_same h _ _ same z;
      same = rw p.1 same;
      limit = placed (view_of c.self.inside) c.args.self.now (unseen_of c.self.inside) 1 c.self.view_is c.self.invariant c.in_ok-place.ensures.place;
      cause = rw (p.1, p.2) (inl refl);
    }

pub returns-in_err-place : goal.returns-in_err-place
returns-in_err-place c =
    let p = err_from_is_err_and c.from_residual.result c.from_residual.ensures.1 in
    let limit = c.in_err-place.ensures.limit in
    record {
      event = IfOk-from_err c.from_residual.result _ c.from_residual.ensures.0;
      through = IfOk-from_err c.from_residual.result _ c.from_residual.ensures.0;
      kept = λ m layout k has made. k;
      segmented = λ h z. z;
      same = rw p.1 refl;
      limit = λ past. p.1 ∙ ap Err (p.2 ∙ limit.0);
      cause = rw (p.1, p.2) (inr (limit.0, past_place (view_of c.self.inside) c.args.self.now (unseen_of c.self.inside) 1 c.self.view_is c.self.invariant limit.1));
    }
