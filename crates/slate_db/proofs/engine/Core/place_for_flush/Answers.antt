use Rattle.std.proofs.Common.{◌≡◌, ◌+◌, ◌<◌, ◌≤◌, length, subst, arith}
use Rattle.std.specs.Prelude.{OnOk, IfErr}
use Rattle.slate_types.specs.declared.error.SlateDBError.TheVariants as errors
use Rattle.slate_db.specs.Flushed.{NoPlaceToFlush, events_of_flush}
use Rattle.slate_db.specs.Load.{weight}
use Rattle.slate_db.specs.Log.{LIMIT}
use Rattle.slate_db.specs.Model.{CoreModel}
use Rattle.slate_db.specs.View.{view_of, unseen_of}
use Rattle.slate_db.proofs.Flushes.{cause_after}
use Rattle.slate_db.proofs.Wholes.{ends_are}
use Rattle.slate_db.proofs.engine.Core.place_for_flush.Goals as goal
use Rattle.slate_types.proofs.Exits.{on_ok_weaker}

pub returns-clause-place : goal.returns-clause-place
returns-clause-place c =
    subst (λ (v : CoreModel). OnOk c.place.result (weight v + events_of_flush v.active v.frozen ≤ LIMIT)) c.self.view_is
    (on_ok_weaker c.place.result (λ h. omega (arith, c.events_of_flush.ensures.count, ends_are (view_of c.self.inside) (unseen_of c.self.inside) c.self.invariant, h)) c.place.ensures.place)

pub returns-clause-limit : goal.returns-clause-limit
returns-clause-limit c =
    subst (λ (v : CoreModel). IfErr c.place.result (λ e. (e ≡ errors.LimitReached LIMIT) × NoPlaceToFlush v)) c.self.view_is
    (cause_after c.place.result _ _ (λ e h. (h.0, let past : LIMIT < length c.self.inside.log.events + c.self.inside.log.ends + c.events_of_flush.result = h.1 in omega (arith, c.events_of_flush.ensures.count, ends_are (view_of c.self.inside) (unseen_of c.self.inside) c.self.invariant))) c.place.ensures.limit)
