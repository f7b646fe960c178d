use Rattle.std.proofs.Common.{◌≡◌, None, sym, ap, ◌∙◌}
use Rattle.slate_shared.specs.LockedModel.{LockedModel, frozen_by}
use Rattle.slate_shared.proofs.Flown.{departs_at, may_set, set_flight}
use Rattle.slate_shared.proofs.flush.set_off.Goals as goal

pub let_go-requires-clause-event : goal.let_go-requires-clause-event
let_go-requires-clause-event g c = c.depart-frozen.ensures.event ∙ ap (λ (h : LockedModel). (frozen_by h c.depart-frozen.result.0).events) (sym c.requires.held.2)

pub let_go-requires-clause-flight : goal.let_go-requires-clause-flight
let_go-requires-clause-flight g c = may_set _ _ _ (ap (λ (h : LockedModel). h.flight) c.requires.held.2 ∙ c.requires.free.0)

pub returns : goal.returns
returns g c =
    let v = c.args.place.now.me.0 in
    let e = c.let_go.ensures in
    let none : v.base_flight ≡ None = ap (λ (h : LockedModel). h.flight) c.requires.held.2 ∙ c.requires.free.0 in
    record {
      seat = e.seat;
      own = e.own;
      off = departs_at g.P.Parts.options g.P.Parts.meaning c.args.locked.events c.depart-frozen.result.1 _ _ _ _ (sym e.seen) (sym (e.flight ∙ set_flight v.flight v.base_flight c.depart-frozen.new.self.flight c.requires.free.1 none)) c.depart-frozen.ensures.off;
    }
