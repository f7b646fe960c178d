use Rattle.std.proofs.Common.{[], refl, sym, ap, subst, ◌∙◌}
use mathlib.Core.List.{IsPrefix}
use Rattle.slate_shared.specs.LockedModel.{holds_at}
use Rattle.slate_shared.specs.Shared.{after_none}
use Rattle.slate_shared.proofs.Flown.{rested_held, rested_kept, rested_on, same_seat}
use Rattle.slate_shared.proofs.Lists.{prefix_trans}
use Rattle.slate_shared.proofs.Seats.{flight_free}
use Rattle.slate_shared.proofs.flush.depart.Goals as goal

pub set_off-requires-clause-held : goal.set_off-requires-clause-held
set_off-requires-clause-held g c =
    let is = c.take-locked.ensures.seat.1 in
    (ap (λ m. m.1) is, ap (λ m. m.0.holds) is, ap (λ m. holds_at m.0.base m.0.base_flight) is)

pub set_off-requires-clause-free : goal.set_off-requires-clause-free
set_off-requires-clause-free g c = (c.is_free.ensures.0 c.if-is_free.true, ap (λ m. m.0.flight) c.take-locked.ensures.seat.1 ∙ c.loop.invariant.2)

pub returns-then-is_free : goal.returns-then-is_free
returns-then-is_free g c =
    let t = c.take-locked.ensures in
    let s = c.set_off.ensures in
    let i = c.loop.invariant in
    let start = c.args.place.now.me in
    let here = c.loop.place.me in
    record {
      seat = (same_seat c.args.place.now c.loop.place c.set_off.new.place i.0 (same_seat c.loop.place c.take-locked.new.place c.set_off.new.place t.seat.0 s.seat.0), rested_on start here c.set_off.new.place.me i.1 (rested_held here c.take-locked.new.place.me c.set_off.new.place.me c.take-locked.result _ t.seat.1 s.seat.1));
      own = s.own ∙ ap (λ m. m.0.own) t.seat.1 ∙ i.3;
      off = (c.take-locked.result.events, prefix_trans start.0.seen here.0.seen c.take-locked.result.events i.4 t.journal.0, s.off);
    }

pub loop-preserved : goal.loop-preserved
loop-preserved g c =
    let t = c.take-locked.ensures in
    let k = c.keep.ensures.seat in
    let i = c.loop.invariant in
    let start = c.args.place.now.me in
    let here = c.loop.place.me in
    let y = c.take-locked.result in
    let now = k.1 ∙ ap (λ m. (after_none m.0 y.flight, [])) t.seat.1 in (
      same_seat c.args.place.now c.loop.place c.keep.new.place i.0 (same_seat c.loop.place c.take-locked.new.place c.keep.new.place t.seat.0 k.0),
      rested_on start here c.keep.new.place.me i.1 (rested_held here c.take-locked.new.place.me c.keep.new.place.me y _ t.seat.1 (rested_kept c.take-locked.new.place.me c.keep.new.place.me y.flight k.1)),
      ap (λ m. m.0.flight) now ∙ flight_free here.0.flight y.flight y.flight i.2 refl,
      ap (λ m. m.0.own) now ∙ i.3,
      subst (IsPrefix start.0.seen) (sym (ap (λ m. m.0.seen) now)) (prefix_trans start.0.seen here.0.seen y.events i.4 t.journal.0),
    )
