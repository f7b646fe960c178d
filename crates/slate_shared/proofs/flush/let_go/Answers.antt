use Rattle.std.proofs.Common.{◌≡◌, ◌++◌, [], ◌∷◌, refl, sym, ap, ◌∙◌}
use Rattle.slate_txn.specs.declared.event.Event.TheVariants.{Freeze}
use Rattle.slate_shared.specs.LockedModel.{frozen_by, holds_at}
use Rattle.slate_shared.proofs.Flown.{rested_added, rested_kept}
use Rattle.slate_shared.proofs.flush.let_go.Goals as goal

pub add-requires-clause-event : goal.add-requires-clause-event
add-requires-clause-event g c =
    let v = c.args.place.now.me.0 in
    (Freeze, c.requires.event ∙ ap (λ b. (frozen_by (holds_at v.base v.base_flight) b).events) c.if-frozen.true, (tt, tt))

pub returns-then-frozen : goal.returns-then-frozen
returns-then-frozen g c =
    let v = c.args.place.now.me.0 in
    let grown : c.args.locked.events ≡ v.base ++ Freeze ∷ [] = c.requires.event ∙ ap (λ b. (frozen_by (holds_at v.base v.base_flight) b).events) c.if-frozen.true in
    let now = c.add.ensures.view Freeze grown in
    record {
      seat = (c.add.ensures.seat, rested_added c.args.place.now.me c.add.new.place.me Freeze c.args.locked.flight now refl);
      own = ap (λ m. m.0.own) now;
      seen = ap (λ m. m.0.seen) now ∙ sym grown;
      flight = ap (λ m. m.0.flight) now;
    }

pub keep-requires-clause-held : goal.keep-requires-clause-held
keep-requires-clause-held g c =
    let v = c.args.place.now.me.0 in
    (c.requires.held.0, c.requires.held.1, c.requires.event ∙ ap (λ b. (frozen_by (holds_at v.base v.base_flight) b).events) c.if-frozen.false)

pub returns : goal.returns
returns g c =
    let v = c.args.place.now.me.0 in
    let same : c.args.locked.events ≡ v.base = c.requires.event ∙ ap (λ b. (frozen_by (holds_at v.base v.base_flight) b).events) c.if-frozen.false in
    let now = c.keep.ensures.seat.1 in
    record {
      seat = (c.keep.ensures.seat.0, rested_kept c.args.place.now.me c.keep.new.place.me c.args.locked.flight now);
      own = ap (λ m. m.0.own) now;
      seen = ap (λ m. m.0.seen) now ∙ sym same;
      flight = ap (λ m. m.0.flight) now;
    }
