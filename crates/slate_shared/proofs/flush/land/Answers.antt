use Rattle.std.proofs.Common.{List, [], sym, ap, subst, ◌∙◌}
use Rattle.slate_txn.specs.declared.event.Event.{Event}
use Rattle.slate_txn.specs.declared.event.Event.TheVariants.{Install}
use Rattle.slate_db.specs.Installs.{tables_of}
use Rattle.slate_db.specs.Readable.{AreFiltered}
use Rattle.slate_shared.specs.Shared.{after_none}
use Rattle.slate_shared.proofs.Flown.{cleared, may_clear_at, same_seat}
use Rattle.slate_shared.proofs.Moves.{may_event}
use Rattle.slate_shared.proofs.Seats.{after_is}
use Rattle.slate_shared.proofs.flush.land.Goals as goal

pub land-requires : goal.land-requires
land-requires g c =
    let made = c.requires.made in
    (made.0, (c.take-locked.ensures.flight made.0 made.1).0, made.2, made.3)

pub add-requires-clause-event : goal.add-requires-clause-event
add-requires-clause-event g c =
    let made = c.requires.made in
    may_event c.take-locked.new.place.me c.args.place.now.me.0 _ c.take-locked.result _ (Install c.in-Ok.through c.args.tables) c.take-locked.ensures.seat.1 c.in-Ok.ensures.event tt (made.0, made.1, c.requires.idle.1)

pub add-requires-clause-flight : goal.add-requires-clause-flight
add-requires-clause-flight g c =
    let made = c.requires.made in
    may_clear_at c.take-locked.new.place.me c.args.place.now.me.0 _ c.take-locked.result _ made.0 c.take-locked.ensures.seat.1 made.1 (c.take-locked.ensures.flight made.0 made.1).0 c.land.ensures.free

pub returns-in-Ok : goal.returns-in-Ok
returns-in-Ok g c =
    let t = c.take-locked.ensures in
    let y = c.take-locked.result in
    let v = c.args.place.now.me.0 in
    let made = c.requires.made in
    let held = (t.flight made.0 made.1).0 in
    let now = after_is c.take-locked.new.place.me c.add.new.place.me v _ y _ c.land.new.self.flight (Install c.in-Ok.through c.args.tables) t.seat.1 c.in-Ok.ensures.event c.add.ensures.view in
    record {
      seat = (
        same_seat c.args.place.now c.take-locked.new.place c.add.new.place t.seat.0 c.add.ensures.seat,
        record { home = ap (λ n. n.1) now; parts = ap (λ n. n.0.parts) now; txn = ap (λ n. n.0.txn) now },
        ap (λ n. n.0.flight) now ∙ cleared v.flight y.flight c.land.new.self.flight made.0 held c.land.ensures.free,
      );
      landed = (
        y.events,
        t.journal.0,
        record {
          event = (ap (λ n. n.0.seen) now, ap (λ n. n.0.own) now);
          next = λ f is. c.land.ensures.next f ((t.flight f is).0);
          through = λ f is. c.in-Ok.ensures.through f ((t.flight f is).0);
          same = tt;
          cause = tt;
        },
      );
      filtered = subst (λ (es : List Event). AreFiltered g.P.Parts.meaning.encode g.P.Parts.policies (tables_of es)) (c.in-Ok.ensures.event ∙ sym (ap (λ n. n.0.seen) now)) c.land.ensures.filtered;
    }

pub keep-requires-clause-flight : goal.keep-requires-clause-flight
keep-requires-clause-flight g c =
    let made = c.requires.made in
    may_clear_at c.take-locked.new.place.me c.args.place.now.me.0 _ c.take-locked.result _ made.0 c.take-locked.ensures.seat.1 made.1 (c.take-locked.ensures.flight made.0 made.1).0 c.land.ensures.free

pub returns-in-Err : goal.returns-in-Err
returns-in-Err g c =
    let t = c.take-locked.ensures in
    let y = c.take-locked.result in
    let v = c.args.place.now.me.0 in
    let made = c.requires.made in
    let held = (t.flight made.0 made.1).0 in
    let now = c.keep.ensures.seat.1 ∙ ap (λ m. (after_none m.0 c.land.new.self.flight, [])) t.seat.1 in
    record {
      seat = (
        same_seat c.args.place.now c.take-locked.new.place c.keep.new.place t.seat.0 c.keep.ensures.seat.0,
        record { home = ap (λ n. n.1) now; parts = ap (λ n. n.0.parts) now; txn = ap (λ n. n.0.txn) now },
        ap (λ n. n.0.flight) now ∙ cleared v.flight y.flight c.land.new.self.flight made.0 held c.land.ensures.free,
      );
      landed = (
        y.events,
        t.journal.0,
        record {
          event = tt;
          next = λ f is. c.land.ensures.next f ((t.flight f is).0);
          through = λ f is. tt;
          same = (ap (λ n. n.0.seen) now, ap (λ n. n.0.own) now);
          cause = c.in-Err.ensures.cause;
        },
      );
      filtered = subst (λ (es : List Event). AreFiltered g.P.Parts.meaning.encode g.P.Parts.policies (tables_of es)) (c.in-Err.ensures.same ∙ sym (ap (λ n. n.0.seen) now)) c.land.ensures.filtered;
    }
