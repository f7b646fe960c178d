use Rattle.std.proofs.Common.{[], sym, ap, subst, ◌∙◌}
use mathlib.Core.List.{IsPrefix}
use Rattle.slate_shared.specs.Errands.{IsNextFlush}
use Rattle.slate_shared.specs.LockedModel.{LockedModel}
use Rattle.slate_shared.specs.Shared.{after_none}
use Rattle.slate_shared.proofs.Flown.{cleared, may_clear_at, same_seat}
use Rattle.slate_shared.proofs.flush.abandon.Goals as goal

pub keep-requires-clause-flight : goal.keep-requires-clause-flight
keep-requires-clause-flight g c =
    let flies = c.requires.flies in
    may_clear_at c.take-locked.new.place.me c.args.place.now.me.0 _ c.take-locked.result _ flies.0 c.take-locked.ensures.seat.1 flies.1 (c.take-locked.ensures.flight flies.0 flies.1).0 (ap (λ (h : LockedModel). h.flight) c.abandon.ensures.left)

pub returns : goal.returns
returns g c =
    let t = c.take-locked.ensures in
    let y = c.take-locked.result in
    let v = c.args.place.now.me.0 in
    let flies = c.requires.flies in
    let held = (t.flight flies.0 flies.1).0 in
    let now = c.keep.ensures.seat.1 ∙ ap (λ m. (after_none m.0 c.abandon.new.self.flight, [])) t.seat.1 in
    record {
      seat = (
        same_seat c.args.place.now c.take-locked.new.place c.keep.new.place t.seat.0 c.keep.ensures.seat.0,
        record { home = ap (λ n. n.1) now; parts = ap (λ n. n.0.parts) now; txn = ap (λ n. n.0.txn) now },
        ap (λ n. n.0.flight) now ∙ cleared v.flight y.flight c.abandon.new.self.flight flies.0 held (ap (λ (h : LockedModel). h.flight) c.abandon.ensures.left),
      );
      own = ap (λ n. n.0.own) now;
      seen = subst (IsPrefix v.seen) (sym (ap (λ n. n.0.seen) now)) t.journal.0;
      next = λ f is. subst (IsNextFlush f.number) (sym (ap (λ n. n.0.seen) now)) (c.abandon.ensures.next f ((t.flight f is).0));
    }
