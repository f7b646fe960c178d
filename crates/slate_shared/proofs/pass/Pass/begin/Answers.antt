use Rattle.std.proofs.Common.{rules, ◌≡◌, ◌<◌, ⊎_elim, inl, inr, List, [], ◌∷◌, ◌++◌, sym, ap, ◌∙◌, subst, arith}
use Rattle.slate_txn.specs.declared.event.Event.{Event}
use Rattle.slate_txn.specs.declared.event.Event.TheVariants.{Begin}
use mathlib.Core.List.{IsPrefix}
use Rattle.slate_txn.specs.Replay.{IsLegal}
use Rattle.slate_txn.specs.State.{begun}
use Rattle.slate_shared.specs.LockedModel.{IsFull}
use Rattle.slate_shared.proofs.KeptSeats.{IsBack, taken_back}
use Rattle.slate_shared.proofs.Lists.{prefix_self}
use Rattle.slate_shared.proofs.Moves.{joins, offshoots, may_event, view_after}
use Rattle.slate_shared.proofs.Seats.{begun_seat}
use Rattle.slate_shared.proofs.pass.Pass.begin.Given as given
use Rattle.slate_shared.proofs.pass.Pass.begin.Goals as goal

pub split_seat-seat-requires : goal.split_seat-seat-requires
split_seat-seat-requires g c = (search rules, search rules, offshoots _ _)

pub add-requires-clause-event : goal.add-requires-clause-event
add-requires-clause-event g c =
    let t = c.take-locked.ensures in
    let v = c.split_seat-seat.result.me.0 in
    may_event _ v _ c.take-locked.result _ (Begin c.in-Ok.opened.0 c.args.level c.in-Ok.opened.1) t.seat.1 (ap (λ h. h.events) c.in-Ok.ensures.ok.0) c.in-Ok.ensures.fresh (ap (λ m. m.0.txn) c.split_seat-seat.ensures.4)

pub returns-clause-begun : goal.returns-clause-begun
returns-clause-begun g c =
    let t = c.take-locked.ensures in
    let v = c.split_seat-seat.result.me.0 in
    let e = Begin c.in-Ok.opened.0 c.args.level c.in-Ok.opened.1 in
    let now = view_after _ _ v _ c.take-locked.result _ _ e t.seat.1 (ap (λ h. h.events) c.in-Ok.ensures.ok.0) c.add.ensures.view in
    let before : v.seen ≡ c.args.self.now.seen = ap (λ m. m.0.seen) c.split_seat-seat.ensures.4 ∙ ap (λ p. p.seen) c.self.view_is in
    let y = c.take-locked.result.events in
    let at : c.in-Ok.opened.1 ≡ c.new-own.result.begin = sym (ap (λ o. o.begin) c.new-own.ensures) in
    (search rules, c.new-own.ensures ∙ ap (λ n. begun c.args.level n) at, (y, subst (λ l. IsPrefix l y) before t.journal.0, ap (λ w. w.seen) now ∙ ap (λ n. y ++ Begin c.in-Ok.opened.0 c.args.level n ∷ []) at, sym at ∙ c.in-Ok.ensures.ok.1))

pub returns-clause-seen : goal.returns-clause-seen
returns-clause-seen g c =
    let v = c.self.inside.seat.me.0 in
    rw (← c.self.view_is) (subst (IsPrefix v.seen) (sym (ap (λ m. m.0.seen) c.split_seat-seat.ensures.2)) (prefix_self v.seen))

pub returns-clause-legal : goal.returns-clause-legal
returns-clause-legal g c =
    let t = c.take-locked.ensures in
    let longer_one = ap (λ h. h.events) c.in-Ok.ensures.ok.0 in
    let now = view_after _ _ c.split_seat-seat.result.me.0 _ c.take-locked.result _ _ (Begin c.in-Ok.opened.0 c.args.level c.in-Ok.opened.1) t.seat.1 longer_one c.add.ensures.view in
    subst (λ (es : List Event). IsLegal g.P.Parts.options.start_seq es) (longer_one ∙ sym (ap (λ w. w.seen) now)) c.add.ensures.legal

pub invariant_of-result : goal.invariant_of-result
invariant_of-result g c =
    let t = c.take-locked.ensures in
    let s = c.split_seat-seat.ensures.4 in
    begun_seat _ _ c.split_seat-seat.result.me.0 _ c.take-locked.result _ _ c.in-Ok.opened.0 c.args.level c.in-Ok.opened.1 c.new-own.result t.seat.1 (ap (λ h. h.events) c.in-Ok.ensures.ok.0) c.add.ensures.view (ap (λ h. h.flight) c.in-Ok.ensures.ok.0)
    (ap (λ m. m.0.parts) s) (ap (λ m. m.0.own) s) (ap (λ m. m.0.flight) s) c.new-own.ensures

pub join_seat-requires : goal.join_seat-requires
join_seat-requires g c = (search rules, search rules, search rules, search rules, joins _ _ _ _)

back : (g : given.Over) (c : goal.After-join_seat g) → IsBack c.self.inside.seat.me.0 c.take-locked.result c.join_seat.new.seat.me
back g c =
    let t = c.take-locked.ensures in
    let s = c.split_seat-seat.ensures in
    let v = c.self.inside.seat.me.0 in
    taken_back v c.split_seat-seat.result.me c.split_seat-seat.new.seat.me c.take-locked.new.place.me c.keep.new.place.me c.join_seat.new.seat.me _ _ c.take-locked.result c.begin.new.self.flight s.4 s.2 t.seat.1 c.keep.ensures.seat.1 c.join_seat.ensures.2 c.self.invariant.0
    (ap (λ h. h.flight) c.in-Err.ensures.err) c.self.invariant.2 c.self.invariant.3 (subst (λ l. IsPrefix l c.take-locked.result.events) (ap (λ m. m.0.seen) s.4) t.journal.0)

pub returns-in-Err : goal.returns-in-Err
returns-in-Err g c =
    let b = back g c in
    let t = c.take-locked.ensures in
    let v = c.self.inside.seat.me.0 in
    let before = subst (λ l. IsPrefix l c.take-locked.result.events) (ap (λ m. m.0.seen) c.split_seat-seat.ensures.4) t.journal.0 in
    rw (← c.self.view_is) (record {
      same = (c.join_seat.ensures.0 ∙ c.split_seat-seat.ensures.0, b.parts, b.own);
      seen = subst (IsPrefix v.seen) (sym b.seen) before;
      opened = tt;
      begun = tt;
      legal = tt;
      cause = ⊎_elim (λ h. inl h) (λ h. inr (h.0, subst (IsFull 2) (sym b.seen) h.1)) c.in-Err.ensures.cause;
    })

pub invariant_of-self-in-Err : goal.invariant_of-self-in-Err
invariant_of-self-in-Err g c =
    let b = back g c in
    let some_part : 0 < c.self.inside.seat.me.0.parts = c.self.invariant.1 in
    let parts = b.parts in
    let left : 0 < c.join_seat.new.seat.me.0.parts = omega (arith, some_part, parts) in
    (b.home, left, b.txn, b.flight)
