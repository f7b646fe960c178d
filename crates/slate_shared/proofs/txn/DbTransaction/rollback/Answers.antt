use Rattle.std.proofs.Common.{rules, ◌≡◌, ◌+◌, ◌<◌, ◌++◌, List, Some, None, refl, sym, ap, subst, ◌∙◌, arith}
use Rattle.std.proofs.lemmas.List.{append-nil}
use Rattle.slate_txn.specs.declared.event.Event.{Event}
use Rattle.slate_txn.specs.declared.event.Event.TheVariants.{End}
use Rattle.slate_txn.specs.Replay.{IsLegal}
use Rattle.slate_txn.specs.State.{begun}
use Rattle.slate_shared.specs.Shared.{either_txn, either_flight}
use Rattle.slate_shared.proofs.Moves.{joins, may_event, grown, view_after}
use Rattle.slate_shared.proofs.Seats.{pass_seat}
use Rattle.slate_shared.proofs.txn.DbTransaction.rollback.Goals as goal

pub join_seat-requires : goal.join_seat-requires
join_seat-requires g c = (search rules, search rules, search rules, search rules, joins _ _ _ _)

pub add-requires-clause-event : goal.add-requires-clause-event
add-requires-clause-event g c =
    let t = c.take-locked.ensures in
    let txn : c.join_seat.new.seat.me.0.txn ≡ Some (c.self.inside.id, begun c.self.inside.own.level c.self.inside.own.begin) =
    ap (λ m. m.0.txn) c.join_seat.ensures.2 ∙ (ap (λ o. either_txn o c.self.inside.seat.me.0.txn) c.pass.invariant.2 ∙ c.self.invariant.3) in
    may_event _ c.join_seat.new.seat.me.0 _ c.take-locked.result _ (End c.self.inside.id) t.seat.1 (ap (λ h. h.events) c.end.ensures) tt (begun c.self.inside.own.level c.self.inside.own.begin, txn)

pub returns-clause-seen : goal.returns-clause-seen
returns-clause-seen g c =
    let t = c.take-locked.ensures in
    let y = c.take-locked.result in
    let all = grown c.pass.inside.seat.me.0 c.self.inside.seat.me.0 _ _ _ _ _ y _ _ (End c.self.inside.id) c.join_seat.ensures.2 t.seat.1 t.journal.0 t.journal.1 (ap (λ h. h.events) c.end.ensures) c.add.ensures.view in
    rw (← c.self.view_is, ← c.pass.view_is) (y.events, all.0, all.1, all.2)

pub returns-clause-legal : goal.returns-clause-legal
returns-clause-legal g c =
    let t = c.take-locked.ensures in
    let longer_one = ap (λ h. h.events) c.end.ensures in
    let all = grown c.pass.inside.seat.me.0 c.self.inside.seat.me.0 _ _ _ _ _ c.take-locked.result _ _ (End c.self.inside.id) c.join_seat.ensures.2 t.seat.1 t.journal.0 t.journal.1 longer_one c.add.ensures.view in
    subst (λ (es : List Event). IsLegal g.P.Parts.options.start_seq es) (longer_one ∙ sym all.2) c.add.ensures.legal

pub end-requires : goal.end-requires
end-requires g c =
    let t = c.take-locked.ensures in
    let txn : c.join_seat.new.seat.me.0.txn ≡ Some (c.self.inside.id, begun c.self.inside.own.level c.self.inside.own.begin) =
    ap (λ m. m.0.txn) c.join_seat.ensures.2 ∙ (ap (λ o. either_txn o c.self.inside.seat.me.0.txn) c.pass.invariant.2 ∙ c.self.invariant.3) in
    (begun c.self.inside.own.level c.self.inside.own.begin, t.journal.2 _ txn)

pub invariant_of-pass : goal.invariant_of-pass
invariant_of-pass g c =
    let t = c.take-locked.ensures in
    let v = c.join_seat.new.seat.me.0 in
    let p = c.pass.inside.seat.me.0 in
    let w = c.self.inside.seat.me.0 in
    let parts : v.parts ≡ p.parts + w.parts = ap (λ m. m.0.parts) c.join_seat.ensures.2 in
    let some_part : 0 < p.parts = c.pass.invariant.1 in
    let more : 0 < v.parts = omega (arith, parts, some_part) in
    let free : v.flight ≡ None = ap (λ m. m.0.flight) c.join_seat.ensures.2 ∙ (ap (λ f. either_flight f w.flight) c.pass.invariant.3 ∙ c.self.invariant.4) in
    pass_seat _ _ v _ c.take-locked.result _ _ (End c.self.inside.id) t.seat.1 (ap (λ h. h.events) c.end.ensures) c.add.ensures.view (ap (λ h. h.flight) c.end.ensures) more refl free

pub returns-clause-same : goal.returns-clause-same
returns-clause-same g c =
    let t = c.take-locked.ensures in
    let v = c.join_seat.new.seat.me.0 in
    let p = c.pass.inside.seat.me.0 in
    let w = c.self.inside.seat.me.0 in
    let now = view_after _ _ v _ c.take-locked.result _ _ (End c.self.inside.id) t.seat.1 (ap (λ h. h.events) c.end.ensures) c.add.ensures.view in
    let parts : v.parts ≡ p.parts + w.parts = ap (λ m. m.0.parts) c.join_seat.ensures.2 in
    let none_left : w.parts ≡ 0 = c.self.invariant.1 in
    let as_many : v.parts ≡ p.parts = omega (arith, parts, none_left) in
    let own : v.own ≡ p.own = ap (λ m. m.0.own) c.join_seat.ensures.2 ∙ (ap (λ l. p.own ++ l) c.self.invariant.2 ∙ append-nil p.own) in
    rw (← c.pass.view_is) (c.add.ensures.seat.0 ∙ (t.seat.0.0 ∙ c.join_seat.ensures.0), ap (λ x. x.parts) now ∙ as_many, ap (λ x. x.own) now ∙ own)
