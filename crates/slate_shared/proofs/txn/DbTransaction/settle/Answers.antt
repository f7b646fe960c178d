use Rattle.std.proofs.Common.{rules, ◌≡◌, ◌+◌, ◌<◌, ◌++◌, ◌∷◌, [], List, ℕ, length, ℤ, w64, Some, None, refl, sym, ap, subst, ◌∙◌, arith}
use Rattle.std.proofs.lemmas.Int.{to_z-of_z}
use Rattle.std.proofs.lemmas.List.{append-nil}
use Rattle.slate_types.specs.declared.error.SlateDBError.TheVariants.{OutOfMemory}
use Rattle.slate_txn.specs.declared.event.Event.{Event}
use Rattle.slate_txn.specs.Replay.{IsLegal}
use Rattle.slate_txn.specs.Settings.{settings_of}
use Rattle.slate_txn.specs.State.{begun}
use Rattle.slate_db.specs.Prepared.{IsPrepared, own_batch, prepared_for}
use Rattle.slate_shared.specs.Passes.{Opened, pass_model}
use Rattle.slate_shared.specs.Shared.{either_txn, either_flight}
use Rattle.slate_shared.proofs.CommitLaws.{ends_it, has_ended, is_mine, is_new}
use Rattle.slate_shared.proofs.Moves.{joins, may_event, grown, view_after}
use Rattle.slate_shared.proofs.Seats.{pass_seat}
use Rattle.slate_shared.proofs.txn.DbTransaction.settle.Goals as goal

pub join_seat-requires : goal.join_seat-requires
join_seat-requires g c = (search rules, search rules, search rules, search rules, joins _ _ _ _)

pub commit-outcome-requires-clause-open : goal.commit-outcome-requires-clause-open
commit-outcome-requires-clause-open g c =
    c.take-locked.ensures.journal.2 _ (ap (λ m. m.0.txn) c.join_seat.ensures.2 ∙ (ap (λ o. either_txn o c.self.inside.seat.me.0.txn) c.pass.invariant.2 ∙ c.self.invariant.3))

pub commit-outcome-requires-clause-prepared : goal.commit-outcome-requires-clause-prepared
commit-outcome-requires-clause-prepared g c =
    subst (λ (z : ℤ). IsPrepared (prepared_for g.P.Parts.meaning.combine g.P.Parts.segments g.P.Parts.options.default_ttl_millis z (own_batch c.self.inside.own.ops)) c.args.prepared) (sym (to_z-of_z w64 c.args.now c.ranges.now))
    (subst (λ (x : Opened). IsPrepared (prepared_for g.P.Parts.meaning.combine g.P.Parts.segments g.P.Parts.options.default_ttl_millis c.args.now (own_batch x.tx.ops)) c.args.prepared) (sym c.self.view_is) c.requires.prepared)

pub add-requires-clause-event : goal.add-requires-clause-event
add-requires-clause-event g c =
    let t = c.take-locked.ensures in
    let v = c.join_seat.new.seat.me.0 in
    let p = c.pass.inside.seat.me.0 in
    let w = c.self.inside.seat.me.0 in
    let own = c.self.inside.own in
    let txn : v.txn ≡ Some (c.self.inside.id, begun own.level own.begin) =
    ap (λ m. m.0.txn) c.join_seat.ensures.2 ∙ (ap (λ o. either_txn o w.txn) c.pass.invariant.2 ∙ c.self.invariant.3) in
    let parts : v.parts ≡ p.parts + w.parts = ap (λ m. m.0.parts) c.join_seat.ensures.2 in
    let some_part : 0 < p.parts = c.pass.invariant.1 in
    let more : 0 < v.parts = omega (arith, parts, some_part) in
    may_event _ v _ c.take-locked.result _ _ t.seat.1 (ap (λ h. h.events) c.commit-outcome.ensures.grows) (is_new c.take-locked.result.events c.self.inside.id _ own c.commit-outcome.result) (is_mine v.parts c.self.inside.id _ own v.txn v.flight c.commit-outcome.result more txn)

pub invariant_of-pass : goal.invariant_of-pass
invariant_of-pass g c =
    let t = c.take-locked.ensures in
    let v = c.join_seat.new.seat.me.0 in
    let p = c.pass.inside.seat.me.0 in
    let w = c.self.inside.seat.me.0 in
    let parts : v.parts ≡ p.parts + w.parts = ap (λ m. m.0.parts) c.join_seat.ensures.2 in
    let some_part : 0 < p.parts = c.pass.invariant.1 in
    let more : 0 < v.parts = omega (arith, parts, some_part) in
    let free : v.flight ≡ None = ap (λ m. m.0.flight) c.join_seat.ensures.2 ∙ (ap (λ f. either_flight f w.flight) c.pass.invariant.3 ∙ c.self.invariant.4) in
    pass_seat _ _ v _ c.take-locked.result _ _ _ t.seat.1 (ap (λ h. h.events) c.commit-outcome.ensures.grows) c.add.ensures.view (ap (λ h. h.flight) c.commit-outcome.ensures.grows) more (ends_it c.self.inside.id _ c.self.inside.own v.txn c.commit-outcome.result) free

pub returns : goal.returns
returns g c =
    let t = c.take-locked.ensures in
    let v = c.join_seat.new.seat.me.0 in
    let p = c.pass.inside.seat.me.0 in
    let w = c.self.inside.seat.me.0 in
    let own = c.self.inside.own in
    let y = c.take-locked.result in
    let r = c.commit-outcome.result in
    let longer_one = ap (λ h. h.events) c.commit-outcome.ensures.grows in
    let now = view_after _ _ v _ y _ _ _ t.seat.1 longer_one c.add.ensures.view in
    let all = grown p w _ _ _ _ _ y _ _ _ c.join_seat.ensures.2 t.seat.1 t.journal.0 t.journal.1 longer_one c.add.ensures.view in
    let parts : v.parts ≡ p.parts + w.parts = ap (λ m. m.0.parts) c.join_seat.ensures.2 in
    let none_left : w.parts ≡ 0 = c.self.invariant.1 in
    let as_many : v.parts ≡ p.parts = omega (arith, parts, none_left) in
    rw (← c.self.view_is, ← c.pass.view_is) (record {
      same = (c.add.ensures.seat.0 ∙ (t.seat.0.0 ∙ c.join_seat.ensures.0), ap (λ x. x.parts) now ∙ as_many);
      ended = has_ended (λ e. e ≡ OutOfMemory) g.P.Parts.meaning g.P.Parts.segments (settings_of g.P.Parts.options) c.args.now _ (record { table = c.self.inside.seat.table_id; seen = w.seen; id = c.self.inside.id; tx = own }) r c.handled.result (pass_model c.pass.inside.seat.table_id p) (pass_model c.add.new.place.table_id c.add.new.place.me.0) y.events
          (to_z-of_z w64 c.args.now c.ranges.now) (sym c.handled.ensures) (p.own ++ w.own) (ap (λ (l : List ℕ). p.own ++ l) c.self.invariant.2 ∙ append-nil p.own) all.0 all.1 all.2 all.3 c.commit-outcome.ensures.ends;
      legal = subst (λ (es : List Event). IsLegal g.P.Parts.options.start_seq es) (longer_one ∙ sym all.2) c.add.ensures.legal;
    })
