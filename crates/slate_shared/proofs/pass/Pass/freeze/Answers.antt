use Rattle.std.proofs.Common.{rules, ◌≡◌, ⊎_elim, inl, inr, [], ◌∷◌, ◌++◌, sym, ap, ◌∙◌, subst}
use mathlib.Core.List.{IsPrefix}
use Rattle.slate_txn.specs.declared.event.Event.TheVariants.{Freeze}
use Rattle.slate_txn.specs.Places.{IsQuiet}
use Rattle.slate_shared.specs.LockedModel.{IsFull}
use Rattle.slate_shared.proofs.KeptSeats.{kept_is}
use Rattle.slate_shared.proofs.Moves.{view_after}
use Rattle.slate_shared.proofs.Seats.{pass_seat}
use Rattle.slate_shared.proofs.pass.Pass.freeze.Goals as goal

pub invariant_of-self : goal.invariant_of-self
invariant_of-self g c =
    let y = c.take-locked.result in
    let grown : c.freeze.new.self.events ≡ y.events ++ Freeze ∷ [] = search rules in
    let flight : c.freeze.new.self.flight ≡ y.flight = search rules in
    pass_seat _ _ c.self.inside.seat.me.0 _ y _ _ _ c.take-locked.ensures.seat.1 grown c.add.ensures.view flight c.self.invariant.1 c.self.invariant.2 c.self.invariant.3

pub returns-in-Ok-default-true-clause-frozen : goal.returns-in-Ok-default-true-clause-frozen
returns-in-Ok-default-true-clause-frozen g c =
    let t = c.take-locked.ensures in
    let y = c.take-locked.result in
    let v = c.self.inside.seat.me.0 in
    let grown : c.freeze.new.self.events ≡ y.events ++ Freeze ∷ [] = search rules in
    let now = view_after _ _ v _ y _ _ Freeze t.seat.1 grown c.add.ensures.view in
    let seen : c.add.new.place.me.0.seen ≡ y.events ++ Freeze ∷ [] = ap (λ w. w.seen) now in
    let before : v.seen ≡ c.args.self.now.seen = ap (λ p. p.seen) c.self.view_is in
    (subst IsQuiet (grown ∙ sym seen) c.in-Ok-default-true.ensures.quiet, (y.events, subst (λ l. IsPrefix l y.events) before t.journal.0, inr seen, search rules))

pub returns-in-Err-clause-cause : goal.returns-in-Err-clause-cause
returns-in-Err-clause-cause g c =
    let now = kept_is _ _ c.self.inside.seat.me.0 _ c.take-locked.result _ c.take-locked.ensures.seat.1 c.keep-in-Err.ensures.seat.1 in
    ⊎_elim (λ h. inl h) (λ h. inr (h.0, subst (IsFull 1) (sym (ap (λ n. n.0.seen) now)) h.1)) c.in-Err.ensures.cause
