use Rattle.std.proofs.Common.{rules, ◌≡◌, ◌∙◌, Some, refl}
use Rattle.slate_connection.specs.Connected.{plain_terms}
use Rattle.slate_connection.proofs.Slot.{cause_got, reach_is, stays_got}
use Rattle.slate_connection.proofs.connection.ConnectionTransact.get_within.Goals as goal

pub returns-in-Some-clause-stays : goal.returns-in-Some-clause-stays
returns-in-Some-clause-stays g c =
    let e = c.get_key_value.ensures.read in
    let meant = c.self.invariant.2 in
    let was : c.self.inside.txn ≡ Some c.in-Some.txn = search rules in
    rw (← c.self.view_is)
    (stays_got plain_terms c.args.key.now _ _ c.in-Some.txn c.get_key_value.new.self _ _ c.get_key_value.result was refl
    (reach_is g.S.Store _ _ c.self.inside.env (λ o. refl) (λ o. refl) meant) (reach_is g.S.Store _ _ c.get_key_value.new.env (λ o. refl) (λ o. refl) (e.reads.meaning ∙ meant)) meant e refl)

pub returns-in-Some-clause-cause : goal.returns-in-Some-clause-cause
returns-in-Some-clause-cause g c =
    let e = c.get_key_value.ensures.read in
    let meant = c.self.invariant.2 in
    let was : c.self.inside.txn ≡ Some c.in-Some.txn = search rules in
    rw (← c.self.view_is)
    (cause_got plain_terms c.args.key.now (record { pass = c.self.inside.pass; txn = _; reach = _ }) (record { pass = c.self.inside.pass; txn = _; reach = _ }) c.in-Some.txn c.get_key_value.new.self _ _ c.get_key_value.result was refl
    (reach_is g.S.Store _ _ c.self.inside.env (λ o. refl) (λ o. refl) meant) (reach_is g.S.Store _ _ c.get_key_value.new.env (λ o. refl) (λ o. refl) (e.reads.meaning ∙ meant)) meant e)
