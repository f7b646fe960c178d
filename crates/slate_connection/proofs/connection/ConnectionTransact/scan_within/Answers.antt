use Rattle.std.proofs.Common.{rules, ◌≡◌, ◌∙◌, Some, refl}
use Rattle.slate_connection.specs.Connected.{plain_terms}
use Rattle.slate_connection.proofs.Scanning.{cause_scanned, stays_scanned}
use Rattle.slate_connection.proofs.Slot.{reach_is}
use Rattle.slate_connection.proofs.connection.ConnectionTransact.scan_within.Goals as goal

pub returns-in-Some-clause-stays : goal.returns-in-Some-clause-stays
returns-in-Some-clause-stays g c =
    let e = c.rows_within.ensures in
    let meant = c.self.invariant.2 in
    let was : c.self.inside.txn ≡ Some c.in-Some.txn = search rules in
    rw (← c.self.view_is)
    (stays_scanned plain_terms _ _ c.in-Some.txn c.rows_within.new.txn _ _ was refl
    (reach_is g.S.Store _ _ c.self.inside.env (λ o. refl) (λ o. refl) meant) (reach_is g.S.Store _ _ c.rows_within.new.env (λ o. refl) (λ o. refl) (e.reads.meaning ∙ meant)) refl e.reads e.goes)

pub returns-in-Some-clause-cause : goal.returns-in-Some-clause-cause
returns-in-Some-clause-cause g c =
    let e = c.rows_within.ensures in
    let meant = c.self.invariant.2 in
    let was : c.self.inside.txn ≡ Some c.in-Some.txn = search rules in
    rw (← c.self.view_is)
    (cause_scanned plain_terms (record { pass = c.self.inside.pass; txn = _; reach = _ }) (record { pass = c.self.inside.pass; txn = _; reach = _ }) c.in-Some.txn c.rows_within.new.txn _ _ was refl
    (reach_is g.S.Store _ _ c.self.inside.env (λ o. refl) (λ o. refl) meant) (reach_is g.S.Store _ _ c.rows_within.new.env (λ o. refl) (λ o. refl) (e.reads.meaning ∙ meant)) c.rows_within.result _ e.cause)
