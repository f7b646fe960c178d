use Rattle.std.proofs.Common.{rules, ◌≡◌, ◌∙◌, w64, Some, refl, sym}
use Rattle.std.proofs.lemmas.Int.{to_z-of_z}
use Rattle.std.proofs.lemmas.Option.{same_Some}
use Rattle.slate_connection.specs.Connected.{plain_terms}
use Rattle.slate_connection.proofs.Slot.{commit_cause, commit_sees, commits, reach_is}
use Rattle.slate_connection.proofs.connection.ConnectionTransact.commit.Goals as goal

pub returns-clause-committed : goal.returns-clause-committed
returns-clause-committed g c =
    let e = c.commit-outcome.ensures in
    let meant = c.self.invariant.2 in
    let was : c.self.inside.txn ≡ Some c.in-Some.txn = search rules in
    rw (← c.self.view_is)
    (λ x from level there h. commits plain_terms c.args.now _ c.in-Some.txn _ _ _ _ _ _ c.commit-outcome.result c.numbered.result (to_z-of_z w64 c.args.now c.ranges.now) c.numbered.ensures
    (reach_is g.S.Store _ _ c.self.inside.env (λ o. refl) (λ o. refl) meant) (reach_is g.S.Store _ _ c.commit-outcome.new.env (λ o. refl) (λ o. refl) (e.reads.meaning ∙ meant)) e.same e.ended x from level (same_Some c.in-Some.txn x (sym was ∙ there)) h)

pub returns-clause-refused : goal.returns-clause-refused
returns-clause-refused g c =
    let e = c.commit-outcome.ensures in
    let meant = c.self.invariant.2 in
    rw (← c.self.view_is)
    (commit_sees plain_terms c.args.now _ c.in-Some.txn _ _ _ _ _ _ c.commit-outcome.result c.numbered.result (to_z-of_z w64 c.args.now c.ranges.now) c.numbered.ensures
    (reach_is g.S.Store _ _ c.self.inside.env (λ o. refl) (λ o. refl) meant) (reach_is g.S.Store _ _ c.commit-outcome.new.env (λ o. refl) (λ o. refl) (e.reads.meaning ∙ meant)) e.same e.ended)

pub returns-clause-cause : goal.returns-clause-cause
returns-clause-cause g c =
    let e = c.commit-outcome.ensures in
    let meant = c.self.invariant.2 in
    let was : c.self.inside.txn ≡ Some c.in-Some.txn = search rules in
    rw (← c.self.view_is)
    (λ x from level there h. commit_cause plain_terms c.args.now _ c.in-Some.txn _ _ _ _ _ _ c.commit-outcome.result c.numbered.result (to_z-of_z w64 c.args.now c.ranges.now) c.numbered.ensures
    (reach_is g.S.Store _ _ c.self.inside.env (λ o. refl) (λ o. refl) meant) (reach_is g.S.Store _ _ c.commit-outcome.new.env (λ o. refl) (λ o. refl) (e.reads.meaning ∙ meant)) e.same e.ended refl x from level (same_Some c.in-Some.txn x (sym was ∙ there)) h)
