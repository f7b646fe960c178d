use Rattle.std.proofs.Common.{Err, ap, subst, sym, ◌∙◌}
use Rattle.std.proofs.lemmas.Result.{err_from_is_err_and}
use Rattle.slate_types.specs.Config.{defaults}
use Rattle.slate_steps.specs.Attempts.{SeesOnly}
use Rattle.slate_connection.specs.Connected.{PlainModel}
use Rattle.slate_connection.proofs.Behind.{attempt_behind, unbegun_behind}
use Rattle.slate_connection.proofs.connection.ConnectionTransact.begin.Goals.{in-Some, in_default}
use Rattle.slate_connection.proofs.connection.ConnectionTransact.begin.Goals as goal

pub returns-in_err-txn-clause-unbegun : goal.returns-in_err-txn-clause-unbegun
returns-in_err-txn-clause-unbegun g c =
    let p = err_from_is_err_and c.from_residual.result c.from_residual.ensures.1 in
    unbegun_behind c.args.self.now.pass c.self.inside.pass c.begin.new.pass c.from_residual.result _ (p.1 ∙ ap Err p.2)
    (subst (λ (q : PlainModel). SeesOnly c.args.self.now.pass q.pass) (sym c.self.view_is) c.end.ensures.only) c.in_err-txn.ensures.unbegun

pub returns-clause-begun : goal.returns-clause-begun
returns-clause-begun g c =
    let only : SeesOnly c.args.self.now.pass c.self.inside.pass = subst (λ (q : PlainModel). SeesOnly c.args.self.now.pass q.pass) (sym c.self.view_is) c.end.ensures.only in
    let attempt = attempt_behind defaults c.args.self.now.pass.seen c.self.inside.pass.seen c.args.level c.in_ok-txn.txn only.more.seen c.in_ok-txn.ensures.begun.1 in
    elim c.match-replace.branch [
      | in-Some w ↦ (c.in_ok-txn.txn, ap (λ (q : PlainModel). q.txn) w.self-is ∙ c.replace.ensures.after, attempt)
      | in_default w ↦ (c.in_ok-txn.txn, ap (λ (q : PlainModel). q.txn) w.self-is ∙ c.replace.ensures.after, attempt)
    ]
