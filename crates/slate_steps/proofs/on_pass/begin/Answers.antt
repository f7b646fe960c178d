use Rattle.std.proofs.Common.{◌≡◌, [], subst}
use Rattle.std.specs.Prelude.{IfOk}
use Rattle.slate_steps.specs.Attempts.{IsAttempt}
use Rattle.slate_steps.proofs.OnPass.{begun_attempt, begun_vouched, unbegun}
use Rattle.slate_steps.proofs.on_pass.begin.Goals as goal

pub returns-clause-begun : goal.returns-clause-begun
returns-clause-begun g c =
    subst (λ z. IfOk c.begin.result (λ t. (t.table ≡ z) × IsAttempt g.P.Parts.options c.args.pass.now.seen c.args.level [] t)) c.requires.table
    (begun_attempt g.P.Parts.options c.args.level c.args.pass.now c.begin.result c.begin.ensures.begun)

pub returns-clause-vouched : goal.returns-clause-vouched
returns-clause-vouched g c = begun_vouched g.P.Parts.options g.P.Parts.meaning c.args.level c.args.pass.now c.begin.result c.begin.ensures.begun

pub returns-clause-unbegun : goal.returns-clause-unbegun
returns-clause-unbegun g c =
    let e = c.begin.ensures in
    unbegun c.begin.result c.args.pass.now c.begin.new.self (record { more = record { table = e.same.0; parts = e.same.1; seen = e.seen }; own = e.same.2 }) e.cause
