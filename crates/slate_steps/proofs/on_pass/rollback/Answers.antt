use Rattle.std.proofs.Common.{refl}
use Rattle.slate_steps.proofs.Attempts.{vouched_on}
use Rattle.slate_steps.proofs.OnPass.{ended_known, rolled_back}
use Rattle.slate_steps.proofs.on_pass.rollback.Goals as goal

pub returns : goal.returns
returns g c =
    let t = c.args.txn in
    let new = c.rollback.new.pass in
    let ended = rolled_back t c.args.pass.now new c.rollback.ensures.same c.rollback.ensures.seen in
    record {
      ended = ended;
      vouched = λ v. vouched_on g.P.Parts.options g.P.Parts.meaning t (record t { seen = new.seen }) refl (ended_known t c.args.pass.now new ended) v;
      only = ended.only;
      known = ended_known t c.args.pass.now new ended;
      legal = c.rollback.ensures.legal;
    }
