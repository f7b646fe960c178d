use Rattle.std.proofs.Common.{refl}
use Rattle.slate_db.proofs.StandingRuns.{stand_so}
use Rattle.slate_db.proofs.flush.add_table.Goals as goal

pub returns-clause-stand : goal.returns-clause-stand
returns-clause-stand c = λ prefixes stand.
    stand_so c.args.prefix c.args.table prefixes c.args.runs.now.items c.last_run-run.new.runs.items c.push-2.new.self.items c.last_run-run.result _ c.last_run-run.ensures refl c.in_ok-push.ensures.items c.in_ok-push-2.ensures.items stand
