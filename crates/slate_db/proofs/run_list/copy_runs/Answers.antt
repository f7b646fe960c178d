use Rattle.slate_db.proofs.SharedRuns.{one_copied}
use Rattle.slate_db.proofs.run_list.copy_runs.Goals as goal

pub loop-run-preserved : goal.loop-run-preserved
loop-run-preserved c = record {
  copied = one_copied c.args.runs.now c.loop-run.run-index c.loop-run.copies.items c.run-item.result c.in_ok-copy.copy c.push.new.self.items c.loop-run-test.true c.run-item.is c.loop-run.invariant.copied c.in_ok-copy.ensures c.in_ok-push.ensures.items;
}
