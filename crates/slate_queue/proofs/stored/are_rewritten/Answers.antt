use Rattle.slate_queue.proofs.FormLaws.{all_small, rewritten}
use Rattle.slate_queue.proofs.stored.are_rewritten.Goals as goal

pub returns : goal.returns
returns c = rewritten c.args.job.now (all_small c.args.job.now c.type_inv.job)
