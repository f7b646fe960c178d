use Rattle.slate_queue.proofs.FormLaws.{all_small, is_key_test}
use Rattle.slate_queue.proofs.stored.is_job_key.Goals as goal

pub returns-then-starts_with-clause-key : goal.returns-then-starts_with-clause-key
returns-then-starts_with-clause-key c = is_key_test c.args.key.now (all_small c.args.key.now c.type_inv.key)

pub returns-else-starts_with-clause-key : goal.returns-else-starts_with-clause-key
returns-else-starts_with-clause-key c = is_key_test c.args.key.now (all_small c.args.key.now c.type_inv.key)
