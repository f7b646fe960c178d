use Rattle.slate_mem.proofs.PlainLaws.{plain_passes}
use Rattle.slate_mem.proofs.laws.batch_tests.Goals as goal

pub returns : goal.returns
returns c = record { plain_batches_pass = plain_passes }
