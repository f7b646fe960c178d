use Rattle.slate_queue.proofs.FirstFree.{first_is_taken}
use Rattle.slate_queue.proofs.laws.first_free.Goals as goal

pub returns : goal.returns
returns c = first_is_taken
