use Rattle.std.proofs.Common.{◌∙◌, sym}
use Rattle.slate_mem.proofs.TableLaws.{set_of_set}
use Rattle.slate_mem.proofs.batch.test_keys.Goals as goal

pub returns-clause-prefixes : goal.returns-clause-prefixes
returns-clause-prefixes g c =
    let was = c.loop-key.invariant in
    sym (set_of_set _ was.rising) ∙ rw c.in-None.ensures.steps.0 at was.both
