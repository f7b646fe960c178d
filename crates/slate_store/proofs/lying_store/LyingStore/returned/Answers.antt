use Rattle.std.proofs.Common.{arith, length, ap}
use Rattle.slate_store.proofs.LyingLaws.{length_acts}
use Rattle.slate_store.proofs.lying_store.LyingStore.returned.Goals as goal

pub returns : goal.returns
returns c = omega (arith, length_acts c.reads.result.now, ap length c.reads.ensures.reads)
