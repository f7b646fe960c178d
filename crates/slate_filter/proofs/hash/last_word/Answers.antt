use Rattle.std.proofs.Common.{◌<◌, arith}
use Rattle.slate_filter.proofs.HashLaws.{low_power}
use Rattle.slate_filter.proofs.hash.last_word.Goals as goal

pub overflow_add-result : goal.overflow_add-result
overflow_add-result c =
    let few : c.loop-byte.byte-index < 8 = omega arith in
    let power = low_power c.loop-byte.byte-index few in
    omega (arith, power, c.loop-byte.invariant.weight, c.loop-byte.invariant.below)
