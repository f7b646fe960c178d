use Rattle.std.proofs.Common.{◌+◌, ◌-◌, arith}
use Rattle.std.proofs.Math.Nat.{div-le_self}
use Rattle.slate_shared.proofs.encode.benches_of.Goals as goal

pub split_off-requires : goal.split_off-requires
split_off-requires g c = omega (arith, div-le_self c.len.result (c.args.count - c.loop-taken.taken + 1), c.len.ensures)
