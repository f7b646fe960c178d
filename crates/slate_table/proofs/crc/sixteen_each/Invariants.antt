use Rattle.std.proofs.Common.{◌≡◌, length}
use Rattle.slate_table.specs.Checksum.{crc_from}
use Rattle.slate_table.proofs.crc.sixteen_each.Given as goal

abbrev pub invariant-loop-group : goal.invariant-loop-group
invariant-loop-group l = crc_from l.crc l.rest ≡ crc_from l.start l.bytes

abbrev pub decreases-loop-group : goal.decreases-loop-group
decreases-loop-group l = length l.rest
