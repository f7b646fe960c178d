use Rattle.std.proofs.Common.{◌≡◌, length}
use Rattle.slate_table.specs.Checksum.{crc_from}
use Rattle.slate_table.proofs.crc.crc_more.Given as goal

abbrev pub invariant-loop-rest : goal.invariant-loop-rest
invariant-loop-rest l = crc_from l.crc l.rest ≡ crc_from l.start l.bytes

abbrev pub decreases-loop-rest : goal.decreases-loop-rest
decreases-loop-rest l = length l.rest
