use Rattle.std.proofs.Common.{◌≡◌, drop}
use Rattle.slate_table.specs.Checksum.{crc_from}
use Rattle.slate_table.proofs.crc.each_more.Given as goal

abbrev pub invariant-loop-byte : goal.invariant-loop-byte
invariant-loop-byte l = crc_from l.crc (drop l.byte-index l.bytes) ≡ crc_from l.start l.bytes
