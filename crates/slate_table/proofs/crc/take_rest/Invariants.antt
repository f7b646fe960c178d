use Rattle.std.proofs.Common.{◌≡◌, ◌+◌, ◌*◌}
use Rattle.slate_table.specs.Checksum.{folded_byte}
use Rattle.slate_table.proofs.FoldLaws.{run}
use Rattle.slate_table.proofs.crc.take_rest.Given as goal

abbrev pub invariant-loop-group : goal.invariant-loop-group
invariant-loop-group l = l.crc ≡ run (λ k. folded_byte l.history l.bytes (l.from + k)) (16 * l.group)
