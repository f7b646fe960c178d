use Rattle.std.proofs.Common.{◌≡◌, ◌*◌, ◌++◌, length, take, drop}
use Rattle.slate_table.proofs.PathLaws.{two_digits}
use Rattle.slate_table.proofs.paths.digits_of.Given as goal

abbrev pub invariant-loop-i : goal.invariant-loop-i
invariant-loop-i l = record {
  long : length l.digits ≡ 32;
  written : take (2 * l.i) l.digits ++ two_digits (drop l.i l.bytes) ≡ two_digits l.bytes;
}
