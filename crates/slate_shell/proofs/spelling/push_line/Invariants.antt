use Rattle.std.proofs.Common.{length}
use Rattle.slate_shell.proofs.spelling.push_line.Given as goal

abbrev pub decreases-loop-byte : goal.decreases-loop-byte
decreases-loop-byte l = length l.left
