use Rattle.std.proofs.Common.{◌≤◌, length}
use Rattle.slate_shell.proofs.spelling.push_quoted.Given as goal

abbrev pub invariant-loop-byte : goal.invariant-loop-byte
invariant-loop-byte l = length l.left ≤ length l.quoted

abbrev pub decreases-loop-byte : goal.decreases-loop-byte
decreases-loop-byte l = length l.left
