use Rattle.std.proofs.Common.{◌≡◌, length}
use Rattle.slate_command.specs.FirstWord.{sets_option}
use Rattle.slate_command.proofs.first_word.sets_option.Given as goal

abbrev pub decreases-loop-byte : goal.decreases-loop-byte
decreases-loop-byte l = length l.left

abbrev pub invariant-loop-byte : goal.invariant-loop-byte
invariant-loop-byte l = sets_option l.word ≡ sets_option l.left
