use Rattle.std.proofs.Common.{◌≡◌, ◌+◌}
use Rattle.slate_language.proofs.OpLaws.{own_from}
use Rattle.slate_language.proofs.parse.own_len.Given as goal

abbrev pub invariant-loop-i : goal.invariant-loop-i
invariant-loop-i l = own_from l.tokens 0 ≡ own_from l.tokens l.i + l.i
