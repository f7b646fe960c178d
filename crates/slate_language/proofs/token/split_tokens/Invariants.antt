use Rattle.std.proofs.Common.{◌≡◌, ◌-◌, ◌≤◌, ◌++◌, length, drop}
use Rattle.slate_language.specs.Parse.{tokens_of}
use Rattle.slate_language.proofs.token.split_tokens.Given as goal

abbrev pub invariant-loop-tokens : goal.invariant-loop-tokens
invariant-loop-tokens l = record {
  within : l.start ≤ length l.line;
  tokens : l.tokens.items ++ tokens_of (drop l.start l.line) ≡ tokens_of l.line;
}

abbrev pub decreases-loop-tokens : goal.decreases-loop-tokens
decreases-loop-tokens l = length l.line - l.start
