use Rattle.std.proofs.Common.{◌≡◌, ◌++◌, drop, option_map}
use Rattle.slate_language.specs.Parse.{read_all, read_step}
use Rattle.slate_language.proofs.parse.read_steps.Given as goal

abbrev pub invariant-loop-token : goal.invariant-loop-token
invariant-loop-token l = option_map (λ sts. l.steps.items ++ sts) (read_all read_step (drop l.token-index l.tokens)) ≡ read_all read_step l.tokens
