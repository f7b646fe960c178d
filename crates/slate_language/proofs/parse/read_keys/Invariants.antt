use Rattle.std.proofs.Common.{◌≡◌, ◌++◌, drop, option_map}
use Rattle.slate_language.specs.Parse.{read_all, read_bytes}
use Rattle.slate_language.proofs.parse.read_keys.Given as goal

abbrev pub invariant-loop-token : goal.invariant-loop-token
invariant-loop-token l = option_map (λ ks. l.keys.items ++ ks) (read_all read_bytes (drop l.token-index l.tokens)) ≡ read_all read_bytes l.tokens
