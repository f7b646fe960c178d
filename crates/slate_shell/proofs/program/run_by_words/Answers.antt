use Rattle.std.proofs.Common.{map}
use Rattle.std.specs.String.{string_bytes}
use Rattle.slate_script.proofs.Used.{valid_used}
use Rattle.slate_shell.proofs.program.run_by_words.Goals as goal

pub run_shell-ran-requires-clause-names : goal.run_shell-ran-requires-clause-names
run_shell-ran-requires-clause-names g c = λ κs lives. valid_used (map string_bytes c.args.words.now) c.args.policies.items c.keep_used-kept.result.items (λ p. (goal.FilterPolicy-dyn g (p.vtable, p.value)).meaning p.value) c.keep_used-kept.ensures c.requires.names
