use Rattle.std.proofs.Common.{◌≡◌, ◌++◌, ◌+◌, ◌-◌, ◌≤◌}
use Rattle.std.specs.String.{string_bytes}
use Rattle.slate_language.specs.Generate.{rounds}
use Rattle.slate_language.proofs.generator.generated.Given as goal

-- the rounds that are made, and those that will be
abbrev pub invariant-loop-done : goal.invariant-loop-done
invariant-loop-done l = record {
  within : l.done ≤ l.n;
  made : string_bytes l.script ++ rounds (l.done + 1) (l.n - l.done) l.x ≡ rounds 1 l.n l.s;
}
