use Rattle.std.proofs.Common.{◌≡◌, drop}
use Rattle.slate_index.specs.Shown.{new_shown}
use Rattle.slate_index.proofs.audit.new_shown.Given as goal

abbrev pub invariant-loop-step : goal.invariant-loop-step
invariant-loop-step l = new_shown l.key l.own ≡ new_shown l.key (drop l.step-index l.own)
