use Rattle.std.proofs.Common.{◌≡◌, take}
use Rattle.slate_index.specs.Shown.{steps_of}
use Rattle.slate_index.proofs.audit.are_steps_of.Given as goal

abbrev pub invariant-loop-place : goal.invariant-loop-place
invariant-loop-place l = take l.place l.steps ≡ steps_of (take l.place l.ops)
