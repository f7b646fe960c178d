use Rattle.std.proofs.Common.{◌≡◌, take}
use Rattle.slate_stock.proofs.audit.are_ops.Given as goal

abbrev pub invariant-loop-place : goal.invariant-loop-place
invariant-loop-place l = take l.place l.ops ≡ take l.place l.others
