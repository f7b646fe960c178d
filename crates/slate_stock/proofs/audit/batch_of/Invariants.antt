use Rattle.std.proofs.Common.{take}
use Rattle.std.specs.List.{zip}
use Rattle.slate_mem.specs.BatchModel.{IsBatchOf}
use Rattle.slate_stock.specs.Commits.{puts}
use Rattle.slate_stock.proofs.audit.batch_of.Given as goal

abbrev pub invariant-loop-place : goal.invariant-loop-place
invariant-loop-place l = IsBatchOf (puts (take l.place (zip l.legs.keys.items l.legs.amounts.items))) l.batch
