use Rattle.std.proofs.Common.{◌≡◌, drop}
use Rattle.slate_types.specs.Fold.{latest_creation}
use Rattle.slate_merge.proofs.fold_group.created.Given as goal

abbrev pub invariant-loop-row : goal.invariant-loop-row
invariant-loop-row l = latest_creation l.stamp (drop l.row-index l.rows) ≡ latest_creation l.fn.first l.rows
