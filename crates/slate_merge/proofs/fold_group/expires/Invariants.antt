use Rattle.std.proofs.Common.{◌≡◌, drop}
use Rattle.slate_types.specs.Fold.{earliest_expiry}
use Rattle.slate_merge.proofs.fold_group.expires.Given as goal

abbrev pub invariant-loop-row : goal.invariant-loop-row
invariant-loop-row l = earliest_expiry l.stamp (drop l.row-index l.rows) ≡ earliest_expiry l.fn.first l.rows
