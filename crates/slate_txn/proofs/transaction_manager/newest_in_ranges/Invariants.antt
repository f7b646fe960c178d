use Rattle.std.proofs.Common.{◌≡◌, drop}
use Rattle.std.specs.List.{list_any}
use Rattle.slate_types.specs.Keys.{in_range}
use Rattle.slate_txn.specs.Managers.{newest_kept, later}
use Rattle.slate_txn.proofs.transaction_manager.newest_in_ranges.Given as goal

abbrev pub invariant-loop-range : goal.invariant-loop-range
invariant-loop-range l = later l.newest (newest_kept (λ k. list_any (λ r. in_range r k) (drop l.range-index l.ranges)) l.start l.kept.entries) ≡ newest_kept (λ k. list_any (λ r. in_range r k) l.ranges) l.start l.kept.entries
