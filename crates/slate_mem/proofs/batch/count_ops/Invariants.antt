use Rattle.std.proofs.Common.{◌≡◌, ◌+◌, ◌-◌, ◌^◌, ◌≤◌, min, length}
use Rattle.std.specs.List.{sum_by}
use Rattle.std.specs.Map.{values_of}
use Rattle.slate_mem.proofs.batch.count_ops.Given as goal

abbrev pub invariant-loop-list : goal.invariant-loop-list
invariant-loop-list l =
    (l.count ≤ 2 ^ 64 - 1) × (min (l.count + sum_by (λ v. length v.items) l.list-iterator) (2 ^ 64 - 1) ≡ min (sum_by (λ v. length v.items) (values_of l.ops.entries)) (2 ^ 64 - 1))
