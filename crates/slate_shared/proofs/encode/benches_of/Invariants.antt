use Rattle.std.proofs.Common.{◌≡◌, ◌+◌, ◌≤◌, ◌++◌, flat_map, length}
use Rattle.std.specs.Prelude.{vec_capacity}
use Rattle.slate_shared.proofs.encode.benches_of.Given as goal

abbrev pub invariant-loop-taken : goal.invariant-loop-taken
invariant-loop-taken g l = record {
  jobs : flat_map (λ b. b.jobs.items) l.benches.items ++ l.left.items ≡ l.fn.jobs.items;
  count : length l.benches.items + 1 ≡ l.taken;
  room : l.count ≤ vec_capacity l.benches;
}
