use Rattle.std.proofs.Common.{◌≡◌, length}
use Rattle.slate_store.specs.Reach.{reach_of}
use Rattle.slate_index.specs.Looking.{IsWalking}
use Rattle.slate_index.proofs.lookups.keys_left.Given as goal

abbrev pub invariant-loop : goal.invariant-loop
invariant-loop g l =
    let before = reach_of g.S.Store g.M.MergeOperator g.T.BlockTransformer l.initial.env in
    let now = reach_of g.S.Store g.M.MergeOperator g.T.BlockTransformer l.env in
    record {
      walking : IsWalking before now l.initial.core l.core l.initial.scan l.scan l.keys.items;
      counted : length l.keys.items ≡ l.counter;
      counts : now.faults ≡ before.faults;
    }
