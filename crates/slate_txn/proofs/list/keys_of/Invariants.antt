use Rattle.std.proofs.Common.{◌≡◌, ◌++◌, drop, map}
use Rattle.std.specs.List.Sorted.{IsStrictlySortedBy}
use Rattle.slate_types.specs.Keys.{key_cmp, keys_set}
use Rattle.slate_mem.specs.Batch.{batch_keys}
use Rattle.slate_txn.proofs.list.keys_of.Given as goal

abbrev pub invariant-loop-key : goal.invariant-loop-key
invariant-loop-key l = record {
  keys : keys_set (map (λ o. o.0) (drop l.key-index l.ops) ++ l.keys.keys) ≡ batch_keys l.ops;
  rising : IsStrictlySortedBy key_cmp l.keys.keys;
}
