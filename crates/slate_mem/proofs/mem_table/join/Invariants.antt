use Rattle.std.proofs.Common.{◌≡◌, ◌++◌}
use Rattle.std.specs.List.Sorted.{IsStrictlySortedBy}
use Rattle.slate_types.specs.Keys.{key_cmp, keys_set}
use Rattle.slate_mem.proofs.mem_table.join.Given as goal

abbrev pub invariant-loop-prefix : goal.invariant-loop-prefix
invariant-loop-prefix l = record {
  both : keys_set (l.prefix-iterator ++ l.more.keys) ≡ keys_set (l.recorded.keys ++ l.initial.more.keys);
  rising : IsStrictlySortedBy key_cmp l.more.keys;
}
