use Rattle.std.proofs.Common.{◌≡◌, ◌++◌, map}
use Rattle.slate_types.specs.Keys.{keys_set}
use Rattle.slate_mem.specs.KeyTests.{nest_refusal}
use Rattle.slate_mem.specs.Refusals.{first_refusal}
use Rattle.slate_mem.proofs.segments.test_segments.Given as goal

abbrev pub invariant-loop-prefix : goal.invariant-loop-prefix
invariant-loop-prefix l = first_refusal (map (nest_refusal (keys_set (l.recorded.keys ++ l.own.keys))) l.prefix-iterator) ≡ first_refusal (map (nest_refusal (keys_set (l.recorded.keys ++ l.own.keys))) l.own.keys)
