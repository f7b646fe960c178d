use Rattle.std.proofs.Common.{◌≡◌, map, reverse}
use Rattle.slate_mem.specs.KeyTests.{first_other}
use Rattle.slate_mem.specs.RowOf.{op_expiry}
use Rattle.slate_mem.proofs.key_tests.first_other.Given as goal

abbrev pub invariant-loop-op : goal.invariant-loop-op
invariant-loop-op l = first_other l.expiry (reverse (map (op_expiry l.default_ttl_millis l.now) l.op-iterator.iter.rest.now)) ≡ first_other l.expiry (reverse (map (op_expiry l.default_ttl_millis l.now) l.ops))
