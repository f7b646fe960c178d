use Rattle.std.specs.List.Sorted.{IsStrictlySortedBy}
use Rattle.slate_types.specs.Keys.{key_cmp}
use Rattle.slate_db.proofs.Recording.{IsMissing}
use Rattle.slate_db.proofs.segments.missing.Given as goal

abbrev pub invariant-loop-prefix : goal.invariant-loop-prefix
invariant-loop-prefix l = record {
  found : IsMissing l.recorded.keys l.fn.own.keys l.fresh.keys l.prefix-iterator;
  rising : IsStrictlySortedBy key_cmp l.fresh.keys;
}
