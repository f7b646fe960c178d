use Rattle.std.proofs.Common.{◌≡◌, ◌+◌, ◌≤◌, map, length, reverse}
use Rattle.std.specs.Prelude.{vec_capacity}
use Rattle.slate_types.specs.Outside.{Puts}
use Rattle.slate_store.specs.Reach.{reach_of}
use Rattle.slate_db.specs.Flushed.{layout_of}
use Rattle.slate_db.specs.Meaning.{segments_by}
use Rattle.slate_db.proofs.RunSoFar.{IsSoFar, PrefixesSoFar}
use Rattle.slate_db.proofs.flush.stored_tables.Given as goal

abbrev pub invariant-loop-part : goal.invariant-loop-part
invariant-loop-part g l =
    let before = reach_of g.S.Store g.M.MergeOperator g.T.BlockTransformer l.initial.env in
    let now = reach_of g.S.Store g.M.MergeOperator g.T.BlockTransformer l.env in
    let policies = map (λ p. (goal.FilterPolicy-dyn g (p.vtable, p.value)).meaning p.value)
    l.laws.policies.items in
    let segments = segments_by g.X.PrefixExtractor.lengths l.laws.segments in
    record {
      far : IsSoFar before now (layout_of l.laws.options policies segments) l.number
          (map (λ t. t.rows.items) l.initial.left.items) (map (λ t. t.rows.items) l.left.items)
          (map (λ t. t.table) (reverse l.stored.items))
          (map (λ t. t.handle) (reverse l.stored.items));
      prefixes : PrefixesSoFar (map (λ t. t.prefix) l.initial.left.items)
          (map (λ t. t.prefix) l.left.items) (map (λ t. t.prefix) (reverse l.stored.items));
      room : length l.stored.items + length l.left.items ≤ vec_capacity l.stored;
      operator : l.env.operator ≡ l.initial.env.operator;
      puts : Puts before now;
      still : now.faults ≡ before.faults;
    }

abbrev pub decreases-loop-part : goal.decreases-loop-part
decreases-loop-part g l = length l.left.items
