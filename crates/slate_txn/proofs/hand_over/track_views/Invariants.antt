use Rattle.std.proofs.Common.{◌≡◌, length}
use Rattle.std.specs.List.{list_any}
use Rattle.std.specs.Vec.Iter.{into_iter_items, into_iter_len}
use Rattle.slate_types.specs.Keys.{in_range}
use Rattle.slate_txn.specs.HandedOver.{Grown, SameKeys}
use Rattle.slate_txn.specs.Named.{find_named}
use Rattle.slate_txn.proofs.HandOver.{TakesRest}
use Rattle.slate_txn.proofs.hand_over.track_views.Given as goal

abbrev pub invariant-loop-range : goal.invariant-loop-range
invariant-loop-range l = record {
  grown : Grown l.id l.initial.manager l.manager;
  same : SameKeys (find_named l.id l.initial.manager.active) (find_named l.id l.manager.active);
  left : length (into_iter_items l.range-iterator) ≡ into_iter_len l.range-iterator;
  rest : TakesRest (λ k. list_any (λ r. in_range r k) l.fn.views.items) (λ k. list_any (λ r. in_range r k) (into_iter_items l.range-iterator)) (find_named l.id l.initial.manager.active) (find_named l.id l.manager.active);
}
