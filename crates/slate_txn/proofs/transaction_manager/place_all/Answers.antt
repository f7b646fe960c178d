use Rattle.std.proofs.Common.{◌∙◌}
use Rattle.slate_types.specs.Keys.{among}
use Rattle.slate_txn.specs.Named.{find_named}
use Rattle.slate_txn.specs.ManagersView.{placed}
use Rattle.slate_txn.proofs.Placing.{placed_turn, placed_end}
use Rattle.slate_txn.proofs.transaction_manager.place_all.Goals as goal

pub loop-key-preserved : goal.loop-key-preserved
loop-key-preserved c = record {
  found = placed_turn c.args.keys.now c.loop-key.key-index c.key-item.result c.loop-key.kept.entries c.place.new.kept.entries (λ k. placed (among k c.args.keys.now) (find_named k c.args.kept.now.entries)) c.loop-key-test.true c.key-item.is c.in_ok-place.ensures.found c.loop-key.invariant.found;
  real = c.in_ok-place.ensures.real ∙ c.loop-key.invariant.real;
  rising = c.in_ok-place.ensures.rising;
}

pub returns-clause-found : goal.returns-clause-found
returns-clause-found c = placed_end c.args.keys.now c.loop-key.key-index c.loop-key.kept.entries (λ k. placed (among k c.args.keys.now) (find_named k c.args.kept.now.entries)) c.loop-key-test.false c.loop-key.invariant.found
