use Rattle.std.proofs.Common.{◌∙◌}
use Rattle.slate_types.specs.Keys.{among}
use Rattle.slate_txn.specs.Named.{find_named}
use Rattle.slate_txn.specs.ManagersView.{over}
use Rattle.slate_txn.proofs.Placing.{over_turn, over_end}
use Rattle.slate_txn.proofs.transaction_manager.write_all.Goals as goal

pub loop-key-preserved : goal.loop-key-preserved
loop-key-preserved c = record {
  found = over_turn c.args.seq c.args.keys.now c.loop-key.key-index c.key-item.result c.loop-key.kept.entries c.write.new.kept.entries (λ k. over c.args.seq (among k c.args.keys.now) (find_named k c.args.kept.now.entries)) c.loop-key-test.true c.key-item.is c.write.ensures.found c.loop-key.invariant.found;
  keys = c.write.ensures.keys ∙ c.loop-key.invariant.keys;
}

pub returns-clause-found : goal.returns-clause-found
returns-clause-found c = over_end c.args.seq c.args.keys.now c.loop-key.key-index c.loop-key.kept.entries (λ k. over c.args.seq (among k c.args.keys.now) (find_named k c.args.kept.now.entries)) c.loop-key-test.false c.loop-key.invariant.found
