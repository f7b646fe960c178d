use Rattle.std.proofs.Common.{refl}
use Rattle.slate_txn.specs.OwnView.{own_view}
use Rattle.slate_txn.proofs.OwnLaws.{own_operated_by, after_own, after_none}
use Rattle.slate_txn.proofs.db_transaction.DbTransactionInner.operate.Goals as goal
use Rattle.slate_types.proofs.Exits.{on_ok_weaker, on_err_weaker}

pub invariant_of-self : goal.invariant_of-self
invariant_of-self c =
    let said = c.operate.ensures in
    own_operated_by c.operate.result c.self.inside.level c.self.inside.transcript.items _ c.self.inside.batch _ c.self.inside.reading c.self.inside.scans c.args.key.now c.args.op c.requires said.means said.noted said.same_batch said.same_steps c.self.invariant

pub returns : goal.returns
returns c = record {
  taken = on_ok_weaker c.operate.result (λ added. after_own (own_view c.self.inside) c.args.self.now _ c.args.key.now c.args.op c.self.view_is refl added) c.operate.ensures.noted;
  same = on_err_weaker c.operate.result (λ same. after_none (own_view c.self.inside) c.args.self.now _ c.self.view_is refl same) c.operate.ensures.same_steps;
  cause = c.operate.ensures.cause;
}
