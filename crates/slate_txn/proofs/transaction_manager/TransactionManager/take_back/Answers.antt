use Rattle.std.proofs.Common.{◌-◌, sym, subst, ◌∙◌}
use Rattle.std.specs.List.{AllByRecursion}
use Rattle.slate_txn.specs.Ids.{IsOfCount}
use Rattle.slate_txn.specs.Managers.{Manager}
use Rattle.slate_txn.proofs.transaction_manager.TransactionManager.take_back.Goals as goal

pub invariant_of-self : goal.invariant_of-self
invariant_of-self c = record {
  counted = subst (λ (m : Manager). AllByRecursion (λ p. IsOfCount (m.ids - 1) p.0) m.active) (sym (c.self.view_is ∙ c.drop_txn.ensures.dropped)) c.requires.newest;
  rise = c.self.invariant.rise;
  started = c.self.invariant.started;
  kept = c.self.invariant.kept;
}
