use Rattle.slate_stock.specs.Journals.{order_kind}
use Rattle.slate_services.specs.Stores.{PlainFlushed, told_by}
use Rattle.slate_services.proofs.flushing.flush.Given as goal

abbrev pub invariant-loop-turn : goal.invariant-loop-turn
invariant-loop-turn g l = record {
  done : PlainFlushed order_kind l.initial.pass l.pass (told_by g.S.Store l.initial.store)
      (told_by g.S.Store l.store);
}
