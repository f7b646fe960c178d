use Rattle.slate_stock.specs.Journals.{order_kind}
use Rattle.slate_services.proofs.FlushingLaws.{flush_goes_on, nothing_flushed}
use Rattle.slate_services.proofs.flushing.flush.Goals as goal

pub loop-turn-init : goal.loop-turn-init
loop-turn-init g c = record { done = nothing_flushed order_kind _ _ }

pub loop-turn-preserved : goal.loop-turn-preserved
loop-turn-preserved g c = record {
  done = flush_goes_on order_kind _ _ _ _ _ _ c.loop-turn.invariant.done c.flush_once.ensures;
}
