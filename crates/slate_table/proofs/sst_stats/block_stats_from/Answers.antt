use Rattle.std.proofs.Common.{sym, inr, refl, inl}
use Rattle.std.proofs.lemmas.Result.{err_from_is_err_and, IfOk-from_err}
use Rattle.slate_table.specs.StatsReading.{block_stats_from}
use Rattle.slate_table.proofs.StatsReads.{goes_on, stops, is_done}
use Rattle.slate_table.proofs.sst_stats.block_stats_from.Goals as goal
use Rattle.slate_types.proofs.Exits.{err_exit}

pub returns-in_err-block : goal.returns-in_err-block
returns-in_err-block c =
    let p = err_from_is_err_and c.from_residual-in_err-block.result c.from_residual-in_err-block.ensures.1 in
    record {
      found = IfOk-from_err c.from_residual-in_err-block.result _ c.from_residual-in_err-block.ensures.0;
      cause = (rw (p.1, p.2)
          (inr (stops c.in_err-block.field-0.0 c.loop.blocks.items c.args.count c.loop.counter c.args.bytes.now c.loop.at
          (block_stats_from c.args.count c.args.bytes.now c.args.at) c.loop-test.true (sym c.in_err-block.ensures.value) c.loop.invariant.read)));
      within = IfOk-from_err c.from_residual-in_err-block.result _ c.from_residual-in_err-block.ensures.0;
    }

pub loop-preserved : goal.loop-preserved
loop-preserved c = record {
  within = c.in_ok-block.ensures.within;
  read = rw c.in_ok-push.ensures.items
      (goes_on c.loop.blocks.items c.args.count c.loop.counter c.args.bytes.now c.loop.at c.in_ok-block.block c.in_ok-block.next
      (block_stats_from c.args.count c.args.bytes.now c.args.at) c.loop-test.true (sym c.in_ok-block.ensures.value) c.loop.invariant.read);
}

pub returns : goal.returns
returns c =
    record {
      found = (is_done c.loop.blocks.items c.args.count c.loop.counter c.args.bytes.now c.loop.at
          (block_stats_from c.args.count c.args.bytes.now c.args.at) c.loop-test.false c.loop.invariant.read);
      cause = tt;
      within = c.loop.invariant.within;
    }

pub returns-in_err-blocks : goal.returns-in_err-blocks
returns-in_err-blocks c =
    record {
      found = IfOk-from_err c.from_residual.result _ c.from_residual.ensures.0;
      cause = err_exit c.from_residual.result _ c.from_residual.ensures.1 _ (inl refl);
      within = IfOk-from_err c.from_residual.result _ c.from_residual.ensures.0;
    }

pub returns-in_err-push : goal.returns-in_err-push
returns-in_err-push c =
    record {
      found = IfOk-from_err c.from_residual-in_err-push.result _ c.from_residual-in_err-push.ensures.0;
      cause = err_exit c.from_residual-in_err-push.result _ c.from_residual-in_err-push.ensures.1 _ (inl refl);
      within = IfOk-from_err c.from_residual-in_err-push.result _ c.from_residual-in_err-push.ensures.0;
    }
