use Rattle.std.proofs.lemmas.Result.{IfOk-from_err, err_from_is_err_and}
use Rattle.slate_block.specs.declared.block.BlockStats.{BlockStats}
use Rattle.slate_block.specs.RowSpelling.{be16}
use Rattle.slate_table.specs.Decoded.{counts_bytes, FitCounts}
use Rattle.slate_table.specs.StatsReading.{counts_of}
use Rattle.slate_table.proofs.Grown.{one_grown, one_holds, all_grew, all_hold}
use Rattle.slate_table.proofs.sst_stats.append_block_stats.Goals as goal
use Rattle.slate_types.proofs.Lists.{AllByRecursion_map}

pub returns-in_err-append_counts : goal.returns-in_err-append_counts
returns-in_err-append_counts c =
    let p = err_from_is_err_and c.from_residual.result c.from_residual.ensures.1 in
    record {
      appended = IfOk-from_err c.from_residual.result _ c.from_residual.ensures.0;
      fit = IfOk-from_err c.from_residual.result _ c.from_residual.ensures.0;
      cause = rw (p.1, p.2) c.in_err-append_counts.ensures.cause;
    }

pub loop-block-preserved : goal.loop-block-preserved
loop-block-preserved c =
    let i = c.loop-block.block-index in
    let blocks = c.args.blocks.now in
    let low = c.loop-block-test.true in
    record {
      appended = one_grown (λ (b : BlockStats). counts_bytes be16 (counts_of b)) blocks i _ c.args.out.now.items c.loop-block.out.items c.append_counts.new.out.items low c.loop-block.invariant.appended c.in_ok-append_counts.ensures.appended;
      fit = one_holds (λ (b : BlockStats). FitCounts 16 (counts_of b)) blocks i _ low c.loop-block.invariant.fit c.in_ok-append_counts.ensures.fit;
    }

pub returns : goal.returns
returns c =
    record {
      appended = all_grew (λ (b : BlockStats). counts_bytes be16 (counts_of b)) c.args.blocks.now c.loop-block.block-index c.args.out.now.items c.loop-block.out.items c.loop-block-test.false c.loop-block.invariant.appended;
      fit = AllByRecursion_map counts_of (FitCounts 16) c.args.blocks.now (all_hold (λ (b : BlockStats). FitCounts 16 (counts_of b)) c.args.blocks.now c.loop-block.block-index c.loop-block-test.false c.loop-block.invariant.fit);
      cause = tt;
    }
