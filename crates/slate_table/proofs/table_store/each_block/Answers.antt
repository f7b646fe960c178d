use Rattle.std.proofs.Common.{◌∙◌, arith, inl, refl}
use Rattle.std.proofs.lemmas.Result.{err_from_is_err_and, IfOk-from_err}
use Rattle.slate_types.specs.Faults.{faults_of}
use Rattle.slate_table.specs.IndexValue.{entries_of}
use Rattle.slate_table.specs.SectionReading.{changed_by}
use Rattle.slate_table.specs.Reading.{of_blocks, read_at}
use Rattle.slate_table.proofs.PartReads.{still_ok}
use Rattle.slate_table.proofs.BlockReads.{one_more, one_longer, stops, there}
use Rattle.slate_table.proofs.Unasked.{asked_in_turn}
use Rattle.slate_table.proofs.Asking.{unchanged, stays_err, stays_ok, stays_behind}
use Rattle.slate_table.proofs.table_store.each_block.Goals as goal

pub returns-in_err-block : goal.returns-in_err-block
returns-in_err-block g c =
    let p = err_from_is_err_and c.from_residual-in_err-block.result c.from_residual-in_err-block.ensures.1 in
    record {
      found = IfOk-from_err c.from_residual-in_err-block.result _ c.from_residual-in_err-block.ensures.0;
      count = IfOk-from_err c.from_residual-in_err-block.result _ c.from_residual-in_err-block.ensures.0;
      cause = (let decoded = changed_by g.T.BlockTransformer.decoded in
          let faults = faults_of g.T.BlockTransformer.faults in
          rw (p.1, p.2)
          (stops (decoded c.args.transformer.now) (decoded c.loop-at.transformer) (of_blocks c.args.table.now (entries_of c.args.index.now) c.args.blocks.start c.args.answer.now) (read_at c.place_in-place.result c.in_ok-section.section)
          c.args.blocks.start c.loop-at.at c.args.blocks.end c.loop-at.found.items (faults c.args.transformer.now) (faults c.loop-at.transformer) (faults c.block_in.new.transformer) c.in_err-block.field-0.0
          c.loop-at.invariant.same_decoded c.loop-at.invariant.still (there c.args.table.now (entries_of c.args.index.now) c.args.blocks.start c.args.answer.now c.loop-at.at c.place_in-place.result c.block_start.result c.in_ok-section.section c.place_in-place.ensures c.block_start.ensures c.in_ok-section.ensures.found) c.loop-at.invariant.from c.loop-at-test.true c.loop-at.invariant.count c.loop-at.invariant.read c.in_err-block.ensures.cause));
      unasked = (asked_in_turn c.args.transformer.now c.loop-at.transformer c.block_in.new.transformer (changed_by g.T.BlockTransformer.decoded c.args.transformer.now) (of_blocks c.args.table.now (entries_of c.args.index.now) c.args.blocks.start c.args.answer.now)
          (read_at c.place_in-place.result c.in_ok-section.section) c.args.blocks.start c.loop-at.at c.loop-at.found.items
          (there c.args.table.now (entries_of c.args.index.now) c.args.blocks.start c.args.answer.now c.loop-at.at c.place_in-place.result c.block_start.result c.in_ok-section.section c.place_in-place.ensures c.block_start.ensures c.in_ok-section.ensures.found)
          c.loop-at.invariant.from c.loop-at.invariant.count c.loop-at.invariant.read c.loop-at.invariant.asked c.block_in.ensures.unasked);
      stays = stays_behind c.loop-at.invariant.same_encoded c.loop-at.invariant.same_decoded c.loop-at.invariant.still (stays_err c.in_err-block.ensures.stays c.from_residual-in_err-block.ensures.1);
    }

pub loop-at-preserved : goal.loop-at-preserved
loop-at-preserved g c =
    let decoded = changed_by g.T.BlockTransformer.decoded in
    record {
      from = omega (arith, c.loop-at.invariant.from);
      count = rw c.in_ok-push.ensures.items (one_longer c.loop-at.found.items c.in_ok-block.block c.args.blocks.start c.loop-at.at c.loop-at.invariant.from c.loop-at.invariant.count);
      read = rw c.in_ok-push.ensures.items
          (one_more (decoded c.args.transformer.now) (decoded c.loop-at.transformer) (of_blocks c.args.table.now (entries_of c.args.index.now) c.args.blocks.start c.args.answer.now) (read_at c.place_in-place.result c.in_ok-section.section)
          c.args.blocks.start c.loop-at.at c.loop-at.found.items c.in_ok-block.block
          c.loop-at.invariant.same_decoded (there c.args.table.now (entries_of c.args.index.now) c.args.blocks.start c.args.answer.now c.loop-at.at c.place_in-place.result c.block_start.result c.in_ok-section.section c.place_in-place.ensures c.block_start.ensures c.in_ok-section.ensures.found) c.loop-at.invariant.from c.loop-at.invariant.count c.loop-at.invariant.read c.in_ok-block.ensures.found);
      same_encoded = c.block_in.ensures.stays.same_encoded ∙ c.loop-at.invariant.same_encoded;
      same_decoded = c.block_in.ensures.stays.same_decoded ∙ c.loop-at.invariant.same_decoded;
      still = still_ok c.in_ok-block.block c.in_ok-block.ensures.stays.still ∙ c.loop-at.invariant.still;
      asked = (asked_in_turn c.args.transformer.now c.loop-at.transformer c.block_in.new.transformer (changed_by g.T.BlockTransformer.decoded c.args.transformer.now) (of_blocks c.args.table.now (entries_of c.args.index.now) c.args.blocks.start c.args.answer.now)
          (read_at c.place_in-place.result c.in_ok-section.section) c.args.blocks.start c.loop-at.at c.loop-at.found.items
          (there c.args.table.now (entries_of c.args.index.now) c.args.blocks.start c.args.answer.now c.loop-at.at c.place_in-place.result c.block_start.result c.in_ok-section.section c.place_in-place.ensures c.block_start.ensures c.in_ok-section.ensures.found)
          c.loop-at.invariant.from c.loop-at.invariant.count c.loop-at.invariant.read c.loop-at.invariant.asked c.block_in.ensures.unasked);
    }

pub returns-in_err-section : goal.returns-in_err-section
returns-in_err-section g c =
    let p = err_from_is_err_and c.from_residual.result c.from_residual.ensures.1 in
    record {
      found = IfOk-from_err c.from_residual.result _ c.from_residual.ensures.0;
      count = IfOk-from_err c.from_residual.result _ c.from_residual.ensures.0;
      cause = rw (p.1, p.2) (inl c.in_err-section.ensures.cause);
      unasked = c.loop-at.invariant.asked;
      stays = stays_behind c.loop-at.invariant.same_encoded c.loop-at.invariant.same_decoded c.loop-at.invariant.still unchanged;
    }

pub returns : goal.returns
returns g c =
    record {
      found = c.loop-at.invariant.read;
      count = omega arith;
      cause = tt;
      unasked = c.loop-at.invariant.asked;
      stays = stays_behind c.loop-at.invariant.same_encoded c.loop-at.invariant.same_decoded c.loop-at.invariant.still unchanged;
    }

pub returns-in_err-push : goal.returns-in_err-push
returns-in_err-push g c =
    let p = err_from_is_err_and c.from_residual-in_err-push.result c.from_residual-in_err-push.ensures.1 in
    record {
      found = IfOk-from_err c.from_residual-in_err-push.result _ c.from_residual-in_err-push.ensures.0;
      count = IfOk-from_err c.from_residual-in_err-push.result _ c.from_residual-in_err-push.ensures.0;
      cause = rw (p.1, p.2) (inl refl);
      unasked = (asked_in_turn c.args.transformer.now c.loop-at.transformer c.block_in.new.transformer (changed_by g.T.BlockTransformer.decoded c.args.transformer.now) (of_blocks c.args.table.now (entries_of c.args.index.now) c.args.blocks.start c.args.answer.now)
          (read_at c.place_in-place.result c.in_ok-section.section) c.args.blocks.start c.loop-at.at c.loop-at.found.items
          (there c.args.table.now (entries_of c.args.index.now) c.args.blocks.start c.args.answer.now c.loop-at.at c.place_in-place.result c.block_start.result c.in_ok-section.section c.place_in-place.ensures c.block_start.ensures c.in_ok-section.ensures.found)
          c.loop-at.invariant.from c.loop-at.invariant.count c.loop-at.invariant.read c.loop-at.invariant.asked c.block_in.ensures.unasked);
      stays = stays_behind c.loop-at.invariant.same_encoded c.loop-at.invariant.same_decoded c.loop-at.invariant.still (stays_ok c.in_ok-block.ensures.stays);
    }
