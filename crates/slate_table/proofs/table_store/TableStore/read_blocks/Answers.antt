use Rattle.std.proofs.Common.{◌-◌, ◌∙◌, ℕ, List, Option, inr, inl, arith, refl}
use Rattle.std.proofs.lemmas.Result.{IfOk-weaker, IfErr-weaker, err_from_is_err_and, IfOk-from_err}
use Rattle.slate_table.proofs.Results.{on_err, store_still, store_err}
use Rattle.slate_types.specs.Faults.{faults_of}
use Rattle.slate_table.specs.IndexValue.{entries_of}
use Rattle.slate_table.specs.Paths.{path_of}
use Rattle.slate_table.specs.SectionReading.{changed_by}
use Rattle.slate_table.specs.Reading.{Fits, of_blocks, block_start, blocks_size, AreBlocksRead, RefusesBlocks, FailsBlocks}
use Rattle.slate_table.proofs.BlockReads.{row_read, row_refused}
use Rattle.slate_table.proofs.Unasked.{no_fault, no_blocks_fault}
use Rattle.slate_table.proofs.table_store.TableStore.read_blocks.Goals as goal

pub returns-then-blocks : goal.returns-then-blocks
returns-then-blocks g c =
    record {
      none = λ is. (refl, refl, c.new.ensures.items, tt);
      found = λ some. absurd (omega (arith, some, c.if-blocks.true));
      count = rw c.new.ensures.items (omega arith);
      cause = tt;
      once = tt;
      unasked = inl refl;
      unanswered = λ _. refl;
      objects = refl;
      same_encoded = refl;
      same_decoded = refl;
      later = omega arith;
      still = inr refl;
      later_transformer = omega arith;
      still_transformer = inr refl;
    }

pub returns : goal.returns
returns g c =
    let end = c.args.table.now.info.filter_offset in
    let entries = entries_of c.args.index.now in
    let decoded = changed_by g.T.BlockTransformer.decoded c.args.transformer.now in
    let size = c.saturating_sub-size.ensures ∙ (λ i. c.block_start.ensures i - c.block_start-start.ensures i) in
    record {
      none = λ is. absurd (omega (arith, is, c.if-blocks.false));
      found = λ some. (IfOk-weaker c.each_block-found.result _ _
          (λ blocks found. row_read (g.S.Store.objects c.args.store.now) (g.S.Store.acts c.args.store.now) (g.S.Store.acts c.read.new.store) (path_of c.args.root.now c.args.table.now.id.0)
          c.block_start-start.result c.saturating_sub-size.result (block_start end entries c.args.blocks.start) (blocks_size end entries c.args.blocks.start c.args.blocks.end) c.in_ok-answer.answer
          (λ (answer : Option (List ℕ)). AreBlocksRead decoded (of_blocks c.args.table.now entries c.args.blocks.start answer) c.args.blocks.start blocks.items)
          c.block_start-start.ensures size c.in_ok-answer.ensures.read found)
          c.each_block-found.ensures.found);
      count = c.each_block-found.ensures.count;
      cause = (IfErr-weaker c.each_block-found.result _ _
          (λ e h. row_refused (g.S.Store.objects c.args.store.now) (g.S.Store.acts c.args.store.now) (g.S.Store.acts c.read.new.store) (path_of c.args.root.now c.args.table.now.id.0)
          c.block_start-start.result c.saturating_sub-size.result (block_start end entries c.args.blocks.start) (blocks_size end entries c.args.blocks.start c.args.blocks.end)
          (g.S.Store.faults c.args.store.now) (g.S.Store.faults c.read.new.store) c.in_ok-answer.answer
          (λ (answer : Option (List ℕ)). FailsBlocks decoded (of_blocks c.args.table.now entries c.args.blocks.start answer) c.args.blocks.start c.args.blocks.end
          (faults_of g.T.BlockTransformer.faults c.args.transformer.now) (faults_of g.T.BlockTransformer.faults c.each_block-found.new.transformer) e)
          (λ (answer : Option (List ℕ)). RefusesBlocks decoded (of_blocks c.args.table.now entries c.args.blocks.start answer) c.args.blocks.start c.args.blocks.end e) e
          c.block_start-start.ensures size c.in_ok-answer.ensures.read h)
          c.each_block-found.ensures.cause);
      once = (on_err c.each_block-found.result
          (inr (row_read (g.S.Store.objects c.args.store.now) (g.S.Store.acts c.args.store.now) (g.S.Store.acts c.read.new.store) (path_of c.args.root.now c.args.table.now.id.0)
          c.block_start-start.result c.saturating_sub-size.result (block_start end entries c.args.blocks.start) (blocks_size end entries c.args.blocks.start c.args.blocks.end) c.in_ok-answer.answer
          (λ (answer : Option (List ℕ)). Unit {0}) c.block_start-start.ensures size c.in_ok-answer.ensures.read tt)));
      unasked = (elim c.each_block-found.ensures.unasked [
        | inl same ↦ inl same
        | inr fits ↦ inr (row_read (g.S.Store.objects c.args.store.now) (g.S.Store.acts c.args.store.now) (g.S.Store.acts c.read.new.store) (path_of c.args.root.now c.args.table.now.id.0)
            c.block_start-start.result c.saturating_sub-size.result (block_start end entries c.args.blocks.start) (blocks_size end entries c.args.blocks.start c.args.blocks.end) c.in_ok-answer.answer
            (λ (answer : Option (List ℕ)). Fits (of_blocks c.args.table.now entries c.args.blocks.start answer c.args.blocks.start)) c.block_start-start.ensures size c.in_ok-answer.ensures.read fits)
      ]);
      unanswered = λ failed. absurd (no_fault c.each_block-found.result _ (no_blocks_fault decoded (of_blocks c.args.table.now entries c.args.blocks.start c.in_ok-answer.answer) c.args.blocks.start c.args.blocks.end _ _) c.each_block-found.ensures.cause failed);
      objects = c.read.ensures.reaches.same_objects;
      same_encoded = c.each_block-found.ensures.stays.same_encoded;
      same_decoded = c.each_block-found.ensures.stays.same_decoded;
      later = c.read.ensures.reaches.later;
      still = inr (store_still c.in_ok-answer.answer c.in_ok-answer.ensures.reaches.still);
      later_transformer = c.each_block-found.ensures.stays.later;
      still_transformer = c.each_block-found.ensures.stays.still;
    }

pub returns-in_err-answer : goal.returns-in_err-answer
returns-in_err-answer g c =
    let p = err_from_is_err_and c.from_residual.result c.from_residual.ensures.1 in
    record {
      none = λ is. absurd (omega (arith, is, c.if-blocks.false));
      found = λ some. IfOk-from_err c.from_residual.result _ c.from_residual.ensures.0;
      count = IfOk-from_err c.from_residual.result _ c.from_residual.ensures.0;
      cause = rw (p.1, p.2) (inl c.in_err-answer.ensures.cause);
      once = rw p.1 (inl c.in_err-answer.ensures.none);
      unasked = inl refl;
      unanswered = λ _. refl;
      objects = c.read.ensures.reaches.same_objects;
      same_encoded = refl;
      same_decoded = refl;
      later = c.read.ensures.reaches.later;
      still = rw (p.1, p.2) (store_err c.in_err-answer.field-0.0 c.in_err-answer.ensures.reaches.still);
      later_transformer = omega arith;
      still_transformer = inr refl;
    }
