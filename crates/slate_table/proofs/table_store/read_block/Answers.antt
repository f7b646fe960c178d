use Rattle.std.proofs.Common.{◌≡◌, ◌+◌, ◌∙◌, ℕ, List, Option, ◌⊎◌, inr, inl, ap, subst}
use Rattle.slate_types.specs.declared.error.SlateDBError.TheVariants.{OutOfMemory}
use Rattle.std.proofs.lemmas.Result.{IfOk-weaker, IfErr-weaker, err_from_is_err_and, IfOk-from_err}
use Rattle.slate_table.proofs.Results.{on_err}
use Rattle.slate_types.specs.Faults.{faults_of}
use Rattle.slate_table.specs.IndexValue.{entries_of}
use Rattle.slate_table.specs.declared.section.SectionPlace.{SectionPlace}
use Rattle.slate_table.specs.Parts.{block_kind}
use Rattle.slate_table.specs.Paths.{path_of}
use Rattle.slate_table.specs.SectionReading.{changed_by}
use Rattle.slate_table.specs.Reading.{SectionRead, section_read, read_at, of_block, block_start, blocks_size, FailsDecoding, IsBlockRead, RefusesBlock}
use Rattle.slate_table.proofs.BlockReads.{row_read, row_refused}
use Rattle.slate_table.proofs.Asking.{unchanged, reaches_err, reaches_ok}
use Rattle.slate_table.proofs.table_store.read_block.Goals as goal

pub returns : goal.returns
returns g c =
    let end = c.args.table.now.info.filter_offset in
    let entries = entries_of c.args.index.now in
    let place = c.place_of_block-place in
    let answer = c.in_ok-answer.answer in
    let there : read_at c.place_in.result answer ≡ of_block c.args.table.now entries c.args.block answer =
    ap (λ (p : SectionPlace). read_at p answer) c.place_in.ensures
    ∙ ap (λ (n : ℕ). section_read c.args.table.now.format_version c.args.table.now.id.0 block_kind n answer) place.ensures.start in
    record {
      found = (IfOk-weaker c.block_in.result _ _
          (λ block found. row_read (g.S.Store.objects c.args.store.now) (g.S.Store.acts c.args.store.now) (g.S.Store.acts c.read.new.store) (path_of c.args.root.now c.args.table.now.id.0)
          place.result.0 place.result.1 (block_start end entries c.args.block) (blocks_size end entries c.args.block (c.args.block + 1)) c.in_ok-answer.answer
          (λ (answer : Option (List ℕ)). IsBlockRead (changed_by g.T.BlockTransformer.decoded c.args.transformer.now) (of_block c.args.table.now entries c.args.block answer) block)
          place.ensures.start place.ensures.size c.in_ok-answer.ensures.read (subst (λ (s : SectionRead). IsBlockRead (changed_by g.T.BlockTransformer.decoded c.args.transformer.now) s block) there found))
          c.block_in.ensures.found);
      cause = (IfErr-weaker c.block_in.result _ _
          (λ e h. row_refused (g.S.Store.objects c.args.store.now) (g.S.Store.acts c.args.store.now) (g.S.Store.acts c.read.new.store) (path_of c.args.root.now c.args.table.now.id.0)
          place.result.0 place.result.1 (block_start end entries c.args.block) (blocks_size end entries c.args.block (c.args.block + 1))
          (g.S.Store.faults c.args.store.now) (g.S.Store.faults c.read.new.store) c.in_ok-answer.answer
          (λ (answer : Option (List ℕ)). FailsDecoding (faults_of g.T.BlockTransformer.faults c.args.transformer.now) (faults_of g.T.BlockTransformer.faults c.block_in.new.transformer) (of_block c.args.table.now entries c.args.block answer) e)
          (λ (answer : Option (List ℕ)). RefusesBlock (changed_by g.T.BlockTransformer.decoded c.args.transformer.now) (of_block c.args.table.now entries c.args.block answer) e) e
          place.ensures.start place.ensures.size c.in_ok-answer.ensures.read
          (subst (λ (s : SectionRead). (e ≡ OutOfMemory) ⊎ FailsDecoding (faults_of g.T.BlockTransformer.faults c.args.transformer.now) (faults_of g.T.BlockTransformer.faults c.block_in.new.transformer) s e
          ⊎ RefusesBlock (changed_by g.T.BlockTransformer.decoded c.args.transformer.now) s e) there h))
          c.block_in.ensures.cause);
      once = (on_err c.block_in.result
          (inr (row_read (g.S.Store.objects c.args.store.now) (g.S.Store.acts c.args.store.now) (g.S.Store.acts c.read.new.store) (path_of c.args.root.now c.args.table.now.id.0)
          place.result.0 place.result.1 (block_start end entries c.args.block) (blocks_size end entries c.args.block (c.args.block + 1)) c.in_ok-answer.answer (λ (answer : Option (List ℕ)). Unit {0})
          place.ensures.start place.ensures.size c.in_ok-answer.ensures.read tt)));
      reaches = reaches_ok c.in_ok-answer.ensures.reaches;
      stays = c.block_in.ensures.stays;
    }

pub returns-in_err-answer : goal.returns-in_err-answer
returns-in_err-answer g c =
    let p = err_from_is_err_and c.from_residual.result c.from_residual.ensures.1 in
    record {
      found = IfOk-from_err c.from_residual.result _ c.from_residual.ensures.0;
      cause = rw (p.1, p.2) (inl c.in_err-answer.ensures.cause);
      once = rw p.1 (inl c.in_err-answer.ensures.none);
      reaches = reaches_err c.in_err-answer.ensures.reaches c.from_residual.ensures.1;
      stays = unchanged;
    }
