use Rattle.std.proofs.Common.{◌∙◌, ℕ, List, ap, inl, inr, refl, arith}
use Rattle.std.specs.Prelude.{string_bytes}
use Rattle.std.proofs.lemmas.Result.{IfOk-weaker, IfErr-weaker, err_from_is_err_and, IfOk-from_err}
use Rattle.slate_table.proofs.Results.{on_err, store_still, store_err, store_longer}
use Rattle.slate_types.specs.Faults.{faults_of}
use Rattle.slate_table.specs.IndexValue.{entries_of}
use Rattle.slate_table.specs.Paths.{path_of}
use Rattle.slate_table.specs.SectionReading.{changed_by}
use Rattle.slate_table.proofs.PartReads.{still_ok, still_err, still_longer}
use Rattle.slate_table.proofs.FileReads.{reads_rows, index_refused, block_refused, row_refused, may_block, had_block}
use Rattle.slate_table.specs.FileReading.{RefusesReadRows, MayReadRows, ReadsFittingIndex}
use Rattle.slate_table.proofs.Unasked.{behind_index}
use Rattle.slate_table.proofs.sst_file.SstFile.read_block.Goals as goal

pub returns-in_err-index : goal.returns-in_err-index
unfolding MayReadRows ReadsFittingIndex
returns-in_err-index g c =
    let p = err_from_is_err_and c.from_residual.result c.from_residual.ensures.1 in
    record {
      found = IfOk-from_err c.from_residual.result _ c.from_residual.ensures.0;
      cause = (let old = c.args.reader.now in
          let table = c.args.self.now.handle in
          rw (p.1, p.2)
          (index_refused (changed_by g.T.BlockTransformer.decoded old.transformer) (g.S.Store.objects old.store) (g.S.Store.acts old.store) (g.S.Store.acts c.index.new.reader.store)
          (path_of (string_bytes old.root_path) table.id.0) table c.args.block
          (faults_of g.T.BlockTransformer.faults old.transformer) (faults_of g.T.BlockTransformer.faults c.index.new.reader.transformer) c.in_err-index.field-0.0 c.in_err-index.ensures.cause));
      twice = (rw p.1 (elim c.in_err-index.ensures.once [
        | inl unread ↦ inl unread
        | inr read ↦ inr (inl read)
      ]));
      unasked = (elim c.index.ensures.unasked [
        | inl same ↦ inl same
        | inr fits ↦ inr (g.S.Store.acts c.index.new.reader.store, (fits.0, fits.1, fits.2), inl refl)
      ]);
      objects = c.index.ensures.objects;
      root = c.index.ensures.root;
      same_encoded = c.index.ensures.same_encoded;
      same_decoded = c.index.ensures.same_decoded;
      later = c.index.ensures.later;
      still = rw (p.1, p.2) (store_err c.in_err-index.field-0.0 c.in_err-index.ensures.still);
      later_transformer = c.index.ensures.later_transformer;
      still_transformer = rw (p.1, p.2) (still_err c.in_err-index.field-0.0 c.in_err-index.ensures.still_transformer);
    }

pub returns-in_err-found : goal.returns-in_err-found
returns-in_err-found g c =
    let p = err_from_is_err_and c.from_residual-in_err-found.result c.from_residual-in_err-found.ensures.1 in
    let old = c.args.reader.now in
    let middle = c.index.new.reader in
    let table = c.args.self.now.handle in
    let objects = g.S.Store.objects in
    let acts = g.S.Store.acts in
    let decoded = changed_by g.T.BlockTransformer.decoded in
    let entries = entries_of c.in_ok-index.index in
    let there = ap (λ (root : List ℕ). path_of root table.id.0) (c.as_str-root.ensures.value ∙ ap string_bytes c.index.ensures.root) in
    record {
      found = IfOk-from_err c.from_residual-in_err-found.result _ c.from_residual-in_err-found.ensures.0;
      cause = (let faults = g.S.Store.faults in
          let failed = faults_of g.T.BlockTransformer.faults in
          rw (p.1, p.2)
          (block_refused (decoded old.transformer) (decoded middle.transformer) (objects old.store) (objects middle.store) (acts old.store) (acts middle.store) (acts c.read_block.new.store)
          (path_of (string_bytes old.root_path) table.id.0) (path_of c.as_str-root.result.now table.id.0) table entries c.args.block
          (faults old.store) (faults middle.store) (faults c.read_block.new.store) (failed old.transformer) (failed middle.transformer) (failed c.read_block.new.transformer) c.in_err-found.field-0.0
          c.index.ensures.same_decoded c.index.ensures.objects there c.index.ensures.later (still_ok c.in_ok-index.index c.in_ok-index.ensures.still_transformer) c.in_ok-index.ensures.found c.in_ok-test_block.ensures.within c.in_err-found.ensures.cause));
      twice = (rw p.1
          (may_block (decoded old.transformer) (objects old.store) (objects middle.store) (acts old.store) (acts middle.store) (acts c.read_block.new.store)
          (path_of (string_bytes old.root_path) table.id.0) (path_of c.as_str-root.result.now table.id.0) table entries c.args.block
          c.index.ensures.objects there c.in_ok-index.ensures.found c.in_ok-test_block.ensures.within c.in_err-found.ensures.once));
      unasked = inr (behind_index (decoded old.transformer) (objects old.store) (objects middle.store) (acts old.store) (acts middle.store) (acts c.read_block.new.store)
          (path_of (string_bytes old.root_path) table.id.0) (path_of c.as_str-root.result.now table.id.0) table entries c.args.block
          c.index.ensures.objects there c.in_ok-index.ensures.found c.in_err-found.ensures.once);
      objects = c.read_block.ensures.reaches.same_objects ∙ c.index.ensures.objects;
      root = c.index.ensures.root;
      same_encoded = c.read_block.ensures.stays.same_encoded ∙ c.index.ensures.same_encoded;
      same_decoded = c.read_block.ensures.stays.same_decoded ∙ c.index.ensures.same_decoded;
      later = omega (arith, c.index.ensures.later, c.read_block.ensures.reaches.later);
      still = (let faults = g.S.Store.faults in
          rw (p.1, p.2) (store_err c.in_err-found.field-0.0
          (store_longer (faults c.args.reader.now.store) (faults c.index.new.reader.store) (faults c.read_block.new.store) (store_still c.in_ok-index.index c.in_ok-index.ensures.still) c.in_err-found.ensures.reaches.still)));
      later_transformer = omega (arith, c.index.ensures.later_transformer, c.read_block.ensures.stays.later);
      still_transformer = (let faults = faults_of g.T.BlockTransformer.faults in
          rw (p.1, p.2) (still_err c.in_err-found.field-0.0
          (still_longer (faults c.args.reader.now.transformer) (faults c.index.new.reader.transformer) (faults c.read_block.new.transformer) (still_ok c.in_ok-index.index c.in_ok-index.ensures.still_transformer) c.in_err-found.ensures.stays.still)));
    }

pub returns : goal.returns
returns g c =
    let old = c.args.reader.now in
    let middle = c.index.new.reader in
    let table = c.args.self.now.handle in
    let objects = g.S.Store.objects in
    let acts = g.S.Store.acts in
    let decoded = changed_by g.T.BlockTransformer.decoded in
    let entries = entries_of c.in_ok-index.index in
    let there = ap (λ (root : List ℕ). path_of root table.id.0) (c.as_str-root.ensures.value ∙ ap string_bytes c.index.ensures.root) in
    record {
      found = (IfOk-weaker c.rows_of_block-rows.result _ _
          (λ rows read. reads_rows (decoded old.transformer) (decoded middle.transformer) (objects old.store) (objects middle.store) (acts old.store) (acts middle.store) (acts c.read_block.new.store)
          (path_of (string_bytes old.root_path) table.id.0) (path_of c.as_str-root.result.now table.id.0) table entries c.args.block c.in_ok-found.found rows.items
          c.index.ensures.same_decoded c.index.ensures.objects there c.in_ok-index.ensures.found c.in_ok-test_block.ensures.within c.rows_of_block-rows.ensures.bytes c.in_ok-found.ensures.found read)
          c.rows_of_block-rows.ensures.rows);
      cause = (let faults = g.S.Store.faults in
          let failed = faults_of g.T.BlockTransformer.faults in
          IfErr-weaker c.rows_of_block-rows.result _ _
          (λ e h. row_refused (decoded old.transformer) (decoded middle.transformer) (objects old.store) (objects middle.store) (acts old.store) (acts middle.store) (acts c.read_block.new.store)
          (path_of (string_bytes old.root_path) table.id.0) (path_of c.as_str-root.result.now table.id.0) table entries c.args.block c.in_ok-found.found
          (faults old.store) (faults c.read_block.new.store) (failed old.transformer) (failed c.read_block.new.transformer) e
          c.index.ensures.same_decoded c.index.ensures.objects there c.in_ok-index.ensures.found c.in_ok-test_block.ensures.within c.rows_of_block-rows.ensures.bytes c.in_ok-found.ensures.found h)
          c.rows_of_block-rows.ensures.cause);
      twice = (on_err c.rows_of_block-rows.result
          (had_block (decoded old.transformer) (decoded middle.transformer) (objects old.store) (objects middle.store) (acts old.store) (acts middle.store) (acts c.read_block.new.store)
          (path_of (string_bytes old.root_path) table.id.0) (path_of c.as_str-root.result.now table.id.0) table entries c.args.block c.in_ok-found.found
          c.index.ensures.objects there c.in_ok-index.ensures.found c.in_ok-test_block.ensures.within c.in_ok-found.ensures.found));
      unasked = (let found = c.in_ok-found.ensures.found in inr (behind_index (decoded old.transformer) (objects old.store) (objects middle.store) (acts old.store) (acts middle.store) (acts c.read_block.new.store)
          (path_of (string_bytes old.root_path) table.id.0) (path_of c.as_str-root.result.now table.id.0) table entries c.args.block
          c.index.ensures.objects there c.in_ok-index.ensures.found (inr (found.0, found.1, tt))));
      objects = c.read_block.ensures.reaches.same_objects ∙ c.index.ensures.objects;
      root = c.index.ensures.root;
      same_encoded = c.read_block.ensures.stays.same_encoded ∙ c.index.ensures.same_encoded;
      same_decoded = c.read_block.ensures.stays.same_decoded ∙ c.index.ensures.same_decoded;
      later = omega (arith, c.index.ensures.later, c.read_block.ensures.reaches.later);
      still = inr (store_still c.in_ok-found.found c.in_ok-found.ensures.reaches.still ∙ store_still c.in_ok-index.index c.in_ok-index.ensures.still);
      later_transformer = omega (arith, c.index.ensures.later_transformer, c.read_block.ensures.stays.later);
      still_transformer = inr (still_ok c.in_ok-found.found c.in_ok-found.ensures.stays.still ∙ still_ok c.in_ok-index.index c.in_ok-index.ensures.still_transformer);
    }

pub returns-in_err-test_block : goal.returns-in_err-test_block
unfolding RefusesReadRows MayReadRows
returns-in_err-test_block g c =
    let p = err_from_is_err_and c.from_residual-in_err-test_block.result c.from_residual-in_err-test_block.ensures.1 in
    record {
      found = IfOk-from_err c.from_residual-in_err-test_block.result _ c.from_residual-in_err-test_block.ensures.0;
      cause = (let past = c.in_err-test_block.ensures.past in
          rw (p.1, p.2) (inr (inr (inr (inl (entries_of c.in_ok-index.index, c.in_ok-index.ensures.found, past.0, past.1))))));
      twice = (let found = c.in_ok-index.ensures.found in
          rw p.1 (inr (inl (found.0, found.1, tt))));
      unasked = (let old = c.args.reader.now in
          let middle = c.index.new.reader in
          let path = path_of (string_bytes old.root_path) c.args.self.now.handle.id.0 in
          inr (behind_index (changed_by g.T.BlockTransformer.decoded old.transformer) (g.S.Store.objects old.store) (g.S.Store.objects old.store) (g.S.Store.acts old.store) (g.S.Store.acts middle.store) (g.S.Store.acts middle.store)
          path path c.args.self.now.handle (entries_of c.in_ok-index.index) c.args.block refl refl c.in_ok-index.ensures.found (inl refl)));
      objects = c.index.ensures.objects;
      root = c.index.ensures.root;
      same_encoded = c.index.ensures.same_encoded;
      same_decoded = c.index.ensures.same_decoded;
      later = c.index.ensures.later;
      still = inr (store_still c.in_ok-index.index c.in_ok-index.ensures.still);
      later_transformer = c.index.ensures.later_transformer;
      still_transformer = inr (still_ok c.in_ok-index.index c.in_ok-index.ensures.still_transformer);
    }
