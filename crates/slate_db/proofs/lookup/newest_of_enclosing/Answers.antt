use Rattle.std.proofs.Common.{Some, ◌∙◌, refl, arith, subst, sym, Ok, Err, ap}
use Rattle.std.proofs.lemmas.Result.{err_from_is_err_and, IfOk-from_err, IfOk-weaker, IfErr-weaker}
use Rattle.slate_types.specs.Faults.{faults_of}
use Rattle.slate_types.specs.Outside.{IsCounted, Reach, unblamed, unblamed_by}
use Rattle.slate_types.proofs.Reaching.{adds_both, reads_of}
use Rattle.slate_store.specs.Reach.{reach_of}
use Rattle.slate_table.specs.IndexValue.{entries_of}
use Rattle.slate_table.specs.SectionReading.{changed_by}
use Rattle.slate_db.proofs.Answered.{adds_once, adds_read, answering_first, answering_last}
use Rattle.slate_db.proofs.Behind.{meanings, once_of, quietly, read_of, two_of}
use Rattle.slate_db.proofs.Causes.{read_fault}
use Rattle.slate_db.proofs.Checks.{checks_err, checks_ok}
use Rattle.slate_db.proofs.Newest.{newest_same}
use Rattle.slate_db.proofs.Shown.{blocks_refused, index_refused, no_rows_read, none_asked, row_refused, table_rows}
use Rattle.slate_db.proofs.TableChecks.{blocks_checked, index_checked}
use Rattle.slate_db.proofs.Tables.{answered_by, blocks_whole, faults_earlier, index_whole, key_nowhere, key_read}
use Rattle.slate_types.proofs.StillLaws.{told_still}
use Rattle.slate_db.proofs.lookup.newest_of_enclosing.Goals as goal

pub returns-in_err-index : goal.returns-in_err-index
returns-in_err-index g c =
    let p = err_from_is_err_and c.from_residual.result c.from_residual.ensures.1 in
    record {
      found = λ rows os stored a. IfOk-from_err c.from_residual.result _ c.from_residual.ensures.0;
      whole = (λ rows os stored a.
          let p = err_from_is_err_and c.from_residual.result c.from_residual.ensures.1 in
          rw (p.1, p.2) (read_fault _ _ _ (index_whole _ _ _ _ c.args.table.now rows _ _ _ _ _ _ _ stored (answered_by stored a) c.in_err-index.ensures.cause)));
      asked = IfOk-from_err c.from_residual.result _ c.from_residual.ensures.0;
      rows = IfOk-from_err c.from_residual.result _ c.from_residual.ensures.0;
      cause = rw (p.1, p.2) (index_refused _ _ c.args.table.now _ c.read_index.ensures.objects refl c.read_index.ensures.same_encoded c.read_index.ensures.same_decoded c.in_err-index.ensures.cause);
      alone = once_of _ _ c.args.table.now _ _ c.read_index.ensures.objects (meanings _ _ refl c.read_index.ensures.same_encoded c.read_index.ensures.same_decoded) c.in_err-index.ensures.once;
      checked = (λ rows os stored.
          let before : Reach = reach_of g.S.Store g.M.MergeOperator g.T.BlockTransformer c.args.env.now in
          let after : Reach = record before {
            objects = g.S.Store.objects c.read_index.new.store;
            acts = g.S.Store.acts c.read_index.new.store;
            meaning = record before.meaning { encode = changed_by g.T.BlockTransformer.encoded c.read_index.new.transformer; decode = changed_by g.T.BlockTransformer.decoded c.read_index.new.transformer };
            faults = record before.faults { store = g.S.Store.faults c.read_index.new.store; transformer = faults_of g.T.BlockTransformer.faults c.read_index.new.transformer };
          } in
          checks_err c.from_residual.result os before after c.from_residual.ensures.0);
      reads = reads_of _ _ c.read_index.ensures.objects refl c.read_index.ensures.same_encoded c.read_index.ensures.same_decoded (adds_once _ _ _ _ _ _ c.in_err-index.ensures.once) (record { store = c.read_index.ensures.later; operator = omega arith; transformer = c.read_index.ensures.later_transformer }) refl;
      still = rw (p.1, p.2) (told_still (reach_of g.S.Store g.M.MergeOperator g.T.BlockTransformer c.args.env.now).faults (record (reach_of g.S.Store g.M.MergeOperator g.T.BlockTransformer c.args.env.now).faults { store = g.S.Store.faults c.read_index.new.store; transformer = faults_of g.T.BlockTransformer.faults c.read_index.new.transformer }) (Err c.in_err-index.field-0.0) refl c.in_err-index.ensures.still c.in_err-index.ensures.still_transformer);
    }

pub returns-then-covered : goal.returns-then-covered
returns-then-covered g c =
    record {
      found = (λ rows os stored a.
          c.new.ensures.items
          ∙ key_nowhere _ _ _ _ c.args.table.now rows (entries_of c.in_ok-index.index) c.args.key.now c.args.max_seq c.covering-covered.result.start c.covering-covered.result.end _ _ stored (answered_by stored a) c.covering-covered.ensures.order c.covering-covered.ensures.within c.covering-covered.ensures.each c.if-covered.true
          c.in_ok-index.ensures.found);
      whole = λ rows os stored a. tt;
      asked = none_asked c.args.key.now c.args.max_seq c.new.result.items c.new.ensures.items;
      rows = no_rows_read _ _ c.args.table.now _ _ _ c.new.result.items c.read_index.ensures.objects (meanings _ _ refl c.read_index.ensures.same_encoded c.read_index.ensures.same_decoded) c.in_ok-index.ensures.found c.new.ensures.items;
      cause = tt;
      alone = read_of _ _ c.args.table.now _ _ _ c.read_index.ensures.objects (meanings _ _ refl c.read_index.ensures.same_encoded c.read_index.ensures.same_decoded) c.in_ok-index.ensures.found;
      checked = (λ rows os stored.
          let before : Reach = reach_of g.S.Store g.M.MergeOperator g.T.BlockTransformer c.args.env.now in
          let after : Reach = record before {
            objects = g.S.Store.objects c.read_index.new.store;
            acts = g.S.Store.acts c.read_index.new.store;
            meaning = record before.meaning { encode = changed_by g.T.BlockTransformer.encoded c.read_index.new.transformer; decode = changed_by g.T.BlockTransformer.decoded c.read_index.new.transformer };
            faults = record before.faults { store = g.S.Store.faults c.read_index.new.store; transformer = faults_of g.T.BlockTransformer.faults c.read_index.new.transformer };
          } in
          index_checked before after c.args.table.now (entries_of c.in_ok-index.index) rows os stored c.in_ok-index.ensures.found);
      reads = reads_of _ _ c.read_index.ensures.objects refl c.read_index.ensures.same_encoded c.read_index.ensures.same_decoded (adds_read _ _ _ _ _ _ _ c.in_ok-index.ensures.found) (record { store = c.read_index.ensures.later; operator = omega arith; transformer = c.read_index.ensures.later_transformer }) refl;
      still = told_still (reach_of g.S.Store g.M.MergeOperator g.T.BlockTransformer c.args.env.now).faults (record (reach_of g.S.Store g.M.MergeOperator g.T.BlockTransformer c.args.env.now).faults { store = g.S.Store.faults c.read_index.new.store; transformer = faults_of g.T.BlockTransformer.faults c.read_index.new.transformer }) (Ok c.in_ok-index.index) refl c.in_ok-index.ensures.still c.in_ok-index.ensures.still_transformer;
    }

pub returns-in_err-blocks : goal.returns-in_err-blocks
returns-in_err-blocks g c =
    let p = err_from_is_err_and c.from_residual-in_err-blocks.result c.from_residual-in_err-blocks.ensures.1 in
    record {
      found = λ rows os stored a. IfOk-from_err c.from_residual-in_err-blocks.result _ c.from_residual-in_err-blocks.ensures.0;
      whole = (λ rows os stored a.
          let encode = changed_by g.T.BlockTransformer.encoded c.args.env.now.transformer in
          let decode = changed_by g.T.BlockTransformer.decoded c.args.env.now.transformer in
          let now = changed_by g.T.BlockTransformer.decoded c.read_index.new.transformer in
          let first = adds_read _ _ _ _ _ _ _ c.in_ok-index.ensures.found in
          let last = adds_once _ _ _ _ _ _ c.in_err-blocks.ensures.once in
          let p = err_from_is_err_and c.from_residual-in_err-blocks.result c.from_residual-in_err-blocks.ensures.1 in
          rw (p.1, p.2) (read_fault _ _ _ (faults_earlier _ _ _ _ _ _ _ c.read_index.ensures.later c.read_index.ensures.later_transformer
          (blocks_whole encode decode now (Some os) (g.S.Store.objects c.args.env.now.store.now) (g.S.Store.objects c.read_index.new.store) c.args.table.now rows (entries_of c.in_ok-index.index)
          c.covering-covered.result.start c.covering-covered.result.end (g.S.Store.acts c.args.env.now.store.now) (g.S.Store.acts c.read_index.new.store) (g.S.Store.acts c.read_blocks.new.store) c.in_err-blocks.field-0.0 _ _ _ _ stored (answered_by stored (answering_first os _ _ _ _ first last a)) (answered_by stored (answering_last os _ _ _ _ _ c.read_index.ensures.objects first last a)) c.read_index.ensures.same_decoded c.covering-covered.ensures.order c.covering-covered.ensures.within c.in_ok-index.ensures.found c.in_err-blocks.ensures.cause))));
      asked = IfOk-from_err c.from_residual-in_err-blocks.result _ c.from_residual-in_err-blocks.ensures.0;
      rows = IfOk-from_err c.from_residual-in_err-blocks.result _ c.from_residual-in_err-blocks.ensures.0;
      cause = rw (p.1, p.2) (blocks_refused _ _ c.args.table.now _ (entries_of c.in_ok-index.index) c.covering-covered.result.start c.covering-covered.result.end _ _ _ _ _ (record {
        first_objects = c.read_index.ensures.objects;
        last_objects = c.read_blocks.ensures.objects;
        combine = refl;
        encode = c.read_blocks.ensures.same_encoded ∙ c.read_index.ensures.same_encoded;
        decode = c.read_blocks.ensures.same_decoded ∙ c.read_index.ensures.same_decoded;
        decodes = c.read_index.ensures.same_decoded;
        order = c.covering-covered.ensures.order;
        within = c.covering-covered.ensures.within;
        index = c.in_ok-index.ensures.found;
      }) c.read_index.ensures.later c.read_index.ensures.later_transformer c.in_err-blocks.ensures.cause);
      alone = two_of _ _ c.args.table.now _ _ _ _ _ _ _ c.read_index.ensures.objects c.read_blocks.ensures.objects (meanings _ _ refl (c.read_blocks.ensures.same_encoded ∙ c.read_index.ensures.same_encoded) (c.read_blocks.ensures.same_decoded ∙ c.read_index.ensures.same_decoded)) c.in_ok-index.ensures.found c.in_err-blocks.ensures.once;
      checked = (λ rows os stored.
          let before : Reach = reach_of g.S.Store g.M.MergeOperator g.T.BlockTransformer c.args.env.now in
          let after : Reach = record before {
            objects = g.S.Store.objects c.read_blocks.new.store;
            acts = g.S.Store.acts c.read_blocks.new.store;
            meaning = record before.meaning { encode = changed_by g.T.BlockTransformer.encoded c.read_blocks.new.transformer; decode = changed_by g.T.BlockTransformer.decoded c.read_blocks.new.transformer };
            faults = record before.faults { store = g.S.Store.faults c.read_blocks.new.store; transformer = faults_of g.T.BlockTransformer.faults c.read_blocks.new.transformer };
          } in
          checks_err c.from_residual-in_err-blocks.result os before after c.from_residual-in_err-blocks.ensures.0);
      reads = reads_of _ _ (c.read_blocks.ensures.objects ∙ c.read_index.ensures.objects) refl (c.read_blocks.ensures.same_encoded ∙ c.read_index.ensures.same_encoded) (c.read_blocks.ensures.same_decoded ∙ c.read_index.ensures.same_decoded)
          (adds_both _ _ _ (adds_read _ _ _ _ _ _ _ c.in_ok-index.ensures.found) (adds_once _ _ _ _ _ _ c.in_err-blocks.ensures.once)) (record { store = omega (arith, c.read_index.ensures.later, c.read_blocks.ensures.later); operator = omega arith; transformer = omega (arith, c.read_index.ensures.later_transformer, c.read_blocks.ensures.later_transformer) }) refl;
      still = rw (p.1, p.2) (told_still (record (reach_of g.S.Store g.M.MergeOperator g.T.BlockTransformer c.args.env.now).faults { store = g.S.Store.faults c.read_index.new.store; transformer = faults_of g.T.BlockTransformer.faults c.read_index.new.transformer }) (record (reach_of g.S.Store g.M.MergeOperator g.T.BlockTransformer c.args.env.now).faults { store = g.S.Store.faults c.read_blocks.new.store; transformer = faults_of g.T.BlockTransformer.faults c.read_blocks.new.transformer }) (Err c.in_err-blocks.field-0.0) refl c.in_err-blocks.ensures.still c.in_err-blocks.ensures.still_transformer ∙ ap (unblamed c.in_err-blocks.field-0.0) (told_still (reach_of g.S.Store g.M.MergeOperator g.T.BlockTransformer c.args.env.now).faults (record (reach_of g.S.Store g.M.MergeOperator g.T.BlockTransformer c.args.env.now).faults { store = g.S.Store.faults c.read_index.new.store; transformer = faults_of g.T.BlockTransformer.faults c.read_index.new.transformer }) (Ok c.in_ok-index.index) refl c.in_ok-index.ensures.still c.in_ok-index.ensures.still_transformer));
    }

pub returns : goal.returns
returns g c =
    record {
      found = (λ rows os stored a.
          let encode = changed_by g.T.BlockTransformer.encoded c.args.env.now.transformer in
          let decode = changed_by g.T.BlockTransformer.decoded c.args.env.now.transformer in
          let now = changed_by g.T.BlockTransformer.decoded c.read_index.new.transformer in
          let first = adds_read _ _ _ _ _ _ _ c.in_ok-index.ensures.found in
          let last = adds_read _ _ _ _ _ _ _ (c.in_ok-blocks.ensures.found c.if-covered.false) in
          let key = key_read encode decode now (Some os) (g.S.Store.objects c.args.env.now.store.now) (g.S.Store.objects c.read_index.new.store) c.args.table.now rows (entries_of c.in_ok-index.index)
          c.args.key.now c.covering-covered.result.start c.covering-covered.result.end (g.S.Store.acts c.args.env.now.store.now) (g.S.Store.acts c.read_index.new.store) (g.S.Store.acts c.read_blocks.new.store) c.in_ok-blocks.blocks.items stored (answered_by stored (answering_first os _ _ _ _ first last a)) (answered_by stored (answering_last os _ _ _ _ _ c.read_index.ensures.objects first last a)) c.read_index.ensures.same_decoded
          c.covering-covered.ensures.order c.covering-covered.ensures.within c.covering-covered.ensures.each c.in_ok-blocks.ensures.count c.in_ok-index.ensures.found (c.in_ok-blocks.ensures.found c.if-covered.false) in
          IfOk-weaker c.newest_of_blocks.result _ _ (λ found h. h ∙ newest_same c.args.key.now c.args.max_seq _ rows key.3) (c.newest_of_blocks.ensures.found key.0 key.1 key.2));
      whole = (λ rows os stored a.
          let encode = changed_by g.T.BlockTransformer.encoded c.args.env.now.transformer in
          let decode = changed_by g.T.BlockTransformer.decoded c.args.env.now.transformer in
          let now = changed_by g.T.BlockTransformer.decoded c.read_index.new.transformer in
          let first = adds_read _ _ _ _ _ _ _ c.in_ok-index.ensures.found in
          let last = adds_read _ _ _ _ _ _ _ (c.in_ok-blocks.ensures.found c.if-covered.false) in
          let key = key_read encode decode now (Some os) (g.S.Store.objects c.args.env.now.store.now) (g.S.Store.objects c.read_index.new.store) c.args.table.now rows (entries_of c.in_ok-index.index)
          c.args.key.now c.covering-covered.result.start c.covering-covered.result.end (g.S.Store.acts c.args.env.now.store.now) (g.S.Store.acts c.read_index.new.store) (g.S.Store.acts c.read_blocks.new.store) c.in_ok-blocks.blocks.items stored (answered_by stored (answering_first os _ _ _ _ first last a)) (answered_by stored (answering_last os _ _ _ _ _ c.read_index.ensures.objects first last a)) c.read_index.ensures.same_decoded
          c.covering-covered.ensures.order c.covering-covered.ensures.within c.covering-covered.ensures.each c.in_ok-blocks.ensures.count c.in_ok-index.ensures.found (c.in_ok-blocks.ensures.found c.if-covered.false) in
          IfErr-weaker c.newest_of_blocks.result _ _ (λ e h. subst (IsCounted _ _) (sym h) tt) (c.newest_of_blocks.ensures.whole key.0 key.1 key.2));
      asked = c.newest_of_blocks.ensures.asked;
      rows = IfOk-weaker c.newest_of_blocks.result _ _ (λ found h. table_rows _ _ c.args.table.now _ (entries_of c.in_ok-index.index) c.covering-covered.result.start c.covering-covered.result.end _ _ c.in_ok-blocks.blocks.items found.items (record {
        first_objects = c.read_index.ensures.objects;
        last_objects = c.read_blocks.ensures.objects;
        combine = refl;
        encode = c.read_blocks.ensures.same_encoded ∙ c.read_index.ensures.same_encoded;
        decode = c.read_blocks.ensures.same_decoded ∙ c.read_index.ensures.same_decoded;
        decodes = c.read_index.ensures.same_decoded;
        order = c.covering-covered.ensures.order;
        within = c.covering-covered.ensures.within;
        index = c.in_ok-index.ensures.found;
      }) c.in_ok-blocks.ensures.count (c.in_ok-blocks.ensures.found c.if-covered.false) h) c.newest_of_blocks.ensures.rows;
      cause = IfErr-weaker c.newest_of_blocks.result _ _ (λ e h. row_refused _ _ c.args.table.now _ (entries_of c.in_ok-index.index) c.covering-covered.result.start c.covering-covered.result.end _ _ c.in_ok-blocks.blocks.items e (record {
        first_objects = c.read_index.ensures.objects;
        last_objects = c.read_blocks.ensures.objects;
        combine = refl;
        encode = c.read_blocks.ensures.same_encoded ∙ c.read_index.ensures.same_encoded;
        decode = c.read_blocks.ensures.same_decoded ∙ c.read_index.ensures.same_decoded;
        decodes = c.read_index.ensures.same_decoded;
        order = c.covering-covered.ensures.order;
        within = c.covering-covered.ensures.within;
        index = c.in_ok-index.ensures.found;
      }) c.in_ok-blocks.ensures.count (c.in_ok-blocks.ensures.found c.if-covered.false) h) c.newest_of_blocks.ensures.cause;
      alone = two_of _ _ c.args.table.now _ _ _ _ _ _ _ c.read_index.ensures.objects c.read_blocks.ensures.objects (meanings _ _ refl (c.read_blocks.ensures.same_encoded ∙ c.read_index.ensures.same_encoded) (c.read_blocks.ensures.same_decoded ∙ c.read_index.ensures.same_decoded)) c.in_ok-index.ensures.found (quietly _ _ _ _ _ _ _ (c.in_ok-blocks.ensures.found c.if-covered.false));
      checked = (λ rows os stored.
          let before : Reach = reach_of g.S.Store g.M.MergeOperator g.T.BlockTransformer c.args.env.now in
          let after : Reach = record before {
            objects = g.S.Store.objects c.read_blocks.new.store;
            acts = g.S.Store.acts c.read_blocks.new.store;
            meaning = record before.meaning { encode = changed_by g.T.BlockTransformer.encoded c.read_blocks.new.transformer; decode = changed_by g.T.BlockTransformer.decoded c.read_blocks.new.transformer };
            faults = record before.faults { store = g.S.Store.faults c.read_blocks.new.store; transformer = faults_of g.T.BlockTransformer.faults c.read_blocks.new.transformer };
          } in
          checks_ok c.newest_of_blocks.result os before after
          (blocks_checked before after c.args.table.now (changed_by g.T.BlockTransformer.decoded c.read_index.new.transformer) (entries_of c.in_ok-index.index) c.covering-covered.result.start c.covering-covered.result.end (g.S.Store.objects c.read_index.new.store) (g.S.Store.acts c.read_index.new.store) c.in_ok-blocks.blocks.items rows os stored
          c.in_ok-index.ensures.found c.if-covered.false c.covering-covered.ensures.within c.in_ok-blocks.ensures.count (c.in_ok-blocks.ensures.found c.if-covered.false)));
      reads = reads_of _ _ (c.read_blocks.ensures.objects ∙ c.read_index.ensures.objects) refl (c.read_blocks.ensures.same_encoded ∙ c.read_index.ensures.same_encoded) (c.read_blocks.ensures.same_decoded ∙ c.read_index.ensures.same_decoded)
          (adds_both _ _ _ (adds_read _ _ _ _ _ _ _ c.in_ok-index.ensures.found) (adds_read _ _ _ _ _ _ _ (c.in_ok-blocks.ensures.found c.if-covered.false))) (record { store = omega (arith, c.read_index.ensures.later, c.read_blocks.ensures.later); operator = omega arith; transformer = omega (arith, c.read_index.ensures.later_transformer, c.read_blocks.ensures.later_transformer) }) refl;
      still = ap (unblamed_by c.newest_of_blocks.result) (told_still (record (reach_of g.S.Store g.M.MergeOperator g.T.BlockTransformer c.args.env.now).faults { store = g.S.Store.faults c.read_index.new.store; transformer = faults_of g.T.BlockTransformer.faults c.read_index.new.transformer }) (record (reach_of g.S.Store g.M.MergeOperator g.T.BlockTransformer c.args.env.now).faults { store = g.S.Store.faults c.read_blocks.new.store; transformer = faults_of g.T.BlockTransformer.faults c.read_blocks.new.transformer }) (Ok c.in_ok-blocks.blocks) refl c.in_ok-blocks.ensures.still c.in_ok-blocks.ensures.still_transformer ∙ told_still (reach_of g.S.Store g.M.MergeOperator g.T.BlockTransformer c.args.env.now).faults (record (reach_of g.S.Store g.M.MergeOperator g.T.BlockTransformer c.args.env.now).faults { store = g.S.Store.faults c.read_index.new.store; transformer = faults_of g.T.BlockTransformer.faults c.read_index.new.transformer }) (Ok c.in_ok-index.index) refl c.in_ok-index.ensures.still c.in_ok-index.ensures.still_transformer);
    }
