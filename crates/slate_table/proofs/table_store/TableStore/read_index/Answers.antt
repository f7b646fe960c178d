use Rattle.std.proofs.Common.{inr}
use Rattle.std.proofs.lemmas.Result.{IfOk-weaker, IfErr-weaker, err_from_is_err_and, IfOk-from_err}
use Rattle.slate_table.proofs.Results.{on_err, spread, store_still, store_err}
use Rattle.slate_block.specs.RowReading.{refusal}
use Rattle.slate_table.specs.Paths.{path_of}
use Rattle.slate_table.specs.SectionReading.{changed_by}
use Rattle.slate_table.specs.IndexReading.{index_of}
use Rattle.slate_table.specs.Reading.{of_index}
use Rattle.slate_table.proofs.PartReads.{refused, still_ok, still_err}
use Rattle.slate_table.proofs.Unasked.{unanswered_exit, no_fault, no_index_fault}
use Rattle.slate_table.proofs.table_store.TableStore.read_index.Goals as goal

pub returns-in_err-part : goal.returns-in_err-part
returns-in_err-part g c =
    let p = err_from_is_err_and c.from_residual.result c.from_residual.ensures.1 in
    record {
      found = IfOk-from_err c.from_residual.result _ c.from_residual.ensures.0;
      cause = (let info = c.args.table.now.info in
          rw (p.1, p.2)
          (refused (g.S.Store.objects c.args.store.now) (g.S.Store.acts c.args.store.now) (g.S.Store.acts c.read_part.new.store) (path_of c.args.root.now c.args.table.now.id.0) info.index_offset info.index_len
          (changed_by g.T.BlockTransformer.decoded c.args.transformer.now) (of_index c.args.table.now) (λ part. refusal (index_of info.filter_offset part)) c.in_err-part.field-0.0 c.in_err-part.ensures.cause));
      once = rw p.1 (c.in_err-part.ensures.once);
      unasked = c.read_part.ensures.unasked;
      unanswered = unanswered_exit c.from_residual.result _ c.from_residual.ensures.1 c.in_err-part.ensures.unanswered;
      objects = c.read_part.ensures.reaches.same_objects;
      same_encoded = c.read_part.ensures.stays.same_encoded;
      same_decoded = c.read_part.ensures.stays.same_decoded;
      later = c.read_part.ensures.reaches.later;
      still = rw (p.1, p.2) (store_err c.in_err-part.field-0.0 c.in_err-part.ensures.reaches.still);
      later_transformer = c.read_part.ensures.stays.later;
      still_transformer = rw (p.1, p.2) (still_err c.in_err-part.field-0.0 c.in_err-part.ensures.stays.still);
    }

pub returns : goal.returns
returns g c =
    let f = c.in_ok-part.ensures.found in
    record {
      found = (IfOk-weaker c.decode.result _ _ (λ made h. (f.0, f.1, (c.in_ok-part.part, f.2, h))) c.decode.ensures.found);
      cause = (IfErr-weaker c.decode.result _ _ (λ e h. spread (λ r. (f.0, f.1, inr (c.in_ok-part.part, f.2, r))) h) c.decode.ensures.cause);
      once = (on_err c.decode.result (inr (f.0, f.1, tt)));
      unasked = inr (f.0, f.1, (f.2.0, f.2.1));
      unanswered = λ failed. absurd (no_fault c.decode.result _ (no_index_fault c.args.table.now.info.filter_offset c.in_ok-part.part) c.decode.ensures.cause failed);
      objects = c.read_part.ensures.reaches.same_objects;
      same_encoded = c.read_part.ensures.stays.same_encoded;
      same_decoded = c.read_part.ensures.stays.same_decoded;
      later = c.read_part.ensures.reaches.later;
      still = inr (store_still c.in_ok-part.part c.in_ok-part.ensures.reaches.still);
      later_transformer = c.read_part.ensures.stays.later;
      still_transformer = inr (still_ok c.in_ok-part.part c.in_ok-part.ensures.stays.still);
    }
