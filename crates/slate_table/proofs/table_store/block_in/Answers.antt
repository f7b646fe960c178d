use Rattle.slate_table.specs.SectionReading.{changed_by}
use Rattle.slate_block.specs.BlockReading.{offsets_of_block}
use Rattle.slate_block.specs.RowReading.{refusal}
use Rattle.slate_table.specs.Reading.{read_at}
use Rattle.slate_table.proofs.PartReads.{refused_section}
use Rattle.std.proofs.Common.{inr}
use Rattle.std.proofs.lemmas.Result.{IfOk-weaker, IfErr-weaker, err_from_is_err_and, IfOk-from_err}
use Rattle.slate_table.proofs.Results.{either}
use Rattle.slate_table.proofs.Asking.{stays_err, stays_ok}
use Rattle.slate_table.proofs.table_store.block_in.Goals as goal

pub returns : goal.returns
returns g c =
    record {
      found = IfOk-weaker c.decode.result _ _ (λ block apart. (c.in_ok-part.part, c.in_ok-part.ensures.found, apart)) c.decode.ensures.found;
      cause = IfErr-weaker c.decode.result _ _ (λ e h. either (λ r. inr (inr (c.in_ok-part.part, c.in_ok-part.ensures.found, r))) h) c.decode.ensures.cause;
      unasked = (let part = c.in_ok-part.ensures.found in inr (part.0, part.1));
      stays = stays_ok c.in_ok-part.ensures.stays;
    }

pub returns-in_err-part : goal.returns-in_err-part
returns-in_err-part g c =
    let p = err_from_is_err_and c.from_residual.result c.from_residual.ensures.1 in
    record {
      found = IfOk-from_err c.from_residual.result _ c.from_residual.ensures.0;
      cause = rw (p.1, p.2) (refused_section (changed_by g.T.BlockTransformer.decoded c.args.transformer.now) (λ part. refusal (offsets_of_block part)) (read_at c.args.place c.args.answer) c.in_err-part.field-0.0 c.in_err-part.ensures.cause);
      unasked = c.opened.ensures.unasked;
      stays = stays_err c.in_err-part.ensures.stays c.from_residual.ensures.1;
    }
