use Rattle.slate_table.proofs.Results.{on_err, read_still, store_fault, store_failed}
use Rattle.std.proofs.Common.{inr}
use Rattle.std.proofs.lemmas.Result.{IfOk-from_err, err_from_is_err_and}
use Rattle.slate_table.proofs.table_store.read_at.Goals as goal

pub returns : goal.returns
returns g c =
    record {
      read = (c.in_ok-answer.answer, c.in_ok-answer.ensures.answer, c.in_ok-answer.ensures.act, c.whole_answer.ensures.value);
      whole = c.whole_answer.ensures.whole;
      cause = tt;
      none = tt;
      reaches = (record {
        same_objects = c.read_range.ensures.objects;
        later = c.read_range.ensures.later;
        still = inr (read_still c.in_ok-answer.answer c.in_ok-answer.ensures.still);
      });
    }

pub returns-in_err-answer : goal.returns-in_err-answer
returns-in_err-answer g c =
    let p = err_from_is_err_and c.from_residual.result c.from_residual.ensures.1 in
    record {
      read = IfOk-from_err c.from_residual.result _ c.from_residual.ensures.0;
      whole = IfOk-from_err c.from_residual.result _ c.from_residual.ensures.0;
      cause = rw (p.1, p.2) (store_fault c.in_err-answer.field-0.0 _ _ c.in_err-answer.ensures.cause);
      none = on_err c.from_residual.result c.in_err-answer.ensures.refused_act;
      reaches = (record {
        same_objects = c.read_range.ensures.objects;
        later = c.read_range.ensures.later;
        still = rw (p.1, p.2) (store_failed c.in_err-answer.field-0.0 c.in_err-answer.ensures.still);
      });
    }
