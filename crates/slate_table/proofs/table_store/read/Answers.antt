use Rattle.slate_table.proofs.Results.{on_err}
use Rattle.std.proofs.Common.{◌∙◌, refl, inl}
use Rattle.std.proofs.lemmas.Result.{IfOk-from_err, err_from_is_err_and}
use Rattle.slate_table.proofs.Asking.{untouched}
use Rattle.slate_table.proofs.table_store.read.Goals as goal

pub returns-in_err-path : goal.returns-in_err-path
returns-in_err-path g c =
    let p = err_from_is_err_and c.from_residual.result c.from_residual.ensures.1 in
    record {
      read = IfOk-from_err c.from_residual.result _ c.from_residual.ensures.0;
      whole = IfOk-from_err c.from_residual.result _ c.from_residual.ensures.0;
      cause = rw (p.1, p.2) (inl c.in_err-path.ensures.cause);
      none = on_err c.from_residual.result refl;
      reaches = untouched;
    }
