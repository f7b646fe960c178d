use Rattle.std.proofs.Common.{refl}
use Rattle.std.proofs.lemmas.Result.{IfOk-from_err, err_from_is_err_and}
use Rattle.slate_types.proofs.Exits.{on_err}
use Rattle.slate_block.proofs.rows_part.RowsPart.write.Goals as goal

pub returns-in_err-reserve : goal.returns-in_err-reserve
returns-in_err-reserve c =
    let p = err_from_is_err_and c.from_residual.result c.from_residual.ensures.1 in
    record {
      body = IfOk-from_err c.from_residual.result _ c.from_residual.ensures.0;
      offsets = IfOk-from_err c.from_residual.result _ c.from_residual.ensures.0;
      version = refl;
      count = refl;
      front = refl;
      unchanged = on_err c.from_residual.result (record { version = refl; body = refl; offsets = c.in_err-reserve.ensures.items; count = refl; front = refl });
      cause = rw (p.1, p.2) refl;
    }

pub returns-in_err-append_row : goal.returns-in_err-append_row
returns-in_err-append_row c =
    let p = err_from_is_err_and c.from_residual-in_err-append_row.result c.from_residual-in_err-append_row.ensures.1 in
    record {
      body = IfOk-from_err c.from_residual-in_err-append_row.result _ c.from_residual-in_err-append_row.ensures.0;
      offsets = IfOk-from_err c.from_residual-in_err-append_row.result _ c.from_residual-in_err-append_row.ensures.0;
      version = refl;
      count = refl;
      front = refl;
      unchanged = on_err c.from_residual-in_err-append_row.result (record { version = refl; body = c.in_err-append_row.ensures.unchanged; offsets = c.in_ok-reserve.ensures.items; count = refl; front = refl });
      cause = rw (p.1, p.2) refl;
    }

pub append_row-requires-clause-lengths : goal.append_row-requires-clause-lengths
append_row-requires-clause-lengths c = c.requires.lengths

pub append_row-requires-clause-shared : goal.append_row-requires-clause-shared
append_row-requires-clause-shared c = c.requires.shared

pub append_row-requires-clause-fits : goal.append_row-requires-clause-fits
append_row-requires-clause-fits c = c.requires.fits
