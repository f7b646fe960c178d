use Rattle.std.proofs.Common.{refl, sym, arith}
use Rattle.slate_table.proofs.SectionReads.{footer_spelled}
use Rattle.std.proofs.lemmas.Result.{IfOk-from_err, err_from_is_err_and}
use Rattle.slate_table.specs.SectionReading.{footer_in}
use Rattle.slate_table.proofs.footer.Footer.decode.Goals as goal

pub returns-clause-found : goal.returns-clause-found
returns-clause-found c =
    footer_spelled c.args.bytes.now c.in_ok-info_offset.info_offset c.in_ok-info_offset.at c.in_ok-version.version c.in_ok-version.field-0-1
    (λ i. omega (arith, c.type_inv.bytes i)) c.requires.whole (sym c.in_ok-info_offset.ensures.value) (sym c.in_ok-version.ensures.value)

pub returns-in_err-info_offset : goal.returns-in_err-info_offset
unfolding footer_in
returns-in_err-info_offset c =
    let p = err_from_is_err_and c.from_residual.result c.from_residual.ensures.1 in
    record {
      found = IfOk-from_err c.from_residual.result _ c.from_residual.ensures.0;
      known = IfOk-from_err c.from_residual.result _ c.from_residual.ensures.0;
      within = IfOk-from_err c.from_residual.result _ c.from_residual.ensures.0;
      read = IfOk-from_err c.from_residual.result _ c.from_residual.ensures.0;
      cause = rw (p.1, p.2) (rw (← c.in_err-info_offset.ensures.value) refl);
    }

pub returns-in_err-version : goal.returns-in_err-version
unfolding footer_in
returns-in_err-version c =
    let p = err_from_is_err_and c.from_residual-in_err-version.result c.from_residual-in_err-version.ensures.1 in
    record {
      found = IfOk-from_err c.from_residual-in_err-version.result _ c.from_residual-in_err-version.ensures.0;
      known = IfOk-from_err c.from_residual-in_err-version.result _ c.from_residual-in_err-version.ensures.0;
      within = IfOk-from_err c.from_residual-in_err-version.result _ c.from_residual-in_err-version.ensures.0;
      read = IfOk-from_err c.from_residual-in_err-version.result _ c.from_residual-in_err-version.ensures.0;
      cause = rw (p.1, p.2) (rw (← c.in_ok-info_offset.ensures.value, ← c.in_err-version.ensures.value) refl);
    }

pub returns-clause-cause : goal.returns-clause-cause
returns-clause-cause c = tt
