use Rattle.std.proofs.Common.{refl, sym}
use Rattle.std.proofs.lemmas.Bool.{le-ltb, lt-ltb}
use Rattle.std.proofs.lemmas.Result.{IfOk-from_err, err_from_is_err_and}
use Rattle.slate_block.specs.BlockReading.{offset_field}
use Rattle.slate_block.proofs.offsets.offset_field.Goals as goal

pub returns-in_err-offset : goal.returns-in_err-offset
unfolding offset_field
returns-in_err-offset c =
    let p = err_from_is_err_and c.from_residual.result c.from_residual.ensures.1 in
    record {
      value = rw (p.1, p.2, sym c.in_err-offset.ensures.value) refl;
      within = IfOk-from_err c.from_residual.result _ c.from_residual.ensures.0;
    }

pub returns-then-offset-low : goal.returns-then-offset-low
unfolding offset_field
returns-then-offset-low c = record {
  value = rw (c.corrupt.ensures, sym c.in_ok-offset.ensures.value, lt-ltb _ _ c.if-offset-low.true) refl;
  within = tt;
}

pub returns-then-offset-high : goal.returns-then-offset-high
unfolding offset_field
returns-then-offset-high c = record {
  value = rw (sym c.in_ok-offset.ensures.value, le-ltb _ _ c.if-offset-low.false, lt-ltb _ _ c.if-offset-high.true) refl;
  within = c.in_ok-offset.ensures.within;
}

pub returns : goal.returns
unfolding offset_field
returns c = record {
  value = rw (c.corrupt-2.ensures, sym c.in_ok-offset.ensures.value, le-ltb _ _ c.if-offset-low.false, le-ltb _ _ c.if-offset-high.false) refl;
  within = tt;
}
