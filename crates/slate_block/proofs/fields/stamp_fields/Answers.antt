use Rattle.std.proofs.Common.{refl, sym}
use Rattle.std.proofs.lemmas.Result.{IfOk-from_err, err_from_is_err_and}
use Rattle.slate_block.specs.Damage.{stamps_layout}
use Rattle.slate_block.proofs.fields.stamp_fields.Goals as goal

pub returns-in_err-expire_ts : goal.returns-in_err-expire_ts
unfolding stamps_layout
returns-in_err-expire_ts c =
    let p = err_from_is_err_and c.from_residual.result c.from_residual.ensures.1 in
    record {
      value = rw (p.1, p.2, sym (c.contains.ensures tt), sym c.in_err-expire_ts.ensures.value) refl;
      damage = rw (p.1, p.2) c.in_err-expire_ts.ensures.damage;
      within = IfOk-from_err c.from_residual.result _ c.from_residual.ensures.0;
    }

pub returns-in_err-create_ts : goal.returns-in_err-create_ts
unfolding stamps_layout
returns-in_err-create_ts c =
    let p = err_from_is_err_and c.from_residual-in_err-create_ts.result c.from_residual-in_err-create_ts.ensures.1 in
    record {
      value = rw (p.1, p.2, sym (c.contains.ensures tt), sym c.in_ok-expire_ts.ensures.value, sym (c.contains-2.ensures tt), sym c.in_err-create_ts.ensures.value) refl;
      damage = rw (p.1, p.2) c.in_err-create_ts.ensures.damage;
      within = IfOk-from_err c.from_residual-in_err-create_ts.result _ c.from_residual-in_err-create_ts.ensures.0;
    }

pub returns : goal.returns
unfolding stamps_layout
returns c =
    record {
      value = rw (sym (c.contains.ensures tt), sym c.in_ok-expire_ts.ensures.value, sym (c.contains-2.ensures tt), sym c.in_ok-create_ts.ensures.value) refl;
      damage = tt;
      within = c.in_ok-create_ts.ensures.within;
    }
