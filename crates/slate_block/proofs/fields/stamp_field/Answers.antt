use Rattle.std.proofs.Common.{refl, sym}
use Rattle.std.proofs.lemmas.Result.{IfOk-from_err, err_from_is_err_and}
use Rattle.slate_block.specs.Damage.{stamp_field}
use Rattle.slate_block.proofs.fields.stamp_field.Goals as goal

pub returns-in_err-bits : goal.returns-in_err-bits
unfolding stamp_field
returns-in_err-bits c =
    let p = err_from_is_err_and c.from_residual.result c.from_residual.ensures.1 in
    record {
      value = rw (p.1, p.2, c.if-not-is_there.false, sym c.in_err-bits.ensures.value) refl;
      damage = rw (p.1, p.2) c.in_err-bits.ensures.damage;
      within = IfOk-from_err c.from_residual.result _ c.from_residual.ensures.0;
    }
