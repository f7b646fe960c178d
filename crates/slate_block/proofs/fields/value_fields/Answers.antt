use Rattle.std.proofs.Common.{refl, sym}
use Rattle.std.proofs.lemmas.Result.{IfOk-from_err, err_from_is_err_and}
use Rattle.slate_block.specs.Damage.{value_layout}
use Rattle.slate_block.proofs.fields.value_fields.Goals as goal

pub returns-in_err-len : goal.returns-in_err-len
unfolding value_layout
returns-in_err-len c =
    let p = err_from_is_err_and c.from_residual.result c.from_residual.ensures.1 in
    record {
      value = rw (p.1, p.2, c.if-is_tombstone.false, sym c.in_err-len.ensures.value) refl;
      damage = rw (p.1, p.2) c.in_err-len.ensures.damage;
      within = IfOk-from_err c.from_residual.result _ c.from_residual.ensures.0;
    }
