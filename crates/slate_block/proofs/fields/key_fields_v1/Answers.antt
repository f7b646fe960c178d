use Rattle.std.proofs.Common.{refl, sym}
use Rattle.std.proofs.lemmas.Result.{IfOk-from_err, err_from_is_err_and}
use Rattle.slate_block.specs.Damage.{key_layout_v1}
use Rattle.slate_block.proofs.fields.key_fields_v1.Goals as goal

pub returns-in_err-shared : goal.returns-in_err-shared
unfolding key_layout_v1
returns-in_err-shared c =
    let p = err_from_is_err_and c.from_residual.result c.from_residual.ensures.1 in
    record {
      value = rw (p.1, p.2, sym c.in_err-shared.ensures.value) refl;
      damage = rw (p.1, p.2) c.in_err-shared.ensures.damage;
      within = IfOk-from_err c.from_residual.result _ c.from_residual.ensures.0;
    }

pub returns-in_err-suffix_len : goal.returns-in_err-suffix_len
unfolding key_layout_v1
returns-in_err-suffix_len c =
    let p = err_from_is_err_and c.from_residual-in_err-suffix_len.result c.from_residual-in_err-suffix_len.ensures.1 in
    record {
      value = rw (p.1, p.2, sym c.in_ok-shared.ensures.value, sym c.in_err-suffix_len.ensures.value) refl;
      damage = rw (p.1, p.2) c.in_err-suffix_len.ensures.damage;
      within = IfOk-from_err c.from_residual-in_err-suffix_len.result _ c.from_residual-in_err-suffix_len.ensures.0;
    }

pub returns-in_err-suffix : goal.returns-in_err-suffix
unfolding key_layout_v1
returns-in_err-suffix c =
    let p = err_from_is_err_and c.from_residual-in_err-suffix.result c.from_residual-in_err-suffix.ensures.1 in
    record {
      value = rw (p.1, p.2, sym c.in_ok-shared.ensures.value, sym c.in_ok-suffix_len.ensures.value, sym c.in_err-suffix.ensures.value) refl;
      damage = rw (p.1, p.2) c.in_err-suffix.ensures.damage;
      within = IfOk-from_err c.from_residual-in_err-suffix.result _ c.from_residual-in_err-suffix.ensures.0;
    }

pub returns : goal.returns
unfolding key_layout_v1
returns c =
    record {
      value = rw (sym c.in_ok-shared.ensures.value, sym c.in_ok-suffix_len.ensures.value, sym c.in_ok-suffix.ensures.value) refl;
      damage = tt;
      within = c.in_ok-suffix.ensures.within;
    }
