use Rattle.std.proofs.Common.{arith, refl, sym}
use Rattle.std.proofs.lemmas.Result.{IfOk-from_err, err_from_is_err_and}
use Rattle.slate_block.specs.Damage.{key_layout_v2}
use Rattle.slate_block.proofs.fields.key_fields_v2.Goals as goal

pub returns : goal.returns
unfolding key_layout_v2
returns c =
    record {
      value = rw (sym c.in_ok-shared_bytes.ensures.value, sym c.in_ok-suffix_len.ensures.value, sym c.in_ok-value_len.ensures.value, sym c.in_ok-suffix_at.ensures.value) refl;
      damage = tt;
      within = c.in_ok-suffix_at.ensures.within;
      value_within = c.in_ok-suffix_len.ensures.within;
      bytes = λ i. omega (arith, c.type_inv.bytes i);
    }

pub returns-in_err-shared_bytes : goal.returns-in_err-shared_bytes
unfolding key_layout_v2
returns-in_err-shared_bytes c =
    let p = err_from_is_err_and c.from_residual.result c.from_residual.ensures.1 in
    record {
      value = rw (p.1, p.2, sym c.in_err-shared_bytes.ensures.value) refl;
      damage = rw (p.1, p.2) c.in_err-shared_bytes.ensures.damage;
      within = IfOk-from_err c.from_residual.result _ c.from_residual.ensures.0;
      value_within = IfOk-from_err c.from_residual.result _ c.from_residual.ensures.0;
      bytes = IfOk-from_err c.from_residual.result _ c.from_residual.ensures.0;
    }

pub returns-in_err-suffix_len : goal.returns-in_err-suffix_len
unfolding key_layout_v2
returns-in_err-suffix_len c =
    let p = err_from_is_err_and c.from_residual-in_err-suffix_len.result c.from_residual-in_err-suffix_len.ensures.1 in
    record {
      value = rw (p.1, p.2, sym c.in_ok-shared_bytes.ensures.value, sym c.in_err-suffix_len.ensures.value) refl;
      damage = rw (p.1, p.2) c.in_err-suffix_len.ensures.damage;
      within = IfOk-from_err c.from_residual-in_err-suffix_len.result _ c.from_residual-in_err-suffix_len.ensures.0;
      value_within = IfOk-from_err c.from_residual-in_err-suffix_len.result _ c.from_residual-in_err-suffix_len.ensures.0;
      bytes = IfOk-from_err c.from_residual-in_err-suffix_len.result _ c.from_residual-in_err-suffix_len.ensures.0;
    }

pub returns-in_err-value_len : goal.returns-in_err-value_len
unfolding key_layout_v2
returns-in_err-value_len c =
    let p = err_from_is_err_and c.from_residual-in_err-value_len.result c.from_residual-in_err-value_len.ensures.1 in
    record {
      value = rw (p.1, p.2, sym c.in_ok-shared_bytes.ensures.value, sym c.in_ok-suffix_len.ensures.value, sym c.in_err-value_len.ensures.value) refl;
      damage = rw (p.1, p.2) c.in_err-value_len.ensures.damage;
      within = IfOk-from_err c.from_residual-in_err-value_len.result _ c.from_residual-in_err-value_len.ensures.0;
      value_within = IfOk-from_err c.from_residual-in_err-value_len.result _ c.from_residual-in_err-value_len.ensures.0;
      bytes = IfOk-from_err c.from_residual-in_err-value_len.result _ c.from_residual-in_err-value_len.ensures.0;
    }

pub returns-in_err-suffix_at : goal.returns-in_err-suffix_at
unfolding key_layout_v2
returns-in_err-suffix_at c =
    let p = err_from_is_err_and c.from_residual-in_err-suffix_at.result c.from_residual-in_err-suffix_at.ensures.1 in
    record {
      value = rw (p.1, p.2, sym c.in_ok-shared_bytes.ensures.value, sym c.in_ok-suffix_len.ensures.value, sym c.in_ok-value_len.ensures.value, sym c.in_err-suffix_at.ensures.value) refl;
      damage = rw (p.1, p.2) c.in_err-suffix_at.ensures.damage;
      within = IfOk-from_err c.from_residual-in_err-suffix_at.result _ c.from_residual-in_err-suffix_at.ensures.0;
      value_within = IfOk-from_err c.from_residual-in_err-suffix_at.result _ c.from_residual-in_err-suffix_at.ensures.0;
      bytes = IfOk-from_err c.from_residual-in_err-suffix_at.result _ c.from_residual-in_err-suffix_at.ensures.0;
    }

pub varint_field-requires-2 : goal.varint_field-requires-2
varint_field-requires-2 c = c.in_ok-shared_bytes.ensures.within

pub varint_field-requires-3 : goal.varint_field-requires-3
varint_field-requires-3 c = c.in_ok-suffix_len.ensures.within

pub block_field-requires : goal.block_field-requires
block_field-requires c = c.in_ok-value_len.ensures.within
