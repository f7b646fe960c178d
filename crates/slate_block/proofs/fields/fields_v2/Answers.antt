use Rattle.std.proofs.Common.{arith, refl, sym, ◌∙◌}
use Rattle.std.proofs.lemmas.Result.{IfOk-from_err, err_from_is_err_and}
use Rattle.std.proofs.lemmas.Bool.{lt-ltb}
use Rattle.slate_block.specs.Damage.{layout_v2, length_agrees}
use Rattle.slate_block.proofs.FieldLaws.{agreed}
use Rattle.slate_block.proofs.fields.fields_v2.Goals as goal

pub returns : goal.returns
unfolding layout_v2
returns c =
    record {
      value = rw (sym c.in_ok-key.ensures.value, sym c.in_ok-value_at.ensures.value, sym c.in_ok-seq.ensures.value, agreed c.in_ok-seq.flags c.in_ok-key.key c.contains.result (c.contains.ensures tt) c.else-contains.either, sym c.in_ok-expire_ts.ensures.value) refl;
      damage = tt;
      within = (record {
        suffix = c.in_ok-key.ensures.within.0;
        value = c.in_ok-value_at.ensures.within.0;
        suffix_in = c.in_ok-key.ensures.within.1;
        value_in = c.in_ok-value_at.ensures.within.1;
        end_in = c.in_ok-expire_ts.ensures.within;
      });
      bytes = λ i. omega (arith, c.type_inv.bytes i);
    }

pub returns-in_err-key : goal.returns-in_err-key
unfolding layout_v2
returns-in_err-key c =
    let p = err_from_is_err_and c.from_residual.result c.from_residual.ensures.1 in
    record {
      value = rw (p.1, p.2, sym c.in_err-key.ensures.value) refl;
      damage = rw (p.1, p.2) c.in_err-key.ensures.damage;
      within = IfOk-from_err c.from_residual.result _ c.from_residual.ensures.0;
      bytes = IfOk-from_err c.from_residual.result _ c.from_residual.ensures.0;
    }

pub returns-in_err-value_at : goal.returns-in_err-value_at
unfolding layout_v2
returns-in_err-value_at c =
    let p = err_from_is_err_and c.from_residual-in_err-value_at.result c.from_residual-in_err-value_at.ensures.1 in
    record {
      value = rw (p.1, p.2, sym c.in_ok-key.ensures.value, sym c.in_err-value_at.ensures.value) refl;
      damage = rw (p.1, p.2) c.in_err-value_at.ensures.damage;
      within = IfOk-from_err c.from_residual-in_err-value_at.result _ c.from_residual-in_err-value_at.ensures.0;
      bytes = IfOk-from_err c.from_residual-in_err-value_at.result _ c.from_residual-in_err-value_at.ensures.0;
    }

pub returns-in_err-seq : goal.returns-in_err-seq
unfolding layout_v2
returns-in_err-seq c =
    let p = err_from_is_err_and c.from_residual-in_err-seq.result c.from_residual-in_err-seq.ensures.1 in
    record {
      value = rw (p.1, p.2, sym c.in_ok-key.ensures.value, sym c.in_ok-value_at.ensures.value, sym c.in_err-seq.ensures.value) refl;
      damage = rw (p.1, p.2) c.in_err-seq.ensures.damage;
      within = IfOk-from_err c.from_residual-in_err-seq.result _ c.from_residual-in_err-seq.ensures.0;
      bytes = IfOk-from_err c.from_residual-in_err-seq.result _ c.from_residual-in_err-seq.ensures.0;
    }

pub returns-in_err-expire_ts : goal.returns-in_err-expire_ts
unfolding layout_v2
returns-in_err-expire_ts c =
    let p = err_from_is_err_and c.from_residual-in_err-expire_ts.result c.from_residual-in_err-expire_ts.ensures.1 in
    record {
      value = rw (p.1, p.2, sym c.in_ok-key.ensures.value, sym c.in_ok-value_at.ensures.value, sym c.in_ok-seq.ensures.value, agreed c.in_ok-seq.flags c.in_ok-key.key c.contains.result (c.contains.ensures tt) c.else-contains.either, sym c.in_err-expire_ts.ensures.value) refl;
      damage = rw (p.1, p.2) c.in_err-expire_ts.ensures.damage;
      within = IfOk-from_err c.from_residual-in_err-expire_ts.result _ c.from_residual-in_err-expire_ts.ensures.0;
      bytes = IfOk-from_err c.from_residual-in_err-expire_ts.result _ c.from_residual-in_err-expire_ts.ensures.0;
    }

pub block_field-requires : goal.block_field-requires
block_field-requires c = c.in_ok-key.ensures.within.1

pub head_fields-requires : goal.head_fields-requires
head_fields-requires c = c.in_ok-value_at.ensures.within.1

pub stamp_fields-requires : goal.stamp_fields-requires
stamp_fields-requires c = c.in_ok-seq.ensures.within

pub returns-then-key-gt0 : goal.returns-then-key-gt0
unfolding layout_v2 length_agrees
returns-then-key-gt0 c =
    let tombstone = sym (c.contains.ensures tt) ∙ c.if-contains.true in
    record {
      value = rw (c.corrupt.ensures, sym c.in_ok-key.ensures.value, sym c.in_ok-value_at.ensures.value, sym c.in_ok-seq.ensures.value, tombstone, lt-ltb 0 c.in_ok-key.key.value_len c.if-key-gt0.true) refl;
      damage = rw c.corrupt.ensures c.in_ok-key.ensures.value_within;
      within = tt;
      bytes = tt;
    }
