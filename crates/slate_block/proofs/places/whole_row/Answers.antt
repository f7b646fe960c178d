use Rattle.std.proofs.Common.{inl, refl, length, arith}
use Rattle.std.proofs.lemmas.Result.{IfOk-from_err, err_from_is_err_and}
use Rattle.slate_block.specs.PlacedRows.{suffix_of}
use Rattle.slate_block.proofs.PlacedLaws.{refused_key, restored_true, restored_within}
use Rattle.slate_block.proofs.places.whole_row.Goals as goal

pub returns-in_err-suffix : goal.returns-in_err-suffix
returns-in_err-suffix c =
    let p = err_from_is_err_and c.from_residual.result c.from_residual.ensures.1 in
    record {
      found = IfOk-from_err c.from_residual.result _ c.from_residual.ensures.0;
      cause = rw (p.1, p.2) (inl refl);
    }

pub returns-in-Ok : goal.returns-in-Ok
returns-in-Ok c =
    record {
      found = (let parts = c.in_ok-suffix.ensures in
          let valid = rw parts.0 at c.in-Ok.ensures.valid in
          let key = rw parts.0 at c.in-Ok.ensures.key in
          let a = c.args in
          let f = a.fields.now in
          (restored_true a.shared a.other.now (suffix_of a.bytes.now f) valid, (λ i. record { key = key i; value = parts.1 i; seq = f.seq; create_ts = f.create_ts; expire_ts = f.expire_ts }), refl));
      cause = tt;
    }

pub returns-in-Err : goal.returns-in-Err
returns-in-Err c =
    record {
      found = tt;
      cause = (let only = rw c.in_ok-suffix.ensures.0 at c.in-Err.ensures.only in
          rw c.moved.ensures (refused_key c.args.shared c.args.from c.args.other.now (suffix_of c.args.bytes.now c.args.fields.now) c.in-Err.error c.in-Err.ensures.cause only));
    }

pub overflow_add-result : goal.overflow_add-result
overflow_add-result c = omega (arith, c.requires.place, c.requires.within.end_in)

pub moved-requires : goal.moved-requires
moved-requires c = λ place is. restored_within c.args.from (length c.args.bytes.now) place c.in-Err.error c.requires.place c.in-Err.ensures.cause is
