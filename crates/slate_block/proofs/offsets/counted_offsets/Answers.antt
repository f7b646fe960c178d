use Rattle.std.proofs.Common.{arith, length, refl, sym}
use Rattle.std.proofs.lemmas.Bool.{le-ltb, lt-ltb, ne_eqb}
use Rattle.std.proofs.lemmas.Result.{IfOk-from_err, err_from_is_err_and}
use Rattle.slate_block.specs.BlockReading.{counted_offsets}
use Rattle.slate_block.proofs.offsets.counted_offsets.Goals as goal

pub returns-then-bytes-lt2 : goal.returns-then-bytes-lt2
unfolding counted_offsets
returns-then-bytes-lt2 c = record {
  value = rw (c.corrupt.ensures, lt-ltb (length c.args.bytes.now) 2 c.if-bytes-lt2.true) refl;
  within = tt;
  bytes = tt;
}

pub returns-in_err-count : goal.returns-in_err-count
unfolding counted_offsets
returns-in_err-count c =
    let p = err_from_is_err_and c.from_residual.result c.from_residual.ensures.1 in
    record {
      value = rw (p.1, p.2, le-ltb (length c.args.bytes.now) 2 c.if-bytes-lt2.false, sym c.in_err-count.ensures.value) refl;
      within = IfOk-from_err c.from_residual.result _ c.from_residual.ensures.0;
      bytes = IfOk-from_err c.from_residual.result _ c.from_residual.ensures.0;
    }

pub returns-then-count-eq0 : goal.returns-then-count-eq0
unfolding counted_offsets
returns-then-count-eq0 c = record {
  value = rw (c.corrupt-then-count-eq0.ensures, le-ltb (length c.args.bytes.now) 2 c.if-bytes-lt2.false, sym c.in_ok-count.ensures.value, c.if-count-eq0.true) refl;
  within = tt;
  bytes = tt;
}

pub returns-then-count_at-count : goal.returns-then-count_at-count
unfolding counted_offsets
returns-then-count_at-count c = record {
  value = rw (c.corrupt-then-count_at-count.ensures, le-ltb (length c.args.bytes.now) 2 c.if-bytes-lt2.false, sym c.in_ok-count.ensures.value, ne_eqb c.in_ok-count.count 0 c.if-count-eq0.false, lt-ltb _ _ c.if-count_at-count.true) refl;
  within = tt;
  bytes = tt;
}

pub returns : goal.returns
unfolding counted_offsets
returns c = record {
  value = rw (le-ltb (length c.args.bytes.now) 2 c.if-bytes-lt2.false, sym c.in_ok-count.ensures.value, ne_eqb c.in_ok-count.count 0 c.if-count-eq0.false, le-ltb _ _ c.if-count_at-count.false) refl;
  within = omega arith;
  bytes = λ i. omega (arith, c.type_inv.bytes i);
}
