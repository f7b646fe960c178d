use Rattle.std.proofs.lemmas.Result.{IfOk-from_err, err_from_is_err_and}
use Rattle.std.proofs.Common.{ℕ, ◌<◌, ◌^◌, arith}
use Rattle.slate_block.specs.RowSpelling.{be64}
use Rattle.slate_table.proofs.Grown.{one_grown, one_holds, all_grew, all_hold}
use Rattle.slate_table.proofs.writing.append_numbers.Goals as goal

pub returns-in_err-append_u64 : goal.returns-in_err-append_u64
returns-in_err-append_u64 c =
    let p = err_from_is_err_and c.from_residual.result c.from_residual.ensures.1 in
    record {
      appended = IfOk-from_err c.from_residual.result _ c.from_residual.ensures.0;
      fit = IfOk-from_err c.from_residual.result _ c.from_residual.ensures.0;
      cause = rw (p.1, p.2) c.in_err-append_u64.ensures.cause;
    }

pub bounds-numbers-number-index : goal.bounds-numbers-number-index
bounds-numbers-number-index c = omega arith

pub offset_bounds-numbers-number-index : goal.offset_bounds-numbers-number-index
offset_bounds-numbers-number-index c = omega arith

pub loop-number-smaller : goal.loop-number-smaller
loop-number-smaller c = omega arith

pub returns : goal.returns
returns c =
    record {
      appended = all_grew be64 c.args.numbers.now c.loop-number.number-index c.args.out.now.items c.loop-number.out.items c.loop-number-test.false c.loop-number.invariant.appended;
      fit = all_hold (λ (n : ℕ). n < 2 ^ 64) c.args.numbers.now c.loop-number.number-index c.loop-number-test.false c.loop-number.invariant.fit;
      cause = tt;
    }

pub loop-number-preserved : goal.loop-number-preserved
loop-number-preserved c =
    let i = c.loop-number.number-index in
    let numbers = c.args.numbers.now in
    record {
      appended = one_grown be64 numbers i 0 c.args.out.now.items c.loop-number.out.items c.append_u64.new.out.items c.loop-number-test.true c.loop-number.invariant.appended c.in_ok-append_u64.ensures.appended;
      fit = one_holds (λ (n : ℕ). n < 2 ^ 64) numbers i 0 c.loop-number-test.true c.loop-number.invariant.fit c.append_u64.ensures.fits;
    }
