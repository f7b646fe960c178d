use Rattle.std.proofs.Common.{min, sym, inr, arith, inl, refl}
use Rattle.std.proofs.lemmas.Result.{err_from_is_err_and, IfOk-from_err}
use Rattle.slate_block.specs.BlockReading.{offsets_from}
use Rattle.slate_block.proofs.OffsetLaws.{goes_on, stops, is_done}
use Rattle.slate_block.proofs.offsets.offsets_from.Goals as goal

pub returns-in_err-offset : goal.returns-in_err-offset
returns-in_err-offset c =
    let p = err_from_is_err_and c.from_residual-in_err-offset.result c.from_residual-in_err-offset.ensures.1 in
    record {
      found = IfOk-from_err c.from_residual-in_err-offset.result _ c.from_residual-in_err-offset.ensures.0;
      cause = (rw (p.1, p.2)
          (inr (stops c.in_err-offset.field-0.0 c.loop.offsets.items c.args.count c.loop.counter c.loop.low c.loop.high c.args.end c.args.bytes.now c.loop.at
          (offsets_from c.args.count 0 (min 1 c.args.end) c.args.end c.args.bytes.now c.args.end) c.loop-test.true (sym c.in_err-offset.ensures.value) c.loop.invariant.read)));
    }

pub loop-preserved : goal.loop-preserved
loop-preserved c = record {
  within = c.in_ok-offset.ensures.within;
  room = omega arith;
  read = rw c.push_reserved.ensures.items
      (goes_on c.loop.offsets.items c.args.count c.loop.counter c.loop.low c.loop.high c.args.end c.args.bytes.now c.loop.at c.in_ok-offset.offset c.in_ok-offset.next
      (offsets_from c.args.count 0 (min 1 c.args.end) c.args.end c.args.bytes.now c.args.end) c.loop-test.true (sym c.in_ok-offset.ensures.value) c.loop.invariant.read);
}

pub returns : goal.returns
returns c =
    record {
      found = (is_done c.loop.offsets.items c.args.count c.loop.counter c.loop.low c.loop.high c.args.end c.args.bytes.now c.loop.at
          (offsets_from c.args.count 0 (min 1 c.args.end) c.args.end c.args.bytes.now c.args.end) c.loop-test.false c.loop.invariant.read);
      cause = tt;
    }

pub returns-in_err-offsets : goal.returns-in_err-offsets
returns-in_err-offsets c =
    let p = err_from_is_err_and c.from_residual.result c.from_residual.ensures.1 in
    record {
      found = IfOk-from_err c.from_residual.result _ c.from_residual.ensures.0;
      cause = rw (p.1, p.2) (inl refl);
    }
