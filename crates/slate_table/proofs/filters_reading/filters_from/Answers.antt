use Rattle.std.proofs.lemmas.Result.{err_from_is_err_and, IfOk-from_err}
use Rattle.slate_types.specs.declared.error.SlateDBError.TheVariants.{OutOfMemory}
use Rattle.slate_table.specs.FiltersReading.{filters_from}
use Rattle.slate_table.proofs.FiltersReads.{goes_on, stops_or, is_done}
use Rattle.slate_table.proofs.filters_reading.filters_from.Goals as goal

pub returns-in_err-filter : goal.returns-in_err-filter
returns-in_err-filter c =
    let p = err_from_is_err_and c.from_residual.result c.from_residual.ensures.1 in
    record {
      found = IfOk-from_err c.from_residual.result _ c.from_residual.ensures.0;
      cause = (rw (p.1, p.2)
          (stops_or c.in_err-filter.field-0.0 OutOfMemory c.loop.filters.items c.args.count c.loop.counter c.args.bytes.now c.loop.at
          (filters_from c.args.count c.args.bytes.now c.args.at) c.loop-test.true c.in_err-filter.ensures.cause c.loop.invariant.read));
    }

pub loop-preserved : goal.loop-preserved
loop-preserved c = record {
  within = c.in_ok-filter.ensures.within;
  read = rw c.in_ok-push.ensures.items
      (goes_on c.loop.filters.items c.args.count c.loop.counter c.args.bytes.now c.loop.at c.in_ok-filter.filter c.in_ok-filter.next
      (filters_from c.args.count c.args.bytes.now c.args.at) c.loop-test.true c.in_ok-filter.ensures.found c.loop.invariant.read);
}

pub returns : goal.returns
returns c =
    record {
      found = (is_done c.loop.filters.items c.args.count c.loop.counter c.args.bytes.now c.loop.at
          (filters_from c.args.count c.args.bytes.now c.args.at) c.loop-test.false c.loop.invariant.read);
      cause = tt;
    }
