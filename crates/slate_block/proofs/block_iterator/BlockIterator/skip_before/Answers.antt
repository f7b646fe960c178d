use Rattle.std.proofs.Common.{◌-◌, arith, refl, take}
use Rattle.std.proofs.lemmas.Result.{IfOk-from_err, err_from_is_err_and}
use Rattle.slate_types.specs.declared.error.SlateDBError.TheVariants.{OutOfMemory}
use Rattle.slate_block.specs.BlockWalks.{LastBefore}
use Rattle.slate_block.proofs.WalkLaws.{refused_at}
use Rattle.slate_block.proofs.SeekLaws.{last_counted, past_counted, past_none, stops_counted, sought}
use Rattle.slate_types.proofs.Exits.{on_err}
use Rattle.slate_block.proofs.block_iterator.BlockIterator.skip_before.Goals as goal

-- ---- nothing is taken off

pub returns-then-count-eq0 : goal.returns-then-count-eq0
returns-then-count-eq0 g c =
    let past_holds = past_none c.args.self.now.order c.args.key.now c.args.self.now.reads in
    let stops_holds =
    let next = rw c.if-count-eq0.true at c.in_ok-count.ensures.next in
    stops_counted c.args.self.now.order c.args.key.now c.args.self.now.reads c.args.self.now.reads 0 refl next in
    record {
      rows = sought c.args.self.now.order c.args.key.now c.args.self.now.reads c.args.self.now.reads past_holds stops_holds;
      past = past_holds;
      stops = stops_holds;
      order = refl;
      cause = tt;
      unchanged = tt;
    }

-- ---- some rows are, up to one that was read

pub returns : goal.returns
returns g c =
    let past_holds =
    let count = c.in_ok-count.count in
    let reads = c.args.self.now.reads in
    let row = c.in_ok-last.last in
    let found = c.in_ok-last.ensures.found in
    let before = c.in_ok-count.ensures.last (count - 1) row (omega arith) found in
    let last : LastBefore c.args.self.now.order c.args.key.now (take count reads) = last_counted c.args.self.now.order c.args.key.now reads count (count - 1) row (omega arith) found before in
    past_counted c.args.self.now.order c.args.key.now reads c.skip.new.self.reads count c.skip.ensures.reads last in
    let stops_holds = stops_counted c.args.self.now.order c.args.key.now c.args.self.now.reads c.skip.new.self.reads c.in_ok-count.count c.skip.ensures.reads c.in_ok-count.ensures.next in
    record {
      rows = sought c.args.self.now.order c.args.key.now c.args.self.now.reads c.skip.new.self.reads past_holds stops_holds;
      past = past_holds;
      stops = stops_holds;
      order = c.skip.ensures.order;
      cause = tt;
      unchanged = tt;
    }

pub returns-in_err-count : goal.returns-in_err-count
returns-in_err-count g c =
    let p = err_from_is_err_and c.from_residual.result c.from_residual.ensures.1 in
    record {
      rows = λ h. IfOk-from_err c.from_residual.result _ c.from_residual.ensures.0;
      past = IfOk-from_err c.from_residual.result _ c.from_residual.ensures.0;
      stops = IfOk-from_err c.from_residual.result _ c.from_residual.ensures.0;
      order = refl;
      cause = rw (p.1, p.2) c.in_err-count.ensures.cause;
      unchanged = on_err c.from_residual.result refl;
    }

pub returns-in_err-last : goal.returns-in_err-last
returns-in_err-last g c =
    let p = err_from_is_err_and c.from_residual-in_err-last.result c.from_residual-in_err-last.ensures.1 in
    record {
      rows = λ h. IfOk-from_err c.from_residual-in_err-last.result _ c.from_residual-in_err-last.ensures.0;
      past = IfOk-from_err c.from_residual-in_err-last.result _ c.from_residual-in_err-last.ensures.0;
      stops = IfOk-from_err c.from_residual-in_err-last.result _ c.from_residual-in_err-last.ensures.0;
      order = refl;
      cause = rw (p.1, p.2) (refused_at c.args.self.now.reads (c.in_ok-count.count - 1) c.in_err-last.field-0.0 OutOfMemory c.in_err-last.ensures.cause c.in_err-last.ensures.damage);
      unchanged = on_err c.from_residual-in_err-last.result refl;
    }
