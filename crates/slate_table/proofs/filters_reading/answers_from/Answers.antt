use Rattle.std.proofs.Common.{map, true, Some, sym}
use Rattle.std.proofs.lemmas.Result.{err_from_is_err_and}
use Rattle.slate_table.specs.FiltersReading.{filters_from, filters_say_from}
use Rattle.slate_table.proofs.FilterAnswers.{asks_on, asks_no_more, all_asked}
use Rattle.slate_table.proofs.filters_reading.answers_from.Goals as goal

pub loop-preserved : goal.loop-preserved
loop-preserved g c =
    let policies = map (λ p. (goal.FilterPolicy-dyn g (p.vtable, p.value)).meaning p.value) c.args.policies.now in
    record {
      within = c.in_ok-name.ensures.within;
      read = rw c.answer_also-answer.ensures
          (asks_on policies c.args.query.now c.loop.answer c.args.count c.loop.counter c.args.bytes.now c.loop.at (c.in_ok-name.name.now, c.in_ok-name.filter.now) c.in_ok-name.next
          (filters_say_from policies c.args.query.now (Some true) (filters_from c.args.count c.args.bytes.now c.args.at)) c.loop-test.true c.in_ok-name.ensures.found c.loop.invariant.read);
    }

pub returns-in_err-name : goal.returns-in_err-name
returns-in_err-name g c =
    let policies = map (λ p. (goal.FilterPolicy-dyn g (p.vtable, p.value)).meaning p.value) c.args.policies.now in
    let p = err_from_is_err_and c.from_residual.result c.from_residual.ensures.1 in
    rw (p.1, p.2)
    (sym (asks_no_more policies c.args.query.now c.loop.answer c.args.count c.loop.counter c.args.bytes.now c.loop.at c.in_err-name.field-0.0
    (filters_say_from policies c.args.query.now (Some true) (filters_from c.args.count c.args.bytes.now c.args.at)) c.loop-test.true c.in_err-name.ensures.cause c.loop.invariant.read))

pub returns : goal.returns
returns g c =
    let policies = map (λ p. (goal.FilterPolicy-dyn g (p.vtable, p.value)).meaning p.value) c.args.policies.now in
    sym (all_asked policies c.args.query.now c.loop.answer c.args.count c.loop.counter c.args.bytes.now c.loop.at
    (filters_say_from policies c.args.query.now (Some true) (filters_from c.args.count c.args.bytes.now c.args.at)) c.loop-test.false c.loop.invariant.read)
