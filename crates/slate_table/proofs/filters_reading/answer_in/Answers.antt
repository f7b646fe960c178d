use Rattle.std.proofs.Common.{map}
use Rattle.std.proofs.lemmas.Result.{err_from_is_err_and}
use Rattle.slate_table.proofs.FilterAnswers.{no_count, no_answer, ends_there, goes_past}
use Rattle.slate_table.proofs.filters_reading.answer_in.Goals as goal

pub returns-in_err-count-clause-answer : goal.returns-in_err-count-clause-answer
returns-in_err-count-clause-answer g c =
    let policies = map (λ p. (goal.FilterPolicy-dyn g (p.vtable, p.value)).meaning p.value) c.args.policies.now in
    let p = err_from_is_err_and c.from_residual.result c.from_residual.ensures.1 in
    rw (p.1, p.2) (no_count policies c.args.query.now c.args.bytes.now c.in_err-count.field-0.0 c.in_err-count.ensures.value)

pub returns-in_err-answer-clause-answer : goal.returns-in_err-answer-clause-answer
returns-in_err-answer-clause-answer g c =
    let policies = map (λ p. (goal.FilterPolicy-dyn g (p.vtable, p.value)).meaning p.value) c.args.policies.now in
    let p = err_from_is_err_and c.from_residual-in_err-answer.result c.from_residual-in_err-answer.ensures.1 in
    rw (p.1, p.2) (no_answer policies c.args.query.now c.args.bytes.now c.in_ok-count.count c.in_ok-count.at c.in_err-answer.field-0.0 c.in_ok-count.ensures.value c.in_err-answer.ensures)

pub returns-then-at-bytes-clause-answer : goal.returns-then-at-bytes-clause-answer
returns-then-at-bytes-clause-answer g c =
    let policies = map (λ p. (goal.FilterPolicy-dyn g (p.vtable, p.value)).meaning p.value) c.args.policies.now in
    ends_there policies c.args.query.now c.args.bytes.now c.in_ok-count.count c.in_ok-count.at c.in_ok-answer.answer c.in_ok-answer.at c.in_ok-count.ensures.value c.in_ok-answer.ensures c.if-at-bytes.true

pub returns-clause-answer : goal.returns-clause-answer
returns-clause-answer g c =
    let policies = map (λ p. (goal.FilterPolicy-dyn g (p.vtable, p.value)).meaning p.value) c.args.policies.now in
    goes_past policies c.args.query.now c.args.bytes.now c.in_ok-count.count c.in_ok-count.at c.in_ok-answer.answer c.in_ok-answer.at c.corrupt.result c.in_ok-count.ensures.value c.in_ok-answer.ensures c.if-at-bytes.false c.corrupt.ensures
