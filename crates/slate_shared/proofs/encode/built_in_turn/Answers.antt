use Rattle.std.proofs.Common.{◌∷◌, [], ◌∙◌, length, arith, ap, length-append}
use Rattle.std.proofs.lemmas.Result.{err_from_is_err_and}
use Rattle.slate_shared.proofs.Encoding.{job_done, next_makes, one_done, refused_build}
use Rattle.slate_shared.proofs.encode.built_in_turn.Goals as goal

pub built-requires-clause-ready : goal.built-requires-clause-ready
built-requires-clause-ready g c = λ κs lives. next_makes _ _ _ _ _ _ _ c.loop-job.invariant.far c.in-Some.ensures.steps.0 c.requires.each

pub loop-job-preserved : goal.loop-job-preserved
loop-job-preserved g c =
    let was = c.loop-job.invariant in
    let made = c.in_ok-table.ensures in
    let left = ap length c.in-Some.ensures.steps.0 in
    let tables = ap length c.push_reserved.ensures.items ∙ length-append c.loop-job.tables.items (c.in_ok-table.table ∷ []) in
    record {
      far = one_done _ _ _ _ _ _ _ _ _ was.far c.in-Some.ensures.steps.0
          (job_done _ _ _ _ _ was.same_encoded made.id made.built made.version made.info) c.push_reserved.ensures.items;
      room = omega (arith, was.room, left, tables, c.push_reserved.ensures.capacity);
      same_encoded = c.built.ensures.same_encoded ∙ was.same_encoded;
      same_decoded = c.built.ensures.same_decoded ∙ was.same_decoded;
      later = omega (arith, c.built.ensures.later, was.later);
    }

pub returns-in_err-table : goal.returns-in_err-table
returns-in_err-table g c =
    let p = err_from_is_err_and c.from_residual-in_err-table.result c.from_residual-in_err-table.ensures.1 in
    let was = c.loop-job.invariant in
    record {
      outcome = rw (p.1, p.2) (refused_build _ _ _ _ _ _ _ _ _ _ _ was.far c.in-Some.ensures.steps.0 was.later c.in_err-table.ensures.cause);
      same_encoded = c.built.ensures.same_encoded ∙ was.same_encoded;
      same_decoded = c.built.ensures.same_decoded ∙ was.same_decoded;
      later = omega (arith, c.built.ensures.later, was.later);
    }
