use Rattle.std.proofs.Common.{map, length, refl, arith, ap}
use Rattle.slate_shared.proofs.Encoding.{one_job_more, one_longer}
use Rattle.slate_shared.proofs.encode.jobs_of.Goals as goal

pub loop-part-preserved-in-Some : goal.loop-part-preserved-in-Some
loop-part-preserved-in-Some c =
    let was = c.loop-part.invariant in
    let next = ap (map (λ t. t.rows.items)) c.in-Some.ensures.steps.0 in
    let left = ap length c.in-Some.ensures.steps.0 in
    record {
      far = one_job_more _ _ _ _ _ _ _ _ was.far next c.push_reserved.ensures.items (record { is = omega (arith, c.len-in-loop-part.ensures); fits = omega (arith, c.len-in-loop-part.ensures, c.len-in-loop-part.type_inv) }) refl;
      room = omega (arith, was.room, left, one_longer _ _ _ c.push_reserved.ensures.items, c.push_reserved.ensures.capacity);
    }

pub loop-part-preserved : goal.loop-part-preserved
loop-part-preserved c =
    let was = c.loop-part.invariant in
    let next = ap (map (λ t. t.rows.items)) c.in-Some.ensures.steps.0 in
    let left = ap length c.in-Some.ensures.steps.0 in
    record {
      far = one_job_more _ _ _ _ _ _ _ _ was.far next c.push_reserved.ensures.items (record { is = omega (arith, c.len-in-loop-part.ensures); fits = omega (arith, c.len-in-loop-part.ensures, c.len-in-loop-part.type_inv) }) refl;
      room = omega (arith, was.room, left, one_longer _ _ _ c.push_reserved.ensures.items, c.push_reserved.ensures.capacity);
    }
