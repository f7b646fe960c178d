use Rattle.std.proofs.Common.{arith, sym}
use Rattle.slate_mem.proofs.NestLaws.{front_found, one_more}
use Rattle.slate_mem.proofs.segments.first_front.Goals as goal

pub returns-in-Some : goal.returns-in-Some
returns-in-Some c =
    let e = c.in-Some.ensures in
    front_found c.args.prefix.now c.in_ok-front.front c.in-Some.found.now c.args.prefixes.now.keys c.loop-len.len c.in_ok-front.ensures.ok (omega arith) e.same_key (sym e.variant) c.loop-len.invariant

pub loop-len-preserved : goal.loop-len-preserved
loop-len-preserved c =
    one_more c.args.prefix.now c.in_ok-front.front c.args.prefixes.now.keys c.loop-len.len c.in_ok-front.ensures.ok (sym c.in_default.ensures.variant) c.loop-len.invariant
