use Rattle.std.proofs.Common.{arith}
use Rattle.slate_filter.proofs.ColonLaws.{last_here, last_more}
use Rattle.slate_filter.proofs.extractors.through_last_colon.Goals as goal

pub returns-then-bytes-len-eq-COLON : goal.returns-then-bytes-len-eq-COLON
returns-then-bytes-len-eq-COLON c = last_here 58 c.args.bytes.now c.loop-len.len _ (omega arith) c.loop-len.invariant.within c.loop-len.invariant.rest (omega arith)

pub loop-len-preserved : goal.loop-len-preserved
loop-len-preserved c = record {
  within = omega arith;
  rest = last_more 58 c.args.bytes.now c.loop-len.len _ (omega arith) c.loop-len.invariant.within c.loop-len.invariant.rest (omega arith);
}
