use Rattle.std.proofs.Common.{◌∙◌, arith}
use Rattle.slate_block.proofs.Groups.{weight_small, goes_on, ends_at, cut_at, stops_at, low_more, worth_more, front_within}
use Rattle.slate_block.proofs.varint.first_varint.Goals as goal

pub last_group-requires-clause-weight : goal.last_group-requires-clause-weight
last_group-requires-clause-weight c =
    let small = weight_small c.loop-index.index (omega arith) in omega (arith, c.loop-index.invariant.worth, small)

pub last_group-requires-clause-index : goal.last_group-requires-clause-index
last_group-requires-clause-index c = omega arith

pub overflow_mul-low : goal.overflow_mul-low
overflow_mul-low c =
    let small = weight_small c.loop-index.index (omega arith) in
    let more = low_more c.loop-index.low c.loop-index.weight c.from-group.result c.loop-index.invariant.below (omega arith) in omega arith

pub overflow_add-low : goal.overflow_add-low
overflow_add-low c =
    let small = weight_small c.loop-index.index (omega arith) in
    let more = low_more c.loop-index.low c.loop-index.weight c.from-group.result c.loop-index.invariant.below (omega arith) in omega arith

pub overflow_mul-weight : goal.overflow_mul-weight
overflow_mul-weight c =
    let small = weight_small c.loop-index.index (omega arith) in omega arith

pub loop-index-preserved : goal.loop-index-preserved
loop-index-preserved c = record {
  few = omega arith;
  worth = worth_more c.loop-index.weight c.loop-index.index c.loop-index.invariant.worth;
  below = low_more c.loop-index.low c.loop-index.weight c.from-group.result c.loop-index.invariant.below (omega arith);
  found = goes_on c.args.input.now c.loop-index.weight c.loop-index.low c.loop-index.index c.from-group.result c.loop-index-test.true c.from-group.ensures c.if-group-lt128.false c.loop-index.invariant.found;
}

pub returns-then-group-lt128-clause-value : goal.returns-then-group-lt128-clause-value
returns-then-group-lt128-clause-value c = c.last_group.ensures ∙ ends_at c.args.input.now c.loop-index.weight c.loop-index.low c.loop-index.index c.from-group.result c.loop-index-test.true c.from-group.ensures c.if-group-lt128.true c.loop-index.invariant.found

pub returns-then-group-lt128-clause-within : goal.returns-then-group-lt128-clause-within
returns-then-group-lt128-clause-within c = front_within c.args.input.now c.last_group.result (λ i. omega (arith, c.type_inv.input i)) (returns-then-group-lt128-clause-value c)

pub returns-then-index-eq-MAX_VARINT_LEN-clause-value : goal.returns-then-index-eq-MAX_VARINT_LEN-clause-value
returns-then-index-eq-MAX_VARINT_LEN-clause-value c = stops_at c.args.input.now c.loop-index.weight c.loop-index.low c.loop-index.index c.if-index-eq-MAX_VARINT_LEN.true c.loop-index.invariant.worth c.loop-index.invariant.found

pub returns-clause-value : goal.returns-clause-value
returns-clause-value c = cut_at c.args.input.now c.loop-index.weight c.loop-index.low c.loop-index.index (omega arith) c.loop-index.invariant.found
