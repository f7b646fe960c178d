use Rattle.std.proofs.Common.{◌≡◌, ◌+◌, ◌-◌, ap, ◌∙◌, arith, take}
use Rattle.slate_types.specs.Keys.{successor}
use Rattle.slate_types.proofs.Increment.{trimmed}
use Rattle.slate_types.proofs.bytes_range.kept_len.Goals as goal

pub loop-len-preserved : goal.loop-len-preserved
loop-len-preserved c =
    let p = c.args.prefix.now in
    let n = c.loop-len.len - 1 in
    let whole : n + 1 ≡ c.loop-len.len = omega arith in
    record {
      within = omega arith;
      same = trimmed p n (omega arith) c.if-prefix-len.true ∙ ap (λ m. successor (take m p)) whole ∙ c.loop-len.invariant.same;
    }

pub returns-after-loop-len : goal.returns-after-loop-len
returns-after-loop-len c = record {
  within = c.loop-len.invariant.within;
  same = c.loop-len.invariant.same;
  last = λ some. absurd (omega (arith, some));
}

pub returns-else-prefix-len-clause-within : goal.returns-else-prefix-len-clause-within
returns-else-prefix-len-clause-within c = c.loop-len.invariant.within

pub returns-else-prefix-len-clause-same : goal.returns-else-prefix-len-clause-same
returns-else-prefix-len-clause-same c = c.loop-len.invariant.same
