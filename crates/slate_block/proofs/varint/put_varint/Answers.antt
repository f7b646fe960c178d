use Rattle.std.proofs.Common.{◌∙◌, ◌++◌, List, ℕ, ap, arith, rules}
use Rattle.slate_block.specs.Varint.{varint}
use Rattle.slate_block.proofs.Groups.{rest_more, rest_len, group_written, last_written}
use Rattle.slate_block.proofs.varint.put_varint.Goals as goal

pub loop-rest-preserved : goal.loop-rest-preserved
loop-rest-preserved c =
    let more = rest_more c.loop-rest.len c.loop-rest.rest c.loop-rest.invariant.rest (omega arith) in
    record {
      long = search rules;
      rest = more.1;
      spelled = group_written c.loop-rest.groups c.loop-rest.len c.loop-rest.rest _ c.loop-rest.invariant.long more.0 (omega arith) c.loop-rest.invariant.spelled;
    }

pub returns-clause-appended : goal.returns-clause-appended
returns-clause-appended c =
    let written = last_written c.loop-rest.groups c.loop-rest.len c.loop-rest.rest (varint c.args.value) c.loop-rest.invariant.long (rest_len c.loop-rest.len c.loop-rest.rest c.loop-rest.invariant.rest) (omega arith) c.loop-rest.invariant.spelled in
    c.put.ensures.appended ∙ ap (λ (l : List ℕ). c.args.out.now.items ++ l) written
