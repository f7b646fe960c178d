use Rattle.std.proofs.Common.{[], sym, subst}
use Rattle.slate_mem.specs.Kept.{HasMore}
use Rattle.slate_mem.specs.KeyedOps.{entries_in}
use Rattle.slate_mem.proofs.KeyedLaws.{first_more}
use Rattle.slate_mem.proofs.keyed_ops.KeyedOps.add.Goals as goal

pub returns-then-is_empty-clause-more : goal.returns-then-is_empty-clause-more
returns-then-is_empty-clause-more c =
    let k = c.args.key in
    let none = c.is_empty.ensures.0 c.if-is_empty.true in
    subst (λ es. HasMore es (entries_in c.replace.new.dest) k c.args.op) (sym none)
    (subst (λ o. HasMore [] (entries_in o) k c.args.op) (sym c.replace.ensures.after) (first_more k c.args.op))
