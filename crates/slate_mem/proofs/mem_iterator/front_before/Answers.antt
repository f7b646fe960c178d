use Rattle.std.proofs.Common.{ap, ◌∙◌}
use Rattle.slate_types.specs.Iteration.{comes_before}
use Rattle.slate_mem.proofs.PageLaws.{begins_is, begins_none}
use Rattle.slate_mem.proofs.mem_iterator.front_before.Goals as goal

pub returns-in-Some : goal.returns-in-Some
returns-in-Some c =
    c.puts_before.ensures ∙ ap (λ k. comes_before c.args.order k c.args.key.now) c.as_slice.ensures
    ∙ begins_is c.args.order c.args.key.now c.args.copies.now.items c.in-Some.row.now c.in-Some.ensures.item.3.0 c.in-Some.ensures.lookup

pub returns-in-None : goal.returns-in-None
returns-in-None c = begins_none c.args.order c.args.key.now c.args.copies.now.items c.in-None.ensures.item.3
