use Rattle.std.proofs.Common.{ℕ, ◌≡◌, ◌+◌, ◌-◌, ◌∙◌, ap, arith}
use Rattle.slate_table.specs.IndexValue.{entries_of}
use Rattle.slate_read.specs.TableWalk.{size_of, size_upto, unread_size}
use Rattle.slate_read.proofs.Enough.{goes_on, stops, takes_all}
use Rattle.slate_read.proofs.fetching.blocks_of_fetch.Goals as goal

pub returns-then-left-size : goal.returns-then-left-size
returns-then-left-size c =
    let i = c.loop-count.invariant in
    let all = c.args.unread.now.end - c.args.unread.now.start in
    let is = c.section_len-size.ensures ∙ ap (size_of c.args.table.now (entries_of c.args.index.now)) c.nth_block.ensures.block in
    let few = c.if-left-size.true in
    stops (unread_size c.args.table.now (entries_of c.args.index.now) c.args.order c.args.unread.now.start c.args.unread.now.end) c.args.bytes all c.loop-count.count c.loop-count.left (omega (arith, c.loop-count.auto.count)) i.sum i.some
    (omega (arith, c.loop-count-test.true)) (omega (arith, few, is))

pub loop-count-preserved : goal.loop-count-preserved
loop-count-preserved c =
    let i = c.loop-count.invariant in
    let all = c.args.unread.now.end - c.args.unread.now.start in
    let size = unread_size c.args.table.now (entries_of c.args.index.now) c.args.order c.args.unread.now.start c.args.unread.now.end in
    let is : c.section_len-size.result ≡ size (c.loop-count.count - 1) = c.section_len-size.ensures ∙ ap (size_of c.args.table.now (entries_of c.args.index.now)) c.nth_block.ensures.block in
    let more = c.if-left-size.false in
    record {
      sum = ap (λ (n : ℕ). size_upto size (c.loop-count.count + 1 - 1) + (c.loop-count.left - n)) is ∙ goes_on size c.args.bytes all c.loop-count.count c.loop-count.left (omega (arith, c.loop-count.auto.count)) i.sum i.some (omega (arith, more, is));
      some = λ k. omega (arith, more);
    }

pub returns : goal.returns
returns c =
    let i = c.loop-count.invariant in
    let all = c.args.unread.now.end - c.args.unread.now.start in
    takes_all (unread_size c.args.table.now (entries_of c.args.index.now) c.args.order c.args.unread.now.start c.args.unread.now.end) c.args.bytes all c.loop-count.count c.loop-count.left (omega (arith, c.loop-count.auto.count)) i.sum i.some
    (omega (arith, c.loop-count-test.false, c.loop-count.auto.count, c.loop-count.auto.count-end, c.requires.some))
