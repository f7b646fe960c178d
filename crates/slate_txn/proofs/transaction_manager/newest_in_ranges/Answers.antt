use Rattle.std.proofs.Common.{◌∙◌, ap}
use Rattle.slate_types.specs.Keys.{in_range}
use Rattle.slate_txn.specs.Managers.{later}
use Rattle.slate_txn.proofs.Walks.{turn, ended, of_all}
use Rattle.std.proofs.Common.{drop, ◌+◌}
use Rattle.slate_txn.proofs.transaction_manager.newest_in_ranges.Goals as goal

pub loop-range-preserved : goal.loop-range-preserved
loop-range-preserved c =
    let b = c.args.start in
    let es = c.args.kept.now.entries in
    let xs = c.args.ranges.now in
    ap (λ o. later o (of_all (λ r k. in_range r k) b es (drop (c.loop-range.range-index + 1) xs))) c.later-newest.ensures
    ∙ turn (λ r k. in_range r k) b es xs c.loop-range.range-index c.range-item.result c.loop-range.newest c.newest_in.result _ c.loop-range-test.true c.range-item.is c.newest_in.ensures c.loop-range.invariant

pub returns : goal.returns
returns c = ended (λ r k. in_range r k) c.args.start c.args.kept.now.entries c.args.ranges.now c.loop-range.range-index c.loop-range.newest _ c.loop-range-test.false c.loop-range.invariant
