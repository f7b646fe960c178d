use Rattle.std.proofs.Common.{◌≡◌, rules}
use Rattle.slate_types.proofs.Exits.{if_ok_both}
use Rattle.slate_read.proofs.Ranges.{is_range}
use Rattle.slate_read.proofs.range_rows.range_rows.Goals as goal

pub returns-clause-rows : goal.returns-clause-rows
returns-clause-rows c =
    let same : c.in_ok-kept.kept ≡ c.args.range = search rules in
    if_ok_both c.new.result _ _ _ (λ it a b. is_range c.args.range c.in_ok-kept.kept c.args.table c.args.order c.args.limits _ it a b same) c.new.ensures.iterator c.new.ensures.predicate
