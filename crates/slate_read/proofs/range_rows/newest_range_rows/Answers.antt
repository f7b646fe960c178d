use Rattle.std.proofs.Common.{rules, ◌≡◌, ◌∙◌}
use Rattle.slate_read.proofs.SstRows.{is_table_iterator}
use Rattle.slate_read.proofs.range_rows.newest_range_rows.Goals as goal

pub returns-clause-rows : goal.returns-clause-rows
returns-clause-rows c =
    let same : c.in_ok-kept.kept ≡ c.args.range = search rules in
    let n = c.in_ok-source.ensures in
    is_table_iterator c.args.range c.args.table c.args.options.order c.in_ok-source.source c.over.result n.rows n.order n.unopened n.table (c.over.ensures.range ∙ same) c.over.ensures.iterator c.over.ensures.progress
