use Rattle.std.proofs.Common.{rules, ◌≡◌, ◌∙◌}
use Rattle.slate_read.proofs.RunRows.{is_run_iterator}
use Rattle.slate_read.proofs.run_rows.newest_run_rows.Goals as goal

pub returns-clause-rows : goal.returns-clause-rows
returns-clause-rows c =
    let same : c.in_ok-kept.kept ≡ c.args.range = search rules in
    is_run_iterator c.args.range c.args.run c.args.order c.in_ok-source.source c.over.result c.in_ok-source.ensures.rows (c.over.ensures.range ∙ same) c.over.ensures.iterator c.over.ensures.progress
