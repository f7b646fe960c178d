use Rattle.std.proofs.Common.{◌≡◌, refl, rules}
use Rattle.slate_types.proofs.Exits.{if_ok_both}
use Rattle.slate_read.proofs.RunRows.{is_run}
use Rattle.slate_read.proofs.run_rows.run_rows.Goals as goal

pub returns-clause-rows : goal.returns-clause-rows
returns-clause-rows c =
    let same : c.in_ok-kept.kept ≡ c.args.range = search rules in
    if_ok_both c.new.result _ _ _ (λ it a b. is_run c.args.range c.in_ok-kept.kept c.args.run.tables.items c.args.order _ _ it a b same refl refl c.reached.ensures) c.new.ensures.iterator c.new.ensures.predicate
