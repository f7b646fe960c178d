use Rattle.std.proofs.Common.{◌≡◌, List, sym, ap, ◌∙◌, subst}
use Rattle.slate_tables.specs.Tallies.{FitsSums, plus, sums_of}
use Rattle.slate_tables.specs.declared.tally.Sums.{Sums}
use Rattle.slate_tables.proofs.TallyLaws.{fits_parts, whole_before}
use Rattle.slate_tables.proofs.tally.added_stats.Goals as goal

pub returns-in-None-clause-stats : goal.returns-in-None-clause-stats
returns-in-None-clause-stats c = λ blocks fit is more.
    (let rows = c.args.rows.now in
    let parts = fits_parts blocks rows more in
    let same = ap (λ (x : Sums). plus x (sums_of rows)) c.whole_sums.ensures ∙ whole_before blocks rows c.args.stats is in
    c.in-None.ensures (subst (λ (x : Sums). FitsSums x) (sym same) parts.0) parts.1)
