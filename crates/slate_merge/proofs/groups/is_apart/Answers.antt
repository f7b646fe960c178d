use Rattle.std.proofs.Common.{◌∙◌, sym}
use Rattle.slate_merge.proofs.Grouping.{one_apart}
use Rattle.slate_merge.proofs.groups.is_apart.Goals as goal

pub returns-in-Some-clause-same : goal.returns-in-Some-clause-same
returns-in-Some-clause-same c = λ same one. one_apart c.args.rows.now c.args.row.now c.in-Some.first.now (sym c.in-Some.ensures.value) (sym c.ne.ensures ∙ same) one
