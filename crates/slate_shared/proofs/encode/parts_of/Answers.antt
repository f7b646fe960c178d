use Rattle.slate_shared.proofs.Encoding.{cut_builds, cut_of, ok_then}
use Rattle.slate_shared.proofs.encode.parts_of.Goals as goal

pub returns-clause-cut : goal.returns-clause-cut
returns-clause-cut g c = ok_then c.cut_tables.result _ _ c.cut_tables.ensures.cut (λ parts cut. cut_of _ _ _ _ _ cut c.in_ok-rows.ensures.same)

pub returns-clause-each : goal.returns-clause-each
returns-clause-each g c = ok_then c.cut_tables.result _ _ c.cut_tables.ensures.cut (λ parts cut. cut_builds _ _ _ _ _ c.in_ok-rows.ensures.same c.requires.order c.requires.fit cut)
