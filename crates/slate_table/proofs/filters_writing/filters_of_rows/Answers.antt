use Rattle.std.proofs.lemmas.Result.{IfOk-weaker}
use Rattle.slate_table.proofs.FilterWrites.{short_names}
use Rattle.slate_table.proofs.filters_writing.filters_of_rows.Goals as goal

pub returns-clause-names : goal.returns-clause-names
returns-clause-names g c = IfOk-weaker c.build_filters.result _ _
    (λ filters is. short_names c.args.policies.now (λ p. (goal.FilterPolicy-dyn g (p.vtable, p.value)).meaning p.value) c.args.rows.now filters.items is c.requires.names)
    c.build_filters.ensures.built
