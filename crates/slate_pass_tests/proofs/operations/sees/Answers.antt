use Rattle.std.proofs.Common.{◌∙◌}
use Rattle.slate_pass_tests.proofs.Gets.{of_ok, same_table}
use Rattle.slate_pass_tests.proofs.operations.sees.Goals as goal

pub rollback-requires : goal.rollback-requires
rollback-requires g c =
    let begun = of_ok _ c.begin.result c.ok.result c.in-Some-ok.txn c.ok.ensures.value c.in-Some-ok.is c.begin.ensures.begun in
    (same_table c.get_key_value.result c.get_key_value.ensures.read ∙ begun.0 ∙ c.requires.table, c.begin.ensures.same.0 ∙ c.requires.table)
