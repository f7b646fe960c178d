use Rattle.slate_pass_tests.proofs.Gets.{names_fit}
use Rattle.slate_pass_tests.proofs.threads.flush.Goals as goal

pub flush-requires-clause-names : goal.flush-requires-clause-names
flush-requires-clause-names g c = λ κs lives. names_fit c.have_valid_names.result c.as_slice.result.now _ _ c.have_valid_names.ensures c.as_slice.ensures.value c.if-not-have_valid_names.false
