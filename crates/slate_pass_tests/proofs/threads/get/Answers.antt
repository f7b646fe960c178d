use Rattle.slate_pass_tests.proofs.Gets.{same_table}
use Rattle.slate_pass_tests.proofs.threads.get.Goals as goal

pub returns : goal.returns
returns g c = record { same = same_table c.get_key_value.result c.get_key_value.ensures.read }
