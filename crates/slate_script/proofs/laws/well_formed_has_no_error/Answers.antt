use Rattle.slate_script.proofs.Taken.{formed_no_error, no_error_formed}
use Rattle.slate_script.proofs.laws.well_formed_has_no_error.Goals as goal

pub returns : goal.returns
returns c script = (formed_no_error script, no_error_formed script)
