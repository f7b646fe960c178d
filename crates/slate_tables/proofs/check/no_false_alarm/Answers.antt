use Rattle.slate_tables.proofs.FlawLaws.{no_flaw}
use Rattle.slate_tables.proofs.check.no_false_alarm.Goals as goal

pub returns : goal.returns
returns c = no_flaw
