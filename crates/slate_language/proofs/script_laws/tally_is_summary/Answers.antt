use Rattle.slate_language.proofs.TallyLaws.{tally_summary}
use Rattle.slate_language.proofs.script_laws.tally_is_summary.Goals as goal

pub returns : goal.returns
returns c = tally_summary
