use Rattle.slate_language.proofs.RoundLaws.{generated_formed}
use Rattle.slate_language.proofs.script_laws.generated_is_well_formed.Goals as goal

pub returns : goal.returns
returns c = generated_formed
