use Rattle.slate_language.proofs.WordLaws.{generated_alone}
use Rattle.slate_language.proofs.script_laws.words_name_one_script.Goals as goal

pub returns : goal.returns
returns c = generated_alone
