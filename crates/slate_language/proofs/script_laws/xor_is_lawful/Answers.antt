use Rattle.slate_language.proofs.PartsLaws.{xor_back}
use Rattle.slate_language.proofs.script_laws.xor_is_lawful.Goals as goal

pub returns : goal.returns
returns c = xor_back
