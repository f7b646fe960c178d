use Rattle.slate_language.proofs.ParseLaws.{one_meaning}
use Rattle.slate_language.proofs.script_laws.has_one_meaning.Goals as goal

pub returns : goal.returns
returns c = one_meaning
