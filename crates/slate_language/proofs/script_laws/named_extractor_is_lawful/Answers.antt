use Rattle.slate_language.proofs.PartsLaws.{named_extractor_lawful}
use Rattle.slate_language.proofs.script_laws.named_extractor_is_lawful.Goals as goal

pub returns : goal.returns
returns c = named_extractor_lawful
