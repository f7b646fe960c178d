use Rattle.slate_filter.proofs.ExtractorLaws.{extractors_lawful}
use Rattle.slate_filter.proofs.laws.extractors_are_lawful.Goals as goal

pub returns : goal.returns
returns c = extractors_lawful
