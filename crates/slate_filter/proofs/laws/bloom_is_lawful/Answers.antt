use Rattle.slate_filter.proofs.BloomLaws.{bloom_lawful}
use Rattle.slate_filter.proofs.laws.bloom_is_lawful.Goals as goal

pub returns : goal.returns
returns c = bloom_lawful
