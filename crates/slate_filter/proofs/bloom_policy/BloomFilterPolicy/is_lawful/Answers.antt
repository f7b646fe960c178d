use Rattle.slate_filter.specs.BloomPolicies.{set_by}
use Rattle.slate_filter.proofs.BloomLaws.{bloom_lawful}
use Rattle.slate_filter.proofs.BuildLaws.{each_within}
use Rattle.slate_filter.proofs.bloom_policy.BloomFilterPolicy.is_lawful.Goals as goal

pub returns : goal.returns
returns g c = bloom_lawful (set_by g.X.PrefixExtractor.lengths c.args.self.now) c.args.self.now.some
    (each_within g.X.PrefixExtractor.lengths (g.met.X.PrefixExtractor g.world.𝓛 g.world.𝓜 g.world.𝓡 ((λ s x. x), (λ x. x), (λ x. x), λ x. x)).within c.args.self.now.prefix_extractor) c.requires
