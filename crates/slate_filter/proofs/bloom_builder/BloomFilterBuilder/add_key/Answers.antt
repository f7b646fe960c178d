use Rattle.slate_filter.specs.Builders.{taken_by}
use Rattle.slate_filter.proofs.BuildLaws.{key_more, or_last}
use Rattle.slate_filter.proofs.bloom_builder.BloomFilterBuilder.add_key.Goals as goal

pub returns-clause-added : goal.returns-clause-added
returns-clause-added g c = λ keys h. key_more (taken_by g.X.PrefixExtractor.lengths c.args.self.now) keys c.args.key.now _ c.args.self.now.last_prefix _ c.in_ok-prefix.prefix _ _ _ _ h c.in_ok-prefix.ensures
    (or_last c.in_ok-prefix.prefix c.take.result c.args.self.now.last_prefix _ c.take.ensures.value c.or.ensures)
    c.as_slice.ensures c.as_slice-2.ensures c.as_slice-3.ensures c.in_ok-add_hashes.ensures.added
