use Rattle.std.proofs.Common.{◌≡◌, List, ℕ, Some, ap, ◌∙◌}
use Rattle.slate_filter.specs.Building.{bits_of, encoded}
use Rattle.slate_filter.specs.Builders.{taken_by}
use Rattle.slate_filter.proofs.BuildLaws.{built}
use Rattle.slate_filter.proofs.bloom_builder.BloomFilterBuilder.build.Goals as goal

pub returns-in-Some-clause-built : goal.returns-in-Some-clause-built
returns-in-Some-clause-built g c = λ keys h.
    let all = c.in_ok-bits.ensures.bits in
    let same : Some c.in-Some.bits.items ≡ bits_of c.args.self.bits_per_key c.as_slice.result.now = rw c.in-Some.is at all in
    let bits : Some c.in-Some.bits.items ≡ bits_of c.args.self.bits_per_key c.args.self.hashes.items = rw c.as_slice.ensures.value at same in
    ap (λ (p : ℕ × List ℕ). Some (encoded p.0 p.1)) c.from_parts.ensures.parts
    ∙ built (taken_by g.X.PrefixExtractor.lengths c.args.self) keys _ _ (Some c.in-Some.bits.items) c.optimal_num_probes.result h bits c.optimal_num_probes.ensures

pub returns-in-Some-clause-settings : goal.returns-in-Some-clause-settings
returns-in-Some-clause-settings g c = c.from_parts.ensures.settings c.args.self.bits_per_key
