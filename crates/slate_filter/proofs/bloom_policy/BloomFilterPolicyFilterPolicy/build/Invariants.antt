use Rattle.std.proofs.Common.{◌≡◌, ◌++◌, None, map, drop}
use Rattle.std.specs.Option.{option_copied}
use Rattle.slate_filter.specs.Bloom.{hashed}
use Rattle.slate_filter.specs.BloomPolicies.{set_by}
use Rattle.slate_filter.specs.Hash.{filter_hash}
use Rattle.slate_filter.proofs.bloom_policy.BloomFilterPolicyFilterPolicy.build.Given as goal

-- the hashes so far, and those of the later rows
abbrev pub invariant-loop-row : goal.invariant-loop-row
invariant-loop-row g l =
    l.hashes.items ++ map filter_hash (hashed (set_by g.X.PrefixExtractor.lengths l.self) (option_copied l.last) (map (λ r. r.key) (drop l.row-index l.rows)))
    ≡ map filter_hash (hashed (set_by g.X.PrefixExtractor.lengths l.self) None (map (λ r. r.key) l.rows))
