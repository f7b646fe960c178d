use Rattle.std.proofs.Common.{◌≡◌, ℕ, ◌*◌, eqb, ◌||◌, length, drop}
use Rattle.std.specs.List.{flat_map, list_any}
use Rattle.slate_filter.specs.Bloom.{is_set, probes}
use Rattle.slate_filter.proofs.probes.set_all.Given as goal

-- the bits that are set, and those of the later hashes
abbrev pub invariant-loop-hash : goal.invariant-loop-hash
invariant-loop-hash l = (b : ℕ) → (is_set l.bits b || list_any (λ p. eqb p b) (flat_map (λ hash. probes hash l.count (8 * length l.initial.bits)) (drop l.hash-index l.hashes)))
    ≡ list_any (λ p. eqb p b) (flat_map (λ hash. probes hash l.count (8 * length l.initial.bits)) l.hashes)
