use Rattle.std.proofs.Common.{ℕ, ◌*◌, ◌||◌, eqb, length, get_or, ap, ◌∙◌}
use Rattle.std.specs.List.{list_any}
use Rattle.slate_filter.specs.Bloom.{is_set, probes}
use Rattle.slate_filter.proofs.ByteLaws.{all_clear, hash_set, all_set}
use Rattle.slate_filter.proofs.probes.set_all.Goals as goal

pub loop-hash-init : goal.loop-hash-init
loop-hash-init c = λ b. all_clear c.args.bits.now b _ c.requires.zeros

pub loop-hash-preserved : goal.loop-hash-preserved
loop-hash-preserved c = λ b. hash_set (λ (hash : ℕ). probes hash c.args.count (8 * length c.args.bits.now)) c.args.hashes.now c.loop-hash.hash-index b (is_set c.loop-hash.bits b) _ _ c.loop-hash-test.true (c.loop-hash.invariant b)
    (c.set_probes.ensures.set b ∙ ap (λ (n : ℕ). is_set c.loop-hash.bits b || list_any (λ p. eqb p b) (probes (get_or c.args.hashes.now c.loop-hash.hash-index 0) c.args.count (8 * n))) c.loop-hash.auto.bits)

pub returns : goal.returns
returns c = all_set (λ (hash : ℕ). probes hash c.args.count (8 * length c.args.bits.now)) c.args.hashes.now c.loop-hash.hash-index (length c.args.bits.now) c.loop-hash.bits c.loop-hash-test.false c.loop-hash.auto.bits c.are_bytes.ensures c.loop-hash.invariant
