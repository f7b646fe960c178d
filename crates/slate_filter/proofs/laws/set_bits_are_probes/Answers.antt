use Rattle.std.proofs.Common.{◌≡◌, ℕ, ◌+◌, ◌*◌, eqb, ap, ◌∙◌, arith}
use Rattle.std.specs.List.{list_any}
use Rattle.slate_filter.specs.Bloom.{all_probes}
use Rattle.slate_filter.proofs.ByteLaws.{from_at}
use Rattle.slate_filter.proofs.laws.set_bits_are_probes.Goals as goal

pub returns : goal.returns
returns c = λ n count strings b within. let place : 0 + b ≡ b = omega arith in
    from_at n 0 (all_probes strings count (8 * n)) b within ∙ ap (λ (k : ℕ). list_any (λ p. eqb p k) (all_probes strings count (8 * n))) place
