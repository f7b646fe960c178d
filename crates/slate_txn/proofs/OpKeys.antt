-- Keys of operations, one after another.
use Rattle.std.proofs.Common.{◌≡◌, ℕ, ◌+◌, ◌<◌, ◌∷◌, map, length, drop, get_or, List, sym, ap, ◌∙◌, add-one}
use Rattle.std.proofs.Math.Seq.{drop-cons}
use Rattle.slate_mem.specs.Batch.{Ops}
use Rattle.slate_mem.specs.declared.WriteOp.{WriteOp}

-- the keys of operations, the first of them and the others
pub keys_first : (os : Ops) (i : ℕ) (o : List ℕ × WriteOp) → i < length os → o ≡ get_or os i o → map (λ p. p.0) (drop i os) ≡ o.0 ∷ map (λ p. p.0) (drop (i + 1) os)
keys_first os i o within is =
    ap (map (λ p. p.0)) (drop-cons os i o within ∙ ap (λ n. get_or os i o ∷ drop n os) (sym (add-one i)))
    ∙ ap (λ (p : List ℕ × WriteOp). p.0 ∷ map (λ q. q.0) (drop (i + 1) os)) (sym is)
