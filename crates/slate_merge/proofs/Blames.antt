-- What the sources of a merge refuse, behind the reads of one of them.
use Rattle.std.proofs.Common.{inl, inr, ℕ, List, ◌∷◌, ◌++◌, Option, None, IsPermutation}
use Rattle.slate_types.specs.declared.error.SlateDBError.{SlateDBError}
use Rattle.slate_types.specs.Outside.{Act, Meaning}
use Rattle.slate_types.specs.Refusing.{NoMore}
use Rattle.slate_merge.specs.declared.head.Head.{Head}
use Rattle.slate_merge.specs.Merging.{AnyByRecursion, either_refusal, blames}
use Rattle.slate_merge.specs.MergeStateLaws.{any_weaker, either_more}
use Rattle.slate_merge.proofs.StepLaws.{any_shuffled}

module _ {S : Type 0} (refuses : S → Meaning → List Act → Option (List ℕ) → SlateDBError → Type 0) where
  -- what a head's source refuses, the merge refuses
  pub head_blamed : (m : Meaning) (reads : List Act) (at : Option (List ℕ)) (e : SlateDBError) (waiting : List S) (heads others : List (Head S)) (x : Head S) → IsPermutation heads (x ∷ others)
      → either_refusal (λ s. refuses s m reads) at x.source e → blames refuses (record { waiting = waiting; heads = heads }) m reads at e
  head_blamed m reads at e waiting heads others x p h = inr (any_shuffled (λ (y : Head S). either_refusal (λ s. refuses s m reads) at y.source e) heads (x ∷ others) p (inl h))

  module _ (more : (x : S) (m : Meaning) (done reads : List Act) (at : Option (List ℕ)) (e : SlateDBError) → refuses x m reads at e → refuses x m (done ++ reads) at e) (m : Meaning) (reads : List Act) where
    either_own : (x y : S) → NoMore (refuses x m) reads (refuses y m) → (later : List Act) (at : Option (List ℕ)) (e : SlateDBError) → either_refusal (λ t. refuses t m later) at y e → either_refusal (λ t. refuses t m (reads ++ later)) at x e
    either_own x y less later at e (inl h) = inl (less later at e h)
    either_own x y less later at e (inr h) = inr (less later None e h)

    -- a head went on
    pub blamed_put : (waiting : List S) (heads others new : List (Head S)) (x y : Head S) → IsPermutation heads (x ∷ others) → IsPermutation (y ∷ others) new → NoMore (refuses x.source m) reads (refuses y.source m)
        → NoMore (blames refuses (record { waiting = waiting; heads = heads }) m) reads (blames refuses (record { waiting = waiting; heads = new }) m)
    blamed_put waiting heads others new x y p q less later at e (inl h) = inl (any_weaker _ _ (λ s k. either_more refuses more m reads later at e s k) waiting h)
    blamed_put waiting heads others new x y p q less later at e (inr h) =
        let P : Head S → Type 0 = λ z. either_refusal (λ t. refuses t m later) at z.source e in
        let Q : Head S → Type 0 = λ z. either_refusal (λ t. refuses t m (reads ++ later)) at z.source e in
        inr (any_shuffled Q heads (x ∷ others) p (elim (any_shuffled P (y ∷ others) new q h) as (λ _. AnyByRecursion Q (x ∷ others)) [
          | inl own ↦ inl (either_own x.source y.source less later at e own)
          | inr other ↦ inr (any_weaker P Q (λ z k. either_more refuses more m reads later at e z.source k) others other)
        ]))

    -- a head's source has ended
    pub blamed_gone : (waiting : List S) (heads others : List (Head S)) (x : Head S) → IsPermutation heads (x ∷ others)
        → NoMore (blames refuses (record { waiting = waiting; heads = heads }) m) reads (blames refuses (record { waiting = waiting; heads = others }) m)
    blamed_gone waiting heads others x p later at e (inl h) = inl (any_weaker _ _ (λ s k. either_more refuses more m reads later at e s k) waiting h)
    blamed_gone waiting heads others x p later at e (inr h) =
        let Q : Head S → Type 0 = λ z. either_refusal (λ t. refuses t m (reads ++ later)) at z.source e in
        inr (any_shuffled Q heads (x ∷ others) p (inr (any_weaker _ Q (λ z k. either_more refuses more m reads later at e z.source k) others h)))

    -- a source that waited began
    pub blamed_begun : (source : S) (waiting : List S) (heads new : List (Head S)) (y : Head S) → IsPermutation (y ∷ heads) new → NoMore (refuses source m) reads (refuses y.source m)
        → NoMore (blames refuses (record { waiting = source ∷ waiting; heads = heads }) m) reads (blames refuses (record { waiting = waiting; heads = new }) m)
    blamed_begun source waiting heads new y q less later at e (inl h) = inl (inr (any_weaker _ _ (λ s k. either_more refuses more m reads later at e s k) waiting h))
    blamed_begun source waiting heads new y q less later at e (inr h) =
        let P : Head S → Type 0 = λ z. either_refusal (λ t. refuses t m later) at z.source e in
        elim (any_shuffled P (y ∷ heads) new q h) as (λ _. blames refuses (record { waiting = source ∷ waiting; heads = heads }) m (reads ++ later) at e) [
          | inl own ↦ inl (inl (either_own source y.source less later at e own))
          | inr other ↦ inr (any_weaker P _ (λ z k. either_more refuses more m reads later at e z.source k) heads other)
        ]

    -- and has no row
    pub blamed_empty : (source : S) (waiting : List S) (heads : List (Head S))
        → NoMore (blames refuses (record { waiting = source ∷ waiting; heads = heads }) m) reads (blames refuses (record { waiting = waiting; heads = heads }) m)
    blamed_empty source waiting heads later at e (inl h) = inl (inr (any_weaker _ _ (λ s k. either_more refuses more m reads later at e s k) waiting h))
    blamed_empty source waiting heads later at e (inr h) = inr (any_weaker _ _ (λ (y : Head S) k. either_more refuses more m reads later at e y.source k) heads h)
