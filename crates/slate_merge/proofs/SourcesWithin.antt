-- Sources of a merge that read objects at some paths alone.
use Rattle.std.proofs.Common.{◌≡◌, ℕ, List, ◌∷◌, IsPermutation, subst}
use Rattle.std.specs.List.{AllByRecursion}
use Rattle.slate_types.specs.declared.error.SlateDBError.{SlateDBError}
use Rattle.slate_merge.specs.declared.head.Head.{Head}
use Rattle.slate_merge.specs.declared.merge_iterator.MergeState.{MergeState}
use Rattle.slate_merge.specs.declared.merge_iterator.MergeState.TheVariants.{New, Begun, Refused}
use Rattle.slate_merge.specs.Merging.{AreWithin, begun_sources}
use Rattle.slate_merge.specs.MergeStates.{CopiedIn, IsWithinIn}
use Rattle.slate_merge.proofs.HeadLaws.{each_shuffled}

module _ {S : Type 0} (within : S → List (List ℕ) → Type 0) (paths : List (List ℕ)) where
  -- the heads without one
  pub within_out : (heads others : List (Head S)) (x : Head S) → IsPermutation heads (x ∷ others) → AreWithin within (begun_sources heads) paths → within x.source paths × AreWithin within (begun_sources others) paths
  within_out heads others x p h =
      let all = each_shuffled (λ (y : Head S). within y.source paths) heads (x ∷ others) p h.1 in
      (all.0, (tt, all.1))

  -- the first of those that wait, and the others
  pub within_begun : (waiting : List S) (s : S) (others : List S) (heads : List (Head S)) → waiting ≡ s ∷ others → AreWithin within (record { waiting = waiting; heads = heads }) paths
      → within s paths × AllByRecursion (λ t. within t paths) others × AreWithin within (begun_sources heads) paths
  within_begun waiting s others heads is h =
      let all = subst (λ (l : List S). AllByRecursion (λ t. within t paths) l) is h.0 in
      (all.0, all.1, (tt, h.1))

  -- one that was refused reads none
  pub copied_within : (e : SlateDBError) (s : MergeState S) → CopiedIn e s → IsWithinIn within s paths
  copied_within e (Refused k) h = tt
  copied_within e (New q) h = absurd h
  copied_within e (Begun q) h = absurd h
