-- What one step does to a merge under way.
use Rattle.std.proofs.Common.{◌≡◌, ℕ, ◌+◌, ◌≤◌, ◌<◌, List, [], ◌∷◌, length, refl, sym, ap, ◌∙◌, subst, inl, inr, arith, sum_by, Option, Some, None, IsPermutation}
use Rattle.std.specs.List.{AllByRecursion}
use Rattle.std.specs.BinaryHeap.{IsHeap, IsUpperBound, KeepsHeap}
use Rattle.std.proofs.lemmas.List.Sorted.{sum_by-IsPermutation}
use Rattle.std.proofs.lemmas.List.Sums.{sum_by-cons}
use Rattle.slate_types.specs.declared.types.RowEntry.{RowEntry}
use Rattle.slate_types.specs.declared.iter.IterationOrder.{IterationOrder}
use Rattle.slate_types.specs.Iteration.{TakesRow}
use Rattle.slate_merge.specs.declared.head.Head.{Head}
use Rattle.slate_types.specs.RowTurns.{row_before, AreInTurn}
use Rattle.slate_merge.specs.Heads.{head_cmp}
use Rattle.slate_merge.specs.Merging.{AnyByRecursion, left_rows, IsSoundHead, IsMerging, merging_bound}
use Rattle.slate_merge.specs.MergeSteps.{Falls, Joins}
use Rattle.slate_merge.proofs.Shuffles.{one_place_tail, one_place_shuffled, one_place_instead}
use Rattle.slate_merge.proofs.HeadLaws.{each_shuffled, takes_first, left_ended, left_more}

-- `next` of a source answered, in one world
pub record Gives {S : Type 0} (rest : S → List RowEntry) (sound : S → Type 0) (before : S) (answer : Option RowEntry) (after : S) : Type 0 where
  pub rows : sound before → TakesRow (rest before) answer (rest after)
  pub still : sound before → sound after

module _ {X : Type 0} (P : X → Type 0) where
  any_among : (xs : List X) → AllByRecursion (λ x. P x → AnyByRecursion P xs) xs
  any_among [] = tt
  any_among (x ∷ xs) = (λ h. inl h, weaker xs (any_among xs))
    where
      weaker : (ys : List X) → AllByRecursion (λ y. P y → AnyByRecursion P xs) ys → AllByRecursion (λ y. P y → AnyByRecursion P (x ∷ xs)) ys
      weaker [] h = tt
      weaker (y ∷ ys) h = (λ k. inr (h.0 k), weaker ys h.1)

  any_of : {Q : Type 0} (ys : List X) → AllByRecursion (λ y. P y → Q) ys → AnyByRecursion P ys → Q
  any_of [] h a = elim a [ ]
  any_of (y ∷ ys) h (inl k) = h.0 k
  any_of (y ∷ ys) h (inr k) = any_of ys h.1 k

  pub any_shuffled : (xs ys : List X) → IsPermutation xs ys → AnyByRecursion P ys → AnyByRecursion P xs
  any_shuffled xs ys p a = any_of ys (each_shuffled (λ y. P y → AnyByRecursion P xs) xs ys p (any_among xs)) a

pub joins_weaker : {S : Type 0} (goes other : S → Option RowEntry → S → Type 0) (source : S) (behind : ℕ) (order : IterationOrder) (old new : List (Head S)) → ((answer : Option RowEntry) (after : S) → goes source answer after → other source answer after)
    → Joins goes source behind order old new → Joins other source behind order old new
joins_weaker goes other source behind order old new f (inl j) = inl (j.0, f None j.0 j.1, j.2)
joins_weaker goes other source behind order old new f (inr j) = inr (j.0, j.1, f (Some j.0) j.1 j.2, j.3)

module _ {S : Type 0} (rest : S → List RowEntry) (sound : S → Type 0) where
  abbrev goes : S → Option RowEntry → S → Type 0
  goes = Gives rest sound

  -- the heads without the greatest
  pub without_first : (order : IterationOrder) (waiting : List S) (heads others : List (Head S)) (x : Head S) → IsPermutation heads (x ∷ others) → (IsHeap head_cmp heads → IsHeap head_cmp others)
      → IsMerging rest sound order waiting heads → IsMerging rest sound order waiting others
  without_first order waiting heads others x p keeps m = record {
    ready = m.ready;
    begun = (each_shuffled (IsSoundHead rest sound order) heads (x ∷ others) p m.begun).1;
    heap = keeps m.heap;
    placed = one_place_tail (λ h. h.behind) x others (one_place_shuffled (λ h. h.behind) heads (x ∷ others) p m.placed);
    ahead = (each_shuffled (λ h. length waiting ≤ h.behind) heads (x ∷ others) p m.ahead).1;
  }

  -- the greatest goes back with its next row, or its source has ended
  pub steps_still : (order : IterationOrder) (waiting : List S) (heads others new : List (Head S)) (x : Head S) → IsPermutation heads (x ∷ others) → (IsHeap head_cmp heads → IsHeap head_cmp others) → KeepsHeap head_cmp others new
      → Joins goes x.source x.behind x.order others new → IsMerging rest sound order waiting heads → IsMerging rest sound order waiting new
  steps_still order waiting heads others new x p keeps stays (inl j) m = subst (IsMerging rest sound order waiting) (sym j.2) (without_first order waiting heads others x p keeps m)
  steps_still order waiting heads others new x p keeps stays (inr j) m =
      let y : Head S = record { row = j.0; behind = x.behind; order = x.order; source = j.1 } in
      let all = each_shuffled (IsSoundHead rest sound order) heads (x ∷ others) p m.begun in
      let ahead = each_shuffled (λ h. length waiting ≤ h.behind) heads (x ∷ others) p m.ahead in
      let one = one_place_shuffled (λ h. h.behind) heads (x ∷ others) p m.placed in
      let turn : AreInTurn (row_before order) (j.0 ∷ rest j.1) = rw (j.2.rows all.0.0) at all.0.1.1 in
      record {
        ready = m.ready;
        begun = each_shuffled (IsSoundHead rest sound order) (y ∷ others) new j.3 ((j.2.still all.0.0, turn, all.0.2), all.1);
        heap = stays (keeps m.heap);
        placed = one_place_shuffled (λ h. h.behind) (y ∷ others) new j.3 (one_place_instead (λ h. h.behind) x y others refl one);
        ahead = each_shuffled (λ h. length waiting ≤ h.behind) (y ∷ others) new j.3 ahead;
      }

  pub steps_rows : (order : IterationOrder) (heads others new : List (Head S)) (x : Head S) → IsPermutation heads (x ∷ others) → (IsHeap head_cmp heads → IsUpperBound head_cmp x others)
      → Joins goes x.source x.behind x.order others new → IsMerging rest sound order [] heads → left_rows rest order [] heads ≡ x.row ∷ left_rows rest order [] new
  steps_rows order heads others new x p top (inl j) m =
      let all = each_shuffled (IsSoundHead rest sound order) heads (x ∷ others) p m.begun in
      let ended = left_ended rest order x others (j.1.rows all.0.0).0 in
      takes_first rest order sound heads others x m.placed m.begun p (top m.heap) ∙ ap (λ rows. x.row ∷ rows) (ended ∙ ap (left_rows rest order []) (sym j.2))
  steps_rows order heads others new x p top (inr j) m =
      let y : Head S = record { row = j.0; behind = x.behind; order = x.order; source = j.1 } in
      let all = each_shuffled (IsSoundHead rest sound order) heads (x ∷ others) p m.begun in
      let one = one_place_shuffled (λ h. h.behind) heads (x ∷ others) p m.placed in
      let more = left_more rest order x y others new (j.2.rows all.0.0) refl (one_place_instead (λ h. h.behind) x y others refl one) j.3 in
      takes_first rest order sound heads others x m.placed m.begun p (top m.heap) ∙ ap (λ rows. x.row ∷ rows) more

module _ {S : Type 0} (bound : S → ℕ) where
  abbrev weight : Head S → ℕ
  weight h = bound h.source + 1

  bound_of : (heads others : List (Head S)) (x : Head S) → IsPermutation heads (x ∷ others) → sum_by weight heads ≡ (bound x.source + 1) + sum_by weight others
  bound_of heads others x p = sym (sum_by-IsPermutation weight heads (x ∷ others) p) ∙ sum_by-cons weight x others

  pub bound_without : (waiting : List S) (heads others : List (Head S)) (x : Head S) → IsPermutation heads (x ∷ others) → merging_bound bound waiting others < merging_bound bound waiting heads
  bound_without waiting heads others x p = omega (arith, bound_of heads others x p)

  -- the bound falls; a source may have fallen already
  pub steps_smaller : (waiting : List S) (heads others new : List (Head S)) (x : Head S) (source : S) (behind : ℕ) (order : IterationOrder) → IsPermutation heads (x ∷ others) → bound source ≤ bound x.source
      → Joins (Falls bound) source behind order others new → merging_bound bound waiting new < merging_bound bound waiting heads
  steps_smaller waiting heads others new x source behind order p less (inl j) = subst (λ l. merging_bound bound waiting l < merging_bound bound waiting heads) (sym j.2) (bound_without waiting heads others x p)
  steps_smaller waiting heads others new x source behind order p less (inr j) =
      let y : Head S = record { row = j.0; behind = behind; order = order; source = j.1 } in
      let falls = j.2 refl in
      let new_is = sum_by-IsPermutation weight (y ∷ others) new j.3 ∙ sum_by-cons weight y others in
      omega (arith, bound_of heads others x p, new_is, falls, less)
