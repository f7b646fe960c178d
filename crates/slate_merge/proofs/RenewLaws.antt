-- What the second begin of a head does to a merge under way.
use Rattle.std.proofs.Common.{◌≡◌, ℕ, ◌+◌, ◌≤◌, List, [], ◌∷◌, ◌++◌, map, sym, ap, ◌∙◌, subst, arith, IsPermutation, append-nil}
use Rattle.std.specs.List.{AllByRecursion}
use Rattle.std.proofs.lemmas.List.Sorted.{sum_by-IsPermutation, IsPermutation-append_left, IsPermutation-append_right, IsPermutation-trans, IsPermutation-middle}
use Rattle.std.proofs.lemmas.List.Sums.{sum_by-cons}
use Rattle.slate_types.specs.declared.types.RowEntry.{RowEntry}
use Rattle.slate_types.specs.declared.iter.IterationOrder.{IterationOrder}
use Rattle.slate_merge.specs.declared.head.Head.{Head}
use Rattle.slate_types.specs.RowTurns.{row_before, AreInTurn}
use Rattle.slate_merge.specs.Merge.{put_all, in_turn}
use Rattle.slate_merge.specs.Merging.{ArePlaced, placed, placed_all, placed_before, rows_in, left_rows, IsSoundHead, merging_bound}
use Rattle.slate_merge.proofs.Shuffles.{gathered, one_place_shuffled, one_place_instead}
use Rattle.slate_merge.proofs.HeadLaws.{each_shuffled, left_gathered, left_shuffled, add}

-- x goes from those that are left to those that are done
pub moved_out : {X : Type 0} (done left others : List X) (x : X) → IsPermutation left (x ∷ others) → IsPermutation (done ++ left) (x ∷ (done ++ others))
moved_out done left others x p = IsPermutation-trans _ _ _ (IsPermutation-append_right done _ _ p) (IsPermutation-middle done x others)

pub moved_in : {X : Type 0} (done new others : List X) (y : X) → IsPermutation (y ∷ done) new → IsPermutation (y ∷ (done ++ others)) (new ++ others)
moved_in done new others y p = IsPermutation-append_left others _ _ p

-- a source was begun again, in one world
pub record Renewed {S : Type 0} (rest : S → List RowEntry) (sound : S → Type 0) (order_of : S → IterationOrder) (before after : S) : Type 0 where
  pub rows : sound before → rest after ≡ rest before
  pub still : sound before → sound after
  pub order : order_of after ≡ order_of before

module _ {S : Type 0} (rest : S → List RowEntry) (sound : S → Type 0) (order_of : S → IterationOrder)
    (done left others new : List (Head S)) (x y : Head S) (out : IsPermutation left (x ∷ others)) (within : IsPermutation (y ∷ done) new) (renews : Renewed rest sound order_of x.source y.source) where
  module _ (order : IterationOrder) (same_row : y.row ≡ x.row) (same_behind : y.behind ≡ x.behind) (same_order : y.order ≡ x.order) where
    abbrev ordered : S → Type 0
    ordered t = sound t × (order_of t ≡ order)

    renewed_sound : IsSoundHead rest ordered order x → IsSoundHead rest ordered order y
    renewed_sound h = (
      (renews.still h.0.0, renews.order ∙ h.0.1),
      subst (AreInTurn (row_before order)) (λ i. sym same_row i ∷ sym (renews.rows h.0.0) i) h.1,
      same_order ∙ h.2,
    )

    pub renewed_begun : AllByRecursion (IsSoundHead rest ordered order) (done ++ left) → AllByRecursion (IsSoundHead rest ordered order) (new ++ others)
    renewed_begun h =
        let all = each_shuffled (IsSoundHead rest ordered order) (done ++ left) (x ∷ (done ++ others)) (moved_out done left others x out) h in
        each_shuffled (IsSoundHead rest ordered order) (y ∷ (done ++ others)) (new ++ others) (moved_in done new others y within) (renewed_sound all.0, all.1)

    pub renewed_placed : ArePlaced (done ++ left) → ArePlaced (new ++ others)
    renewed_placed h =
        let one = one_place_shuffled (λ z. z.behind) (done ++ left) (x ∷ (done ++ others)) (moved_out done left others x out) h in
        one_place_shuffled (λ z. z.behind) (y ∷ (done ++ others)) (new ++ others) (moved_in done new others y within) (one_place_instead (λ z. z.behind) x y (done ++ others) (sym same_behind) one)

    pub renewed_ahead : (n : ℕ) → AllByRecursion (λ z. n ≤ z.behind) (done ++ left) → AllByRecursion (λ z. n ≤ z.behind) (new ++ others)
    renewed_ahead n h =
        let all = each_shuffled (λ z. n ≤ z.behind) (done ++ left) (x ∷ (done ++ others)) (moved_out done left others x out) h in
        each_shuffled (λ z. n ≤ z.behind) (y ∷ (done ++ others)) (new ++ others) (moved_in done new others y within) (omega (arith, all.0, same_behind), all.1)

    pub renewed_rows : (waiting : List S) → ArePlaced (done ++ left) → AllByRecursion (IsSoundHead rest ordered order) (done ++ left) → left_rows rest order waiting (new ++ others) ≡ left_rows rest order waiting (done ++ left)
    renewed_rows waiting h k =
        let all = each_shuffled (IsSoundHead rest ordered order) (done ++ left) (x ∷ (done ++ others)) (moved_out done left others x out) k in
        let one = one_place_shuffled (λ z. z.behind) (done ++ left) (x ∷ (done ++ others)) (moved_out done left others x out) h in
        let two = one_place_instead (λ z. z.behind) x y (done ++ others) (sym same_behind) one in
        let same : left_rows rest order waiting (y ∷ (done ++ others)) ≡ left_rows rest order waiting (x ∷ (done ++ others)) =
        ap rows_in (left_gathered rest order waiting (y ∷ (done ++ others)))
        ∙ (λ i. rows_in (put_all (placed_before order) (placed (same_behind i) (same_row i ∷ renews.rows all.0.0.0 i)) (gathered (add rest order) (in_turn (placed_before order) (placed_all (map rest waiting))) (done ++ others))))
        ∙ sym (ap rows_in (left_gathered rest order waiting (x ∷ (done ++ others)))) in
        sym (left_shuffled rest order waiting (y ∷ (done ++ others)) (new ++ others) two (moved_in done new others y within)) ∙ same ∙ sym (left_shuffled rest order waiting (done ++ left) (x ∷ (done ++ others)) h (moved_out done left others x out))

module _ {S : Type 0} (bound : S → ℕ) (done left others new : List (Head S)) (x y : Head S) (out : IsPermutation left (x ∷ others)) (within : IsPermutation (y ∷ done) new) (no_larger : bound y.source ≤ bound x.source) where
  abbrev weight : Head S → ℕ
  weight z = bound z.source + 1

  pub renewed_bound : (waiting : List S) → merging_bound bound waiting (new ++ others) ≤ merging_bound bound waiting (done ++ left)
  renewed_bound waiting =
      let a = sum_by-IsPermutation weight (done ++ left) (x ∷ (done ++ others)) (moved_out done left others x out) in
      let b = sum_by-IsPermutation weight (y ∷ (done ++ others)) (new ++ others) (moved_in done new others y within) in
      omega (arith, a, b, sum_by-cons weight x (done ++ others), sum_by-cons weight y (done ++ others), no_larger)

-- where none is left, all are done
pub all_done : {S : Type 0} (done left : List (Head S)) → left ≡ [] → done ++ left ≡ done
all_done done left e = ap (λ l. done ++ l) e ∙ append-nil done
