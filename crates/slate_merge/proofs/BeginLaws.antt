-- What the begin of a source does to a merge under way.
use Rattle.std.proofs.Common.{◌≡◌, ℕ, ◌+◌, ◌≤◌, false, List, [], ◌∷◌, length, map, refl, sym, ap, ◌∙◌, subst, inl, inr, arith, ◌==◌, Option}
use Rattle.std.specs.List.{AllByRecursion}
use Rattle.std.specs.BinaryHeap.{KeepsHeap}
use Rattle.std.proofs.lemmas.List.{length-map}
use Rattle.std.proofs.lemmas.List.Sorted.{sum_by-IsPermutation}
use Rattle.std.proofs.lemmas.List.Sums.{sum_by-cons}
use Rattle.std.proofs.lemmas.Bool.Decides.{nat_tests}
use Rattle.slate_types.specs.declared.types.RowEntry.{RowEntry}
use Rattle.slate_types.specs.declared.iter.IterationOrder.{IterationOrder}
use Rattle.slate_merge.specs.declared.head.Head.{Head}
use Rattle.slate_types.specs.RowTurns.{row_before, AreInTurn}
use Rattle.slate_merge.specs.Merge.{in_turn, put_all}
use Rattle.slate_merge.specs.Heads.{head_cmp}
use Rattle.slate_merge.specs.Merging.{placed, placed_all, placed_before, rows_in, left_rows, IsSoundHead, IsMerging, merging_bound}
use Rattle.slate_merge.specs.MergeSteps.{Falls, Joins}
use Rattle.slate_merge.specs.Turns.{put_all_append}
use Rattle.slate_merge.proofs.Shuffles.{gathered, Elsewhere, past, gathered_shuffled, one_place_more, one_place_shuffled}
use Rattle.slate_merge.proofs.HeadLaws.{each_shuffled, left_gathered, add, add_either}
use Rattle.slate_merge.proofs.StepLaws.{Gives}

not_here : (n m : ℕ) → n + 1 ≤ m → (m == n) ≡ false
not_here n m h = grind (arith, nat_tests)

module _ {S : Type 0} where
  elsewhere_ahead : (n : ℕ) (heads : List (Head S)) → AllByRecursion (λ h. n + 1 ≤ h.behind) heads → Elsewhere (λ h. h.behind) n heads
  elsewhere_ahead n [] h = tt
  elsewhere_ahead n (x ∷ heads) h = (not_here n x.behind h.0, elsewhere_ahead n heads h.1)

  still_ahead : (n : ℕ) (heads : List (Head S)) → AllByRecursion (λ h. n + 1 ≤ h.behind) heads → AllByRecursion (λ h. n ≤ h.behind) heads
  still_ahead n [] h = tt
  still_ahead n (x ∷ heads) h = (omega (arith, h.0), still_ahead n heads h.1)

  ahead_of : (source : S) (waiting : List S) (heads : List (Head S)) → AllByRecursion (λ h. length (source ∷ waiting) ≤ h.behind) heads → AllByRecursion (λ h. length waiting + 1 ≤ h.behind) heads
  ahead_of source waiting [] h = tt
  ahead_of source waiting (x ∷ heads) h = (omega (arith, h.0), ahead_of source waiting heads h.1)

module _ {S : Type 0} (rest : S → List RowEntry) (sound : S → Type 0) (order : IterationOrder) where
  abbrev goes : S → Option RowEntry → S → Type 0
  goes = Gives rest sound

  -- without the source
  pub dropped_still : (source : S) (waiting : List S) (heads : List (Head S)) → IsMerging rest sound order (source ∷ waiting) heads → IsMerging rest sound order waiting heads
  dropped_still source waiting heads m = record {
    ready = m.ready.1;
    begun = m.begun;
    heap = m.heap;
    placed = m.placed;
    ahead = still_ahead (length waiting) heads (ahead_of source waiting heads m.ahead);
  }

  pub begun_still : (source begun : S) (waiting : List S) (behind : ℕ) (heads new : List (Head S)) → (sound source → sound begun) → (sound source → rest begun ≡ rest source) → behind ≡ length waiting → KeepsHeap head_cmp heads new
      → Joins goes begun behind order heads new → IsMerging rest sound order (source ∷ waiting) heads → IsMerging rest sound order waiting new
  begun_still source begun waiting behind heads new same rows e keeps (inl j) m = subst (IsMerging rest sound order waiting) (sym j.2) (dropped_still source waiting heads m)
  begun_still source begun waiting behind heads new same rows e keeps (inr j) m =
      let y : Head S = record { row = j.0; behind = behind; order = order; source = j.1 } in
      let ahead = ahead_of source waiting heads m.ahead in
      let ok = same m.ready.0.0 in
      let whole : rest source ≡ j.0 ∷ rest j.1 = sym (rows m.ready.0.0) ∙ j.2.rows ok in
      let turn : AreInTurn (row_before order) (j.0 ∷ rest j.1) = subst (AreInTurn (row_before order)) whole m.ready.0.1 in
      let apart : Elsewhere (λ h. h.behind) behind heads = subst (λ n. Elsewhere (λ h. h.behind) n heads) (sym e) (elsewhere_ahead (length waiting) heads ahead) in
      record {
        ready = m.ready.1;
        begun = each_shuffled (IsSoundHead rest sound order) (y ∷ heads) new j.3 ((j.2.still ok, turn, refl), m.begun);
        heap = keeps m.heap;
        placed = one_place_shuffled (λ h. h.behind) (y ∷ heads) new j.3 (one_place_more (λ h. h.behind) y heads apart m.placed);
        ahead = each_shuffled (λ h. length waiting ≤ h.behind) (y ∷ heads) new j.3 (omega (arith, e), still_ahead (length waiting) heads ahead);
      }

  -- the rows of the first source that waits, and of the others
  waiting_first : (source : S) (waiting : List S) → in_turn (placed_before order) (placed_all (map rest (source ∷ waiting))) ≡ put_all (placed_before order) (placed (length waiting) (rest source)) (in_turn (placed_before order) (placed_all (map rest waiting)))
  waiting_first source waiting =
      put_all_append (placed_before order) (placed (length (map rest waiting)) (rest source)) (placed_all (map rest waiting)) []
      ∙ ap (λ n. put_all (placed_before order) (placed n (rest source)) (in_turn (placed_before order) (placed_all (map rest waiting)))) (length-map waiting rest)

  pub begun_rows : (source begun : S) (waiting : List S) (behind : ℕ) (heads new : List (Head S)) → (sound source → sound begun) → (sound source → rest begun ≡ rest source) → behind ≡ length waiting
      → Joins goes begun behind order heads new → IsMerging rest sound order (source ∷ waiting) heads → left_rows rest order waiting new ≡ left_rows rest order (source ∷ waiting) heads
  begun_rows source begun waiting behind heads new same rows e (inl j) m =
      let none : rest source ≡ [] = sym (rows m.ready.0.0) ∙ (j.1.rows (same m.ready.0.0)).0 in
      let first : in_turn (placed_before order) (placed_all (map rest (source ∷ waiting))) ≡ in_turn (placed_before order) (placed_all (map rest waiting)) =
      waiting_first source waiting ∙ ap (λ l. put_all (placed_before order) (placed (length waiting) l) (in_turn (placed_before order) (placed_all (map rest waiting)))) none in
      ap (left_rows rest order waiting) j.2
      ∙ ap rows_in (left_gathered rest order waiting heads ∙ ap (λ g. gathered (add rest order) g heads) (sym first) ∙ sym (left_gathered rest order (source ∷ waiting) heads))
  begun_rows source begun waiting behind heads new same rows e (inr j) m =
      let y : Head S = record { row = j.0; behind = behind; order = order; source = j.1 } in
      let whole : rest source ≡ j.0 ∷ rest j.1 = sym (rows m.ready.0.0) ∙ j.2.rows (same m.ready.0.0) in
      let g = in_turn (placed_before order) (placed_all (map rest waiting)) in
      let ahead = ahead_of source waiting heads m.ahead in
      let apart : Elsewhere (λ h. h.behind) behind heads = subst (λ n. Elsewhere (λ h. h.behind) n heads) (sym e) (elsewhere_ahead (length waiting) heads ahead) in
      let one = one_place_more (λ h. h.behind) y heads apart m.placed in
      let first : in_turn (placed_before order) (placed_all (map rest (source ∷ waiting))) ≡ add rest order y g =
      waiting_first source waiting ∙ (λ i. put_all (placed_before order) (placed (sym e i) (whole i)) g) in
      ap rows_in
      (left_gathered rest order waiting new
      ∙ sym (gathered_shuffled (λ h. h.behind) (add rest order) (add_either rest order) g (y ∷ heads) new one j.3)
      ∙ sym (past (λ h. h.behind) (add rest order) (add_either rest order) y heads g apart)
      ∙ ap (λ v. gathered (add rest order) v heads) (sym first)
      ∙ sym (left_gathered rest order (source ∷ waiting) heads))

module _ {S : Type 0} (bound : S → ℕ) where
  abbrev weight : Head S → ℕ
  weight h = bound h.source + 1

  pub dropped_bound : (source : S) (waiting : List S) (heads : List (Head S)) → merging_bound bound waiting heads ≤ merging_bound bound (source ∷ waiting) heads
  dropped_bound source waiting heads = omega (arith, sum_by-cons bound source waiting)

  pub begun_bound : (source begun : S) (waiting : List S) (behind : ℕ) (order : IterationOrder) (heads new : List (Head S)) → bound begun ≤ bound source → Joins (Falls bound) begun behind order heads new → merging_bound bound waiting new ≤ merging_bound bound (source ∷ waiting) heads
  begun_bound source begun waiting behind order heads new less (inl j) = subst (λ l. merging_bound bound waiting l ≤ merging_bound bound (source ∷ waiting) heads) (sym j.2) (dropped_bound source waiting heads)
  begun_bound source begun waiting behind order heads new less (inr j) =
      let y : Head S = record { row = j.0; behind = behind; order = order; source = j.1 } in
      let falls = j.2 refl in
      let new_is = sum_by-IsPermutation weight (y ∷ heads) new j.3 ∙ sum_by-cons weight y heads in
      omega (arith, sum_by-cons bound source waiting, new_is, falls, less)
