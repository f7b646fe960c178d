-- What a look at the first row says, and what a seek does to a merge under way.
use Rattle.std.proofs.Common.{◌≡◌, ℕ, ◌+◌, ◌-◌, ◌^◌, ◌≤◌, ◌<◌, min, Bool, true, false, not, List, [], ◌∷◌, ◌++◌, length, flat_map, filter, refl, sym, ap, ◌∙◌, subst, inl, inr, arith, Option, Some, None, IsPermutation, slice_index_or, append_assoc}
use Rattle.std.specs.Prelude.{bytes_eq}
use Rattle.std.specs.List.{AllByRecursion}
use Rattle.std.specs.BinaryHeap.{IsHeap, IsUpperBound, KeepsHeap}
use Rattle.std.proofs.lemmas.List.Sorted.{IsPermutation-refl}
use Rattle.std.proofs.lemmas.List.Elements.{filter-append}
use Rattle.slate_types.specs.declared.types.RowEntry.{RowEntry}
use Rattle.slate_types.specs.declared.iter.IterationOrder.{IterationOrder}
use Rattle.slate_types.specs.Iteration.{comes_before, drop_before, begins_before, IsInOrder}
use Rattle.slate_types.proofs.IterationLaws.{seek_filters}
use Rattle.slate_merge.specs.declared.head.Head.{Head}
use Rattle.slate_types.specs.RowTurns.{row_before, AreInTurn}
use Rattle.slate_merge.specs.Merge.{in_turn, with_key, past_key, begins_with, rows_bytes, row_bytes, counted}
use Rattle.slate_merge.specs.Heads.{head_cmp}
use Rattle.slate_merge.specs.Merging.{Placed, placed, placed_before, rows_in, head_placed, left_placed, left_rows, IsSoundHead, IsMerging, IsTop, has_key, is_before}
use Rattle.slate_merge.specs.MergeSteps.{Joins}
use Rattle.slate_merge.specs.Turns.{both, filter_in_turn}
use Rattle.slate_merge.specs.Rising.{left_in_turn}
use Rattle.slate_merge.proofs.Shuffles.{one_place_shuffled, one_place_instead}
use Rattle.slate_merge.specs.RowOrder.{placed_ranked, in_order_turn, dropped_in_turn, dropped_again}
use Rattle.slate_merge.proofs.HeadLaws.{each_shuffled, left_behind, takes_first, left_shuffled}
use Rattle.slate_merge.proofs.StepLaws.{Gives, without_first}

pub top_found : {S : Type 0} (heads : List (Head S)) (x : Head S) → 0 < length heads → x ≡ slice_index_or heads 0 x → (IsHeap head_cmp heads → IsUpperBound head_cmp x heads) → IsTop heads (Some x)
top_found [] x l e top = absurd (omega (arith, l))
top_found (y ∷ heads) x l e top = (heads, ap (λ z. z ∷ heads) (sym e), λ h. (top h).1)

-- the key's leading rows are gone
pub past_none : (key : List ℕ) (rows : List RowEntry) → begins_with key rows ≡ false → past_key key rows ≡ rows
past_none key [] e = refl
past_none key (r ∷ rows) e = rw e refl

pub with_none : (key : List ℕ) (rows : List RowEntry) → begins_with key rows ≡ false → with_key key rows ≡ []
with_none key [] e = refl
with_none key (r ∷ rows) e = rw e refl

pub past_one : (key : List ℕ) (r : RowEntry) (before after : List RowEntry) → before ≡ r ∷ after → begins_with key before ≡ true → past_key key after ≡ past_key key before
past_one key r before after e b =
    let first : bytes_eq key r.key ≡ true = rw e at b in
    rw (e, first) refl

pub counted_one : (n m : ℕ) (key : List ℕ) (r : RowEntry) (before after : List RowEntry) → before ≡ r ∷ after → begins_with key before ≡ true → m ≡ min (n + min (row_bytes r) (2 ^ 64 - 1)) (2 ^ 64 - 1)
    → counted m (with_key key after) ≡ counted n (with_key key before)
counted_one n m key r before after e b k =
    let first : bytes_eq key r.key ≡ true = rw e at b in
    let whole : with_key key before ≡ r ∷ with_key key after = rw (e, first) refl in
    let here : m ≡ min (n + row_bytes r) (2 ^ 64 - 1) = omega (arith, k) in
    ap (λ c. counted c (with_key key after)) here ∙ ap (counted n) (sym whole)

pub counted_end : (n m : ℕ) (key : List ℕ) (rows : List RowEntry) → begins_with key rows ≡ false → counted n (with_key key rows) ≡ m → n ≡ m
counted_end n m key rows e k = ap (counted n) (sym (with_none key rows e)) ∙ k

-- the law: the count is the sum, or the greatest number where the sum is greater
pub counted_is : (n : ℕ) (rows : List RowEntry) → n ≤ 2 ^ 64 - 1 → counted n rows ≡ min (n + rows_bytes rows) (2 ^ 64 - 1)
counted_is n [] h = omega (arith, h)
counted_is n (r ∷ rows) h =
    let more = counted_is (min (n + row_bytes r) (2 ^ 64 - 1)) rows (omega arith) in
    omega (arith, more)

module _ {S : Type 0} (rest : S → List RowEntry) (sound : S → Type 0) (order : IterationOrder) where
  first_is : (heads others : List (Head S)) (x : Head S) → IsMerging rest sound order [] heads → heads ≡ x ∷ others → (IsHeap head_cmp heads → IsUpperBound head_cmp x others) → left_rows rest order [] heads ≡ x.row ∷ left_behind rest order x others
  first_is heads others x m e top = takes_first rest order sound heads others x m.placed m.begun (subst (λ l. IsPermutation heads l) e (IsPermutation-refl heads)) (top m.heap)

  pub top_begins : (key : List ℕ) (heads : List (Head S)) (top : Option (Head S)) → IsMerging rest sound order [] heads → IsTop heads top → has_key key top ≡ begins_with key (left_rows rest order [] heads)
  top_begins key heads None m e = rw e refl
  top_begins key heads (Some x) m t = rw (first_is heads t.0 x m t.1 t.2) refl

  pub top_before : (key : List ℕ) (heads : List (Head S)) (top : Option (Head S)) → IsMerging rest sound order [] heads → IsTop heads top → is_before key top ≡ begins_before order key (left_rows rest order [] heads)
  top_before key heads None m e = rw e refl
  top_before key heads (Some x) m t =
      let each : AllByRecursion (IsSoundHead rest sound order) (x ∷ t.0) = subst (AllByRecursion (IsSoundHead rest sound order)) t.1 m.begun in
      rw (first_is heads t.0 x m t.1 t.2, each.0.2) refl

  -- the head that is popped is the one that was looked at
  pub popped_before : (key : List ℕ) (heads : List (Head S)) (x : Head S) (top : Option (Head S)) → IsMerging rest sound order [] heads → IsTop heads top → is_before key top ≡ true → x ≡ slice_index_or heads 0 x → comes_before order x.row.key key ≡ true
  popped_before key heads x None m t e same = cc
  popped_before key heads x (Some y) m t e same =
      let each : AllByRecursion (IsSoundHead rest sound order) (y ∷ t.0) = subst (AllByRecursion (IsSoundHead rest sound order)) t.1 m.begun in
      let is_y : x ≡ y = same ∙ ap (λ l. slice_index_or l 0 x) t.1 in
      ap (λ z. comes_before order z.row.key key) is_y ∙ ap (λ o. comes_before o y.row.key key) (sym each.0.2) ∙ e

  abbrev passes : List ℕ → RowEntry → Bool
  passes key r = not (comes_before order r.key key)

  abbrev placed_passes : List ℕ → Placed → Bool
  placed_passes key p = passes key p.row

  filter_rows : (key : List ℕ) (ps : List Placed) → filter (passes key) (rows_in ps) ≡ rows_in (filter (placed_passes key) ps)
  filter_rows key [] = refl
  filter_rows key (p ∷ ps) = elim (both (passes key p.row)) as (λ _. filter (passes key) (rows_in (p ∷ ps)) ≡ rows_in (filter (placed_passes key) (p ∷ ps))) [
    | inl e ↦ rw e (ap (λ l. p.row ∷ l) (filter_rows key ps))
    | inr e ↦ rw e (filter_rows key ps)
  ]

  filter_placed : (key : List ℕ) (n : ℕ) (rows : List RowEntry) → filter (placed_passes key) (placed n rows) ≡ placed n (filter (passes key) rows)
  filter_placed key n [] = refl
  filter_placed key n (r ∷ rows) = elim (both (passes key r)) as (λ _. filter (placed_passes key) (placed n (r ∷ rows)) ≡ placed n (filter (passes key) (r ∷ rows))) [
    | inl e ↦ rw e (ap (λ l. record { row = r; behind = n } ∷ l) (filter_placed key n rows))
    | inr e ↦ rw e (filter_placed key n rows)
  ]

  dropped_left : (key : List ℕ) (heads : List (Head S)) → drop_before order key (left_rows rest order [] heads) ≡ rows_in (in_turn (placed_before order) (filter (placed_passes key) (left_placed rest [] heads)))
  dropped_left key heads =
      seek_filters order key (left_rows rest order [] heads) (in_order_turn order _ (left_in_turn rest order [] heads))
      ∙ filter_rows key (in_turn (placed_before order) (left_placed rest [] heads))
      ∙ ap rows_in (filter_in_turn (placed_before order) (placed_ranked order) (placed_passes key) (left_placed rest [] heads))

  -- the rows of one head that a seek leaves, and those of the others
  dropped_split : (key : List ℕ) (x : Head S) (others : List (Head S))
      → drop_before order key (left_rows rest order [] (x ∷ others)) ≡ rows_in (in_turn (placed_before order) (placed x.behind (filter (passes key) (x.row ∷ rest x.source)) ++ filter (placed_passes key) (left_placed rest [] others)))
  dropped_split key x others =
      dropped_left key (x ∷ others)
      ∙ ap (λ l. rows_in (in_turn (placed_before order) l))
      (ap (filter (placed_passes key)) (append_assoc (head_placed rest x) (flat_map (head_placed rest) others) [])
      ∙ filter-append (placed_passes key) (head_placed rest x) (left_placed rest [] others)
      ∙ ap (λ l. l ++ filter (placed_passes key) (left_placed rest [] others)) (filter_placed key x.behind (x.row ∷ rest x.source)))

  own_left : (key : List ℕ) (x : Head S) (source : S) → comes_before order x.row.key key ≡ true → AreInTurn (row_before order) (x.row ∷ rest x.source) → rest source ≡ drop_before order key (rest x.source) → filter (passes key) (x.row ∷ rest x.source) ≡ rest source
  own_left key x source before turn e = sym (seek_filters order key (x.row ∷ rest x.source) (in_order_turn order (x.row ∷ rest x.source) turn)) ∙ rw before (sym e)

  sought_left : (key : List ℕ) (rows sought : List RowEntry) → AreInTurn (row_before order) rows → sought ≡ drop_before order key rows → filter (passes key) sought ≡ sought
  sought_left key rows sought turn e =
      let ordered : IsInOrder order sought = subst (IsInOrder order) (sym e) (in_order_turn order _ (dropped_in_turn order key rows turn)) in
      sym (seek_filters order key sought ordered) ∙ ap (drop_before order key) e ∙ dropped_again order key rows ∙ sym e

  abbrev goes : S → Option RowEntry → S → Type 0
  goes = Gives rest sound

  pub sought_still : (key : List ℕ) (heads others new : List (Head S)) (x : Head S) (source : S) → IsPermutation heads (x ∷ others) → (IsHeap head_cmp heads → IsHeap head_cmp others) → KeepsHeap head_cmp others new
      → (sound x.source → sound source) → (sound x.source → rest source ≡ drop_before order key (rest x.source)) → Joins goes source x.behind x.order others new → IsMerging rest sound order [] heads → IsMerging rest sound order [] new
  sought_still key heads others new x source p keeps stays same sought (inl j) m = subst (IsMerging rest sound order []) (sym j.2) (without_first rest sound order [] heads others x p keeps m)
  sought_still key heads others new x source p keeps stays same sought (inr j) m =
      let y : Head S = record { row = j.0; behind = x.behind; order = x.order; source = j.1 } in
      let all = each_shuffled (IsSoundHead rest sound order) heads (x ∷ others) p m.begun in
      let ahead = each_shuffled (λ h. 0 ≤ h.behind) heads (x ∷ others) p m.ahead in
      let one = one_place_shuffled (λ h. h.behind) heads (x ∷ others) p m.placed in
      let ok = same all.0.0 in
      let dropped : AreInTurn (row_before order) (rest source) = subst (AreInTurn (row_before order)) (sym (sought all.0.0)) (dropped_in_turn order key (rest x.source) all.0.1.1) in
      let turn : AreInTurn (row_before order) (j.0 ∷ rest j.1) = subst (AreInTurn (row_before order)) (j.2.rows ok) dropped in
      record {
        ready = m.ready;
        begun = each_shuffled (IsSoundHead rest sound order) (y ∷ others) new j.3 ((j.2.still ok, turn, all.0.2), all.1);
        heap = stays (keeps m.heap);
        placed = one_place_shuffled (λ h. h.behind) (y ∷ others) new j.3 (one_place_instead (λ h. h.behind) x y others refl one);
        ahead = each_shuffled (λ h. 0 ≤ h.behind) (y ∷ others) new j.3 ahead;
      }

  pub sought_rows : (key : List ℕ) (heads others new : List (Head S)) (x : Head S) (source : S) → IsPermutation heads (x ∷ others) → comes_before order x.row.key key ≡ true
      → (sound x.source → sound source) → (sound x.source → rest source ≡ drop_before order key (rest x.source)) → Joins goes source x.behind x.order others new → IsMerging rest sound order [] heads
      → drop_before order key (left_rows rest order [] new) ≡ drop_before order key (left_rows rest order [] heads)
  sought_rows key heads others new x source p before same sought (inl j) m =
      let all = each_shuffled (IsSoundHead rest sound order) heads (x ∷ others) p m.begun in
      let none : rest source ≡ [] = (j.1.rows (same all.0.0)).0 in
      let own = own_left key x source before all.0.1 (sought all.0.0) ∙ none in
      ap (λ hs. drop_before order key (left_rows rest order [] hs)) j.2
      ∙ dropped_left key others
      ∙ ap (λ rows. rows_in (in_turn (placed_before order) (placed x.behind rows ++ filter (placed_passes key) (left_placed rest [] others)))) (sym own)
      ∙ sym (dropped_split key x others)
      ∙ sym (ap (drop_before order key) (left_shuffled rest order [] heads (x ∷ others) m.placed p))
  sought_rows key heads others new x source p before same sought (inr j) m =
      let y : Head S = record { row = j.0; behind = x.behind; order = x.order; source = j.1 } in
      let all = each_shuffled (IsSoundHead rest sound order) heads (x ∷ others) p m.begun in
      let one = one_place_instead (λ h. h.behind) x y others refl (one_place_shuffled (λ h. h.behind) heads (x ∷ others) p m.placed) in
      let goes_on : rest source ≡ j.0 ∷ rest j.1 = j.2.rows (same all.0.0) in
      let own = own_left key x source before all.0.1 (sought all.0.0) in
      let other : filter (passes key) (j.0 ∷ rest j.1) ≡ rest source = subst (λ l. filter (passes key) l ≡ rest source) goes_on (sought_left key (rest x.source) (rest source) all.0.1.1 (sought all.0.0)) in
      sym (ap (drop_before order key) (left_shuffled rest order [] (y ∷ others) new one j.3))
      ∙ dropped_split key y others
      ∙ ap (λ rows. rows_in (in_turn (placed_before order) (placed x.behind rows ++ filter (placed_passes key) (left_placed rest [] others)))) (other ∙ sym own)
      ∙ sym (dropped_split key x others)
      ∙ sym (ap (drop_before order key) (left_shuffled rest order [] heads (x ∷ others) m.placed p))
