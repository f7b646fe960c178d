-- Heads that are a heap of one order.
use Rattle.std.proofs.Common.{◌≡◌, ◌⊎◌, inl, inr, ℕ, ◌≤◌, ◌&&◌, not, Bool, true, false, List, [], ◌∷◌, ◌++◌, refl, sym, subst, ◌∙◌, arith, Option, IsPermutation, Ordering, Less, Equal, Greater}
use Rattle.std.specs.Prelude.{nat_le}
use Rattle.std.specs.List.{AllByRecursion}
use Rattle.std.specs.BinaryHeap.{IsHeap, IsUpperBound, KeepsHeap}
use Rattle.std.specs.Ordering.{is_lt, nat_cmp, ordering_then}
use Rattle.std.proofs.lemmas.Bool.Decides.{nat_tests}
use Rattle.std.proofs.lemmas.Slice.Eq.{bytes_eq-Decides}
use Rattle.slate_types.specs.declared.iter.IterationOrder.{IterationOrder}
use Rattle.slate_types.specs.declared.types.RowEntry.{RowEntry}
use Rattle.slate_types.specs.RowTurns.{row_before, row_cmp}
use Rattle.slate_types.specs.Rows.{is_base, is_operand}
use Rattle.slate_merge.specs.declared.head.Head.{Head}
use Rattle.slate_merge.specs.Heads.{head_cmp}
use Rattle.slate_merge.specs.Merging.{AreHeaped, HasRow, Placed, placed_before}
use Rattle.slate_merge.specs.MergeSteps.{Joins}
use Rattle.slate_merge.specs.Offers.{IsAbove}
use Rattle.slate_merge.proofs.FoldedTurns.{not_greater}
use Rattle.slate_merge.proofs.HeadLaws.{each_shuffled, head_before, head_place}
use Rattle.slate_merge.proofs.RenewLaws.{moved_in, moved_out}
use Rattle.slate_merge.proofs.StepLaws.{any_shuffled}

-- ---- a row that is above another

upto : (m n : ℕ) → nat_le m n ≡ true → m ≤ n
upto m n h = grind (arith, nat_tests, h)

-- none in turn is
pub not_above : {A : Type 0} (order : IterationOrder) (q r : RowEntry) → row_before order r q ≡ false → IsAbove q r → A
not_above order q r turn above =
    let same : r.key ≡ q.key = sym ((bytes_eq-Decides q.key r.key).0 above.same_key) in
    let less = upto r.seq q.seq (not_greater order q r same turn) in
    absurd (omega (arith, less, above.greater))

-- nothing is above a row that is no operand
pub base_above : {A : Type 0} (dedup : Bool) (q r : RowEntry) → (dedup && is_base q) ≡ true → IsAbove q r → A
base_above {A} dedup q r decides above = by dedup (is_operand q) above.operand decides
  where
    by : (d b : Bool) → b ≡ true → (d && not b) ≡ true → A
    by true true is other = cc
    by false true is other = cc
    by true false is other = cc
    by false false is other = cc

-- ---- heads in a heap

row_first : (o p : Ordering) → is_lt (ordering_then o p) ≡ false → is_lt o ≡ false
row_first Less p h = h
row_first Equal p h = refl
row_first Greater p h = refl

place_first : (order : IterationOrder) (p q : Placed) → placed_before order p q ≡ false → row_before order p.row q.row ≡ false
place_first order p q h = row_first (row_cmp order p.row q.row) (nat_cmp q.behind p.behind) h

module _ {S : Type 0} (order : IterationOrder) where
  -- no other head is above the first
  pub none_above : {A : Type 0} (x : Head S) (others : List (Head S)) → x.order ≡ order → IsUpperBound head_cmp x others → AllByRecursion (λ h. h.order ≡ order) others → (r : RowEntry) → HasRow others r → IsAbove x.row r → A
  none_above x [] same top all r has above = absurd has
  none_above x (h ∷ others) same top all r (inl is) above =
      not_above order x.row h.row (place_first order (head_place h) (head_place x) (sym (head_before order x h same all.0) ∙ top.0)) (subst (λ (p : RowEntry). IsAbove x.row p) (sym is) above)
  none_above x (h ∷ others) same top all r (inr has) above = none_above x others same top.1 all.1 r has above

  abbrev pub AreOrdered : List (Head S) → Type 0
  AreOrdered heads = AllByRecursion (λ h. h.order ≡ order) heads

  -- the heads without the first
  pub heaped_out : (heads others : List (Head S)) (x : Head S) → IsPermutation heads (x ∷ others) → (IsHeap head_cmp heads → IsHeap head_cmp others) → AreHeaped order heads → (x.order ≡ order) × AreHeaped order others
  heaped_out heads others x p keeps h =
      let all = each_shuffled (λ (y : Head S). y.order ≡ order) heads (x ∷ others) p h.ordered in
      (all.0, record { heap = keeps h.heap; ordered = all.1 })

  -- and with one more
  pub heaped_joins : (goes : S → Option RowEntry → S → Type 0) (source : S) (behind : ℕ) (own : IterationOrder) (others new : List (Head S)) → KeepsHeap head_cmp others new → Joins goes source behind own others new → own ≡ order → AreHeaped order others → AreHeaped order new
  heaped_joins goes source behind own others new stays (inl j) same h = subst (λ (l : List (Head S)). AreHeaped order l) (sym j.2) h
  heaped_joins goes source behind own others new stays (inr j) same h =
      let y : Head S = record { row = j.0; behind = behind; order = own; source = j.1 } in
      record { heap = stays h.heap; ordered = each_shuffled (λ (z : Head S). z.order ≡ order) (y ∷ others) new j.3 (same, h.ordered) }

  pub heaped_on : (goes : S → Option RowEntry → S → Type 0) (source : S) (heads others new : List (Head S)) (x : Head S) → IsPermutation heads (x ∷ others) → (IsHeap head_cmp heads → IsHeap head_cmp others) → KeepsHeap head_cmp others new → Joins goes source x.behind x.order others new → AreHeaped order heads → AreHeaped order new
  heaped_on goes source heads others new x p keeps stays j h =
      let out = heaped_out heads others x p keeps h in
      heaped_joins goes source x.behind x.order others new stays j out.0 out.1

  -- a head that begins again
  pub ordered_again : (done left others new : List (Head S)) (x : Head S) (source : S) → IsPermutation left (x ∷ others) → IsPermutation (record { row = x.row; behind = x.behind; order = x.order; source = source } ∷ done) new → AreOrdered (done ++ left) → AreOrdered (new ++ others)
  ordered_again done left others new x source out within h =
      let y : Head S = record { row = x.row; behind = x.behind; order = x.order; source = source } in
      let all = each_shuffled (λ (z : Head S). z.order ≡ order) (done ++ left) (x ∷ (done ++ others)) (moved_out done left others x out) h in
      each_shuffled (λ (z : Head S). z.order ≡ order) (y ∷ (done ++ others)) (new ++ others) (moved_in done new others y within) (all.0, all.1)

pub rows_again : {S : Type 0} (done left others new : List (Head S)) (x : Head S) (source : S) → IsPermutation left (x ∷ others) → IsPermutation (record { row = x.row; behind = x.behind; order = x.order; source = source } ∷ done) new → (r : RowEntry) → HasRow (new ++ others) r → HasRow (done ++ left) r
rows_again {S} done left others new x source out within r has =
    let y : Head S = record { row = x.row; behind = x.behind; order = x.order; source = source } in
    let shuffled : HasRow (y ∷ (done ++ others)) r = any_shuffled (λ (h : Head S). h.row ≡ r) (y ∷ (done ++ others)) (new ++ others) (moved_in done new others y within) has in
    any_shuffled (λ (h : Head S). h.row ≡ r) (done ++ left) (x ∷ (done ++ others)) (moved_out done left others x out) shuffled
