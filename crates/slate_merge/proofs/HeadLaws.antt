-- What a heap of heads gives.
use Rattle.std.proofs.Common.{◌≡◌, ℕ, false, List, [], ◌∷◌, map, flat_map, refl, sym, ap, ◌∙◌, ◌==◌, Ordering, Less, Equal, Greater, append_assoc}
use Rattle.std.specs.List.{AllByRecursion}
use Rattle.std.specs.List.Sorted.{IsPermutation}
use Rattle.std.specs.BinaryHeap.{IsUpperBound}
use Rattle.std.specs.Ordering.{is_lt, nat_cmp, ordering_then}
use Rattle.std.proofs.lemmas.List.Sorted.{All-permutation}
use Rattle.std.proofs.lemmas.List.Elements.{All-from_recursion, recursion_from_All}
use Rattle.slate_types.specs.declared.types.RowEntry.{RowEntry}
use Rattle.slate_types.specs.declared.iter.IterationOrder.{IterationOrder}
use Rattle.slate_types.specs.declared.iter.IterationOrder.TheVariants.{Ascending, Descending}
use Rattle.slate_types.specs.Keys.{key_cmp}
use Rattle.slate_merge.specs.declared.head.Head.{Head}
use Rattle.slate_types.specs.RowTurns.{NoneEarlier}
use Rattle.slate_merge.specs.Merge.{in_turn, put_all}
use Rattle.slate_merge.specs.Heads.{head_cmp}
use Rattle.slate_merge.specs.Merging.{Placed, placed_before, placed, placed_all, rows_in, ArePlaced, head_placed, left_placed, left_rows, IsSoundHead}
use Rattle.slate_merge.specs.Turns.{put_first, put_all_append, none_earlier_put_all, none_earlier_chain}
use Rattle.slate_merge.proofs.Shuffles.{gathered, gathered_shuffled}
use Rattle.slate_merge.specs.RowOrder.{placed_ranked, all_past_all, placed_behind}

pub each_shuffled : {X : Type 0} (P : X → Type 0) (xs ys : List X) → IsPermutation xs ys → AllByRecursion P xs → AllByRecursion P ys
each_shuffled P xs ys p h = recursion_from_All P ys (All-permutation P xs ys p (All-from_recursion P xs h))

-- the order of heads of one order is that of their rows with their places
then_assoc : (o p q : Ordering) → is_lt (ordering_then o (ordering_then p q)) ≡ is_lt (ordering_then (ordering_then o p) q)
then_assoc Less p q = refl
then_assoc Equal p q = refl
then_assoc Greater p q = refl

module _ {S : Type 0} where
  abbrev pub head_place : Head S → Placed
  head_place h = record { row = h.row; behind = h.behind }

  pub head_before : (order : IterationOrder) (x y : Head S) → x.order ≡ order → y.order ≡ order → is_lt (head_cmp x y) ≡ placed_before order (head_place y) (head_place x)
  head_before Ascending x y p q = rw (p, q) (then_assoc (key_cmp y.row.key x.row.key) (nat_cmp x.row.seq y.row.seq) (nat_cmp x.behind y.behind))
  head_before Descending x y p q = rw (p, q) (then_assoc (key_cmp x.row.key y.row.key) (nat_cmp x.row.seq y.row.seq) (nat_cmp x.behind y.behind))

module _ {S : Type 0} (rest : S → List RowEntry) (order : IterationOrder) where
  abbrev pub add : Head S → List Placed → List Placed
  add h g = put_all (placed_before order) (head_placed rest h) g

  abbrev pub behind_of : Head S → ℕ
  behind_of h = h.behind

  pub left_gathered : (waiting : List S) (heads : List (Head S)) → in_turn (placed_before order) (left_placed rest waiting heads) ≡ gathered add (in_turn (placed_before order) (placed_all (map rest waiting))) heads
  left_gathered waiting [] = refl
  left_gathered waiting (h ∷ heads) =
      ap (in_turn (placed_before order)) (append_assoc (head_placed rest h) (flat_map (head_placed rest) heads) (placed_all (map rest waiting)))
      ∙ put_all_append (placed_before order) (head_placed rest h) (left_placed rest waiting heads) []
      ∙ ap (add h) (left_gathered waiting heads)

  pub add_either : (x y : Head S) (g : List Placed) → (y.behind == x.behind) ≡ false → add x (add y g) ≡ add y (add x g)
  add_either x y g e = all_past_all order x.behind y.behind (x.row ∷ rest x.source) (y.row ∷ rest y.source) g e

  -- the order in which a heap stores its heads doesn't matter
  pub left_shuffled : (waiting : List S) (heads others : List (Head S)) → ArePlaced heads → IsPermutation heads others → left_rows rest order waiting heads ≡ left_rows rest order waiting others
  left_shuffled waiting heads others one p =
      ap rows_in (left_gathered waiting heads ∙ gathered_shuffled behind_of add add_either _ heads others one p ∙ sym (left_gathered waiting others))

  -- no row of a head stands before x, where its first doesn't
  none_in_head : (sound : S → Type 0) (x h : Head S) → x.order ≡ order → is_lt (head_cmp x h) ≡ false → IsSoundHead rest sound order h → NoneEarlier (placed_before order) (head_place x) (head_placed rest h)
  none_in_head sound x h same e k =
      let first : placed_before order (head_place h) (head_place x) ≡ false = sym (head_before order x h same k.2) ∙ e in
      (first, none_earlier_chain (placed_before order) (placed_ranked order) (head_place x) (head_place h) (placed h.behind (rest h.source)) first (placed_behind order h.behind h.row (rest h.source) k.1.0))

  none_in_heads : (sound : S → Type 0) (x : Head S) (heads : List (Head S)) → x.order ≡ order → IsUpperBound head_cmp x heads → AllByRecursion (IsSoundHead rest sound order) heads
      → NoneEarlier (placed_before order) (head_place x) (gathered add [] heads)
  none_in_heads sound x [] same e k = tt
  none_in_heads sound x (h ∷ heads) same e k =
      none_earlier_put_all (placed_before order) (head_place x) (head_placed rest h) (gathered add [] heads) (none_in_head sound x h same e.0 k.0) (none_in_heads sound x heads same e.1 k.1)

  -- the rows without that of x, where x is the greatest head
  pub left_behind : Head S → List (Head S) → List RowEntry
  left_behind x others = rows_in (put_all (placed_before order) (placed x.behind (rest x.source)) (gathered add [] others))

  pub takes_first : (sound : S → Type 0) (heads others : List (Head S)) (x : Head S) → ArePlaced heads → AllByRecursion (IsSoundHead rest sound order) heads → IsPermutation heads (x ∷ others) → IsUpperBound head_cmp x others
      → left_rows rest order [] heads ≡ x.row ∷ left_behind x others
  unfolding left_behind
  takes_first sound heads others x one each p top =
      let all = each_shuffled (IsSoundHead rest sound order) heads (x ∷ others) p each in
      let none = none_earlier_put_all (placed_before order) (head_place x) (placed x.behind (rest x.source)) (gathered add [] others) (placed_behind order x.behind x.row (rest x.source) all.0.1.0) (none_in_heads sound x others all.0.2 top all.1) in
      left_shuffled [] heads (x ∷ others) one p
      ∙ ap rows_in (left_gathered [] (x ∷ others) ∙ put_first (placed_before order) (head_place x) (put_all (placed_before order) (placed x.behind (rest x.source)) (gathered add [] others)) none)

  -- where the source of x has ended
  pub left_ended : (x : Head S) (others : List (Head S)) → rest x.source ≡ [] → left_behind x others ≡ left_rows rest order [] others
  unfolding left_behind
  left_ended x others e = ap (λ rows. rows_in (put_all (placed_before order) (placed x.behind rows) (gathered add [] others))) e ∙ ap rows_in (sym (left_gathered [] others))

  -- where it goes on
  pub left_more : (x y : Head S) (others heads : List (Head S)) → rest x.source ≡ y.row ∷ rest y.source → x.behind ≡ y.behind → ArePlaced (y ∷ others) → IsPermutation (y ∷ others) heads → left_behind x others ≡ left_rows rest order [] heads
  unfolding left_behind
  left_more x y others heads e same one p =
      (λ i. rows_in (put_all (placed_before order) (placed (same i) (e i)) (gathered add [] others)))
      ∙ ap rows_in (sym (left_gathered [] (y ∷ others)))
      ∙ left_shuffled [] (y ∷ others) heads one p
