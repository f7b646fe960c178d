-- A merge under way: sources that wait, and sources with their first rows.
--     Placed      a row with the number of lists that stand behind its own
--     placed_before order p q, placed n rows, rows_in ps      p stands before q; the rows of a list that has so many behind it; and the rows of
--                                                             placed ones
--     placed_cmp order p q      by key in the order, falling sequence, and the list's place
--     placed_all lists      the rows of all lists
--     placed_rows order ps      the rows by key in the order, falling sequence, and the list's place
--     Sources S      sources that wait, and those that have begun, with their first rows
--     AnyByRecursion P xs      P holds of one of the elements
--     left_rows rest order waiting heads      the rows of the sources in turn
--     head_placed rest h, left_placed rest waiting heads      a head's row and the rest of its source, placed; and what all have left
--     ArePlaced heads      no two heads have a place
--     CanMerge rest sound order s, IsSoundHead rest sound order h      a source, or a head, is sound, and its rows are in turn
--     IsMerging rest sound order waiting heads      each source is sound and in turn, the heads are a heap, and no two have a place
--     merging_bound bound waiting heads      no more rows than these are left
--     IsBlamed refuses waiting heads e      a source refuses for it
--     either_refusal refuses at s e      a source refuses for it in a seek to a key, or in a call without one
--     IsFront answer heads, IsTop heads top      the answer is the row of the first head; it is the greatest head; or there is none
--     AreHeaped order heads      they are a heap, each of this order
--     HasRow heads r      the row is that of a head
--     has_key key top, is_before key top      this head has the key, or stands before it
--     waiting_sources waiting, begun_sources heads      sources that all wait, and such as have all begun
--     left_in, IsMergingIn, blames      what sources are together as an iterator: their rest, whether it is sound, what they refuse
--     AreWithin within x paths      each source reads objects at these paths alone
--     AreReady refuses m heads      no source refuses for want of an `init`
use Rattle.std.specs.Prelude.{ℕ, ◌≡◌, ◌+◌, ◌≤◌, ◌⊎◌, ◌==◌, Bool, cond, List, [], ◌∷◌, ◌++◌, length, map, flat_map, sum_by, Option, Some, None, false, bytes_eq}
use Rattle.std.specs.List.{AllByRecursion}
use Rattle.std.specs.BinaryHeap.{IsHeap, IsUpperBound}
use Rattle.std.specs.declared.cmp.Ordering.{Ordering}
use Rattle.std.specs.Ordering.{is_lt, nat_cmp, on, flip_args, then_cmp}
use Rattle.slate_types.specs.declared.error.SlateDBError.{SlateDBError}
use Rattle.slate_types.specs.declared.types.RowEntry.{RowEntry}
use Rattle.slate_types.specs.declared.iter.IterationOrder.{IterationOrder}
use Rattle.slate_types.specs.Iteration.{comes_before}
use Rattle.slate_types.specs.Outside.{Act, Meaning}
use Rattle.slate_types.specs.Refusing.{IsReady}
use Rattle.slate_types.specs.World.{World}
use Rattle.slate_merge.specs.declared.head.Head.{Head}
use Rattle.slate_types.specs.RowTurns.{row_cmp, row_before, AreInTurn}
use Rattle.slate_merge.specs.Merge.{in_turn}
use Rattle.slate_merge.specs.Heads.{head_cmp}

-- those that wait, and those that have begun, with their first rows
pub record Sources (S : Type 0) : Type 0 where
  pub waiting : List S
  pub heads : List (Head S)

pub record Placed : Type 0 where
  pub row : RowEntry
  pub behind : ℕ

abbrev pub placed_cmp : IterationOrder → Placed → Placed → Ordering
placed_cmp order = then_cmp (on (λ p. p.row) (row_cmp order)) (flip_args (on (λ p. p.behind) nat_cmp))

abbrev pub placed_before : IterationOrder → Placed → Placed → Bool
placed_before order p q = is_lt (placed_cmp order p q)

abbrev pub placed : ℕ → List RowEntry → List Placed
placed n [] = []
placed n (r ∷ rows) = record { row = r; behind = n } ∷ placed n rows

abbrev pub placed_all : List (List RowEntry) → List Placed
placed_all [] = []
placed_all (rows ∷ lists) = placed (length lists) rows ++ placed_all lists

abbrev pub rows_in : List Placed → List RowEntry
rows_in ps = map (λ p. p.row) ps

-- all rows by key in the order, falling sequence, and the list's place
abbrev pub placed_rows : IterationOrder → List Placed → List RowEntry
placed_rows order ps = rows_in (in_turn (placed_before order) ps)

abbrev pub AnyByRecursion : {X : Type 0} → (X → Type 0) → List X → Type 0
AnyByRecursion P [] = ⊥
AnyByRecursion P (x ∷ xs) = P x ⊎ AnyByRecursion P xs

module _ {S : Type 0} where
  -- no two heads have a place
  abbrev pub ArePlaced : List (Head S) → Type 0
  ArePlaced heads = (n : ℕ) → sum_by (λ h. cond (h.behind == n) 1 0) heads ≤ 1

  module _ (rest : S → List RowEntry) where
    abbrev pub head_placed : Head S → List Placed
    head_placed h = placed h.behind (h.row ∷ rest h.source)

    abbrev pub left_placed : List S → List (Head S) → List Placed
    left_placed waiting heads = flat_map head_placed heads ++ placed_all (map rest waiting)

    abbrev pub left_rows : IterationOrder → List S → List (Head S) → List RowEntry
    left_rows order waiting heads = placed_rows order (left_placed waiting heads)

    -- what a source must be to be merged
    abbrev pub CanMerge : (S → Type 0) → IterationOrder → S → Type 0
    CanMerge sound order s = sound s × AreInTurn (row_before order) (rest s)

    abbrev pub IsSoundHead : (S → Type 0) → IterationOrder → Head S → Type 0
    IsSoundHead sound order h = sound h.source × AreInTurn (row_before order) (h.row ∷ rest h.source) × (h.order ≡ order)

    pub record IsMerging (sound : S → Type 0) (order : IterationOrder) (waiting : List S) (heads : List (Head S)) : Type 0 where
      pub ready : AllByRecursion (CanMerge sound order) waiting
      pub begun : AllByRecursion (IsSoundHead sound order) heads
      pub heap : IsHeap head_cmp heads
      pub placed : ArePlaced heads
      pub ahead : AllByRecursion (λ h. length waiting ≤ h.behind) heads

  abbrev pub merging_bound : (S → ℕ) → List S → List (Head S) → ℕ
  merging_bound bound waiting heads = sum_by bound waiting + sum_by (λ h. bound h.source + 1) heads

  abbrev pub IsBlamed : (S → SlateDBError → Type 0) → List S → List (Head S) → SlateDBError → Type 0
  IsBlamed refuses waiting heads e = AnyByRecursion (λ s. refuses s e) waiting ⊎ AnyByRecursion (λ h. refuses h.source e) heads

  -- what a call may be blamed on: a refusal of a seek to a key, or of the calls without one
  abbrev pub either_refusal : (S → Option (List ℕ) → SlateDBError → Type 0) → Option (List ℕ) → S → SlateDBError → Type 0
  either_refusal refuses at s e = refuses s at e ⊎ refuses s None e

  -- the answer is the row of the first head, or there is none
  abbrev pub IsFront : Option RowEntry → List (Head S) → Type 0
  IsFront None heads = heads ≡ []
  IsFront (Some row) [] = ⊥
  IsFront (Some row) (h ∷ heads) = h.row ≡ row

  -- the greatest head, where there is one
  abbrev pub IsTop : List (Head S) → Option (Head S) → Type 0
  IsTop heads None = heads ≡ []
  IsTop heads (Some x) = (others : List (Head S)) × (heads ≡ x ∷ others) × (IsHeap head_cmp heads → IsUpperBound head_cmp x others)

  pub record AreHeaped (order : IterationOrder) (heads : List (Head S)) : Type 0 where
    pub heap : IsHeap head_cmp heads
    pub ordered : AllByRecursion (λ h. h.order ≡ order) heads

  abbrev pub HasRow : List (Head S) → RowEntry → Type 0
  HasRow heads r = AnyByRecursion (λ h. h.row ≡ r) heads

  abbrev pub has_key : List ℕ → Option (Head S) → Bool
  has_key key None = false
  has_key key (Some x) = bytes_eq key x.row.key

  abbrev pub is_before : List ℕ → Option (Head S) → Bool
  is_before key None = false
  is_before key (Some x) = comes_before x.order x.row.key key

  -- ---- sources by what they are as iterators

  abbrev pub waiting_sources : List S → Sources S
  waiting_sources waiting = record { waiting = waiting; heads = [] }

  abbrev pub begun_sources : List (Head S) → Sources S
  begun_sources heads = record { waiting = []; heads = heads }

  abbrev pub left_in : (S → World → List RowEntry) → IterationOrder → Sources S → World → List RowEntry
  left_in rest order x w = left_rows (λ s. rest s w) order x.waiting x.heads

  abbrev pub AreWithin : (S → List (List ℕ) → Type 0) → Sources S → List (List ℕ) → Type 0
  AreWithin within x paths = AllByRecursion (λ s. within s paths) x.waiting × AllByRecursion (λ h. within h.source paths) x.heads

  abbrev pub IsMergingIn : (S → World → List RowEntry) → (S → World → Type 0) → (S → IterationOrder) → IterationOrder → Sources S → World → Type 0
  IsMergingIn rest sound order_of order x w = IsMerging (λ s. rest s w) (λ s. sound s w × (order_of s ≡ order)) order x.waiting x.heads

  abbrev pub blames : (S → Meaning → List Act → Option (List ℕ) → SlateDBError → Type 0) → Sources S → Meaning → List Act → Option (List ℕ) → SlateDBError → Type 0
  blames refuses x m reads at e = IsBlamed (either_refusal (λ s. refuses s m reads) at) x.waiting x.heads e

  abbrev pub AreReady : (S → Meaning → List Act → Option (List ℕ) → SlateDBError → Type 0) → Meaning → List (Head S) → Type 0
  AreReady refuses m heads = AllByRecursion (λ h. IsReady (refuses h.source m)) heads
