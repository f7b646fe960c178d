-- Laws of merged lists, in words.
--     MergeHasAll, MergeIsInTurn      without dedup a merge has exactly the rows of its lists, by key and falling sequence
--     MergeIsByPlace      rows that stand alike come by their lists' places
--     MergeKeepsTests      what a test keeps of a merge is the merge of what it keeps of each list, as the rows of one key
--     MergeOfOne, MergeOfNone      a merge of one list in turn is that list, and an empty list changes nothing
--     MergeIsInOrder      with dedup too it comes by key
--     DedupDecides      of the rows of a key dedup leaves those up to the first one that is no operand
--     CountIsTheSum      a count of bytes is their sum, or the greatest number where that is less
use Rattle.std.specs.Prelude.{ℕ, ◌≡◌, ◌-◌, ◌^◌, min, Bool, false, List, [], ◌∷◌, ◌++◌, map, filter, IsPermutation}
use Rattle.slate_types.specs.declared.iter.IterationOrder.{IterationOrder}
use Rattle.slate_types.specs.declared.types.RowEntry.{RowEntry}
use Rattle.slate_types.specs.Iteration.{IsInOrder}
use Rattle.slate_types.specs.Rows.{of_key}
use Rattle.slate_types.specs.RowTurns.{row_before, AreInTurn}
use Rattle.slate_merge.specs.DecidedKeys.{upto_base}
use Rattle.slate_merge.specs.Merge.{all_rows, counted, decided, merged, rows_bytes}
use Rattle.slate_merge.specs.Merging.{placed_all, placed_rows}

abbrev pub MergeHasAll : Type 0
MergeHasAll = (order : IterationOrder) (lists : List (List RowEntry)) → IsPermutation (all_rows lists) (merged order false lists)

abbrev pub MergeIsInTurn : Type 0
MergeIsInTurn = (order : IterationOrder) (lists : List (List RowEntry)) → AreInTurn (row_before order) (merged order false lists)

abbrev pub MergeIsByPlace : Type 0
MergeIsByPlace = (order : IterationOrder) (lists : List (List RowEntry)) → placed_rows order (placed_all lists) ≡ merged order false lists

abbrev pub MergeKeepsTests : Type 0
MergeKeepsTests = (order : IterationOrder) (test : RowEntry → Bool) (lists : List (List RowEntry)) → filter test (merged order false lists) ≡ merged order false (map (filter test) lists)

abbrev pub MergeOfOne : Type 0
MergeOfOne = (order : IterationOrder) (rows : List RowEntry) → AreInTurn (row_before order) rows → merged order false (rows ∷ []) ≡ rows

abbrev pub MergeOfNone : Type 0
MergeOfNone = (order : IterationOrder) (dedup : Bool) (lists others : List (List RowEntry)) → merged order dedup (lists ++ ([] ∷ others)) ≡ merged order dedup (lists ++ others)

abbrev pub MergeIsInOrder : Type 0
MergeIsInOrder = (order : IterationOrder) (dedup : Bool) (lists : List (List RowEntry)) → IsInOrder order (merged order dedup lists)

abbrev pub DedupDecides : Type 0
DedupDecides = (order : IterationOrder) (key : List ℕ) (rows : List RowEntry) → IsInOrder order rows → of_key key (decided rows) ≡ upto_base (of_key key rows)

abbrev pub CountIsTheSum : Type 0
CountIsTheSum = (rows : List RowEntry) → counted 0 rows ≡ min (rows_bytes rows) (2 ^ 64 - 1)
