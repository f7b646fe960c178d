-- Laws of the definitions: of sets of keys, of ranges, of the orders, of seeks, of keys in partitions, and of the fold.
use Rattle.std.specs.Prelude.{◌≡◌, ℕ, nat_eq, true, false, not, bytes_eq, drop, length, List, [], ◌∷◌, ◌++◌, Option, Some, None, option_to_list, IfSome, IsTrue, filter_map, flat_map, ◌≤◌, nat_le, filter, ◌&&◌, IsSorted}
use Rattle.std.specs.List.{AllByRecursion, starts_with}
use Rattle.std.specs.List.Sorted.{IsStrictlySortedBy}
use Rattle.std.specs.Cmp.{IsTotalOrder}
use Rattle.std.specs.Ordering.{is_lt}
use Rattle.std.specs.declared.cmp.Ordering.TheVariants.{Equal}
use Rattle.std.specs.declared.ops.Bound.{Bound}
use Rattle.std.specs.declared.ops.Bound.TheVariants.{Unbounded}
use Rattle.slate_types.specs.declared.types.RowEntry.{RowEntry}
use Rattle.slate_types.specs.declared.sequenced_key.SequencedKey.{SequencedKey}
use Rattle.slate_types.specs.declared.bytes_range.BytesRange.{BytesRange}
use Rattle.slate_types.specs.declared.iter.IterationOrder.{IterationOrder}
use Rattle.slate_types.specs.Iteration.{comes_before, drop_before, IsInOrder}
use Rattle.slate_types.specs.Keys.{key_cmp, point_of, whole, AreBytes, is_refused, among, keys_set, prefix_range, prefix_subrange, common_range, in_range}
use Rattle.slate_types.specs.Partitions.{CanHold, IsLeast, IsGreatest, first_including, last_including}
use Rattle.slate_types.specs.Rows.{is_base, row_lt, sequenced, sequenced_cmp}
use Rattle.slate_types.specs.Fold.{Combine, fold_rows, merge_all, IsShort, AreShort, IsLawful, KeepsShort}

-- Rows that stand together may be replaced by their fold, whatever older and newer rows there are.
abbrev pub FoldsInPortions : Type 0
FoldsInPortions = (c : Combine) → IsLawful c → KeepsShort c → (older middle newer : List RowEntry) → AreShort older → AreShort middle → AreShort newer →
    fold_rows c (older ++ (middle ++ newer)) ≡ fold_rows c (older ++ (option_to_list (fold_rows c middle) ++ newer))

-- Operands may be combined in pieces first, however they are cut.
abbrev pub MergesInPieces : Type 0
MergesInPieces = (c : Combine) → IsLawful c → KeepsShort c → (value : Option (List ℕ)) (pieces : List (List (List ℕ))) → IfSome value IsShort → AllByRecursion (λ p. AllByRecursion IsShort p) pieces →
    merge_all c value (flat_map (λ p. p) pieces) ≡ merge_all c value (filter_map (λ p. merge_all c None p) pieces)

-- A row that is no operand hides what is older.
abbrev pub HidesOlder : Type 0
HidesOlder = (c : Combine) (older newer : List RowEntry) (r : RowEntry) → IsTrue (is_base r) → fold_rows c (older ++ (r ∷ newer)) ≡ fold_rows c (r ∷ newer)

-- No rows fold to none, and one row to itself.
abbrev pub FoldsFew : Type 0
FoldsFew = (c : Combine) → (fold_rows c [] ≡ None) × ((r : RowEntry) → fold_rows c (r ∷ []) ≡ Some r)

-- The whole subrange of a prefix is the prefix's range.
abbrev pub WholeIsThePrefix : Type 0
WholeIsThePrefix = (p : List ℕ) → prefix_subrange p Unbounded Unbounded ≡ Some (prefix_range p)

-- the rows at or below n
abbrev pub rows_to : ℕ → List RowEntry → List RowEntry
rows_to n rows = filter (λ r. nat_le r.seq n) rows

-- Folding rows at or below a barrier changes nothing that is seen from the barrier on.
abbrev pub FlushKeepsStates : Type 0
FlushKeepsStates = (c : Combine) → IsLawful c → KeepsShort c → (barrier n : ℕ) → barrier ≤ n → (older low high : List RowEntry) → AreShort older → AreShort low → AreShort high →
    AllByRecursion (λ r. r.seq ≤ barrier) low →
    fold_rows c (rows_to n (older ++ (low ++ high))) ≡ fold_rows c (rows_to n (older ++ (option_to_list (fold_rows c low) ++ high)))

-- A key is in the common range where it is in both.
abbrev pub CommonIsBoth : Type 0
CommonIsBoth = (a b r : BytesRange) (k : List ℕ) → common_range a b ≡ Some r → in_range r k ≡ (in_range a k && in_range b k)

-- A set of keys rises strictly, so that each key stands once.
abbrev pub SetRises : Type 0
SetRises = (ks : List (List ℕ)) → IsStrictlySortedBy key_cmp (keys_set ks)

-- It has the keys that it was made of.
abbrev pub SetKeepsKeys : Type 0
SetKeepsKeys = (ks : List (List ℕ)) (k : List ℕ) → among k (keys_set ks) ≡ among k ks

-- Bounds that leave no range hold no key.
abbrev pub RefusedHoldNone : Type 0
RefusedHoldNone = (start end : Bound (List ℕ)) (k : List ℕ) → IsTrue (is_refused start end) → in_range (record { start = start; end = end }) k ≡ false

-- Where two ranges have no common range, no key is in both.
abbrev pub NoneIsNone : Type 0
NoneIsNone = (a b : BytesRange) (k : List ℕ) → common_range a b ≡ None → (in_range a k && in_range b k) ≡ false

-- The range of a prefix has exactly the keys that begin with it.
abbrev pub PrefixRangeBegins : Type 0
PrefixRangeBegins = (p k : List ℕ) → AreBytes k → in_range (prefix_range p) k ≡ starts_with nat_eq k p

-- A composed range has exactly the keys that are the prefix and then a key of the subrange.
abbrev pub SubrangeIsBehind : Type 0
SubrangeIsBehind = (p : List ℕ) (start end : Bound (List ℕ)) (r : BytesRange) (k : List ℕ) → prefix_subrange p start end ≡ Some r → AreBytes k →
    in_range r k ≡ (starts_with nat_eq k p && in_range (record { start = start; end = end }) (drop (length p) k))

-- The order of keys with sequences is total.
abbrev pub SequencedIsTotal : Type 0
SequencedIsTotal = IsTotalOrder sequenced_cmp

-- What it calls equal is equal.
abbrev pub SequencedTellsApart : Type 0
SequencedTellsApart = (a b : SequencedKey) → sequenced_cmp a b ≡ Equal → a ≡ b

-- The order of rows is that of their keys with their sequences.
abbrev pub RowsAreSequenced : Type 0
RowsAreSequenced = (r s : RowEntry) → row_lt r s ≡ is_lt (sequenced_cmp (sequenced r) (sequenced s))

-- A range of one included key has that key alone.
abbrev pub PointHasItsKey : Type 0
PointHasItsKey = (r : BytesRange) (p k : List ℕ) → point_of r ≡ Some p → in_range r k ≡ bytes_eq p k

-- The range of all keys has each.
abbrev pub WholeHasAll : Type 0
WholeHasAll = (k : List ℕ) → in_range whole k ≡ true

-- Of rows in order a seek leaves exactly those whose key doesn't come before the key that is sought.
abbrev pub SeekKeepsTheRest : Type 0
SeekKeepsTheRest = (order : IterationOrder) (key : List ℕ) (rows : List RowEntry) → IsInOrder order rows → drop_before order key rows ≡ filter (λ r. not (comes_before order r.key key)) rows

-- Of first keys that don't fall, the first partition that includes a key is the first that can hold it.
abbrev pub FirstIncludingIsFirst : Type 0
FirstIncludingIsFirst = (keys : List (List ℕ)) (k : List ℕ) → IsSorted key_cmp keys → IsLeast (λ i. CanHold keys i k) (first_including keys k)

-- And the last is the last that can.
abbrev pub LastIncludingIsLast : Type 0
LastIncludingIsLast = (keys : List (List ℕ)) (k : List ℕ) → IsSorted key_cmp keys → IsGreatest (λ i. CanHold keys i k) (last_including keys k)
