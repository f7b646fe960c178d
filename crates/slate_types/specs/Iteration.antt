-- An iterator as the rest of a list of rows in its order.
--     in_order order xs      a list, or its reverse where the order is downwards
--     comes_before order a b      the order puts one key before another
--     drop_before order key rows      the rows without the leading ones that the order puts before the key
--     IsInOrder order rows      no row's key comes before an earlier one's
--     TakesRow rows answer after      the answer is the first row, or there is none
--     Steps step before rows after      steps that answer these rows, one by one
--     RowList      rows with an order
use Rattle.std.specs.Prelude.{ℕ, ◌≡◌, List, [], ◌∷◌, Bool, false, if◌then◌else◌, reverse, Option, Some, None}
use Rattle.slate_types.specs.declared.types.RowEntry.{RowEntry}
use Rattle.slate_types.specs.declared.iter.IterationOrder.{IterationOrder}
use Rattle.slate_types.specs.declared.iter.IterationOrder.TheVariants.{Ascending, Descending}
use Rattle.slate_types.specs.Keys.{key_lt}

abbrev pub in_order : {X : Type 0} → IterationOrder → List X → List X
in_order Ascending xs = xs
in_order Descending xs = reverse xs

abbrev pub comes_before : IterationOrder → List ℕ → List ℕ → Bool
comes_before Ascending a b = key_lt a b
comes_before Descending a b = key_lt b a

abbrev pub drop_before : IterationOrder → List ℕ → List RowEntry → List RowEntry
drop_before order key [] = []
drop_before order key (row ∷ rows) = if comes_before order row.key key then drop_before order key rows else row ∷ rows

-- no row comes before a key
abbrev pub NoneBefore : IterationOrder → List ℕ → List RowEntry → Type 0
NoneBefore order key [] = Unit {0}
NoneBefore order key (row ∷ rows) = (comes_before order row.key key ≡ false) × NoneBefore order key rows

abbrev pub IsInOrder : IterationOrder → List RowEntry → Type 0
IsInOrder order [] = Unit {0}
IsInOrder order (row ∷ rows) = NoneBefore order row.key rows × IsInOrder order rows

abbrev pub TakesRow : List RowEntry → Option RowEntry → List RowEntry → Type 0
TakesRow rows None after = (rows ≡ []) × (after ≡ [])
TakesRow rows (Some row) after = rows ≡ row ∷ after

-- step: what one call may answer, and what becomes of the iterator then
abbrev pub Steps : {A : Type 0} → (A → Option RowEntry → A → Type 0) → A → List RowEntry → A → Type 0
Steps {A} step before [] after = before ≡ after
Steps {A} step before (row ∷ rows) after = (next : A) × step before (Some row) next × Steps step next rows after

-- the order puts the first row before a key
abbrev pub begins_before : IterationOrder → List ℕ → List RowEntry → Bool
begins_before order key [] = false
begins_before order key (row ∷ rows) = comes_before order row.key key

pub record RowList : Type 0 where
  pub rows : List RowEntry
  pub order : IterationOrder
