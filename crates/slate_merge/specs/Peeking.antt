-- A row that was read ahead of the others.
--     with_ahead ahead rows      the row that was read ahead, where there is one, and the others
--     head_of rows      the first row
--     ahead_bound ahead      how many rows were read ahead, which is one at most
--     is_kept order key ahead      a row was read ahead, and doesn't come before the key
--     rest_peeked, IsSoundPeeked, bound_peeked, refuses_peeked      what an iterator with such a row is by what its source is
--     ahead_of it      the row that was read ahead
--     IsPeeking iterator it      it has the rows of the iterator, and none was read ahead
--     TakesAhead takes ahead reads answer before after      the row that was read ahead is the answer, or the source gave it
use Rattle.std.specs.Prelude.{ℕ, ◌≡◌, ◌+◌, Bool, false, not, List, [], ◌∷◌, Option, Some, None}
use Rattle.slate_types.specs.declared.error.SlateDBError.{SlateDBError}
use Rattle.slate_types.specs.declared.types.RowEntry.{RowEntry}
use Rattle.slate_types.specs.declared.iter.IterationOrder.{IterationOrder}
use Rattle.slate_types.specs.Iteration.{comes_before, IsInOrder}
use Rattle.slate_types.specs.Outside.{Act, Meaning}
use Rattle.slate_types.specs.World.{World}
use Rattle.slate_merge.specs.declared.peeking_iterator.PeekingIterator.{PeekingIterator}

abbrev pub with_ahead : Option RowEntry → List RowEntry → List RowEntry
with_ahead None rows = rows
with_ahead (Some row) rows = row ∷ rows

abbrev pub head_of : List RowEntry → Option RowEntry
head_of [] = None
head_of (row ∷ rows) = Some row

abbrev pub ahead_bound : Option RowEntry → ℕ
ahead_bound None = 0
ahead_bound (Some row) = 1

-- the row that was read ahead doesn't come before the key
abbrev pub is_kept : IterationOrder → List ℕ → Option RowEntry → Bool
is_kept order key None = false
is_kept order key (Some row) = not (comes_before order row.key key)

abbrev pub TakesAhead : {S : Type 0} → (S → List Act → Option RowEntry → S → Type 0) → Option RowEntry → List Act → Option RowEntry → S → S → Type 0
TakesAhead takes None reads answer before after = takes before reads answer after
TakesAhead takes (Some row) reads answer before after = (answer ≡ Some row) × (reads ≡ []) × (after ≡ before)

module _ {S : Type 0} where
  abbrev pub ahead_of : PeekingIterator S → Option RowEntry
  ahead_of it = it.ahead

  abbrev pub rest_peeked : (S → World → List RowEntry) → PeekingIterator S → World → List RowEntry
  rest_peeked rest it w = with_ahead it.ahead (rest it.iterator w)

  abbrev pub IsSoundPeeked : (S → World → List RowEntry) → (S → World → Type 0) → (S → IterationOrder) → PeekingIterator S → World → Type 0
  IsSoundPeeked rest sound order_of it w = sound it.iterator w × IsInOrder (order_of it.iterator) (with_ahead it.ahead (rest it.iterator w))

  abbrev pub bound_peeked : (S → ℕ) → PeekingIterator S → ℕ
  bound_peeked bound it = ahead_bound it.ahead + bound it.iterator

  abbrev pub refuses_peeked : (S → Meaning → List Act → Option (List ℕ) → SlateDBError → Type 0) → PeekingIterator S → Meaning → List Act → Option (List ℕ) → SlateDBError → Type 0
  refuses_peeked refuses it m reads at e = refuses it.iterator m reads at e

  pub record IsPeeking (iterator : S) (it : PeekingIterator S) : Type 0 where
    pub rows : it.iterator ≡ iterator
    pub none : it.ahead ≡ None
