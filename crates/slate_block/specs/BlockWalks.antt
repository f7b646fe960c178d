-- What is left of a walk over a block whose rows are read each by itself.
--     place_in order start end index      where in the block the row stands that is at an index of those from the start on and before the end
--     ReadsLeft      what the rows that are left are read as, in the order of the walk
--     left it      the rows that are left, or the first refusal
--     TakesRead reads answer after      the answer is what the first row is read as, and the others are left; or none was left
--     TakesLeft before answer after      the same of the rows that are left
--     LastBefore order key reads      the last row is read, and the order puts it before a key; or there is none
--     IsPast order key before after      some first rows are taken off, and the last of them is such a row
--     StopsAt order key reads      the order doesn't put the first row, where it is read, before a key
--     BeginsRead reads      the first row is read, or there is none
--     IsBlockDamage e      a refusal that a row of a block can have
--     Refuses reads e      one of the rows is refused so
--     IsSought key before after      what a seek to a key leaves
--     Blames at it e      what a step, or a seek to a key, is refused for
--     rows_of left, IsRising order left      the rows of a walk that is refused nowhere; it is none, and they come in the order
use Rattle.std.specs.Prelude.{◌≡◌, ◌⊎◌, ℕ, ◌+◌, ◌-◌, true, false, List, [], ◌∷◌, ◌++◌, slice_get, Option, Some, None, Result, Ok, Err}
use Rattle.slate_types.specs.declared.error.SlateDBError.{SlateDBError}
use Rattle.slate_types.specs.declared.error.SlateDBError.TheVariants.{CorruptTable, InvalidRowFlags, OutOfMemory}
use Rattle.slate_types.specs.declared.types.RowEntry.{RowEntry}
use Rattle.slate_types.specs.declared.iter.IterationOrder.{IterationOrder}
use Rattle.slate_types.specs.declared.iter.IterationOrder.TheVariants.{Ascending, Descending}
use Rattle.slate_types.specs.Iteration.{comes_before, IsInOrder}
use Rattle.slate_block.specs.Walks.{RowRead, all_ok, before}

abbrev pub place_in : IterationOrder → ℕ → ℕ → ℕ → ℕ
place_in Ascending start end index = start + index
place_in Descending start end index = end - 1 - index

pub record ReadsLeft : Type 0 where
  pub reads : List RowRead
  pub order : IterationOrder

abbrev pub left : ReadsLeft → Result (List RowEntry) SlateDBError
left it = all_ok it.reads

abbrev pub TakesRead : List RowRead → Option RowEntry → List RowRead → Type 0
TakesRead reads None after = (reads ≡ []) × (after ≡ [])
TakesRead reads (Some row) after = reads ≡ Ok row ∷ after

abbrev pub TakesLeft : Result (List RowEntry) SlateDBError → Option RowEntry → Result (List RowEntry) SlateDBError → Type 0
TakesLeft rows None after = (rows ≡ Ok []) × (after ≡ Ok [])
TakesLeft rows (Some row) after = rows ≡ before row after

abbrev pub IsReadBefore : IterationOrder → List ℕ → RowRead → Type 0
IsReadBefore order key (Ok row) = comes_before order row.key key ≡ true
IsReadBefore order key (Err e) = ⊥

abbrev pub LastBefore : IterationOrder → List ℕ → List RowRead → Type 0
LastBefore order key [] = Unit {0}
LastBefore order key (read ∷ []) = IsReadBefore order key read
LastBefore order key (read ∷ next ∷ reads) = LastBefore order key (next ∷ reads)

-- what a seek takes off. So of those that are read, where they come in the order, all come before the key, whatever else is damaged
pub record IsPast (order : IterationOrder) (key : List ℕ) (before after : List RowRead) : Type 0 where
  pub front : List RowRead
  pub parts : before ≡ front ++ after
  pub last : LastBefore order key front

abbrev pub StopsAt : IterationOrder → List ℕ → List RowRead → Type 0
StopsAt order key [] = Unit {0}
StopsAt order key (Ok row ∷ reads) = comes_before order row.key key ≡ false
StopsAt order key (Err e ∷ reads) = Unit {0}

abbrev pub BeginsRead : List RowRead → Type 0
BeginsRead [] = Unit {0}
BeginsRead (Ok row ∷ reads) = Unit {0}
BeginsRead (Err e ∷ reads) = ⊥

abbrev pub IsBlockDamage : SlateDBError → Type 0
IsBlockDamage (CorruptTable place) = Unit {0}
IsBlockDamage (InvalidRowFlags b) = Unit {0}
IsBlockDamage e = ⊥

abbrev pub Refuses : List RowRead → SlateDBError → Type 0
Refuses reads e = IsBlockDamage e × ((i : ℕ) × (slice_get reads i ≡ Some (Err e)))

-- a seek
abbrev pub IsSought : List ℕ → ReadsLeft → ReadsLeft → Type 0
IsSought key before after = IsPast before.order key before.reads after.reads × StopsAt before.order key after.reads

-- what a step is refused for; a seek can be refused for any row
abbrev pub Blames : Option (List ℕ) → ReadsLeft → SlateDBError → Type 0
Blames None it e = (e ≡ OutOfMemory) ⊎ (slice_get it.reads 0 ≡ Some (Err e))
Blames (Some key) it e = (e ≡ OutOfMemory) ⊎ Refuses it.reads e

abbrev pub rows_of : Result (List RowEntry) SlateDBError → List RowEntry
rows_of (Ok rows) = rows
rows_of (Err e) = []

abbrev pub IsRising : IterationOrder → Result (List RowEntry) SlateDBError → Type 0
IsRising order (Ok rows) = IsInOrder order rows
IsRising order (Err e) = ⊥

pub rising_rows : (order : IterationOrder) (rows : Result (List RowEntry) SlateDBError) → IsRising order rows → IsInOrder order (rows_of rows)
rising_rows order (Ok rows) h = h
rising_rows order (Err e) h = absurd h
