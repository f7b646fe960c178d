-- The rows of a flush, where keys may have operands.
--     high_rows b rows, low_rows b rows      the rows above a barrier, and the others
--     kept_and_folded c b rows      of rows of a key, newest first, those above the barrier, and the fold of the others
-- and how they are made row by row, where `low` are those of the last key that wait for their fold:
--     fold_of c low      the row that they fold to
--     is_ended low r      the row is of another key
--     ended c low r, left low r      what goes before the row, and what waits then
--     above b r      the row, where it is above the barrier
--     waits b low r      what waits behind it: the others, to the first that is no operand
--     IsGroup low      what holds of the rows that wait: they are of one key, and none stands behind one that is no operand
use Rattle.std.specs.Prelude.{◌≡◌, ℕ, nat_le, nat_lt, Bool, false, not, if◌then◌else◌, List, [], ◌∷◌, ◌++◌, filter, reverse, option_to_list, bytes_eq}
use Rattle.std.specs.List.{AllByRecursion}
use Rattle.slate_types.specs.declared.types.RowEntry.{RowEntry}
use Rattle.slate_types.specs.Fold.{Combine, fold_rows}
use Rattle.slate_mem.specs.Table.{to_base}
use Rattle.slate_mem.specs.Lookup.{is_decided}

abbrev pub high_rows : ℕ → List RowEntry → List RowEntry
high_rows b rows = filter (λ r. nat_lt b r.seq) rows

abbrev pub low_rows : ℕ → List RowEntry → List RowEntry
low_rows b rows = filter (λ r. nat_le r.seq b) rows

abbrev pub kept_and_folded : Combine → ℕ → List RowEntry → List RowEntry
kept_and_folded c b rows = high_rows b rows ++ option_to_list (fold_rows c (reverse (low_rows b rows)))

abbrev pub fold_of : (List ℕ → Combine) → List RowEntry → List RowEntry
fold_of c [] = []
fold_of c (r ∷ rs) = option_to_list (fold_rows (c r.key) (reverse (r ∷ rs)))

abbrev pub is_ended : List RowEntry → RowEntry → Bool
is_ended [] r = false
is_ended (p ∷ ps) r = not (bytes_eq p.key r.key)

abbrev pub ended : (List ℕ → Combine) → List RowEntry → RowEntry → List RowEntry
ended c low r = if is_ended low r then fold_of c low else []

abbrev pub left : List RowEntry → RowEntry → List RowEntry
left low r = if is_ended low r then [] else low

abbrev pub above : ℕ → RowEntry → List RowEntry
above b r = if nat_lt b r.seq then r ∷ [] else []

abbrev pub waits : ℕ → List RowEntry → RowEntry → List RowEntry
waits b low r = if nat_lt b r.seq then low else if is_decided low then low else low ++ (r ∷ [])

pub record IsGroup (low : List RowEntry) : Type 0 where
  pub key : List ℕ
  pub keys : AllByRecursion (λ r. r.key ≡ key) low
  pub based : to_base low ≡ low
