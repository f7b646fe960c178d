-- Rows in slots, a few to a slot, of which some may be marked as gone.
--     joined rows ss      rows of each slot, one slot after the other
--     slot_rows s, all_slot_rows ss      the rows of a slot, and of slots, with those that are gone
--     is_gone marks i      the row at an index is marked
--     rows_from s i, rows_in s, standing ss      the rows that count: of a slot from an index on, of a slot, and of slots
--     AreBefore k rows, AreBehind k rows      each row stands before a key with a sequence, or behind it
--     NoneAbove k rows      none of the rows stands before it
--     RowsRise rows      each row stands before the next ones
--     IsFilled s, IsSlots ss      what stands at all times of a slot, and of slots
--     IsSlotFor k ss i      where a row of this place belongs: all slots in front hold rows before it, and all slots behind it rows behind it
--     IsFirstSlot start ss i      rows in front of the slot aren't past the start of a range, and those behind it are
--     IsPlaceIn k rows i      rows before the place stand in front of the index, and no others
--     is_standing k r      the row, where there is one, has that key and sequence
--     IsFirst rows P      P of the first row, where there is one
--     IsGapFor k ss i      a slot of one row of this place may stand in front of the index
--     HasTaken s row new      the slot with a row put, as it stands, where all its rows count
--     IsSameSlot s new      the slot with the same rows and marks
--     IsWhole s      some rows, no more than a slot has, which all count
--     AreHalves rows low high      the rows, in one slot or in two, which all count
--     WithPut ss more new      slots whose rows that count are those of others with rows put
--     IsPutUpTo ss rows rest new      the same of the rows in front of the rest
--     WithSomePut ss rows new      the same of some of the first rows
--     AreMarked keeps rows old new      rows that were marked or fail the test are marked, and no others
--     NoneLater n rows      no row has a sequence above n
--     IsTable ss n most segments      what stands at all times of a table
use Rattle.std.specs.Prelude.{◌≡◌, ℕ, ◌+◌, ◌<◌, ◌≤◌, ◌-◌, ◌^◌, Bool, true, false, not, ◌||◌, if◌then◌else◌, List, [], ◌∷◌, ◌++◌, length, take, drop, slice_get, slice_index_or, Option, Some, None}
use Rattle.std.specs.declared.cmp.Ordering.TheVariants.{Less, Greater}
use Rattle.std.specs.Arc.{arc_value}
use Rattle.std.specs.List.{AllByRecursion}
use Rattle.std.specs.List.Sorted.{IsStrictlySortedBy}
use Rattle.std.specs.Ordering.{is_eq, is_gt}
use Rattle.std.specs.declared.ops.Bound.{Bound}
use Rattle.slate_types.specs.declared.types.RowEntry.{RowEntry}
use Rattle.slate_types.specs.declared.sequenced_key.SequencedKey.{SequencedKey}
use Rattle.slate_types.specs.Keys.{key_cmp, is_past_start}
use Rattle.slate_types.specs.Rows.{sequenced, sequenced_cmp}
use Rattle.slate_mem.specs.Table.{put_row, put_rows}
use Rattle.slate_mem.specs.declared.slots.Slot.{Slot}

abbrev pub slot_rows : Slot → List RowEntry
slot_rows s = (arc_value s.rows).items

abbrev pub joined : (Slot → List RowEntry) → List Slot → List RowEntry
joined rows [] = []
joined rows (s ∷ ss) = rows s ++ joined rows ss

abbrev pub all_slot_rows : List Slot → List RowEntry
all_slot_rows ss = joined slot_rows ss

abbrev pub is_gone : Option (List Bool) → ℕ → Bool
is_gone None i = false
is_gone (Some marks) i = slice_index_or marks i false

abbrev pub kept_from : Option (List Bool) → ℕ → List RowEntry → List RowEntry
kept_from marks i [] = []
kept_from marks i (r ∷ rs) = if is_gone marks i then kept_from marks (i + 1) rs else r ∷ kept_from marks (i + 1) rs

abbrev pub rows_from : Slot → ℕ → List RowEntry
rows_from s i = kept_from s.gone i (drop i (slot_rows s))

abbrev pub rows_in : Slot → List RowEntry
rows_in s = kept_from s.gone 0 (slot_rows s)

abbrev pub standing : List Slot → List RowEntry
standing ss = joined rows_in ss

abbrev pub AreBefore : SequencedKey → List RowEntry → Type 0
AreBefore k rows = AllByRecursion (λ r. sequenced_cmp k (sequenced r) ≡ Greater) rows

abbrev pub AreBehind : SequencedKey → List RowEntry → Type 0
AreBehind k rows = AllByRecursion (λ r. sequenced_cmp k (sequenced r) ≡ Less) rows

abbrev pub NoneAbove : SequencedKey → List RowEntry → Type 0
NoneAbove k rows = AllByRecursion (λ r. is_gt (sequenced_cmp k (sequenced r)) ≡ false) rows

abbrev pub RowsRise : List RowEntry → Type 0
RowsRise [] = Unit {0}
RowsRise (r ∷ rs) = AreBehind (sequenced r) rs × RowsRise rs

abbrev pub NoneLater : ℕ → List RowEntry → Type 0
NoneLater n rows = AllByRecursion (λ r. r.seq ≤ n) rows

pub record IsFilled (s : Slot) : Type 0 where
  pub some : 0 < length (slot_rows s)
  pub few : length (slot_rows s) ≤ 32
  pub fits : NoneLater (2 ^ 64 - 1) (slot_rows s)

pub record IsSlots (ss : List Slot) : Type 0 where
  pub filled : AllByRecursion IsFilled ss
  pub rises : RowsRise (all_slot_rows ss)

pub record IsSlotFor (k : SequencedKey) (ss : List Slot) (i : ℕ) : Type 0 where
  pub within : 0 < length ss → i < length ss
  pub before : AreBefore k (all_slot_rows (take i ss))
  pub behind : AreBehind k (all_slot_rows (drop (i + 1) ss))

pub record IsFirstSlot (start : Bound (List ℕ)) (ss : List Slot) (i : ℕ) : Type 0 where
  pub before : AllByRecursion (λ r. is_past_start start r.key ≡ false) (all_slot_rows (take i ss))
  pub behind : AllByRecursion (λ r. is_past_start start r.key ≡ true) (all_slot_rows (drop (i + 1) ss))

pub record IsPlaceIn (k : SequencedKey) (rows : List RowEntry) (i : ℕ) : Type 0 where
  pub within : i ≤ length rows
  pub before : AreBefore k (take i rows)
  pub behind : NoneAbove k (drop i rows)

abbrev pub is_standing : SequencedKey → Option RowEntry → Bool
is_standing k None = false
is_standing k (Some r) = is_eq (sequenced_cmp k (sequenced r))

abbrev pub IsFirst : List RowEntry → (RowEntry → Type 0) → Type 0
IsFirst [] P = Unit {0}
IsFirst (r ∷ rs) P = P r

pub record IsGapFor (k : SequencedKey) (ss : List Slot) (i : ℕ) : Type 0 where
  pub within : i ≤ length ss
  pub before : AreBefore k (all_slot_rows (take i ss))
  pub behind : AreBehind k (all_slot_rows (drop i ss))

pub record HasTaken (s : Slot) (row : RowEntry) (new : Slot) : Type 0 where
  pub rows : slot_rows new ≡ put_row (slot_rows s) row
  pub few : length (slot_rows new) ≤ 32
  pub was : s.gone ≡ None
  pub whole : new.gone ≡ None

pub record IsSameSlot (s new : Slot) : Type 0 where
  pub rows : slot_rows new ≡ slot_rows s
  pub marks : new.gone ≡ s.gone

pub record IsWhole (s : Slot) : Type 0 where
  pub some : 0 < length (slot_rows s)
  pub few : length (slot_rows s) ≤ 32
  pub whole : s.gone ≡ None

abbrev pub AreHalves : List RowEntry → Slot → Option Slot → Type 0
AreHalves rows low None = IsWhole low × (slot_rows low ≡ rows)
AreHalves rows low (Some high) = IsWhole low × IsWhole high × (slot_rows low ++ slot_rows high ≡ rows)

pub record WithPut (ss : List Slot) (more : List RowEntry) (new : List Slot) : Type 0 where
  pub rows : standing new ≡ put_rows (standing ss) more
  pub slots : IsSlots new

pub record IsPutUpTo (ss : List Slot) (rows rest : List RowEntry) (new : List Slot) : Type 0 where
  pub done : List RowEntry
  pub parts : rows ≡ done ++ rest
  pub put : WithPut ss done new

abbrev pub WithSomePut : List Slot → List RowEntry → List Slot → Type 0
WithSomePut ss rows new = (rest : List RowEntry) × IsPutUpTo ss rows rest new

abbrev pub AreMarked : (RowEntry → Bool) → List RowEntry → Option (List Bool) → Option (List Bool) → Type 0
AreMarked keeps rows old new = (i : ℕ) (r : RowEntry) → slice_get rows i ≡ Some r → is_gone new i ≡ (is_gone old i || not (keeps r))

pub record IsTable (ss : List Slot) (n most : ℕ) (segments : List (List ℕ)) : Type 0 where
  pub slots : IsSlots ss
  pub low : NoneLater n (standing ss)
  pub fits : n < 2 ^ 64
  pub few : length (standing ss) ≤ most
  pub counted : most < 2 ^ 64
  pub rising : IsStrictlySortedBy key_cmp segments
