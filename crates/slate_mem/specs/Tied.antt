-- How a table keeps its rows: a map from keys with sequences to rows.
--     IsRows es      what stands at all times of the entries
use Rattle.std.specs.Prelude.{◌≡◌, ℕ, ◌<◌, ◌^◌, List, [], ◌∷◌}
use Rattle.std.specs.List.{AllByRecursion}
use Rattle.std.specs.List.Sorted.{IsStrictlySortedBy}
use Rattle.std.specs.Map.{keys_of}
use Rattle.std.specs.BTreeMap.{insert_entry}
use Rattle.slate_types.specs.declared.types.RowEntry.{RowEntry}
use Rattle.slate_types.specs.declared.sequenced_key.SequencedKey.{SequencedKey}
use Rattle.slate_types.specs.Rows.{sequenced, sequenced_cmp}

abbrev pub TableEntries : Type 0
TableEntries = List (SequencedKey × RowEntry)

-- each row stands under its own key and sequence
abbrev pub AreTied : TableEntries → Type 0
AreTied es = AllByRecursion (λ e. (e.0 ≡ sequenced e.1) × (e.1.seq < 2 ^ 64)) es

pub record IsRows (es : TableEntries) : Type 0 where
  pub tied : AreTied es
  pub rising : IsStrictlySortedBy sequenced_cmp (keys_of es)

abbrev pub insert_row : TableEntries → RowEntry → TableEntries
insert_row es row = insert_entry sequenced_cmp es (sequenced row) row

abbrev pub insert_rows : TableEntries → List RowEntry → TableEntries
insert_rows es [] = es
insert_rows es (row ∷ rows) = insert_rows (insert_row es row) rows
