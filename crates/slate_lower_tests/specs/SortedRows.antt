-- A list of rows in order: by key upwards, and by sequence downwards within a key.
--     Rises rows      each row stands before the next ones
use Rattle.std.specs.Prelude.{List, map}
use Rattle.std.specs.List.Sorted.{IsStrictlySortedBy}
use Rattle.slate_types.specs.declared.types.RowEntry.{RowEntry}
use Rattle.slate_types.specs.Rows.{sequenced, sequenced_cmp}

abbrev pub Rises : List RowEntry → Type 0
Rises rows = IsStrictlySortedBy sequenced_cmp (map sequenced rows)
