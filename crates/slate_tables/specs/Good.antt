-- What a whole table has.
--     counted rows      how many rows there are, in 64 bits
--     summary_of version rows      its version, how many rows, their least and greatest sequence,
--                            and the first and the last key
--     rows_of blocks      the rows of blocks, one after another
--     FitsStats s      statistics whose numbers fit their fields
--     AreGood blocks      the rows stand in a table's order, and their statistics fit
use Rattle.std.specs.Prelude.{◌<◌, ℕ, ◌^◌, ◌-◌, min, max, List, [], ◌∷◌, length, flat_map, Option}
use Rattle.std.specs.List.{AllByRecursion}
use Rattle.slate_types.specs.declared.types.RowEntry.{RowEntry}
use Rattle.slate_table.specs.Decoded.{FitCounts, Stats}
use Rattle.slate_table.specs.FileLaws.{table_stats}
use Rattle.slate_table.specs.Table.{AreInOrder, some_first, some_last}

-- ---- what a whole table has

pub record Summary : Type 0 where
  pub version : ℕ
  pub rows : ℕ
  pub least : ℕ
  pub greatest : ℕ
  pub first : Option (List ℕ)
  pub last : Option (List ℕ)

abbrev pub least_seq : ℕ → List RowEntry → ℕ
least_seq n [] = n
least_seq n (r ∷ rows) = least_seq (min n r.seq) rows

abbrev pub greatest_from : ℕ → List RowEntry → ℕ
greatest_from n [] = n
greatest_from n (r ∷ rows) = greatest_from (max n r.seq) rows

abbrev pub seq_of_first : List RowEntry → ℕ
seq_of_first [] = 0
seq_of_first (r ∷ rows) = r.seq

-- how many there are, or the greatest number
abbrev pub counted : List RowEntry → ℕ
counted rows = min (length rows) (2 ^ 64 - 1)

abbrev pub summary_of : ℕ → List RowEntry → Summary
summary_of version rows = record {
  version = version;
  rows = counted rows;
  least = least_seq (seq_of_first rows) rows;
  greatest = greatest_from (seq_of_first rows) rows;
  first = some_first rows;
  last = some_last rows;
}

-- ---- what the blocks add up to

abbrev pub rows_of : List (List RowEntry) → List RowEntry
rows_of blocks = flat_map (λ b. b) blocks

pub record FitsStats (s : Stats) : Type 0 where
  pub all : FitCounts 64 s.all
  pub keys : s.key_bytes < 2 ^ 64
  pub values : s.value_bytes < 2 ^ 64
  pub each : AllByRecursion (FitCounts 16) s.blocks

pub record AreGood (blocks : List (List RowEntry)) : Type 0 where
  pub order : AreInOrder (rows_of blocks)
  pub fit : FitsStats (table_stats blocks)
