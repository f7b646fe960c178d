-- What the rows of blocks add up to.
--     sums_of rows      how many rows of each kind, and how many bytes of keys and of values
--     plus a b      both together
--     whole_sums s      those of statistics
--     stands_behind span row      the row stands behind the last row in a table's order
--     FitsSums s      each number has at most 64 bits
--     IsSpan rows span      the first key, the last row and the least and greatest sequence, of
--                           rows if there are some
--     IsTally blocks tally      the statistics and the span of good blocks
use Rattle.std.specs.Prelude.{◌≡◌, ℕ, ◌+◌, ◌-◌, ◌^◌, ◌<◌, Bool, List, [], ◌∷◌, length, slice_get}
use Rattle.std.specs.Prelude.{sum_by, count_by, Option, Some, None}
use Rattle.std.specs.Ordering.{is_lt}
use Rattle.slate_types.specs.declared.types.RowEntry.{RowEntry}
use Rattle.slate_types.specs.Rows.{operand, is_operand, is_put, is_tombstone, sequenced}
use Rattle.slate_types.specs.Rows.{sequenced_cmp}
use Rattle.slate_table.specs.declared.sst_stats.SstStats.{SstStats}
use Rattle.slate_table.specs.FileLaws.{table_stats}
use Rattle.slate_table.specs.StatsReading.{stats_of}
use Rattle.slate_table.specs.Table.{some_first, some_last}
use Rattle.slate_tables.specs.declared.tally.Span.{Span}
use Rattle.slate_tables.specs.declared.tally.Sums.{Sums}
use Rattle.slate_tables.specs.declared.tally.Tally.{Tally}
use Rattle.slate_tables.specs.Good.{AreGood, greatest_from, least_seq, rows_of, seq_of_first}

abbrev pub sums_of : List RowEntry → Sums
sums_of rows = record {
  puts = count_by is_put rows;
  deletes = count_by is_tombstone rows;
  merges = count_by is_operand rows;
  key_bytes = sum_by (λ r. length r.key) rows;
  value_bytes = sum_by (λ r. length (operand r)) rows;
}

abbrev pub plus : Sums → Sums → Sums
plus a b = record {
  puts = a.puts + b.puts;
  deletes = a.deletes + b.deletes;
  merges = a.merges + b.merges;
  key_bytes = a.key_bytes + b.key_bytes;
  value_bytes = a.value_bytes + b.value_bytes;
}

pub record FitsSums (s : Sums) : Type 0 where
  pub puts : s.puts < 2 ^ 64
  pub deletes : s.deletes < 2 ^ 64
  pub merges : s.merges < 2 ^ 64
  pub key_bytes : s.key_bytes < 2 ^ 64
  pub value_bytes : s.value_bytes < 2 ^ 64

abbrev pub whole_sums : SstStats → Sums
whole_sums s = record {
  puts = s.num_puts;
  deletes = s.num_deletes;
  merges = s.num_merges;
  key_bytes = s.raw_key_size;
  value_bytes = s.raw_val_size;
}

abbrev pub stands_behind : Span → RowEntry → Bool
stands_behind s r = is_lt
    (sequenced_cmp (record { user_key = s.last; seq = s.last_seq }) (sequenced r))

pub record IsSpanOf (rows : List RowEntry) (s : Span) : Type 0 where
  pub row : RowEntry
  pub last_row : slice_get rows (length rows - 1) ≡ Some row
  pub key : row.key ≡ s.last
  pub seq : row.seq ≡ s.last_seq
  pub first : some_first rows ≡ Some s.first
  pub last : some_last rows ≡ Some s.last
  pub least : s.least ≡ least_seq (seq_of_first rows) rows
  pub greatest : s.greatest ≡ greatest_from (seq_of_first rows) rows

abbrev pub IsSpan : List RowEntry → Option Span → Type 0
IsSpan rows None = rows ≡ []
IsSpan rows (Some s) = IsSpanOf rows s

pub record IsTally (blocks : List (List RowEntry)) (t : Tally) : Type 0 where
  pub good : AreGood blocks
  pub stats : stats_of t.stats ≡ table_stats blocks
  pub span : IsSpan (rows_of blocks) t.span
