-- The statistics of a table, read from their bytes.
--     counts_of b, stats_of s      the counts of a block and the statistics, as their bytes spell them
--     totals_bytes s, FitTotals s      what stands before the counts of the blocks
--     three_numbers w bytes at      three numbers of a width, behind one another
--     block_stats_field bytes at, block_stats_from count bytes at      the counts of a block, and of so many blocks
--     stats_in bytes      the statistics, or the refusal of the first field that fails
use Rattle.std.specs.Prelude.{ℕ, ◌<◌, ◌^◌, zero, suc, if◌then◌else◌, nat_lt, List, [], ◌∷◌, ◌++◌, length, map, Result, Ok, Err}
use Rattle.std.specs.Int.{Width, w16, w32, w64}
use Rattle.slate_types.specs.declared.error.SlateDBError.{SlateDBError}
use Rattle.slate_types.specs.declared.error.SlateDBError.TheVariants.{CorruptTable}
use Rattle.slate_block.specs.declared.block.BlockStats.{BlockStats}
use Rattle.slate_block.specs.RowSpelling.{be32, be64}
use Rattle.slate_block.specs.Damage.{◌>>=◌, Field, number_field}
use Rattle.slate_table.specs.declared.sst_stats.SstStats.{SstStats}
use Rattle.slate_table.specs.Decoded.{Counts, Stats, FitCounts, counts_bytes}

abbrev pub counts_of : BlockStats → Counts
counts_of b = record { puts = b.num_puts; deletes = b.num_deletes; merges = b.num_merges }

abbrev pub stats_of : SstStats → Stats
stats_of s = record {
  all = record { puts = s.num_puts; deletes = s.num_deletes; merges = s.num_merges };
  key_bytes = s.raw_key_size;
  value_bytes = s.raw_val_size;
  blocks = map counts_of s.block_stats.items;
}

abbrev pub totals_bytes : Stats → List ℕ
totals_bytes s = counts_bytes be64 s.all ++ be64 s.key_bytes ++ be64 s.value_bytes ++ be32 (length s.blocks)

-- they fit their fields
abbrev pub FitTotals : Stats → Type 0
FitTotals s = FitCounts 64 s.all × (s.key_bytes < 2 ^ 64) × (s.value_bytes < 2 ^ 64)

unfoldable pub three_numbers : Width → List ℕ → ℕ → Field (ℕ × ℕ × ℕ)
three_numbers w bytes at = do
  first ← number_field w bytes at
  second ← number_field w bytes first.1
  third ← number_field w bytes second.1
  Ok ((first.0, second.0, third.0), third.1)

unfoldable pub block_stats_field : List ℕ → ℕ → Field BlockStats
block_stats_field bytes at = three_numbers w16 bytes at >>= λ n. Ok (record { num_puts = n.0.0; num_deletes = n.0.1; num_merges = n.0.2 }, n.1)

unfoldable pub block_stats_from : ℕ → List ℕ → ℕ → Field (List BlockStats)
block_stats_from zero bytes at = Ok ([], at)
block_stats_from (suc count) bytes at = block_stats_field bytes at >>= λ first. block_stats_from count bytes first.1 >>= λ rest. Ok (first.0 ∷ rest.0, rest.1)

-- nothing is left over
unfoldable pub stats_in : List ℕ → Result Stats SlateDBError
stats_in bytes = do
  all ← three_numbers w64 bytes 0
  keys ← number_field w64 bytes all.1
  values ← number_field w64 bytes keys.1
  count ← number_field w32 bytes values.1
  blocks ← block_stats_from count.0 bytes count.1
  if nat_lt blocks.1 (length bytes) then Err (CorruptTable blocks.1)
      else Ok (record { all = record { puts = all.0.0; deletes = all.0.1; merges = all.0.2 }; key_bytes = keys.0; value_bytes = values.0; blocks = map counts_of blocks.0 })
