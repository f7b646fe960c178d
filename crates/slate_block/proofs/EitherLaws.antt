-- Walks upwards over blocks of any version read the block's rows, or are refused as these are.
use Rattle.std.proofs.Common.{◌≡◌, ◌≢◌, ℕ, Bool, true, false, List, length, Result, Ok, refl, sym, ap, ◌∙◌}
use Rattle.std.specs.Prelude.{IsOk}
use Rattle.std.proofs.lemmas.Bool.{ne_eqb}
use Rattle.slate_types.specs.declared.error.SlateDBError.{SlateDBError}
use Rattle.slate_types.specs.declared.iter.IterationOrder.{IterationOrder}
use Rattle.slate_types.specs.declared.iter.IterationOrder.TheVariants.{Ascending, Descending}
use Rattle.slate_block.specs.Damage.{◌>>=◌}
use Rattle.slate_block.specs.Walks.{RowRead, all_ok, are_named, block_reads, block_rows, reads_v2}
use Rattle.slate_types.specs.Iteration.{in_order}
use Rattle.slate_block.specs.GroupWalks.{walk_in}
use Rattle.slate_block.proofs.GroupSteps.{named_reads, unnamed_reads}

pub upwards_read : (version : ℕ) (order : IterationOrder) (body offsets : List ℕ) (reads : List RowRead) → block_reads version body offsets ≡ Ok (in_order order reads) → order ≡ Ascending → all_ok reads ≡ block_rows version body offsets
unfolding block_rows
upwards_read version Ascending body offsets reads h is = sym (ap (λ (x : Result (List RowRead) SlateDBError). x >>= all_ok) h)
upwards_read version Descending body offsets reads h is = absurd cc

-- a version that isn't the first is read as the second

pub reads_second : (version : ℕ) (body offsets : List ℕ) → version ≢ 1 → block_reads version body offsets ≡ block_reads 2 body offsets
unfolding block_reads
reads_second version body offsets other = rw (ne_eqb version 1 other) refl

pub rows_second : (version : ℕ) (body offsets : List ℕ) → version ≢ 1 → block_rows version body offsets ≡ block_rows 2 body offsets
unfolding block_rows
rows_second version body offsets other = ap (λ (x : Result (List RowRead) SlateDBError). x >>= all_ok) (reads_second version body offsets other)

begun_v2 : (body offsets : List ℕ) → IsOk (block_reads 2 body offsets) → block_reads 2 body offsets ≡ Ok (reads_v2 body offsets (length body))
begun_v2 body offsets h = by (are_named offsets) refl
  where
    by : (t : Bool) → are_named offsets ≡ t → block_reads 2 body offsets ≡ Ok (reads_v2 body offsets (length body))
    by true is = named_reads body offsets is
    by false is = absurd (let refused = unnamed_reads body offsets is in cc)

pub upwards_read_v2 : (order : IterationOrder) (body offsets : List ℕ) (reads : List RowRead) → reads ≡ walk_in order body offsets → IsOk (block_reads 2 body offsets) → order ≡ Ascending → all_ok reads ≡ block_rows 2 body offsets
upwards_read_v2 Ascending body offsets reads walk h is = upwards_read 2 Ascending body offsets reads (begun_v2 body offsets h ∙ ap Ok (sym walk)) refl
upwards_read_v2 Descending body offsets reads walk h is = absurd cc

pub upwards : (order : IterationOrder) → (order ≡ Descending → ⊥) → order ≡ Ascending
upwards Ascending h = refl
upwards Descending h = absurd (h refl)
