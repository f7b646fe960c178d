use Rattle.std.proofs.Common.{◌≡◌, ℕ, List, drop, None, Result, Ok, Err, refl, ap}
use Rattle.slate_types.specs.declared.error.SlateDBError.{SlateDBError}
use Rattle.slate_block.specs.declared.row.SstRowEntry.{SstRowEntry}
use Rattle.slate_block.specs.RowReading.{row_v1_of, refusal, BeginsV1, row_v2_of, BeginsV2, key_v2_of, BeginsKeyV2}
use Rattle.slate_block.specs.ReadingLaws.{EachIsAByte}
use Rattle.slate_block.specs.declared.row.SstRowEntryV2.{SstRowEntryV2}
use Rattle.slate_block.proofs.ReadingLawsV1.{row_v1_begins, row_v1_again}
use Rattle.slate_block.proofs.ReadingLaws.{row_v2_begins, row_v2_again, key_v2_begins, key_v2_again}
use Rattle.slate_block.proofs.reading_laws.rows_are_found.Goals as goal

found_v1 : (bytes : List ℕ) → EachIsAByte bytes → refusal (row_v1_of bytes) ≡ None → (row : SstRowEntry) × (rest : List ℕ) × BeginsV1 row bytes rest
found_v1 bytes fits e = by (row_v1_of bytes) refl e
  where
    by : (r : Result (SstRowEntry × ℕ) SlateDBError) → row_v1_of bytes ≡ r → refusal r ≡ None → (row : SstRowEntry) × (rest : List ℕ) × BeginsV1 row bytes rest
    by (Ok x) is g = (x.0, drop x.1 bytes, row_v1_begins bytes x.0 x.1 fits is)
    by (Err d) is g = absurd cc

pub returns-clause-v1 : goal.returns-clause-v1
returns-clause-v1 c = λ bytes fits. (found_v1 bytes fits, λ b. ap refusal (row_v1_again b.0 bytes b.1 b.2).1)

found_v2 : (bytes : List ℕ) → EachIsAByte bytes → refusal (row_v2_of bytes) ≡ None → (row : SstRowEntryV2) × (rest : List ℕ) × BeginsV2 row bytes rest
found_v2 bytes fits e = by (row_v2_of bytes) refl e
  where
    by : (r : Result (SstRowEntryV2 × ℕ) SlateDBError) → row_v2_of bytes ≡ r → refusal r ≡ None → (row : SstRowEntryV2) × (rest : List ℕ) × BeginsV2 row bytes rest
    by (Ok x) is g = (x.0, drop x.1 bytes, row_v2_begins bytes x.0 x.1 fits is)
    by (Err d) is g = absurd cc

pub returns-clause-v2 : goal.returns-clause-v2
returns-clause-v2 c = λ bytes fits. (found_v2 bytes fits, λ b. ap refusal (row_v2_again b.0 bytes b.1 b.2).1)

found_key : (bytes : List ℕ) → EachIsAByte bytes → refusal (key_v2_of bytes) ≡ None → (row : ℕ × List ℕ) × (rest : List ℕ) × BeginsKeyV2 row bytes rest
found_key bytes fits e = by (key_v2_of bytes) refl e
  where
    by : (r : Result ((ℕ × List ℕ) × ℕ) SlateDBError) → key_v2_of bytes ≡ r → refusal r ≡ None → (row : ℕ × List ℕ) × (rest : List ℕ) × BeginsKeyV2 row bytes rest
    by (Ok x) is g = (x.0, drop x.1 bytes, key_v2_begins bytes x.0 x.1 fits is)
    by (Err d) is g = absurd cc

pub returns-clause-keys : goal.returns-clause-keys
returns-clause-keys c = λ bytes fits. (found_key bytes fits, λ b. ap refusal (key_v2_again b.0 bytes b.1 b.2).1)
