use Rattle.std.proofs.Common.{◌≡◌, ℕ, List, take, None, Result, Ok, Err, refl, ap}
use Rattle.slate_types.specs.declared.error.SlateDBError.{SlateDBError}
use Rattle.slate_block.specs.RowReading.{refusal}
use Rattle.slate_block.specs.BlockReading.{IsApart, offsets_of_block}
use Rattle.slate_block.specs.ReadingLaws.{EachIsAByte}
use Rattle.slate_block.proofs.OffsetLaws.{block_takes_apart, block_again_apart}
use Rattle.slate_block.proofs.ApartLaws.{block_apart, apart_block, apart_once}
use Rattle.slate_block.proofs.reading_laws.blocks_come_apart.Goals as goal

found : (bytes : List ℕ) → EachIsAByte bytes → refusal (offsets_of_block bytes) ≡ None → (body : List ℕ) × (offsets : List ℕ) × IsApart body offsets bytes
found bytes fits e = by (offsets_of_block bytes) refl e
  where
    by : (r : Result (ℕ × List ℕ) SlateDBError) → offsets_of_block bytes ≡ r → refusal r ≡ None → (body : List ℕ) × (offsets : List ℕ) × IsApart body offsets bytes
    by (Ok x) is g = (take x.0 bytes, x.1, block_takes_apart bytes x.0 x.1 fits is)
    by (Err d) is g = absurd cc

pub returns-clause-found : goal.returns-clause-found
returns-clause-found c = λ bytes fits. (found bytes fits, λ b. ap refusal (block_again_apart b.0 b.1 bytes b.2).1)

pub returns-clause-taken_apart : goal.returns-clause-taken_apart
returns-clause-taken_apart c = λ body offsets bytes version rows h. (block_apart body offsets bytes version rows h, λ a. apart_block body offsets bytes version rows a h)

pub returns-clause-once : goal.returns-clause-once
returns-clause-once c = λ body offsets other places bytes p q. apart_once body other offsets places bytes p q
