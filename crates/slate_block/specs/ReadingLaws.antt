-- What readers find. Each statement is proved by a function of src/reading_laws.rt.
--     EachIsAByte bytes      each number is a byte
--     VarintsAreFound      the number that is found is the one whose spelling begins the bytes; none is found where none does
--     RowsOfV1AreFound, RowsOfV2AreFound, KeysOfV2AreFound      nothing is refused exactly where a row begins the bytes
--     BlocksComeApart      nothing is refused exactly where the bytes are a rows' part and its offsets
--     BlocksAreTakenApart      a block's bytes come apart into its rows' part and its offsets, and what comes apart into these is the block
--     BytesComeApartOnce      bytes come apart in one way
--     good_rows reads      those that are read
--     SeeksKeepGoodRows      where the rows that are read come in the order, a seek takes off none of them that doesn't come before the key; and exactly the others, where the row before which it stops is read
--     WalkedRowsAreBlocks      of each version: a walk is refused nowhere exactly where the rows' part and the offsets are those of a block, and reads its rows
use Rattle.std.specs.Prelude.{◌≡◌, ◌↔◌, ℕ, ◌<◌, ◌^◌, List, [], ◌∷◌, ◌++◌, length, slice_index, Some, None, Ok, Err}
use Rattle.slate_block.specs.declared.row.SstRowEntry.{SstRowEntry}
use Rattle.slate_block.specs.declared.row.SstRowEntryV2.{SstRowEntryV2}
use Rattle.slate_block.specs.Varint.{IsVarint}
use Rattle.slate_block.specs.Damage.{front_varint}
use Rattle.slate_block.specs.BlockReading.{IsApart, offsets_of_block}
use Rattle.std.specs.List.{AllByRecursion}
use Rattle.slate_types.specs.declared.types.RowEntry.{RowEntry}
use Rattle.slate_block.specs.BlockSpelling.{IsKnown, IsBlockOf, IsBlock, block_spelling}
use Rattle.slate_types.specs.declared.iter.IterationOrder.{IterationOrder}
use Rattle.slate_types.specs.Iteration.{drop_before, IsInOrder}
use Rattle.slate_block.specs.Walks.{RowRead, block_rows}
use Rattle.slate_block.specs.BlockWalks.{BeginsRead, IsPast, StopsAt}
use Rattle.slate_block.specs.RowReading.{row_v1_of, row_v2_of, key_v2_of, refusal, BeginsV1, BeginsV2, BeginsKeyV2}

abbrev pub EachIsAByte : List ℕ → Type 0
EachIsAByte bytes = (i : ℕ) → slice_index bytes i < 256

abbrev pub VarintsAreFound : Type 0
VarintsAreFound = ((text rest : List ℕ) (n : ℕ) → IsVarint text n → front_varint (text ++ rest) ≡ Some (n, length text))
    × ((bytes text rest : List ℕ) (n : ℕ) → front_varint bytes ≡ None → IsVarint text n → bytes ≡ text ++ rest → ⊥)

abbrev pub RowsOfV1AreFound : Type 0
RowsOfV1AreFound = (bytes : List ℕ) → EachIsAByte bytes → (refusal (row_v1_of bytes) ≡ None) ↔ ((row : SstRowEntry) × (rest : List ℕ) × BeginsV1 row bytes rest)

abbrev pub RowsOfV2AreFound : Type 0
RowsOfV2AreFound = (bytes : List ℕ) → EachIsAByte bytes → (refusal (row_v2_of bytes) ≡ None) ↔ ((row : SstRowEntryV2) × (rest : List ℕ) × BeginsV2 row bytes rest)

abbrev pub KeysOfV2AreFound : Type 0
KeysOfV2AreFound = (bytes : List ℕ) → EachIsAByte bytes → (refusal (key_v2_of bytes) ≡ None) ↔ ((key : ℕ × List ℕ) × (rest : List ℕ) × BeginsKeyV2 key bytes rest)

abbrev pub BlocksComeApart : Type 0
BlocksComeApart = (bytes : List ℕ) → EachIsAByte bytes → (refusal (offsets_of_block bytes) ≡ None) ↔ ((body : List ℕ) × (offsets : List ℕ) × IsApart body offsets bytes)

abbrev pub BlocksAreTakenApart : Type 0
BlocksAreTakenApart = (body offsets bytes : List ℕ) (version : ℕ) (rows : List RowEntry) → IsBlockOf body offsets version rows →
    (bytes ≡ block_spelling body offsets → IsApart body offsets bytes) × (IsApart body offsets bytes → IsBlock bytes version rows)

abbrev pub BytesComeApartOnce : Type 0
BytesComeApartOnce = (body offsets other places bytes : List ℕ) → IsApart body offsets bytes → IsApart other places bytes → (body ≡ other) × (offsets ≡ places)

abbrev pub WalksRead : ℕ → Type 0
WalksRead version = (body offsets : List ℕ) (rows : List RowEntry) → EachIsAByte body → AllByRecursion (λ at. at < 2 ^ 16) offsets →
    (block_rows version body offsets ≡ Ok rows) ↔ IsBlockOf body offsets version rows

abbrev pub WalkedRowsAreBlocks : Type 0
WalkedRowsAreBlocks = (version : ℕ) → IsKnown version → WalksRead version

abbrev pub good_rows : List RowRead → List RowEntry
good_rows [] = []
good_rows (Ok row ∷ reads) = row ∷ good_rows reads
good_rows (Err e ∷ reads) = good_rows reads

-- in either order, whatever else is damaged
abbrev pub SeeksKeepGoodRows : Type 0
SeeksKeepGoodRows = (order : IterationOrder) (key : List ℕ) (before after : List RowRead) → IsInOrder order (good_rows before) → IsPast order key before after → StopsAt order key after →
    (drop_before order key (good_rows before) ≡ drop_before order key (good_rows after)) × (BeginsRead after → good_rows after ≡ drop_before order key (good_rows before))
