-- What a reader of a key finds in a table by its info. Each statement is proved in src/finding_laws.rt.
--     encloses info k      the key stands between the first and the last one
--     IsTableWith encode bytes version id i rows      the bytes are a table of the rows, and have this version, this id and this info
--     AreBlocksOf version blocks found      the blocks are blocks of these lists of rows, one of each
--     index_answer, blocks_answer      what a store answers that holds the bytes, where a reader asks for the index, and for neighbouring blocks
--     block_read version id info entries first answer block      what such an answer says of the section of a block
--     KeysOutsideHaveNoRows      a table has no row of a key that it doesn't enclose
--     BlocksHoldTheKey      blocks that hold all partitions of a key hold all its rows
--     TablesAreNotRefused      neither their indexes nor their blocks
use Rattle.std.specs.Prelude.{◌≡◌, ℕ, ◌-◌, ◌≤◌, ◌<◌, Bool, false, ◌&&◌, List, [], ◌∷◌, length, flat_map, Option, Some, None}
use Rattle.std.specs.List.{AllByRecursion}
use Rattle.slate_types.specs.declared.error.SlateDBError.{SlateDBError}
use Rattle.slate_types.specs.declared.types.RowEntry.{RowEntry}
use Rattle.slate_types.specs.declared.iter.IterationOrder.TheVariants.{Ascending}
use Rattle.slate_types.specs.Iteration.{IsInOrder}
use Rattle.slate_types.specs.Keys.{key_le}
use Rattle.slate_types.specs.Lawful.{IsLawfulTransform}
use Rattle.slate_types.specs.Rows.{of_key}
use Rattle.slate_types.specs.Partitions.{CanHold}
use Rattle.slate_store.specs.Store.{part_of}
use Rattle.slate_block.specs.declared.block.Block.{Block}
use Rattle.slate_block.specs.BlockSpelling.{IsBlockOf}
use Rattle.slate_block.specs.ReadingLaws.{EachIsAByte}
use Rattle.slate_table.specs.Decoded.{Info}
use Rattle.slate_table.specs.IndexReading.{index_keys}
use Rattle.slate_table.specs.Parts.{Encode, block_kind, index_kind}
use Rattle.slate_table.specs.Reading.{SectionRead, section_read, IsIndexRead, RefusesIndex, AreBlocksRead, RefusesBlocks, block_answer, block_start, blocks_size}
use Rattle.slate_table.specs.Table.{IsTable}
use Rattle.slate_table.specs.TableEnd.{HasInfo}

abbrev pub is_from : Option (List ℕ) → List ℕ → Bool
is_from None k = false
is_from (Some first) k = key_le first k

abbrev pub is_upto : Option (List ℕ) → List ℕ → Bool
is_upto None k = false
is_upto (Some last) k = key_le k last

abbrev pub encloses : Info → List ℕ → Bool
encloses info k = is_from info.first k && is_upto info.last k

-- written: the version of the table
pub record IsTableWith (encode : Encode) (bytes : List ℕ) (version id : ℕ) (i : Info) (rows : List RowEntry) : Type 0 where
  pub written : ℕ
  pub is : IsTable encode bytes written id rows
  pub info : HasInfo bytes version id i

abbrev pub AreBlocksOf : ℕ → List Block → List (List RowEntry) → Type 0
AreBlocksOf version [] [] = Unit {0}
AreBlocksOf version (block ∷ blocks) (rows ∷ found) = IsBlockOf block.body block.offsets.items version rows × AreBlocksOf version blocks found
AreBlocksOf version [] (rows ∷ found) = ⊥
AreBlocksOf version (block ∷ blocks) [] = ⊥

abbrev pub index_answer : ℕ → ℕ → List ℕ → Info → SectionRead
index_answer version id bytes info = section_read version id index_kind info.index.at (part_of (Some bytes) info.index.at info.index.len)

abbrev pub blocks_answer : List ℕ → Info → List (ℕ × List ℕ) → ℕ → ℕ → Option (List ℕ)
blocks_answer bytes info entries first stop = part_of (Some bytes) (block_start info.filters.at entries first) (blocks_size info.filters.at entries first stop)

abbrev pub block_read : ℕ → ℕ → Info → List (ℕ × List ℕ) → ℕ → Option (List ℕ) → ℕ → SectionRead
block_read version id info entries first answer block =
    section_read version id block_kind (block_start info.filters.at entries block) (block_answer info.filters.at entries first answer block)

abbrev pub KeysOutsideHaveNoRows : Type 0
KeysOutsideHaveNoRows = (encode : Encode) (bytes : List ℕ) (version id : ℕ) (info : Info) (rows : List RowEntry) → IsTableWith encode bytes version id info rows →
    (k : List ℕ) → encloses info k ≡ false → of_key k rows ≡ []

abbrev pub BlocksHoldTheKey : Type 0
BlocksHoldTheKey = (encode decode : Encode) → IsLawfulTransform encode decode → (bytes : List ℕ) (version id : ℕ) (info : Info) (rows : List RowEntry) → IsTableWith encode bytes version id info rows →
    (entries : List (ℕ × List ℕ)) → IsIndexRead decode info.filters.at (index_answer version id bytes info) entries →
    (k : List ℕ) (first stop : ℕ) → first ≤ stop → stop ≤ length entries → ((i : ℕ) → CanHold (index_keys entries) i k → (first ≤ i) × (i < stop)) →
    (blocks : List Block) → length blocks ≡ stop - first → AreBlocksRead decode (block_read version id info entries first (blocks_answer bytes info entries first stop)) first blocks →
    (found : List (List RowEntry)) × AreBlocksOf version blocks found × AllByRecursion (IsInOrder Ascending) found × (of_key k (flat_map (λ b. b) found) ≡ of_key k rows)

abbrev pub TablesAreNotRefused : Type 0
TablesAreNotRefused = (encode decode : Encode) → IsLawfulTransform encode decode → (bytes : List ℕ) (version id : ℕ) (info : Info) (rows : List RowEntry) → EachIsAByte bytes → IsTableWith encode bytes version id info rows →
    ((e : SlateDBError) → RefusesIndex decode info.filters.at (index_answer version id bytes info) e → ⊥)
    × ((entries : List (ℕ × List ℕ)) → IsIndexRead decode info.filters.at (index_answer version id bytes info) entries → (first stop : ℕ) → first ≤ stop → stop ≤ length entries →
    (e : SlateDBError) → RefusesBlocks decode (block_read version id info entries first (blocks_answer bytes info entries first stop)) first stop e → ⊥)
