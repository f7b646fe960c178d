-- What tables are for their readers. Each statement is proved in src/laws.rt.
--     CuttingKeepsRows      the blocks of a cutting are the rows, none left out and none moved
--     BuiltTablesHaveTheirRows      a table that is built of rows is a table of them, as they are read
-- Where the transformer is undone:
--     TablesAreReadOneWay      a byte string is, for an id, a table of at most one list of blocks and filters, in one version
--     TablesHaveOneListOfRows      and so of at most one list of rows
--     ObjectsHoldOneListOfRows      and a store's objects hold at most one
use Rattle.std.specs.Prelude.{◌≡◌, ℕ, List, map, flat_map}
use Rattle.slate_types.specs.declared.types.RowEntry.{RowEntry}
use Rattle.slate_types.specs.Lawful.{IsLawfulTransform}
use Rattle.slate_block.specs.BlockSpelling.{as_read}
use Rattle.slate_filter.specs.Policy.{Policy}
use Rattle.slate_table.specs.Parts.{Encode}
use Rattle.slate_table.specs.Table.{IsTableOf, IsTable, IsBuilt, cut}
use Rattle.slate_table.specs.Stored.{HoldRows}

abbrev pub CuttingKeepsRows : Type 0
CuttingKeepsRows = (size version : ℕ) (rows : List RowEntry) → flat_map (λ b. b) (cut size version rows) ≡ rows

abbrev pub BuiltTablesHaveTheirRows : Type 0
BuiltTablesHaveTheirRows = (encode : Encode) (policies : List Policy) (min size version id : ℕ) (bytes : List ℕ) (rows : List RowEntry) →
    IsBuilt encode policies min size version id bytes rows → IsTable encode bytes version id (map (as_read version) rows)

abbrev pub TablesAreReadOneWay : Type 0
TablesAreReadOneWay = (encode decode : Encode) → IsLawfulTransform encode decode →
    (bytes : List ℕ) (version other id : ℕ) (blocks others : List (List RowEntry)) (filters more : List (List ℕ × List ℕ)) →
    IsTableOf encode bytes version id blocks filters → IsTableOf encode bytes other id others more → (version ≡ other) × (blocks ≡ others) × (filters ≡ more)

abbrev pub TablesHaveOneListOfRows : Type 0
TablesHaveOneListOfRows = (encode decode : Encode) → IsLawfulTransform encode decode → (bytes : List ℕ) (version another id : ℕ) (rows other : List RowEntry) →
    IsTable encode bytes version id rows → IsTable encode bytes another id other → rows ≡ other

abbrev pub ObjectsHoldOneListOfRows : Type 0
ObjectsHoldOneListOfRows = (encode decode : Encode) → IsLawfulTransform encode decode → (objects : List (List ℕ × List ℕ)) (rows other : List RowEntry) →
    HoldRows encode objects rows → HoldRows encode objects other → rows ≡ other
