-- What several workers make of the rows of a flush.
--     AreOfOneEncoding encodes, one_encoding encodes      there are some encodings, and all are the first; that one
--     RoseInOne before now      of the counts of faults one rose
--     bytes_by_id t      of a built table the number of its id, and its bytes
--     IsEncodedAt encode layout number place rows t      a table is built of these rows, under the id of its place, and can be put as it is
--     AreEncodedFrom encode layout number place parts tables      tables are, one of each list of rows, from this place on
--     AreTablesOfPlan encode layout number rows tables      the rows are cut into these tables, each built under the id of its place, in their order
--     IsUnbuilt encode layout raised number rows e      the first table that wasn't built was refused for this: the tables before it can be built
use Rattle.std.specs.Prelude.{◌≡◌, ℕ, ◌+◌, ◌^◌, ◌<◌, ◌⊎◌, List, [], ◌∷◌, ◌++◌, map}
use Rattle.std.specs.List.{AllByRecursion}
use Rattle.slate_types.specs.declared.error.SlateDBError.{SlateDBError}
use Rattle.slate_types.specs.declared.error.SlateDBError.TheVariants.{BlockTransformError}
use Rattle.slate_types.specs.Faults.{Rose}
use Rattle.slate_table.specs.InfoReading.{seen_info}
use Rattle.slate_table.specs.Parts.{Encode}
use Rattle.slate_table.specs.Paths.{table_id}
use Rattle.slate_table.specs.Table.{IsBuilt}
use Rattle.slate_table.specs.TableEnd.{EncodedTable, HasInfo}
use Rattle.slate_db.specs.Cut.{AreCut}
use Rattle.slate_db.specs.Flushed.{IsTooLarge, Layout}
use Rattle.slate_db.specs.Model.{Rows}

abbrev pub AreOfOneEncoding : List Encode → Type 0
AreOfOneEncoding [] = ⊥
AreOfOneEncoding (encode ∷ encodes) = AllByRecursion (λ e. e ≡ encode) encodes

abbrev pub one_encoding : List Encode → Encode
one_encoding [] = λ bytes. bytes
one_encoding (encode ∷ encodes) = encode

abbrev pub RoseInOne : List ℕ → List ℕ → Type 0
RoseInOne [] ns = ⊥
RoseInOne (b ∷ bs) [] = ⊥
RoseInOne (b ∷ bs) (n ∷ ns) = Rose b n ⊎ RoseInOne bs ns

abbrev pub bytes_by_id : EncodedTable → ℕ × List ℕ
bytes_by_id t = (t.id.0, t.bytes)

pub record IsEncodedAt (encode : Encode) (layout : Layout) (number place : ℕ) (rows : Rows) (t : EncodedTable) : Type 0 where
  pub id : t.id.0 ≡ table_id number place
  pub fits : place < 2 ^ 64
  pub built : IsBuilt encode layout.policies layout.min_filter_keys layout.block_size layout.version t.id.0 t.bytes rows
  pub version : t.version ≡ layout.version
  pub info : HasInfo t.bytes layout.version t.id.0 (seen_info t.info)

-- place: that of the first
abbrev pub AreEncodedFrom : Encode → Layout → ℕ → ℕ → List Rows → List EncodedTable → Type 0
AreEncodedFrom encode layout number place [] [] = Unit {0}
AreEncodedFrom encode layout number place (rows ∷ parts) (t ∷ tables) = IsEncodedAt encode layout number place rows t × AreEncodedFrom encode layout number (place + 1) parts tables
AreEncodedFrom encode layout number place [] (t ∷ tables) = ⊥
AreEncodedFrom encode layout number place (rows ∷ parts) [] = ⊥

pub record AreTablesOfPlan (encode : Encode) (layout : Layout) (number : ℕ) (rows : Rows) (tables : List EncodedTable) : Type 0 where
  pub parts : List Rows
  pub cut : AreCut layout.segments layout.table_bytes rows parts
  pub made : AreEncodedFrom encode layout number 0 parts tables

-- raised: that a worker's count of faults rose
pub record IsUnbuilt (encode : Encode) (layout : Layout) (raised : Type 0) (number : ℕ) (rows : Rows) (e : SlateDBError) : Type 0 where
  pub before : List Rows
  pub table : Rows
  pub behind : List Rows
  pub cut : AreCut layout.segments layout.table_bytes rows (before ++ (table ∷ behind))
  pub tables : List EncodedTable
  pub built : AreEncodedFrom encode layout number 0 before tables
  pub cause : ((e ≡ BlockTransformError) × raised) ⊎ IsTooLarge layout table e

-- The tables of one plan, under one layout and by one encoding, are the same, byte for byte.
abbrev pub PlansAreAlike : Type 0
PlansAreAlike = (encode : Encode) (layout : Layout) (number : ℕ) (rows : Rows) (tables others : List EncodedTable) → AreTablesOfPlan encode layout number rows tables → AreTablesOfPlan encode layout number rows others →
    map bytes_by_id tables ≡ map bytes_by_id others
