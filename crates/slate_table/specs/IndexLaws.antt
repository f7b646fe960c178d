-- What readers of an index find. Each statement is proved in src/reading_laws.rt.
--     IndexesAreRead      the entries that are read are those of an index of these bytes, and nothing is refused exactly where there are such
use Rattle.std.specs.Prelude.{◌≡◌, ◌↔◌, ℕ, List, Ok}
use Rattle.slate_block.specs.ReadingLaws.{EachIsAByte}
use Rattle.slate_table.specs.Decoded.{IsIndex}
use Rattle.slate_table.specs.IndexReading.{index_of}

abbrev pub IndexesAreRead : Type 0
IndexesAreRead = (end : ℕ) (bytes : List ℕ) (entries : List (ℕ × List ℕ)) → EachIsAByte bytes → (index_of end bytes ≡ Ok entries) ↔ IsIndex end bytes entries
