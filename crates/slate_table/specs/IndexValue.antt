-- What an index is seen as.
--     entries_of index      the offsets and the separators, in their order
use Rattle.std.specs.Prelude.{ℕ, List, map}
use Rattle.slate_table.specs.IndexReading.{entry_in}
use Rattle.slate_table.specs.declared.sst_index.SstIndex.{SstIndex}

abbrev pub entries_of : SstIndex → List (ℕ × List ℕ)
entries_of index = map (entry_in index.bytes) index.places.items
