-- What readers of the parts of a table find. Each statement is proved in src/reading_laws.rt.
--     StatsAreRead      the statistics that are read are those of these bytes, and nothing is refused exactly where there are such
--     InfosAreRead      the same of an info in a version, whose sections lie before an end
--     FiltersAreRead      the same of the filters of a part
use Rattle.std.specs.Prelude.{◌≡◌, ◌↔◌, ℕ, List, Ok}
use Rattle.slate_block.specs.ReadingLaws.{EachIsAByte}
use Rattle.slate_table.specs.Decoded.{Stats, IsStats, Info, IsInfo, IsFilters, SectionsLieBefore}
use Rattle.slate_table.specs.StatsReading.{stats_in}
use Rattle.slate_table.specs.InfoReading.{info_in}
use Rattle.slate_table.specs.FiltersReading.{filters_in}

abbrev pub StatsAreRead : Type 0
StatsAreRead = (bytes : List ℕ) (stats : Stats) → EachIsAByte bytes → (stats_in bytes ≡ Ok stats) ↔ IsStats bytes stats

abbrev pub InfosAreRead : Type 0
InfosAreRead = (version end : ℕ) (bytes : List ℕ) (info : Info) → EachIsAByte bytes → (info_in version end bytes ≡ Ok info) ↔ (IsInfo version bytes info × SectionsLieBefore end info)

abbrev pub FiltersAreRead : Type 0
FiltersAreRead = (bytes : List ℕ) (filters : List (List ℕ × List ℕ)) → EachIsAByte bytes → (filters_in bytes ≡ Ok filters) ↔ IsFilters bytes filters
