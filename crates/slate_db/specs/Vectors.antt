-- Paths, computed.
--     FirstPaths      the first two tables of the first flush, and the first of the second
use Rattle.std.specs.Prelude.{◌≡◌, [], ◌∷◌, codes}
use Rattle.slate_table.specs.Paths.{flush_path, paths_of_flush}

abbrev pub FirstPaths : Type 0
FirstPaths = (paths_of_flush (codes "db") 1 2 ≡ codes "db/compacted/00000000000000010000000000000000.sst" ∷ codes "db/compacted/00000000000000010000000000000001.sst" ∷ [])
    × (flush_path (codes "db") 2 0 ≡ codes "db/compacted/00000000000000020000000000000000.sst")
