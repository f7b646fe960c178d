-- The tables that a store's paths name.
--     IsNoPath root path      no table has the path
--     IsListing root paths tables others      of the paths those of tables by their ids, and all
--                            others
use Rattle.std.specs.Prelude.{◌≡◌, ℕ, ◌^◌, ◌<◌, List, ◌++◌, map}
use Rattle.std.specs.List.{AllByRecursion}
use Rattle.std.specs.List.Sorted.{IsPermutation}
use Rattle.slate_types.specs.declared.types.Ulid.{Ulid}
use Rattle.slate_table.specs.Paths.{path_of}

abbrev pub id_path : List ℕ → Ulid → List ℕ
id_path root id = path_of root id.0

abbrev pub IsNoPath : List ℕ → List ℕ → Type 0
IsNoPath root path = (id : ℕ) → id < 2 ^ 128 → path ≡ path_of root id → ⊥

pub record IsListing (root : List ℕ) (paths : List (List ℕ)) (tables : List Ulid)
    (others : List (List ℕ)) : Type 0 where
  pub all : IsPermutation paths (map (id_path root) tables ++ others)
  pub apart : AllByRecursion (IsNoPath root) others
