-- The parts of a table, as decoders take them: relations between bytes and what they spell.
--     IsIndex end bytes entries      offsets rise from 0 and don't pass the blocks' end, separators don't fall
--     IsStats bytes stats      counts of rows, and sums of key bytes and value bytes
--     IsInfo version bytes info      the first and the last key, and where the other sections lie
--     SectionsLieBefore end info      they lie in the bytes before the end
--     IsFilters bytes filters      filters by name and bytes
use Rattle.std.specs.Prelude.{◌≡◌, ℕ, ◌+◌, ◌^◌, ◌<◌, ◌≤◌, IsTrue, List, [], ◌∷◌, ◌++◌, length, flat_map, Option, IfSome}
use Rattle.std.specs.List.{AllByRecursion}
use Rattle.slate_types.specs.Keys.{key_le}
use Rattle.slate_block.specs.RowSpelling.{be16, be32, be64}
use Rattle.slate_table.specs.Parts.{Place, info_bytes, filters_bytes}
use Rattle.slate_table.specs.Table.{FitsFilter}

-- ---- index: the offset and the separator of each block

abbrev pub entry_bytes : ℕ × List ℕ → List ℕ
entry_bytes e = be64 e.0 ++ be16 (length e.1) ++ e.1

abbrev pub FitsEntry : ℕ → ℕ × List ℕ → Type 0
FitsEntry end e = (e.0 ≤ end) × (e.0 < 2 ^ 64) × (length e.1 < 2 ^ 16)

abbrev pub RisesFrom : ℕ × List ℕ → List (ℕ × List ℕ) → Type 0
RisesFrom e [] = Unit {0}
RisesFrom e (f ∷ fs) = (e.0 < f.0) × IsTrue (key_le e.1 f.1) × RisesFrom f fs

abbrev pub RisesFromZero : List (ℕ × List ℕ) → Type 0
RisesFromZero [] = ⊥
RisesFromZero (e ∷ es) = (e.0 ≡ 0) × RisesFrom e es

pub record IsIndex (end : ℕ) (bytes : List ℕ) (entries : List (ℕ × List ℕ)) : Type 0 where
  pub few : length entries < 2 ^ 32
  pub each : AllByRecursion (FitsEntry end) entries
  pub rises : RisesFromZero entries
  pub is : bytes ≡ be32 (length entries) ++ flat_map entry_bytes entries

-- ---- statistics: puts, deletes, merges, key bytes, value bytes, and three counts for each block

pub record Counts : Type 0 where
  pub puts : ℕ
  pub deletes : ℕ
  pub merges : ℕ

pub record Stats : Type 0 where
  pub all : Counts
  pub key_bytes : ℕ
  pub value_bytes : ℕ
  pub blocks : List Counts

abbrev pub FitCounts : ℕ → Counts → Type 0
FitCounts bits c = (c.puts < 2 ^ bits) × (c.deletes < 2 ^ bits) × (c.merges < 2 ^ bits)

abbrev pub counts_bytes : (ℕ → List ℕ) → Counts → List ℕ
counts_bytes be c = be c.puts ++ be c.deletes ++ be c.merges

pub record IsStats (bytes : List ℕ) (s : Stats) : Type 0 where
  pub all : FitCounts 64 s.all
  pub keys : s.key_bytes < 2 ^ 64
  pub values : s.value_bytes < 2 ^ 64
  pub each : AllByRecursion (FitCounts 16) s.blocks
  pub few : length s.blocks < 2 ^ 32
  pub is : bytes ≡ counts_bytes be64 s.all ++ be64 s.key_bytes ++ be64 s.value_bytes ++ be32 (length s.blocks) ++ flat_map (counts_bytes be16) s.blocks

-- ---- info

pub record Info : Type 0 where
  pub first : Option (List ℕ)
  pub last : Option (List ℕ)
  pub index : Place
  pub filters : Place
  pub stats : Place

abbrev pub FitsPlace : Place → Type 0
FitsPlace p = (p.at < 2 ^ 64) × (p.len < 2 ^ 64)

abbrev pub FitsShort : Option (List ℕ) → Type 0
FitsShort k = IfSome k (λ x. length x < 2 ^ 16)

pub record IsInfo (version : ℕ) (bytes : List ℕ) (i : Info) : Type 0 where
  pub known : version < 2 ^ 16
  pub first : FitsShort i.first
  pub last : FitsShort i.last
  pub index : FitsPlace i.index
  pub filters : FitsPlace i.filters
  pub stats : FitsPlace i.stats
  pub is : bytes ≡ info_bytes version i.first i.last i.index i.filters i.stats

-- every section lies before the info, which begins at the end
abbrev pub LiesBefore : ℕ → Place → Type 0
LiesBefore end p = p.at + p.len ≤ end

abbrev pub SectionsLieBefore : ℕ → Info → Type 0
SectionsLieBefore end i = LiesBefore end i.index × LiesBefore end i.filters × LiesBefore end i.stats

-- ---- filters

pub record IsFilters (bytes : List ℕ) (fs : List (List ℕ × List ℕ)) : Type 0 where
  pub few : length fs < 2 ^ 16
  pub each : AllByRecursion FitsFilter fs
  pub is : bytes ≡ filters_bytes fs
