-- The bytes of a block, version 1, 2 or 3.
--     IsSecond version      its blocks are those of version 2
--     IsKnown version, is_known version      blocks have this version, and the test for it
--     IsKey k      a row can have the key k
--     Shares n other key      the first n bytes of key stand in other, so that they can be left out
--     whole_key n other suffix      the key whose first n bytes stand in other
--     SharesV1 first pieces rows, SharesV2 i previous pieces rows      each piece is the row, some front of its key left out
--     AreRows version pieces rows      the pieces are the rows, one by one
--     places at pieces, restarts i places, offsets_of version pieces      where pieces begin, and those places that a block names
--     IsBlockOf body offsets version rows      the rows' part and the offsets are those of a block of the rows
--     block_spelling body offsets      the bytes of both
--     IsBlock bytes version rows      bytes is a block of the rows
--     block_bytes version rows      the block in which each key shares its longest front
--     as_read version r      the row that is read where r was written
--     FitsRow r, FitsBlock version rows      the row's numbers fit their fields, and the rows fit one block
use Rattle.std.specs.Prelude.{◌≡◌, ℕ, ◌+◌, ◌%◌, ◌^◌, ◌<◌, ◌≤◌, Bool, if◌then◌else◌, ◌==◌, ◌||◌, nat_eq, List, [], ◌∷◌, ◌++◌, length, take, drop, flat_map, ◌⊎◌}
use Rattle.std.specs.List.{AllByRecursion, common_prefix_len}
use Rattle.slate_types.specs.declared.types.RowEntry.{RowEntry}
use Rattle.slate_types.specs.Rows.{operand}
use Rattle.slate_block.specs.declared.row.SstRowEntry.{SstRowEntry}
use Rattle.slate_block.specs.declared.row.SstRowEntryV2.{SstRowEntryV2}
use Rattle.slate_block.specs.RowSpelling.{be16, v1_bytes, v2_bytes, IsRowV1, IsRowV2, FitsStamp, read_expiry}

abbrev pub IsSecond : ℕ → Type 0
IsSecond version = (version ≡ 2) ⊎ (version ≡ 3)

abbrev pub IsKnown : ℕ → Type 0
IsKnown version = (version ≡ 1) ⊎ IsSecond version

abbrev pub is_known : ℕ → Bool
is_known version = version == 1 || (version == 2 || version == 3)

-- a key that a row can have
abbrev pub IsKey : List ℕ → Type 0
IsKey k = (0 < length k) × (length k < 2 ^ 16)

-- a row whose first n bytes of key are left out
abbrev pub entry_v1 : ℕ → RowEntry → SstRowEntry
entry_v1 n r = record { key_prefix_len = n; key_suffix = drop n r.key; seq = r.seq; expire_ts = r.expire_ts; create_ts = r.create_ts; value = r.value }

abbrev pub entry_v2 : ℕ → RowEntry → SstRowEntryV2
entry_v2 n r = record { shared_bytes = n; key_suffix = drop n r.key; seq = r.seq; expire_ts = r.expire_ts; create_ts = r.create_ts; value = r.value }

-- n bytes can be left out of the key where they stand in the other
abbrev pub Shares : ℕ → List ℕ → List ℕ → Type 0
Shares n other key = (n ≤ length other) × (n ≤ length key) × (take n other ≡ take n key)

abbrev pub whole_key : ℕ → List ℕ → List ℕ → List ℕ
whole_key n other suffix = take n other ++ suffix

abbrev pub SharesV1 : List ℕ → List (List ℕ) → List RowEntry → Type 0
SharesV1 first [] [] = Unit {0}
SharesV1 first (b ∷ bs) (r ∷ rs) = ((n : ℕ) × Shares n first r.key × IsRowV1 b (entry_v1 n r)) × SharesV1 first bs rs
SharesV1 first [] (r ∷ rs) = ⊥
SharesV1 first (b ∷ bs) [] = ⊥

-- every 16th row shares nothing
abbrev pub is_restart : ℕ → Bool
is_restart i = i % 16 == 0

abbrev pub shared_with : ℕ → List ℕ → List ℕ
shared_with i previous = if is_restart i then [] else previous

abbrev pub SharesV2 : ℕ → List ℕ → List (List ℕ) → List RowEntry → Type 0
SharesV2 i previous [] [] = Unit {0}
SharesV2 i previous (b ∷ bs) (r ∷ rs) = ((n : ℕ) × Shares n (shared_with i previous) r.key × IsRowV2 b (entry_v2 n r)) × SharesV2 (i + 1) r.key bs rs
SharesV2 i previous [] (r ∷ rs) = ⊥
SharesV2 i previous (b ∷ bs) [] = ⊥

-- where each of the pieces begins, and those of every 16th
abbrev pub places : ℕ → List (List ℕ) → List ℕ
places at [] = []
places at (b ∷ bs) = at ∷ places (at + length b) bs

abbrev pub restarts : ℕ → List ℕ → List ℕ
restarts i [] = []
restarts i (at ∷ ats) = (if is_restart i then at ∷ [] else []) ++ restarts (i + 1) ats

abbrev pub offsets_of : ℕ → List (List ℕ) → List ℕ
offsets_of version bs = if version == 1 then places 0 bs else restarts 0 (places 0 bs)

-- the rows, spelled one by one; the first shares nothing
abbrev pub AreRows : ℕ → List (List ℕ) → List RowEntry → Type 0
AreRows version bs [] = ⊥
AreRows version bs (r ∷ rs) = ((version ≡ 1) × (first : List ℕ) × (rest : List (List ℕ)) × (bs ≡ first ∷ rest) × IsRowV1 first (entry_v1 0 r) × SharesV1 r.key rest rs)
    ⊎ (IsSecond version × SharesV2 0 [] bs (r ∷ rs))

-- the rows' part and the offsets; the pieces are determined by both, as both are by the pieces
pub record IsBlockOf (body : List ℕ) (offsets : List ℕ) (version : ℕ) (rows : List RowEntry) : Type 0 where
  pub pieces : List (List ℕ)
  pub are_rows : AreRows version pieces rows
  pub keys : AllByRecursion (λ r. IsKey r.key) rows
  pub is_body : body ≡ flat_map (λ b. b) pieces
  pub are_offsets : offsets ≡ offsets_of version pieces
  pub fit : AllByRecursion (λ at. at < 2 ^ 16) offsets
  pub few : length offsets < 2 ^ 16

-- the rows' part, the offsets, and their count
abbrev pub block_spelling : List ℕ → List ℕ → List ℕ
block_spelling body offsets = body ++ flat_map be16 offsets ++ be16 (length offsets)

abbrev pub IsBlock : List ℕ → ℕ → List RowEntry → Type 0
IsBlock bytes version rows = (body : List ℕ) × (offsets : List ℕ) × IsBlockOf body offsets version rows × (bytes ≡ block_spelling body offsets)

-- ---- the block with longest fronts

abbrev pub longest : List ℕ → List ℕ → ℕ
longest a b = common_prefix_len nat_eq a b

abbrev pub spelled_v1 : List ℕ → List RowEntry → List (List ℕ)
spelled_v1 first [] = []
spelled_v1 first (r ∷ rs) = v1_bytes (entry_v1 (longest first r.key) r) ∷ spelled_v1 first rs

abbrev pub spelled_v2 : ℕ → List ℕ → List RowEntry → List (List ℕ)
spelled_v2 i previous [] = []
spelled_v2 i previous (r ∷ rs) = v2_bytes (entry_v2 (longest (shared_with i previous) r.key) r) ∷ spelled_v2 (i + 1) r.key rs

abbrev pub spelled : ℕ → List RowEntry → List (List ℕ)
spelled version [] = []
spelled version (r ∷ rs) = if version == 1 then v1_bytes (entry_v1 0 r) ∷ spelled_v1 r.key rs else spelled_v2 0 [] (r ∷ rs)

abbrev pub block_bytes : ℕ → List RowEntry → List ℕ
block_bytes version rows = block_spelling (flat_map (λ b. b) (spelled version rows)) (offsets_of version (spelled version rows))

-- as version 1 reads a row: a tombstone has no expiry
abbrev pub as_read : ℕ → RowEntry → RowEntry
as_read version r = if version == 1 then record r { expire_ts = read_expiry r.value r.expire_ts } else r

-- ---- what fits

pub record FitsRow (r : RowEntry) : Type 0 where
  pub key : IsKey r.key
  pub value : length (operand r) < 2 ^ 32
  pub seq : r.seq < 2 ^ 64
  pub create : FitsStamp r.create_ts
  pub expire : FitsStamp r.expire_ts

-- rows that one block can hold, spelled with longest fronts; there is at least one
pub record FitsBlock (version : ℕ) (rows : List RowEntry) : Type 0 where
  pub some : 0 < length rows
  pub counted : length rows < 2 ^ 16
  pub each : AllByRecursion FitsRow rows
  pub fit : AllByRecursion (λ at. at < 2 ^ 16) (offsets_of version (spelled version rows))
  pub few : length (offsets_of version (spelled version rows)) < 2 ^ 16
