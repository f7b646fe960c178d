-- Ids are made from a count, from 1.
--     id_of i      the i-th id
--     IsOfCount n id      one of the first n ids
--     snapshot_id i, IsSnapshotOf n id      the i-th id of a snapshot, with the highest bit set; one of the first n of these
use Rattle.std.specs.Prelude.{◌≡◌, ℕ, ◌+◌, ◌^◌, ◌≤◌, List}
use Rattle.std.specs.Int.{w128, to_be_bytes}

abbrev pub id_of : ℕ → List ℕ
id_of i = to_be_bytes w128 i

pub record IsOfCount (n : ℕ) (id : List ℕ) : Type 0 where
  pub count : ℕ
  pub within : count ≤ n
  pub is : id ≡ id_of count

abbrev pub snapshot_id : ℕ → List ℕ
snapshot_id i = id_of (2 ^ 127 + i)

pub record IsSnapshotOf (n : ℕ) (id : List ℕ) : Type 0 where
  pub count : ℕ
  pub within : count ≤ n
  pub is : id ≡ snapshot_id count
