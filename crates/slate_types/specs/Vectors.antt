-- Searches and sizes, computed.
--     Partitions      searches over two partitions, which begin at aaaa and at bbbb
--     Sizes      how many bytes a row is counted with
use Rattle.std.specs.Prelude.{◌≡◌, ℕ, List, [], ◌∷◌, Some, None, codes}
use Rattle.std.specs.declared.ops.Bound.TheVariants.{Included, Excluded}
use Rattle.slate_types.specs.declared.types.ValueDeletable.{ValueDeletable}
use Rattle.slate_types.specs.declared.types.ValueDeletable.TheVariants.{Value, Tombstone}
use Rattle.slate_types.specs.declared.types.RowEntry.{RowEntry}
use Rattle.slate_types.specs.Partitions.{first_including, last_including, covering_start, covering_end}
use Rattle.slate_types.specs.Rows.{encoded_size}

abbrev pub first_keys : List (List ℕ)
first_keys = codes "aaaa" ∷ codes "bbbb" ∷ []

abbrev pub Partitions : Type 0
Partitions = (first_including first_keys (0 ∷ 0 ∷ 0 ∷ []) ≡ None) × (last_including first_keys (0 ∷ 0 ∷ 0 ∷ []) ≡ None)
    × (first_including first_keys (codes "aaaa") ≡ Some 0) × (last_including first_keys (codes "aaaa") ≡ Some 0)
    × (first_including first_keys (codes "bbbb") ≡ Some 0) × (last_including first_keys (codes "bbbb") ≡ Some 1)
    × (first_including first_keys (codes "bbbbbla") ≡ Some 1) × (last_including first_keys (codes "bbbbbla") ≡ Some 1)
    × (covering_start first_keys (Included (codes "aaaa")) ≡ 0) × (covering_end first_keys 0 (Excluded (codes "bbbb")) ≡ 1)

abbrev pub row_of : ValueDeletable → RowEntry
row_of value = record { key = codes "hello"; value = value; seq = 1; create_ts = None; expire_ts = None }

abbrev pub Sizes : Type 0
Sizes = (encoded_size 0 (row_of Tombstone) ≡ 18) × (encoded_size 2 (row_of Tombstone) ≡ 16) × (encoded_size 4 (row_of Tombstone) ≡ 14)
    × (encoded_size 0 (row_of (Value (codes "val"))) ≡ 25) × (encoded_size 2 (row_of (Value (codes "val"))) ≡ 23) × (encoded_size 4 (row_of (Value (codes "val"))) ≡ 21)
