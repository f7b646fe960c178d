-- What the first steps find.
--     first_put key value      the row of the first commit's put, at moment 0 and without a time to live
use Rattle.std.specs.Prelude.{ℕ, List, None, pos}
use Rattle.slate_types.specs.declared.types.KeyValue.{KeyValue}

abbrev pub first_put : List ℕ → List ℕ → KeyValue
first_put key value = record { key = key; value = value; seq = 1; create_ts = pos 0; expire_ts = None }
