-- How names of policies are tested.
--     are_apart names      each has less than 2 ^ 16 bytes, and none stands twice
use Rattle.std.specs.Prelude.{ℕ, Bool, true, nat_lt, not, ◌&&◌, ◌^◌, List, [], ◌∷◌, length}
use Rattle.slate_types.specs.Keys.{among}

abbrev pub are_apart : List (List ℕ) → Bool
are_apart [] = true
are_apart (n ∷ ns) = (nat_lt (length n) (2 ^ 16) && not (among n ns)) && are_apart ns
