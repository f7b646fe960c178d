-- The prefixes that filters are asked for.
--     EndsBelow p      p doesn't end with byte 255
--     asked_prefix p      the prefix of a composed range, where each key of the range begins with it, whatever numbers the key has
use Rattle.std.specs.Prelude.{◌≢◌, ◌==◌, ℕ, ◌-◌, if◌then◌else◌, List, length, slice_get, slice_index, Option, Some, None}

abbrev pub EndsBelow : List ℕ → Type 0
EndsBelow p = slice_get p (length p - 1) ≢ Some 255

abbrev pub asked_prefix : List ℕ → Option (List ℕ)
asked_prefix p = if slice_index p (length p - 1) == 255 then None else Some p
