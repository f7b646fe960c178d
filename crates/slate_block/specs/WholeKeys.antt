-- Keys put together from a front that stands elsewhere and a suffix.
--     IsRestored n other suffix      the front is there, and the whole is a key
use Rattle.std.specs.Prelude.{ℕ, ◌≤◌, List, length}
use Rattle.slate_block.specs.BlockSpelling.{IsKey, whole_key}

abbrev pub IsRestored : ℕ → List ℕ → List ℕ → Type 0
IsRestored n other suffix = (n ≤ length other) × IsKey (whole_key n other suffix)
