-- Groups of a number, read one by one.
--     completed weight low index found      the number whose groups so far are low, where those that follow were found; their length too
use Rattle.std.specs.Prelude.{ℕ, ◌+◌, ◌*◌, if◌then◌else◌, nat_lt, ◌==◌, ◌&&◌, Option, Some, None}

abbrev pub completed : ℕ → ℕ → ℕ → Option (ℕ × ℕ) → Option (ℕ × ℕ)
completed weight low index None = None
completed weight low index (Some high) = if nat_lt 0 index && high.0 == 0 then None else Some (low + weight * high.0, index + high.1)
