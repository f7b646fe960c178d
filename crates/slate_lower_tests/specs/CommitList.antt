-- A plain list of commits.
--     Tracks      of each commit its sequence, and the keys that it tracks
--     Lists list cs      the list has these commits
--     newest_tracked p start list      the greatest sequence above the start of a commit that tracks a key which passes the test
use Rattle.std.specs.Prelude.{◌≡◌, ℕ, Bool, ◌&&◌, if◌then◌else◌, nat_lt, List, [], ◌∷◌, map, Option, None}
use Rattle.std.specs.List.{list_any}
use Rattle.slate_txn.specs.Conflict.{with_greatest}
use Rattle.slate_txn.specs.State.{Commit}

abbrev pub Tracks : Type 0
Tracks = List (ℕ × List (List ℕ))

abbrev pub Lists : Tracks → List Commit → Type 0
Lists list cs = list ≡ map (λ c. (c.seq, c.tracked)) cs

abbrev pub newest_tracked : (List ℕ → Bool) → ℕ → Tracks → Option ℕ
newest_tracked p start [] = None
newest_tracked p start (c ∷ cs) = if nat_lt start c.0 && list_any p c.1 then with_greatest c.0 (newest_tracked p start cs) else newest_tracked p start cs
