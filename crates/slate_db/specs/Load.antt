-- How much a core holds.
--     load c      how many rows are in memory: a commit adds one at most for each of its operations
--     weight c      the journal's events, with one more for whatever is open
use Rattle.std.specs.Prelude.{ℕ, ◌+◌, length, sum_by}
use Rattle.slate_db.specs.Log.{ends_of}
use Rattle.slate_db.specs.Model.{CoreModel, Rows, memory}

abbrev pub load : CoreModel → ℕ
load c = sum_by (λ (rows : Rows). length rows) (memory c)

abbrev pub weight : CoreModel → ℕ
weight c = length c.events + ends_of c.state
