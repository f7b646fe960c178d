-- What contracts see of the managers, and which commits a manager of transactions stands for.
--     Active      what is tracked of an open transaction: its start, its written and its read keys, and ranges
--     Manager      the last sequence, the number of ids, the open transactions, and of each key the sequence of its last tracked write
--     untracked n      of a transaction that began at a sequence, and tracks nothing yet
--     least_start ps      the least start, where something is open
--     StandsFor m cs      the manager stands for these commits, whatever it keeps of them
--     conflict_among cs o      what a tracked transaction conflicts with, of these commits
--     verdict m id      the same of what is kept
--     Snapshots      the manager of snapshots: the number for snapshots without one of their own, the number of ids, and what is open
--     least_seq ps      the least sequence
use Rattle.std.specs.Prelude.{◌≡◌, ℕ, ◌≤◌, min, Bool, true, false, ◌&&◌, ◌||◌, if◌then◌else◌, nat_lt, List, [], ◌∷◌, ◌++◌, map, filter, Option, Some, None, IfSome}
use Rattle.std.specs.List.{AllByRecursion}
use Rattle.slate_types.specs.declared.bytes_range.BytesRange.{BytesRange}
use Rattle.slate_types.specs.Keys.{among}
use Rattle.slate_txn.specs.State.{Commit}
use Rattle.slate_txn.specs.Conflict.{with_greatest, greatest, conflict_of}
use Rattle.slate_txn.specs.Named.{find_named}
use Rattle.slate_txn.specs.Tracking.{Reading, is_read}

pub record Active : Type 0 where
  pub start : ℕ
  pub writes : List (List ℕ)
  pub reads : List (List ℕ)
  pub ranges : List BytesRange

pub record Manager : Type 0 where
  pub last : ℕ
  pub ids : ℕ
  pub active : List (List ℕ × Active)
  pub kept : List (List ℕ × ℕ)

abbrev pub empty_manager : ℕ → Manager
empty_manager n = record { last = n; ids = 0; active = []; kept = [] }

abbrev pub untracked : ℕ → Active
untracked n = record { start = n; writes = []; reads = []; ranges = [] }

abbrev pub with_least : ℕ → Option ℕ → Option ℕ
with_least n None = Some n
with_least n (Some m) = Some (min n m)

abbrev pub least_start : List (List ℕ × Active) → Option ℕ
least_start [] = None
least_start (p ∷ ps) = with_least p.1.start (least_start ps)

-- ---- standing for commits

-- the sequence, where it is above s
abbrev pub above : ℕ → Option ℕ → Option ℕ
above s None = None
above s (Some n) = if nat_lt s n then Some n else None

-- the greatest sequence above s with which a commit tracks the key
abbrev pub latest : ℕ → List Commit → List ℕ → Option ℕ
latest s cs k = greatest (map (λ c. c.seq) (filter (λ c. nat_lt s c.seq && among k c.tracked) cs))

-- above s, what is kept of each key is what the commits have of it
abbrev pub KeepsAbove : ℕ → List (List ℕ × ℕ) → List Commit → Type 0
KeepsAbove s kept cs = (k : List ℕ) → above s (find_named k kept) ≡ latest s cs k

abbrev pub AllUpTo : ℕ → List Commit → Type 0
AllUpTo n cs = AllByRecursion (λ c. c.seq ≤ n) cs

-- where nothing is open, only the first rule is asked
abbrev pub StandsFor : Manager → List Commit → Type 0
StandsFor m cs = AllUpTo m.last cs × IfSome (least_start m.active) (λ s. KeepsAbove s m.kept cs)

-- ---- conflicts

-- the transaction's reads, as a conflict takes them: a range takes in its keys, as that of a view does
abbrev pub reading_of : Active → Reading
reading_of t = record { keys = t.reads; scans = []; views = t.ranges }

abbrev pub conflict_among : List Commit → Option Active → Option ℕ
conflict_among cs None = None
conflict_among cs (Some t) = conflict_of cs t.start t.writes (reading_of t)

abbrev pub is_tracked : Active → List ℕ → Bool
is_tracked t k = among k t.writes || is_read (reading_of t) k

-- the greatest sequence above s that is kept of a key that passes the test
abbrev pub newest_kept : (List ℕ → Bool) → ℕ → List (List ℕ × ℕ) → Option ℕ
newest_kept p s [] = None
newest_kept p s (e ∷ es) = if nat_lt s e.1 && p e.0 then with_greatest e.1 (newest_kept p s es) else newest_kept p s es

abbrev pub verdict_of : List (List ℕ × ℕ) → Option Active → Option ℕ
verdict_of kept None = None
verdict_of kept (Some t) = newest_kept (is_tracked t) t.start kept

abbrev pub verdict : Manager → List ℕ → Option ℕ
verdict m id = verdict_of m.kept (find_named id m.active)

abbrev pub later : Option ℕ → Option ℕ → Option ℕ
later None o = o
later (Some n) o = with_greatest n o

-- ---- keeping a commit

-- what is found of a key once the commit of a sequence has kept its keys
abbrev pub written : ℕ → Bool → Option ℕ → Option ℕ
written n true o = Some n
written n false o = o

-- the keys are kept with the sequence, and of others what was kept
abbrev pub IsWritten : ℕ → List (List ℕ) → List (List ℕ × ℕ) → List (List ℕ × ℕ) → Type 0
IsWritten n ks es fs = (k : List ℕ) → find_named k fs ≡ written n (among k ks) (find_named k es)

abbrev pub writes_at : Option Active → List (List ℕ)
writes_at None = []
writes_at (Some t) = t.writes

-- the commit's tracked keys are these, and this is its sequence
abbrev pub IsCommitOf : ℕ → List (List ℕ) → Commit → Type 0
IsCommitOf n ks c = (c.seq ≡ n) × (c.tracked ≡ ks)

-- the commits, and this one where the transaction is open
abbrev pub with_commit : List Commit → Commit → Option Active → List Commit
with_commit cs c None = cs
with_commit cs c (Some t) = cs ++ (c ∷ [])

-- ---- snapshots

pub record Snapshots : Type 0 where
  pub last : ℕ
  pub ids : ℕ
  pub active : List (List ℕ × ℕ)

abbrev pub least_seq : List (List ℕ × ℕ) → Option ℕ
least_seq [] = None
least_seq (p ∷ ps) = with_least p.1 (least_seq ps)

abbrev pub no_snapshots : ℕ → Snapshots
no_snapshots n = record { last = n; ids = 0; active = [] }

abbrev pub sooner_of : Option ℕ → ℕ → Option ℕ
sooner_of None n = Some n
sooner_of (Some m) n = Some (min m n)
