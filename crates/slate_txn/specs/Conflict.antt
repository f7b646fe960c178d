-- Which commits a transaction's commit conflicts with.
--     tracked_writes t      the keys of its batch, less its unmarked keys
--     reads t      what it read, at the serializable level alone
--     conflict cs t      the greatest sequence above its begin of a commit that tracks a key of its sets
use Rattle.std.specs.Prelude.{ℕ, Bool, not, ◌&&◌, ◌||◌, max, nat_lt, List, [], ◌∷◌, ◌++◌, map, filter, Option, Some, None}
use Rattle.std.specs.List.{list_any}
use Rattle.slate_types.specs.declared.config.IsolationLevel.{IsolationLevel}
use Rattle.slate_types.specs.declared.config.IsolationLevel.TheVariants.{Snapshot, SerializableSnapshot}
use Rattle.slate_types.specs.Keys.{among}
use Rattle.slate_mem.specs.Batch.{batch_keys}
use Rattle.slate_txn.specs.declared.event.TranscriptStep.{TranscriptStep}
use Rattle.slate_txn.specs.State.{Commit, Tx}
use Rattle.slate_txn.specs.Tracking.{Reading, reads_of, nothing_read, is_read}

abbrev pub tracked_writes : Tx → List (List ℕ)
tracked_writes t = filter (λ k. not (among k t.unmarked)) (batch_keys t.ops)

abbrev pub reads_at : IsolationLevel → List TranscriptStep → Reading
reads_at Snapshot ts = nothing_read
reads_at SerializableSnapshot ts = reads_of ts

abbrev pub reads : Tx → Reading
reads t = reads_at t.level t.transcript

-- some tracked key of the commit is in the sets
abbrev pub meets : List (List ℕ) → Reading → Commit → Bool
meets keys rs c = list_any (λ k. among k keys || is_read rs k) c.tracked

abbrev pub with_greatest : ℕ → Option ℕ → Option ℕ
with_greatest n None = Some n
with_greatest n (Some m) = Some (max n m)

abbrev pub greatest : List ℕ → Option ℕ
greatest [] = None
greatest (n ∷ ns) = with_greatest n (greatest ns)

abbrev pub conflict_of : List Commit → ℕ → List (List ℕ) → Reading → Option ℕ
conflict_of cs begin keys rs = greatest (map (λ c. c.seq) (filter (λ c. nat_lt begin c.seq && meets keys rs c) cs))

abbrev pub conflict : List Commit → Tx → Option ℕ
conflict cs t = conflict_of cs t.begin (tracked_writes t ++ t.marked) (reads t)
