-- Laws, each the contract of a function of `laws`.
--     ConflictsNeedACommit, FewerKeysFewerConflicts      of conflicts
--     StaysAsItWas, ScansStay, SeesTheState      of reads
--     StaysAlone, AloneGoesOn, EachIsVouched      of transcripts
--     ScansGoOn, ScansLeftStay      of what a transcript's scans have left
--     StorageIsSilent, GoesOn, WritesWhatIsKept      of replies
--     SequencesCount, CommitsAreMade, EachNameOnce, FindsEach      of states that lines and legal journals make
--     EventsReplay, EventsAreLegal, EventsAreVouched      of the events of lines
--     StandsAtItsPlace, EachStandsAtItsPlace      of the commits of legal journals
--     StatesAtEachSequence, CommitShows, RowsAreSeen      of what a commit adds to the states, and of the rows of a scan
--     shown_after r cs c k ops      the row of a key after one commit more, by what that commit keeps of the key
--     NoOperatorIsLawful      of what stands where no operator is set
use Rattle.std.specs.Prelude.{◌≡◌, ℕ, ◌+◌, ◌≤◌, ◌<◌, Bool, true, false, not, if◌then◌else◌, nat_le, filter, map, length, List, [], ◌∷◌, ◌++◌, Option, Some, None, ℤ}
use Rattle.std.specs.List.{AllByRecursion, list_any}
use Rattle.slate_types.specs.declared.bytes_range.BytesRange.{BytesRange}
use Rattle.slate_types.specs.declared.config.IsolationLevel.TheVariants.{SerializableSnapshot}
use Rattle.slate_types.specs.declared.iter.IterationOrder.{IterationOrder}
use Rattle.slate_types.specs.declared.types.Ulid.{Ulid}
use Rattle.slate_types.specs.declared.types.RowEntry.{RowEntry}
use Rattle.slate_types.specs.Fold.{IsShort, operator_at, shown}
use Rattle.slate_mem.specs.declared.WriteOp.{WriteOp}
use Rattle.slate_mem.specs.declared.WriteOp.TheVariants.{Put, Delete}
use Rattle.slate_mem.specs.Batch.{Ops, kept, kept_ops}
use Rattle.slate_mem.specs.RowOf.{op_row}
use Rattle.slate_txn.specs.declared.line.Line.{Line}
use Rattle.slate_txn.specs.declared.line.Line.TheVariants as lines
use Rattle.slate_txn.specs.declared.event.Event.{Event}
use Rattle.slate_txn.specs.declared.event.Event.TheVariants as events
use Rattle.slate_txn.specs.declared.event.TranscriptStep.{TranscriptStep}
use Rattle.slate_txn.specs.Named.{find_named}
use Rattle.slate_txn.specs.State.{Rules, Commit, Tx, State, combine_at, opening, last, last_of, NamesStandOnce}
use Rattle.slate_txn.specs.Reads.{key_rows, state_at, seen, rows_seen, up_to}
use Rattle.slate_txn.specs.Conflict.{conflict, conflict_of}
use Rattle.slate_txn.specs.Tracking.{Reading, reads_of}
use Rattle.slate_mem.specs.Refusals.{first_refusal, op_refusal}
use Rattle.slate_mem.specs.BatchModel.{is_merge_op}
use Rattle.slate_txn.specs.Reply.{Reply}
use Rattle.slate_txn.specs.Step.{step, answers, after, write}
use Rattle.slate_txn.specs.Replay.{apply_all, replay, IsLegal, NewIds, AreKept, AreKeysOf}
use Rattle.slate_txn.specs.Events.{as_replayed, line_events, all_events}
use Rattle.slate_txn.specs.Alone.{IsAlone, IsVouched, AloneFrom, own_of, scans_after, scans_left}
use Rattle.slate_txn.specs.Vouched.{VouchedAt, AreVouched, TracksReads, AreAlone}

-- Where nothing was committed since it began, a transaction has no conflict.
abbrev pub ConflictsNeedACommit : Type 0
ConflictsNeedACommit = (cs : List Commit) (t : Tx) → AllByRecursion (λ c. c.seq ≤ t.begin) cs → conflict cs t ≡ None

-- No commit after its begin is seen by a reader: later commits change no get, whatever operations of its own the reader has.
abbrev pub StaysAsItWas : Type 0
StaysAsItWas = (r : Rules) (cs later : List Commit) (n : ℕ) (ops : Ops) (k : List ℕ) → AllByRecursion (λ c. n < c.seq) later →
    (state_at r (cs ++ later) n k ≡ state_at r cs n k) × (seen r (cs ++ later) n ops k ≡ seen r cs n ops k)

-- Later commits change no scan: no commit after its begin is among a reader's rows.
abbrev pub ScansStay : Type 0
ScansStay = (r : Rules) (cs later : List Commit) (n : ℕ) (ops : Ops) (order : IterationOrder) (range : BytesRange) → AllByRecursion (λ c. n < c.seq) later →
    rows_seen r (cs ++ later) n ops order range ≡ rows_seen r cs n ops order range

-- A reader without operations of its own, as a snapshot's is, sees the state at its sequence.
abbrev pub SeesTheState : Type 0
SeesTheState = (r : Rules) (cs : List Commit) (n : ℕ) (k : List ℕ) → seen r cs n [] k ≡ state_at r cs n k

-- Later commits leave a transcript alone.
abbrev pub StaysAlone : Type 0
StaysAlone = (r : Rules) (cs later : List Commit) (n : ℕ) (ts : List TranscriptStep) → AllByRecursion (λ c. n < c.seq) later → IsAlone r cs n ts → IsAlone r (cs ++ later) n ts

-- More steps of a transcript are judged under the own operations, and from the rows of its scans, that the first ones leave.
abbrev pub AloneGoesOn : Type 0
AloneGoesOn = (r : Rules) (cs : List Commit) (n : ℕ) (ts more : List TranscriptStep) →
    (IsAlone r cs n ts → AloneFrom r cs n (own_of ts) (scans_left r cs n ts) more → IsAlone r cs n (ts ++ more))
    × (IsAlone r cs n (ts ++ more) → IsAlone r cs n ts)
    × (IsAlone r cs n (ts ++ more) → AloneFrom r cs n (own_of ts) (scans_left r cs n ts) more)

-- What scans have left behind more steps is had from the own operations, and from what the scans had left, before these steps.
abbrev pub ScansGoOn : Type 0
ScansGoOn = (r : Rules) (cs : List Commit) (n : ℕ) (ts more : List TranscriptStep) →
    scans_left r cs n (ts ++ more) ≡ scans_after r cs n (own_of ts) (scans_left r cs n ts) more

-- Later commits leave it alone.
abbrev pub ScansLeftStay : Type 0
ScansLeftStay = (r : Rules) (cs later : List Commit) (n : ℕ) (ts : List TranscriptStep) → AllByRecursion (λ c. n < c.seq) later →
    scans_left r (cs ++ later) n ts ≡ scans_left r cs n ts

-- After any lines the transcript of each open transaction is vouched.
abbrev pub EachIsVouched : Type 0
EachIsVouched = (r : Rules) (ls : List Line) → AllByRecursion (λ p. IsVouched r (after r opening ls).commits p.1) (after r opening ls).txns

-- a freeze or a flush
abbrev pub is_storage : Line → Bool
is_storage lines.Freeze = true
is_storage lines.Flush = true
is_storage _ = false

-- the replies to the other lines
abbrev pub other_answers : Rules → State → List Line → List Reply
other_answers r s [] = []
other_answers r s (l ∷ ls) = (if is_storage l then [] else (step r s l).1 ∷ []) ++ other_answers r (step r s l).0 ls

-- Taking freezes and flushes out changes no other reply.
abbrev pub StorageIsSilent : Type 0
StorageIsSilent = (r : Rules) (s : State) (ls : List Line) → answers r s (filter (λ l. not (is_storage l)) ls) ≡ other_answers r s ls

-- The replies to lines and more lines are those to the first, and then those to the others from the state after them.
abbrev pub GoesOn : Type 0
GoesOn = (r : Rules) (s : State) (ls more : List Line) → answers r s (ls ++ more) ≡ answers r s ls ++ answers r (after r s ls) more

-- each commit's sequence is one more than the one before, from n
abbrev pub Counts : ℕ → List Commit → Type 0
Counts n [] = Unit {0}
Counts n (c ∷ cs) = (c.seq ≡ n + 1) × Counts c.seq cs

-- In a legal journal sequences count by one, and so they do after any lines.
abbrev pub SequencesCount : Type 0
SequencesCount = (r : Rules) → ((es : List Event) → IsLegal r.start_seq es → Counts r.start_seq (replay es).commits)
    × ((ls : List Line) → Counts r.start_seq (after r opening ls).commits)

-- A line's events make of what a journal knows of the state what it knows of the state after the line. So they do for all lines from the start.
abbrev pub EventsReplay : Type 0
EventsReplay = (r : Rules) (tables : List (Ulid × List ℕ)) →
    ((s : State) (l : Line) → NamesStandOnce s → apply_all (as_replayed s) (line_events tables s l (step r s l).1) ≡ as_replayed (step r s l).0)
    × ((ls : List Line) → replay (all_events r tables opening ls) ≡ as_replayed (after r opening ls))

-- The events of lines are legal where no name is used twice.
abbrev pub EventsAreLegal : Type 0
EventsAreLegal = (r : Rules) (tables : List (Ulid × List ℕ)) (ls : List Line) → NewIds [] (all_events r tables opening ls) → IsLegal r.start_seq (all_events r tables opening ls)

-- Each commit's transcript is answered as it is at its transaction's begin.
abbrev pub EventsAreVouched : Type 0
EventsAreVouched = (r : Rules) (tables : List (Ulid × List ℕ)) (ls : List Line) → AreVouched r (all_events r tables opening ls)

-- A transaction that conflicts by none of more keys conflicts by none of fewer.
abbrev pub FewerKeysFewerConflicts : Type 0
FewerKeysFewerConflicts = (cs : List Commit) (begin : ℕ) (keys more : List (List ℕ)) (read : Reading) → conflict_of cs begin (keys ++ more) read ≡ None → conflict_of cs begin keys read ≡ None

-- A commit's operations are kept ones, at least one, and it tracks keys of theirs, rising, each once.
pub record IsMade (c : Commit) : Type 0 where
  pub some : 0 < length c.ops
  pub kept : AreKept c.ops
  pub keys : AreKeysOf c.ops c.tracked

-- So are all commits of a legal journal, and all after any lines.
abbrev pub CommitsAreMade : Type 0
CommitsAreMade = ((n0 : ℕ) (es : List Event) → IsLegal n0 es → AllByRecursion IsMade (replay es).commits) × ((r : Rules) (ls : List Line) → AllByRecursion IsMade (after r opening ls).commits)

-- In the state of a legal journal and after any lines, names stand once.
abbrev pub EachNameOnce : Type 0
EachNameOnce = ((n0 : ℕ) (es : List Event) → IsLegal n0 es → NamesStandOnce (replay es)) × ((r : Rules) (ls : List Line) → NamesStandOnce (after r opening ls))

-- Where names stand once, each transaction and each snapshot is found under its name.
abbrev pub FindsEach : Type 0
FindsEach = (s : State) → NamesStandOnce s → AllByRecursion (λ p. find_named p.0 s.txns ≡ Some p.1) s.txns × AllByRecursion (λ p. find_named p.0 s.snapshots ≡ Some p.1) s.snapshots

-- A write knows of its operations no more than the first of their own refusals, the kept ones, and whether one is a merge.
abbrev pub WritesWhatIsKept : Type 0
WritesWhatIsKept = (r : Rules) (s : State) (ops others : Ops) →
    first_refusal (map (λ o. op_refusal o.0 o.1) ops) ≡ first_refusal (map (λ o. op_refusal o.0 o.1) others) →
    kept_ops ops ≡ kept_ops others → list_any is_merge_op ops ≡ list_any is_merge_op others → write r s ops ≡ write r s others

-- What stands where there is no operator keeps a first operand, is associative, and keeps values short.
abbrev pub NoOperatorIsLawful : Type 0
NoOperatorIsLawful = (k : List ℕ) →
    ((v : List ℕ) → operator_at None k None v ≡ v)
    × ((u v w : List ℕ) → operator_at None k (Some (operator_at None k (Some u) v)) w ≡ operator_at None k (Some u) (operator_at None k (Some v) w))
    × ((u : Option (List ℕ)) (v : List ℕ) → IsShort v → IsShort (operator_at None k u v))

-- Serializable at its place. In a legal journal take a commit of a serializable transaction, whose transcript was answered as it is at its begin.
-- Where each commit since then tracks what it wrote of the keys that this one read, all answers are those of a reader who begins just
-- before the commit: whole rows, with their sequences and stamps.
abbrev pub StandsAtItsPlace : Type 0
StandsAtItsPlace = (r : Rules) (before later : List Event) (id : List ℕ) (n : Option ℕ) (now : ℤ) (ops : Ops) (tracked : List (List ℕ)) (ts : List TranscriptStep) (t : Tx) →
    IsLegal r.start_seq (before ++ (events.Commit id n now ops tracked ts ∷ later)) → VouchedAt r (replay before) (events.Commit id n now ops tracked ts) →
    find_named id (replay before).txns ≡ Some t → t.level ≡ SerializableSnapshot → TracksReads (replay before).commits t.begin (reads_of ts) →
    IsAlone r (replay before).commits (last r (replay before)) ts

-- So it is with each commit of a legal journal whose transcripts are all answered as they are at their begins.
abbrev pub EachStandsAtItsPlace : Type 0
EachStandsAtItsPlace = (r : Rules) (es : List Event) → IsLegal r.start_seq es → AreVouched r es → AreAlone r es

-- At a sequence from the last one on all commits stand in the state, and one commit more stands there from its own sequence on.
abbrev pub StatesAtEachSequence : Type 0
StatesAtEachSequence = (n0 n : ℕ) (cs : List Commit) (c : Commit) → Counts n0 cs →
    (last_of n0 cs ≤ n → up_to n cs ≡ cs) × (up_to n (cs ++ (c ∷ [])) ≡ up_to n cs ++ (if nat_le c.seq n then c ∷ [] else []))

-- a put and a delete hide all that stood there, and merges are combined with it
abbrev pub shown_after : Rules → List Commit → Commit → List ℕ → List WriteOp → Option RowEntry
shown_after r cs c k [] = state_at r cs (last_of r.start_seq cs) k
shown_after r cs c k (Put v o ∷ []) = Some (op_row k c.seq r.default_millis c.now (Put v o))
shown_after r cs c k (Delete ∷ []) = None
shown_after r cs c k ops = shown (combine_at r k) (key_rows r k (cs ++ (c ∷ [])))

-- After one commit more a key has the row of what that commit keeps of it, and the row that it had where nothing is kept.
abbrev pub CommitShows : Type 0
CommitShows = (r : Rules) (cs : List Commit) (c : Commit) (n : ℕ) (k : List ℕ) → Counts r.start_seq cs → c.seq ≡ last_of r.start_seq cs + 1 → c.seq ≤ n →
    state_at r (cs ++ (c ∷ [])) n k ≡ shown_after r cs c k (kept c.ops k)

-- Each row of a scan is what its reader sees at the row's key.
abbrev pub RowsAreSeen : Type 0
RowsAreSeen = (r : Rules) (cs : List Commit) (n : ℕ) (ops : Ops) (order : IterationOrder) (range : BytesRange) →
    AllByRecursion (λ row. seen r cs n ops row.key ≡ Some row) (rows_seen r cs n ops order range)
