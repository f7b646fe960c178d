-- Laws, each the contract of a function of `laws`. They speak of journals whose transcripts are vouched.
--     IsAudited n0 es      a legal journal whose commits are all a queue's
--     EachShowsADeed      each commit with a sequence adds, claims or finishes a job
--     ClaimedOnce, AddedOnce, FinishedOnce      no commit before did the same
--     FinishesNameTheLastLease      a finish names the lease of the last claim before it
--     ClaimsReadUpToTheirJob      a claim that was answered as a reader is reads no key behind that of the job that it takes
--     ClaimsMeetNoAdd      so neither it nor an add of a greater id conflicts with the other
use Rattle.std.specs.Prelude.{◌≡◌, ◌≢◌, ℕ, ◌+◌, ◌<◌, ℤ, false, true, List, ◌∷◌, ◌++◌, Some, IsSome}
use Rattle.slate_mem.specs.Batch.{Ops}
use Rattle.slate_txn.specs.declared.event.Event.{Event}
use Rattle.slate_txn.specs.declared.event.Event.TheVariants as events
use Rattle.slate_txn.specs.declared.event.TranscriptStep.{TranscriptStep}
use Rattle.slate_types.specs.Keys.{key_lt}
use Rattle.slate_txn.specs.Alone.{IsAlone}
use Rattle.slate_txn.specs.Conflict.{meets}
use Rattle.slate_txn.specs.State.{Commit, Rules}
use Rattle.slate_txn.specs.Tracking.{is_read, reads_of}
use Rattle.slate_txn.specs.Replay.{IsLegal}
use Rattle.slate_txn.specs.Vouched.{AreVouched}
use Rattle.slate_txn.specs.Audited.{AreOfKind}
use Rattle.slate_queue.specs.Commits.{IsAdd, IsClaim, IsQueueCommit}
use Rattle.slate_queue.specs.Deeds.{Deed, deed_of, deeds_of, adds, claims, finishes, any_deed, last_lease}

pub record IsAudited (n0 : ℕ) (es : List Event) : Type 0 where
  pub legal : IsLegal n0 es
  pub queue : AreOfKind IsQueueCommit es

-- an event that shows a deed, behind others
pub record Shows (r : Rules) (before : List Event) (d : Deed) : Type 0 where
  pub event : Event
  pub later : List Event
  pub audited : IsAudited r.start_seq (before ++ (event ∷ later))
  pub vouched : AreVouched r (before ++ (event ∷ later))
  pub deed : deed_of event ≡ Some d

abbrev pub EachShowsADeed : Type 0
EachShowsADeed = (r : Rules) (before later : List Event) (id : List ℕ) (n : ℕ) (now : ℤ) (ops : Ops) (tracked : List (List ℕ)) (ts : List TranscriptStep) →
    IsAudited r.start_seq (before ++ (events.Commit id (Some n) now ops tracked ts ∷ later)) → IsSome (deed_of (events.Commit id (Some n) now ops tracked ts))

-- Each lease of a job is claimed once.
abbrev pub ClaimedOnce : Type 0
ClaimedOnce = (r : Rules) (before : List Event) (id lease : ℕ) → Shows r before (Deed.claimed id lease) → any_deed (claims id lease) (deeds_of before) ≡ false

-- Each id is added once.
abbrev pub AddedOnce : Type 0
AddedOnce = (r : Rules) (before : List Event) (id : ℕ) → Shows r before (Deed.added id) → any_deed (adds id) (deeds_of before) ≡ false

-- Each id is finished at most once.
abbrev pub FinishedOnce : Type 0
FinishedOnce = (r : Rules) (before : List Event) (id lease : ℕ) → Shows r before (Deed.finished id lease) → any_deed (finishes id) (deeds_of before) ≡ false

-- A finish names the lease of the last claim of its job, and there was one.
abbrev pub FinishesNameTheLastLease : Type 0
FinishesNameTheLastLease = (r : Rules) (before : List Event) (id lease : ℕ) → Shows r before (Deed.finished id lease) → (last_lease id 0 (deeds_of before) ≡ lease) × (lease ≢ 0)

-- A claim that was answered as a reader is reads no key behind that of the job that it takes: no job with a greater id, and no counter.
abbrev pub ClaimsReadUpToTheirJob : Type 0
ClaimsReadUpToTheirJob = (r : Rules) (cs : List Commit) (n : ℕ) (now : ℤ) (ops : Ops) (tracked : List (List ℕ)) (ts : List TranscriptStep) (claim : IsClaim now ops tracked ts) (k : List ℕ) →
    IsAlone r cs n ts → key_lt claim.row.key k ≡ true → is_read (reads_of ts) k ≡ false

-- A commit that adds a job of a greater id tracks no key that such a claim reads or writes, and its steps read no key that the claim writes: neither conflicts with the other.
abbrev pub ClaimsMeetNoAdd : Type 0
ClaimsMeetNoAdd = (r : Rules) (cs : List Commit) (n : ℕ) (d : Commit) (ts : List TranscriptStep) (claim : IsClaim d.now d.ops d.tracked ts) (c : Commit) (us : List TranscriptStep) (add : IsAdd c.ops c.tracked us) →
    IsAlone r cs n ts → claim.id < add.counter + 1 → (meets d.tracked (reads_of ts) c ≡ false) × (meets c.tracked (reads_of us) d ≡ false)
