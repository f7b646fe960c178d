-- What the commits of a queue do, on the leases of the jobs that stand.
--     Deed      an id is added; an id's next lease is claimed; an id is finished under a lease
--     Jobs      the counter, and the lease number of each job that stands
--     Does j d, done_by j d      a deed is right on these jobs; the jobs after it
--     Did j ds      deeds, each right where it stands
--     adds id, claims id l, finishes id, any_deed      what deeds have done
--     last_lease id first ds      the lease of the last claim of an id
--     deed_of e, deeds_of es      the deed that a commit of a queue shows, and those of events
use Rattle.std.specs.Prelude.{◌≡◌, ◌≢◌, ℕ, ◌+◌, Bool, false, ◌&&◌, ◌||◌, if◌then◌else◌, nat_eq, List, [], ◌∷◌, filter_map, Option, Some, None, ⊤}
use Rattle.slate_mem.specs.declared.WriteOp.TheVariants.{Put, Delete}
use Rattle.slate_mem.specs.Batch.{Ops}
use Rattle.slate_txn.specs.declared.event.Event.{Event}
use Rattle.slate_txn.specs.declared.event.Event.TheVariants as events
use Rattle.slate_txn.specs.declared.event.TranscriptStep.{TranscriptStep}
use Rattle.slate_txn.specs.declared.event.TranscriptStep.TheVariants.{Get}
use Rattle.slate_queue.specs.Stored.{id_of, lease_of}

pub data Deed : Type 0 where
  added : ℕ → Deed
  claimed : ℕ → ℕ → Deed
  finished : ℕ → ℕ → Deed

pub record Jobs : Type 0 where
  pub counter : ℕ
  pub lease : ℕ → Option ℕ

abbrev pub none_yet : Jobs
none_yet = record { counter = 0; lease = λ id. None }

abbrev pub with_lease : (ℕ → Option ℕ) → ℕ → Option ℕ → ℕ → Option ℕ
with_lease f id l other = if nat_eq id other then l else f other

-- the new id is the counter's next; a claim raises the lease that stands by one; a finish names it, and it isn't 0
abbrev pub Does : Jobs → Deed → Type 0
Does j (Deed.added id) = id ≡ j.counter + 1
Does j (Deed.claimed id l) = (old : ℕ) × (j.lease id ≡ Some old) × (l ≡ old + 1)
Does j (Deed.finished id l) = (j.lease id ≡ Some l) × (l ≢ 0)

abbrev pub done_by : Jobs → Deed → Jobs
done_by j (Deed.added id) = record { counter = id; lease = with_lease j.lease id (Some 0) }
done_by j (Deed.claimed id l) = record { counter = j.counter; lease = with_lease j.lease id (Some l) }
done_by j (Deed.finished id l) = record { counter = j.counter; lease = with_lease j.lease id None }

abbrev pub Did : Jobs → List Deed → Type 0
Did j [] = ⊤
Did j (d ∷ ds) = Does j d × Did (done_by j d) ds

abbrev pub after_deeds : Jobs → List Deed → Jobs
after_deeds j [] = j
after_deeds j (d ∷ ds) = after_deeds (done_by j d) ds

-- ---- what was done

abbrev pub adds : ℕ → Deed → Bool
adds id (Deed.added other) = nat_eq other id
adds id _ = false

abbrev pub claims : ℕ → ℕ → Deed → Bool
claims id l (Deed.claimed other n) = nat_eq other id && nat_eq n l
claims id l _ = false

abbrev pub finishes : ℕ → Deed → Bool
finishes id (Deed.finished other n) = nat_eq other id
finishes id _ = false

abbrev pub any_deed : (Deed → Bool) → List Deed → Bool
any_deed test [] = false
any_deed test (d ∷ ds) = test d || any_deed test ds

-- the lease of the last claim of an id, and `first` where there is none
abbrev pub lease_by : ℕ → ℕ → Deed → ℕ
lease_by id first (Deed.claimed other n) = if nat_eq other id then n else first
lease_by id first _ = first

abbrev pub last_lease : ℕ → ℕ → List Deed → ℕ
last_lease id first [] = first
last_lease id first (d ∷ ds) = last_lease id (lease_by id first d) ds

-- ---- what a commit shows

-- the lease that a finish read
abbrev pub lease_read : List TranscriptStep → ℕ
lease_read (Get k (Some row) ∷ ts) = lease_of row.value
lease_read _ = 0

-- a claim puts a job; a finish deletes it; an added job is put with the counter behind it
abbrev pub deed_by : Ops → List TranscriptStep → Option Deed
deed_by ((k, Put v o) ∷ []) ts = Some (Deed.claimed (id_of k) (lease_of v))
deed_by ((k, Put v o) ∷ other ∷ []) ts = Some (Deed.added (id_of k))
deed_by ((k, Delete) ∷ []) ts = Some (Deed.finished (id_of k) (lease_read ts))
deed_by _ ts = None

abbrev pub deed_of : Event → Option Deed
deed_of (events.Commit id (Some n) now ops tracked ts) = deed_by ops ts
deed_of _ = None

abbrev pub deeds_of : List Event → List Deed
deeds_of es = filter_map deed_of es
