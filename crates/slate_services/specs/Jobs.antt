-- What a journal of a queue says.
--     IsNewDeed before d      no event before did the same: a claim of the same lease of a job, an
--             add of the same id, or a finish of the same job
--     AreNewDeeds es      so it is of each event
--     AreJobs r es      so; all commits are a queue's; and each would read the same just before it,
--             whatever others tracked
use Rattle.std.specs.Prelude.{◌≡◌, ℕ, false, List, ◌∷◌, ◌++◌, Some}
use Rattle.slate_txn.specs.declared.event.Event.{Event}
use Rattle.slate_txn.specs.Audited.{AreOfKind}
use Rattle.slate_txn.specs.State.{Rules}
use Rattle.slate_queue.specs.Commits.{IsQueueCommit}
use Rattle.slate_queue.specs.Deeds.{Deed, adds, any_deed, claims, deed_of, deeds_of, finishes}
use Rattle.slate_threads.specs.Own.{AreSerial}

abbrev pub IsNewDeed : List Event → Deed → Type 0
IsNewDeed before (Deed.added id) = any_deed (adds id) (deeds_of before) ≡ false
IsNewDeed before (Deed.claimed id lease) = any_deed (claims id lease) (deeds_of before) ≡ false
IsNewDeed before (Deed.finished id lease) = any_deed (finishes id) (deeds_of before) ≡ false

abbrev pub AreNewDeeds : List Event → Type 0
AreNewDeeds es = (before later : List Event) (event : Event) (d : Deed) →
    es ≡ before ++ (event ∷ later) → deed_of event ≡ Some d → IsNewDeed before d

pub record AreJobs (r : Rules) (es : List Event) : Type 0 where
  pub deeds : AreNewDeeds es
  pub queue : AreOfKind IsQueueCommit es
  pub serial : AreSerial r es
