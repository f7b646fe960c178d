-- What the commits of an audited journal do, where its transcripts are vouched.
use Rattle.std.proofs.Common.{◌≡◌, ◌⊎◌, inl, inr, ℕ, ◌+◌, List, [], ◌∷◌, ◌++◌, Option, Some, None, refl, sym, ap, subst, ◌∙◌, append-nil}
use Rattle.std.specs.Prelude.{ℤ, IsSome, IsTrue}
use Rattle.std.specs.List.{AllByRecursion, cons_option}
use Rattle.slate_types.specs.declared.config.IsolationLevel.{IsolationLevel}
use Rattle.slate_types.specs.declared.config.IsolationLevel.TheVariants.{Snapshot, SerializableSnapshot}
use Rattle.slate_types.specs.Keys.{among}
use Rattle.slate_mem.specs.Batch.{Ops, batch_keys}
use Rattle.slate_txn.specs.declared.event.Event.{Event}
use Rattle.slate_txn.specs.declared.event.Event.TheVariants as events
use Rattle.slate_txn.specs.declared.event.TranscriptStep.{TranscriptStep}
use Rattle.slate_txn.specs.Named.{find_named}
use Rattle.slate_txn.specs.State.{Rules, Commit, Tx, State, opening, last, last_of}
use Rattle.slate_txn.specs.Tracking.{Reading, reads_of}
use Rattle.slate_txn.specs.Replay.{apply, apply_all, replay, Allowed, LegalFrom}
use Rattle.slate_txn.specs.Alone.{IsAlone}
use Rattle.slate_txn.specs.Vouched.{AreVouched, TracksReads, AloneWhere, AloneBy, AreAloneFrom}
use Rattle.slate_txn.specs.Audited.{IsOfKindBy, IsOfKindAt, AreOfKindFrom}
use Rattle.slate_txn.specs.Laws.{Counts}
use Rattle.slate_txn.proofs.SequenceLaws.{apply_counts}
use Rattle.slate_txn.proofs.PlaceLaws.{each_at_its_place}
use Rattle.slate_mem.specs.declared.WriteOp.TheVariants.{Delete}
use Rattle.slate_queue.specs.Stored.{job_key, job_bytes}
use Rattle.slate_queue.specs.Jobs.{leased}
use Rattle.slate_queue.specs.Commits.{put_of, IsAdd, IsClaim, IsFinish, IsQueueCommit}
use Rattle.slate_queue.specs.Deeds.{Deed, Jobs, none_yet, done_by, Did, deed_by, deed_of, deeds_of}
use Rattle.slate_queue.specs.Laws.{IsAudited, Shows, EachShowsADeed, ClaimedOnce, AddedOnce, FinishedOnce, FinishesNameTheLastLease}
use Rattle.slate_queue.proofs.History.{claimed_once, added_once, finished_once, last_named}
use Rattle.slate_queue.proofs.Changes.{one_kept, added_kept}
use Rattle.slate_queue.proofs.Stands.{Stands, DoesOne, adds_one, claims_one, finishes_one}

-- ---- one event

abbrev pub TrackAll : List Commit → Type 0
TrackAll cs = AllByRecursion (λ c. c.tracked ≡ batch_keys c.ops) cs

pub track_all : (cs : List Commit) (begin : ℕ) (rs : Reading) → TrackAll cs → TracksReads cs begin rs
track_all [] begin rs h = tt
track_all (c ∷ cs) begin rs h = ((λ past k wrote read. subst (λ ks. IsTrue (among k ks)) (sym h.0) wrote), track_all cs begin rs h.1)

pub more_tracked : (cs : List Commit) (c : Commit) → TrackAll cs → c.tracked ≡ batch_keys c.ops → TrackAll (cs ++ (c ∷ []))
more_tracked [] c h e = (e, tt)
more_tracked (x ∷ cs) c h e = (h.0, more_tracked cs c h.1 e)

pub all_keys : (now : ℤ) (ops : Ops) (tracked : List (List ℕ)) (ts : List TranscriptStep) → IsAdd ops tracked ts ⊎ IsClaim now ops tracked ts ⊎ IsFinish ops tracked ts → tracked ≡ batch_keys ops
all_keys now ops tracked ts (inl h) = h.by.keys
all_keys now ops tracked ts (inr (inl h)) = h.by.keys
all_keys now ops tracked ts (inr (inr h)) = h.by.keys

-- the jobs behind some commits, of which each tracks all its keys
record Follows (r : Rules) (s : State) (j : Jobs) : Type 0 where
  counts : Counts r.start_seq s.commits
  tracked : TrackAll s.commits
  stands : Stands r s.commits j

does_one : (r : Rules) (cs : List Commit) (c : Commit) (ts : List TranscriptStep) (j : Jobs) → Counts r.start_seq cs → c.seq ≡ last_of r.start_seq cs + 1 → IsAlone r cs (last_of r.start_seq cs) ts → Stands r cs j →
    IsAdd c.ops c.tracked ts ⊎ IsClaim c.now c.ops c.tracked ts ⊎ IsFinish c.ops c.tracked ts → DoesOne r cs c ts j
does_one r cs c ts j counts next alone s (inl h) = adds_one r cs c ts j counts next alone s h
does_one r cs c ts j counts next alone s (inr (inl h)) = claims_one r cs c ts j counts next alone s h
does_one r cs c ts j counts next alone s (inr (inr h)) = finishes_one r cs c ts j counts next alone s h

-- what a commit with a sequence does
record Steps (r : Rules) (s : State) (n : ℕ) (now : ℤ) (ops : Ops) (tracked : List (List ℕ)) (ts : List TranscriptStep) (j : Jobs) : Type 0 where
  one : DoesOne r s.commits (record { seq = n; now = now; ops = ops; tracked = tracked }) ts j
  keys : tracked ≡ batch_keys ops

steps : (r : Rules) (s : State) (o : Option Tx) (n : ℕ) (now : ℤ) (ops : Ops) (tracked : List (List ℕ)) (ts : List TranscriptStep) (j : Jobs) → Follows r s j → n ≡ last r s + 1 →
    IsOfKindBy IsQueueCommit o (Some n) now ops tracked ts → AloneBy r s o ts → Steps r s n now ops tracked ts j
steps r s None n now ops tracked ts j f next h a = absurd a
steps r s (Some t) n now ops tracked ts j f next h a = record {
  one = does_one r s.commits (record { seq = n; now = now; ops = ops; tracked = tracked }) ts j f.counts next (serial t.level h.serializable a) f.stands h.does;
  keys = all_keys now ops tracked ts h.does;
}
  where
    serial : (l : IsolationLevel) → l ≡ SerializableSnapshot → AloneWhere r s l t.begin ts → IsAlone r s.commits (last r s) ts
    serial Snapshot e b = cc
    serial SerializableSnapshot e b = b (track_all s.commits t.begin (reads_of ts) f.tracked)

-- an event that shows no deed leaves the jobs
same_follows : (r : Rules) (s : State) (used : List (List ℕ)) (e : Event) (j : Jobs) → Follows r s j → Allowed r.start_seq s used e → (apply s e).commits ≡ s.commits → Follows r (apply s e) j
same_follows r s used e j f a same = record {
  counts = apply_counts r.start_seq s used e f.counts a;
  tracked = subst TrackAll (sym same) f.tracked;
  stands = subst (λ cs. Stands r cs j) (sym same) f.stands;
}

-- ---- all events

did_from : (r : Rules) (es : List Event) (s : State) (used : List (List ℕ)) (j : Jobs) → LegalFrom r.start_seq s used es → AreOfKindFrom IsQueueCommit s es → AreAloneFrom r s es → Follows r s j → Did j (deeds_of es)
did_from r [] s used j legal kind alone f = tt
did_from r (events.Begin id level start ∷ es) s used j legal kind alone f =
    did_from r es (apply s (events.Begin id level start)) (id ∷ used) j legal.1 kind.1 alone.1 (same_follows r s used (events.Begin id level start) j f legal.0 refl)
did_from r (events.End id ∷ es) s used j legal kind alone f =
    did_from r es (apply s (events.End id)) used j legal.1 kind.1 alone.1 (same_follows r s used (events.End id) j f legal.0 refl)
did_from r (events.Commit id None now ops tracked ts ∷ es) s used j legal kind alone f =
    did_from r es (apply s (events.Commit id None now ops tracked ts)) used j legal.1 kind.1 alone.1 (same_follows r s used (events.Commit id None now ops tracked ts) j f legal.0 (append-nil s.commits))
did_from r (events.Commit id (Some n) now ops tracked ts ∷ es) s used j legal kind alone f =
    subst (λ o. Did j (cons_option o (deeds_of es))) (sym made.one.shown) (
      made.one.does,
      did_from r es (apply s e) used (done_by j made.one.deed) legal.1 kind.1 alone.1
          (record { counts = apply_counts r.start_seq s used e f.counts legal.0; tracked = more_tracked s.commits c f.tracked made.keys; stands = made.one.stands }),
    )
  where
    e : Event
    e = events.Commit id (Some n) now ops tracked ts

    c : Commit
    c = record { seq = n; now = now; ops = ops; tracked = tracked }

    made : Steps r s n now ops tracked ts j
    made = steps r s (find_named id s.txns) n now ops tracked ts j f legal.0.1.0 kind.0 alone.0
did_from r (events.Write n now ops ∷ es) s used j legal kind alone f = absurd kind.0
did_from r (events.Freeze ∷ es) s used j legal kind alone f = did_from r es s used j legal.1 kind.1 alone.1 f
did_from r (events.Install through tables ∷ es) s used j legal kind alone f =
    did_from r es (apply s (events.Install through tables)) used j legal.1 kind.1 alone.1 (same_follows r s used (events.Install through tables) j f legal.0 refl)
did_from r (events.Snapshot id n ∷ es) s used j legal kind alone f =
    did_from r es (apply s (events.Snapshot id n)) (id ∷ used) j legal.1 kind.1 alone.1 (same_follows r s used (events.Snapshot id n) j f legal.0 refl)
did_from r (events.Release id ∷ es) s used j legal kind alone f =
    did_from r es (apply s (events.Release id)) used j legal.1 kind.1 alone.1 (same_follows r s used (events.Release id) j f legal.0 refl)

did : (r : Rules) (es : List Event) → IsAudited r.start_seq es → AreVouched r es → Did none_yet (deeds_of es)
did r es audited vouched =
    did_from r es opening [] none_yet audited.legal audited.queue (each_at_its_place r es audited.legal vouched) (record { counts = tt; tracked = tt; stands = record { counter = refl; leases = λ id below. refl } })

-- the deeds of events, of which one shows a deed
deeds_both : (es more : List Event) → deeds_of (es ++ more) ≡ deeds_of es ++ deeds_of more
deeds_both [] more = refl
deeds_both (e ∷ es) more = ap (cons_option (deed_of e)) (deeds_both es more) ∙ by (deed_of e)
  where
    by : (o : Option Deed) → cons_option o (deeds_of es ++ deeds_of more) ≡ cons_option o (deeds_of es) ++ deeds_of more
    by None = refl
    by (Some d) = refl

shown_deeds : (r : Rules) (before : List Event) (d : Deed) → (h : Shows r before d) → Did none_yet (deeds_of before ++ (d ∷ deeds_of h.later))
shown_deeds r before d h =
    subst (Did none_yet) (deeds_both before (h.event ∷ h.later) ∙ ap (λ o. deeds_of before ++ cons_option o (deeds_of h.later)) h.deed) (did r (before ++ (h.event ∷ h.later)) h.audited h.vouched)

-- ---- the laws

pub each_claimed_once : ClaimedOnce
each_claimed_once r before id lease h = claimed_once (deeds_of before) (deeds_of h.later) id lease (shown_deeds r before (Deed.claimed id lease) h)

pub each_added_once : AddedOnce
each_added_once r before id h = added_once (deeds_of before) (deeds_of h.later) id (shown_deeds r before (Deed.added id) h)

pub each_finished_once : FinishedOnce
each_finished_once r before id lease h = finished_once (deeds_of before) (deeds_of h.later) id lease (shown_deeds r before (Deed.finished id lease) h)

pub each_names_the_last : FinishesNameTheLastLease
each_names_the_last r before id lease h = last_named (deeds_of before) (deeds_of h.later) id lease (shown_deeds r before (Deed.finished id lease) h)

-- ---- each commit shows one

deed_shown : (now : ℤ) (ops : Ops) (tracked : List (List ℕ)) (ts : List TranscriptStep) → IsAdd ops tracked ts ⊎ IsClaim now ops tracked ts ⊎ IsFinish ops tracked ts → IsSome (deed_by ops ts)
deed_shown now ops tracked ts (inl h) = subst (λ os. IsSome (deed_by os ts)) (sym (h.by.kept ∙ added_kept (h.counter + 1) h.payload)) refl
deed_shown now ops tracked ts (inr (inl h)) = subst (λ os. IsSome (deed_by os ts)) (sym (h.by.kept ∙ one_kept h.row.key (put_of (job_bytes (leased now h.ms h.job))))) refl
deed_shown now ops tracked ts (inr (inr h)) = subst (λ os. IsSome (deed_by os ts)) (sym (h.by.kept ∙ one_kept (job_key h.id) Delete)) refl

shown_by : (o : Option Tx) (n : ℕ) (now : ℤ) (ops : Ops) (tracked : List (List ℕ)) (ts : List TranscriptStep) → IsOfKindBy IsQueueCommit o (Some n) now ops tracked ts → IsSome (deed_by ops ts)
shown_by None n now ops tracked ts h = absurd h
shown_by (Some t) n now ops tracked ts h = deed_shown now ops tracked ts h.does

at_event : (before : List Event) (e : Event) (later : List Event) (s : State) → AreOfKindFrom IsQueueCommit s (before ++ (e ∷ later)) → IsOfKindAt IsQueueCommit (apply_all s before) e
at_event [] e later s h = h.0
at_event (x ∷ before) e later s h = at_event before e later (apply s x) h.1

pub each_shows_a_deed : EachShowsADeed
each_shows_a_deed r before later id n now ops tracked ts audited =
    shown_by (find_named id (replay before).txns) n now ops tracked ts (at_event before (events.Commit id (Some n) now ops tracked ts) later opening audited.queue)
