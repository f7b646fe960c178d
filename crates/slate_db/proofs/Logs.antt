-- What is true of every log stays so.
use Rattle.std.proofs.Common.{◌≡◌, ℕ, ◌+◌, ◌-◌, ◌<◌, ◌≤◌, ◌^◌, inl, inr, List, [], ◌∷◌, ◌++◌, length, Option, Some, None, refl, sym, ap, subst, ◌∙◌, arith, ℤ, append-nil, length-append}
use Rattle.std.proofs.lemmas.Grind.{flat_map-append}
use Rattle.std.specs.Prelude.{IsSome}
use Rattle.std.specs.List.{AllByRecursion}
use Rattle.slate_types.specs.declared.config.IsolationLevel.{IsolationLevel}
use Rattle.slate_types.specs.declared.types.Ulid.{Ulid}
use Rattle.slate_mem.specs.Batch.{Ops, batch_keys}
use Rattle.slate_txn.specs.declared.event.Event.{Event}
use Rattle.slate_txn.specs.declared.event.Event.TheVariants as events
use Rattle.slate_txn.specs.declared.event.TranscriptStep.{TranscriptStep}
use Rattle.slate_txn.specs.Ids.{id_of, snapshot_id}
use Rattle.slate_txn.specs.Named.{find_named, without}
use Rattle.slate_txn.specs.Reads.{up_to}
use Rattle.slate_txn.specs.Replay.{replay, apply, used_from, Allowed}
use Rattle.slate_txn.specs.State.{Commit, opening, last_of}
use Rattle.slate_txn.proofs.NamedLaws.{length_without}
use Rattle.slate_db.specs.Installs.{tables_of, tables_in, runs_of, runs_in, installed, ArePlaced, NumberedFrom}
use Rattle.slate_db.specs.Log.{LogModel, IsLog, IsIdOf, IsWhollyKept, HasPlace, MayCommit, LIMIT, ends_of, with_begin, with_snapshot, with_commit, with_end, with_release, with_freeze, with_write, with_install, with_flush}
use Rattle.slate_db.proofs.ApartIds.{next_id, next_snapshot, not_among, wider_id}
use Rattle.slate_db.proofs.Journals.{apply_more, used_more, legal_more}
use Rattle.slate_db.proofs.RunsOf.{runs_more, runs_same}
use Rattle.slate_db.proofs.Split.{rising_more, last_more, up_to_more, all_up_to}
use Rattle.slate_types.proofs.Lists.{AllByRecursion_push, AllByRecursion_weaken}

pub tables_more : (es : List Event) (e : Event) → tables_of (es ++ (e ∷ [])) ≡ tables_of es ++ tables_in e
tables_more es e = flat_map-append tables_in es (e ∷ []) ∙ ap (λ ts. tables_of es ++ ts) (append-nil (tables_in e))

-- an event that installs nothing
pub tables_same : (es : List Event) (e : Event) → tables_in e ≡ [] → tables_of (es ++ (e ∷ [])) ≡ tables_of es
tables_same es e h = tables_more es e ∙ ap (λ ts. tables_of es ++ ts) h ∙ append-nil (tables_of es)

-- room was made, or some was taken
pub log_room : (l : LogModel) (spare : ℕ) → l.ends ≤ spare → IsLog l → IsLog (record l { spare = spare })
log_room l spare room w = record {
  legal = w.legal;
  replays = w.replays;
  last = w.last;
  last_fits = w.last_fits;
  rising = w.rising;
  fine = w.fine;
  used = w.used;
  counted = w.counted;
  snapshots_counted = w.snapshots_counted;
  installed_within = w.installed_within;
  flushed_within = w.flushed_within;
  flushed_through = w.flushed_through;
  numbered = w.numbered;
  installs = w.installs;
  installs_within = w.installs_within;
  ends = w.ends;
  room = room;
  bound = w.bound;
}

-- an event that neither commits nor installs
log_event : (l : LogModel) (e : Event) (ids shown ends spare : ℕ) → Allowed l.start (replay l.events) (used_from [] l.events) e → (apply (replay l.events) e).commits ≡ (replay l.events).commits →
    (apply (replay l.events) e).flushed ≡ installed l.events → runs_in e ≡ [] → AllByRecursion (IsIdOf ids shown) (used_from [] (l.events ++ (e ∷ []))) → ids ≤ l.ids + 1 → shown ≤ l.snapshot_ids + 1 → ends ≡ ends_of (apply (replay l.events) e) →
    ends ≤ spare → length l.events + 1 + ends ≤ LIMIT → IsLog l → IsLog (record l { ids = ids; snapshot_ids = shown; ends = ends; events = l.events ++ (e ∷ []); spare = spare })
log_event l e ids shown ends spare may commits flushed none used few given counts room bound w = record {
  legal = legal_more l.start opening [] l.events e w.legal may;
  replays = ap (λ s. s.commits) more ∙ commits ∙ w.replays;
  last = w.last;
  last_fits = w.last_fits;
  rising = w.rising;
  fine = w.fine;
  used = used;
  counted = rw length-append (let h : l.ids ≤ length l.events = w.counted in omega arith);
  snapshots_counted = rw length-append (let h : l.snapshot_ids ≤ length l.events = w.snapshots_counted in omega arith);
  installed_within = subst (λ (n : ℕ). n ≤ l.last) (sym through) w.installed_within;
  flushed_within = w.flushed_within;
  flushed_through = w.flushed_through ∙ ap (λ n. up_to n l.commits) (sym through);
  numbered = subst (NumberedFrom 1) (sym (runs_same l.events e none)) w.numbered;
  installs = w.installs ∙ ap length (sym (runs_same l.events e none));
  installs_within = rw length-append (let h : l.installs ≤ length l.events = w.installs_within in omega arith);
  ends = counts ∙ ap ends_of (sym more);
  room = room;
  bound = rw length-append bound;
}
  where
    more : replay (l.events ++ (e ∷ [])) ≡ apply (replay l.events) e
    more = apply_more opening l.events e

    through : installed (l.events ++ (e ∷ [])) ≡ installed l.events
    through = ap (λ s. s.flushed) more ∙ flushed

few_ids : (l : LogModel) → IsLog l → l.ids < 2 ^ 64
few_ids l w = let given : l.ids ≤ length l.events = w.counted in omega (arith, w.bound)

few_shown : (l : LogModel) → IsLog l → l.snapshot_ids < 2 ^ 64
few_shown l w = let given : l.snapshot_ids ≤ length l.events = w.snapshots_counted in omega (arith, w.bound)

pub log_begun : (l : LogModel) (level : IsolationLevel) (spare : ℕ) → l.ends + 1 ≤ spare → length l.events + l.ends + 2 ≤ LIMIT → IsLog l → IsLog (with_begin l level spare)
log_begun l level spare room bound w =
    log_event l (events.Begin (id_of (l.ids + 1)) level l.last) (l.ids + 1) l.snapshot_ids (l.ends + 1) spare
    (not_among (IsIdOf l.ids l.snapshot_ids) (id_of (l.ids + 1)) (λ id. next_id l.ids l.snapshot_ids id (few_ids l w) (few_shown l w)) (used_from [] l.events) w.used, w.last ∙ ap (λ cs. last_of l.start cs) (sym w.replays))
    refl refl refl
    (rw used_more (inl (record { count = l.ids + 1; within = omega arith; is = refl }), AllByRecursion_weaken _ _ (wider_id l.ids (l.ids + 1) l.snapshot_ids l.snapshot_ids (omega arith) (omega arith)) _ w.used))
    (omega arith) (omega arith)
    (rw length-append (let h : l.ends ≡ ends_of (replay l.events) = w.ends in omega arith))
    room (omega arith) w

pub log_shown : (l : LogModel) (spare : ℕ) → l.ends + 1 ≤ spare → length l.events + l.ends + 2 ≤ LIMIT → IsLog l → IsLog (with_snapshot l spare)
log_shown l spare room bound w =
    log_event l (events.Snapshot (snapshot_id (l.snapshot_ids + 1)) l.last) l.ids (l.snapshot_ids + 1) (l.ends + 1) spare
    (not_among (IsIdOf l.ids l.snapshot_ids) (snapshot_id (l.snapshot_ids + 1)) (λ id. next_snapshot l.ids l.snapshot_ids id (few_ids l w) (few_shown l w)) (used_from [] l.events) w.used, w.last ∙ ap (λ cs. last_of l.start cs) (sym w.replays))
    refl refl refl
    (rw used_more (inr (record { count = l.snapshot_ids + 1; within = omega arith; is = refl }), AllByRecursion_weaken _ _ (wider_id l.ids l.ids l.snapshot_ids (l.snapshot_ids + 1) (omega arith) (omega arith)) _ w.used))
    (omega arith) (omega arith)
    (rw length-append (let h : l.ends ≡ ends_of (replay l.events) = w.ends in omega arith))
    room (omega arith) w

pub log_released : (l : LogModel) (id : List ℕ) (spare : ℕ) → IsSome (find_named id (replay l.events).snapshots) → spare + 1 ≡ l.spare → IsLog l → IsLog (with_release l id spare)
log_released l id spare held room w =
    log_event l (events.Release id) l.ids l.snapshot_ids (l.ends - 1) spare held refl refl refl (rw used_more w.used) (omega arith) (omega arith)
    (omega (arith, len, w.ends)) (omega (arith, len, w.ends, w.room)) (omega (arith, len, w.ends, w.bound)) w
  where
    len : length (without id (replay l.events).snapshots) + 1 ≡ length (replay l.events).snapshots
    len = length_without id (replay l.events).snapshots held

pub log_ended : (l : LogModel) (id : List ℕ) (spare : ℕ) → IsSome (find_named id (replay l.events).txns) → spare + 1 ≡ l.spare → IsLog l → IsLog (with_end l id spare)
log_ended l id spare held room w =
    log_event l (events.End id) l.ids l.snapshot_ids (l.ends - 1) spare held refl refl refl (rw used_more w.used) (omega arith) (omega arith)
    (omega (arith, len, w.ends)) (omega (arith, len, w.ends, w.room)) (omega (arith, len, w.ends, w.bound)) w
  where
    len : length (without id (replay l.events).txns) + 1 ≡ length (replay l.events).txns
    len = length_without id (replay l.events).txns held

pub log_frozen : (l : LogModel) (spare : ℕ) → HasPlace 1 l → spare + 1 ≡ l.spare → IsLog l → IsLog (with_freeze l spare)
log_frozen l spare place room w =
    log_event l events.Freeze l.ids l.snapshot_ids l.ends spare tt refl refl refl (rw used_more w.used) (omega arith) (omega arith) w.ends (omega (arith, place.room)) (omega (arith, place.place)) w

pub log_written : (l : LogModel) (now : ℤ) (ops : Ops) (spare : ℕ) → HasPlace 1 l → spare + 1 ≡ l.spare → l.last < 2 ^ 64 - 2 → IsWhollyKept ops → IsLog l → IsLog (with_write l now ops spare)
log_written l now ops spare place room fits batch w = record {
  legal = legal_more l.start opening [] l.events e w.legal ((ap (λ x. x + 1) (w.last ∙ ap (λ cs. last_of l.start cs) (sym w.replays)), batch.some), batch.kept);
  replays = ap (λ s. s.commits) more ∙ ap (λ cs. cs ++ (commit ∷ [])) w.replays;
  last = sym (last_more l.start l.commits commit);
  last_fits = omega arith;
  rising = rising_more l.start l.commits commit w.rising (let h : l.last ≡ last_of l.start l.commits = w.last in omega arith);
  fine = AllByRecursion_push _ _ _ w.fine batch.fine;
  used = rw used_more w.used;
  counted = rw length-append (let h : l.ids ≤ length l.events = w.counted in omega arith);
  snapshots_counted = rw length-append (let h : l.snapshot_ids ≤ length l.events = w.snapshots_counted in omega arith);
  installed_within = subst (λ (n : ℕ). n ≤ l.last + 1) (sym through) (let h : installed l.events ≤ l.last = w.installed_within in omega arith);
  flushed_within = let h : l.flushed ≤ l.last = w.flushed_within in omega arith;
  flushed_through =
      up_to_more l.flushed l.commits commit (let h : l.flushed ≤ l.last = w.flushed_within in omega arith)
      ∙ w.flushed_through
      ∙ sym (up_to_more (installed l.events) l.commits commit (let h : installed l.events ≤ l.last = w.installed_within in omega arith))
      ∙ ap (λ i. up_to i (l.commits ++ (commit ∷ []))) (sym through);
  numbered = subst (NumberedFrom 1) (sym (runs_same l.events e refl)) w.numbered;
  installs = w.installs ∙ ap length (sym (runs_same l.events e refl));
  installs_within = rw length-append (let h : l.installs ≤ length l.events = w.installs_within in omega arith);
  ends = w.ends ∙ ap ends_of (sym more);
  room = omega (arith, place.room);
  bound = rw length-append (omega (arith, place.place));
}
  where
    e : Event
    e = events.Write (l.last + 1) now ops

    commit : Commit
    commit = record { seq = l.last + 1; now = now; ops = ops; tracked = batch_keys ops }

    more : replay (l.events ++ (e ∷ [])) ≡ apply (replay l.events) e
    more = apply_more opening l.events e

    through : installed (l.events ++ (e ∷ [])) ≡ installed l.events
    through = ap (λ s. s.flushed) more

-- a commit of a transaction: without a sequence, and with the next one
committed_none : (l : LogModel) (id : List ℕ) (now : ℤ) (ops : Ops) (tracked : List (List ℕ)) (ts : List TranscriptStep) (spare : ℕ) → MayCommit l id None ops tracked ts → spare + 1 ≡ l.spare → IsLog l → IsLog (with_commit l id None now ops tracked ts spare)
committed_none l id now ops tracked ts spare may room w =
    subst IsLog (let back = sym (append-nil l.commits) in λ i. record l { ends = l.ends - 1; commits = back i; events = l.events ++ (events.Commit id None now ops tracked ts ∷ []); spare = spare })
    (log_event l (events.Commit id None now ops tracked ts) l.ids l.snapshot_ids (l.ends - 1) spare (may.held, may.next, may.kept, may.keys, may.free) (append-nil (replay l.events).commits) refl refl (rw used_more w.used) (omega arith) (omega arith)
    (omega (arith, len, w.ends)) (omega (arith, len, w.ends, w.room)) (omega (arith, len, w.ends, w.bound)) w)
  where
    len : length (without id (replay l.events).txns) + 1 ≡ length (replay l.events).txns
    len = length_without id (replay l.events).txns may.held

committed_some : (l : LogModel) (id : List ℕ) (n : ℕ) (now : ℤ) (ops : Ops) (tracked : List (List ℕ)) (ts : List TranscriptStep) (spare : ℕ) → MayCommit l id (Some n) ops tracked ts → spare + 1 ≡ l.spare → IsLog l → IsLog (with_commit l id (Some n) now ops tracked ts spare)
committed_some l id n now ops tracked ts spare may room w = record {
  legal = legal_more l.start opening [] l.events e w.legal (may.held, may.next, may.kept, may.keys, may.free);
  replays = ap (λ s. s.commits) more ∙ ap (λ cs. cs ++ (commit ∷ [])) w.replays;
  last = sym (last_more l.start l.commits commit);
  last_fits = may.fits;
  rising = rising_more l.start l.commits commit w.rising (omega (arith, next, newest));
  fine = AllByRecursion_push _ _ _ w.fine may.fine;
  used = rw used_more w.used;
  counted = rw length-append (let h : l.ids ≤ length l.events = w.counted in omega arith);
  snapshots_counted = rw length-append (let h : l.snapshot_ids ≤ length l.events = w.snapshots_counted in omega arith);
  installed_within = subst (λ (k : ℕ). k ≤ n) (sym through) (let h : installed l.events ≤ l.last = w.installed_within in omega (arith, next));
  flushed_within = let h : l.flushed ≤ l.last = w.flushed_within in omega (arith, next);
  flushed_through =
      up_to_more l.flushed l.commits commit (let h : l.flushed ≤ l.last = w.flushed_within in omega (arith, next))
      ∙ w.flushed_through
      ∙ sym (up_to_more (installed l.events) l.commits commit (let h : installed l.events ≤ l.last = w.installed_within in omega (arith, next)))
      ∙ ap (λ i. up_to i (l.commits ++ (commit ∷ []))) (sym through);
  numbered = subst (NumberedFrom 1) (sym (runs_same l.events e refl)) w.numbered;
  installs = w.installs ∙ ap length (sym (runs_same l.events e refl));
  installs_within = rw length-append (let h : l.installs ≤ length l.events = w.installs_within in omega arith);
  ends = (let k : l.ends - 1 ≡ length (without id (replay l.events).txns) + length (replay l.events).snapshots = omega (arith, len, w.ends) in k) ∙ ap ends_of (sym more);
  room = omega (arith, len, w.ends, w.room);
  bound = rw length-append (omega (arith, len, w.ends, w.bound));
}
  where
    e : Event
    e = events.Commit id (Some n) now ops tracked ts

    commit : Commit
    commit = record { seq = n; now = now; ops = ops; tracked = tracked }

    more : replay (l.events ++ (e ∷ [])) ≡ apply (replay l.events) e
    more = apply_more opening l.events e

    through : installed (l.events ++ (e ∷ [])) ≡ installed l.events
    through = ap (λ s. s.flushed) more

    len : length (without id (replay l.events).txns) + 1 ≡ length (replay l.events).txns
    len = length_without id (replay l.events).txns may.held

    next : n ≡ l.last + 1
    next = may.next.0 ∙ ap (λ x. x + 1) (sym (w.last ∙ ap (λ cs. last_of l.start cs) (sym w.replays)))

    newest : l.last ≡ last_of l.start l.commits
    newest = w.last

pub log_committed : (l : LogModel) (id : List ℕ) (n : Option ℕ) (now : ℤ) (ops : Ops) (tracked : List (List ℕ)) (ts : List TranscriptStep) (spare : ℕ) → MayCommit l id n ops tracked ts → spare + 1 ≡ l.spare → IsLog l → IsLog (with_commit l id n now ops tracked ts spare)
log_committed l id None now ops tracked ts spare may room w = committed_none l id now ops tracked ts spare may room w
log_committed l id (Some n) now ops tracked ts spare may room w = committed_some l id n now ops tracked ts spare may room w

pub numbered_more : (i : ℕ) (runs : List (List (Ulid × List ℕ))) (ts : List (Ulid × List ℕ)) → NumberedFrom i runs → ArePlaced (i + length runs) 0 ts → NumberedFrom i (runs ++ (ts ∷ []))
numbered_more i [] ts h placed = (subst (λ (n : ℕ). ArePlaced n 0 ts) (let z : i + 0 ≡ i = omega arith in z) placed, tt)
numbered_more i (x ∷ runs) ts h placed = (h.0, numbered_more (i + 1) runs ts h.1 (subst (λ (n : ℕ). ArePlaced n 0 ts) (let z : i + length (x ∷ runs) ≡ (i + 1) + length runs = omega arith in z) placed))

pub log_installed : (l : LogModel) (ts : List (Ulid × List ℕ)) (spare : ℕ) → HasPlace 1 l → spare + 1 ≡ l.spare → ArePlaced (l.installs + 1) 0 ts → IsLog l → IsLog (with_install l ts spare)
log_installed l ts spare place room placed w = record {
  legal = legal_more l.start opening [] l.events e w.legal (w.installed_within, (let h : l.last ≡ last_of l.start (replay l.events).commits = w.last ∙ ap (λ cs. last_of l.start cs) (sym w.replays) in omega arith));
  replays = ap (λ s. s.commits) more ∙ w.replays;
  last = w.last;
  last_fits = w.last_fits;
  rising = w.rising;
  fine = w.fine;
  used = rw used_more w.used;
  counted = rw length-append (let h : l.ids ≤ length l.events = w.counted in omega arith);
  snapshots_counted = rw length-append (let h : l.snapshot_ids ≤ length l.events = w.snapshots_counted in omega arith);
  installed_within = subst (λ (n : ℕ). n ≤ l.last) (sym through) (omega arith);
  flushed_within = omega arith;
  flushed_through = ap (λ i. up_to i l.commits) (sym through);
  numbered = subst (NumberedFrom 1) (sym (runs_more l.events e)) (numbered_more 1 (runs_of l.events) ts w.numbered
      (subst (λ (n : ℕ). ArePlaced n 0 ts) (let h : l.installs ≡ length (runs_of l.events) = w.installs in let z : l.installs + 1 ≡ 1 + length (runs_of l.events) = omega arith in z) placed));
  installs = (let h : l.installs ≡ length (runs_of l.events) = w.installs in let z : l.installs + 1 ≡ length (runs_of l.events) + length (ts ∷ []) = omega arith in z) ∙ sym (ap length (runs_more l.events e) ∙ length-append (runs_of l.events) (ts ∷ []));
  installs_within = rw length-append (let h : l.installs ≤ length l.events = w.installs_within in omega arith);
  ends = w.ends ∙ ap ends_of (sym more);
  room = omega (arith, place.room);
  bound = rw length-append (omega (arith, place.place));
}
  where
    e : Event
    e = events.Install l.last ts

    more : replay (l.events ++ (e ∷ [])) ≡ apply (replay l.events) e
    more = apply_more opening l.events e

    through : installed (l.events ++ (e ∷ [])) ≡ l.last
    through = ap (λ s. s.flushed) more

pub log_flushed : (l : LogModel) → up_to (installed l.events) l.commits ≡ l.commits → IsLog l → IsLog (with_flush l)
log_flushed l all w = record {
  legal = w.legal;
  replays = w.replays;
  last = w.last;
  last_fits = w.last_fits;
  rising = w.rising;
  fine = w.fine;
  used = w.used;
  counted = w.counted;
  snapshots_counted = w.snapshots_counted;
  installed_within = w.installed_within;
  flushed_within = omega arith;
  flushed_through = all_up_to l.start l.last l.commits w.rising (let h : l.last ≡ last_of l.start l.commits = w.last in omega arith) ∙ sym all;
  numbered = w.numbered;
  installs = w.installs;
  installs_within = w.installs_within;
  ends = w.ends;
  room = w.room;
  bound = w.bound;
}

-- something is open where this id is
pub some_ends : (l : LogModel) (id : List ℕ) → IsSome (find_named id (replay l.events).txns) → IsLog l → 1 ≤ l.ends
some_ends l id held w = omega (arith, length_without id (replay l.events).txns held, w.ends)

pub some_shown : (l : LogModel) (id : List ℕ) → IsSome (find_named id (replay l.events).snapshots) → IsLog l → 1 ≤ l.ends
some_shown l id held w = omega (arith, length_without id (replay l.events).snapshots held, w.ends)

-- room was made, and there is a place
pub has_place : (l m : LogModel) → m ≡ record l { spare = m.spare } → l.ends + 1 ≤ m.spare → length l.events + l.ends + 1 ≤ LIMIT → HasPlace 1 m
has_place l m is room place = record {
  room = subst (λ (x : LogModel). x.ends + 1 ≤ m.spare) (sym is) room;
  place = subst (λ (x : LogModel). length x.events + x.ends + 1 ≤ LIMIT) (sym is) place;
}
