-- What a call leaves of what lies behind the lock, with the flush on its way.
use Rattle.std.proofs.Common.{◌≡◌, ◌⊎◌, ⊎_elim, ℕ, ◌≤◌, inl, inr, suc, List, [], ◌∷◌, ◌++◌, length, map, Option, Some, None, refl, sym, ap, ◌∙◌, subst}
use Rattle.std.specs.Prelude.{nat_lt, Result, Ok, Err, OnOk, OnErr}
use Rattle.slate_types.proofs.Lists.{AllByRecursion_push}
use Rattle.slate_types.specs.declared.config.IsolationLevel.{IsolationLevel}
use Rattle.slate_types.specs.declared.config.Options.{Options}
use Rattle.slate_types.specs.declared.error.SlateDBError.{SlateDBError}
use Rattle.slate_types.specs.declared.error.SlateDBError.TheVariants as errors
use Rattle.slate_types.specs.declared.types.RowEntry.{RowEntry}
use Rattle.slate_types.specs.declared.types.Ulid.{Ulid}
use Rattle.std.specs.List.{AllByRecursion}
use Rattle.slate_mem.specs.KeyTests.{Segments}
use Rattle.slate_mem.specs.Lookup.{is_merge_among, newest_first}
use Rattle.slate_mem.specs.Table.{MemTableModel}
use Rattle.slate_txn.specs.declared.event.Event.{Event}
use Rattle.slate_txn.specs.declared.event.Event.TheVariants as events
use Rattle.slate_txn.specs.declared.line.Line.TheVariants as lines
use Rattle.slate_txn.specs.Open.{least_start}
use Rattle.slate_txn.specs.Places.{above_install, install_of, last_install, newer_or}
use Rattle.slate_txn.specs.Reads.{key_rows, up_to}
use Rattle.slate_txn.specs.Replay.{replay}
use Rattle.slate_txn.specs.Reply as replies
use Rattle.slate_txn.specs.Settings.{Settings, settings_of}
use Rattle.slate_txn.specs.State.{State, Tx, begun, last, last_of}
use Rattle.slate_txn.specs.Step.{step}
use Rattle.slate_txn.proofs.NamedLaws.{all_without}
use Rattle.slate_db.specs.declared.flight.Flight.{Flight}
use Rattle.slate_db.specs.Flushed.{CanFlush, NoPlace}
use Rattle.slate_db.specs.Flying.{HasTaken, IsAloft, IsFlying, IsTaken, TakesOff, after_flight, took}
use Rattle.slate_db.specs.Frozen.{IsFrozen}
use Rattle.slate_db.specs.Installs.{Replays, as_begun, installed}
use Rattle.slate_db.specs.Log.{LIMIT}
use Rattle.slate_db.specs.Meaning.{Meaning, rules_in, rules_of}
use Rattle.slate_db.specs.Model.{CoreModel, IsSame, Rows, versions_in}
use Rattle.slate_db.specs.Segmented.{IsSegmented}
use Rattle.slate_db.specs.Sound.{IsKept, above}
use Rattle.slate_db.proofs.Aloft.{AreFrom, aloft_event, aloft_frozen}
use Rattle.slate_shared.specs.declared.errand.Errand.{Errand}
use Rattle.slate_shared.specs.Errands.{Departs, IsInstalled, IsRowsOf}
use Rattle.slate_shared.specs.LockedModel.{frozen_by, holds_at}
use Rattle.slate_shared.specs.Locked.{IsHeld, IsLocked}
use Rattle.slate_shared.proofs.LockedLaws.{Notes, Opens, as_many, begun_locked, closes, ended_locked, frozen_grows, frozen_locked, opens_fresh, refused_full}
use Rattle.slate_shared.proofs.Names.{replay_more}

-- ---- the last install

pub install_same : (es : List Event) (e : Event) → install_of e ≡ None → last_install (es ++ (e ∷ [])) ≡ last_install es
install_same [] e none = ap (newer_or None) none
install_same (x ∷ es) e none = ap (λ o. newer_or o (install_of x)) (install_same es e none)

pub install_newest : (es : List Event) (n : ℕ) (ts : List (Ulid × List ℕ)) → last_install (es ++ (events.Install n ts ∷ [])) ≡ Some n
install_newest [] n ts = refl
install_newest (x ∷ es) n ts = ap (λ o. newer_or o (install_of x)) (install_newest es n ts)

-- ---- a begin, an end and a freeze

pub begun_held : (o : Settings) (m : Meaning) (g : Segments) (f : Option Flight) (n : Option ℕ) (c d : CoreModel) (level : IsolationLevel) (r : Result (List ℕ × ℕ) SlateDBError) → IsHeld o m g f n c → Opens c d level r → Notes c d level r
    → OnOk r ((h : Segments) → IsSegmented h c → IsSegmented h d) → OnOk r ((k : Meaning) → IsKept k c → IsKept k d) → OnErr r (d ≡ c) → IsHeld o m g f n d
begun_held o m g f n c d level (Ok a) h opens notes segments keeps same =
    let fresh = opens_fresh (rules_in c.settings m g) c.state d.state a.0 level a.1 (opens m g) in record {
      locked = begun_locked o m g c d level (Ok a) h.locked opens notes segments keeps same;
      aloft = aloft_event m f c d (events.Begin a.0 level a.1) notes refl refl (ap (λ s. s.commits) fresh.is)
          (λ k within from. subst (AreFrom k) (sym fresh.is) (AllByRecursion_push (λ (p : List ℕ × Tx). k ≤ p.1.begin) c.state.txns (a.0, begun level (last (rules_in c.settings m g) c.state)) from.0 within, from.1)) h.aloft;
      newest = h.newest ∙ sym (ap (λ (x : CoreModel). last_install x.events) notes ∙ install_same c.events (events.Begin a.0 level a.1) refl);
    }
begun_held o m g f n c d level (Err e) h opens notes segments keeps same = subst (IsHeld o m g f n) (sym same) h

pub ended_held : (o : Settings) (m : Meaning) (g : Segments) (f : Option Flight) (n : Option ℕ) (c d : CoreModel) (id : List ℕ) → IsHeld o m g f n c → ((k : Meaning) (h : Segments) → step (rules_in c.settings k h) c.state (lines.Rollback id) ≡ (d.state, replies.Done))
    → d ≡ record c { state = d.state; events = c.events ++ events.End id ∷ []; spare = d.spare } → ((h : Segments) → IsSegmented h c → IsSegmented h d) → ((k : Meaning) → IsKept k c → IsKept k d) → IsHeld o m g f n d
ended_held o m g f n c d id h does notes segments keeps =
    let is = closes (rules_in c.settings m g) c.state d.state id (does m g) in record {
      locked = ended_locked o m g c d id h.locked does notes segments keeps;
      aloft = aloft_event m f c d (events.End id) notes refl refl (ap (λ s. s.commits) is) (λ k within from. subst (AreFrom k) (sym is) (all_without _ id c.state.txns from.0, all_without _ id c.state.snapshots from.1)) h.aloft;
      newest = h.newest ∙ sym (ap (λ (x : CoreModel). last_install x.events) notes ∙ install_same c.events (events.End id) refl);
    }

pub newest_frozen : (n : Option ℕ) (c d : CoreModel) → IsFrozen c d → n ≡ last_install c.events → n ≡ last_install d.events
newest_frozen n c d (inl s) newest = newest ∙ ap (λ (x : CoreModel). last_install x.events) (sym s.1)
newest_frozen n c d (inr s) newest = newest ∙ sym (ap (λ (x : CoreModel). last_install x.events) s.1 ∙ install_same c.events events.Freeze refl)

pub frozen_held : (o : Settings) (m : Meaning) (g : Segments) (f : Option Flight) (n : Option ℕ) (c d : CoreModel) → IsHeld o m g f n c → IsFrozen c d → (IsKept m c → IsKept m d) → IsHeld o m g f n d
frozen_held o m g f n c d h froze keeps = record {
  locked = frozen_locked o m g c d h.locked froze keeps;
  aloft = aloft_frozen m f c d froze h.aloft;
  newest = newest_frozen n c d froze h.newest;
}

-- ---- the same flush, its tables shared once more

pub record IsAgain (f g : Flight) : Type 0 where
  pub number : g.number ≡ f.number
  pub barrier : g.barrier ≡ f.barrier
  pub through : g.through ≡ f.through
  pub tables : g.tables ≡ f.tables
  pub taken : took g ≡ took f

-- x: what g is made of
pub again_as : (f g x : Flight) (tables : List MemTableModel) → g ≡ x → x.number ≡ f.number → x.barrier ≡ f.barrier → x.through ≡ f.through → x.tables ≡ f.tables → x.taken.value.items ≡ tables → map (λ t. t.rows) tables ≡ took f → IsAgain f g
again_as f g x tables is number barrier through count items shared = subst (IsAgain f) (sym is) (record {
  number = number;
  barrier = barrier;
  through = through;
  tables = count;
  taken = ap (λ (ts : List MemTableModel). map (λ t. t.rows) ts) items ∙ shared;
})

pub flying_again : (f g : Flight) (c : CoreModel) → IsAgain f g → IsFlying f c → IsFlying g c
flying_again f g c a h = record {
  number = a.number ∙ h.number;
  behind = subst (λ (n : ℕ). installed c.events ≤ n) (sym a.through) h.behind;
  within = subst (λ (n : ℕ). n ≤ last_of c.settings.start_seq c.state.commits) (sym a.through) h.within;
  floor = subst (λ (n : ℕ). c.floor ≤ n) (sym a.barrier) h.floor;
  barrier = subst (λ (n : ℕ). n ≤ g.through) (sym a.barrier) (subst (λ (n : ℕ). f.barrier ≤ n) (sym a.through) h.barrier);
  begins = subst (λ (n : ℕ). AllByRecursion (λ (p : List ℕ × Tx). n ≤ p.1.begin) c.state.txns) (sym a.barrier) h.begins;
  shows = subst (λ (n : ℕ). AllByRecursion (λ (p : List ℕ × ℕ). n ≤ p.1) c.state.snapshots) (sym a.barrier) h.shows;
  later = h.later;
  frozen = h.frozen ∙ ap (λ (t : List Rows). t ++ h.later) (sym a.taken);
  count = a.tables ∙ h.count ∙ ap (λ (t : List Rows). length t) (sym a.taken);
  rows = subst (λ (n : ℕ). AllByRecursion (λ (rows : Rows). AllByRecursion (λ (r : RowEntry). r.seq ≤ n) rows) (took g)) (sym a.through) (subst (λ (t : List Rows). AllByRecursion (λ (rows : Rows). AllByRecursion (λ (r : RowEntry). r.seq ≤ f.through) rows) t) (sym a.taken) h.rows);
  rest = λ active none. subst (λ (n : ℕ). up_to n c.state.commits ≡ c.state.commits) (sym a.through) (h.rest active none);
}

pub off_again : (f g : Flight) (tables : List MemTableModel) (c : CoreModel) → IsAgain f g → TakesOff f tables c → TakesOff g tables c
off_again f g tables c a h = record {
  flying = flying_again f g c a h.flying;
  ready = subst CanFlush (sym a.taken) h.ready;
  newest = a.through ∙ h.newest;
  barrier = a.barrier ∙ h.barrier ∙ ap (λ n. least_start n c.state) (sym a.through);
  frozen = h.frozen ∙ sym a.taken;
  shared = h.shared ∙ sym a.taken;
}

pub taken_again : (m : Meaning) (f g : Flight) (c : CoreModel) → IsAgain f g → IsTaken m f c → IsTaken m g c
taken_again m f g c a h = record {
  rows = λ k. ap (versions_in k) a.taken ∙ h.rows k;
  tied = λ k. ap (versions_in k) a.taken ∙ h.tied k ∙ ap (λ n. key_rows (rules_of c.settings m) k (above (installed c.events) (up_to n c.state.commits))) (sym a.through);
  plain = λ none. ap (λ t. is_merge_among (newest_first t)) a.taken ∙ h.plain none;
}

-- ---- a flush sets off

pub refused_held : (o : Settings) (m : Meaning) (g : Segments) (f : Option Flight) (n : Option ℕ) (c d : CoreModel) → IsHeld o m g f n c → (d ≡ c) ⊎ IsFrozen c d → (IsKept m c → IsKept m d) → IsHeld o m g f n d
refused_held o m g f n c d h (inl same) keeps = subst (IsHeld o m g f n) (sym same) h
refused_held o m g f n c d h (inr froze) keeps = frozen_held o m g f n c d h froze keeps

pub off_held : (o : Settings) (m : Meaning) (g : Segments) (b : Option Flight) (n : Option ℕ) (c d : CoreModel) (f : Flight) (tables : List MemTableModel) → IsHeld o m g b n c → IsFrozen c d → (IsKept m c → IsKept m d) → TakesOff f tables d → IsTaken m f d → IsHeld o m g (Some f) n d
off_held o m g b n c d f tables h froze keeps off taken = record {
  locked = frozen_locked o m g c d h.locked froze keeps;
  aloft = (off.flying, taken.tied);
  newest = newest_frozen n c d froze h.newest;
}

-- the journal's rows, as they were before its freeze
pub rows_off : (o : Settings) (m : Meaning) (g : Segments) (c d : CoreModel) (f : Flight) → IsLocked o m g c → Replays c.events c.state → IsFrozen c d → IsTaken m f d → IsRowsOf o m c.events (took f)
rows_off o m g c d f l is froze taken k = taken.rows k ∙ by froze
  where
    here : key_rows (rules_of c.settings m) k (above (installed c.events) c.state.commits) ≡ key_rows (rules_of o m) k (above (installed c.events) (replay c.events).commits)
    here = let s = l.settings in let cs = sym is.commits in λ i. key_rows (rules_of (s i) m) k (above (installed c.events) (cs i))

    by : IsFrozen c d → key_rows (rules_of d.settings m) k (above (installed d.events) d.state.commits) ≡ key_rows (rules_of o m) k (above (installed c.events) (replay c.events).commits)
    by (inl s) = ap (λ (x : CoreModel). key_rows (rules_of x.settings m) k (above (installed x.events) x.state.commits)) s.1 ∙ here
    by (inr s) = ap (λ (x : CoreModel). key_rows (rules_of x.settings m) k (above (installed x.events) x.state.commits)) s.1 ∙ ap (λ i. key_rows (rules_of c.settings m) k (above i c.state.commits)) (ap (λ s. s.flushed) (replay_more c.events events.Freeze)) ∙ here

-- ---- and lands

pub flight_is : (a b : Flight) (o : Option Flight) → Some a ≡ o → o ≡ Some b → b ≡ a
flight_is a b o one two = let same : Some a ≡ Some b = one ∙ two in cc

pub aloft_at : (m : Meaning) (a : Flight) (o : Option Flight) (c : CoreModel) → Some a ≡ o → IsAloft m o c → IsFlying a c × HasTaken m a c
aloft_at m a o c is aloft = subst (λ (x : Option Flight). IsAloft m x c) (sym is) aloft

pub landed_held : (o : Settings) (m : Meaning) (g : Segments) (b : Option Flight) (n : Option ℕ) (c d : CoreModel) (f : Flight) (ts : List (Ulid × List ℕ)) → IsHeld o m g b n c → d ≡ after_flight c f ts d.spare → IsKept m d → IsSegmented g d → IsHeld o m g None (Some f.through) d
landed_held o m g b n c d f ts h is kept segmented = record {
  locked = record {
    settings = ap (λ (x : CoreModel). x.settings) is ∙ h.locked.settings;
    kept = kept;
    segmented = segmented;
    bare = subst (λ (x : CoreModel). map as_begun x.state.txns ≡ x.state.txns) (sym is) h.locked.bare;
    unshown = ap (λ (x : CoreModel). x.state.snapshots) is ∙ h.locked.unshown;
  };
  aloft = tt;
  newest = sym (ap (λ (x : CoreModel). last_install x.events) is ∙ install_newest c.events f.through ts);
}

pub room_held : (o : Settings) (m : Meaning) (g : Segments) (b : Option Flight) (n : Option ℕ) (c d : CoreModel) → IsHeld o m g b n c → IsSame c d → IsKept m d → IsSegmented g d → IsHeld o m g None n d
room_held o m g b n c d h is kept segmented = record {
  locked = record {
    settings = ap (λ (x : CoreModel). x.settings) is ∙ h.locked.settings;
    kept = kept;
    segmented = segmented;
    bare = subst (λ (x : CoreModel). map as_begun x.state.txns ≡ x.state.txns) (sym is) h.locked.bare;
    unshown = ap (λ (x : CoreModel). x.state.snapshots) is ∙ h.locked.unshown;
  };
  aloft = tt;
  newest = h.newest ∙ ap (λ (x : CoreModel). last_install x.events) (sym is);
}

-- ---- where the last install stands

installed_place : (es : List Event) (k n : ℕ) → last_install es ≡ Some k → n ≤ k → IsInstalled n es
installed_place [] k n e h = absurd (cc e)
installed_place (x ∷ es) k n e h = by (λ j is within. installed_place es j n is within) (last_install es) refl
  where
    further : IsInstalled n es → IsInstalled n (x ∷ es)
    further i = record { place = suc i.place; through = i.through; tables = i.tables; stands = i.stands; reaches = i.reaches }

    first : (y : Event) → install_of y ≡ Some k → y ≡ x → IsInstalled n (x ∷ es)
    first (events.Install t ts) is same = record { place = 0; through = t; tables = ts; stands = ap (λ e. Some e) (sym same); reaches = subst (λ (j : ℕ). n ≤ j) (cc is) h }
    first (events.Begin id level start) is same = absurd (cc is)
    first (events.End id) is same = absurd (cc is)
    first (events.Commit id s now ops tracked ts) is same = absurd (cc is)
    first (events.Write s now ops) is same = absurd (cc is)
    first events.Freeze is same = absurd (cc is)
    first (events.Snapshot id s) is same = absurd (cc is)
    first (events.Release id) is same = absurd (cc is)

    by : ((j : ℕ) → last_install es ≡ Some j → n ≤ j → IsInstalled n es) → (o : Option ℕ) → last_install es ≡ o → IsInstalled n (x ∷ es)
    by rest None is = first x (ap (λ l. newer_or l (install_of x)) (sym is) ∙ e) refl
    by rest (Some j) is = further (rest j is (subst (λ (i : ℕ). n ≤ i) (let same : Some j ≡ Some k = ap (λ l. newer_or l (install_of x)) (sym is) ∙ e in sym (cc same)) h))

pub is_installed_at : (es : List Event) (o : Option ℕ) (k n : ℕ) → o ≡ last_install es → o ≡ Some k → n ≤ k → IsInstalled n es
is_installed_at es o k n newest is h = installed_place es k n (sym newest ∙ is) h

-- ---- what a flush says as it sets off

freeze_event : (c d : CoreModel) → IsFrozen c d → (d.events ≡ c.events) ⊎ (d.events ≡ c.events ++ events.Freeze ∷ [])
freeze_event c d (inl s) = inl (ap (λ (x : CoreModel). x.events) s.1)
freeze_event c d (inr s) = inr (ap (λ (x : CoreModel). x.events) s.1)

newest_at : (o : Options) (m : Meaning) (g : Segments) (c : CoreModel) (n : ℕ) → IsLocked (settings_of o) m g c → Replays c.events c.state → n ≡ last_of c.settings.start_seq c.state.commits → n ≡ last_of o.start_seq (replay c.events).commits
newest_at o m g c n l is at = at ∙ (let s = l.settings in let cs = sym is.commits in λ i. last_of (s i).start_seq (cs i))

least_same : (n : ℕ) (s t : State) → s.txns ≡ t.txns → s.snapshots ≡ t.snapshots → least_start n s ≡ least_start n t
least_same n s t txns snapshots = λ i. least_start n (record s { txns = txns i; snapshots = snapshots i })

pub departs_none : (o : Options) (m : Meaning) (g : Segments) (c d : CoreModel) (f : Option Flight) (n : ℕ) → IsLocked (settings_of o) m g c → Replays c.events c.state → IsFrozen c d → n ≡ last_of c.settings.start_seq c.state.commits → above_install d.events ≡ [] → f ≡ None →
    Departs o m c.events d.events f (Ok (n, None))
departs_none o m g c d f n l is froze at above free = record {
  event = freeze_event c d froze;
  newest = newest_at o m g c n l is at;
  off = tt;
  idle = λ none. (free, above);
  free = tt;
  cause = tt;
}

pub departs_some : (o : Options) (m : Meaning) (g : Segments) (c d : CoreModel) (f : Flight) (n : ℕ) (x : Errand) → IsLocked (settings_of o) m g c → Replays c.events c.state → IsFrozen c d → n ≡ last_of c.settings.start_seq c.state.commits →
    TakesOff f x.tables.items d → IsTaken m f d → x.number ≡ f.number → x.barrier ≡ f.barrier → Departs o m c.events d.events (Some f) (Ok (n, Some x))
departs_some o m g c d f n x l is froze at off taken number barrier = record {
  event = freeze_event c d froze;
  newest = newest_at o m g c n l is at;
  off = record {
    flight_of = f;
    flies = refl;
    errand = record {
      number = number;
      barrier = barrier;
      tables = off.shared;
      through = newest_at o m g c f.through l is (off.newest ∙ same froze);
      start = off.barrier ∙ held froze ∙ least_same f.through c.state (replay c.events) (sym (is.txns ∙ l.bare)) (sym is.snapshots) ∙ ap (λ k. least_start k (replay c.events)) (newest_at o m g c f.through l is (off.newest ∙ same froze));
      ready = off.ready;
      rows = rows_off (settings_of o) m g c d f l is froze taken;
      plain = taken.plain;
    };
  };
  idle = λ none. absurd (cc none);
  free = tt;
  cause = tt;
}
  where
    same : IsFrozen c d → last_of d.settings.start_seq d.state.commits ≡ last_of c.settings.start_seq c.state.commits
    same (inl s) = ap (λ (x : CoreModel). last_of x.settings.start_seq x.state.commits) s.1
    same (inr s) = ap (λ (x : CoreModel). last_of x.settings.start_seq x.state.commits) s.1

    held : IsFrozen c d → least_start f.through d.state ≡ least_start f.through c.state
    held (inl s) = ap (λ (x : CoreModel). least_start f.through x.state) s.1
    held (inr s) = ap (λ (x : CoreModel). least_start f.through x.state) s.1

pub departs_refused : (o : Options) (m : Meaning) (g : Segments) (c d : CoreModel) (f : Option Flight) (e : SlateDBError) → IsLocked (settings_of o) m g c → Replays c.events c.state → (d ≡ c) ⊎ IsFrozen c d → (e ≡ errors.OutOfMemory) ⊎ ((e ≡ errors.LimitReached LIMIT) × NoPlace 1 c) → f ≡ None →
    Departs o m c.events d.events f (Err e)
departs_refused o m g c d f e l is either cause free = record {
  event = ⊎_elim (λ (same : d ≡ c). inl (ap (λ (x : CoreModel). x.events) same)) (λ (froze : IsFrozen c d). freeze_event c d froze) either;
  newest = tt;
  off = tt;
  idle = tt;
  free = free;
  cause = refused_full {X = ℕ × Option Errand} (settings_of o) m g c 1 (Err e) l is cause;
}

-- whether an event says so, where a freeze may have been
pub either_grows : (c d : CoreModel) (f : Option Flight) (a b : ℕ) → (d ≡ c) ⊎ IsFrozen c d → a ≡ length c.events → b ≡ length d.events → d.events ≡ (frozen_by (holds_at c.events f) (nat_lt a b)).events
either_grows c d f a b (inl same) before now = ap (λ (x : CoreModel). x.events) same ∙ ap (λ t. (frozen_by (holds_at c.events f) t).events) (sym (as_many a b (now ∙ ap (λ (x : CoreModel). length x.events) same ∙ sym before)))
either_grows c d f a b (inr froze) before now = ap (λ h. h.events) (frozen_grows c d f a b froze before now)
