-- What each call of a core keeps of a flush on its way.
--     aloft_event, aloft_state      an event that neither commits nor installs; a change of what is open
--     aloft_frozen, aloft_ended, aloft_committed, aloft_written      a freeze, the end of a transaction, its commit, and a write
use Rattle.std.proofs.Common.{◌≡◌, ◌⊎◌, inl, inr, ℕ, ◌+◌, ◌≤◌, ◌<◌, Bool, true, false, ◌||◌, List, [], ◌∷◌, ◌++◌, length, Option, Some, None, ℤ, refl, sym, ap, subst, ◌∙◌, arith, append-nil, append_assoc}
use Rattle.std.specs.List.{AllByRecursion, list_any}
use Rattle.std.proofs.lemmas.List.Folds.{list_any-append}
use Rattle.slate_types.proofs.Lists.{AllByRecursion_push}
use Rattle.slate_mem.specs.Batch.{Ops, batch_keys, kept_ops}
use Rattle.slate_txn.specs.declared.event.Event.{Event}
use Rattle.slate_txn.specs.declared.event.Event.TheVariants as events
use Rattle.slate_txn.specs.Conflict.{tracked_writes}
use Rattle.slate_txn.specs.Named.{without}
use Rattle.slate_txn.specs.Places.{IsQuiet, after_freeze, is_freeze, is_numbered}
use Rattle.slate_txn.specs.Reads.{key_rows, up_to}
use Rattle.slate_txn.specs.Replay.{IsLegal, LegalFrom, Allowed, apply, apply_all, replay, ids_of, used_from}
use Rattle.slate_txn.specs.State.{Commit, State, Tx, opening, last_of}
use Rattle.slate_txn.proofs.NamedLaws.{all_without}
use Rattle.slate_db.specs.declared.flight.Flight.{Flight}
use Rattle.slate_db.specs.Committed.{IsCommitted, IsEnded, after_commit}
use Rattle.slate_db.specs.Flying.{HasTaken, IsAloft, IsFlying, took}
use Rattle.slate_db.specs.Frozen.{IsFrozen}
use Rattle.slate_db.specs.Installs.{Replays, installed, runs_in, runs_of}
use Rattle.slate_db.specs.Meaning.{Meaning, rules_of}
use Rattle.slate_db.specs.Model.{CoreModel, versions_in}
use Rattle.slate_db.specs.Sound.{above}
use Rattle.slate_db.specs.Written.{IsWritten, after_write}
use Rattle.slate_db.proofs.Journals.{apply_more}
use Rattle.slate_db.proofs.Lists.{none_behind}
use Rattle.slate_db.proofs.Quiet.{freeze_more}
use Rattle.slate_db.proofs.RunsOf.{runs_same}
use Rattle.slate_db.proofs.Split.{last_more, up_to_more}

-- each reader stands at a sequence or above
abbrev pub AreFrom : ℕ → State → Type 0
AreFrom n s = AllByRecursion (λ p. n ≤ p.1.begin) s.txns × AllByRecursion (λ p. n ≤ p.1) s.snapshots

-- ---- an event that neither commits nor installs

abbrev pub Adds : CoreModel → CoreModel → Event → Type 0
Adds c d e = d ≡ record c { state = d.state; events = c.events ++ (e ∷ []); spare = d.spare }

same_installed : (es : List Event) (e : Event) → (apply (replay es) e).flushed ≡ (replay es).flushed → installed (es ++ (e ∷ [])) ≡ installed es
same_installed es e h = ap (λ s. s.flushed) (apply_more opening es e) ∙ h

flying_event : (f : Flight) (c d : CoreModel) (e : Event) → Adds c d e → runs_in e ≡ [] → (apply (replay c.events) e).flushed ≡ (replay c.events).flushed → d.state.commits ≡ c.state.commits → AreFrom f.barrier d.state → IsFlying f c → IsFlying f d
flying_event f c d e is none flushed commits from y = subst (IsFlying f) (sym is) (record {
  number = y.number ∙ ap (λ rs. length rs + 1) (sym (runs_same c.events e none));
  behind = subst (λ (n : ℕ). n ≤ f.through) (sym (same_installed c.events e flushed)) y.behind;
  within = subst (λ (cs : List Commit). f.through ≤ last_of c.settings.start_seq cs) (sym commits) y.within;
  floor = y.floor;
  barrier = y.barrier;
  begins = from.0;
  shows = from.1;
  later = y.later;
  frozen = y.frozen;
  count = y.count;
  rows = y.rows;
  rest = λ active later. subst (λ (cs : List Commit). up_to f.through cs ≡ cs) (sym commits) (y.rest active later);
})

has_event : (m : Meaning) (f : Flight) (c d : CoreModel) (e : Event) → Adds c d e → (apply (replay c.events) e).flushed ≡ (replay c.events).flushed → d.state.commits ≡ c.state.commits → HasTaken m f c → HasTaken m f d
has_event m f c d e is flushed commits has =
    let here : HasTaken m f (record c { state = d.state; events = c.events ++ (e ∷ []); spare = d.spare }) = (λ k. has k ∙ (let i = sym (same_installed c.events e flushed) in let cs = sym commits in λ j. key_rows (rules_of c.settings m) k (above (i j) (up_to f.through (cs j))))) in
    subst (HasTaken m f) (sym is) here

pub aloft_event : (m : Meaning) (o : Option Flight) (c d : CoreModel) (e : Event) → Adds c d e → runs_in e ≡ [] → (apply (replay c.events) e).flushed ≡ (replay c.events).flushed → d.state.commits ≡ c.state.commits →
    ((n : ℕ) → n ≤ last_of c.settings.start_seq c.state.commits → AreFrom n c.state → AreFrom n d.state) → IsAloft m o c → IsAloft m o d
aloft_event m None c d e is none flushed commits from a = tt
aloft_event m (Some f) c d e is none flushed commits from a = (
  flying_event f c d e is none flushed commits (from f.barrier (let b : f.barrier ≤ f.through = a.0.barrier in let t : f.through ≤ last_of c.settings.start_seq c.state.commits = a.0.within in omega arith) (a.0.begins, a.0.shows)) a.0,
  has_event m f c d e is flushed commits a.1,
)

-- a change of what is open
pub aloft_state : (m : Meaning) (o : Option Flight) (c d : CoreModel) → d ≡ record c { state = d.state; spare = d.spare } → d.state.commits ≡ c.state.commits → ((n : ℕ) → n ≤ last_of c.settings.start_seq c.state.commits → AreFrom n c.state → AreFrom n d.state) → IsAloft m o c → IsAloft m o d
aloft_state m None c d is commits from a = tt
aloft_state m (Some f) c d is commits from (y, has) = subst (IsAloft m (Some f)) (sym is) (
  record {
    number = y.number;
    behind = y.behind;
    within = subst (λ (cs : List Commit). f.through ≤ last_of c.settings.start_seq cs) (sym commits) y.within;
    floor = y.floor;
    barrier = y.barrier;
    begins = all.0;
    shows = all.1;
    later = y.later;
    frozen = y.frozen;
    count = y.count;
    rows = y.rows;
    rest = λ active later. subst (λ (cs : List Commit). up_to f.through cs ≡ cs) (sym commits) (y.rest active later);
  },
  λ k. has k ∙ (let cs = sym commits in λ j. key_rows (rules_of c.settings m) k (above (installed c.events) (up_to f.through (cs j)))),
)
  where
    all : AreFrom f.barrier d.state
    all = from f.barrier (let b : f.barrier ≤ f.through = y.barrier in let t : f.through ≤ last_of c.settings.start_seq c.state.commits = y.within in omega arith) (y.begins, y.shows)

pub aloft_ended : (m : Meaning) (o : Option Flight) (c d : CoreModel) (id : List ℕ) → IsEnded c d id → IsAloft m o c → IsAloft m o d
aloft_ended m o c d id is =
    aloft_event m o c d (events.End id) (is ∙ (λ i. record c { state = state i; events = c.events ++ (events.End id ∷ []); spare = d.spare })) refl refl (sym (ap (λ s. s.commits) state))
    (λ n h from. subst (AreFrom n) state (all_without _ id c.state.txns from.0, from.1))
  where
    state : record c.state { txns = without id c.state.txns } ≡ d.state
    state = ap (λ (x : CoreModel). x.state) (sym is)

-- ---- a freeze

pub aloft_frozen : (m : Meaning) (o : Option Flight) (c d : CoreModel) → IsFrozen c d → IsAloft m o c → IsAloft m o d
aloft_frozen m None c d froze a = tt
aloft_frozen m (Some f) c d (inl s) a = subst (IsAloft m (Some f)) (sym s.1) a
aloft_frozen m (Some f) c d (inr s) (y, has) = subst (IsAloft m (Some f)) (sym s.1) (
  record {
    number = y.number ∙ ap (λ rs. length rs + 1) (sym (runs_same c.events events.Freeze refl));
    behind = subst (λ (n : ℕ). n ≤ f.through) (sym (same_installed c.events events.Freeze refl)) y.behind;
    within = y.within;
    floor = y.floor;
    barrier = y.barrier;
    begins = y.begins;
    shows = y.shows;
    later = y.later ++ (c.active ∷ []);
    frozen = ap (λ ls. ls ++ (c.active ∷ [])) y.frozen ∙ append_assoc (took f) y.later (c.active ∷ []);
    count = y.count;
    rows = y.rows;
    rest = λ active later. absurd (none_behind y.later c.active later);
  },
  λ k. has k ∙ ap (λ i. key_rows (rules_of c.settings m) k (above i (up_to f.through c.state.commits))) (sym (same_installed c.events events.Freeze refl)),
)

-- ---- a commit with a sequence

abbrev Commits : CoreModel → CoreModel → Event → Commit → Type 0
Commits c d e x = d ≡ record c { state = record d.state { commits = c.state.commits ++ (x ∷ []) }; events = c.events ++ (e ∷ []); spare = d.spare; active = d.active; segments = d.segments }

-- it is above all that a flush takes, and its rows are in memory
aloft_more : (m : Meaning) (o : Option Flight) (c d : CoreModel) (e : Event) (x : Commit) → Commits c d e x → runs_in e ≡ [] → (apply (replay c.events) e).flushed ≡ (replay c.events).flushed → last_of c.settings.start_seq c.state.commits < x.seq → (d.active ≡ [] → ⊥) →
    ((n : ℕ) → AreFrom n c.state → AreFrom n d.state) → IsAloft m o c → IsAloft m o d
aloft_more m None c d e x is none flushed next some from a = tt
aloft_more m (Some f) c d e x is none flushed next some from (y, has) = subst (IsAloft m (Some f)) (sym is) (
  record {
    number = y.number ∙ ap (λ rs. length rs + 1) (sym (runs_same c.events e none));
    behind = subst (λ (n : ℕ). n ≤ f.through) (sym (same_installed c.events e flushed)) y.behind;
    within = subst (λ (n : ℕ). f.through ≤ n) (sym (last_more c.settings.start_seq c.state.commits x)) (let a : f.through < x.seq = above_all in omega arith);
    floor = y.floor;
    barrier = y.barrier;
    begins = (from f.barrier (y.begins, y.shows)).0;
    shows = (from f.barrier (y.begins, y.shows)).1;
    later = y.later;
    frozen = y.frozen;
    count = y.count;
    rows = y.rows;
    rest = λ active later. absurd (some active);
  },
  λ k. has k ∙ (let i = sym (same_installed c.events e flushed) in let cs = sym (up_to_more f.through c.state.commits x above_all) in λ j. key_rows (rules_of c.settings m) k (above (i j) (cs j))),
)
  where
    above_all : f.through < x.seq
    above_all = let t : f.through ≤ last_of c.settings.start_seq c.state.commits = y.within in omega arith

-- of a legal journal: the sequence is the next
allowed_last : (n : ℕ) (s : State) (used : List (List ℕ)) (es : List Event) (e : Event) → LegalFrom n s used (es ++ (e ∷ [])) → Allowed n (apply_all s es) (used_from used es) e
allowed_last n s used [] e h = h.0
allowed_last n s used (x ∷ es) e h = allowed_last n (apply s x) (ids_of x ++ used) es e h.1

-- a journal that ends with a commit isn't quiet
unquiet : (es : List Event) (e : Event) → is_freeze e ≡ false → is_numbered e ≡ true → IsQuiet (es ++ (e ∷ [])) → ⊥
unquiet es e f n quiet =
    let any : list_any is_numbered (after_freeze (es ++ (e ∷ []))) ≡ true = ap (list_any is_numbered) (freeze_more es e f) ∙ list_any-append is_numbered (after_freeze es) (e ∷ []) ∙ ap (λ b. list_any is_numbered (after_freeze es) || (b || false)) n ∙ either (list_any is_numbered (after_freeze es)) in
    let clash : true ≡ false = sym any ∙ quiet in cc
  where
    either : (b : Bool) → (b || true) ≡ true
    either true = refl
    either false = refl

-- what a core says of its journal
pub record IsOrderly (c d : CoreModel) : Type 0 where
  pub replays : Replays c.events c.state
  pub legal : IsLegal d.settings.start_seq d.events
  pub quiet : d.active ≡ [] → IsQuiet d.events

pub aloft_committed : (m : Meaning) (o : Option Flight) (c d : CoreModel) (id : List ℕ) (n : Option ℕ) (now : ℤ) (t : Tx) → IsCommitted c d id n now t → IsOrderly c d → IsAloft m o c → IsAloft m o d
aloft_committed m o c d id None now t (none, is) orderly =
    aloft_event m o c d (events.Commit id None now (kept_ops t.ops) (tracked_writes t) t.transcript) (is ∙ (λ i. record c { state = state i; events = c.events ++ (events.Commit id None now (kept_ops t.ops) (tracked_writes t) t.transcript ∷ []); spare = d.spare })) refl refl
    (sym (ap (λ s. s.commits) state) ∙ append-nil c.state.commits)
    (λ n h from. subst (AreFrom n) state (all_without _ id c.state.txns from.0, from.1))
  where
    state : record c.state { commits = c.state.commits ++ []; txns = without id c.state.txns } ≡ d.state
    state = ap (λ (x : CoreModel). x.state) (sym is)
aloft_committed m o c d id (Some n) now t is orderly =
    aloft_more m o c d e x (is ∙ (λ i. record c { state = record (state i) { commits = c.state.commits ++ (x ∷ []) }; events = c.events ++ (e ∷ []); spare = d.spare; active = d.active; segments = d.segments })) refl refl next
    (λ none. unquiet c.events e refl refl (subst IsQuiet (ap (λ (v : CoreModel). v.events) is) (orderly.quiet none)))
    (λ k from. subst (AreFrom k) state (all_without _ id c.state.txns from.0, from.1))
  where
    e : Event
    e = events.Commit id (Some n) now (kept_ops t.ops) (tracked_writes t) t.transcript

    x : Commit
    x = record { seq = n; now = now; ops = kept_ops t.ops; tracked = tracked_writes t }

    state : record c.state { commits = c.state.commits ++ (x ∷ []); txns = without id c.state.txns } ≡ d.state
    state = ap (λ (v : CoreModel). v.state) (sym is)

    next : last_of c.settings.start_seq c.state.commits < n
    next =
        let legal : IsLegal c.settings.start_seq (c.events ++ (e ∷ [])) = subst (λ (v : CoreModel). IsLegal v.settings.start_seq v.events) is orderly.legal in
        let may = allowed_last c.settings.start_seq opening [] c.events e legal in
        let at : n ≡ last_of c.settings.start_seq c.state.commits + 1 = may.1.0 ∙ ap (λ cs. last_of c.settings.start_seq cs + 1) orderly.replays.commits in
        omega arith

pub aloft_written : (m : Meaning) (o : Option Flight) (c d : CoreModel) (n : Option ℕ) (now : ℤ) (ops : Ops) → IsWritten c d n now ops → IsOrderly c d → IsAloft m o c → IsAloft m o d
aloft_written m o c d None now ops (none, is) orderly a = subst (IsAloft m o) (sym is) a
aloft_written m o c d (Some n) now ops is orderly a =
    aloft_more m o c d e x (is ∙ (λ i. record c { state = record (state i) { commits = c.state.commits ++ (x ∷ []) }; events = c.events ++ (e ∷ []); spare = d.spare; active = d.active; segments = d.segments })) refl refl next
    (λ none. unquiet c.events e refl refl (subst IsQuiet (ap (λ (v : CoreModel). v.events) is) (orderly.quiet none)))
    (λ k from. subst (AreFrom k) state from) a
  where
    e : Event
    e = events.Write n now ops

    x : Commit
    x = record { seq = n; now = now; ops = ops; tracked = batch_keys ops }

    state : record c.state { commits = c.state.commits ++ (x ∷ []) } ≡ d.state
    state = ap (λ (v : CoreModel). v.state) (sym is)

    next : last_of c.settings.start_seq c.state.commits < n
    next =
        let legal : IsLegal c.settings.start_seq (c.events ++ (e ∷ [])) = subst (λ (v : CoreModel). IsLegal v.settings.start_seq v.events) is orderly.legal in
        let may = allowed_last c.settings.start_seq opening [] c.events e legal in
        let at : n ≡ last_of c.settings.start_seq c.state.commits + 1 = may.0.0 ∙ ap (λ cs. last_of c.settings.start_seq cs + 1) orderly.replays.commits in
        omega arith
