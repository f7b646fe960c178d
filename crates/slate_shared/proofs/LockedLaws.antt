-- What a begin, an end and a freeze leave of what lies behind the lock.
use Rattle.std.proofs.Common.{◌≡◌, ◌⊎◌, ℕ, ◌+◌, length, length-append, arith, inl, inr, Bool, true, false, cond, List, [], ◌∷◌, ◌++◌, map, Option, Some, None, refl, sym, ap, ◌∙◌, subst}
use Rattle.std.specs.Prelude.{nat_lt, IsSome, Result, Ok, Err, IfOk, IfErr, OnOk, OnErr}
use Rattle.std.proofs.lemmas.Bool.Decides.{nat_tests}
use Rattle.slate_types.specs.declared.config.IsolationLevel.{IsolationLevel}
use Rattle.slate_types.specs.declared.error.SlateDBError.{SlateDBError}
use Rattle.slate_types.specs.declared.error.SlateDBError.TheVariants as errors
use Rattle.slate_mem.specs.KeyTests.{Segments}
use Rattle.slate_txn.specs.declared.event.Event.{Event}
use Rattle.slate_txn.specs.declared.event.Event.TheVariants as events
use Rattle.slate_txn.specs.Settings.{Settings}
use Rattle.slate_txn.specs.declared.line.Line.TheVariants as lines
use Rattle.slate_txn.specs.Named.{find_named, without, set_named}
use Rattle.slate_txn.specs.Replay.{replay}
use Rattle.slate_txn.specs.State.{Rules, Tx, State, begun, last, last_of, is_open}
use Rattle.slate_txn.specs.Step.{step, closed}
use Rattle.slate_txn.specs.Reply as replies
use Rattle.slate_txn.specs.Reply.{Reply}
use Rattle.slate_txn.proofs.NamedLaws.{without_map}
use Rattle.slate_types.proofs.Plain.{neither, none_by_test}
use Rattle.slate_db.specs.Flushed.{NoPlace}
use Rattle.slate_db.specs.Frozen.{IsFrozen}
use Rattle.slate_db.specs.Installs.{as_begun, Replays}
use Rattle.slate_db.specs.Log.{LIMIT}
use Rattle.slate_db.specs.Meaning.{Meaning, rules_in}
use Rattle.slate_db.specs.Model.{CoreModel}
use Rattle.slate_db.specs.Segmented.{IsSegmented}
use Rattle.slate_db.specs.Sound.{IsKept}
use Rattle.slate_db.specs.declared.flight.Flight.{Flight}
use Rattle.slate_shared.specs.LockedModel.{holds_at, frozen_by, grow, IsFull}
use Rattle.slate_shared.specs.Locked.{IsLocked}

pub record Fresh (r : Rules) (c t : State) (id : List ℕ) (level : IsolationLevel) (n : ℕ) : Type 0 where
  pub none : find_named id c.txns ≡ None
  pub is : t ≡ record c { txns = set_named id (begun level (last r c)) c.txns }
  pub at : n ≡ last r c

pub opens_fresh : (r : Rules) (c t : State) (id : List ℕ) (level : IsolationLevel) (n : ℕ) → step r c (lines.Begin id level) ≡ (t, replies.Begun id n) → Fresh r c t id level n
opens_fresh r c t id level n h = by (is_open c id) refl h
  where
    clash : (e : _) → replies.Refused e ≡ replies.Begun id n → ⊥
    clash e h = cc

    same : (a : ℕ) → replies.Begun id a ≡ replies.Begun id n → n ≡ a
    same a h = cc

    by : (b : Bool) → is_open c id ≡ b →
        ◌≡◌ {A = State × Reply} (cond b (c, replies.Refused (errors.DuplicateTransaction id)) (record c { txns = set_named id (begun level (last r c)) c.txns }, replies.Begun id (last r c))) (t, replies.Begun id n) → Fresh r c t id level n
    by true e h = absurd (clash _ (ap (λ p. p.1) h))
    by false e h = record {
      none = none_by_test (find_named id c.txns) (neither _ _ e).0;
      is = sym (ap (λ p. p.0) h);
      at = same (last r c) (ap (λ p. p.1) h);
    }

pub closes : (r : Rules) (c t : State) (id : List ℕ) → step r c (lines.Rollback id) ≡ (t, replies.Done) → t ≡ closed c id
closes r c t id h = by (is_open c id) h
  where
    clash : (e : _) → replies.Refused e ≡ replies.Done → ⊥
    clash e h = cc

    by : (b : Bool) → ◌≡◌ {A = State × Reply} (cond b (closed c id, replies.Done) (c, replies.Refused (errors.UnknownTransaction id))) (t, replies.Done) → t ≡ closed c id
    by true h = sym (ap (λ p. p.0) h)
    by false h = absurd (clash _ (ap (λ p. p.1) h))

pub bare_more : (id : List ℕ) (level : IsolationLevel) (n : ℕ) (ps : List (List ℕ × Tx)) → map as_begun ps ≡ ps → map as_begun (set_named id (begun level n) ps) ≡ set_named id (begun level n) ps
bare_more id level n [] e = refl
bare_more id level n (p ∷ ps) e =
    let head : as_begun p ≡ p = cc e in
    let tail : map as_begun ps ≡ ps = cc e in
    let rest = bare_more id level n ps tail in
    (λ i. head i ∷ rest i)

pub bare_less : (id : List ℕ) (ps : List (List ℕ × Tx)) → map as_begun ps ≡ ps → map as_begun (without id ps) ≡ without id ps
bare_less id ps e = sym (without_map as_begun (λ p. refl) id ps) ∙ ap (without id) e

is_some : {X : Type 0} (o : Option X) (x : X) → o ≡ Some x → IsSome o
is_some (Some y) x e = refl
is_some None x e = absurd (cc e)

-- what a begin of a core says, where it answers
abbrev pub Opens : CoreModel → CoreModel → IsolationLevel → Result (List ℕ × ℕ) SlateDBError → Type 0
Opens c d level r = IfOk r (λ a. (m : Meaning) (g : Segments) → step (rules_in c.settings m g) c.state (lines.Begin a.0 level) ≡ (d.state, replies.Begun a.0 a.1))

abbrev pub Notes : CoreModel → CoreModel → IsolationLevel → Result (List ℕ × ℕ) SlateDBError → Type 0
Notes c d level r = IfOk r (λ a. d ≡ record c { state = d.state; events = c.events ++ events.Begin a.0 level a.1 ∷ []; spare = d.spare })

pub begun_locked : (o : Settings) (m : Meaning) (g : Segments) (c d : CoreModel) (level : IsolationLevel) (r : Result (List ℕ × ℕ) SlateDBError) → IsLocked o m g c → Opens c d level r → Notes c d level r
    → OnOk r ((h : Segments) → IsSegmented h c → IsSegmented h d) → OnOk r ((n : Meaning) → IsKept n c → IsKept n d) → OnErr r (d ≡ c) → IsLocked o m g d
begun_locked o m g c d level (Ok a) l opens notes segments keeps same =
    let fresh = opens_fresh (rules_in c.settings m g) c.state d.state a.0 level a.1 (opens m g) in record {
      settings = ap (λ x. x.settings) notes ∙ l.settings;
      kept = keeps m l.kept;
      segmented = segments g l.segmented;
      bare = subst (λ (s : State). map as_begun s.txns ≡ s.txns) (sym fresh.is) (bare_more a.0 level (last (rules_in c.settings m g) c.state) c.state.txns l.bare);
      unshown = ap (λ s. s.snapshots) fresh.is ∙ l.unshown;
    }
begun_locked o m g c d level (Err e) l opens notes segments keeps same = subst (IsLocked o m g) (sym same) l

pub begun_grows : (o : Settings) (m : Meaning) (g : Segments) (c d : CoreModel) (level : IsolationLevel) (f : Option Flight) (r : Result (List ℕ × ℕ) SlateDBError) → IsLocked o m g c → Replays c.events c.state → Opens c d level r → Notes c d level r
    → IfOk r (λ a. (holds_at d.events f ≡ grow (holds_at c.events f) (events.Begin a.0 level a.1)) × (a.1 ≡ last_of o.start_seq (replay c.events).commits))
begun_grows o m g c d level f (Ok a) l is opens notes =
    let fresh = opens_fresh (rules_in c.settings m g) c.state d.state a.0 level a.1 (opens m g) in
    let commits = is.commits in
    let settings = l.settings in
    (ap (λ x. holds_at x.events f) notes, fresh.at ∙ (λ i. last_of (settings i).start_seq (sym commits i)))
begun_grows o m g c d level f (Err e) l is opens notes = tt

pub begun_fresh : (o : Settings) (m : Meaning) (g : Segments) (c d : CoreModel) (level : IsolationLevel) (r : Result (List ℕ × ℕ) SlateDBError) → IsLocked o m g c → Replays c.events c.state → Opens c d level r
    → IfOk r (λ a. find_named a.0 (replay c.events).txns ≡ None)
begun_fresh o m g c d level (Ok a) l is opens =
    let fresh = opens_fresh (rules_in c.settings m g) c.state d.state a.0 level a.1 (opens m g) in ap (find_named a.0) (is.txns ∙ l.bare) ∙ fresh.none
begun_fresh o m g c d level (Err e) l is opens = tt

pub same_held : {X : Type 0} (c d : CoreModel) (f : Option Flight) (r : Result X SlateDBError) → OnErr r (d ≡ c) → OnErr r (holds_at d.events f ≡ holds_at c.events f)
same_held c d f (Ok x) same = tt
same_held c d f (Err e) same = ap (λ x. holds_at x.events f) same

pub open_there : (o : Settings) (m : Meaning) (g : Segments) (c : CoreModel) (es : List Event) (id : List ℕ) (t : Tx) → IsLocked o m g c → Replays c.events c.state → es ≡ c.events → find_named id (replay es).txns ≡ Some t → IsSome (find_named id c.state.txns)
open_there o m g c es id t l is same there = is_some (find_named id c.state.txns) t (ap (find_named id) (sym (is.txns ∙ l.bare)) ∙ ap (λ xs. find_named id (replay xs).txns) (sym same) ∙ there)

pub ended_locked : (o : Settings) (m : Meaning) (g : Segments) (c d : CoreModel) (id : List ℕ) → IsLocked o m g c → ((n : Meaning) (h : Segments) → step (rules_in c.settings n h) c.state (lines.Rollback id) ≡ (d.state, replies.Done))
    → d ≡ record c { state = d.state; events = c.events ++ events.End id ∷ []; spare = d.spare } → ((h : Segments) → IsSegmented h c → IsSegmented h d) → ((n : Meaning) → IsKept n c → IsKept n d) → IsLocked o m g d
ended_locked o m g c d id l does notes segments keeps =
    let is = closes (rules_in c.settings m g) c.state d.state id (does m g) in record {
      settings = ap (λ x. x.settings) notes ∙ l.settings;
      kept = keeps m l.kept;
      segmented = segments g l.segmented;
      bare = subst (λ (s : State). map as_begun s.txns ≡ s.txns) (sym is) (bare_less id c.state.txns l.bare);
      unshown = ap (λ s. s.snapshots) is ∙ ap (without id) l.unshown;
    }

-- ---- a freeze

pub frozen_locked : (o : Settings) (m : Meaning) (g : Segments) (c d : CoreModel) → IsLocked o m g c → IsFrozen c d → (IsKept m c → IsKept m d) → IsLocked o m g d
frozen_locked o m g c d l (inl s) keeps = subst (IsLocked o m g) (sym s.1) l
frozen_locked o m g c d l (inr s) keeps = record {
  settings = ap (λ (x : CoreModel). x.settings) s.1 ∙ l.settings;
  kept = keeps l.kept;
  segmented = subst (IsSegmented g) (sym s.1) (record { recorded = l.segmented.recorded; each = l.segmented.each; apart = l.segmented.apart });
  bare = subst (λ (x : CoreModel). map as_begun x.state.txns ≡ x.state.txns) (sym s.1) l.bare;
  unshown = ap (λ (x : CoreModel). x.state.snapshots) s.1 ∙ l.unshown;
}

more : (a b : ℕ) → b ≡ a + 1 → nat_lt a b ≡ true
more a b e = by (nat_lt a b) refl
  where
    by : (t : Bool) → nat_lt a b ≡ t → t ≡ true
    by true h = refl
    by false h = absurd (grind (arith, nat_tests))

pub as_many : (a b : ℕ) → b ≡ a → nat_lt a b ≡ false
as_many a b e = by (nat_lt a b) refl
  where
    by : (t : Bool) → nat_lt a b ≡ t → t ≡ false
    by true h = absurd (grind (arith, nat_tests))
    by false h = refl

-- whether an event says so
pub frozen_grows : (c d : CoreModel) (f : Option Flight) (a b : ℕ) → IsFrozen c d → a ≡ length c.events → b ≡ length d.events → holds_at d.events f ≡ frozen_by (holds_at c.events f) (nat_lt a b)
frozen_grows c d f a b (inl s) before now =
    ap (λ (x : CoreModel). holds_at x.events f) s.1 ∙ ap (frozen_by (holds_at c.events f)) (sym (as_many a b (now ∙ ap (λ (x : CoreModel). length x.events) s.1 ∙ sym before)))
frozen_grows c d f a b (inr s) before now =
    ap (λ (x : CoreModel). holds_at x.events f) s.1
    ∙ ap (frozen_by (holds_at c.events f)) (sym (more a b (now ∙ ap (λ (x : CoreModel). length x.events) s.1 ∙ length-append c.events (events.Freeze ∷ []) ∙ ap (λ n. n + 1) (sym before))))

pub frozen_at : (o : Settings) (m : Meaning) (g : Segments) (c : CoreModel) (t : State) (n : ℕ) → IsLocked o m g c → Replays c.events c.state → step (rules_in c.settings m g) c.state lines.Freeze ≡ (t, replies.Frozen n) → n ≡ last_of o.start_seq (replay c.events).commits
frozen_at o m g c t n l is does = same n (ap (λ p. p.1) does) ∙ (let commits = is.commits in let settings = l.settings in λ i. last_of (settings i).start_seq (sym commits i))
  where
    same : (k : ℕ) → replies.Frozen (last (rules_in c.settings m g) c.state) ≡ replies.Frozen k → k ≡ last (rules_in c.settings m g) c.state
    same k h = cc

-- ---- a refusal

pub full : (o : Settings) (m : Meaning) (g : Segments) (c : CoreModel) (n : ℕ) → IsLocked o m g c → Replays c.events c.state → NoPlace n c → IsFull n c.events
full o m g c n l is h = let t = ap length (is.txns ∙ l.bare) in let s = ap length is.snapshots in omega (arith, h, t, s)

abbrev pub Refuses : {X : Type 0} → Type 0 → Result X SlateDBError → Type 0
Refuses N r = IfErr r (λ e. (e ≡ errors.OutOfMemory) ⊎ ((e ≡ errors.LimitReached LIMIT) × N))

pub refused_full : {X : Type 0} (o : Settings) (m : Meaning) (g : Segments) (c : CoreModel) (n : ℕ) (r : Result X SlateDBError) → IsLocked o m g c → Replays c.events c.state → Refuses (NoPlace n c) r → Refuses (IsFull n c.events) r
refused_full o m g c n (Ok x) l is h = tt
refused_full o m g c n (Err e) l is (inl h) = inl h
refused_full o m g c n (Err e) l is (inr h) = inr (h.0, full o m g c n l is h.1)
