-- What a transaction leaves of a core: what stays settled, vouched for and of one kind, and how much the core grows.
use Rattle.std.proofs.Common.{◌≡◌, ◌+◌, ◌≤◌, ℕ, ℤ, Bool, true, false, cond, bytes_eq, List, [], ◌∷◌, ◌++◌, length, map, append_assoc, Option, Some, None, refl, sym, ap, subst, ◌∙◌, arith}
use Rattle.std.proofs.lemmas.List.{length-append}
use Rattle.slate_types.specs.Outside.{Meaning, Objects}
use Rattle.slate_types.specs.declared.config.IsolationLevel.{IsolationLevel}
use Rattle.slate_types.specs.declared.types.Ulid.{Ulid}
use Rattle.slate_filter.specs.Policy.{Policy}
use Rattle.slate_mem.specs.Batch.{batch_keys, kept_ops}
use Rattle.slate_mem.specs.KeyTests.{Segments}
use Rattle.slate_txn.specs.declared.event.Event.{Event}
use Rattle.slate_txn.specs.declared.event.Event.TheVariants as events
use Rattle.slate_txn.specs.declared.event.TranscriptStep.{TranscriptStep}
use Rattle.slate_txn.specs.Alone.{IsAlone, own_of}
use Rattle.slate_txn.specs.Audited.{AreOfKind, AreOfKindFrom, IsOfKindAt, IsOfKindBy, Kind}
use Rattle.slate_txn.specs.Named.{find_named, set_named}
use Rattle.slate_txn.specs.Replay.{apply, apply_all, replay}
use Rattle.slate_txn.specs.State.{Commit, Rules, State, Tx, begun, opening}
use Rattle.slate_txn.specs.Vouched.{AreVouched, AreVouchedFrom, VouchedAt, VouchedBy}
use Rattle.slate_db.specs.Installs.{as_begun, runs_of}
use Rattle.slate_db.specs.Load.{load, weight}
use Rattle.slate_db.specs.Meaning.{rules_of}
use Rattle.slate_db.specs.Model.{CoreModel}
use Rattle.slate_db.specs.Segmented.{IsSegmented}
use Rattle.slate_db.specs.SerialLaws.{IsVouchedCore}
use Rattle.slate_db.specs.Settled.{IsSettled}
use Rattle.slate_db.specs.Sound.{IsKept}
use Rattle.slate_db.proofs.RunsOf.{runs_same}
use Rattle.slate_db.proofs.Settled.{stays_settled}
use Rattle.slate_steps.specs.Steps.{HasCommitted, HasEnded, IsWithin, Sees, newest}
use Rattle.slate_steps.proofs.Ending.{committing, within_segmented}
use Rattle.slate_steps.proofs.LastNamed.{find_last}
use Rattle.slate_steps.proofs.Taking.{no_transaction}

-- ---- two events more

two_more : (es : List Event) (e f : Event) → es ++ (e ∷ f ∷ []) ≡ (es ++ (e ∷ [])) ++ (f ∷ [])
two_more es e f = sym (append_assoc es (e ∷ []) (f ∷ []))

two_longer : (es : List Event) (e f : Event) → length (es ++ (e ∷ f ∷ [])) ≡ length es + 2
two_longer es e f = length-append es (e ∷ f ∷ [])

-- ---- settled

pub within_settled : (policies : List Policy) (m : Meaning) (g : Segments) (objects : Option Objects) (c d : CoreModel) (id : List ℕ) (level : IsolationLevel) (ts : List TranscriptStep) → IsWithin c id level ts d →
    IsSettled policies m g objects c → IsSettled policies m g objects d
within_settled policies m g objects c d id level ts h settled =
    stays_settled policies m g objects c d
    (ap (λ (v : CoreModel). runs_of v.events) h.is ∙ runs_same c.events (events.Begin id level (newest c)) refl)
    (let more : length d.events ≡ length c.events + 1 = ap (λ (v : CoreModel). length v.events) h.is ∙ length-append c.events (events.Begin id level (newest c) ∷ []) in omega (arith, more))
    (h.kept m) (within_segmented c d id level ts h g) settled

runs_two : (es : List Event) (id : List ℕ) (level : IsolationLevel) (n : ℕ) (f : Event) → runs_of (f ∷ []) ≡ [] → runs_of (es ++ (events.Begin id level n ∷ f ∷ [])) ≡ runs_of es
runs_two [] id level n f h = h
runs_two (e ∷ es) id level n f h = runs_past e (runs_two es id level n f h)
  where
    runs_past : (x : Event) → runs_of (es ++ (events.Begin id level n ∷ f ∷ [])) ≡ runs_of es → runs_of (x ∷ (es ++ (events.Begin id level n ∷ f ∷ []))) ≡ runs_of (x ∷ es)
    runs_past (events.Install through tables) later = ap (λ rs. tables ∷ rs) later
    runs_past (events.Begin j l s) later = later
    runs_past (events.End j) later = later
    runs_past (events.Commit j k t os tracked us) later = later
    runs_past (events.Write k t os) later = later
    runs_past events.Freeze later = later
    runs_past (events.Snapshot j k) later = later
    runs_past (events.Release j) later = later

pub ended_segmented : (g : Segments) (c d : CoreModel) (id : List ℕ) (level : IsolationLevel) → HasEnded c id level d → IsSegmented g c → IsSegmented g d
ended_segmented g c d id level h s = subst (IsSegmented g) (sym h.is) (record { recorded = s.recorded; each = s.each; apart = s.apart })

pub ended_settled : (policies : List Policy) (m : Meaning) (g : Segments) (objects : Option Objects) (c d : CoreModel) (id : List ℕ) (level : IsolationLevel) → HasEnded c id level d →
    IsSettled policies m g objects c → IsSettled policies m g objects d
ended_settled policies m g objects c d id level h settled =
    stays_settled policies m g objects c d
    (ap (λ (v : CoreModel). runs_of v.events) h.is ∙ runs_two c.events id level (newest c) (events.End id) refl)
    (let more : length d.events ≡ length c.events + 2 = ap (λ (v : CoreModel). length v.events) h.is ∙ two_longer c.events (events.Begin id level (newest c)) (events.End id) in omega (arith, more))
    (h.kept m) (ended_segmented g c d id level h) settled

pub committed_settled : (policies : List Policy) (m : Meaning) (g : Segments) (objects : Option Objects) (c d : CoreModel) (id : List ℕ) (level : IsolationLevel) (ts : List TranscriptStep) (n : Option ℕ) (now : ℤ) →
    HasCommitted c id level ts n now d → (IsKept m c → IsKept m d) → (IsSegmented g c → IsSegmented g d) → IsSettled policies m g objects c → IsSettled policies m g objects d
committed_settled policies m g objects c d id level ts n now h kept segmented settled =
    stays_settled policies m g objects c d
    (ap (λ (v : CoreModel). runs_of v.events) h.is ∙ runs_two c.events id level (newest c) (committing id ts n now) refl)
    (let more : length d.events ≡ length c.events + 2 = ap (λ (v : CoreModel). length v.events) h.is ∙ two_longer c.events (events.Begin id level (newest c)) (committing id ts n now) in omega (arith, more))
    kept segmented settled

-- ---- vouched for

vouched_two : (r : Rules) (s : State) (es : List Event) (e f : Event) → AreVouchedFrom r s es → VouchedAt r (apply_all s es) e → VouchedAt r (apply (apply_all s es) e) f → AreVouchedFrom r s (es ++ (e ∷ f ∷ []))
vouched_two r s [] e f h one two = (one, (two, tt))
vouched_two r s (x ∷ es) e f h one two = (h.0, vouched_two r (apply s x) es e f h.1 one two)

pub ended_vouched : (m : Meaning) (c d : CoreModel) (id : List ℕ) (level : IsolationLevel) → HasEnded c id level d → IsVouchedCore m c → IsVouchedCore m d
ended_vouched m c d id level h vouched = subst (IsVouchedCore m) (sym h.is) (record {
  journal = vouched_two (rules_of c.settings m) opening c.events (events.Begin id level (newest c)) (events.End id) vouched.journal tt tt;
  transactions = λ other. vouched.transactions other;
})

none_begun : (id : List ℕ) (ps : List (List ℕ × Tx)) → find_named id ps ≡ None → find_named id (map as_begun ps) ≡ None
none_begun id [] h = refl
none_begun id (p ∷ ps) h = by (bytes_eq p.0 id) h (none_begun id ps)
  where
    by : (b : Bool) → cond b (Some p.1) (find_named id ps) ≡ None → (find_named id ps ≡ None → find_named id (map as_begun ps) ≡ None) → cond b (Some (as_begun p).1) (find_named id (map as_begun ps)) ≡ None
    by true e rest = cc
    by false e rest = rest e

module _ (c d : CoreModel) (id : List ℕ) (level : IsolationLevel) (ts : List TranscriptStep) (n : Option ℕ) (now : ℤ) (h : HasCommitted c id level ts n now d) where
  -- the transaction in the state that the journal replays to
  replayed : find_named id (set_named id (begun level (newest c)) (replay c.events).txns) ≡ Some (begun level (newest c))
  replayed = find_last id (begun level (newest c)) (replay c.events).txns (ap (find_named id) h.replays.txns ∙ none_begun id c.state.txns (no_transaction c.state id h.fresh))

  pub committed_vouched : (m : Meaning) → Sees m c ts → IsVouchedCore m c → IsVouchedCore m d
  committed_vouched m sees vouched = record {
    journal = subst (λ (v : CoreModel). AreVouched (rules_of v.settings m) v.events) (sym h.is)
        (vouched_two (rules_of c.settings m) opening c.events (events.Begin id level (newest c)) (committing id ts n now) vouched.journal tt
        (subst (λ (o : Option Tx). VouchedBy (rules_of c.settings m) (apply (replay c.events) (events.Begin id level (newest c))) o ts) (sym replayed)
        (subst (λ (cs : List Commit). IsAlone (rules_of c.settings m) cs (newest c) ts) (sym h.replays.commits) sees)));
    transactions = λ other. h.others m other (vouched.transactions other);
  }

-- ---- of one kind

of_kind_two : (kind : Kind) (s : State) (es : List Event) (e f : Event) → AreOfKindFrom kind s es → IsOfKindAt kind (apply_all s es) e → IsOfKindAt kind (apply (apply_all s es) e) f → AreOfKindFrom kind s (es ++ (e ∷ f ∷ []))
of_kind_two kind s [] e f h one two = (one, (two, tt))
of_kind_two kind s (x ∷ es) e f h one two = (h.0, of_kind_two kind (apply s x) es e f h.1 one two)

pub ended_kind : (kind : Kind) (c d : CoreModel) (id : List ℕ) (level : IsolationLevel) → HasEnded c id level d → AreOfKind kind c.events → AreOfKind kind d.events
ended_kind kind c d id level h are = subst (λ (v : CoreModel). AreOfKind kind v.events) (sym h.is) (of_kind_two kind opening c.events (events.Begin id level (newest c)) (events.End id) are tt tt)

-- a commit of no operations has no sequence, and is of each kind
pub committed_kind : (kind : Kind) (c d : CoreModel) (id : List ℕ) (level : IsolationLevel) (ts : List TranscriptStep) (n : Option ℕ) (now : ℤ) → HasCommitted c id level ts n now d →
    kind level now (kept_ops (own_of ts)) (batch_keys (own_of ts)) ts → AreOfKind kind c.events → AreOfKind kind d.events
committed_kind kind c d id level ts n now h of_kind are =
    subst (λ (v : CoreModel). AreOfKind kind v.events) (sym h.is) (of_kind_two kind opening c.events (events.Begin id level (newest c)) (committing id ts n now) are tt (by n))
  where
    by : (o : Option ℕ) → IsOfKindAt kind (apply (replay c.events) (events.Begin id level (newest c))) (committing id ts o now)
    by None = tt
    by (Some seq) = subst (λ (o : Option Tx). IsOfKindBy kind o (Some seq) now (kept_ops (own_of ts)) (batch_keys (own_of ts)) ts) (sym (replayed c d id level ts n now h)) of_kind

-- ---- how much it grows

pub ended_weight : (c d : CoreModel) (id : List ℕ) (level : IsolationLevel) → HasEnded c id level d → weight d ≡ weight c + 2
ended_weight c d id level h = ap (λ (v : CoreModel). weight v) h.is ∙ longer
  where
    longer : length (c.events ++ (events.Begin id level (newest c) ∷ events.End id ∷ [])) + (length c.state.txns + length c.state.snapshots) ≡ (length c.events + (length c.state.txns + length c.state.snapshots)) + 2
    longer = let more = two_longer c.events (events.Begin id level (newest c)) (events.End id) in omega (arith, more)

pub ended_load : (c d : CoreModel) (id : List ℕ) (level : IsolationLevel) → HasEnded c id level d → load d ≡ load c
ended_load c d id level h = ap (λ (v : CoreModel). load v) h.is

pub committed_weight : (c d : CoreModel) (id : List ℕ) (level : IsolationLevel) (ts : List TranscriptStep) (n : Option ℕ) (now : ℤ) → HasCommitted c id level ts n now d → weight d ≡ weight c + 2
committed_weight c d id level ts n now h = ap (λ (v : CoreModel). weight v) h.is ∙ longer
  where
    longer : length (c.events ++ (events.Begin id level (newest c) ∷ committing id ts n now ∷ [])) + (length c.state.txns + length c.state.snapshots) ≡ (length c.events + (length c.state.txns + length c.state.snapshots)) + 2
    longer = let more = two_longer c.events (events.Begin id level (newest c)) (committing id ts n now) in omega (arith, more)
