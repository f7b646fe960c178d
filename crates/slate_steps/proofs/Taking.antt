-- A transaction is begun, and takes steps.
use Rattle.std.proofs.Common.{◌≡◌, ◌≢◌, ◌||◌, ℕ, Bool, true, false, cond, is_some, List, [], ◌∷◌, ◌++◌, Option, Some, None, refl, sym, ap, subst, ◌∙◌}
use Rattle.std.specs.Prelude.{IsSome}
use Rattle.std.proofs.lemmas.Option.{same_Some}
use Rattle.slate_types.specs.Outside.{Meaning, no_parts}
use Rattle.slate_types.specs.declared.config.IsolationLevel.{IsolationLevel}
use Rattle.slate_types.specs.declared.error.SlateDBError.TheVariants.{DuplicateTransaction}
use Rattle.slate_mem.specs.declared.WriteOp.{WriteOp}
use Rattle.slate_mem.specs.Batch.{Ops}
use Rattle.slate_mem.specs.KeyTests.{Segments}
use Rattle.slate_txn.specs.declared.event.Event.TheVariants as events
use Rattle.slate_txn.specs.declared.event.TranscriptStep.{TranscriptStep}
use Rattle.slate_txn.specs.declared.event.TranscriptStep.TheVariants as steps
use Rattle.slate_txn.specs.declared.line.Line.TheVariants as lines
use Rattle.slate_txn.specs.Alone.{IsVouched, own_of}
use Rattle.slate_txn.specs.Named.{find_named, set_named, update_named}
use Rattle.slate_txn.specs.Replay.{IsLegal}
use Rattle.slate_txn.specs.Reply.{Reply, Begun, Refused}
use Rattle.slate_txn.specs.State.{State, Tx, begun, is_open}
use Rattle.slate_txn.specs.Step.{noted, step, with_op}
use Rattle.slate_txn.proofs.OwnLaws.{noted_own, own_more}
use Rattle.slate_db.specs.Installs.{Replays}
use Rattle.slate_db.specs.Meaning.{rules_in, rules_of}
use Rattle.slate_db.specs.Model.{CoreModel}
use Rattle.slate_db.specs.Opened.{HasTransaction}
use Rattle.slate_db.specs.Operated.{operated}
use Rattle.slate_db.specs.Sound.{IsKept}
use Rattle.slate_db.specs.Vouched.{IsVouchedFor}
use Rattle.slate_steps.specs.Steps.{IsWithin, Sees, newest, taking, with_transaction}
use Rattle.slate_steps.proofs.LastNamed.{find_last, find_other, update_last}

-- ---- a new id

both_none : {X Y : Type 0} (a : Option X) (b : Option Y) → (is_some a || is_some b) ≡ false → (a ≡ None) × (b ≡ None)
both_none None None h = (refl, refl)
both_none None (Some y) h = cc
both_none (Some x) b h = cc

pub no_transaction : (s : State) (id : List ℕ) → is_open s id ≡ false → find_named id s.txns ≡ None
no_transaction s id fresh = (both_none (find_named id s.txns) (find_named id s.snapshots) fresh).0

pub no_snapshot : (s : State) (id : List ℕ) → is_open s id ≡ false → find_named id s.snapshots ≡ None
no_snapshot s id fresh = (both_none (find_named id s.txns) (find_named id s.snapshots) fresh).1

-- ---- a begin

pub within_begun : (c d : CoreModel) (id : List ℕ) (level : IsolationLevel) (n : ℕ) → IsLegal c.settings.start_seq c.events → Replays c.events c.state → is_open c.state id ≡ false →
    ((m : Meaning) (g : Segments) → step (rules_in c.settings m g) c.state (lines.Begin id level) ≡ (d.state, Begun id n)) →
    d ≡ record c { state = d.state; events = c.events ++ (events.Begin id level n ∷ []); spare = d.spare } → ((m : Meaning) → IsKept m c → IsKept m d) → IsWithin c id level [] d
within_begun c d id level n legal replays fresh stepped is kept = record {
  legal = legal;
  replays = replays;
  fresh = fresh;
  is = is ∙ (λ i. record c { state = state i; events = c.events ++ (events.Begin id level (number i) ∷ []); spare = d.spare });
  kept = kept;
}
  where
    after : State
    after = record c.state { txns = set_named id (begun level (newest c)) c.state.txns }

    both : ◌≡◌ {A = State × Reply} (d.state, Begun id n) (after, Begun id (newest c))
    both = sym (stepped no_parts None) ∙ ap (λ (b : Bool). cond b (c.state, Refused (DuplicateTransaction id)) (after, Begun id (newest c))) fresh

    state : d.state ≡ after
    state = ap (λ (p : State × Reply). p.0) both

    same_number : (a b : ℕ) → Begun id a ≡ Begun id b → a ≡ b
    same_number a b e = cc

    number : n ≡ newest c
    number = same_number n (newest c) (ap (λ (p : State × Reply). p.1) both)

-- ---- a step

pub within_changed : (c d e : CoreModel) (id : List ℕ) (level : IsolationLevel) (ts us : List TranscriptStep) (f : Tx → Tx) →
    e ≡ record d { state = record d.state { txns = update_named id f d.state.txns } } → f (taking (newest c) level ts) ≡ taking (newest c) level us → ((m : Meaning) → IsKept m d → IsKept m e) →
    IsWithin c id level ts d → IsWithin c id level us e
within_changed c d e id level ts us f is same kept h = record {
  legal = h.legal;
  replays = h.replays;
  fresh = h.fresh;
  is = whole ∙ ap (λ (n : ℕ). with_transaction c id level us n) (sym (ap (λ (v : CoreModel). v.spare) whole));
  kept = λ m k. kept m (h.kept m k);
}
  where
    changed : CoreModel → CoreModel
    changed v = record v { state = record v.state { txns = update_named id f v.state.txns } }

    last : update_named id f (set_named id (taking (newest c) level ts) c.state.txns) ≡ set_named id (taking (newest c) level us) c.state.txns
    last = update_last id f (taking (newest c) level ts) c.state.txns (no_transaction c.state id h.fresh) ∙ ap (λ (t : Tx). c.state.txns ++ ((id, t) ∷ [])) same

    whole : e ≡ with_transaction c id level us d.spare
    whole = is ∙ ap changed h.is
        ∙ ap (λ (ps : List (List ℕ × Tx)). record c { state = record c.state { txns = ps }; events = c.events ++ (events.Begin id level (newest c) ∷ []); spare = d.spare }) last

pub noted_taking : (n : ℕ) (level : IsolationLevel) (ts : List TranscriptStep) (t : TranscriptStep) → own_of (t ∷ []) ≡ [] →
    record (taking n level ts) { transcript = ts ++ (t ∷ []) } ≡ taking n level (ts ++ (t ∷ []))
noted_taking n level ts t read = ap (λ (os : Ops). record { level = level; begin = n; ops = os; marked = []; unmarked = []; transcript = ts ++ (t ∷ []) }) (sym (noted_own ts t read))

-- a get, a scan or a next
pub within_noted : (c d e : CoreModel) (id : List ℕ) (level : IsolationLevel) (ts : List TranscriptStep) (t : TranscriptStep) → own_of (t ∷ []) ≡ [] →
    e ≡ record d { state = noted d.state id (t ∷ []) } → ((m : Meaning) → IsKept m d → IsKept m e) → IsWithin c id level ts d → IsWithin c id level (ts ++ (t ∷ [])) e
within_noted c d e id level ts t read is kept h =
    within_changed c d e id level ts (ts ++ (t ∷ [])) (λ x. record x { transcript = x.transcript ++ (t ∷ []) }) is (noted_taking (newest c) level ts t read) kept h

pub own_taking : (n : ℕ) (level : IsolationLevel) (ts : List TranscriptStep) (k : List ℕ) (op : WriteOp) → with_op k op (taking n level ts) ≡ taking n level (ts ++ (steps.Own k op ∷ []))
own_taking n level ts k op = ap (λ (os : Ops). record { level = level; begin = n; ops = os; marked = []; unmarked = []; transcript = ts ++ (steps.Own k op ∷ []) }) (sym (own_more ts k op))

-- a put or a delete
pub within_operated : (c d e : CoreModel) (id : List ℕ) (level : IsolationLevel) (ts : List TranscriptStep) (k : List ℕ) (op : WriteOp) →
    e ≡ operated d id (with_op k op) → ((m : Meaning) → IsKept m d → IsKept m e) → IsWithin c id level ts d → IsWithin c id level (ts ++ (steps.Own k op ∷ [])) e
within_operated c d e id level ts k op is kept h = within_changed c d e id level ts (ts ++ (steps.Own k op ∷ [])) (with_op k op) is (own_taking (newest c) level ts k op) kept h

-- ---- the transaction

module _ (c d : CoreModel) (id : List ℕ) (level : IsolationLevel) (ts : List TranscriptStep) (h : IsWithin c id level ts d) where
  pub within_found : find_named id d.state.txns ≡ Some (taking (newest c) level ts)
  within_found = ap (λ (v : CoreModel). find_named id v.state.txns) h.is ∙ find_last id (taking (newest c) level ts) c.state.txns (no_transaction c.state id h.fresh)

  pub within_open : HasTransaction d id
  within_open = subst IsSome (sym within_found) refl

  pub within_settings : d.settings ≡ c.settings
  within_settings = ap (λ (v : CoreModel). v.settings) h.is

  pub within_commits : d.state.commits ≡ c.state.commits
  within_commits = ap (λ (v : CoreModel). v.state.commits) h.is

  pub sees_vouched : (m : Meaning) → Sees m c ts → IsVouchedFor m d id
  sees_vouched m sees = subst (λ (v : CoreModel). IsVouchedFor m v id) (sym h.is)
      (λ t found. subst (IsVouched (rules_of c.settings m) c.state.commits)
      (same_Some (taking (newest c) level ts) t (sym (find_last id (taking (newest c) level ts) c.state.txns (no_transaction c.state id h.fresh)) ∙ found)) sees)

  pub vouched_sees : (m : Meaning) → IsVouchedFor m d id → Sees m c ts
  vouched_sees m vouched =
      subst (λ (v : CoreModel). IsVouchedFor m v id) h.is vouched (taking (newest c) level ts) (find_last id (taking (newest c) level ts) c.state.txns (no_transaction c.state id h.fresh))

  -- what was answered to another
  pub within_others : (m : Meaning) (other : List ℕ) → other ≢ id → IsVouchedFor m c other → IsVouchedFor m d other
  within_others m other apart vouched = subst (λ (v : CoreModel). IsVouchedFor m v other) (sym h.is)
      (λ t found. vouched t (sym (find_other id other (taking (newest c) level ts) c.state.txns apart) ∙ found))
