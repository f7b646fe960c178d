-- What is open stays open.
use Rattle.std.proofs.Common.{◌≡◌, ◌≢◌, ℕ, ◌+◌, ◌<◌, ◌≤◌, ◌||◌, inl, inr, ℤ, Bool, true, false, cond, is_some, bytes_eq, List, [], ◌∷◌, ◌++◌, Option, Some, None, refl, sym, ap, subst, ◌∙◌, arith}
use Rattle.std.specs.Prelude.{IsSome, Result, Ok, Err, IfOk, OnOk, OnErr, count_by}
use Rattle.std.proofs.lemmas.Option.{same_Some}
use Rattle.std.proofs.lemmas.Slice.Eq.{bytes_eq-Decides}
use Rattle.slate_types.specs.declared.bytes_range.BytesRange.{BytesRange}
use Rattle.slate_types.specs.declared.iter.IterationOrder.{IterationOrder}
use Rattle.slate_types.specs.Outside.{Objects}
use Rattle.slate_mem.specs.declared.WriteOp.{WriteOp}
use Rattle.slate_mem.specs.Batch.{Ops}
use Rattle.slate_txn.specs.declared.event.TranscriptStep.{TranscriptStep}
use Rattle.slate_txn.specs.declared.event.TranscriptStep.TheVariants as steps
use Rattle.slate_txn.specs.Named.{find_named, update_named, without}
use Rattle.slate_txn.specs.State.{State, Tx, is_open}
use Rattle.slate_txn.specs.Step.{Reader, is_scan, reader, reader_or_snapshot, tx_reader, with_op}
use Rattle.slate_txn.proofs.OwnLaws.{count_more}
use Rattle.slate_db.specs.Committed.{IsCommitted, IsEnded}
use Rattle.slate_db.specs.Flushed.{IsFlushed, Layout, idle, stored}
use Rattle.slate_db.specs.Frozen.{IsFrozen}
use Rattle.slate_db.specs.Meaning.{Meaning}
use Rattle.slate_db.specs.Model.{CoreModel, IsSame}
use Rattle.slate_db.specs.Opened.{HasScan, HasSnapshot, HasTransaction, StayOpen, StayOpenBut, StaysOpen}
use Rattle.slate_db.specs.Operated.{operated}
use Rattle.slate_db.specs.Written.{IsWritten}
use Rattle.slate_db.proofs.OpenNotes.{found_noted}
use Rattle.slate_db.proofs.Wholes.{after_note}

none_some : {X P : Type 0} (o : Option X) → o ≡ None → IsSome o → P
none_some None e h = cc
none_some (Some x) e h = cc

-- how many scans a transaction opened
abbrev scans_of : Tx → ℕ
scans_of t = count_by is_scan t.transcript

-- ---- the open transactions before and after

-- a transaction stays, and opened no fewer scans; where none was, none comes under the id of a snapshot
record GoesOn (id : List ℕ) (ts us : List (List ℕ × Tx)) (shown : Option ℕ) : Type 0 where
  found : (t : Tx) → find_named id ts ≡ Some t → (u : Tx) × (find_named id us ≡ Some u) × (scans_of t ≤ scans_of u)
  none : IsSome shown → find_named id ts ≡ None → find_named id us ≡ None

goes_same : (id : List ℕ) (ts : List (List ℕ × Tx)) (shown : Option ℕ) → GoesOn id ts ts shown
goes_same id ts shown = record { found = λ t e. (t, e, omega arith); none = λ h e. e }

-- what is open under the id before and after
data IsOpenAs (a b : Option Tx) (shown : Option ℕ) : Type 0 where
  transaction : (t u : Tx) → a ≡ Some t → b ≡ Some u → scans_of t ≤ scans_of u → IsOpenAs a b shown
  snapshot : (n : ℕ) → a ≡ None → b ≡ None → shown ≡ Some n → IsOpenAs a b shown
  nothing : a ≡ None → shown ≡ None → IsOpenAs a b shown

is_open_as : (id : List ℕ) (ts us : List (List ℕ × Tx)) (shown : Option ℕ) → GoesOn id ts us shown → IsOpenAs (find_named id ts) (find_named id us) shown
is_open_as id ts us shown g = by (find_named id ts) refl shown refl
  where
    by : (a : Option Tx) → find_named id ts ≡ a → (o : Option ℕ) → shown ≡ o → IsOpenAs (find_named id ts) (find_named id us) shown
    by (Some t) here o there = let u = g.found t here in transaction t u.0 here u.1 u.2
    by None here (Some n) there = snapshot n here (g.none (subst IsSome (sym there) refl) here) there
    by None here None there = nothing here there

open_on : (a b : Option Tx) (shown : Option ℕ) → IsOpenAs a b shown → IsSome a → IsSome b
open_on a b shown (transaction t u here now more) h = subst IsSome (sym now) refl
open_on a b shown (snapshot n here now there) h = none_some a here h
open_on a b shown (nothing here there) h = none_some a here h

no_reader : (a : Option Tx) (shown : Option ℕ) → a ≡ None → shown ≡ None → reader_or_snapshot a shown ≡ None
no_reader a shown here there = λ i. reader_or_snapshot (here i) (there i)

reads_on : (a b : Option Tx) (shown : Option ℕ) → IsOpenAs a b shown → IsSome (reader_or_snapshot a shown) → IsSome (reader_or_snapshot b shown)
reads_on a b shown (transaction t u here now more) h = subst (λ (o : Option Tx). IsSome (reader_or_snapshot o shown)) (sym now) refl
reads_on a b shown (snapshot n here now there) h = subst (λ (o : Option Tx). IsSome (reader_or_snapshot o shown)) (here ∙ sym now) h
reads_on a b shown (nothing here there) h = none_some (reader_or_snapshot a shown) (no_reader a shown here there) h

scans_on : (a b : Option Tx) (shown : Option ℕ) (n : ℕ) → IsOpenAs a b shown → IsSome (reader_or_snapshot a shown) → ((t : Tx) → a ≡ Some t → n < scans_of t) → (u : Tx) → b ≡ Some u → n < scans_of u
scans_on a b shown n (transaction t u here now more) h below v is =
    let first : n < scans_of t = below t here in
    subst (λ (x : Tx). n < scans_of x) (same_Some u v (sym now ∙ is)) (omega (arith, first, more))
scans_on a b shown n (snapshot m here now there) h below v is = let e : None ≡ Some v = sym now ∙ is in cc
scans_on a b shown n (nothing here there) h below v is = none_some (reader_or_snapshot a shown) (no_reader a shown here there) h

-- of a core with the same snapshot under the id
stays_by : (old new : CoreModel) (id : List ℕ) → find_named id new.state.snapshots ≡ find_named id old.state.snapshots → GoesOn id old.state.txns new.state.txns (find_named id old.state.snapshots) → StaysOpen old new id
stays_by old new id same g =
    let o = is_open_as id old.state.txns new.state.txns (find_named id old.state.snapshots) g in
    let reads : IsSome (reader old.state id) → IsSome (reader new.state id) = λ h. subst (λ (s : Option ℕ). IsSome (reader_or_snapshot (find_named id new.state.txns) s)) (sym same) (reads_on (find_named id old.state.txns) (find_named id new.state.txns) (find_named id old.state.snapshots) o h) in
    record {
      transaction = open_on (find_named id old.state.txns) (find_named id new.state.txns) (find_named id old.state.snapshots) o;
      snapshot = subst IsSome (sym same);
      reads = reads;
      scans = λ n h. (reads h.0, scans_on (find_named id old.state.txns) (find_named id new.state.txns) (find_named id old.state.snapshots) n o h.0 h.1);
    }

-- ---- values under names

-- what is under a name, where one is changed
found_changed : (P : Tx → Tx → Type 0) (id k : List ℕ) (f : Tx → Tx) → ((t : Tx) → P t t) → ((t : Tx) → P t (f t)) → (ps : List (List ℕ × Tx)) (t : Tx) → find_named id ps ≡ Some t → (u : Tx) × (find_named id (update_named k f ps) ≡ Some u) × P t u
found_changed P id k f same changed [] t e = cc
found_changed P id k f same changed (p ∷ ps) t e = by (bytes_eq p.0 k) (found_changed P id k f same changed ps t)
  where
    here : (b : Bool) → cond b (Some p.1) (find_named id ps) ≡ Some t → (u : Tx) × (cond b (Some (f p.1)) (find_named id ps) ≡ Some u) × P t u
    here true e = (f p.1, refl, subst (λ (x : Tx). P x (f p.1)) (same_Some p.1 t e) (changed p.1))
    here false e = (t, e, same t)

    there : (b : Bool) → cond b (Some p.1) (find_named id ps) ≡ Some t → (find_named id ps ≡ Some t → (u : Tx) × (find_named id (update_named k f ps) ≡ Some u) × P t u) →
        (u : Tx) × (cond b (Some p.1) (find_named id (update_named k f ps)) ≡ Some u) × P t u
    there true e rest = (t, e, same t)
    there false e rest = rest e

    by : (a : Bool) → (find_named id ps ≡ Some t → (u : Tx) × (find_named id (update_named k f ps) ≡ Some u) × P t u) →
        (u : Tx) × (find_named id (cond a ((p.0, f p.1) ∷ ps) (p ∷ update_named k f ps)) ≡ Some u) × P t u
    by true rest = here (bytes_eq p.0 id) e
    by false rest = there (bytes_eq p.0 id) e rest

none_changed : (id k : List ℕ) (f : Tx → Tx) (ps : List (List ℕ × Tx)) → find_named id ps ≡ None → find_named id (update_named k f ps) ≡ None
none_changed id k f [] e = e
none_changed id k f (p ∷ ps) e = by (bytes_eq p.0 k) (none_changed id k f ps)
  where
    here : (b : Bool) → cond b (Some p.1) (find_named id ps) ≡ None → cond b (Some (f p.1)) (find_named id ps) ≡ None
    here true e = cc
    here false e = e

    there : (b : Bool) → cond b (Some p.1) (find_named id ps) ≡ None → (find_named id ps ≡ None → find_named id (update_named k f ps) ≡ None) → cond b (Some p.1) (find_named id (update_named k f ps)) ≡ None
    there true e rest = cc
    there false e rest = rest e

    by : (a : Bool) → (find_named id ps ≡ None → find_named id (update_named k f ps) ≡ None) → find_named id (cond a ((p.0, f p.1) ∷ ps) (p ∷ update_named k f ps)) ≡ None
    by true rest = here (bytes_eq p.0 id) e
    by false rest = there (bytes_eq p.0 id) e rest

-- where one more comes
found_more : {X : Type 0} (id : List ℕ) (ps qs : List (List ℕ × X)) (x : X) → find_named id ps ≡ Some x → find_named id (ps ++ qs) ≡ Some x
found_more id [] qs x e = cc
found_more id (p ∷ ps) qs x e = by (bytes_eq p.0 id) e (found_more id ps qs x)
  where
    by : (b : Bool) → cond b (Some p.1) (find_named id ps) ≡ Some x → (find_named id ps ≡ Some x → find_named id (ps ++ qs) ≡ Some x) → cond b (Some p.1) (find_named id (ps ++ qs)) ≡ Some x
    by true e rest = e
    by false e rest = rest e

none_more : {X : Type 0} (id : List ℕ) (ps qs : List (List ℕ × X)) → find_named id ps ≡ None → find_named id (ps ++ qs) ≡ find_named id qs
none_more id [] qs e = refl
none_more id (p ∷ ps) qs e = by (bytes_eq p.0 id) e (none_more id ps qs)
  where
    by : (b : Bool) → cond b (Some p.1) (find_named id ps) ≡ None → (find_named id ps ≡ None → find_named id (ps ++ qs) ≡ find_named id qs) → cond b (Some p.1) (find_named id (ps ++ qs)) ≡ find_named id qs
    by true e rest = cc
    by false e rest = rest e

found_last : {X : Type 0} (id : List ℕ) (ps : List (List ℕ × X)) (x : X) → find_named id ps ≡ None → find_named id (ps ++ ((id, x) ∷ [])) ≡ Some x
found_last id ps x none = none_more id ps ((id, x) ∷ []) none ∙ ap (λ b. cond b (Some x) None) ((bytes_eq-Decides id id).1 refl)

none_last : {X Y : Type 0} (id k : List ℕ) (x : X) (ys : List (List ℕ × Y)) → IsSome (find_named id ys) → find_named k ys ≡ None → find_named id ((k, x) ∷ []) ≡ None
none_last id k x ys some none = by (bytes_eq k id) refl
  where
    by : (b : Bool) → bytes_eq k id ≡ b → cond b (Some x) None ≡ None
    by true is = none_some (find_named id ys) (subst (λ (i : List ℕ). find_named i ys ≡ None) ((bytes_eq-Decides k id).0 is) none) some
    by false is = refl

-- where another goes
found_apart : {X : Type 0} (id ended : List ℕ) (ps : List (List ℕ × X)) → id ≢ ended → find_named id (without ended ps) ≡ find_named id ps
found_apart id ended [] apart = refl
found_apart id ended (p ∷ ps) apart = by (bytes_eq p.0 ended) refl (found_apart id ended ps apart)
  where
    past : (b : Bool) → bytes_eq p.0 id ≡ b → bytes_eq p.0 ended ≡ true → find_named id ps ≡ cond b (Some p.1) (find_named id ps)
    past true at is = absurd (apart (sym ((bytes_eq-Decides p.0 id).0 at) ∙ (bytes_eq-Decides p.0 ended).0 is))
    past false at is = refl

    by : (a : Bool) → bytes_eq p.0 ended ≡ a → find_named id (without ended ps) ≡ find_named id ps → find_named id (cond a ps (p ∷ without ended ps)) ≡ find_named id (p ∷ ps)
    by true is rest = past (bytes_eq p.0 id) refl is
    by false is rest = ap (λ o. cond (bytes_eq p.0 id) (Some p.1) o) rest

-- ---- a call

pub stay_as : (old new : CoreModel) → new.state.txns ≡ old.state.txns → new.state.snapshots ≡ old.state.snapshots → StayOpen old new
stay_as old new txns shown id = stays_by old new id (ap (find_named id) shown)
    (subst (λ (ts : List (List ℕ × Tx)). GoesOn id old.state.txns ts (find_named id old.state.snapshots)) (sym txns) (goes_same id old.state.txns (find_named id old.state.snapshots)))

pub stay_same : (old new : CoreModel) → new ≡ old → StayOpen old new
stay_same old new is = stay_as old new (ap (λ (c : CoreModel). c.state.txns) is) (ap (λ (c : CoreModel). c.state.snapshots) is)

pub stay_state : (old new : CoreModel) → new.state ≡ old.state → StayOpen old new
stay_state old new is = stay_as old new (ap (λ (s : State). s.txns) is) (ap (λ (s : State). s.snapshots) is)

pub stay_room : (old new : CoreModel) → IsSame old new → StayOpen old new
stay_room old new is = stay_state old new (ap (λ (c : CoreModel). c.state) is)

pub stay_on : (a b c : CoreModel) → StayOpen a b → StayOpen b c → StayOpen a c
stay_on a b c f g id = record {
  transaction = λ h. (g id).transaction ((f id).transaction h);
  snapshot = λ h. (g id).snapshot ((f id).snapshot h);
  reads = λ h. (g id).reads ((f id).reads h);
  scans = λ n h. (g id).scans n ((f id).scans n h);
}

-- one transaction is changed, and opened no fewer scans
abbrev pub KeepsScans : (Tx → Tx) → Type 0
KeepsScans f = (t : Tx) → count_by is_scan t.transcript ≤ count_by is_scan (f t).transcript

pub stay_operated : (old new : CoreModel) (k : List ℕ) (f : Tx → Tx) → KeepsScans f → new ≡ operated old k f → StayOpen old new
stay_operated old new k f keeps is = subst (StayOpen old) (sym is) (λ id. stays_by old (operated old k f) id refl (record {
  found = found_changed (λ t u. scans_of t ≤ scans_of u) id k f (λ t. omega arith) keeps old.state.txns;
  none = λ h e. none_changed id k f old.state.txns e;
}))

more_scans : (ts : List TranscriptStep) (t : TranscriptStep) → count_by is_scan ts ≤ count_by is_scan (ts ++ (t ∷ []))
more_scans ts t = let e = count_more ts t in omega (arith, e)

pub scans_op : (k : List ℕ) (op : WriteOp) → KeepsScans (with_op k op)
scans_op k op t = more_scans t.transcript (steps.Own k op)

pub stay_noted : (old new : CoreModel) (k : List ℕ) (s : TranscriptStep) → new ≡ after_note old k (s ∷ []) → StayOpen old new
stay_noted old new k s is = stay_operated old new k (λ t. record t { transcript = t.transcript ++ (s ∷ []) }) (λ t. more_scans t.transcript s) is

pub stay_either : {X E : Type 0} (r : Result X E) (old new : CoreModel) (k : List ℕ) (f : Tx → Tx) → KeepsScans f → OnOk r (new ≡ operated old k f) → OnErr r (new ≡ old) → StayOpen old new
stay_either (Ok x) old new k f keeps ok err = stay_operated old new k f keeps ok
stay_either (Err e) old new k f keeps ok err = stay_same old new err

-- a scan that is opened is open
pub opened_scan : (old new : CoreModel) (id : List ℕ) (order : IterationOrder) (range : BytesRange) (from : Reader) (n : ℕ) → reader old.state id ≡ Some from → n ≡ from.scans → new ≡ after_note old id (steps.Scan order range ∷ []) → HasScan new id n
opened_scan old new id order range from n found number is = (
  (stay_noted old new id (steps.Scan order range) is id).reads (subst IsSome (sym found) refl),
  λ t e. by (find_named id old.state.txns) refl (find_named id old.state.snapshots) found t (sym (ap (λ (c : CoreModel). find_named id c.state.txns) is) ∙ e),
)
  where
    noting : Tx → Tx
    noting t = record t { transcript = t.transcript ++ (steps.Scan order range ∷ []) }

    by : (o : Option Tx) → find_named id old.state.txns ≡ o → (p : Option ℕ) → reader_or_snapshot o p ≡ Some from → (t : Tx) → find_named id (update_named id noting old.state.txns) ≡ Some t → n < scans_of t
    by (Some u) here p reads t e =
        let scans : from.scans ≡ scans_of u = ap (λ (r : Reader). r.scans) (sym (same_Some (tx_reader u) from reads)) in
        subst (λ (x : Tx). n < scans_of x) (same_Some (noting u) t (sym (found_noted id noting old.state.txns u here) ∙ e))
        (let more : scans_of (noting u) ≡ scans_of u + 1 = count_more u.transcript (steps.Scan order range) in omega (arith, number, scans, more))
    by None here p reads t e = let clash : None ≡ Some t = sym (none_changed id id noting old.state.txns here) ∙ e in cc

-- ---- what opens, and what ends

pub stay_begun : (old new : CoreModel) (k : List ℕ) (t : Tx) → find_named k old.state.snapshots ≡ None → new.state.txns ≡ old.state.txns ++ ((k, t) ∷ []) → new.state.snapshots ≡ old.state.snapshots → StayOpen old new
stay_begun old new k t unshown txns shown id = stays_by old new id (ap (find_named id) shown)
    (subst (λ (ts : List (List ℕ × Tx)). GoesOn id old.state.txns ts (find_named id old.state.snapshots)) (sym txns) (record {
      found = λ u e. (u, found_more id old.state.txns ((k, t) ∷ []) u e, omega arith);
      none = λ some e. none_more id old.state.txns ((k, t) ∷ []) e ∙ none_last id k t old.state.snapshots some unshown;
    }))

pub has_named : {X : Type 0} (qs ps : List (List ℕ × X)) (k : List ℕ) (x : X) → find_named k ps ≡ None → qs ≡ ps ++ ((k, x) ∷ []) → IsSome (find_named k qs)
has_named qs ps k x fresh is = subst IsSome (sym (ap (find_named k) is ∙ found_last k ps x fresh)) refl

-- a snapshot more
some_more : {X : Type 0} (id : List ℕ) (ps qs : List (List ℕ × X)) → IsSome (find_named id ps) → IsSome (find_named id (ps ++ qs))
some_more id ps qs = by (find_named id ps) refl
  where
    by : (o : Option _) → find_named id ps ≡ o → IsSome o → IsSome (find_named id (ps ++ qs))
    by (Some x) e h = subst IsSome (sym (found_more id ps qs x e)) refl
    by None e h = cc

reads_more : (a : Option Tx) (m n : Option ℕ) → (IsSome m → IsSome n) → IsSome (reader_or_snapshot a m) → IsSome (reader_or_snapshot a n)
reads_more (Some t) m n more h = refl
reads_more None (Some i) (Some j) more h = refl
reads_more None (Some i) None more h = none_some {X = ℕ} None refl (more refl)
reads_more None None n more h = none_some {X = Reader} (reader_or_snapshot None None) refl h

pub stay_shown : (old new : CoreModel) (k : List ℕ) (n : ℕ) → new.state.txns ≡ old.state.txns → new.state.snapshots ≡ old.state.snapshots ++ ((k, n) ∷ []) → StayOpen old new
stay_shown old new k n txns shown id =
    let under : find_named id new.state.txns ≡ find_named id old.state.txns = ap (find_named id) txns in
    let snapshot : HasSnapshot old id → HasSnapshot new id = λ h. subst IsSome (sym (ap (find_named id) shown)) (some_more id old.state.snapshots ((k, n) ∷ []) h) in
    let reads : IsSome (reader old.state id) → IsSome (reader new.state id) = λ h. subst (λ (o : Option Tx). IsSome (reader_or_snapshot o (find_named id new.state.snapshots))) (sym under)
    (reads_more (find_named id old.state.txns) (find_named id old.state.snapshots) (find_named id new.state.snapshots) snapshot h) in
    record {
      transaction = subst IsSome (sym under);
      snapshot = snapshot;
      reads = reads;
      scans = λ i h. (reads h.0, λ t e. h.1 t (sym under ∙ e));
    }

pub stay_ended : (old new : CoreModel) (ended : List ℕ) → new.state.txns ≡ without ended old.state.txns → new.state.snapshots ≡ old.state.snapshots → StayOpenBut ended old new
stay_ended old new ended txns shown id apart = stays_by old new id (ap (find_named id) shown) (record {
  found = λ t e. (t, ap (find_named id) txns ∙ found_apart id ended old.state.txns apart ∙ e, omega arith);
  none = λ some e. ap (find_named id) txns ∙ found_apart id ended old.state.txns apart ∙ e;
})

pub stay_released : (old new : CoreModel) (ended : List ℕ) → new.state.txns ≡ old.state.txns → new.state.snapshots ≡ without ended old.state.snapshots → StayOpenBut ended old new
stay_released old new ended txns shown id apart = stays_by old new id (ap (find_named id) shown ∙ found_apart id ended old.state.snapshots apart)
    (subst (λ (ts : List (List ℕ × Tx)). GoesOn id old.state.txns ts (find_named id old.state.snapshots)) (sym txns) (goes_same id old.state.txns (find_named id old.state.snapshots)))

-- a new id
pub unopened : (s : State) (id : List ℕ) → find_named id s.txns ≡ None → find_named id s.snapshots ≡ None → is_open s id ≡ false
unopened s id none hidden = λ i. is_some (none i) || is_some (hidden i)

-- ---- writes, commits and flushes

pub stay_written : (old new : CoreModel) (n : Option ℕ) (now : ℤ) (ops : Ops) → IsWritten old new n now ops → StayOpen old new
stay_written old new None now ops is = stay_same old new is.1
stay_written old new (Some n) now ops is = stay_as old new (ap (λ (c : CoreModel). c.state.txns) is) (ap (λ (c : CoreModel). c.state.snapshots) is)

pub stay_committed : (old new : CoreModel) (id : List ℕ) (n : Option ℕ) (now : ℤ) (t : Tx) → IsCommitted old new id n now t → StayOpenBut id old new
stay_committed old new id None now t is = stay_ended old new id (ap (λ (c : CoreModel). c.state.txns) is.1) (ap (λ (c : CoreModel). c.state.snapshots) is.1)
stay_committed old new id (Some n) now t is = stay_ended old new id (ap (λ (c : CoreModel). c.state.txns) is) (ap (λ (c : CoreModel). c.state.snapshots) is)

pub stay_but_ended : (old new : CoreModel) (id : List ℕ) → IsEnded old new id → StayOpenBut id old new
stay_but_ended old new id is = stay_ended old new id (ap (λ (c : CoreModel). c.state.txns) is) (ap (λ (c : CoreModel). c.state.snapshots) is)

pub stay_frozen : (old new : CoreModel) → IsFrozen old new → StayOpen old new
stay_frozen old new (inl (none, is)) = stay_same old new is
stay_frozen old new (inr (some, is)) = stay_state old new (ap (λ (c : CoreModel). c.state) is)

stay_flushed : (m : Meaning) (layout : Layout) (old new : CoreModel) (n : ℕ) (before after : Option Objects) → IsFlushed m layout old new n before after → StayOpen old new
stay_flushed m layout old new n before after (idle empty is same) = stay_as old new (ap (λ (c : CoreModel). c.state.txns) is) (ap (λ (c : CoreModel). c.state.snapshots) is)
stay_flushed m layout old new n before after (stored ts is made takes) = stay_as old new (ap (λ (c : CoreModel). c.state.txns) is) (ap (λ (c : CoreModel). c.state.snapshots) is)

pub stay_installed : {E : Type 0} (r : Result ℕ E) (m : Meaning) (layout : Layout) (old between new : CoreModel) (before after : Option Objects) → IsFrozen old between → IfOk r (λ n. IsFlushed m layout between new n before after) → OnErr r (IsSame between new) → StayOpen old new
stay_installed (Ok n) m layout old between new before after frozen ok err = stay_on old between new (stay_frozen old between frozen) (stay_flushed m layout between new n before after ok)
stay_installed (Err e) m layout old between new before after frozen ok err = stay_on old between new (stay_frozen old between frozen) (stay_room between new err)
