-- How a call of the core makes it grow, and that a limit which it meets is past what a script brings.
use Rattle.std.proofs.Common.{◌≡◌, ℕ, ◌+◌, ◌<◌, ◌≤◌, ◌⊎◌, inl, inr, Bool, true, false, cond, List, [], ◌∷◌, ◌++◌, length, Option, Some, None, Result, Ok, Err, OnOk, ℤ, refl, sym, ap, ◌∙◌, subst, arith, bytes_eq}
use Rattle.std.specs.Prelude.{OnErr, sum_by}
use Rattle.std.proofs.lemmas.List.{length-append}
use Rattle.std.proofs.lemmas.List.Sums.{sum_by-cons, sum_by_push}
use Rattle.slate_types.specs.declared.error.SlateDBError.{SlateDBError}
use Rattle.slate_types.specs.declared.error.SlateDBError.TheVariants.{OutOfMemory, LimitReached}
use Rattle.slate_types.specs.Outside.{Objects}
use Rattle.slate_mem.specs.declared.WriteOp.{WriteOp}
use Rattle.slate_mem.specs.Batch.{Ops}
use Rattle.slate_txn.specs.declared.event.Event.{Event}
use Rattle.slate_txn.specs.declared.event.Event.TheVariants as events
use Rattle.slate_txn.specs.declared.line.Line.{Line}
use Rattle.slate_types.specs.declared.config.IsolationLevel.{IsolationLevel}
use Rattle.slate_txn.specs.Named.{find_named, set_named, update_named, without}
use Rattle.slate_txn.specs.State.{Rules, State, Tx, begun, last}
use Rattle.slate_txn.specs.declared.event.TranscriptStep.{TranscriptStep}
use Rattle.slate_txn.specs.Step.{noted, with_op}
use Rattle.slate_db.specs.Flushed.{IsFlushed, Layout, idle, stored}
use Rattle.slate_db.specs.Frozen.{IsFrozen}
use Rattle.slate_db.specs.Load.{load, weight}
use Rattle.slate_db.specs.Meaning.{Meaning}
use Rattle.slate_db.specs.Model.{CoreModel, IsSame, Rows}
use Rattle.slate_db.specs.Operated.{operated}
use Rattle.slate_db.specs.Log.{LIMIT, ends_of}
use Rattle.slate_db.specs.Written.{IsWritten}
use Rattle.slate_language.specs.declared.reply.Answer.{Answer}
use Rattle.slate_script.specs.Session.{SessionModel, Grows, IsLimit, line_load, own_load}
use Rattle.slate_txn.proofs.NamedLaws.{update_length}
use Rattle.slate_script.proofs.SessionLeaves.{Closes}
use Rattle.slate_script.proofs.SessionNames.{Fresh, FreshSnapshot}

-- n: what is added to memory
pub record Takes (old new : CoreModel) (n : ℕ) : Type 0 where
  pub weighs : weight new ≤ weight old + 2
  pub holds : load new + own_load new.state.txns ≤ load old + own_load old.state.txns + n

takes_some : (old new : CoreModel) (n a b : ℕ) → a ≤ 1 → length new.events ≡ length old.events + a → ends_of new.state ≤ ends_of old.state + 1 → own_load new.state.txns ≤ own_load old.state.txns → load new ≡ load old + b → b ≤ n → Takes old new n
takes_some old new n a b one events ends own same few = record { weighs = omega (arith, events, ends, one); holds = omega (arith, own, same, few) }

pub takes_event : (old new : CoreModel) (e : Event) → new ≡ record old { state = new.state; events = old.events ++ (e ∷ []); spare = new.spare } → ends_of new.state ≤ ends_of old.state + 1 → own_load new.state.txns ≤ own_load old.state.txns → Takes old new 0
takes_event old new e is few own =
    takes_some old new 0 1 0 (omega arith) (ap (λ (c : CoreModel). length c.events) is ∙ length-append old.events (e ∷ [])) few own
    (let same : load new ≡ load old = ap load is in omega (arith, same)) (omega arith)

takes_nothing : (old new : CoreModel) → new.events ≡ old.events → new.state.txns ≡ old.state.txns → new.state.snapshots ≡ old.state.snapshots → load new ≡ load old → Takes old new 0
takes_nothing old new events txns snapshots same =
    let n : length new.events ≡ length old.events = ap length events in
    let k : length new.state.txns ≡ length old.state.txns = ap length txns in
    let l : length new.state.snapshots ≡ length old.state.snapshots = ap length snapshots in
    let o : own_load new.state.txns ≡ own_load old.state.txns = ap own_load txns in
    takes_some old new 0 0 0 (omega arith) (omega (arith, n)) (omega (arith, k, l)) (omega (arith, o)) (omega (arith, same)) (omega arith)

pub takes_same : (old new : CoreModel) → IsSame old new → Takes old new 0
takes_same old new is = takes_nothing old new (ap (λ (c : CoreModel). c.events) is) (ap (λ (c : CoreModel). c.state.txns) is) (ap (λ (c : CoreModel). c.state.snapshots) is) (ap load is)

-- a freeze
frozen_events : (old new : CoreModel) → IsFrozen old new → length new.events ≤ length old.events + 1
frozen_events old new (inl same) = let n : length new.events ≡ length old.events = ap (λ (c : CoreModel). length c.events) same.1 in omega (arith, n)
frozen_events old new (inr is) = let n : length new.events ≡ length old.events + 1 = ap (λ (c : CoreModel). length c.events) is.1 ∙ length-append old.events (events.Freeze ∷ []) in omega (arith, n)

frozen_txns : (old new : CoreModel) → IsFrozen old new → new.state.txns ≡ old.state.txns
frozen_txns old new (inl same) = ap (λ (c : CoreModel). c.state.txns) same.1
frozen_txns old new (inr is) = ap (λ (c : CoreModel). c.state.txns) is.1

frozen_snapshots : (old new : CoreModel) → IsFrozen old new → new.state.snapshots ≡ old.state.snapshots
frozen_snapshots old new (inl same) = ap (λ (c : CoreModel). c.state.snapshots) same.1
frozen_snapshots old new (inr is) = ap (λ (c : CoreModel). c.state.snapshots) is.1

frozen_load : (old new : CoreModel) → IsFrozen old new → load new ≡ load old
frozen_load old new (inl same) = ap load same.1
frozen_load old new (inr is) = ap load is.1 ∙ (let e : sum_by (λ (rows : Rows). length rows) ((old.frozen ++ (old.active ∷ [])) ++ ([] ∷ [])) ≡ load old + 0 = sum_by_push (λ (rows : Rows). length rows) (old.frozen ++ (old.active ∷ [])) [] in omega (arith, e))

pub takes_frozen : (old new : CoreModel) → IsFrozen old new → Takes old new 0
takes_frozen old new h =
    let n : length new.events ≤ length old.events + 1 = frozen_events old new h in
    let k : length new.state.txns ≡ length old.state.txns = ap length (frozen_txns old new h) in
    let l : length new.state.snapshots ≡ length old.state.snapshots = ap length (frozen_snapshots old new h) in
    let o : own_load new.state.txns ≡ own_load old.state.txns = ap own_load (frozen_txns old new h) in
    let same : load new ≡ load old = frozen_load old new h in
    record { weighs = omega (arith, n, k, l); holds = omega (arith, same, o) }

-- a write
pub takes_written : (old new : CoreModel) (n : Option ℕ) (now : ℤ) (ops : Ops) (k : ℕ) → IsWritten old new n now ops → load new ≤ load old + k → Takes old new k
takes_written old new None now ops k same more =
    let n : length new.events ≡ length old.events = ap (λ (c : CoreModel). length c.events) same.1 in
    let t : length new.state.txns ≡ length old.state.txns = ap (λ (c : CoreModel). length c.state.txns) same.1 in
    let u : length new.state.snapshots ≡ length old.state.snapshots = ap (λ (c : CoreModel). length c.state.snapshots) same.1 in
    let o : own_load new.state.txns ≡ own_load old.state.txns = ap (λ (c : CoreModel). own_load c.state.txns) same.1 in
    record { weighs = omega (arith, n, t, u); holds = omega (arith, more, o) }
takes_written old new (Some seq) now ops k is more =
    let n : length new.events ≡ length old.events + 1 = ap (λ (c : CoreModel). length c.events) is ∙ length-append old.events (events.Write seq now ops ∷ []) in
    let t : length new.state.txns ≡ length old.state.txns = ap (λ (c : CoreModel). length c.state.txns) is in
    let u : length new.state.snapshots ≡ length old.state.snapshots = ap (λ (c : CoreModel). length c.state.snapshots) is in
    let o : own_load new.state.txns ≡ own_load old.state.txns = ap (λ (c : CoreModel). own_load c.state.txns) is in
    record { weighs = omega (arith, n, t, u); holds = omega (arith, more, o) }

-- a flush, which leaves no row in memory
pub takes_flushed : (m : Meaning) (layout : Layout) (old mid new : CoreModel) (n : ℕ) (before after : Option Objects) → IsFrozen old mid → IsFlushed m layout mid new n before after → new.active ≡ [] → new.frozen ≡ [] → Takes old new 0
takes_flushed m layout old mid new n before after frozen flushed active none = record {
  weighs = heavier flushed;
  holds =
      let e : load new ≡ 0 = (λ i. sum_by (λ (rows : Rows). length rows) (none i ++ (active i ∷ []))) in
      let o : own_load new.state.txns ≡ own_load mid.state.txns = ap own_load (same_txns flushed) in
      let f : own_load mid.state.txns ≡ own_load old.state.txns = ap own_load (frozen_txns old mid frozen) in
      omega (arith, e, o, f);
}
  where
    more : length mid.events ≤ length old.events + 1
    more = frozen_events old mid frozen

    txns : length mid.state.txns ≡ length old.state.txns
    txns = ap length (frozen_txns old mid frozen)

    shown : length mid.state.snapshots ≡ length old.state.snapshots
    shown = ap length (frozen_snapshots old mid frozen)

    same_txns : IsFlushed m layout mid new n before after → new.state.txns ≡ mid.state.txns
    same_txns (idle empty is untouched) = ap (λ (c : CoreModel). c.state.txns) is
    same_txns (stored t is table takes) = ap (λ (c : CoreModel). c.state.txns) is

    heavier : IsFlushed m layout mid new n before after → weight new ≤ weight old + 2
    heavier (idle empty is untouched) =
        let e : length new.events ≡ length mid.events = ap (λ (c : CoreModel). length c.events) is in
        let t : length new.state.txns ≡ length mid.state.txns = ap (λ (c : CoreModel). length c.state.txns) is in
        let u : length new.state.snapshots ≡ length mid.state.snapshots = ap (λ (c : CoreModel). length c.state.snapshots) is in
        omega (arith, e, t, u, more, txns, shown)
    heavier (stored ts is made takes) =
        let e : length new.events ≡ length mid.events + 1 = ap (λ (c : CoreModel). length c.events) is ∙ length-append mid.events (events.Install n ts ∷ []) in
        let t : length new.state.txns ≡ length mid.state.txns = ap (λ (c : CoreModel). length c.state.txns) is in
        let u : length new.state.snapshots ≡ length mid.state.snapshots = ap (λ (c : CoreModel). length c.state.snapshots) is in
        omega (arith, e, t, u, more, txns, shown)

-- ---- open transactions

pub fewer : {X : Type 0} (k : List ℕ) (ps : List (List ℕ × X)) → length (without k ps) ≤ length ps
fewer k [] = omega arith
fewer k (p ∷ ps) = by (bytes_eq p.0 k) (fewer k ps)
  where
    by : (b : Bool) → length (without k ps) ≤ length ps → length (cond b ps (p ∷ without k ps)) ≤ length (p ∷ ps)
    by true rest = omega arith
    by false rest = omega (arith, rest)

set_more : {X : Type 0} (k : List ℕ) (x : X) (ps : List (List ℕ × X)) → length (set_named k x ps) ≤ length ps + 1
set_more k x ps = let n : length (ps ++ ((k, x) ∷ [])) ≡ length ps + 1 = length-append ps ((k, x) ∷ []) in omega (arith, n)

pub opened_more : (r : Rules) (c t : State) (id : List ℕ) (level : IsolationLevel) (n : ℕ) → Fresh r c t id level n → ends_of t ≤ ends_of c + 1
opened_more r c t id level n fresh = subst (λ (s : State). ends_of s ≤ ends_of c + 1) (sym fresh.is) (omega (arith, set_more id (begun level (last r c)) c.txns))

pub shown_more : (r : Rules) (c t : State) (id : List ℕ) (n : ℕ) → FreshSnapshot r c t id n → ends_of t ≤ ends_of c + 1
shown_more r c t id n fresh = subst (λ (s : State). ends_of s ≤ ends_of c + 1) (sym fresh.is) (omega (arith, set_more id (last r c) c.snapshots))

pub shown_own : (r : Rules) (c t : State) (id : List ℕ) (n : ℕ) → FreshSnapshot r c t id n → own_load t.txns ≤ own_load c.txns
shown_own r c t id n fresh = subst (λ (s : State). own_load s.txns ≤ own_load c.txns) (sym fresh.is) (omega arith)

-- what ends
pub closed_fewer : (c t : State) (id : List ℕ) → t ≡ record c { txns = without id c.txns } → ends_of t ≤ ends_of c + 1
closed_fewer c t id is = subst (λ (s : State). ends_of s ≤ ends_of c + 1) (sym is) (omega (arith, fewer id c.txns))

pub released_fewer : (c t : State) (id : List ℕ) → t ≡ record c { snapshots = without id c.snapshots } → ends_of t ≤ ends_of c + 1
released_fewer c t id is = subst (λ (s : State). ends_of s ≤ ends_of c + 1) (sym is) (omega (arith, fewer id c.snapshots))

pub released_own : (c t : State) (id : List ℕ) → t ≡ record c { snapshots = without id c.snapshots } → own_load t.txns ≤ own_load c.txns
released_own c t id is = subst (λ (s : State). own_load s.txns ≤ own_load c.txns) (sym is) (omega arith)

-- ---- own operations

own_cons : (p : List ℕ × Tx) (ps : List (List ℕ × Tx)) → own_load (p ∷ ps) ≡ length p.1.ops + own_load ps
own_cons p ps = sum_by-cons (λ q. length q.1.ops) p ps

pub own_fewer : (k : List ℕ) (ps : List (List ℕ × Tx)) → own_load (without k ps) ≤ own_load ps
own_fewer k [] = omega arith
own_fewer k (p ∷ ps) = by (bytes_eq p.0 k) (own_fewer k ps)
  where
    all : own_load (p ∷ ps) ≡ length p.1.ops + own_load ps
    all = own_cons p ps

    by : (b : Bool) → own_load (without k ps) ≤ own_load ps → own_load (cond b ps (p ∷ without k ps)) ≤ own_load (p ∷ ps)
    by true rest = omega (arith, all)
    by false rest = let left : own_load (p ∷ without k ps) ≡ length p.1.ops + own_load (without k ps) = own_cons p (without k ps) in omega (arith, all, left, rest)

-- what a commit takes out
own_taken : (k : List ℕ) (t : Tx) (ps : List (List ℕ × Tx)) → find_named k ps ≡ Some t → own_load (without k ps) + length t.ops ≡ own_load ps
own_taken k t [] is = cc
own_taken k t (p ∷ ps) is = by (bytes_eq p.0 k) (own_taken k t ps) is
  where
    all : own_load (p ∷ ps) ≡ length p.1.ops + own_load ps
    all = own_cons p ps

    same : (u v : Tx) → Some u ≡ Some v → u ≡ v
    same u v h = cc

    by : (b : Bool) → (find_named k ps ≡ Some t → own_load (without k ps) + length t.ops ≡ own_load ps) → cond b (Some p.1) (find_named k ps) ≡ Some t →
        own_load (cond b ps (p ∷ without k ps)) + length t.ops ≡ own_load (p ∷ ps)
    by true rest it = let o : length p.1.ops ≡ length t.ops = ap (λ (u : Tx). length u.ops) (same p.1 t it) in omega (arith, all, o)
    by false rest it =
        let left : own_load (p ∷ without k ps) ≡ length p.1.ops + own_load (without k ps) = own_cons p (without k ps) in
        let later : own_load (without k ps) + length t.ops ≡ own_load ps = rest it in
        omega (arith, all, left, later)

own_opened : (k : List ℕ) (level : IsolationLevel) (n : ℕ) (ps : List (List ℕ × Tx)) → own_load (set_named k (begun level n) ps) ≡ own_load ps
own_opened k level n ps = let e : own_load (ps ++ ((k, begun level n) ∷ [])) ≡ own_load ps + 0 = sum_by_push (λ p. length p.1.ops) ps (k, begun level n) in omega (arith, e)

pub closed_own : (c t : State) (id : List ℕ) → t ≡ record c { txns = without id c.txns } → own_load t.txns ≤ own_load c.txns
closed_own c t id is = subst (λ (s : State). own_load s.txns ≤ own_load c.txns) (sym is) (own_fewer id c.txns)

pub opened_own : (r : Rules) (c t : State) (id : List ℕ) (level : IsolationLevel) (n : ℕ) → Fresh r c t id level n → own_load t.txns ≤ own_load c.txns
opened_own r c t id level n fresh = subst (λ (s : State). own_load s.txns ≤ own_load c.txns) (sym fresh.is) (let e : own_load (set_named id (begun level (last r c)) c.txns) ≡ own_load c.txns = own_opened id level (last r c) c.txns in omega (arith, e))

pub own_op : (k : List ℕ) (op : WriteOp) (t : Tx) → length (with_op k op t).ops ≡ length t.ops + 1
own_op k op t = length-append t.ops ((k, op) ∷ [])

-- f adds n
own_updated : (k : List ℕ) (f : Tx → Tx) (n : ℕ) (ps : List (List ℕ × Tx)) → ((t : Tx) → length (f t).ops ≡ length t.ops + n) → own_load (update_named k f ps) ≤ own_load ps + n
own_updated k f n [] adds = omega arith
own_updated k f n (p ∷ ps) adds = by (bytes_eq p.0 k) (own_updated k f n ps adds)
  where
    all : own_load (p ∷ ps) ≡ length p.1.ops + own_load ps
    all = own_cons p ps

    by : (b : Bool) → own_load (update_named k f ps) ≤ own_load ps + n → own_load (cond b ((p.0, f p.1) ∷ ps) (p ∷ update_named k f ps)) ≤ own_load (p ∷ ps) + n
    by true rest =
        let more : length (f p.1).ops ≡ length p.1.ops + n = adds p.1 in
        let made : own_load ((p.0, f p.1) ∷ ps) ≡ length (f p.1).ops + own_load ps = own_cons (p.0, f p.1) ps in
        omega (arith, all, made, more)
    by false rest = let made : own_load (p ∷ update_named k f ps) ≡ length p.1.ops + own_load (update_named k f ps) = own_cons p (update_named k f ps) in omega (arith, all, made, rest)

pub own_kept : (k : List ℕ) (f : Tx → Tx) (ps : List (List ℕ × Tx)) → ((t : Tx) → (f t).ops ≡ t.ops) → own_load (update_named k f ps) ≡ own_load ps
own_kept k f [] keeps = refl
own_kept k f (p ∷ ps) keeps = by (bytes_eq p.0 k) (own_kept k f ps keeps)
  where
    by : (b : Bool) → own_load (update_named k f ps) ≡ own_load ps → own_load (cond b ((p.0, f p.1) ∷ ps) (p ∷ update_named k f ps)) ≡ own_load (p ∷ ps)
    by true rest = own_cons (p.0, f p.1) ps ∙ ap (λ (os : Ops). length os + own_load ps) (keeps p.1) ∙ sym (own_cons p ps)
    by false rest = own_cons p (update_named k f ps) ∙ ap (λ n. length p.1.ops + n) rest ∙ sym (own_cons p ps)

-- ---- an operation, and a commit

-- what is noted adds nothing
pub takes_noted : (old new : CoreModel) (id : List ℕ) (ts : List TranscriptStep) → new ≡ record old { state = noted old.state id ts } → Takes old new 0
takes_noted old new id ts is =
    let n : length new.events ≡ length old.events = ap (λ (c : CoreModel). length c.events) is in
    let k : length new.state.txns ≡ length old.state.txns = ap (λ (c : CoreModel). length c.state.txns) is ∙ update_length id f old.state.txns in
    let l : length new.state.snapshots ≡ length old.state.snapshots = ap (λ (c : CoreModel). length c.state.snapshots) is in
    let o : own_load new.state.txns ≡ own_load old.state.txns = ap (λ (c : CoreModel). own_load c.state.txns) is ∙ own_kept id f old.state.txns (λ t. refl) in
    let same : load new ≡ load old = ap load is in
    takes_some old new 0 0 0 (omega arith) (omega (arith, n)) (omega (arith, k, l)) (omega (arith, o)) (omega (arith, same)) (omega arith)
  where
    f : Tx → Tx
    f t = record t { transcript = t.transcript ++ ts }

-- an operation that ran, which adds n to what the transaction holds
pub takes_ran : {T : Type 0} (ran : Result T SlateDBError) (old new : CoreModel) (id : List ℕ) (f : Tx → Tx) (n : ℕ) → OnOk ran (new ≡ operated old id f) → OnErr ran (new ≡ old) →
    ((t : Tx) → length (f t).ops ≡ length t.ops + n) → Takes old new n
takes_ran (Ok t) old new id f n is same adds =
    let e : length new.events ≡ length old.events = ap (λ (c : CoreModel). length c.events) is in
    let k : length new.state.txns ≡ length old.state.txns = ap (λ (c : CoreModel). length c.state.txns) is ∙ update_length id f old.state.txns in
    let u : length new.state.snapshots ≡ length old.state.snapshots = ap (λ (c : CoreModel). length c.state.snapshots) is in
    let o : own_load new.state.txns ≡ own_load (update_named id f old.state.txns) = ap (λ (c : CoreModel). own_load c.state.txns) is in
    let few : own_load (update_named id f old.state.txns) ≤ own_load old.state.txns + n = own_updated id f n old.state.txns adds in
    let l : load new ≡ load old = ap load is in
    record { weighs = omega (arith, e, k, u); holds = omega (arith, o, few, l) }
takes_ran (Err x) old new id f n is same adds =
    let e : length new.events ≡ length old.events = ap (λ (c : CoreModel). length c.events) same in
    let k : length new.state.txns ≡ length old.state.txns = ap (λ (c : CoreModel). length c.state.txns) same in
    let u : length new.state.snapshots ≡ length old.state.snapshots = ap (λ (c : CoreModel). length c.state.snapshots) same in
    let o : own_load new.state.txns ≡ own_load old.state.txns = ap (λ (c : CoreModel). own_load c.state.txns) same in
    let l : load new ≡ load old = ap load same in
    record { weighs = omega (arith, e, k, u); holds = omega (arith, o, l) }

-- a commit brings what the transaction held
pub takes_closed : (old new : CoreModel) (id : List ℕ) (t : Tx) → Closes old new id → find_named id old.state.txns ≡ Some t → load new ≤ load old + length t.ops → Takes old new 0
takes_closed old new id t closed is more =
    let e : length new.events ≡ length old.events + 1 = ap length closed.events ∙ length-append old.events (closed.event ∷ []) in
    let k : length new.state.txns ≡ length (without id old.state.txns) = ap length closed.txns in
    let u : length new.state.snapshots ≡ length old.state.snapshots = ap length closed.snapshots in
    let few : length (without id old.state.txns) ≤ length old.state.txns = fewer id old.state.txns in
    let o : own_load new.state.txns ≡ own_load (without id old.state.txns) = ap own_load closed.txns in
    let taken : own_load (without id old.state.txns) + length t.ops ≡ own_load old.state.txns = own_taken id t old.state.txns is in
    record { weighs = omega (arith, e, k, u, few); holds = omega (arith, o, taken, more) }

-- ---- a session

pub grows : (e : SessionModel) (core : CoreModel) (names snapshot_names : List (List ℕ × List ℕ)) (now : ℤ) (line : Line) (n : ℕ) → n ≤ line_load line → Takes e.core core n → Grows line e (record { core = core; names = names; snapshot_names = snapshot_names; now = now })
grows e core names snapshot_names now line n few takes = (takes.weighs, let l : load core + own_load core.state.txns ≤ load e.core + own_load e.core.state.txns + n = takes.holds in omega (arith, l, few))

pub grows_where : (result : Result Answer SlateDBError) (line : Line) (e new : SessionModel) → Grows line e new → OnOk result (Grows line e new)
grows_where (Ok a) line e new h = h
grows_where (Err x) line e new h = tt

-- ---- the limit of the journal

pub limited : (e : SessionModel) (n : ℕ) (error : SlateDBError) → n ≤ 2 → (error ≡ OutOfMemory) ⊎ ((error ≡ LimitReached LIMIT) × (LIMIT < weight e.core + n)) → (error ≡ OutOfMemory) ⊎ IsLimit e error
limited e n error few (inl memory) = inl memory
limited e n error few (inr (is, past)) = inr (LIMIT, is, inl (omega (arith, past, few)))
