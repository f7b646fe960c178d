-- What a commit leaves of what lies behind the lock, and the event that ends a transaction.
use Rattle.std.proofs.Common.{◌≡◌, ◌⊎◌, ⊎_elim, ◌<◌, ◌≤◌, ℕ, ℤ, Bool, true, false, cond, bytes_eq, List, [], ◌∷◌, ◌++◌, length, map, option_map, Option, Some, None, refl, sym, ap, ◌∙◌, subst, inl, inr}
use Rattle.std.specs.Prelude.{Result, Ok, Err, IfOk, IfErr, OnOk, OnErr}
use Rattle.std.specs.List.{AllByRecursion}
use Rattle.slate_types.specs.declared.error.SlateDBError.{SlateDBError}
use Rattle.slate_types.specs.declared.error.SlateDBError.TheVariants as errors
use mathlib.Core.List.{IsPrefix}
use Rattle.slate_types.specs.declared.config.Options.{Options}
use Rattle.slate_types.specs.Fold.{Combine}
use Rattle.slate_types.specs.Outside.{IsFault, Reach}
use Rattle.slate_mem.specs.Batch.{kept_ops}
use Rattle.slate_mem.specs.BatchModel.{BatchModel, IsBatchOf, holds_merge}
use Rattle.slate_mem.specs.KeyTests.{Segments}
use Rattle.slate_mem.specs.Lookup.{IsCallback}
use Rattle.slate_store.specs.Env.{combine_of}
use Rattle.slate_txn.specs.declared.event.Event.{Event}
use Rattle.slate_txn.specs.declared.event.Event.TheVariants as events
use Rattle.slate_txn.specs.Conflict.{tracked_writes}
use Rattle.slate_txn.proofs.NamedLaws.{update_all, update_is, update_map}
use Rattle.slate_txn.specs.Named.{find_named, without, update_named}
use Rattle.slate_txn.specs.Places.{IsQuiet, install_of, last_install}
use Rattle.slate_txn.specs.Replay.{IsLegal, replay}
use Rattle.slate_txn.specs.Settings.{Settings, settings_of}
use Rattle.slate_txn.specs.State.{Commit, Tx, begun}
use Rattle.slate_db.specs.declared.prepared.Prepared.{Prepared}
use Rattle.slate_db.specs.BatchTests.{test_refusal}
use Rattle.slate_db.specs.Committed.{IsCommitted, IsEnded, without_txn}
use Rattle.slate_db.specs.Flying.{IsAloft}
use Rattle.slate_db.specs.Installs.{as_begun, Replays}
use Rattle.slate_db.specs.Meaning.{Meaning}
use Rattle.slate_db.specs.Model.{CoreModel}
use Rattle.slate_db.specs.Operated.{operated}
use Rattle.slate_db.specs.Prepared.{IsDecided, IsPrepared, PreparedWith, WasPrepared, own_batch, prepared_for}
use Rattle.slate_db.specs.Segmented.{IsSegmented, recorded_by}
use Rattle.slate_db.specs.Sound.{IsKept}
use Rattle.slate_db.proofs.Aloft.{AreFrom, IsOrderly, aloft_committed, aloft_ended, aloft_state}
use Rattle.slate_db.proofs.Asks.{callback_fault, short_fault}
use Rattle.slate_db.proofs.Operands.{combine_is}
use Rattle.slate_db.proofs.Tests.{tested_plain}
use Rattle.slate_db.proofs.Wholes.{after_end, kept_end}
use Rattle.slate_db.specs.declared.flight.Flight.{Flight}
use Rattle.slate_shared.specs.Ended.{end_event, HasEnded, IsEnding}
use Rattle.slate_shared.specs.Locked.{IsHeld, IsLocked}
use Rattle.slate_shared.specs.LockedModel.{holds_at, grow}
use Rattle.slate_shared.specs.Passes.{Opened, PassModel}
use Rattle.slate_shared.specs.Shared.{IsMine, IsNew, own_after, txn_after}
use Rattle.slate_shared.proofs.Held.{install_same}
use Rattle.slate_shared.proofs.LockedLaws.{bare_less}

-- ---- the event that ends a transaction may be its seat's

pub is_new : (es : List Event) (id : List ℕ) (now : ℤ) (t : Tx) (r : Result (Option ℕ) SlateDBError) → IsNew es (end_event id now t r)
is_new es id now t (Ok n) = tt
is_new es id now t (Err e) = tt

pub is_mine : (k : ℕ) (id : List ℕ) (now : ℤ) (t : Tx) (o : Option (List ℕ × Tx)) (u : Option Flight) (r : Result (Option ℕ) SlateDBError) → 0 < k → o ≡ Some (id, begun t.level t.begin) → IsMine k o u (end_event id now t r)
is_mine k id now t o u (Ok n) some_part is = (begun t.level t.begin, is, some_part)
is_mine k id now t o u (Err e) some_part is = (begun t.level t.begin, is)

pub ends_it : (id : List ℕ) (now : ℤ) (t : Tx) (o : Option (List ℕ × Tx)) (r : Result (Option ℕ) SlateDBError) → txn_after o (end_event id now t r) ≡ None
ends_it id now t o (Ok n) = refl
ends_it id now t o (Err e) = refl

-- ---- a core

pub begun_there : (o : Settings) (m : Meaning) (g : Segments) (c : CoreModel) (es : List Event) (id : List ℕ) (t : Tx) → IsLocked o m g c → Replays c.events c.state → es ≡ c.events → find_named id (replay es).txns ≡ Some t → find_named id c.state.txns ≡ Some t
begun_there o m g c es id t l is same there = ap (find_named id) (sym (is.txns ∙ l.bare)) ∙ ap (λ xs. find_named id (replay xs).txns) (sym same) ∙ there

pub same_one : (id : List ℕ) (ps : List (List ℕ × Tx)) (t u : Tx) → find_named id ps ≡ Some t → find_named id ps ≡ Some u → t ≡ u
same_one id ps t u a b = let h : Some t ≡ Some u = sym a ∙ b in cc

without_updated : (id : List ℕ) (f : Tx → Tx) (ps : List (List ℕ × Tx)) → without id (update_named id f ps) ≡ without id ps
without_updated id f [] = refl
without_updated id f (p ∷ ps) = by (bytes_eq p.0 id) refl (without_updated id f ps)
  where
    by : (b : Bool) → bytes_eq p.0 id ≡ b → without id (update_named id f ps) ≡ without id ps → without id (cond b ((p.0, f p.1) ∷ ps) (p ∷ update_named id f ps)) ≡ cond b ps (p ∷ without id ps)
    by true e rest = ap (λ b. cond b ps ((p.0, f p.1) ∷ without id ps)) e
    by false e rest = ap (λ b. cond b (update_named id f ps) (p ∷ without id (update_named id f ps))) e ∙ ap (λ qs. p ∷ qs) rest

-- ---- a flush on its way

-- what it did, at the level and the begin of another
abbrev at_begin : Tx → Tx → Tx
at_begin own t = record own { level = t.level; begin = t.begin }

-- of one that began alike, what it did stands in its place
handed_is : (id : List ℕ) (own : Tx) (ps : List (List ℕ × Tx)) → find_named id ps ≡ Some (begun own.level own.begin) → update_named id (λ _. own) ps ≡ update_named id (at_begin own) ps
handed_is id own ps there = sym (update_is id (λ _. own) (begun own.level own.begin) ps there) ∙ update_is id (at_begin own) (begun own.level own.begin) ps there

pub replays_handed : (c d : CoreModel) (id : List ℕ) (own : Tx) → d ≡ operated c id (λ _. own) → find_named id c.state.txns ≡ Some (begun own.level own.begin) → Replays c.events c.state → Replays d.events d.state
replays_handed c d id own given there is =
    subst (λ (v : CoreModel). Replays v.events v.state) (sym given) (record {
      commits = is.commits;
      txns = is.txns ∙ sym (ap (map as_begun) (handed_is id own c.state.txns there) ∙ update_map as_begun id (at_begin own) c.state.txns (λ p. refl));
      snapshots = is.snapshots;
    })

aloft_handed : (m : Meaning) (f : Option Flight) (c d : CoreModel) (id : List ℕ) (own : Tx) → d ≡ operated c id (λ _. own) → find_named id c.state.txns ≡ Some (begun own.level own.begin) → IsAloft m f c → IsAloft m f d
aloft_handed m f c d id own given there a =
    aloft_state m f c d (given ∙ (let s = sym (ap (λ (v : CoreModel). v.state) given) in let n = sym (ap (λ (v : CoreModel). v.spare) given) in λ i. record c { state = s i; spare = n i })) (ap (λ (v : CoreModel). v.state.commits) given)
    (λ n within from. subst (AreFrom n) (sym (ap (λ (v : CoreModel). v.state) given))
    (subst (AllByRecursion (λ (p : List ℕ × Tx). n ≤ p.1.begin)) (sym (handed_is id own c.state.txns there)) (update_all (λ (p : List ℕ × Tx). n ≤ p.1.begin) id (at_begin own) c.state.txns (λ p h. h) from.0), from.1)) a

aloft_either : (m : Meaning) (f : Option Flight) (d e : CoreModel) (id : List ℕ) (now : ℤ) (own : Tx) (r : Result (Option ℕ) SlateDBError) → IfOk r (λ n. IsCommitted d e id n now own) → OnErr r (IsEnded d e id) → IsOrderly d e → IsAloft m f d → IsAloft m f e
aloft_either m f d e id now own (Ok n) made ended orderly a = aloft_committed m f d e id n now own made orderly a
aloft_either m f d e id now own (Err x) made ended orderly a = aloft_ended m f d e id ended a

pub no_install : (id : List ℕ) (now : ℤ) (t : Tx) (r : Result (Option ℕ) SlateDBError) → install_of (end_event id now t r) ≡ None
no_install id now t (Ok n) = refl
no_install id now t (Err e) = refl

-- ---- a core after

-- what is told of the core after
pub record IsAfter (c e : CoreModel) (id : List ℕ) (x : Event) : Type 0 where
  pub settings : e.settings ≡ c.settings
  pub txns : e.state.txns ≡ without id c.state.txns
  pub snapshots : e.state.snapshots ≡ c.state.snapshots
  pub events : e.events ≡ c.events ++ x ∷ []

after_made : (d e : CoreModel) (id : List ℕ) (n : Option ℕ) (now : ℤ) (own : Tx) → IsCommitted d e id n now own → IsAfter d e id (events.Commit id n now (kept_ops own.ops) (tracked_writes own) own.transcript)
after_made d e id None now own h = record { settings = ap (λ (v : CoreModel). v.settings) h.1; txns = ap (λ (v : CoreModel). v.state.txns) h.1; snapshots = ap (λ (v : CoreModel). v.state.snapshots) h.1; events = ap (λ (v : CoreModel). v.events) h.1 }
after_made d e id (Some n) now own h = record { settings = ap (λ (v : CoreModel). v.settings) h; txns = ap (λ (v : CoreModel). v.state.txns) h; snapshots = ap (λ (v : CoreModel). v.state.snapshots) h; events = ap (λ (v : CoreModel). v.events) h }

after_either : (d e : CoreModel) (id : List ℕ) (now : ℤ) (own : Tx) (r : Result (Option ℕ) SlateDBError) → IfOk r (λ n. IsCommitted d e id n now own) → OnErr r (IsEnded d e id) → IsAfter d e id (end_event id now own r)
after_either d e id now own (Ok n) made ended = after_made d e id n now own made
after_either d e id now own (Err x) made ended = record { settings = ap (λ (v : CoreModel). v.settings) ended; txns = ap (λ (v : CoreModel). v.state.txns) ended; snapshots = ap (λ (v : CoreModel). v.state.snapshots) ended; events = ap (λ (v : CoreModel). v.events) ended }

module _ (o : Settings) (m : Meaning) (g : Segments) (c d e : CoreModel) (id : List ℕ) (now : ℤ) (own : Tx) (r : Result (Option ℕ) SlateDBError) (l : IsLocked o m g c) (given : d ≡ operated c id (λ _. own)) (made : IfOk r (λ n. IsCommitted d e id n now own)) (ended : OnErr r (IsEnded d e id)) where
  after : IsAfter d e id (end_event id now own r)
  after = after_either d e id now own r made ended

  txns_are : e.state.txns ≡ without id c.state.txns
  txns_are = after.txns ∙ ap (λ (v : CoreModel). without id v.state.txns) given ∙ without_updated id (λ _. own) c.state.txns

  end_is : IsEnded d e id → e ≡ after_end c id e.spare
  end_is h =
      h
      ∙ ap (λ (v : CoreModel). record v { state = without_txn v.state id; events = v.events ++ (events.End id ∷ []); spare = e.spare }) given
      ∙ ap (λ (ts : List (List ℕ × Tx)). record c { state = record c.state { txns = ts }; events = c.events ++ (events.End id ∷ []); spare = e.spare }) (without_updated id (λ _. own) c.state.txns)

  pub commit_locked : (IsKept m d → IsKept m e) → (IsSegmented g d → IsSegmented g e) → (IsSegmented g c → IsSegmented g d) → ((m.combine ≡ None → holds_merge own.ops ≡ false) → IsKept m c → IsKept m d)
      → IsDecided (λ x. x ≡ errors.OutOfMemory) m.combine g d.settings now d.segments d.state.commits own r → IsLocked o m g e
  commit_locked keeps segments handed_segments handed decided = record {
    settings = after.settings ∙ ap (λ (v : CoreModel). v.settings) given ∙ l.settings;
    kept = kept_by r ended decided.tested;
    segmented = segments (handed_segments l.segmented);
    bare = subst (λ (ts : List (List ℕ × Tx)). map as_begun ts ≡ ts) (sym txns_are) (bare_less id c.state.txns l.bare);
    unshown = after.snapshots ∙ ap (λ (v : CoreModel). v.state.snapshots) given ∙ l.unshown;
  }
    where
      kept_by : (s : Result (Option ℕ) SlateDBError) → OnErr s (IsEnded d e id) → OnOk s (test_refusal m.combine g d.segments d.settings.default_millis now own.ops ≡ None) → IsKept m e
      kept_by (Ok n) h tested = keeps (handed (λ none. tested_plain m.combine g d.segments (holds_merge own.ops) d.settings.default_millis now own.ops none tested) l.kept)
      kept_by (Err x) h tested = subst (IsKept m) (sym (end_is h)) (kept_end m c id e.spare l.kept)

  pub commit_held : (f : Option Flight) (k : Option ℕ) → IsHeld o m g f k c → Replays c.events c.state → find_named id c.state.txns ≡ Some (begun own.level own.begin) → IsLegal e.settings.start_seq e.events → (e.active ≡ [] → IsQuiet e.events) → IsLocked o m g e → IsHeld o m g f k e
  commit_held f k h is there legal quiet locked = record {
    locked = locked;
    aloft = aloft_either m f d e id now own r made ended (record { replays = replays_handed c d id own given there is; legal = legal; quiet = quiet }) (aloft_handed m f c d id own given there h.aloft);
    newest = h.newest ∙ sym (ap last_install (after.events ∙ ap (λ (v : CoreModel). v.events ++ end_event id now own r ∷ []) given) ∙ install_same c.events (end_event id now own r) (no_install id now own r));
  }

  pub commit_grows : (f : Option Flight) → holds_at e.events f ≡ grow (holds_at c.events f) (end_event id now own r)
  commit_grows f = ap (λ (es : List Event). holds_at es f) (after.events ∙ ap (λ (v : CoreModel). v.events ++ end_event id now own r ∷ []) given)

  pub commit_ends : (fault : SlateDBError → Type 0) → Replays c.events c.state → IsDecided fault m.combine g d.settings now d.segments d.state.commits own r → IsEnding fault m g o now c.events own r
  commit_ends fault is decided =
      subst (λ (cs : List Commit). IsDecided fault m.combine g o now (recorded_by g (replay c.events).commits) cs own r) (ap (λ (v : CoreModel). v.state.commits) given ∙ sym is.commits)
      (subst (λ (ps : List (List ℕ)). IsDecided fault m.combine g o now ps d.state.commits own r) (ap (λ (v : CoreModel). v.segments) given ∙ l.segmented.recorded ∙ ap (recorded_by g) (sym is.commits))
      (subst (λ (s : Settings). IsDecided fault m.combine g s now d.segments d.state.commits own r) (ap (λ (v : CoreModel). v.settings) given ∙ l.settings) decided))

-- ---- a fault in place of want of memory

pub weaker_fault : (f h : SlateDBError → Type 0) (m : Meaning) (g : Segments) (o : Settings) (now : ℤ) (es : List Event) (t : Tx) (r : Result (Option ℕ) SlateDBError) → ((e : SlateDBError) → f e → h e) → IsEnding f m g o now es t r → IsEnding h m g o now es t r
weaker_fault f h m g o now es t (Ok n) more is = record { next = is.next; free = is.free; tested = is.tested; cause = tt }
weaker_fault f h m g o now es t (Err e) more is = record { next = tt; free = tt; tested = tt; cause = by is.cause }
  where
    by : {P : Type 0} → f e ⊎ P → h e ⊎ P
    by (inl x) = inl (more e x)
    by (inr x) = inr x

-- a fault before the lock is taken
pub faulted : (f : SlateDBError → Type 0) (m : Meaning) (g : Segments) (o : Settings) (now : ℤ) (es : List Event) (t : Tx) (e : SlateDBError) → f e → IsEnding f m g o now es t (Err e)
faulted f m g o now es t e is = record { next = tt; free = tt; tested = tt; cause = inl is }

pub ended_weaker : (f h : SlateDBError → Type 0) (m : Meaning) (g : Segments) (o : Settings) (now : ℤ) (t : Opened) (p q : PassModel) (r : Result (Option ℕ) SlateDBError) → ((e : SlateDBError) → f e → h e) → HasEnded f m g o now t p q r → HasEnded h m g o now t p q r
ended_weaker f h m g o now t p q r more is = record { before = is.before; seen = is.seen; own_seen = is.own_seen; after = is.after; own = is.own; is = weaker_fault f h m g o now is.before t.tx r more is.is }

-- ---- what a pass knows after it

module _ (fault : SlateDBError → Type 0) (m : Meaning) (g : Segments) (o : Settings) (now z : ℤ) (t : Opened) (r s : Result (Option ℕ) SlateDBError) (p q : PassModel) (es : List Event) (moments : z ≡ now) (is : r ≡ s) where
  pub has_ended : (own : List ℕ) → own ≡ p.own → IsPrefix p.seen es → IsPrefix t.seen es → q.seen ≡ es ++ end_event t.id z t.tx r ∷ [] → q.own ≡ own_after own (length es) (end_event t.id z t.tx r) → IsEnding fault m g o z es t.tx r → HasEnded fault m g o now t p q s
  has_ended own before seen own_seen after places says = record {
    before = es;
    seen = seen;
    own_seen = own_seen;
    after = after ∙ (λ i. es ++ end_event t.id (moments i) t.tx (is i) ∷ []);
    own = places ∙ (λ i. own_after (before i) (length es) (end_event t.id (moments i) t.tx (is i)));
    is = subst (λ (x : Result (Option ℕ) SlateDBError). IsEnding fault m g o now es t.tx x) is (subst (λ (x : ℤ). IsEnding fault m g o x es t.tx r) moments says);
  }

-- ---- what was prepared, in the words of the parts

-- with the settings of a core
pub prepared_in : (o : Options) (m : Meaning) (g : Segments) (s : Settings) (z now : ℤ) (b : BatchModel) (p : Prepared) → s ≡ settings_of o → z ≡ now → IsPrepared (prepared_for m.combine g o.default_ttl_millis now b) p → IsPrepared (prepared_for m.combine g s.default_millis z b) p
prepared_in o m g s z now b p settings moments is =
    subst (λ (x : Settings). IsPrepared (prepared_for m.combine g x.default_millis z b) p) (sym settings)
    (subst (λ (y : ℤ). IsPrepared (prepared_for m.combine g o.default_ttl_millis y b) p) (sym moments) is)

pub was_prepared_in : (o : Options) (m : Meaning) (g : Segments) (s : Settings) (z now : ℤ) (own t : Tx) (p : Prepared) → s ≡ settings_of o → z ≡ now → own ≡ t → IsPrepared (prepared_for m.combine g o.default_ttl_millis now (own_batch own.ops)) p → WasPrepared s.default_millis z (own_batch t.ops) p
was_prepared_in o m g s z now own t p settings moments same is =
    subst (λ (u : Tx). WasPrepared s.default_millis z (own_batch u.ops) p) same (record { combine = m.combine; segments = g; is = prepared_in o m g s z now (own_batch own.ops) p settings moments is })

pub prepared_as : (a b : PreparedWith) (p : Prepared) → a ≡ b → IsPrepared a p → IsPrepared b p
prepared_as a b p same is = subst (λ (w : PreparedWith). IsPrepared w p) same is

pub with_parts : {M : Type 0} (f : M → List ℕ → Combine) (n : Option M) (m : Meaning) (g h : Segments) (a o : Options) (z now : ℤ) (b k : BatchModel) → combine_of f n ≡ m.combine → h ≡ g → a ≡ o → z ≡ now → b ≡ k →
    prepared_for (option_map f n) h a.default_ttl_millis z b ≡ prepared_for m.combine g o.default_ttl_millis now k
with_parts f n m g h a o z now b k combines lengths options moments batches =
    let all = sym (combine_is f n) ∙ combines in λ i. prepared_for (all i) (lengths i) (options i).default_ttl_millis (moments i) (batches i)

pub is_own_batch : (t : Tx) (b : BatchModel) → IsBatchOf t.ops b → b ≡ own_batch t.ops
is_own_batch t b of = let ops = of.0 in let merge = of.1 in λ i. record { ops = ops i; held_merge = merge i }

-- ---- a fault before the lock is taken

pub fault_before : (before after : Reach) (m : Meaning) (g : Segments) (o : Settings) (now : ℤ) (t : Opened) (p q : PassModel) (es : List Event) (e : SlateDBError) → (e ≡ errors.OutOfMemory) ⊎ IsCallback before.faults.operator after.faults.operator e →
    IsPrefix p.seen es → IsPrefix t.seen es → q.seen ≡ es ++ events.End t.id ∷ [] → q.own ≡ p.own → HasEnded (IsFault before after) m g o now t p q (Err e)
fault_before before after m g o now t p q es e why seen own_seen ended own = record {
  before = es;
  seen = seen;
  own_seen = own_seen;
  after = ended;
  own = own;
  is = faulted (IsFault before after) m g o now es t.tx e (⊎_elim (λ (is : e ≡ errors.OutOfMemory). short_fault before after e is) (λ (is : IsCallback before.faults.operator after.faults.operator e). callback_fault before after e is) why);
}
