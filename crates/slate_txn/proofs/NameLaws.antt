-- Names stand once, in the state of a legal journal and after any lines.
use Rattle.std.proofs.Common.{◌≡◌, ℕ, Bool, true, false, cond, ◌||◌, is_some, List, [], ◌∷◌, ◌++◌, bytes_eq, Option, Some, None, refl, sym, ap, subst, ◌∙◌, ◌⊎◌, inl, inr}
use Rattle.std.specs.List.{AllByRecursion}
use Rattle.std.proofs.lemmas.Slice.Eq.{bytes_eq-Decides}
use Rattle.slate_types.specs.Keys.{among}
use Rattle.slate_txn.specs.declared.event.Event.{Event}
use Rattle.slate_txn.specs.declared.event.Event.TheVariants as events
use Rattle.slate_txn.specs.declared.line.Line.{Line}
use Rattle.slate_txn.specs.Named.{find_named, without, set_named, update_named, StandOnce}
use Rattle.slate_txn.specs.State.{Rules, Tx, State, begun, last, opening, is_open, NamesStandOnce}
use Rattle.slate_txn.specs.Step.{after}
use Rattle.slate_txn.specs.Replay.{apply, apply_all, Allowed, LegalFrom, IsLegal, replay, ids_of}
use Rattle.slate_txn.proofs.StepLaws.{Keeps, after_keeps}
use Rattle.slate_types.proofs.KeyOrder.{bytes_eq_same}
use Rattle.slate_types.proofs.Plain.{none_by_test}

-- ---- tests of names

-- the test is the same either way
pub other_way : (j k : List ℕ) → bytes_eq j k ≡ false → bytes_eq k j ≡ false
other_way j k e = by (bytes_eq k j) refl
  where
    by : (b : Bool) → bytes_eq k j ≡ b → b ≡ false
    by true d = sym (bytes_eq_same j) ∙ ap (bytes_eq j) (sym ((bytes_eq-Decides k j).0 d)) ∙ e
    by false d = refl

-- none under the name, in a list that begins with a pair
pub none_head : {X : Type 0} (k : List ℕ) (p : List ℕ × X) (ps : List (List ℕ × X)) → find_named k (p ∷ ps) ≡ None → bytes_eq p.0 k ≡ false
none_head k p ps h = by (bytes_eq p.0 k) h
  where
    by : (b : Bool) → cond b (Some p.1) (find_named k ps) ≡ None → b ≡ false
    by true e = cc
    by false e = refl

pub none_tail : {X : Type 0} (k : List ℕ) (p : List ℕ × X) (ps : List (List ℕ × X)) → find_named k (p ∷ ps) ≡ None → find_named k ps ≡ None
none_tail k p ps h = by (bytes_eq p.0 k) h
  where
    by : (b : Bool) → cond b (Some p.1) (find_named k ps) ≡ None → find_named k ps ≡ None
    by true e = cc
    by false e = e

pub none_cons : {X : Type 0} (k : List ℕ) (p : List ℕ × X) (ps : List (List ℕ × X)) → bytes_eq p.0 k ≡ false → find_named k ps ≡ None → find_named k (p ∷ ps) ≡ None
none_cons k p ps e h = ap (λ b. cond b (Some p.1) (find_named k ps)) e ∙ h

-- ---- what each change leaves of the names

none_set : {X : Type 0} (k j : List ℕ) (x : X) (ps : List (List ℕ × X)) → bytes_eq j k ≡ false → find_named k ps ≡ None → find_named k (set_named j x ps) ≡ None
none_set k j x [] e h = none_cons k (j, x) [] e refl
none_set k j x (p ∷ ps) e h = none_cons k p (set_named j x ps) (none_head k p ps h) (none_set k j x ps e (none_tail k p ps h))

none_without : {X : Type 0} (k j : List ℕ) (ps : List (List ℕ × X)) → find_named k ps ≡ None → find_named k (without j ps) ≡ None
none_without k j [] h = refl
none_without k j (p ∷ ps) h = by (bytes_eq p.0 j) (none_without k j ps (none_tail k p ps h))
  where
    by : (b : Bool) → find_named k (without j ps) ≡ None → find_named k (cond b ps (p ∷ without j ps)) ≡ None
    by true later = none_tail k p ps h
    by false later = none_cons k p (without j ps) (none_head k p ps h) later

none_update : {X : Type 0} (k j : List ℕ) (f : X → X) (ps : List (List ℕ × X)) → find_named k ps ≡ None → find_named k (update_named j f ps) ≡ None
none_update k j f [] h = refl
none_update k j f (p ∷ ps) h = by (bytes_eq p.0 j) (none_update k j f ps (none_tail k p ps h))
  where
    by : (b : Bool) → find_named k (update_named j f ps) ≡ None → find_named k (cond b ((p.0, f p.1) ∷ ps) (p ∷ update_named j f ps)) ≡ None
    by true later = none_cons k (p.0, f p.1) ps (none_head k p ps h) (none_tail k p ps h)
    by false later = none_cons k p (update_named j f ps) (none_head k p ps h) later

once_set : {X : Type 0} (j : List ℕ) (x : X) (ps : List (List ℕ × X)) → find_named j ps ≡ None → StandOnce ps → StandOnce (set_named j x ps)
once_set j x [] e h = (refl, tt)
once_set j x (p ∷ ps) e h = (none_set p.0 j x ps (other_way p.0 j (none_head j p ps e)) h.0, once_set j x ps (none_tail j p ps e) h.1)

pub once_without : {X : Type 0} (j : List ℕ) (ps : List (List ℕ × X)) → StandOnce ps → StandOnce (without j ps)
once_without j [] h = tt
once_without j (p ∷ ps) h = by (bytes_eq p.0 j) (once_without j ps h.1)
  where
    by : (b : Bool) → StandOnce (without j ps) → StandOnce (cond b ps (p ∷ without j ps))
    by true later = h.1
    by false later = (none_without p.0 j ps h.0, later)

once_update : {X : Type 0} (j : List ℕ) (f : X → X) (ps : List (List ℕ × X)) → StandOnce ps → StandOnce (update_named j f ps)
once_update j f [] h = tt
once_update j f (p ∷ ps) h = by (bytes_eq p.0 j) (once_update j f ps h.1)
  where
    by : (b : Bool) → StandOnce (update_named j f ps) → StandOnce (cond b ((p.0, f p.1) ∷ ps) (p ∷ update_named j f ps))
    by true later = h
    by false later = (none_update p.0 j f ps h.0, later)

-- where names stand once, none is left of one that is taken out
pub gone_without : {X : Type 0} (j : List ℕ) (ps : List (List ℕ × X)) → StandOnce ps → find_named j (without j ps) ≡ None
gone_without j [] h = refl
gone_without j (p ∷ ps) h = by (bytes_eq p.0 j) refl (gone_without j ps h.1)
  where
    by : (b : Bool) → bytes_eq p.0 j ≡ b → find_named j (without j ps) ≡ None → find_named j (cond b ps (p ∷ without j ps)) ≡ None
    by true e later = subst (λ k. find_named k ps ≡ None) ((bytes_eq-Decides p.0 j).0 e) h.0
    by false e later = none_cons j p (without j ps) e later

-- ---- each pair is found

some_is_none : {X : Type 0} (x : X) → Some x ≡ None → ⊥
some_is_none x h = cc

found_later : {X : Type 0} (p : List ℕ × X) (ps qs : List (List ℕ × X)) → find_named p.0 ps ≡ None → AllByRecursion (λ q. find_named q.0 ps ≡ Some q.1) qs → AllByRecursion (λ q. find_named q.0 (p ∷ ps) ≡ Some q.1) qs
found_later p ps [] e h = tt
found_later p ps (q ∷ qs) e h = (by (bytes_eq p.0 q.0) refl, found_later p ps qs e h.1)
  where
    by : (b : Bool) → bytes_eq p.0 q.0 ≡ b → cond b (Some p.1) (find_named q.0 ps) ≡ Some q.1
    by true d = let same : find_named p.0 ps ≡ find_named q.0 ps = ap (λ k. find_named k ps) ((bytes_eq-Decides p.0 q.0).0 d) in absurd (some_is_none q.1 (sym h.0 ∙ sym same ∙ e))
    by false d = h.0

pub finds : {X : Type 0} (ps : List (List ℕ × X)) → StandOnce ps → AllByRecursion (λ p. find_named p.0 ps ≡ Some p.1) ps
finds [] h = tt
finds (p ∷ ps) h = (ap (λ b. cond b (Some p.1) (find_named p.0 ps)) (bytes_eq_same p.0), found_later p ps ps h.0 (finds ps h.1))

-- ---- states

or_left : (a b : Bool) → (a || b) ≡ false → a ≡ false
or_left true b h = h
or_left false b h = refl

or_right : (a b : Bool) → (a || b) ≡ false → b ≡ false
or_right true b h = cc
or_right false b h = h

no_tx : (s : State) (name : List ℕ) → is_open s name ≡ false → find_named name s.txns ≡ None
no_tx s name e = none_by_test (find_named name s.txns) (or_left (is_some (find_named name s.txns)) (is_some (find_named name s.snapshots)) e)

no_snapshot : (s : State) (name : List ℕ) → is_open s name ≡ false → find_named name s.snapshots ≡ None
no_snapshot s name e = none_by_test (find_named name s.snapshots) (or_right (is_some (find_named name s.txns)) (is_some (find_named name s.snapshots)) e)

-- a new name of one list stands in no place of the other
apart_set : {X : Type 0} {Y : Type 0} (j k : List ℕ) (x : X) (ps : List (List ℕ × X)) (qs : List (List ℕ × Y)) → find_named j qs ≡ None → (find_named k ps ≡ None) ⊎ (find_named k qs ≡ None) → (find_named k (set_named j x ps) ≡ None) ⊎ (find_named k qs ≡ None)
apart_set j k x ps qs e (inr none) = inr none
apart_set j k x ps qs e (inl none) = by (bytes_eq j k) refl
  where
    by : (b : Bool) → bytes_eq j k ≡ b → (find_named k (set_named j x ps) ≡ None) ⊎ (find_named k qs ≡ None)
    by true d = inr (subst (λ i. find_named i qs ≡ None) ((bytes_eq-Decides j k).0 d) e)
    by false d = inl (none_set k j x ps d none)

flip : {A : Type 0} {B : Type 0} → A ⊎ B → B ⊎ A
flip (inl a) = inr a
flip (inr b) = inl b

apart_map : {A : Type 0} {B : Type 0} {C : Type 0} {D : Type 0} → (A → C) → (B → D) → A ⊎ B → C ⊎ D
apart_map f g (inl a) = inl (f a)
apart_map f g (inr b) = inr (g b)

-- what a begin and a snapshot leave, where the name is new in both lists
once_begin : (s : State) (name : List ℕ) (t : Tx) → find_named name s.txns ≡ None → find_named name s.snapshots ≡ None → NamesStandOnce s → NamesStandOnce (record s { txns = set_named name t s.txns })
once_begin s name t e d h = (once_set name t s.txns e h.0, h.1, λ k. apart_set name k t s.txns s.snapshots d (h.2 k))

once_snapshot : (s : State) (name : List ℕ) (n : ℕ) → find_named name s.txns ≡ None → find_named name s.snapshots ≡ None → NamesStandOnce s → NamesStandOnce (record s { snapshots = set_named name n s.snapshots })
once_snapshot s name n e d h = (h.0, once_set name n s.snapshots d h.1, λ k. flip (apart_set name k n s.snapshots s.txns e (flip (h.2 k))))

once_end : (s : State) (name : List ℕ) → NamesStandOnce s → NamesStandOnce (record s { txns = without name s.txns })
once_end s name h = (once_without name s.txns h.0, h.1, λ k. apart_map (none_without k name s.txns) (λ e. e) (h.2 k))

once_release : (s : State) (name : List ℕ) → NamesStandOnce s → NamesStandOnce (record s { snapshots = without name s.snapshots })
once_release s name h = (h.0, once_without name s.snapshots h.1, λ k. apart_map (λ e. e) (none_without k name s.snapshots) (h.2 k))

pub names : (r : Rules) → Keeps r NamesStandOnce
names r = record {
  moment = λ s m h. h;
  flush = λ s h. h;
  begin = λ s name level e h. once_begin s name (begun level (last r s)) (no_tx s name e) (no_snapshot s name e) h;
  snapshot = λ s name e h. once_snapshot s name (last r s) (no_tx s name e) (no_snapshot s name e) h;
  changed = λ s name f g h. (once_update name f s.txns h.0, h.1, λ k. apart_map (none_update k name f s.txns) (λ e. e) (h.2 k));
  closes = λ s name h. once_release (record s { txns = without name s.txns }) name (once_end s name h);
  commits = λ s o os tracked keys h. h;
}

pub lines_once : (r : Rules) (ls : List Line) (s : State) → NamesStandOnce s → NamesStandOnce (after r s ls)
lines_once r ls s h = after_keeps r NamesStandOnce (names r) ls s h

-- ---- journals: each id that is open was used

pub record AreUsed (s : State) (used : List (List ℕ)) : Type 0 where
  pub once : NamesStandOnce s
  pub txns : (k : List ℕ) → among k used ≡ false → find_named k s.txns ≡ None
  pub snapshots : (k : List ℕ) → among k used ≡ false → find_named k s.snapshots ≡ None

pub used_apply : (n0 : ℕ) (s : State) (used : List (List ℕ)) (e : Event) → AreUsed s used → Allowed n0 s used e → AreUsed (apply s e) (ids_of e ++ used)
used_apply n0 s used (events.Begin id level start) h a =
    let new : among id used ≡ false = a.0 in
    record {
      once = once_begin s id (begun level start) (h.txns id new) (h.snapshots id new) h.once;
      txns = λ k e. none_set k id (begun level start) s.txns (or_left (bytes_eq id k) (among k used) e) (h.txns k (or_right (bytes_eq id k) (among k used) e));
      snapshots = λ k e. h.snapshots k (or_right (bytes_eq id k) (among k used) e);
    }
used_apply n0 s used (events.End id) h a = record { once = once_end s id h.once; txns = λ k e. none_without k id s.txns (h.txns k e); snapshots = h.snapshots }
used_apply n0 s used (events.Commit id n now os tracked ts) h a = record { once = once_end s id h.once; txns = λ k e. none_without k id s.txns (h.txns k e); snapshots = h.snapshots }
used_apply n0 s used (events.Write n now os) h a = record { once = h.once; txns = h.txns; snapshots = h.snapshots }
used_apply n0 s used events.Freeze h a = h
used_apply n0 s used (events.Install through tables) h a = record { once = h.once; txns = h.txns; snapshots = h.snapshots }
used_apply n0 s used (events.Snapshot id n) h a =
    let new : among id used ≡ false = a.0 in
    record {
      once = once_snapshot s id n (h.txns id new) (h.snapshots id new) h.once;
      txns = λ k e. h.txns k (or_right (bytes_eq id k) (among k used) e);
      snapshots = λ k e. none_set k id n s.snapshots (or_left (bytes_eq id k) (among k used) e) (h.snapshots k (or_right (bytes_eq id k) (among k used) e));
    }
used_apply n0 s used (events.Release id) h a = record { once = once_release s id h.once; txns = h.txns; snapshots = λ k e. none_without k id s.snapshots (h.snapshots k e) }

legal_used : (n0 : ℕ) (es : List Event) (s : State) (used : List (List ℕ)) → AreUsed s used → LegalFrom n0 s used es → NamesStandOnce (apply_all s es)
legal_used n0 [] s used h legal = h.once
legal_used n0 (e ∷ es) s used h legal = legal_used n0 es (apply s e) (ids_of e ++ used) (used_apply n0 s used e h legal.0) legal.1

pub legal_once : (n0 : ℕ) (es : List Event) → IsLegal n0 es → NamesStandOnce (replay es)
legal_once n0 es legal = legal_used n0 es opening [] (record { once = (tt, tt, λ k. inl refl); txns = λ k e. refl; snapshots = λ k e. refl }) legal
