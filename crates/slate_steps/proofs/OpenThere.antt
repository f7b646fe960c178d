-- In a legal journal a transaction stands open as it was begun, until it ends.
use Rattle.std.proofs.Common.{◌≡◌, ◌≢◌, ◌⊎◌, ⊎_elim, inl, inr, ◌||◌, ℕ, ℤ, Bool, true, false, cond, bytes_eq, List, [], ◌∷◌, ◌++◌, Option, Some, None, append_assoc, refl, sym, ap, subst, ◌∙◌}
use Rattle.std.specs.Prelude.{IsSome}
use Rattle.std.proofs.lemmas.Slice.Eq.{bytes_eq-Decides}
use mathlib.Core.List.{IsPrefix}
use Rattle.slate_types.specs.declared.config.IsolationLevel.{IsolationLevel}
use Rattle.slate_types.specs.declared.config.Options.{Options}
use Rattle.slate_types.specs.Keys.{among}
use Rattle.slate_types.proofs.KeyOrder.{bytes_eq_same}
use Rattle.slate_mem.specs.Batch.{batch_keys, kept_ops}
use Rattle.slate_txn.specs.declared.event.Event.{Event}
use Rattle.slate_txn.specs.declared.event.Event.TheVariants as events
use Rattle.slate_txn.specs.declared.event.TranscriptStep.{TranscriptStep}
use Rattle.slate_txn.specs.Named.{StandOnce, find_named, set_named, without}
use Rattle.slate_txn.specs.Replay.{Allowed, IsLegal, LegalFrom, apply, apply_all, ids_of, replay, used_from}
use Rattle.slate_txn.specs.Settings.{settings_of}
use Rattle.slate_txn.specs.State.{State, Tx, begun, opening}
use Rattle.slate_txn.specs.Vouched.{VouchedAt, VouchedBy}
use Rattle.slate_txn.proofs.NameLaws.{AreUsed, gone_without, used_apply}
use Rattle.slate_db.specs.Meaning.{Meaning, rules_of}
use Rattle.slate_shared.specs.Passes.{Opened, PassModel}
use Rattle.slate_shared.proofs.Lists.{prefix_more, prefix_self, prefix_trans}
use Rattle.slate_steps.specs.Attempts.{HasCommittedBehind, IsAttempt, IsVouchedThere}
use Rattle.slate_steps.proofs.Attempts.{applied_both, legal_before, legal_rest}
use Rattle.slate_steps.proofs.LastNamed.{find_last, find_other}

-- not open, or with this
abbrev pub StandsAs : List ℕ → Tx → List (List ℕ × Tx) → Type 0
StandsAs id x ps = (find_named id ps ≡ None) ⊎ (find_named id ps ≡ Some x)

find_apart : (j k : List ℕ) (ps : List (List ℕ × Tx)) → bytes_eq j k ≡ false → find_named k (without j ps) ≡ find_named k ps
find_apart j k [] h = refl
find_apart j k (p ∷ ps) h = by (bytes_eq p.0 j) refl (find_apart j k ps h)
  where
    by : (b : Bool) → bytes_eq p.0 j ≡ b → find_named k (without j ps) ≡ find_named k ps → find_named k (cond b ps (p ∷ without j ps)) ≡ cond (bytes_eq p.0 k) (Some p.1) (find_named k ps)
    by true e later =
        let other : bytes_eq p.0 k ≡ false = subst (λ (q : List ℕ). bytes_eq q k ≡ false) (sym ((bytes_eq-Decides p.0 j).0 e)) h in
        ap (λ b. cond b (Some p.1) (find_named k ps)) (sym other)
    by false e later = ap (λ o. cond (bytes_eq p.0 k) (Some p.1) o) later

stands_without : (id j : List ℕ) (x : Tx) (ps : List (List ℕ × Tx)) → StandOnce ps → StandsAs id x ps → StandsAs id x (without j ps)
stands_without id j x ps once h = by (bytes_eq j id) refl
  where
    by : (b : Bool) → bytes_eq j id ≡ b → StandsAs id x (without j ps)
    by true e = inl (subst (λ (k : List ℕ). find_named k (without j ps) ≡ None) ((bytes_eq-Decides j id).0 e) (gone_without j ps once))
    by false e = ⊎_elim (λ (none : find_named id ps ≡ None). inl (find_apart j id ps e ∙ none)) (λ (there : find_named id ps ≡ Some x). inr (find_apart j id ps e ∙ there)) h

stands_set : (id j : List ℕ) (x y : Tx) (ps : List (List ℕ × Tx)) → id ≢ j → StandsAs id x ps → StandsAs id x (set_named j y ps)
stands_set id j x y ps apart h = ⊎_elim (λ (none : find_named id ps ≡ None). inl (find_other j id y ps apart ∙ none)) (λ (there : find_named id ps ≡ Some x). inr (find_other j id y ps apart ∙ there)) h

stands_by : (n0 : ℕ) (id : List ℕ) (x : Tx) (s : State) (used : List (List ℕ)) (e : Event) → AreUsed s used → among id used ≡ true → Allowed n0 s used e → StandsAs id x s.txns → StandsAs id x (apply s e).txns
stands_by n0 id x s used (events.Begin j level start) u there a h =
    stands_set id j x (begun level start) s.txns (λ same. let clash : true ≡ false = sym there ∙ ap (λ k. among k used) same ∙ a.0 in cc) h
stands_by n0 id x s used (events.End j) u there a h = stands_without id j x s.txns u.once.0 h
stands_by n0 id x s used (events.Commit j n now os tracked ts) u there a h = stands_without id j x s.txns u.once.0 h
stands_by n0 id x s used (events.Write n now os) u there a h = h
stands_by n0 id x s used events.Freeze u there a h = h
stands_by n0 id x s used (events.Install through tables) u there a h = h
stands_by n0 id x s used (events.Snapshot j n) u there a h = h
stands_by n0 id x s used (events.Release j) u there a h = h

among_more : (k : List ℕ) (js ks : List (List ℕ)) → among k ks ≡ true → among k (js ++ ks) ≡ true
among_more k [] ks h = h
among_more k (j ∷ js) ks h = by (bytes_eq j k) (among_more k js ks h)
  where
    by : (b : Bool) → among k (js ++ ks) ≡ true → (b || among k (js ++ ks)) ≡ true
    by true later = refl
    by false later = later

stands_all : (n0 : ℕ) (id : List ℕ) (x : Tx) (es : List Event) (s : State) (used : List (List ℕ)) → AreUsed s used → among id used ≡ true → LegalFrom n0 s used es → StandsAs id x s.txns → StandsAs id x (apply_all s es).txns
stands_all n0 id x [] s used u there legal h = h
stands_all n0 id x (e ∷ es) s used u there legal h =
    stands_all n0 id x es (apply s e) (ids_of e ++ used) (used_apply n0 s used e u legal.0) (among_more id (ids_of e) used there) legal.1 (stands_by n0 id x s used e u there legal.0 h)

used_all : (n0 : ℕ) (es : List Event) (s : State) (used : List (List ℕ)) → AreUsed s used → LegalFrom n0 s used es → AreUsed (apply_all s es) (used_from used es)
used_all n0 [] s used u legal = u
used_all n0 (e ∷ es) s used u legal = used_all n0 es (apply s e) (ids_of e ++ used) (used_apply n0 s used e u legal.0) legal.1

pub stands_begun : (n0 : ℕ) (id : List ℕ) (level : IsolationLevel) (n : ℕ) (start es : List Event) → IsPrefix (start ++ (events.Begin id level n ∷ [])) es → IsLegal n0 es → StandsAs id (begun level n) (replay es).txns
stands_begun n0 id level n start es p legal =
    subst (λ (l : List Event). StandsAs id (begun level n) (replay l).txns) (sym is)
    (subst (λ (s : State). StandsAs id (begun level n) s.txns) (sym (applied_both opening start (events.Begin id level n ∷ p.0)))
    (stands_all n0 id (begun level n) p.0 (apply (replay start) (events.Begin id level n)) (id ∷ used_from [] start) (used_apply n0 (replay start) (used_from [] start) (events.Begin id level n) used begins.0)
    (ap (λ b. b || among id (used_from [] start)) (bytes_eq_same id)) begins.1
    (inr (find_last id (begun level n) (replay start).txns (used.txns id begins.0.0)))))
  where
    is : es ≡ start ++ (events.Begin id level n ∷ p.0)
    is = sym p.1 ∙ append_assoc start (events.Begin id level n ∷ []) p.0

    begins : LegalFrom n0 (replay start) (used_from [] start) (events.Begin id level n ∷ p.0)
    begins = legal_rest n0 opening [] start (events.Begin id level n ∷ p.0) (subst (λ (l : List Event). IsLegal n0 l) is legal)

    used : AreUsed (replay start) (used_from [] start)
    used = used_all n0 start opening [] (record { once = (tt, tt, λ k. inl refl); txns = λ k e. refl; snapshots = λ k e. refl })
        (legal_before n0 start es (prefix_trans start (start ++ (events.Begin id level n ∷ [])) es (prefix_more start start (events.Begin id level n ∷ []) (prefix_self start)) p) legal)

is_there : (o : Option Tx) (x : Tx) → IsSome o → (o ≡ None) ⊎ (o ≡ Some x) → o ≡ Some x
is_there None x h k = cc h
is_there (Some y) x h (inl none) = cc none
is_there (Some y) x h (inr there) = there

-- ---- where an attempt is committed

module _ (o : Options) (from : List Event) (level : IsolationLevel) (ts : List TranscriptStep) (t : Opened) (a : IsAttempt o from level ts t) (n : Option ℕ) (now : ℤ) (old new : PassModel) (h : HasCommittedBehind o t n now old new) (legal : IsLegal o.start_seq new.seen) where
  abbrev commits_it : Event
  commits_it = events.Commit t.id n now (kept_ops t.tx.ops) (batch_keys t.tx.ops) t.tx.transcript

  pub committed_before : IsLegal o.start_seq h.before
  committed_before = legal_before o.start_seq h.before new.seen (commits_it ∷ [], sym h.after) legal

  pub committed_allowed : Allowed o.start_seq (replay h.before) (used_from [] h.before) commits_it
  committed_allowed = (legal_rest o.start_seq opening [] h.before (commits_it ∷ []) (subst (λ (l : List Event). IsLegal o.start_seq l) h.after legal)).0

  -- it stood open as it was begun
  pub committed_open : find_named t.id (replay h.before).txns ≡ Some (begun level t.tx.begin)
  committed_open =
      is_there (find_named t.id (replay h.before).txns) (begun level t.tx.begin) committed_allowed.0
      (stands_begun o.start_seq t.id level t.tx.begin a.start h.before (prefix_trans (a.start ++ (events.Begin t.id level t.tx.begin ∷ [])) t.seen h.before a.begun h.known) committed_before)

  -- so its answers were those of a reader at that begin
  pub committed_vouched : (m : Meaning) → IsVouchedThere o m t → VouchedAt (rules_of (settings_of o) m) (replay h.before) commits_it
  committed_vouched m v = subst (λ (x : Option Tx). VouchedBy (rules_of (settings_of o) m) (replay h.before) x t.tx.transcript) (sym committed_open) (v.by_each h.before h.known committed_before)
