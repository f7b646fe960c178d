-- The names of a session, and what a call of the core makes of what is open under them.
use Rattle.std.proofs.Common.{◌≡◌, ℕ, Bool, true, false, cond, ◌||◌, List, Some, None, Result, Ok, Err, OnOk, refl, sym, ap, ◌∙◌, subst}
use Rattle.std.specs.Prelude.{OnErr}
use Rattle.std.specs.Str.{bytes_eq}
use Rattle.slate_types.specs.declared.config.IsolationLevel.{IsolationLevel}
use Rattle.slate_types.specs.declared.error.SlateDBError.{SlateDBError}
use Rattle.slate_types.specs.declared.error.SlateDBError.TheVariants as errors
use Rattle.slate_txn.specs.declared.line.Line.TheVariants as lines
use Rattle.slate_txn.specs.Named.{find_named, without, set_named, update_named}
use Rattle.slate_txn.specs.State.{Rules, Tx, State, begun, last, is_open}
use Rattle.slate_txn.specs.Step.{step, closed}
use Rattle.slate_txn.specs.Reply as replies
use Rattle.slate_txn.specs.Reply.{Reply}
use Rattle.slate_db.specs.Model.{CoreModel}
use Rattle.slate_db.specs.Operated.{operated}
use Rattle.slate_script.specs.Session.{NamesStand}
use Rattle.slate_script.proofs.NamesLaws.{find_named_set, find_named_without, without_none}
use Rattle.slate_script.proofs.OpenNames.{Names, apart_changed, apart_first, apart_given, apart_last, apart_swap, apart_taken, names_changed, names_given, names_kept, names_taken}
use Rattle.slate_types.proofs.Plain.{neither, none_by_test}

-- ---- a begin that is answered

pub record Fresh (r : Rules) (c t : State) (id : List ℕ) (level : IsolationLevel) (n : ℕ) : Type 0 where
  pub none : find_named id c.txns ≡ None
  pub unshown : find_named id c.snapshots ≡ None
  pub is : t ≡ record c { txns = set_named id (begun level (last r c)) c.txns }
  pub at : n ≡ last r c

pub opens_fresh : (r : Rules) (c t : State) (id : List ℕ) (level : IsolationLevel) (n : ℕ) → step r c (lines.Begin id level) ≡ (t, replies.Begun id n) → Fresh r c t id level n
opens_fresh r c t id level n h = by (is_open c id) refl h
  where
    clash : (e : _) → replies.Refused e ≡ replies.Begun id n → ⊥
    clash e h = cc

    same : (a : ℕ) → replies.Begun id a ≡ replies.Begun id n → n ≡ a
    same a h = cc

    by : (b : Bool) → is_open c id ≡ b →
        ◌≡◌ {A = State × Reply} (cond b (c, replies.Refused (errors.DuplicateTransaction id)) (record c { txns = set_named id (begun level (last r c)) c.txns }, replies.Begun id (last r c))) (t, replies.Begun id n) → Fresh r c t id level n
    by true e h = absurd (clash _ (ap (λ p. p.1) h))
    by false e h = record {
      none = none_by_test (find_named id c.txns) (neither _ _ e).0;
      unshown = none_by_test (find_named id c.snapshots) (neither _ _ e).1;
      is = sym (ap (λ p. p.0) h);
      at = same (last r c) (ap (λ p. p.1) h);
    }

-- the names stand as they did
pub names_begun : {r : Rules} {c t : State} {id : List ℕ} {level : IsolationLevel} {n : ℕ} (names shown : Names) → Fresh r c t id level n → NamesStand names shown c.txns c.snapshots → NamesStand names shown t.txns t.snapshots
names_begun {r} {c} {t} {id} {level} {n} names shown fresh h = subst (λ (s : State). NamesStand names shown s.txns s.snapshots) (sym fresh.is) (record {
  transactions = names_kept id tx names c.txns fresh.none h.transactions;
  shown = h.shown;
  names_apart = h.names_apart;
  ids_apart = apart_given id (Some tx) c.txns (set_named id tx c.txns) c.snapshots fresh.unshown (λ q. find_named_set id q tx c.txns fresh.none) h.ids_apart;
})
  where
    tx : Tx
    tx = begun level (last r c)

-- one name more stands for the new id
pub names_opened : {r : Rules} {c t : State} {id : List ℕ} {level : IsolationLevel} {n : ℕ} (name : List ℕ) (names more shown : Names) → Fresh r c t id level n → find_named name shown ≡ None →
    ((q : List ℕ) → find_named q more ≡ cond (bytes_eq name q) (Some id) (find_named q names)) → NamesStand names shown c.txns c.snapshots → NamesStand more shown t.txns t.snapshots
names_opened {r} {c} {t} {id} {level} {n} name names more shown fresh gone updates h = subst (λ (s : State). NamesStand more shown s.txns s.snapshots) (sym fresh.is) (record {
  transactions = names_given name id tx names more c.txns fresh.none h.transactions updates;
  shown = h.shown;
  names_apart = apart_given name (Some id) names more shown gone updates h.names_apart;
  ids_apart = apart_given id (Some tx) c.txns (set_named id tx c.txns) c.snapshots fresh.unshown (λ q. find_named_set id q tx c.txns fresh.none) h.ids_apart;
})
  where
    tx : Tx
    tx = begun level (last r c)

-- ---- a snapshot that is answered

pub record FreshSnapshot (r : Rules) (c t : State) (id : List ℕ) (n : ℕ) : Type 0 where
  pub none : find_named id c.snapshots ≡ None
  pub unbegun : find_named id c.txns ≡ None
  pub is : t ≡ record c { snapshots = set_named id (last r c) c.snapshots }
  pub at : n ≡ last r c

pub opens_snapshot : (r : Rules) (c t : State) (id : List ℕ) (n : ℕ) → step r c (lines.Snapshot id) ≡ (t, replies.SnapshotAt id n) → FreshSnapshot r c t id n
opens_snapshot r c t id n h = by (is_open c id) refl h
  where
    clash : (e : _) → replies.Refused e ≡ replies.SnapshotAt id n → ⊥
    clash e h = cc

    same : (a : ℕ) → replies.SnapshotAt id a ≡ replies.SnapshotAt id n → n ≡ a
    same a h = cc

    by : (b : Bool) → is_open c id ≡ b →
        ◌≡◌ {A = State × Reply} (cond b (c, replies.Refused (errors.DuplicateTransaction id)) (record c { snapshots = set_named id (last r c) c.snapshots }, replies.SnapshotAt id (last r c))) (t, replies.SnapshotAt id n) → FreshSnapshot r c t id n
    by true e h = absurd (clash _ (ap (λ p. p.1) h))
    by false e h = record {
      none = none_by_test (find_named id c.snapshots) (neither _ _ e).1;
      unbegun = none_by_test (find_named id c.txns) (neither _ _ e).0;
      is = sym (ap (λ p. p.0) h);
      at = same (last r c) (ap (λ p. p.1) h);
    }

-- the names stand as they did
pub names_shown : {r : Rules} {c t : State} {id : List ℕ} {n : ℕ} (names shown : Names) → FreshSnapshot r c t id n → NamesStand names shown c.txns c.snapshots → NamesStand names shown t.txns t.snapshots
names_shown {r} {c} {t} {id} {n} names shown fresh h = subst (λ (s : State). NamesStand names shown s.txns s.snapshots) (sym fresh.is) (record {
  transactions = h.transactions;
  shown = names_kept id (last r c) shown c.snapshots fresh.none h.shown;
  names_apart = h.names_apart;
  ids_apart = apart_swap _ c.txns (apart_given id (Some (last r c)) c.snapshots (set_named id (last r c) c.snapshots) c.txns fresh.unbegun (λ q. find_named_set id q (last r c) c.snapshots fresh.none) (apart_swap c.txns c.snapshots h.ids_apart));
})

-- one name more stands for the new id
pub names_snapshot : {r : Rules} {c t : State} {id : List ℕ} {n : ℕ} (name : List ℕ) (names shown more : Names) → FreshSnapshot r c t id n → find_named name names ≡ None →
    ((q : List ℕ) → find_named q more ≡ cond (bytes_eq name q) (Some id) (find_named q shown)) → NamesStand names shown c.txns c.snapshots → NamesStand names more t.txns t.snapshots
names_snapshot {r} {c} {t} {id} {n} name names shown more fresh gone updates h = subst (λ (s : State). NamesStand names more s.txns s.snapshots) (sym fresh.is) (record {
  transactions = h.transactions;
  shown = names_given name id (last r c) shown more c.snapshots fresh.none h.shown updates;
  names_apart = apart_swap more names (apart_given name (Some id) shown more names gone updates (apart_swap names shown h.names_apart));
  ids_apart = apart_swap _ c.txns (apart_given id (Some (last r c)) c.snapshots (set_named id (last r c) c.snapshots) c.txns fresh.unbegun (λ q. find_named_set id q (last r c) c.snapshots fresh.none) (apart_swap c.txns c.snapshots h.ids_apart));
})

-- ---- a rollback that is answered

closes : (r : Rules) (c t : State) (id : List ℕ) → step r c (lines.Rollback id) ≡ (t, replies.Done) → t ≡ closed c id
closes r c t id h = by (is_open c id) h
  where
    clash : (e : _) → replies.Refused e ≡ replies.Done → ⊥
    clash e h = cc

    by : (b : Bool) → ◌≡◌ {A = State × Reply} (cond b (closed c id, replies.Done) (c, replies.Refused (errors.UnknownTransaction id))) (t, replies.Done) → t ≡ closed c id
    by true h = sym (ap (λ p. p.0) h)
    by false h = absurd (clash _ (ap (λ p. p.1) h))

-- of a transaction: no snapshot has its id
pub closes_txn : {names shown : Names} (r : Rules) (c t : State) (name id : List ℕ) → step r c (lines.Rollback id) ≡ (t, replies.Done) → NamesStand names shown c.txns c.snapshots → find_named name names ≡ Some id →
    t ≡ record c { txns = without id c.txns }
closes_txn r c t name id h stand known =
    closes r c t id h
    ∙ ap (λ ss. record c { txns = without id c.txns; snapshots = ss }) (without_none id c.snapshots (apart_first c.txns c.snapshots id stand.ids_apart (stand.transactions.opened name id known)))

-- of a snapshot: no transaction has its id
pub closes_snapshot : {names shown : Names} (r : Rules) (c t : State) (name id : List ℕ) → step r c (lines.Rollback id) ≡ (t, replies.Done) → NamesStand names shown c.txns c.snapshots → find_named name shown ≡ Some id →
    t ≡ record c { snapshots = without id c.snapshots }
closes_snapshot r c t name id h stand known =
    closes r c t id h
    ∙ ap (λ ts. record c { txns = ts; snapshots = without id c.snapshots }) (without_none id c.txns (apart_last c.txns c.snapshots id stand.ids_apart (stand.shown.opened name id known)))

pub names_closed : (name id : List ℕ) (names fewer shown : Names) (txns : List (List ℕ × Tx)) (snapshots : List (List ℕ × ℕ)) → NamesStand names shown txns snapshots → find_named name names ≡ Some id →
    ((q : List ℕ) → find_named q fewer ≡ cond (bytes_eq name q) None (find_named q names)) → NamesStand fewer shown (without id txns) snapshots
names_closed name id names fewer shown txns snapshots h is updates = record {
  transactions = names_taken name id names fewer txns h.transactions is updates;
  shown = h.shown;
  names_apart = apart_taken name names fewer shown updates h.names_apart;
  ids_apart = apart_taken id txns (without id txns) snapshots (λ q. find_named_without id q txns h.transactions.once) h.ids_apart;
}

pub names_released : (name id : List ℕ) (names shown fewer : Names) (txns : List (List ℕ × Tx)) (snapshots : List (List ℕ × ℕ)) → NamesStand names shown txns snapshots → find_named name shown ≡ Some id →
    ((q : List ℕ) → find_named q fewer ≡ cond (bytes_eq name q) None (find_named q shown)) → NamesStand names fewer txns (without id snapshots)
names_released name id names shown fewer txns snapshots h is updates = record {
  transactions = h.transactions;
  shown = names_taken name id shown fewer snapshots h.shown is updates;
  names_apart = apart_swap fewer names (apart_taken name shown fewer names updates (apart_swap names shown h.names_apart));
  ids_apart = apart_swap (without id snapshots) txns (apart_taken id snapshots (without id snapshots) txns (λ q. find_named_without id q snapshots h.shown.once) (apart_swap txns snapshots h.ids_apart));
}

-- ---- a change of a transaction

pub names_updated : (id : List ℕ) (f : Tx → Tx) (names shown : Names) (txns : List (List ℕ × Tx)) (snapshots : List (List ℕ × ℕ)) → NamesStand names shown txns snapshots → NamesStand names shown (update_named id f txns) snapshots
names_updated id f names shown txns snapshots h = record {
  transactions = names_changed id f names txns h.transactions;
  shown = h.shown;
  names_apart = h.names_apart;
  ids_apart = apart_changed id f txns snapshots h.ids_apart;
}

pub names_ran : {T : Type 0} (ran : Result T SlateDBError) (old new : CoreModel) (id : List ℕ) (f : Tx → Tx) (names shown : Names) → OnOk ran (new ≡ operated old id f) → OnErr ran (new ≡ old) →
    NamesStand names shown old.state.txns old.state.snapshots → NamesStand names shown new.state.txns new.state.snapshots
names_ran (Ok t) old new id f names shown is same h = subst (λ (c : CoreModel). NamesStand names shown c.state.txns c.state.snapshots) (sym is) (names_updated id f names shown old.state.txns old.state.snapshots h)
names_ran (Err x) old new id f names shown is same h = subst (λ (c : CoreModel). NamesStand names shown c.state.txns c.state.snapshots) (sym same) h

-- ---- what is open stays as it is

pub names_same : (old new : CoreModel) (names shown : Names) → new.state.txns ≡ old.state.txns → new.state.snapshots ≡ old.state.snapshots →
    NamesStand names shown old.state.txns old.state.snapshots → NamesStand names shown new.state.txns new.state.snapshots
names_same old new names shown txns snapshots h = subst (λ ts. NamesStand names shown ts new.state.snapshots) (sym txns) (subst (λ ss. NamesStand names shown old.state.txns ss) (sym snapshots) h)
