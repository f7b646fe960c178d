-- The events of lines are legal where no name is used twice.
use Rattle.std.proofs.Common.{◌≡◌, ℕ, ◌+◌, ◌≤◌, Bool, true, false, cond, ◌&&◌, ◌||◌, is_some, nat_lt, List, [], ◌∷◌, ◌++◌, map, filter, bytes_eq, Option, Some, None, IsNone, IsSome, option_map, refl, sym, ap, subst, ◌∙◌, not, ◌<◌, length, inl, arith}
use Rattle.std.specs.List.{list_any}
use Rattle.slate_types.specs.declared.config.IsolationLevel.{IsolationLevel}
use Rattle.slate_types.specs.declared.error.SlateDBError.{SlateDBError}
use Rattle.slate_types.specs.declared.error.SlateDBError.TheVariants as errors
use Rattle.slate_types.specs.declared.types.Ulid.{Ulid}
use Rattle.slate_types.specs.Keys.{among}
use Rattle.slate_mem.specs.Batch.{Ops, batch_keys, kept_ops}
use Rattle.slate_txn.specs.declared.event.Event.{Event}
use Rattle.slate_txn.specs.declared.line.Line.{Line}
use Rattle.slate_txn.specs.declared.line.Line.TheVariants as lines
use Rattle.slate_txn.specs.Named.{find_named}
use Rattle.slate_txn.specs.State.{Rules, Commit, Tx, State, last, last_of, is_open, NamesStandOnce, opening}
use Rattle.slate_txn.specs.Tracking.{Reading, is_read}
use Rattle.slate_txn.specs.Conflict.{tracked_writes, reads, meets, with_greatest, greatest, conflict}
use Rattle.slate_mem.specs.Refusals.{first_refusal}
use Rattle.slate_txn.specs.Refusals.{commit_refusal, write_refusal}
use Rattle.slate_txn.specs.Reply.{Committed, Written}
use Rattle.slate_txn.specs.Step.{step, refused_or, of_open, closed, as_commit, with_reply, commit}
use Rattle.slate_txn.specs.Replay.{apply, apply_all, LegalFrom, NewIds, ids_of, HasNoConflict, AreKeysOf}
use Rattle.slate_txn.specs.Events.{bare, bare_txns, as_replayed, commit_events, rollback_events, write_events, line_events, all_events}
use Rattle.slate_txn.specs.Laws.{EventsAreLegal, FewerKeysFewerConflicts}
use Rattle.slate_mem.proofs.BatchLaws.{keeps_each_once}
use Rattle.slate_txn.proofs.BatchKeys.{some_length, some_kept}
use Rattle.slate_txn.proofs.MadeLaws.{keys_of_kept}
use Rattle.slate_txn.proofs.StepLaws.{Keeps, step_keeps}
use Rattle.slate_txn.proofs.NameLaws.{names}
use Rattle.slate_txn.proofs.EventLaws.{begun_at, opened_at, rolled_back, agrees_step}
use Rattle.std.proofs.lemmas.List.Folds.{list_any-append}
use Rattle.std.proofs.Math.Nat.{le_refl}

-- ---- fewer keys meet fewer commits

-- where the longer test fails so does the shorter
fewer_test : (a b c : Bool) → ((a || b) || c) ≡ false → (a || c) ≡ false
fewer_test true b c h = h
fewer_test false true c h = cc
fewer_test false false c h = h

or_left : (a b : Bool) → (a || b) ≡ false → a ≡ false
or_left true b h = h
or_left false b h = refl

or_right : (a b : Bool) → (a || b) ≡ false → b ≡ false
or_right true b h = cc
or_right false b h = h

fewer_any : (keys more : List (List ℕ)) (read : Reading) (ks : List (List ℕ)) → list_any (λ k. among k (keys ++ more) || is_read read k) ks ≡ false → list_any (λ k. among k keys || is_read read k) ks ≡ false
fewer_any keys more read [] h = refl
fewer_any keys more read (k ∷ ks) h =
    let here : (among k (keys ++ more) || is_read read k) ≡ false = or_left (among k (keys ++ more) || is_read read k) (list_any (λ k. among k (keys ++ more) || is_read read k) ks) h in
    let there : list_any (λ k. among k (keys ++ more) || is_read read k) ks ≡ false = or_right (among k (keys ++ more) || is_read read k) (list_any (λ k. among k (keys ++ more) || is_read read k) ks) h in
    let fewer : (among k keys || is_read read k) ≡ false = fewer_test (among k keys) (among k more) (is_read read k) (ap (λ b. b || is_read read k) (sym (list_any-append (λ x. bytes_eq x k) keys more)) ∙ here) in
    ap (λ b. b || list_any (λ k. among k keys || is_read read k) ks) fewer ∙ fewer_any keys more read ks there

some_greatest : (n : ℕ) (ns : List ℕ) → greatest (n ∷ ns) ≡ None → ⊥
some_greatest n ns h = by (greatest ns) h
  where
    by : (o : Option ℕ) → with_greatest n o ≡ None → ⊥
    by None e = cc
    by (Some m) e = cc

pub fewer_keys : FewerKeysFewerConflicts
fewer_keys [] begin keys more read h = refl
fewer_keys (c ∷ cs) begin keys more read h = by (nat_lt begin c.seq) (meets (keys ++ more) read c) refl h (fewer_keys cs begin keys more read)
  where
    wide : List Commit
    wide = filter (λ c. nat_lt begin c.seq && meets (keys ++ more) read c) cs

    slim : List Commit
    slim = filter (λ c. nat_lt begin c.seq && meets keys read c) cs

    by : (b m : Bool) → meets (keys ++ more) read c ≡ m → greatest (map (λ c. c.seq) (cond (b && m) (c ∷ wide) wide)) ≡ None →
        (greatest (map (λ c. c.seq) wide) ≡ None → greatest (map (λ c. c.seq) slim) ≡ None) → greatest (map (λ c. c.seq) (cond (b && meets keys read c) (c ∷ slim) slim)) ≡ None
    by false m e none later = later none
    by true true e none later = absurd (some_greatest c.seq (map (λ c. c.seq) wide) none)
    by true false e none later = ap (λ d. greatest (map (λ c. c.seq) (cond d (c ∷ slim) slim))) (fewer_any keys more read c.tracked e) ∙ later none

-- ---- names of bare transactions

find_bare : (name : List ℕ) (ps : List (List ℕ × Tx)) → find_named name (bare_txns ps) ≡ option_map bare (find_named name ps)
find_bare name [] = refl
find_bare name (p ∷ ps) = by (bytes_eq p.0 name) (find_bare name ps)
  where
    by : (b : Bool) → find_named name (bare_txns ps) ≡ option_map bare (find_named name ps) → cond b (Some (bare p.1)) (find_named name (bare_txns ps)) ≡ option_map bare (cond b (Some p.1) (find_named name ps))
    by true later = refl
    by false later = later

pub found_bare : (name : List ℕ) (s : State) (t : Tx) → find_named name s.txns ≡ Some t → find_named name (bare_txns s.txns) ≡ Some (bare t)
found_bare name s t e = find_bare name s.txns ∙ ap (option_map bare) e

is_found : {X : Type 0} (o : Option X) (x : X) → o ≡ Some x → IsSome o
is_found o x e = ap is_some e

-- ---- where the first refusal is none, there is no conflict

no_conflict : (o : Option ℕ) (es : List (Option SlateDBError)) → first_refusal (option_map errors.TransactionConflict o ∷ es) ≡ None → o ≡ None
no_conflict None es h = refl
no_conflict (Some n) es h = cc

-- ---- the last flush is at or below the last commit

last_more : (n : ℕ) (cs : List Commit) (c : Commit) → last_of n (cs ++ (c ∷ [])) ≡ c.seq
last_more n [] c = refl
last_more n (x ∷ xs) c = last_more x.seq xs c

abbrev IsBelow : Rules → State → Type 0
IsBelow r s = s.flushed ≤ last r s

zero_below : (n : ℕ) → 0 ≤ n
zero_below n = omega arith

is_none : {X : Type 0} (o : Option X) → o ≡ None → IsNone o
is_none o e = ap is_some e

le_more : (a b c : ℕ) → a ≤ b → c ≡ b + 1 → a ≤ c
le_more a b c h e = omega (arith, h, e)

below : (r : Rules) → Keeps r (IsBelow r)
below r = record {
  moment = λ s m h. h;
  flush = λ s h. le_refl (last r s);
  begin = λ s name level e h. h;
  snapshot = λ s name e h. h;
  changed = λ s name f g h. h;
  closes = λ s name h. h;
  commits = λ s o os tracked keys h. le_more s.flushed (last r s) _ h (last_more r.start_seq s.commits _);
}

-- ---- the events of one line

module _ (r : Rules) (tables : List (Ulid × List ℕ)) (s : State) (once : NamesStandOnce s) (low : IsBelow r s) (used : List (List ℕ)) where
  abbrev Legal : List Event → Type 0
  Legal es = NewIds used es → LegalFrom r.start_seq (as_replayed s) used es

  -- a commit that is not refused is allowed
  legal_commit : (name : List ℕ) (t : Tx) (os : Ops) → find_named name s.txns ≡ Some t → conflict s.commits (record t { ops = os }) ≡ None →
      Legal (commit_events name s.now (Some (record t { ops = os })) (with_reply Committed (as_commit r (closed s name) os (tracked_writes (record t { ops = os })))).1)
  legal_commit name t os e none ids = by os refl
    where
      own : Tx
      own = record t { ops = os }

      free : HasNoConflict (as_replayed s) (find_named name (bare_txns s.txns)) (tracked_writes own) t.transcript
      free =
          subst (λ o. HasNoConflict (as_replayed s) o (tracked_writes own) t.transcript) (sym (found_bare name s t e))
          (is_none _ (fewer_keys s.commits t.begin (tracked_writes own) t.marked (reads own) none))

      found : IsSome (find_named name (bare_txns s.txns))
      found = is_found (find_named name (bare_txns s.txns)) (bare t) (found_bare name s t e)

      keys : AreKeysOf (kept_ops os) (tracked_writes own)
      keys = keys_of_kept os (tracked_writes own) ((λ k. not (among k t.unmarked)), refl)

      by : (ps : Ops) → ps ≡ os → LegalFrom r.start_seq (as_replayed s) used (commit_events name s.now (Some own) (with_reply Committed (as_commit r (closed s name) ps (tracked_writes own))).1)
      by [] same = ((found, ap kept_ops (sym same), keeps_each_once os, keys, free), tt)
      by (p ∷ ps) same = ((found, (refl, subst (λ qs. 0 < length (kept_ops qs)) same (some_length (kept_ops (p ∷ ps)) (some_kept p ps))), keeps_each_once os, keys, free), tt)

  legal_committed : (name : List ℕ) (t : Tx) (e : Option SlateDBError) → find_named name s.txns ≡ Some t → (e ≡ None → conflict s.commits t ≡ None) →
      Legal (commit_events name s.now (Some t) (refused_or e (closed s name) (with_reply Committed (as_commit r (closed s name) t.ops (tracked_writes t)))).1)
  legal_committed name t None d none ids = legal_commit name t t.ops d (none refl) ids
  legal_committed name t (Some e) d none ids = (is_found (find_named name (bare_txns s.txns)) (bare t) (found_bare name s t d), tt)

  legal_of_open : (name : List ℕ) (t : Option Tx) → find_named name s.txns ≡ t → Legal (commit_events name s.now t (of_open s name t (commit r s name)).1)
  legal_of_open name None e ids = tt
  legal_of_open name (Some t) e ids = legal_committed name t (commit_refusal r s t) e (no_conflict (conflict s.commits t) _) ids

  legal_rollback : (name : List ℕ) (t : Option Tx) (n : Option ℕ) → find_named name s.txns ≡ t → find_named name s.snapshots ≡ n →
      Legal (rollback_events name t (rolled_back r tables s once name t n).1)
  legal_rollback name (Some t) n e d ids = (is_found (find_named name (bare_txns s.txns)) (bare t) (found_bare name s t e), tt)
  legal_rollback name None (Some n) e d ids = (is_found (find_named name s.snapshots) n d, tt)
  legal_rollback name None None e d ids = tt

  legal_write : (os : Ops) (e : Option SlateDBError) → Legal (write_events s.now os (refused_or e s (with_reply Written (as_commit r s os (batch_keys os)))).1)
  legal_write os (Some e) ids = tt
  legal_write [] None ids = tt
  legal_write (o ∷ os) None ids = (((refl, some_length (kept_ops (o ∷ os)) (some_kept o os)), keeps_each_once (o ∷ os)), tt)

  legal_begin : (name : List ℕ) (level : IsolationLevel) (b : Bool) → Legal (line_events tables s (lines.Begin name level) (begun_at r tables s once name level b).1)
  legal_begin name level true ids = tt
  legal_begin name level false ids = ((ids.0.0, refl), tt)

  legal_snapshot : (name : List ℕ) (b : Bool) → Legal (line_events tables s (lines.Snapshot name) (opened_at r tables s once name b).1)
  legal_snapshot name true ids = tt
  legal_snapshot name false ids = ((ids.0.0, refl), tt)

  legal_step : (l : Line) → Legal (line_events tables s l (step r s l).1)
  legal_step (lines.Now m) ids = tt
  legal_step (lines.Begin name level) ids = legal_begin name level (is_open s name) ids
  legal_step (lines.Snapshot name) ids = legal_snapshot name (is_open s name) ids
  legal_step (lines.Get name k) ids = tt
  legal_step (lines.Scan name order start end sts) ids = tt
  legal_step (lines.Prefix name order p start end sts) ids = tt
  legal_step (lines.Put name k v ttl) ids = tt
  legal_step (lines.Merge name k v ttl) ids = tt
  legal_step (lines.Delete name k) ids = tt
  legal_step (lines.Mark name ks) ids = tt
  legal_step (lines.Unmark name ks) ids = tt
  legal_step (lines.Commit name) ids = legal_of_open name (find_named name s.txns) refl ids
  legal_step (lines.Rollback name) ids = legal_rollback name (find_named name s.txns) (find_named name s.snapshots) refl refl ids
  legal_step (lines.Write batch) ids = legal_write batch (write_refusal r s batch) ids
  legal_step lines.Freeze ids = (tt, tt)
  legal_step lines.Flush ids = (tt, ((low, le_refl (last r s)), tt))
  legal_step lines.Journal ids = tt

-- ---- all lines

-- the ids that are used after events
abbrev used_after : List (List ℕ) → List Event → List (List ℕ)
used_after used [] = used
used_after used (e ∷ es) = used_after (ids_of e ++ used) es

legal_more : (n0 : ℕ) (s : State) (used : List (List ℕ)) (es more : List Event) → LegalFrom n0 s used es → LegalFrom n0 (apply_all s es) (used_after used es) more → LegalFrom n0 s used (es ++ more)
legal_more n0 s used [] more h m = m
legal_more n0 s used (e ∷ es) more h m = (h.0, legal_more n0 (apply s e) (ids_of e ++ used) es more h.1 m)

new_front : (used : List (List ℕ)) (es more : List Event) → NewIds used (es ++ more) → NewIds used es
new_front used [] more h = tt
new_front used (e ∷ es) more h = (h.0, new_front (ids_of e ++ used) es more h.1)

new_rest : (used : List (List ℕ)) (es more : List Event) → NewIds used (es ++ more) → NewIds (used_after used es) more
new_rest used [] more h = h
new_rest used (e ∷ es) more h = new_rest (ids_of e ++ used) es more h.1

legal_after : (r : Rules) (tables : List (Ulid × List ℕ)) (ls : List Line) (s : State) (used : List (List ℕ)) → NamesStandOnce s → IsBelow r s → NewIds used (all_events r tables s ls) → LegalFrom r.start_seq (as_replayed s) used (all_events r tables s ls)
legal_after r tables [] s used once low ids = tt
legal_after r tables (l ∷ ls) s used once low ids =
    let here : List Event = line_events tables s l (step r s l).1 in
    let rest : List Event = all_events r tables (step r s l).0 ls in
    legal_more r.start_seq (as_replayed s) used here rest (legal_step r tables s once low used l (new_front used here rest ids))
    (subst (λ t. LegalFrom r.start_seq t (used_after used here) rest) (sym (agrees_step r tables s once l))
    (legal_after r tables ls (step r s l).0 (used_after used here) (step_keeps r NamesStandOnce (names r) s l once) (step_keeps r (IsBelow r) (below r) s l low) (new_rest used here rest ids)))

pub events_are_legal : EventsAreLegal
events_are_legal r tables ls ids = legal_after r tables ls opening [] (tt, tt, λ k. inl refl) (zero_below r.start_seq) ids
