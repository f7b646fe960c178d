-- The replay of the events that lines add is what the journal knows of the state after the lines.
use Rattle.std.proofs.Common.{◌≡◌, ℕ, ◌+◌, Bool, true, false, cond, ◌||◌, is_some, List, [], ◌∷◌, ◌++◌, bytes_eq, Option, Some, None, refl, ap, ◌∙◌, inl, inr, pos, append-nil}
use Rattle.slate_types.specs.declared.config.IsolationLevel.{IsolationLevel}
use Rattle.slate_types.specs.declared.error.SlateDBError.{SlateDBError}
use Rattle.slate_types.specs.declared.error.SlateDBError.TheVariants.{UnknownTransaction, DuplicateTransaction}
use Rattle.slate_types.specs.declared.types.Ulid.{Ulid}
use Rattle.slate_types.specs.declared.bytes_range.BytesRange.{BytesRange}
use Rattle.slate_types.specs.declared.iter.IterationOrder.{IterationOrder}
use Rattle.slate_types.specs.Keys.{range_of, prefix_subrange}
use Rattle.slate_mem.specs.declared.WriteOp.{WriteOp}
use Rattle.slate_mem.specs.declared.WriteOp.TheVariants as ops
use Rattle.slate_mem.specs.Batch.{Ops, batch_keys, kept_ops}
use Rattle.slate_txn.specs.declared.event.Event.{Event}
use Rattle.slate_txn.specs.declared.event.Event.TheVariants as events
use Rattle.slate_txn.specs.declared.line.ScanStep.{ScanStep}
use Rattle.slate_txn.specs.declared.line.Line.{Line}
use Rattle.slate_txn.specs.declared.line.Line.TheVariants as lines
use Rattle.slate_txn.specs.Named.{find_named, without, set_named, update_named}
use Rattle.slate_txn.specs.State.{Rules, Tx, State, begun, last, is_open, NamesStandOnce, IsApart}
use Rattle.slate_txn.specs.Conflict.{tracked_writes}
use Rattle.slate_mem.specs.Refusals.{first_refusal, op_refusal}
use Rattle.slate_txn.specs.Refusals.{operator_refusal, commit_refusal, write_refusal}
use Rattle.slate_txn.specs.Reply.{Reply, Done, Refused, Begun, SnapshotAt, Committed, Written}
use Rattle.slate_txn.specs.Step.{step, after, refused_or, of_open, closed, Reader, reader, get, scan, operate, change, as_commit, with_reply, commit}
use Rattle.slate_txn.specs.Replay.{apply, apply_all}
use Rattle.slate_txn.specs.Events.{bare, bare_txns, as_replayed, commit_events, rollback_events, write_events, line_events, all_events}
use Rattle.slate_mem.proofs.BatchLaws.{keeps_its_keys}
use Rattle.slate_txn.proofs.StepLaws.{step_keeps}
use Rattle.slate_txn.proofs.NameLaws.{names}

-- ---- names of bare transactions

bare_set : (name : List ℕ) (t : Tx) (ps : List (List ℕ × Tx)) → set_named name (bare t) (bare_txns ps) ≡ bare_txns (set_named name t ps)
bare_set name t [] = refl
bare_set name t (p ∷ ps) = ap (λ qs. (p.0, bare p.1) ∷ qs) (bare_set name t ps)

bare_without : (name : List ℕ) (ps : List (List ℕ × Tx)) → without name (bare_txns ps) ≡ bare_txns (without name ps)
bare_without name [] = refl
bare_without name (p ∷ ps) = by (bytes_eq p.0 name) (bare_without name ps)
  where
    by : (b : Bool) → without name (bare_txns ps) ≡ bare_txns (without name ps) → cond b (bare_txns ps) ((p.0, bare p.1) ∷ without name (bare_txns ps)) ≡ bare_txns (cond b ps (p ∷ without name ps))
    by true later = refl
    by false later = ap (λ qs. (p.0, bare p.1) ∷ qs) later

bare_update : (name : List ℕ) (f : Tx → Tx) (ps : List (List ℕ × Tx)) → ((t : Tx) → bare t ≡ bare (f t)) → bare_txns ps ≡ bare_txns (update_named name f ps)
bare_update name f [] e = refl
bare_update name f (p ∷ ps) e = by (bytes_eq p.0 name) (bare_update name f ps e)
  where
    by : (b : Bool) → bare_txns ps ≡ bare_txns (update_named name f ps) → bare_txns (p ∷ ps) ≡ bare_txns (cond b ((p.0, f p.1) ∷ ps) (p ∷ update_named name f ps))
    by true later = ap (λ t. (p.0, t) ∷ bare_txns ps) (e p.1)
    by false later = ap (λ qs. (p.0, bare p.1) ∷ qs) later

-- what is not there is not taken out
without_none : {X : Type 0} (name : List ℕ) (ps : List (List ℕ × X)) → find_named name ps ≡ None → ps ≡ without name ps
without_none name [] h = refl
without_none name (p ∷ ps) h = by (bytes_eq p.0 name) h (without_none name ps)
  where
    by : (b : Bool) → cond b (Some p.1) (find_named name ps) ≡ None → (find_named name ps ≡ None → ps ≡ without name ps) → p ∷ ps ≡ cond b ps (p ∷ without name ps)
    by true e later = cc
    by false e later = ap (λ qs. p ∷ qs) (later e)

-- a transaction's name is no snapshot's
no_snapshot : (s : State) (name : List ℕ) (t : Tx) → find_named name s.txns ≡ Some t → IsApart s name → find_named name s.snapshots ≡ None
no_snapshot s name t e (inl none) = cc
no_snapshot s name t e (inr none) = none

-- ---- one line

module _ (r : Rules) (tables : List (Ulid × List ℕ)) (s : State) (h : NamesStandOnce s) where
  abbrev Agrees : List Event → State → Type 0
  Agrees es t = apply_all (as_replayed s) es ≡ as_replayed t

  -- only parts of transactions that a journal leaves out are changed
  agrees_update : (name : List ℕ) (f : Tx → Tx) → ((t : Tx) → bare t ≡ bare (f t)) → Agrees [] (record s { txns = update_named name f s.txns })
  agrees_update name f e = ap (λ ps. record s { txns = ps; now = pos 0 }) (bare_update name f s.txns e)

  agrees_get : (name k : List ℕ) (from : Option Reader) → Agrees [] (get r s name k from).0
  agrees_get name k None = refl
  agrees_get name k (Some from) = agrees_update name _ (λ t. refl)

  agrees_scan : (name : List ℕ) (order : IterationOrder) (range : Option BytesRange) (sts : List ScanStep) (from : Option Reader) → Agrees [] (scan r s name order range sts from).0
  agrees_scan name order range sts None = refl
  agrees_scan name order None sts (Some from) = refl
  agrees_scan name order (Some range) sts (Some from) = agrees_update name _ (λ t. refl)

  agrees_operate : (name k : List ℕ) (op : WriteOp) (e : Option SlateDBError) (t : Option Tx) → Agrees [] (operate s name k op e t).0
  agrees_operate name k op e None = refl
  agrees_operate name k op None (Some t) = agrees_update name _ (λ t. refl)
  agrees_operate name k op (Some e) (Some t) = refl

  agrees_change : (name : List ℕ) (f : Tx → Tx) (t : Option Tx) → ((t : Tx) → bare t ≡ bare (f t)) → Agrees [] (change s name f t).0
  agrees_change name f None e = refl
  agrees_change name f (Some t) e = agrees_update name f e

  -- the transaction is taken out, and there is no snapshot to take out
  agrees_end : (name : List ℕ) (t : Tx) → find_named name s.txns ≡ Some t → Agrees (events.End name ∷ []) (closed s name)
  agrees_end name t e =
      let shots : s.snapshots ≡ without name s.snapshots = without_none name s.snapshots (no_snapshot s name t e (h.2 name)) in
      λ i. record s { txns = bare_without name s.txns i; snapshots = shots i; now = pos 0 }

  agrees_commit : (name : List ℕ) (t : Tx) (os : Ops) → find_named name s.txns ≡ Some t →
      Agrees (commit_events name s.now (Some (record t { ops = os })) (with_reply Committed (as_commit r (closed s name) os (tracked_writes (record t { ops = os })))).1)
      (with_reply Committed (as_commit r (closed s name) os (tracked_writes (record t { ops = os })))).0
  agrees_commit name t [] e =
      let shots : s.snapshots ≡ without name s.snapshots = without_none name s.snapshots (no_snapshot s name t e (h.2 name)) in
      λ i. record s { commits = append-nil s.commits i; txns = bare_without name s.txns i; snapshots = shots i; now = pos 0 }
  agrees_commit name t (o ∷ os) e =
      let shots : s.snapshots ≡ without name s.snapshots = without_none name s.snapshots (no_snapshot s name t e (h.2 name)) in
      λ i. record s {
        commits = s.commits ++ (record { seq = last r s + 1; now = s.now; ops = kept_ops (o ∷ os); tracked = tracked_writes (record t { ops = o ∷ os }) } ∷ []);
        txns = bare_without name s.txns i;
        snapshots = shots i;
        now = pos 0;
      }

  agrees_committed : (name : List ℕ) (t : Tx) (e : Option SlateDBError) → find_named name s.txns ≡ Some t →
      Agrees (commit_events name s.now (Some t) (refused_or e (closed s name) (with_reply Committed (as_commit r (closed s name) t.ops (tracked_writes t)))).1)
      (refused_or e (closed s name) (with_reply Committed (as_commit r (closed s name) t.ops (tracked_writes t)))).0
  agrees_committed name t None d = agrees_commit name t t.ops d
  agrees_committed name t (Some e) d = agrees_end name t d

  agrees_of_open : (name : List ℕ) (t : Option Tx) → find_named name s.txns ≡ t → Agrees (commit_events name s.now t (of_open s name t (commit r s name)).1) (of_open s name t (commit r s name)).0
  agrees_of_open name None e = refl
  agrees_of_open name (Some t) e = agrees_committed name t (commit_refusal r s t) e

  abbrev pub rolled_back : List ℕ → Option Tx → Option ℕ → State × Reply
  rolled_back name t n = cond (is_some t || is_some n) (closed s name, Done) (s, Refused (UnknownTransaction name))

  agrees_rollback : (name : List ℕ) (t : Option Tx) (n : Option ℕ) → find_named name s.txns ≡ t → Agrees (rollback_events name t (rolled_back name t n).1) (rolled_back name t n).0
  agrees_rollback name (Some t) n e = agrees_end name t e
  agrees_rollback name None (Some n) e = λ i. record s { txns = bare_txns (without_none name s.txns e i); snapshots = without name s.snapshots; now = pos 0 }
  agrees_rollback name None None e = refl

  agrees_write : (os : Ops) (e : Option SlateDBError) → Agrees (write_events s.now os (refused_or e s (with_reply Written (as_commit r s os (batch_keys os)))).1) (refused_or e s (with_reply Written (as_commit r s os (batch_keys os)))).0
  agrees_write os (Some e) = refl
  agrees_write [] None = refl
  agrees_write (o ∷ os) None =
      λ i. record s {
        commits = s.commits ++ (record { seq = last r s + 1; now = s.now; ops = kept_ops (o ∷ os); tracked = keeps_its_keys (o ∷ os) i } ∷ []);
        txns = bare_txns s.txns;
        now = pos 0;
      }

  abbrev pub begun_at : List ℕ → IsolationLevel → Bool → State × Reply
  begun_at name level b = cond b (s, Refused (DuplicateTransaction name)) (record s { txns = set_named name (begun level (last r s)) s.txns }, Begun name (last r s))

  agrees_begin : (name : List ℕ) (level : IsolationLevel) (b : Bool) → Agrees (line_events tables s (lines.Begin name level) (begun_at name level b).1) (begun_at name level b).0
  agrees_begin name level true = refl
  agrees_begin name level false = ap (λ ps. record s { txns = ps; now = pos 0 }) (bare_set name (begun level (last r s)) s.txns)

  abbrev pub opened_at : List ℕ → Bool → State × Reply
  opened_at name b = cond b (s, Refused (DuplicateTransaction name)) (record s { snapshots = set_named name (last r s) s.snapshots }, SnapshotAt name (last r s))

  agrees_snapshot : (name : List ℕ) (b : Bool) → Agrees (line_events tables s (lines.Snapshot name) (opened_at name b).1) (opened_at name b).0
  agrees_snapshot name true = refl
  agrees_snapshot name false = refl

  pub agrees_step : (l : Line) → Agrees (line_events tables s l (step r s l).1) (step r s l).0
  agrees_step (lines.Now m) = refl
  agrees_step (lines.Begin name level) = agrees_begin name level (is_open s name)
  agrees_step (lines.Snapshot name) = agrees_snapshot name (is_open s name)
  agrees_step (lines.Get name k) = agrees_get name k (reader s name)
  agrees_step (lines.Scan name order start end sts) = agrees_scan name order (range_of start end) sts (reader s name)
  agrees_step (lines.Prefix name order p start end sts) = agrees_scan name order (prefix_subrange p start end) sts (reader s name)
  agrees_step (lines.Put name k v ttl) = agrees_operate name k _ (op_refusal k (ops.Put v (record { ttl = ttl }))) (find_named name s.txns)
  agrees_step (lines.Merge name k v ttl) = agrees_operate name k _ (first_refusal (operator_refusal r ∷ op_refusal k (ops.Merge v (record { ttl = ttl })) ∷ [])) (find_named name s.txns)
  agrees_step (lines.Delete name k) = agrees_operate name k _ (op_refusal k ops.Delete) (find_named name s.txns)
  agrees_step (lines.Mark name ks) = agrees_change name _ (find_named name s.txns) (λ t. refl)
  agrees_step (lines.Unmark name ks) = agrees_change name _ (find_named name s.txns) (λ t. refl)
  agrees_step (lines.Commit name) = agrees_of_open name (find_named name s.txns) refl
  agrees_step (lines.Rollback name) = agrees_rollback name (find_named name s.txns) (find_named name s.snapshots) refl
  agrees_step (lines.Write batch) = agrees_write batch (write_refusal r s batch)
  agrees_step lines.Freeze = refl
  agrees_step lines.Flush = refl
  agrees_step lines.Journal = refl

-- ---- all lines

apply_more : (s : State) (es more : List Event) → apply_all s (es ++ more) ≡ apply_all (apply_all s es) more
apply_more s [] more = refl
apply_more s (e ∷ es) more = apply_more (apply s e) es more

pub agrees_after : (r : Rules) (tables : List (Ulid × List ℕ)) (ls : List Line) (s : State) → NamesStandOnce s → apply_all (as_replayed s) (all_events r tables s ls) ≡ as_replayed (after r s ls)
agrees_after r tables [] s h = refl
agrees_after r tables (l ∷ ls) s h =
    apply_more (as_replayed s) (line_events tables s l (step r s l).1) (all_events r tables (step r s l).0 ls)
    ∙ ap (λ t. apply_all t (all_events r tables (step r s l).0 ls)) (agrees_step r tables s h l)
    ∙ agrees_after r tables ls (step r s l).0 (step_keeps r NamesStandOnce (names r) s l h)
