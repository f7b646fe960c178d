-- Freezes and flushes change no other reply: of the state they change `flushed` alone, which no reply reads.
use Rattle.std.proofs.Common.{◌≡◌, ℕ, Bool, true, false, not, cond, List, [], ◌∷◌, filter, Option, Some, None, refl, sym, ap, ◌∙◌}
use Rattle.slate_types.specs.declared.error.SlateDBError.{SlateDBError}
use Rattle.slate_types.specs.declared.bytes_range.BytesRange.{BytesRange}
use Rattle.slate_types.specs.declared.iter.IterationOrder.{IterationOrder}
use Rattle.slate_types.specs.Keys.{range_of, prefix_subrange}
use Rattle.slate_mem.specs.declared.WriteOp.{WriteOp}
use Rattle.slate_mem.specs.declared.WriteOp.TheVariants as ops
use Rattle.slate_mem.specs.Batch.{Ops, batch_keys}
use Rattle.slate_txn.specs.declared.line.ScanStep.{ScanStep}
use Rattle.slate_txn.specs.declared.line.Line.{Line}
use Rattle.slate_txn.specs.declared.line.Line.TheVariants as lines
use Rattle.slate_txn.specs.Named.{find_named}
use Rattle.slate_txn.specs.State.{Rules, Tx, State, is_open}
use Rattle.slate_txn.specs.Conflict.{tracked_writes}
use Rattle.slate_mem.specs.Refusals.{first_refusal, op_refusal}
use Rattle.slate_txn.specs.Refusals.{operator_refusal, commit_refusal, write_refusal}
use Rattle.slate_txn.specs.Reply.{Reply, Committed, Written}
use Rattle.slate_txn.specs.Step.{step, answers, refused_or, of_open, closed, Reader, reader, get, scan, operate, change, as_commit, with_reply, commit}
use Rattle.slate_txn.specs.Laws.{is_storage, other_answers}

abbrev flushed_at : ℕ → State → State
flushed_at n s = record s { flushed = n }

-- the same reply, and states that differ in `flushed` alone
abbrev Alike : State × Reply → State × Reply → Type 0
Alike p q = (p.1 ≡ q.1) × (m : ℕ) × (p.0 ≡ flushed_at m q.0)

alike_refused_or : (e : Option SlateDBError) (n : ℕ) (s : State) (p q : State × Reply) → Alike p q → Alike (refused_or e (flushed_at n s) p) (refused_or e s q)
alike_refused_or None n s p q h = h
alike_refused_or (Some e) n s p q h = (refl, n, refl)

alike_cond : (b : Bool) (p q p' q' : State × Reply) → Alike p q → Alike p' q' → Alike (cond b p p') (cond b q q')
alike_cond true p q p' q' h k = h
alike_cond false p q p' q' h k = k

alike_of_open : (n : ℕ) (s : State) (name : List ℕ) (t : Option Tx) (f g : Tx → State × Reply) → ((u : Tx) → Alike (f u) (g u)) → Alike (of_open (flushed_at n s) name t f) (of_open s name t g)
alike_of_open n s name None f g h = (refl, n, refl)
alike_of_open n s name (Some u) f g h = h u

alike_get : (r : Rules) (n : ℕ) (s : State) (name k : List ℕ) (from : Option Reader) → Alike (get r (flushed_at n s) name k from) (get r s name k from)
alike_get r n s name k None = (refl, n, refl)
alike_get r n s name k (Some from) = (refl, n, refl)

alike_scan : (r : Rules) (n : ℕ) (s : State) (name : List ℕ) (order : IterationOrder) (range : Option BytesRange) (sts : List ScanStep) (from : Option Reader) →
    Alike (scan r (flushed_at n s) name order range sts from) (scan r s name order range sts from)
alike_scan r n s name order range sts None = (refl, n, refl)
alike_scan r n s name order None sts (Some from) = (refl, n, refl)
alike_scan r n s name order (Some range) sts (Some from) = (refl, n, refl)

alike_taken : (r : Rules) (n : ℕ) (s : State) (made : Option ℕ → Reply) (os : Ops) (tracked : List (List ℕ)) → Alike (with_reply made (as_commit r (flushed_at n s) os tracked)) (with_reply made (as_commit r s os tracked))
alike_taken r n s made [] tracked = (refl, n, refl)
alike_taken r n s made (o ∷ os) tracked = (refl, n, refl)

alike_commit : (r : Rules) (n : ℕ) (s : State) (name : List ℕ) (t : Tx) → Alike (commit r (flushed_at n s) name t) (commit r s name t)
alike_commit r n s name t =
    alike_refused_or (commit_refusal r s t) n (closed s name) (with_reply Committed (as_commit r (closed (flushed_at n s) name) t.ops (tracked_writes t)))
    (with_reply Committed (as_commit r (closed s name) t.ops (tracked_writes t))) (alike_taken r n (closed s name) Committed t.ops (tracked_writes t))

alike_operate : (n : ℕ) (s : State) (name k : List ℕ) (op : WriteOp) (e : Option SlateDBError) (t : Option Tx) → Alike (operate (flushed_at n s) name k op e t) (operate s name k op e t)
alike_operate n s name k op e None = (refl, n, refl)
alike_operate n s name k op None (Some t) = (refl, n, refl)
alike_operate n s name k op (Some e) (Some t) = (refl, n, refl)

alike_change : (n : ℕ) (s : State) (name : List ℕ) (f : Tx → Tx) (t : Option Tx) → Alike (change (flushed_at n s) name f t) (change s name f t)
alike_change n s name f None = (refl, n, refl)
alike_change n s name f (Some t) = (refl, n, refl)

alike_step : (r : Rules) (n : ℕ) (s : State) (l : Line) → Alike (step r (flushed_at n s) l) (step r s l)
alike_step r n s (lines.Now m) = (refl, n, refl)
alike_step r n s (lines.Begin name level) = alike_cond (is_open s name) _ _ _ _ (refl, n, refl) (refl, n, refl)
alike_step r n s (lines.Snapshot name) = alike_cond (is_open s name) _ _ _ _ (refl, n, refl) (refl, n, refl)
alike_step r n s (lines.Get name k) = alike_get r n s name k (reader s name)
alike_step r n s (lines.Scan name order start end sts) = alike_scan r n s name order (range_of start end) sts (reader s name)
alike_step r n s (lines.Prefix name order p start end sts) = alike_scan r n s name order (prefix_subrange p start end) sts (reader s name)
alike_step r n s (lines.Put name k v ttl) = alike_operate n s name k _ (op_refusal k (ops.Put v (record { ttl = ttl }))) (find_named name s.txns)
alike_step r n s (lines.Merge name k v ttl) = alike_operate n s name k _ (first_refusal (operator_refusal r ∷ op_refusal k (ops.Merge v (record { ttl = ttl })) ∷ [])) (find_named name s.txns)
alike_step r n s (lines.Delete name k) = alike_operate n s name k _ (op_refusal k ops.Delete) (find_named name s.txns)
alike_step r n s (lines.Mark name ks) = alike_change n s name _ (find_named name s.txns)
alike_step r n s (lines.Unmark name ks) = alike_change n s name _ (find_named name s.txns)
alike_step r n s (lines.Commit name) = alike_of_open n s name (find_named name s.txns) (commit r (flushed_at n s) name) (commit r s name) (alike_commit r n s name)
alike_step r n s (lines.Rollback name) = alike_cond (is_open s name) _ _ _ _ (refl, n, refl) (refl, n, refl)
alike_step r n s (lines.Write batch) =
    alike_refused_or (write_refusal r s batch) n s (with_reply Written (as_commit r (flushed_at n s) batch (batch_keys batch))) (with_reply Written (as_commit r s batch (batch_keys batch)))
    (alike_taken r n s Written batch (batch_keys batch))
alike_step r n s lines.Freeze = (refl, n, refl)
alike_step r n s lines.Flush = (refl, (step r s lines.Flush).0.flushed, refl)
alike_step r n s lines.Journal = (refl, n, refl)

-- the replies do not read `flushed`
answers_alike : (r : Rules) (ls : List Line) (n : ℕ) (s : State) → answers r (flushed_at n s) ls ≡ answers r s ls
answers_alike r [] n s = refl
answers_alike r (l ∷ ls) n s =
    let one = alike_step r n s l in
    (λ i. one.0 i ∷ answers r (one.2 i) ls) ∙ ap (λ rest. (step r s l).1 ∷ rest) (answers_alike r ls one.1 (step r s l).0)

pub storage_is_silent : (r : Rules) (s : State) (ls : List Line) → answers r s (filter (λ l. not (is_storage l)) ls) ≡ other_answers r s ls
storage_is_silent r s [] = refl
storage_is_silent r s (l ∷ ls) = by l (λ t. storage_is_silent r t ls)
  where
    others : List Line
    others = filter (λ l. not (is_storage l)) ls

    by : (l : Line) → ((t : State) → answers r t others ≡ other_answers r t ls) → answers r s (filter (λ l. not (is_storage l)) (l ∷ ls)) ≡ other_answers r s (l ∷ ls)
    by lines.Freeze later = later s
    by lines.Flush later = sym (answers_alike r others (step r s lines.Flush).0.flushed s) ∙ later (step r s lines.Flush).0
    by l later = ap (λ rest. (step r s l).1 ∷ rest) (later (step r s l).0)
