-- What each line keeps: a fact of states that each kind of change keeps is kept by each line. The steps that a read adds to a transcript are alone.
use Rattle.std.proofs.Common.{◌≡◌, ℕ, Bool, true, false, cond, not, List, [], ◌∷◌, Option, Some, None, refl, ℤ, filter, sym, ap, subst, ◌∙◌, slice_get, length, take, drop, ltb, is_some, option_map, zero, suc, append_assoc, append-nil, take-append-drop, drop_of_length-le, le_of_lt, ltb-true, count_by, ◌+◌, ◌++◌, length-append, add_assoc, zero-add, arith}
use Rattle.std.proofs.lemmas.Option.{same_Some}
use Rattle.std.proofs.lemmas.List.Sums.{sum_by-cons}
use Rattle.slate_types.specs.declared.config.IsolationLevel.{IsolationLevel}
use Rattle.slate_types.specs.declared.error.SlateDBError.{SlateDBError}
use Rattle.slate_types.specs.declared.error.SlateDBError.TheVariants.{UnknownTransaction, DuplicateTransaction}
use Rattle.slate_types.specs.declared.bytes_range.BytesRange.{BytesRange}
use Rattle.slate_types.specs.declared.iter.IterationOrder.{IterationOrder}
use Rattle.slate_types.specs.Keys.{among, range_of, prefix_subrange}
use Rattle.slate_mem.specs.declared.WriteOp.{WriteOp}
use Rattle.slate_mem.specs.declared.WriteOp.TheVariants as ops
use Rattle.slate_mem.specs.Batch.{Ops, batch_keys}
use Rattle.slate_txn.specs.declared.line.ScanStep.{ScanStep}
use Rattle.slate_txn.specs.declared.line.Line.{Line}
use Rattle.slate_txn.specs.declared.line.Line.TheVariants as lines
use Rattle.slate_txn.specs.Named.{find_named, set_named, update_named}
use Rattle.slate_txn.specs.State.{Rules, Commit, Tx, State, begun, last, is_open}
use Rattle.slate_txn.specs.Conflict.{tracked_writes}
use Rattle.slate_mem.specs.Refusals.{first_refusal, op_refusal}
use Rattle.slate_txn.specs.Refusals.{operator_refusal, commit_refusal, write_refusal}
use Rattle.slate_txn.specs.Reply.{Reply, Done, Refused, Committed, Written}
use Rattle.slate_txn.specs.Step.{step, after, refused_or, of_open, opens, closed, reader_or_snapshot, with_marks, with_unmarks, get, scan, operate, change, with_commit, with_op, is_scan, as_commit, with_reply, commit}
use Rattle.slate_txn.specs.Replay.{AreKeysOf}
use Rattle.slate_types.specs.declared.types.RowEntry.{RowEntry}
use Rattle.slate_types.specs.Rows.{key_value}
use Rattle.slate_txn.specs.declared.event.TranscriptStep.{TranscriptStep}
use Rattle.slate_txn.specs.declared.event.TranscriptStep.TheVariants as steps
use Rattle.slate_txn.specs.declared.line.ScanStep.TheVariants.{Rows, Seek}
use Rattle.slate_txn.specs.Tracking.{update_at}
use Rattle.slate_types.specs.Iteration.{drop_before}
use Rattle.slate_txn.specs.Reads.{seen, rows_seen, nexts, step_walk, steps_walk, walk}
use Rattle.slate_txn.specs.Alone.{Left, AloneFrom, IsNextOf, own_of, advanced, sought, scans_after, scans_left}

-- how a line changes an open transaction: marks alone, more of its transcript by a read, or an operation of its own
pub data Grows (r : Rules) (cs : List Commit) (t : Tx) : Tx → Type 0 where
  marks : (marked unmarked : List (List ℕ)) → Grows r cs t (record t { marked = marked; unmarked = unmarked })
  reads : (more : List TranscriptStep) → AloneFrom r cs t.begin t.ops (scans_left r cs t.begin t.transcript) more → own_of more ≡ [] → Grows r cs t (record t { transcript = t.transcript ++ more })
  own : (k : List ℕ) (op : WriteOp) → Grows r cs t (with_op k op t)

abbrev pub IsChange : Rules → State → List ℕ → (Tx → Tx) → Type 0
IsChange r s name f = (t : Tx) → find_named name s.txns ≡ Some t → Grows r s.commits t (f t)

pub record Keeps (r : Rules) (P : State → Type 0) : Type 0 where
  pub moment : (s : State) (m : ℤ) → P s → P (record s { now = m })
  pub flush : (s : State) → P s → P (record s { flushed = last r s })
  pub begin : (s : State) (name : List ℕ) (level : IsolationLevel) → is_open s name ≡ false → P s → P (record s { txns = set_named name (begun level (last r s)) s.txns })
  pub snapshot : (s : State) (name : List ℕ) → is_open s name ≡ false → P s → P (record s { snapshots = set_named name (last r s) s.snapshots })
  pub changed : (s : State) (name : List ℕ) (f : Tx → Tx) → IsChange r s name f → P s → P (record s { txns = update_named name f s.txns })
  pub closes : (s : State) (name : List ℕ) → P s → P (closed s name)
  pub commits : (s : State) (o : List ℕ × WriteOp) (os : Ops) (tracked : List (List ℕ)) → AreKeysOf (o ∷ os) tracked → P s → P (with_commit r s (o ∷ os) tracked)

-- all keys are those that pass the test that all pass
pub all_pass : (ks : List (List ℕ)) → ks ≡ filter (λ k. true) ks
all_pass [] = refl
all_pass (k ∷ ks) = λ i. k ∷ all_pass ks i

-- ---- the steps of a read are alone

nothing_left : {X : Type 0} (m : ℕ) (xs : List X) → ltb (length xs) m ≡ true → drop m xs ≡ []
nothing_left m xs e = drop_of_length-le xs (le_of_lt (ltb-true (length xs) m e))

pub get_updated : {X : Type 0} (i : ℕ) (f : X → X) (xs : List X) (x : X) → slice_get xs i ≡ Some x → slice_get (update_at i f xs) i ≡ Some (f x)
get_updated i f [] x h = cc
get_updated zero f (y ∷ ys) x h = ap (option_map f) h
get_updated (suc i) f (y ∷ ys) x h = get_updated i f ys x h

pub get_last : {X : Type 0} (xs : List X) (x : X) → slice_get (xs ++ (x ∷ [])) (length xs) ≡ Some x
get_last [] x = refl
get_last (y ∷ ys) x = get_last ys x

module _ (r : Rules) (cs : List Commit) (n : ℕ) (os : Ops) (i : ℕ) (order : IterationOrder) where
  nexts_alone : (rows rest : List RowEntry) (more : List TranscriptStep) (scans : List Left) → slice_get scans i ≡ Some (order, rows ++ rest) →
      ((later : List Left) → slice_get later i ≡ Some (order, rest) → AloneFrom r cs n os later more) → AloneFrom r cs n os scans (nexts i rows ++ more)
  nexts_alone [] rest more scans h go = go scans h
  nexts_alone (x ∷ xs) rest more scans h go =
      (subst (λ o. IsNextOf o (Some (key_value x))) (sym h) refl, nexts_alone xs rest more (update_at i advanced scans) (get_updated i advanced scans (order, x ∷ (xs ++ rest)) h) go)

  end_alone : (more : List TranscriptStep) (scans : List Left) → slice_get scans i ≡ Some (order, []) →
      ((later : List Left) → slice_get later i ≡ Some (order, []) → AloneFrom r cs n os later more) → AloneFrom r cs n os scans (steps.Next i None ∷ more)
  end_alone more scans h go = (subst (λ o. IsNextOf o None) (sym h) refl, go (update_at i advanced scans) (get_updated i advanced scans (order, []) h))

  steps_alone : (sts : List ScanStep) (left : List RowEntry) (scans : List Left) → slice_get scans i ≡ Some (order, left) → AloneFrom r cs n os scans (steps_walk order i left sts)
  steps_alone [] left scans h = tt
  steps_alone (Rows m ∷ sts) left scans h = by (λ later e. steps_alone sts (drop m left) later e)
    where
      rest : List TranscriptStep
      rest = steps_walk order i (drop m left) sts

      Goes : Type 0
      Goes = (later : List Left) → slice_get later i ≡ Some (order, drop m left) → AloneFrom r cs n os later rest

      past : (b : Bool) → ltb (length left) m ≡ b → Goes → (later : List Left) → slice_get later i ≡ Some (order, drop m left) → AloneFrom r cs n os later (cond b (steps.Next i None ∷ []) [] ++ rest)
      past true e go later h =
          let none : drop m left ≡ [] = nothing_left m left e in
          end_alone rest later (h ∙ ap (λ rows. Some (order, rows)) none) (λ more d. go more (d ∙ ap (λ rows. Some (order, rows)) (sym none)))
      past false e go later h = go later h

      by : Goes → AloneFrom r cs n os scans (step_walk i (Rows m) left ++ rest)
      by go =
          subst (λ (ts : List TranscriptStep). AloneFrom r cs n os scans ts) (sym (append_assoc (nexts i (take m left)) (cond (ltb (length left) m) (steps.Next i None ∷ []) []) rest))
          (nexts_alone (take m left) (drop m left) (cond (ltb (length left) m) (steps.Next i None ∷ []) [] ++ rest) scans (h ∙ ap (λ rows. Some (order, rows)) (sym (take-append-drop m left))) (past (ltb (length left) m) refl go))
  steps_alone (Seek k ∷ sts) left scans h = (ap is_some h, steps_alone sts (drop_before order k left) (update_at i (sought k) scans) (get_updated i (sought k) scans (order, left) h))

  walk_alone : (sts : List ScanStep) (left : List RowEntry) (scans : List Left) → slice_get scans i ≡ Some (order, left) → AloneFrom r cs n os scans (walk order i left sts)
  walk_alone [] left scans h = nexts_alone left [] (steps.Next i None ∷ []) scans (h ∙ ap (λ rows. Some (order, rows)) (sym (append-nil left))) (λ later e. end_alone [] later e (λ more d. tt))
  walk_alone (st ∷ sts) left scans h = steps_alone (st ∷ sts) left scans h

length_updated : {X : Type 0} (i : ℕ) (f : X → X) (xs : List X) → length (update_at i f xs) ≡ length xs
length_updated i f [] = refl
length_updated zero f (x ∷ xs) = refl
length_updated (suc i) f (x ∷ xs) = ap suc (length_updated i f xs)

-- a scan's number is the count of the openings before it
pub count_scans : (r : Rules) (cs : List Commit) (n : ℕ) (os : Ops) (scans : List Left) (ts : List TranscriptStep) → length (scans_after r cs n os scans ts) ≡ length scans + count_by is_scan ts
count_scans r cs n os scans [] = omega arith
count_scans r cs n os scans (steps.Get k a ∷ ts) = count_scans r cs n os scans ts
count_scans r cs n os scans (steps.Scan order range ∷ ts) =
    let opened : Left = (order, rows_seen r cs n os order range) in
    count_scans r cs n os (scans ++ (opened ∷ [])) ts ∙ ap (λ m. m + count_by is_scan ts) (length-append scans (opened ∷ [])) ∙ add_assoc (length scans) 1 (count_by is_scan ts) ∙ ap (λ m. length scans + m) (sym (sum_by-cons (λ t. cond (is_scan t) 1 0) (steps.Scan order range) ts))
count_scans r cs n os scans (steps.Next i a ∷ ts) = count_scans r cs n os (update_at i advanced scans) ts ∙ ap (λ m. m + count_by is_scan ts) (length_updated i advanced scans)
count_scans r cs n os scans (steps.Seek i k ∷ ts) = count_scans r cs n os (update_at i (sought k) scans) ts ∙ ap (λ m. m + count_by is_scan ts) (length_updated i (sought k) scans)
count_scans r cs n os scans (steps.View range ∷ ts) = count_scans r cs n os scans ts
count_scans r cs n os scans (steps.Own k op ∷ ts) = count_scans r cs n (os ++ ((k, op) ∷ [])) scans ts

-- a read has no operations of its own in it
pub own_append : (ts more : List TranscriptStep) → own_of (ts ++ more) ≡ own_of ts ++ own_of more
own_append [] more = refl
own_append (steps.Get k a ∷ ts) more = own_append ts more
own_append (steps.Scan order range ∷ ts) more = own_append ts more
own_append (steps.Next i a ∷ ts) more = own_append ts more
own_append (steps.Seek i k ∷ ts) more = own_append ts more
own_append (steps.View range ∷ ts) more = own_append ts more
own_append (steps.Own k op ∷ ts) more = ap (λ os. (k, op) ∷ os) (own_append ts more)

no_own : (ts more : List TranscriptStep) → own_of ts ≡ [] → own_of more ≡ [] → own_of (ts ++ more) ≡ []
no_own ts more e d = own_append ts more ∙ ap (λ os. os ++ own_of more) e ∙ d

own_nexts : (i : ℕ) (rows : List RowEntry) → own_of (nexts i rows) ≡ []
own_nexts i [] = refl
own_nexts i (x ∷ xs) = own_nexts i xs

own_steps : (order : IterationOrder) (i : ℕ) (left : List RowEntry) (sts : List ScanStep) → own_of (steps_walk order i left sts) ≡ []
own_steps order i left [] = refl
own_steps order i left (Rows m ∷ sts) =
    no_own (step_walk i (Rows m) left) (steps_walk order i (drop m left) sts) (no_own (nexts i (take m left)) (cond (ltb (length left) m) (steps.Next i None ∷ []) []) (own_nexts i (take m left)) (by (ltb (length left) m)))
    (own_steps order i (drop m left) sts)
  where
    by : (b : Bool) → own_of (cond b (steps.Next i None ∷ []) []) ≡ []
    by true = refl
    by false = refl
own_steps order i left (Seek k ∷ sts) = own_steps order i (drop_before order k left) sts

own_walk : (order : IterationOrder) (i : ℕ) (left : List RowEntry) (sts : List ScanStep) → own_of (walk order i left sts) ≡ []
own_walk order i left [] = no_own (nexts i left) (steps.Next i None ∷ []) (own_nexts i left) refl
own_walk order i left (st ∷ sts) = own_steps order i left (st ∷ sts)

-- a change of the transaction that is found under the name
change_of : (r : Rules) (s : State) (name : List ℕ) (f : Tx → Tx) (u : Tx) → find_named name s.txns ≡ Some u → Grows r s.commits u (f u) → IsChange r s name f
change_of r s name f u d g t e = subst (λ v. Grows r s.commits v (f v)) (same_Some u t (sym d ∙ e)) g

no_change : (r : Rules) (s : State) (name : List ℕ) (f : Tx → Tx) → find_named name s.txns ≡ None → IsChange r s name f
no_change r s name f d t e = absurd (none_is_some t (sym d ∙ e))
  where
    none_is_some : (t : Tx) → None ≡ Some t → ⊥
    none_is_some t h = cc

read_get : (r : Rules) (s : State) (k : List ℕ) (t : Tx) → Grows r s.commits t (record t { transcript = t.transcript ++ (steps.Get k (option_map key_value (seen r s.commits t.begin t.ops k)) ∷ []) })
read_get r s k t = reads (steps.Get k (option_map key_value (seen r s.commits t.begin t.ops k)) ∷ []) (refl, tt) refl

read_scan : (r : Rules) (s : State) (order : IterationOrder) (range : BytesRange) (sts : List ScanStep) (t : Tx) →
    Grows r s.commits t (record t { transcript = t.transcript ++ (steps.Scan order range ∷ walk order (count_by is_scan t.transcript) (rows_seen r s.commits t.begin t.ops order range) sts) })
read_scan r s order range sts t =
    let rows : List RowEntry = rows_seen r s.commits t.begin t.ops order range in
    let scans : List Left = scans_left r s.commits t.begin t.transcript in
    let at : length scans ≡ count_by is_scan t.transcript = count_scans r s.commits t.begin [] [] t.transcript ∙ zero-add (count_by is_scan t.transcript) in
    reads (steps.Scan order range ∷ walk order (count_by is_scan t.transcript) rows sts)
    (walk_alone r s.commits t.begin t.ops (count_by is_scan t.transcript) order sts rows (scans ++ ((order, rows) ∷ []))
    (subst (λ i. slice_get (scans ++ ((order, rows) ∷ [])) i ≡ Some (order, rows)) at (get_last scans (order, rows))))
    (own_walk order (count_by is_scan t.transcript) rows sts)

module _ (r : Rules) (P : State → Type 0) (keeps : Keeps r P) where
  refused_keeps : (e : Option SlateDBError) (s : State) (p : State × Reply) → P s → P p.0 → P (refused_or e s p).0
  refused_keeps None s p h g = g
  refused_keeps (Some e) s p h g = h

  opens_keeps : (s : State) (name : List ℕ) (p : State × Reply) → P s → (is_open s name ≡ false → P p.0) → P (opens s name p).0
  opens_keeps s name p h g = by (is_open s name) refl
    where
      by : (b : Bool) → is_open s name ≡ b → P (cond b (s, Refused (DuplicateTransaction name)) p).0
      by true e = h
      by false e = g e

  made_keeps : (s : State) (made : Option ℕ → Reply) (os : Ops) (tracked : List (List ℕ)) → AreKeysOf os tracked → P s → P (with_reply made (as_commit r s os tracked)).0
  made_keeps s made [] tracked keys h = h
  made_keeps s made (o ∷ os) tracked keys h = keeps.commits s o os tracked keys h

  get_keeps : (s : State) (name k : List ℕ) (t : Option Tx) (n : Option ℕ) → find_named name s.txns ≡ t → P s → P (get r s name k (reader_or_snapshot t n)).0
  get_keeps s name k None None e h = h
  get_keeps s name k None (Some n) e h = keeps.changed s name _ (no_change r s name _ e) h
  get_keeps s name k (Some t) n e h = keeps.changed s name _ (change_of r s name _ t e (read_get r s k t)) h

  scan_keeps : (s : State) (name : List ℕ) (order : IterationOrder) (range : Option BytesRange) (sts : List ScanStep) (t : Option Tx) (n : Option ℕ) → find_named name s.txns ≡ t → P s → P (scan r s name order range sts (reader_or_snapshot t n)).0
  scan_keeps s name order range sts None None e h = h
  scan_keeps s name order None sts None (Some n) e h = h
  scan_keeps s name order None sts (Some t) n e h = h
  scan_keeps s name order (Some range) sts None (Some n) e h = keeps.changed s name _ (no_change r s name _ e) h
  scan_keeps s name order (Some range) sts (Some t) n e h = keeps.changed s name _ (change_of r s name _ t e (read_scan r s order range sts t)) h

  operate_keeps : (s : State) (name k : List ℕ) (op : WriteOp) (e : Option SlateDBError) (t : Option Tx) → P s → P (operate s name k op e t).0
  operate_keeps s name k op e None h = h
  operate_keeps s name k op None (Some t) h = keeps.changed s name (with_op k op) (λ u d. own k op) h
  operate_keeps s name k op (Some e) (Some t) h = h

  change_keeps : (s : State) (name : List ℕ) (f : Tx → Tx) (t : Option Tx) → ((u : Tx) → Grows r s.commits u (f u)) → P s → P (change s name f t).0
  change_keeps s name f None g h = h
  change_keeps s name f (Some t) g h = keeps.changed s name f (λ u d. g u) h

  commit_keeps : (s : State) (name : List ℕ) (t : Option Tx) → P s → P (of_open s name t (commit r s name)).0
  commit_keeps s name None h = h
  commit_keeps s name (Some t) h =
      let shut : P (closed s name) = keeps.closes s name h in
      refused_keeps (commit_refusal r s t) (closed s name) _ shut (made_keeps (closed s name) Committed t.ops (tracked_writes t) ((λ k. not (among k t.unmarked)), refl) shut)

  pub step_keeps : (s : State) (l : Line) → P s → P (step r s l).0
  step_keeps s (lines.Now m) h = keeps.moment s m h
  step_keeps s (lines.Begin name level) h = opens_keeps s name _ h (λ e. keeps.begin s name level e h)
  step_keeps s (lines.Snapshot name) h = opens_keeps s name _ h (λ e. keeps.snapshot s name e h)
  step_keeps s (lines.Get name k) h = get_keeps s name k (find_named name s.txns) (find_named name s.snapshots) refl h
  step_keeps s (lines.Scan name order start end sts) h = scan_keeps s name order (range_of start end) sts (find_named name s.txns) (find_named name s.snapshots) refl h
  step_keeps s (lines.Prefix name order p start end sts) h = scan_keeps s name order (prefix_subrange p start end) sts (find_named name s.txns) (find_named name s.snapshots) refl h
  step_keeps s (lines.Put name k v ttl) h = operate_keeps s name k _ (op_refusal k (ops.Put v (record { ttl = ttl }))) (find_named name s.txns) h
  step_keeps s (lines.Merge name k v ttl) h = operate_keeps s name k _ (first_refusal (operator_refusal r ∷ op_refusal k (ops.Merge v (record { ttl = ttl })) ∷ [])) (find_named name s.txns) h
  step_keeps s (lines.Delete name k) h = operate_keeps s name k _ (op_refusal k ops.Delete) (find_named name s.txns) h
  step_keeps s (lines.Mark name ks) h = change_keeps s name (with_marks ks) (find_named name s.txns) (λ t. marks (t.marked ++ ks) t.unmarked) h
  step_keeps s (lines.Unmark name ks) h = change_keeps s name (with_unmarks ks) (find_named name s.txns) (λ t. marks t.marked (t.unmarked ++ ks)) h
  step_keeps s (lines.Commit name) h = commit_keeps s name (find_named name s.txns) h
  step_keeps s (lines.Rollback name) h = by (is_open s name)
    where
      by : (b : Bool) → P (cond {A = State × Reply} b (closed s name, Done) (s, Refused (UnknownTransaction name))).0
      by true = keeps.closes s name h
      by false = h
  step_keeps s (lines.Write batch) h = refused_keeps (write_refusal r s batch) s _ h (made_keeps s Written batch (batch_keys batch) ((λ k. true), all_pass (batch_keys batch)) h)
  step_keeps s lines.Freeze h = h
  step_keeps s lines.Flush h = keeps.flush s h
  step_keeps s lines.Journal h = h

  pub after_keeps : (ls : List Line) (s : State) → P s → P (after r s ls)
  after_keeps [] s h = h
  after_keeps (l ∷ ls) s h = after_keeps ls (step r s l).0 (step_keeps s l h)
