-- What an attempt goes on with, and what stays vouched for and left of its scans where the journal grows.
use Rattle.std.proofs.Common.{◌≡◌, ◌+◌, ◌<◌, ◌≤◌, ◌||◌, ℕ, Bool, true, false, List, [], ◌∷◌, ◌++◌, Option, Some, None, Result, Ok, Err, append_assoc, append-nil, refl, sym, ap, subst, ◌∙◌, arith}
use Rattle.std.specs.Prelude.{IfOk, OnErr, OnOk, slice_get}
use Rattle.std.specs.List.{AllByRecursion}
use Rattle.std.proofs.Math.Nat.{le_refl}
use mathlib.Core.List.{IsPrefix}
use Rattle.slate_types.specs.declared.bytes_range.BytesRange.{BytesRange}
use Rattle.slate_types.specs.declared.config.IsolationLevel.{IsolationLevel}
use Rattle.slate_types.specs.declared.config.Options.{Options}
use Rattle.slate_types.specs.declared.error.SlateDBError.{SlateDBError}
use Rattle.slate_types.specs.declared.iter.IterationOrder.{IterationOrder}
use Rattle.slate_types.specs.declared.types.KeyValue.{KeyValue}
use Rattle.slate_types.specs.declared.types.RowEntry.{RowEntry}
use Rattle.slate_types.proofs.Lists.{AllByRecursion_append, AllByRecursion_weaken}
use Rattle.slate_mem.specs.declared.WriteOp.{WriteOp}
use Rattle.slate_mem.specs.Batch.{Ops}
use Rattle.slate_mem.specs.BatchModel.{holds_merge, is_merge_op}
use Rattle.slate_txn.specs.declared.event.Event.{Event}
use Rattle.slate_txn.specs.declared.event.Event.TheVariants as events
use Rattle.slate_txn.specs.declared.event.TranscriptStep.{TranscriptStep}
use Rattle.slate_txn.specs.declared.event.TranscriptStep.TheVariants as steps
use Rattle.slate_txn.specs.Alone.{IsAlone, IsVouched, Left, own_of, scans_left}
use Rattle.slate_txn.specs.Reads.{rows_seen, up_to}
use Rattle.slate_txn.specs.Replay.{Allowed, IsLegal, LegalFrom, apply, apply_all, ids_of, replay, used_from}
use Rattle.slate_txn.specs.Settings.{settings_of}
use Rattle.slate_txn.specs.State.{Commit, Rules, State, Tx, begun, last_of, opening}
use Rattle.slate_txn.specs.Step.{with_op}
use Rattle.slate_txn.proofs.OwnLaws.{noted_own, own_more}
use Rattle.slate_txn.proofs.ReadLaws.{alone_more, alone_same, rows_same, same_commits}
use Rattle.slate_txn.proofs.ScanLaws.{get_left, left_stays, own_left, scan_keeps}
use Rattle.slate_db.specs.declared.scan.TxnIterator.{TxnIterator}
use Rattle.slate_db.specs.Meaning.{Meaning, rules_of}
use Rattle.slate_db.specs.Scans.{number_of, scan_of}
use Rattle.slate_shared.specs.Passes.{Opened}
use Rattle.slate_shared.specs.Scans.{IsLeftOf, rows_of_range}
use Rattle.slate_shared.proofs.Lists.{prefix_more, prefix_self, prefix_trans}
use Rattle.slate_steps.specs.Attempts.{IsAttempt, IsReadingOn, IsVouchedThere}
use Rattle.slate_steps.specs.Steps.{taking}
use Rattle.slate_steps.proofs.Taking.{noted_taking, own_taking}

-- ---- legal journals

legal_front : (n0 : ℕ) (s : State) (used : List (List ℕ)) (es more : List Event) → LegalFrom n0 s used (es ++ more) → LegalFrom n0 s used es
legal_front n0 s used [] more h = tt
legal_front n0 s used (e ∷ es) more h = (h.0, legal_front n0 (apply s e) (ids_of e ++ used) es more h.1)

pub legal_rest : (n0 : ℕ) (s : State) (used : List (List ℕ)) (es more : List Event) → LegalFrom n0 s used (es ++ more) → LegalFrom n0 (apply_all s es) (used_from used es) more
legal_rest n0 s used [] more h = h
legal_rest n0 s used (e ∷ es) more h = legal_rest n0 (apply s e) (ids_of e ++ used) es more h.1

pub applied_both : (s : State) (es more : List Event) → apply_all s (es ++ more) ≡ apply_all (apply_all s es) more
applied_both s [] more = refl
applied_both s (e ∷ es) more = applied_both (apply s e) es more

pub legal_before : (n0 : ℕ) (es later : List Event) → IsPrefix es later → IsLegal n0 later → IsLegal n0 es
legal_before n0 es later p h = legal_front n0 opening [] es p.0 (subst (λ (l : List Event). IsLegal n0 l) (sym p.1) h)

-- ---- the commits that events add

-- n: a sequence which all that are added are above
record Grows (n : ℕ) (cs ds : List Commit) : Type 0 where
  later : List Commit
  is : ds ≡ cs ++ later
  past : AllByRecursion (λ c. n < c.seq) later

grows_none : (n : ℕ) (cs : List Commit) → Grows n cs cs
grows_none n cs = record { later = []; is = sym (append-nil cs); past = tt }

one_past : (n m : ℕ) → m ≡ n + 1 → n < m
one_past n m e = omega (arith, e)

grows_one : (n0 : ℕ) (cs : List Commit) (c : Commit) → c.seq ≡ last_of n0 cs + 1 → Grows (last_of n0 cs) cs (cs ++ (c ∷ []))
grows_one n0 cs c e = record { later = c ∷ []; is = refl; past = (one_past (last_of n0 cs) c.seq e, tt) }

grows_by : (n0 : ℕ) (s : State) (used : List (List ℕ)) (e : Event) → Allowed n0 s used e → Grows (last_of n0 s.commits) s.commits (apply s e).commits
grows_by n0 s used (events.Begin id level start) a = grows_none (last_of n0 s.commits) s.commits
grows_by n0 s used (events.End id) a = grows_none (last_of n0 s.commits) s.commits
grows_by n0 s used (events.Commit id None now os tracked ts) a = record { later = []; is = refl; past = tt }
grows_by n0 s used (events.Commit id (Some n) now os tracked ts) a = grows_one n0 s.commits (record { seq = n; now = now; ops = os; tracked = tracked }) a.1.0
grows_by n0 s used (events.Write n now os) a = record { later = _; is = refl; past = (one_past (last_of n0 s.commits) n a.0.0, tt) }
grows_by n0 s used events.Freeze a = grows_none (last_of n0 s.commits) s.commits
grows_by n0 s used (events.Install through tables) a = grows_none (last_of n0 s.commits) s.commits
grows_by n0 s used (events.Snapshot id n) a = grows_none (last_of n0 s.commits) s.commits
grows_by n0 s used (events.Release id) a = grows_none (last_of n0 s.commits) s.commits

lower : (m n : ℕ) → m < n → m ≤ n
lower m n h = omega (arith, h)

lower_past : (n m s : ℕ) → n ≤ m → m < s → n < s
lower_past n m s h k = omega (arith, h, k)

last_up : (m n0 : ℕ) (later : List Commit) → m ≤ n0 → AllByRecursion (λ c. m < c.seq) later → m ≤ last_of n0 later
last_up m n0 [] h p = h
last_up m n0 (c ∷ later) h p = last_up m c.seq later (lower m c.seq p.0) p.1

last_past : (m n0 : ℕ) (cs later : List Commit) → m ≤ last_of n0 cs → AllByRecursion (λ c. m < c.seq) later → m ≤ last_of n0 (cs ++ later)
last_past m n0 [] later h p = last_up m n0 later h p
last_past m n0 (c ∷ cs) later h p = last_past m c.seq cs later h p

grows_on : (n m : ℕ) (cs ds es : List Commit) → n ≤ m → Grows n cs ds → Grows m ds es → Grows n cs es
grows_on n m cs ds es h g k = record {
  later = g.later ++ k.later;
  is = k.is ∙ ap (λ (l : List Commit). l ++ k.later) g.is ∙ append_assoc cs g.later k.later;
  past = AllByRecursion_append (λ c. n < c.seq) g.later k.later g.past (AllByRecursion_weaken (λ c. m < c.seq) (λ c. n < c.seq) (λ c past. lower_past n m c.seq h past) k.later k.past);
}

grows_all : (n0 : ℕ) (es : List Event) (s : State) (used : List (List ℕ)) → LegalFrom n0 s used es → Grows (last_of n0 s.commits) s.commits (apply_all s es).commits
grows_all n0 [] s used h = grows_none (last_of n0 s.commits) s.commits
grows_all n0 (e ∷ es) s used h =
    let first = grows_by n0 s used e h.0 in
    let above : last_of n0 s.commits ≤ last_of n0 (apply s e).commits =
    subst (λ (cs : List Commit). last_of n0 s.commits ≤ last_of n0 cs) (sym first.is) (last_past (last_of n0 s.commits) n0 s.commits first.later (le_refl (last_of n0 s.commits)) first.past) in
    grows_on (last_of n0 s.commits) (last_of n0 (apply s e).commits) s.commits (apply s e).commits (apply_all (apply s e) es).commits above first (grows_all n0 es (apply s e) (ids_of e ++ used) h.1)

-- a legal journal adds to one that it begins with commits above the newest of that one
unfoldable grows_legal : (n0 : ℕ) (es later : List Event) → IsPrefix es later → IsLegal n0 later → Grows (last_of n0 (replay es).commits) (replay es).commits (replay later).commits
grows_legal n0 es later p h =
    let more = grows_all n0 p.0 (replay es) (used_from [] es) (legal_rest n0 opening [] es p.0 (subst (λ (l : List Event). IsLegal n0 l) (sym p.1) h)) in
    record {
      later = more.later;
      is = ap (λ (l : List Event). (replay l).commits) (sym p.1) ∙ ap (λ (s : State). s.commits) (applied_both opening es p.0) ∙ more.is;
      past = more.past;
    }

-- ---- what is seen at the newest sequence of an earlier journal

module _ (n0 n : ℕ) (start es later : List Event) (newest : n ≡ last_of n0 (replay start).commits) (begins : IsPrefix start es) (more : IsPrefix es later) (legal : IsLegal n0 later) where
  start_up_to : (fs : List Event) → IsPrefix start fs → IsLegal n0 fs → up_to n (replay fs).commits ≡ up_to n (replay start).commits
  start_up_to fs p h =
      let g = grows_legal n0 start fs p h in
      ap (up_to n) g.is ∙ same_commits n (replay start).commits g.later (subst (λ (m : ℕ). AllByRecursion (λ c. m < c.seq) g.later) (sym newest) g.past)

  pub same_up_to : up_to n (replay later).commits ≡ up_to n (replay es).commits
  same_up_to = start_up_to later (prefix_trans start es later begins more) legal ∙ sym (start_up_to es begins (legal_before n0 es later more legal))

  start_left : (r : Rules) (ts : List TranscriptStep) (fs : List Event) → IsPrefix start fs → IsLegal n0 fs → scans_left r (replay fs).commits n ts ≡ scans_left r (replay start).commits n ts
  start_left r ts fs p h =
      let g = grows_legal n0 start fs p h in
      ap (λ (cs : List Commit). scans_left r cs n ts) g.is ∙ left_stays r (replay start).commits g.later n ts (subst (λ (m : ℕ). AllByRecursion (λ c. m < c.seq) g.later) (sym newest) g.past)

  pub same_left : (r : Rules) (ts : List TranscriptStep) → scans_left r (replay later).commits n ts ≡ scans_left r (replay es).commits n ts
  same_left r ts = start_left r ts later (prefix_trans start es later begins more) legal ∙ sym (start_left r ts es begins (legal_before n0 es later more legal))

  pub same_rows : (r : Rules) (ops : Ops) (order : IterationOrder) (range : BytesRange) → rows_seen r (replay later).commits n ops order range ≡ rows_seen r (replay es).commits n ops order range
  same_rows r ops order range = rows_same r (replay later).commits (replay es).commits n ops order range same_up_to

  pub alone_later : (r : Rules) (ts : List TranscriptStep) → IsAlone r (replay es).commits n ts → IsAlone r (replay later).commits n ts
  alone_later r ts h = alone_same r (replay es).commits (replay later).commits n [] [] ts (sym same_up_to) h

  pub alone_earlier : (r : Rules) (ts : List TranscriptStep) → IsAlone r (replay later).commits n ts → IsAlone r (replay es).commits n ts
  alone_earlier r ts h = alone_same r (replay later).commits (replay es).commits n [] [] ts same_up_to h

-- ---- an attempt

module _ (o : Options) (from : List Event) (level : IsolationLevel) (ts : List TranscriptStep) (t : Opened) (a : IsAttempt o from level ts t) where
  pub attempt_ops : t.tx.ops ≡ own_of ts
  attempt_ops = ap (λ (x : Tx). x.ops) a.is

  pub attempt_steps : t.tx.transcript ≡ ts
  attempt_steps = ap (λ (x : Tx). x.transcript) a.is

  pub attempt_own : t.tx.ops ≡ own_of t.tx.transcript
  attempt_own = attempt_ops ∙ ap own_of (sym attempt_steps)

  pub attempt_plain : holds_merge t.tx.ops ≡ false
  attempt_plain = ap holds_merge attempt_ops ∙ a.plain

  pub attempt_begins : IsPrefix a.start t.seen
  attempt_begins = prefix_trans a.start (a.start ++ (events.Begin t.id level t.tx.begin ∷ [])) t.seen (prefix_more a.start a.start (events.Begin t.id level t.tx.begin ∷ []) (prefix_self a.start)) a.begun

  -- what is seen at its begin stays as it is in the journals that go on
  module _ (es later : List Event) (known : IsPrefix t.seen es) (more : IsPrefix es later) (legal : IsLegal o.start_seq later) where
    begins_there : IsPrefix a.start es
    begins_there = prefix_trans a.start t.seen es attempt_begins known

    pub attempt_up_to : up_to t.tx.begin (replay later).commits ≡ up_to t.tx.begin (replay es).commits
    attempt_up_to = same_up_to o.start_seq t.tx.begin a.start es later a.newest begins_there more legal

    pub attempt_left : (r : Rules) (us : List TranscriptStep) → scans_left r (replay later).commits t.tx.begin us ≡ scans_left r (replay es).commits t.tx.begin us
    attempt_left r us = same_left o.start_seq t.tx.begin a.start es later a.newest begins_there more legal r us

    pub attempt_rows : (m : Meaning) (order : IterationOrder) (range : BytesRange) → rows_of_range o m later t.tx order range ≡ rows_of_range o m es t.tx order range
    attempt_rows m order range = same_rows o.start_seq t.tx.begin a.start es later a.newest begins_there more legal (rules_of (settings_of o) m) t.tx.ops order range

    pub attempt_alone : (r : Rules) (us : List TranscriptStep) → IsAlone r (replay es).commits t.tx.begin us → IsAlone r (replay later).commits t.tx.begin us
    attempt_alone r us h = alone_later o.start_seq t.tx.begin a.start es later a.newest begins_there more legal r us h

    pub attempt_alone_before : (r : Rules) (us : List TranscriptStep) → IsAlone r (replay later).commits t.tx.begin us → IsAlone r (replay es).commits t.tx.begin us
    attempt_alone_before r us h = alone_earlier o.start_seq t.tx.begin a.start es later a.newest begins_there more legal r us h

  -- its steps over a legal journal that goes on
  pub attempt_vouched : (m : Meaning) (es : List Event) → IsPrefix t.seen es → IsLegal o.start_seq es → IsVouchedThere o m t → IsAlone (rules_of (settings_of o) m) (replay es).commits t.tx.begin ts
  attempt_vouched m es known legal v = subst (λ (us : List TranscriptStep). IsAlone (rules_of (settings_of o) m) (replay es).commits t.tx.begin us) attempt_steps (v.by_each es known legal)

-- ---- it goes on

pub attempt_on : (o : Options) (from : List Event) (level : IsolationLevel) (ts us : List TranscriptStep) (t u : Opened) → IsAttempt o from level ts t → u.id ≡ t.id → IsPrefix t.seen u.seen → u.tx ≡ taking t.tx.begin level us →
    holds_merge (own_of us) ≡ false → IsAttempt o from level us u
attempt_on o from level ts us t u a same more is plain = record {
  start = a.start;
  known = a.known;
  begun = prefix_trans _ t.seen u.seen (subst (λ (p : List ℕ × ℕ). IsPrefix (a.start ++ (events.Begin p.0 level p.1 ∷ [])) t.seen) (λ i. (sym same i, sym begins i)) a.begun) more;
  newest = begins ∙ a.newest;
  is = is ∙ ap (λ (n : ℕ). taking n level us) (sym begins);
  plain = plain;
}
  where
    begins : u.tx.begin ≡ t.tx.begin
    begins = ap (λ (x : Tx). x.begin) is

-- it took no step
pub attempt_stays : (o : Options) (from : List Event) (level : IsolationLevel) (ts : List TranscriptStep) (t u : Opened) → u ≡ record t { seen = u.seen } → IsPrefix t.seen u.seen → IsAttempt o from level ts t → IsAttempt o from level ts u
attempt_stays o from level ts t u is more a = attempt_on o from level ts ts t u a (ap (λ (x : Opened). x.id) is) more (ap (λ (x : Opened). x.tx) is ∙ a.is) a.plain

-- a get, a scan or a next
pub attempt_noted : (o : Options) (from : List Event) (level : IsolationLevel) (ts : List TranscriptStep) (t u : Opened) (s : TranscriptStep) → own_of (s ∷ []) ≡ [] →
    u ≡ record t { seen = u.seen; tx = record t.tx { transcript = t.tx.transcript ++ (s ∷ []) } } → IsPrefix t.seen u.seen → IsAttempt o from level ts t → IsAttempt o from level (ts ++ (s ∷ [])) u
attempt_noted o from level ts t u s read is more a =
    attempt_on o from level ts (ts ++ (s ∷ [])) t u a (ap (λ (x : Opened). x.id) is) more
    (ap (λ (x : Opened). x.tx) is ∙ ap (λ (x : Tx). record x { transcript = x.transcript ++ (s ∷ []) }) a.is ∙ noted_taking t.tx.begin level ts s read)
    (ap holds_merge (noted_own ts s read) ∙ a.plain)

plain_more : (ops : Ops) (p : List ℕ × WriteOp) → holds_merge ops ≡ false → is_merge_op p ≡ false → holds_merge (ops ++ (p ∷ [])) ≡ false
plain_more [] p h k = ap (λ b. b || false) k
plain_more (q ∷ ops) p h k = by (is_merge_op q) h (λ e. plain_more ops p e k)
  where
    by : (b : Bool) → (b || holds_merge ops) ≡ false → (holds_merge ops ≡ false → holds_merge (ops ++ (p ∷ [])) ≡ false) → (b || holds_merge (ops ++ (p ∷ []))) ≡ false
    by true e later = cc
    by false e later = later e

-- a put or a delete
pub attempt_own_more : (o : Options) (from : List Event) (level : IsolationLevel) (ts : List TranscriptStep) (t u : Opened) (k : List ℕ) (op : WriteOp) → is_merge_op (k, op) ≡ false →
    u ≡ record t { tx = with_op k op t.tx } → IsAttempt o from level ts t → IsAttempt o from level (ts ++ (steps.Own k op ∷ [])) u
attempt_own_more o from level ts t u k op no_merge is a =
    attempt_on o from level ts (ts ++ (steps.Own k op ∷ [])) t u a (ap (λ (x : Opened). x.id) is) (subst (λ (es : List Event). IsPrefix t.seen es) (sym (ap (λ (x : Opened). x.seen) is)) (prefix_self t.seen))
    (ap (λ (x : Opened). x.tx) is ∙ ap (with_op k op) a.is ∙ own_taking t.tx.begin level ts k op)
    (ap holds_merge (own_more ts k op) ∙ plain_more (own_of ts) (k, op) a.plain no_merge)

-- ---- what is vouched for

pub vouched_on : (o : Options) (m : Meaning) (t u : Opened) → u.tx ≡ t.tx → IsPrefix t.seen u.seen → IsVouchedThere o m t → IsVouchedThere o m u
vouched_on o m t u same more v = record {
  by_each = λ es known legal. subst (IsVouched (rules_of (settings_of o) m) (replay es).commits) (sym same) (v.by_each es (prefix_trans t.seen u.seen es more known) legal);
}

pub vouched_own : (o : Options) (m : Meaning) (t u : Opened) (k : List ℕ) (op : WriteOp) → u ≡ record t { tx = with_op k op t.tx } → IsVouchedThere o m t → IsVouchedThere o m u
vouched_own o m t u k op is v = record {
  by_each = λ es known legal.
      subst (IsVouched (rules_of (settings_of o) m) (replay es).commits) (sym (ap (λ (x : Opened). x.tx) is))
      (alone_more (rules_of (settings_of o) m) (replay es).commits t.tx.begin [] [] t.tx.transcript (steps.Own k op ∷ [])
      (v.by_each es (subst (λ (fs : List Event). IsPrefix fs es) (ap (λ (x : Opened). x.seen) is) known) legal) tt);
}

-- where the own operations are what the transaction began with, nothing was answered yet
pub vouched_begun : (o : Options) (m : Meaning) (t : Opened) (level : IsolationLevel) (n : ℕ) → t.tx ≡ begun level n → IsVouchedThere o m t
vouched_begun o m t level n is = record { by_each = λ es known legal. subst (IsVouched (rules_of (settings_of o) m) (replay es).commits) (sym is) tt }

-- ---- what a scan has left, beside other steps

module _ (os : List (List ℕ × List ℕ)) (o : Options) (m : Meaning) (t u : Opened) (more : IsPrefix t.seen u.seen) (it : TxnIterator) (rows : List RowEntry) where
  reading_as : (us : List TranscriptStep) → u.tx.begin ≡ t.tx.begin → u.tx.transcript ≡ us →
      ((cs : List Commit) → slice_get (scans_left (rules_of (settings_of o) m) cs t.tx.begin t.tx.transcript) (number_of it) ≡ Some ((scan_of it).order, rows) →
      slice_get (scans_left (rules_of (settings_of o) m) cs t.tx.begin us) (number_of it) ≡ Some ((scan_of it).order, rows)) → IsReadingOn os o m t it rows → IsReadingOn os o m u it rows
  reading_as us begins steps_are keeps h = record {
    left = λ es known legal.
        (λ i. slice_get (scans_left (rules_of (settings_of o) m) (replay es).commits (begins i) (steps_are i)) (number_of it))
        ∙ keeps (replay es).commits (h.left es (prefix_trans t.seen u.seen es more known) legal);
    leaves = h.leaves;
  }

  -- the journal that was seen grew
  pub reading_on : u.tx ≡ t.tx → IsReadingOn os o m t it rows → IsReadingOn os o m u it rows
  reading_on same h = reading_as t.tx.transcript (ap (λ (x : Tx). x.begin) same) (ap (λ (x : Tx). x.transcript) same) (λ cs left. left) h

  pub reading_beside_get : (k : List ℕ) (a : Option KeyValue) → u.tx ≡ record t.tx { transcript = t.tx.transcript ++ (steps.Get k a ∷ []) } → IsReadingOn os o m t it rows → IsReadingOn os o m u it rows
  reading_beside_get k a same h = reading_as (t.tx.transcript ++ (steps.Get k a ∷ [])) (ap (λ (x : Tx). x.begin) same) (ap (λ (x : Tx). x.transcript) same)
      (λ cs left. ap (λ (ls : List Left). slice_get ls (number_of it)) (get_left (rules_of (settings_of o) m) cs t.tx.begin t.tx.transcript k a) ∙ left) h

  pub reading_beside_own : (k : List ℕ) (op : WriteOp) → u.tx ≡ with_op k op t.tx → IsReadingOn os o m t it rows → IsReadingOn os o m u it rows
  reading_beside_own k op same h = reading_as (t.tx.transcript ++ (steps.Own k op ∷ [])) (ap (λ (x : Tx). x.begin) same) (ap (λ (x : Tx). x.transcript) same)
      (λ cs left. ap (λ (ls : List Left). slice_get ls (number_of it)) (own_left (rules_of (settings_of o) m) cs t.tx.begin t.tx.transcript k op) ∙ left) h

  pub reading_beside_scan : (order : IterationOrder) (range : BytesRange) → u.tx ≡ record t.tx { transcript = t.tx.transcript ++ (steps.Scan order range ∷ []) } → IsReadingOn os o m t it rows → IsReadingOn os o m u it rows
  reading_beside_scan order range same h = reading_as (t.tx.transcript ++ (steps.Scan order range ∷ [])) (ap (λ (x : Tx). x.begin) same) (ap (λ (x : Tx). x.transcript) same)
      (λ cs left. scan_keeps (rules_of (settings_of o) m) cs t.tx.begin t.tx.transcript order range (number_of it) ((scan_of it).order, rows) left) h
