-- What a scan has left goes on at each call that isn't on it and doesn't end its transaction.
use Rattle.std.proofs.Common.{◌≡◌, ◌≢◌, ℕ, ◌+◌, ◌<◌, ◌≤◌, Bool, true, false, cond, bytes_eq, List, [], ◌∷◌, ◌++◌, Option, Some, None, option_map, slice_get, ℤ, refl, sym, ap, subst, ◌∙◌, arith, append-nil}
use Rattle.std.specs.Prelude.{IsSome}
use Rattle.std.specs.List.{AllByRecursion}
use Rattle.std.proofs.lemmas.Option.{same_Some}
use Rattle.std.proofs.lemmas.Slice.Eq.{bytes_eq-Decides}
use Rattle.slate_types.specs.declared.types.RowEntry.{RowEntry}
use Rattle.slate_types.proofs.Lists.{AllByRecursion_append, AllByRecursion_weaken}
use Rattle.slate_mem.specs.declared.WriteOp.{WriteOp}
use Rattle.slate_mem.specs.Batch.{Ops, batch_keys, kept_ops}
use Rattle.slate_txn.specs.declared.event.Event.{Event}
use Rattle.slate_txn.specs.declared.event.Event.TheVariants as events
use Rattle.slate_txn.specs.declared.event.TranscriptStep.{TranscriptStep}
use Rattle.slate_txn.specs.declared.event.TranscriptStep.TheVariants as steps
use Rattle.slate_txn.specs.declared.line.Line.{Line}
use Rattle.slate_txn.specs.declared.line.Line.TheVariants as lines
use Rattle.slate_txn.specs.Alone.{Left, scans_left}
use Rattle.slate_txn.specs.Conflict.{tracked_writes}
use Rattle.slate_txn.specs.Named.{find_named, set_named, update_named, without}
use Rattle.slate_txn.specs.Replay.{Allowed, IsLegal, LegalFrom, apply, apply_all, commit_made, ids_of, replay, used_from}
use Rattle.slate_txn.specs.Reply.{Reply}
use Rattle.slate_txn.specs.Settings.{Settings}
use Rattle.slate_txn.specs.State.{Rules, Commit, State, Tx, begun, is_open, last, last_of, opening}
use Rattle.slate_txn.specs.Step.{closed, noted, reader_or_snapshot, step, with_marks, with_op, with_unmarks}
use Rattle.slate_txn.proofs.LegalLaws.{found_bare}
use Rattle.slate_txn.proofs.NamedLaws.{all_without}
use Rattle.slate_txn.proofs.ScanLaws.{get_left, is_opened, left_more, left_stays, next_keeps, own_left, scan_keeps, seek_keeps}
use Rattle.slate_db.specs.declared.scan.TxnIterator.{TxnIterator}
use Rattle.slate_db.specs.Committed.{IsCommitted}
use Rattle.slate_db.specs.Installs.{Replays}
use Rattle.slate_db.specs.LeftLaws.{CallsBesideKeepWhatIsLeft, AreJournaled, IsLeft, PassesBy, Spares, StepsEndNothing, WhatIsLeftIsOpen, silent, stepped, recorded, taken, marked, unmarked, ended, committed, written}
use Rattle.slate_db.specs.Meaning.{Meaning, rules_of}
use Rattle.slate_db.specs.Model.{CoreModel}
use Rattle.slate_db.specs.Operated.{operated}
use Rattle.slate_db.specs.Scans.{id_of, number_of, scan_of}
use Rattle.slate_db.specs.Written.{IsWritten}
use Rattle.slate_db.proofs.Seen.{found_all}

-- ---- values under names

eq_names : (a b : List ℕ) → bytes_eq a b ≡ true → a ≡ b
eq_names a b = (bytes_eq-Decides a b).0

module _ {X : Type 0} (k id : List ℕ) where
  find_same : (f : X → X) (ps : List (List ℕ × X)) → id ≡ k → find_named k (update_named id f ps) ≡ option_map f (find_named k ps)
  find_same f [] same = refl
  find_same f (p ∷ ps) same = by (bytes_eq p.0 k) refl (find_same f ps same)
    where
      by : (b : Bool) → bytes_eq p.0 k ≡ b → find_named k (update_named id f ps) ≡ option_map f (find_named k ps) →
          find_named k (cond (bytes_eq p.0 id) ((p.0, f p.1) ∷ ps) (p ∷ update_named id f ps)) ≡ option_map f (cond b (Some p.1) (find_named k ps))
      by true is rest =
          ap (λ (c : Bool). find_named k (cond c ((p.0, f p.1) ∷ ps) (p ∷ update_named id f ps))) (ap (bytes_eq p.0) same ∙ is) ∙ ap (λ (c : Bool). cond c (Some (f p.1)) (find_named k ps)) is
      by false is rest =
          ap (λ (c : Bool). find_named k (cond c ((p.0, f p.1) ∷ ps) (p ∷ update_named id f ps))) (ap (bytes_eq p.0) same ∙ is) ∙ ap (λ (c : Bool). cond c (Some p.1) (find_named k (update_named id f ps))) is ∙ rest

  -- of another name
  find_other : (f : X → X) (ps : List (List ℕ × X)) → id ≢ k → find_named k (update_named id f ps) ≡ find_named k ps
  find_other f [] apart = refl
  find_other f (p ∷ ps) apart = by (bytes_eq p.0 id) refl (find_other f ps apart)
    where
      by : (b : Bool) → bytes_eq p.0 id ≡ b → find_named k (update_named id f ps) ≡ find_named k ps → find_named k (cond b ((p.0, f p.1) ∷ ps) (p ∷ update_named id f ps)) ≡ find_named k (p ∷ ps)
      by true is rest = here (bytes_eq p.0 k) refl
        where
          here : (c : Bool) → bytes_eq p.0 k ≡ c → cond c (Some (f p.1)) (find_named k ps) ≡ cond c (Some p.1) (find_named k ps)
          here true at = absurd (apart (sym (eq_names p.0 id is) ∙ eq_names p.0 k at))
          here false at = refl
      by false is rest = ap (cond (bytes_eq p.0 k) (Some p.1)) rest

  find_without : (ps : List (List ℕ × X)) → id ≢ k → find_named k (without id ps) ≡ find_named k ps
  find_without [] apart = refl
  find_without (p ∷ ps) apart = by (bytes_eq p.0 id) refl (find_without ps apart)
    where
      by : (b : Bool) → bytes_eq p.0 id ≡ b → find_named k (without id ps) ≡ find_named k ps → find_named k (cond b ps (p ∷ without id ps)) ≡ find_named k (p ∷ ps)
      by true is rest = here (bytes_eq p.0 k) refl
        where
          here : (c : Bool) → bytes_eq p.0 k ≡ c → find_named k ps ≡ cond c (Some p.1) (find_named k ps)
          here true at = absurd (apart (sym (eq_names p.0 id is) ∙ eq_names p.0 k at))
          here false at = refl
      by false is rest = ap (cond (bytes_eq p.0 k) (Some p.1)) rest

find_set : {X : Type 0} (k id : List ℕ) (x : X) (ps : List (List ℕ × X)) → IsSome (find_named k ps) → find_named k (set_named id x ps) ≡ find_named k ps
find_set k id x [] found = cc
find_set k id x (p ∷ ps) found = by (bytes_eq p.0 k) found (find_set k id x ps)
  where
    by : (b : Bool) → IsSome (cond b (Some p.1) (find_named k ps)) → (IsSome (find_named k ps) → find_named k (set_named id x ps) ≡ find_named k ps) → cond b (Some p.1) (find_named k (set_named id x ps)) ≡ cond b (Some p.1) (find_named k ps)
    by true found rest = refl
    by false found rest = rest found

some_still : {X : Type 0} (f : X → X) (o : Option X) → IsSome o → IsSome (option_map f o)
some_still f None h = cc
some_still f (Some x) h = refl

was_there : {X : Type 0} (f : X → X) (o : Option X) (y : X) → option_map f o ≡ Some y → (x : X) × (o ≡ Some x) × (f x ≡ y)
was_there f None y h = cc
was_there f (Some x) y h = (x, refl, same_Some (f x) y h)

stays_open : {X : Type 0} (k id : List ℕ) (f : X → X) (ps : List (List ℕ × X)) → IsSome (find_named k ps) → IsSome (find_named k (update_named id f ps))
stays_open k id f ps h = by (bytes_eq id k) refl
  where
    by : (b : Bool) → bytes_eq id k ≡ b → IsSome (find_named k (update_named id f ps))
    by true is = subst IsSome (sym (find_same k id f ps (eq_names id k is))) (some_still f (find_named k ps) h)
    by false is = subst IsSome (sym (find_other k id f ps (λ same. let clash : true ≡ false = sym ((bytes_eq-Decides id k).1 same) ∙ is in cc))) h

-- ---- each begin stands at or below the last commit

abbrev AreBegun : ℕ → State → Type 0
AreBegun n0 s = AllByRecursion (λ p. p.1.begin ≤ last_of n0 s.commits) s.txns

last_more : (n : ℕ) (cs : List Commit) (c : Commit) → last_of n (cs ++ (c ∷ [])) ≡ c.seq
last_more n [] c = refl
last_more n (x ∷ xs) c = last_more x.seq xs c

still_begun : (n m : ℕ) (ps : List (List ℕ × Tx)) → n ≤ m → AllByRecursion (λ p. p.1.begin ≤ n) ps → AllByRecursion (λ p. p.1.begin ≤ m) ps
still_begun n m ps up h = AllByRecursion_weaken _ _ (λ p b. let low : p.1.begin ≤ n = b in omega arith) ps h

next_last : (n0 n : ℕ) (s : State) (c : Commit) → n ≡ last_of n0 s.commits + 1 → c.seq ≡ n → last_of n0 s.commits ≤ last_of n0 (s.commits ++ (c ∷ []))
next_last n0 n s c next seq = let is : last_of n0 (s.commits ++ (c ∷ [])) ≡ last_of n0 s.commits + 1 = last_more n0 s.commits c ∙ seq ∙ next in omega arith

begun_apply : (n0 : ℕ) (s : State) (used : List (List ℕ)) (e : Event) → Allowed n0 s used e → AreBegun n0 s → AreBegun n0 (apply s e)
begun_apply n0 s used (events.Begin id level start) a h = AllByRecursion_append _ s.txns ((id, begun level start) ∷ []) h (let at : start ≡ last_of n0 s.commits = a.1 in omega arith, tt)
begun_apply n0 s used (events.End id) a h = all_without _ id s.txns h
begun_apply n0 s used (events.Commit id None now ops tracked ts) a h =
    subst (λ (cs : List Commit). AllByRecursion (λ p. p.1.begin ≤ last_of n0 cs) (without id s.txns)) (sym (append-nil s.commits)) (all_without _ id s.txns h)
begun_apply n0 s used (events.Commit id (Some n) now ops tracked ts) a h =
    still_begun (last_of n0 s.commits) _ (without id s.txns) (next_last n0 n s (record { seq = n; now = now; ops = ops; tracked = tracked }) a.1.0 refl) (all_without _ id s.txns h)
begun_apply n0 s used (events.Write n now ops) a h =
    still_begun (last_of n0 s.commits) _ s.txns (next_last n0 n s (record { seq = n; now = now; ops = ops; tracked = batch_keys ops }) a.0.0 refl) h
begun_apply n0 s used events.Freeze a h = h
begun_apply n0 s used (events.Install through tables) a h = h
begun_apply n0 s used (events.Snapshot id n) a h = h
begun_apply n0 s used (events.Release id) a h = h

-- of the events before the last
legal_begun : (n0 : ℕ) (s : State) (used : List (List ℕ)) (es : List Event) (e : Event) → LegalFrom n0 s used (es ++ (e ∷ [])) → AreBegun n0 s → AreBegun n0 (apply_all s es)
legal_begun n0 s used [] e legal h = h
legal_begun n0 s used (x ∷ es) e legal h = legal_begun n0 (apply s x) (ids_of x ++ used) es e legal.1 (begun_apply n0 s used x legal.0 h)

legal_last : (n0 : ℕ) (s : State) (used : List (List ℕ)) (es : List Event) (e : Event) → LegalFrom n0 s used (es ++ (e ∷ [])) → Allowed n0 (apply_all s es) (used_from used es) e
legal_last n0 s used [] e legal = legal.0
legal_last n0 s used (x ∷ es) e legal = legal_last n0 (apply s x) (ids_of x ++ used) es e legal.1

-- a commit that comes stands above the begins of all who are open
above : (n0 n : ℕ) (es : List Event) (e : Event) (s : State) (k : List ℕ) (t : Tx) → Replays es s → IsLegal n0 (es ++ (e ∷ [])) → n ≡ last_of n0 (replay es).commits + 1 → find_named k s.txns ≡ Some t → t.begin < n
above n0 n es e s k t replays legal next found =
    let low : t.begin ≤ last_of n0 (replay es).commits = found_all (λ (t : Tx). t.begin ≤ last_of n0 (replay es).commits) k (replay es).txns (begun t.level t.begin) (legal_begun n0 opening [] es e legal tt)
    (ap (find_named k) replays.txns ∙ found_bare k s t found) in
    omega (arith, next)

-- ---- a line that passes by

passes : (r : Rules) (s : State) (l : Line) (k : List ℕ) → PassesBy k l → IsSome (find_named k s.txns) → (find_named k (step r s l).0.txns ≡ find_named k s.txns) × ((step r s l).0.commits ≡ s.commits)
passes r s (lines.Begin name level) k h found = by _ _ (is_open s name)
  where
    after : State
    after = record s { txns = set_named name (begun level (last r s)) s.txns }

    by : (x y : Reply) (b : Bool) → (find_named k (cond {A = State × Reply} b (s, x) (after, y)).0.txns ≡ find_named k s.txns) × ((cond {A = State × Reply} b (s, x) (after, y)).0.commits ≡ s.commits)
    by x y true = (refl, refl)
    by x y false = (find_set k name (begun level (last r s)) s.txns found, refl)
passes r s (lines.Snapshot name) k h found = by _ _ (is_open s name)
  where
    after : State
    after = record s { snapshots = set_named name (last r s) s.snapshots }

    by : (x y : Reply) (b : Bool) → (find_named k (cond {A = State × Reply} b (s, x) (after, y)).0.txns ≡ find_named k s.txns) × ((cond {A = State × Reply} b (s, x) (after, y)).0.commits ≡ s.commits)
    by x y true = (refl, refl)
    by x y false = (refl, refl)
passes r s (lines.Rollback name) k h found = by _ _ (is_open s name)
  where
    by : (x y : Reply) (b : Bool) → (find_named k (cond {A = State × Reply} b (closed s name, x) (s, y)).0.txns ≡ find_named k s.txns) × ((cond {A = State × Reply} b (closed s name, x) (s, y)).0.commits ≡ s.commits)
    by x y true = (find_without k name s.txns h, refl)
    by x y false = (refl, refl)
passes r s lines.Freeze k h found = (refl, refl)
passes r s lines.Flush k h found = (refl, refl)
passes r s (lines.Now m) k h found = absurd h
passes r s (lines.Get name key) k h found = absurd h
passes r s (lines.Scan name order start end sts) k h found = absurd h
passes r s (lines.Prefix name order p start end sts) k h found = absurd h
passes r s (lines.Put name key v ttl) k h found = absurd h
passes r s (lines.Merge name key v ttl) k h found = absurd h
passes r s (lines.Delete name key) k h found = absurd h
passes r s (lines.Mark name ks) k h found = absurd h
passes r s (lines.Unmark name ks) k h found = absurd h
passes r s (lines.Commit name) k h found = absurd h
passes r s (lines.Write batch) k h found = absurd h
passes r s lines.Journal k h found = absurd h

-- ---- a step that spares the scan

spared : (r : Rules) (cs : List Commit) (b : ℕ) (ts : List TranscriptStep) (n : ℕ) (s : TranscriptStep) (x : Left) → Spares n s → slice_get (scans_left r cs b ts) n ≡ Some x → slice_get (scans_left r cs b (ts ++ (s ∷ []))) n ≡ Some x
spared r cs b ts n (steps.Get k a) x spares h = ap (λ (ls : List Left). slice_get ls n) (get_left r cs b ts k a) ∙ h
spared r cs b ts n (steps.Scan order range) x spares h = scan_keeps r cs b ts order range n x h
spared r cs b ts n (steps.Next i a) x spares h = next_keeps r cs b ts i n a spares ∙ h
spared r cs b ts n (steps.Seek i k) x spares h = seek_keeps r cs b ts i n k spares ∙ h
spared r cs b ts n (steps.View range) x spares h = ap (λ (ls : List Left). slice_get ls n) (left_more r cs b [] [] ts (steps.View range ∷ [])) ∙ h
spared r cs b ts n (steps.Own k op) x spares h = ap (λ (ls : List Left). slice_get ls n) (own_left r cs b ts k op) ∙ h

-- ---- a core

module _ (m : Meaning) (old new : CoreModel) (it : TxnIterator) (rows : List RowEntry) where
  abbrev slot : Settings → List Commit → Tx → Option Left
  slot o cs t = slice_get (scans_left (rules_of o m) cs t.begin t.transcript) (number_of it)

  abbrev rest : Option Left
  rest = Some ((scan_of it).order, rows)

  -- its transaction stays as it is, below later commits
  kept_left : (later : List Commit) → new.settings ≡ old.settings → new.state.commits ≡ old.state.commits ++ later → find_named (id_of it) new.state.txns ≡ find_named (id_of it) old.state.txns →
      ((t : Tx) → find_named (id_of it) old.state.txns ≡ Some t → AllByRecursion (λ c. t.begin < c.seq) later) → IsLeft m old it rows → IsLeft m new it rows
  kept_left later settings commits found above_all h = record {
    is_open = subst IsSome (sym found) h.is_open;
    left = λ t e.
        ap (λ (o : Settings). slot o new.state.commits t) settings ∙ ap (λ (cs : List Commit). slot old.settings cs t) commits
        ∙ ap (λ (ls : List Left). slice_get ls (number_of it)) (left_stays (rules_of old.settings m) old.state.commits later t.begin t.transcript (above_all t (sym found ∙ e)))
        ∙ h.left t (sym found ∙ e);
  }

  same_left : new.settings ≡ old.settings → new.state.commits ≡ old.state.commits → find_named (id_of it) new.state.txns ≡ find_named (id_of it) old.state.txns → IsLeft m old it rows → IsLeft m new it rows
  same_left settings commits found h = kept_left [] settings (commits ∙ sym (append-nil old.state.commits)) found (λ t e. tt) h

  changed_left : (id : List ℕ) (f : Tx → Tx) → new ≡ operated old id f → ((t : Tx) → id ≡ id_of it → slot old.settings old.state.commits t ≡ rest → slot old.settings old.state.commits (f t) ≡ rest) → IsLeft m old it rows → IsLeft m new it rows
  changed_left id f is moves h = subst (λ (c : CoreModel). IsLeft m c it rows) (sym is) (record {
    is_open = stays_open (id_of it) id f old.state.txns h.is_open;
    left = λ t e. by (bytes_eq id (id_of it)) refl t e;
  })
    where
      by : (b : Bool) → bytes_eq id (id_of it) ≡ b → (t : Tx) → find_named (id_of it) (update_named id f old.state.txns) ≡ Some t → slot old.settings old.state.commits t ≡ rest
      by true same t e =
          let named : id ≡ id_of it = eq_names id (id_of it) same in
          let was = was_there f (find_named (id_of it) old.state.txns) t (sym (find_same (id_of it) id f old.state.txns named) ∙ e) in
          subst (λ (u : Tx). slot old.settings old.state.commits u ≡ rest) was.2 (moves was.0 named (h.left was.0 was.1))
      by false other t e = h.left t (sym (find_other (id_of it) id f old.state.txns (λ same. let clash : true ≡ false = sym ((bytes_eq-Decides id (id_of it)).1 same) ∙ other in cc)) ∙ e)

  recorded_left : (id : List ℕ) (s : TranscriptStep) → (id ≡ id_of it → Spares (number_of it) s) → new ≡ record old { state = noted old.state id (s ∷ []) } → IsLeft m old it rows → IsLeft m new it rows
  recorded_left id s spares is h = changed_left id (λ t. record t { transcript = t.transcript ++ (s ∷ []) }) is
      (λ t same k. spared (rules_of old.settings m) old.state.commits t.begin t.transcript (number_of it) s ((scan_of it).order, rows) (spares same) k) h

  taken_left : (id k : List ℕ) (op : WriteOp) → new ≡ operated old id (with_op k op) → IsLeft m old it rows → IsLeft m new it rows
  taken_left id k op is h = changed_left id (with_op k op) is
      (λ t same g. spared (rules_of old.settings m) old.state.commits t.begin t.transcript (number_of it) (steps.Own k op) ((scan_of it).order, rows) tt g) h

  committed_left : (id : List ℕ) (n : Option ℕ) (now : ℤ) (t : Tx) → id ≢ id_of it → AreJournaled old new → IsCommitted old new id n now t → IsLeft m old it rows → IsLeft m new it rows
  committed_left id None now t other follows is h =
      same_left (ap (λ (c : CoreModel). c.settings) is.1) (ap (λ (c : CoreModel). c.state.commits) is.1 ∙ append-nil old.state.commits)
      (ap (λ (c : CoreModel). find_named (id_of it) c.state.txns) is.1 ∙ find_without (id_of it) id old.state.txns other) h
  committed_left id (Some n) now t other follows is h =
      kept_left (commit_made (Some n) now (kept_ops t.ops) (tracked_writes t)) (ap (λ (c : CoreModel). c.settings) is) (ap (λ (c : CoreModel). c.state.commits) is)
      (ap (λ (c : CoreModel). find_named (id_of it) c.state.txns) is ∙ find_without (id_of it) id old.state.txns other)
      (λ u e. (above new.settings.start_seq n old.events event old.state (id_of it) u follows.replays legal (legal_last new.settings.start_seq opening [] old.events event legal).1.0 e, tt)) h
    where
      event : Event
      event = events.Commit id (Some n) now (kept_ops t.ops) (tracked_writes t) t.transcript

      legal : IsLegal new.settings.start_seq (old.events ++ (event ∷ []))
      legal = subst (IsLegal new.settings.start_seq) (ap (λ (c : CoreModel). c.events) is) follows.legal

  written_left : (n : Option ℕ) (now : ℤ) (ops : Ops) → AreJournaled old new → IsWritten old new n now ops → IsLeft m old it rows → IsLeft m new it rows
  written_left None now ops follows is h = subst (λ (c : CoreModel). IsLeft m c it rows) (sym is.1) h
  written_left (Some n) now ops follows is h =
      kept_left (commit_made (Some n) now ops (batch_keys ops)) (ap (λ (c : CoreModel). c.settings) is) (ap (λ (c : CoreModel). c.state.commits) is) (ap (λ (c : CoreModel). find_named (id_of it) c.state.txns) is)
      (λ u e. (above new.settings.start_seq n old.events (events.Write n now ops) old.state (id_of it) u follows.replays legal (legal_last new.settings.start_seq opening [] old.events (events.Write n now ops) legal).0.0 e, tt)) h
    where
      legal : IsLegal new.settings.start_seq (old.events ++ (events.Write n now ops ∷ []))
      legal = subst (IsLegal new.settings.start_seq) (ap (λ (c : CoreModel). c.events) is) follows.legal

  stepped_left : (r : Rules) (l : Line) (a : Reply) → PassesBy (id_of it) l → new.settings ≡ old.settings → step r old.state l ≡ (new.state, a) → IsLeft m old it rows → IsLeft m new it rows
  stepped_left r l a passing settings is h =
      let both = passes r old.state l (id_of it) passing h.is_open in
      let reached : (step r old.state l).0 ≡ new.state = ap (λ (p : State × Reply). p.0) is in
      same_left settings (ap (λ (s : State). s.commits) (sym reached) ∙ both.1) (ap (λ (s : State). find_named (id_of it) s.txns) (sym reached) ∙ both.0) h

-- ---- the laws

pub calls_keep : CallsBesideKeepWhatIsLeft
calls_keep m old new it rows (silent settings commits txns) h = same_left m old new it rows settings commits (ap (find_named (id_of it)) txns) h
calls_keep m old new it rows (stepped r l a passing settings is) h = stepped_left m old new it rows r l a passing settings is h
calls_keep m old new it rows (recorded id s spares is) h = recorded_left m old new it rows id s spares is h
calls_keep m old new it rows (taken id k op is) h = taken_left m old new it rows id k op is h
calls_keep m old new it rows (marked id ks is) h = changed_left m old new it rows id (with_marks ks) is (λ t same k. k) h
calls_keep m old new it rows (unmarked id ks is) h = changed_left m old new it rows id (with_unmarks ks) is (λ t same k. k) h
calls_keep m old new it rows (ended id other is) h =
    same_left m old new it rows (ap (λ (c : CoreModel). c.settings) is) (ap (λ (c : CoreModel). c.state.commits) is) (ap (λ (c : CoreModel). find_named (id_of it) c.state.txns) is ∙ find_without (id_of it) id old.state.txns other) h
calls_keep m old new it rows (committed id n now t other follows is) h = committed_left m old new it rows id n now t other follows is h
calls_keep m old new it rows (written n now ops follows is) h = written_left m old new it rows n now ops follows is h

pub steps_end_nothing : StepsEndNothing
steps_end_nothing old new id other ts is h =
    subst (λ (c : CoreModel). IsSome (find_named id c.state.txns)) (sym is) (stays_open id other (λ (t : Tx). record t { transcript = t.transcript ++ ts }) old.state.txns h)

reads_there : (o : Option Tx) (n : Option ℕ) → IsSome o → IsSome (reader_or_snapshot o n)
reads_there None n h = cc
reads_there (Some t) n h = refl

pub left_is_open : WhatIsLeftIsOpen
left_is_open m c it rows h = (
  reads_there (find_named (id_of it) c.state.txns) (find_named (id_of it) c.state.snapshots) h.is_open,
  λ t e. is_opened (rules_of c.settings m) c.state.commits t.begin t.transcript (number_of it) ((scan_of it).order, rows) (h.left t e),
)
