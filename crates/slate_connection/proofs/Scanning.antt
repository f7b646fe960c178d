-- Walks over the rows of a scan by what is open, and what the whole scan leaves.
use Rattle.std.proofs.Common.{◌≡◌, ◌⊎◌, inl, inr, ℕ, ◌+◌, ◌<◌, List, [], ◌∷◌, ◌++◌, drop, Option, Some, None, Result, Ok, Err, ap, refl, sym, subst, ◌∙◌, append_assoc, append-nil, arith, length}
use Rattle.std.specs.Prelude.{IfErr, IfOk, OnErr, OnOk, count_by}
use Rattle.std.proofs.lemmas.Option.{same_Some}
use mathlib.Core.List.{IsPrefix}
use Rattle.slate_types.specs.declared.bytes_range.BytesRange.{BytesRange}
use Rattle.slate_types.specs.declared.config.IsolationLevel.{IsolationLevel}
use Rattle.slate_types.specs.declared.config.IsolationLevel.TheVariants.{Snapshot}
use Rattle.slate_types.specs.declared.error.SlateDBError.{SlateDBError}
use Rattle.slate_types.specs.declared.error.SlateDBError.TheVariants.{InvalidRange, OutOfMemory}
use Rattle.slate_types.specs.declared.filter_policy.FilterQuery.{FilterQuery}
use Rattle.slate_types.specs.declared.iter.IterationOrder.{IterationOrder}
use Rattle.slate_types.specs.declared.types.KeyValue.{KeyValue}
use Rattle.slate_types.specs.declared.types.RowEntry.{RowEntry}
use Rattle.slate_types.specs.Outside.{IsFault, Objects, OnlyReads, Reach}
use Rattle.slate_types.proofs.Reaching.{reads_none, reads_then}
use Rattle.slate_txn.specs.declared.event.Event.{Event}
use Rattle.slate_txn.specs.declared.event.TranscriptStep.{TranscriptStep}
use Rattle.slate_txn.specs.declared.event.TranscriptStep.TheVariants as steps
use Rattle.slate_txn.specs.Step.{is_scan}
use Rattle.slate_txn.proofs.OwnLaws.{count_more, count_same}
use Rattle.slate_db.specs.declared.scan.TxnIterator.{TxnIterator}
use Rattle.slate_db.specs.Scans.{IsScanOf, id_of, number_of, scan_of}
use Rattle.slate_db.specs.TxnScans.{IsNext}
use Rattle.slate_shared.specs.Passes.{Opened}
use Rattle.slate_shared.specs.Scans.{IsScanOpened, noted_next, rows_of_range}
use Rattle.slate_shared.proofs.Lists.{prefix_self}
use Rattle.slate_steps.specs.Attempts.{IsAttempt, IsReadErrorOn, IsReadingOn, IsScanSinceOn, IsStoreChecked, IsVouchedThere}
use Rattle.slate_steps.specs.Reads.{IsMetBy}
use Rattle.slate_steps.proofs.Attempts.{vouched_on}
use Rattle.slate_steps.proofs.OnPass.{next_attempt, next_checked_on, next_reading_on, next_since_on, scan_attempt, scan_cause, scan_checked, scan_more, scan_refused, scan_since, scan_vouched_there}
use Rattle.slate_steps.proofs.Reading.{if_err_map}
use Rattle.slate_steps.proofs.StoreTruth.{checked_earlier, earlier_checked_os, met_first, met_last}
use Rattle.slate_connection.specs.Connected.{ConnectionModel, GoesOn, IsOpenAttempt, Stays, Terms, taken}
use Rattle.slate_connection.specs.Scanned.{HandsUpTo, HasScanned, HasWalked, IsScanRefused, AddsScan, WalksOn, next_steps}
use Rattle.slate_connection.proofs.Going.{attempt_nothing, goes_none, if_ok, open_as, read_through, reads_same}
use Rattle.slate_connection.proofs.Slot.{stays_by}

module _ (p : Terms) where
  -- ---- the walk

  pub walks_none : (a : Reach) (t : Opened) (x : TxnIterator) → WalksOn p a a t t x x []
  walks_none a t x = record {
    table = refl;
    id = refl;
    seen = refl;
    taken = sym (append-nil t.tx.transcript);
    named = record { named = refl; number = refl; ordered = refl; ranged = refl };
    opens = λ from level h. h;
    reading = λ os rows meant met h. (rows, h, λ v. v);
    since = λ from h. h;
    reads = reads_none a;
  }

  pub walks_then : (a b c : Reach) (t u v : Opened) (x y z : TxnIterator) (us vs : List TranscriptStep) → WalksOn p a b t u x y us → WalksOn p b c u v y z vs → WalksOn p a c t v x z (us ++ vs)
  walks_then a b c t u v x y z us vs f l = record {
    table = l.table ∙ f.table;
    id = l.id ∙ f.id;
    seen = l.seen ∙ f.seen;
    taken = l.taken ∙ ap (λ (ws : List TranscriptStep). ws ++ vs) f.taken ∙ append_assoc t.tx.transcript us vs;
    named = record {
      named = l.named.named ∙ f.named.named;
      number = l.named.number ∙ f.named.number;
      ordered = l.named.ordered ∙ f.named.ordered;
      ranged = l.named.ranged ∙ f.named.ranged;
    };
    opens = λ from level h. l.opens from level (f.opens from level h);
    reading = λ os rows meant met h.
        let r = f.reading os rows meant (met_first p.meaning os a b c f.reads l.reads met) h in
        let q = l.reading os r.0 (f.reads.meaning ∙ meant) (met_last p.meaning os a b c f.reads l.reads met) r.1 in
        (q.0, q.1, λ v. q.2 (r.2 v));
    since = λ from h.
        subst (λ (es : List Event). IsScanSinceOn p.options from c es z) f.seen
        (l.since from (subst (λ (es : List Event). IsScanSinceOn p.options from b es y) (sym f.seen) (f.since from h)));
    reads = reads_then a b c f.reads l.reads;
  }

  pub walked_of : (a b : Reach) (t u : Opened) (x y : TxnIterator) (us : List TranscriptStep) → WalksOn p a b t u x y us → HasWalked p a b t u x
  walked_of a b t u x y us h = record {
    table = h.table;
    id = h.id;
    seen = h.seen;
    more = (us, sym h.taken);
    opens = h.opens;
    vouched = λ os rows meant met r. (h.reading os rows meant met r).2;
    reads = h.reads;
  }

  -- it is refused after these steps
  pub walked_still : (a b c : Reach) (t u v : Opened) (x y : TxnIterator) (us : List TranscriptStep) → WalksOn p a b t u x y us → v ≡ u → OnlyReads b c → HasWalked p a c t v x
  walked_still a b c t u v x y us h is later = record {
    table = ap (λ (z : Opened). z.table) is ∙ h.table;
    id = ap (λ (z : Opened). z.id) is ∙ h.id;
    seen = ap (λ (z : Opened). z.seen) is ∙ h.seen;
    more = (us, sym (ap (λ (z : Opened). z.tx.transcript) is ∙ h.taken));
    opens = λ from level o. subst (IsOpenAttempt p from level) (sym is) (h.opens from level o);
    vouched = λ os rows meant met r k. subst (IsVouchedThere p.options p.meaning) (sym is) ((h.reading os rows meant (met_first p.meaning os a b c h.reads later met) r).2 k);
    reads = reads_then a b c h.reads later;
  }

  -- ---- a next

  module _ (a b : Reach) (t u : Opened) (x y : TxnIterator) (quiet : Type 0) (q : Option KeyValue) (noted : u ≡ record t { tx = noted_next (number_of x) q t.tx }) (h : IsNext a b quiet x y (Ok q)) where
    reading_next : (os : Objects) (rows : List RowEntry) → a.meaning ≡ p.meaning → IsReadingOn os p.options p.meaning t x rows → IsMetBy p.meaning os a b →
        (left : List RowEntry) × IsReadingOn os p.options p.meaning u y left × (IsVouchedThere p.options p.meaning t → IsVouchedThere p.options p.meaning u)
    reading_next os rows meant r (inl answered) =
        let g = next_reading_on p.options p.meaning t u x y a b (Ok q) noted h.names h.rows os rows meant answered r in
        (drop 1 rows, g.1, g.2)
    reading_next os rows meant r (inr unslipped) =
        let g = next_checked_on p.options p.meaning t u x y a b (Ok q) noted h.names h.rows h.checked h.later os rows meant unslipped r in
        (drop 1 rows, g.1, g.2)

    pub next_walks : WalksOn p a b t u x y (steps.Next (number_of x) q ∷ [])
    next_walks = record {
      table = ap (λ (z : Opened). z.table) noted;
      id = ap (λ (z : Opened). z.id) noted;
      seen = ap (λ (z : Opened). z.seen) noted;
      taken = ap (λ (z : Opened). z.tx.transcript) noted;
      named = h.names;
      opens = λ from level o. open_as p from level _ u (next_attempt p.options p.meaning t u x y a b (Ok q) noted from level t.tx.transcript o);
      reading = λ os rows meant met r. reading_next os rows meant r met;
      since = λ from s. next_since_on {E = SlateDBError} (Ok q) p.options from a b t.seen x y s h.later;
      reads = h.reads;
    }

  pub next_walks_at : (a b : Reach) (t u : Opened) (x y : TxnIterator) (quiet : Type 0) (r : Result (Option KeyValue) SlateDBError) (q : Option KeyValue) → r ≡ Ok q → IfOk r (λ s. u ≡ record t { tx = noted_next (number_of x) s t.tx }) → IsNext a b quiet x y r →
      WalksOn p a b t u x y (steps.Next (number_of x) q ∷ [])
  next_walks_at a b t u x y quiet r q is noted h = next_walks a b t u x y quiet q (if_ok _ r q is noted) (subst (IsNext a b quiet x y) is h)

  -- ---- row by row

  steps_more : (n : ℕ) (rows : List KeyValue) (row : KeyValue) → next_steps n (rows ++ (row ∷ [])) ≡ next_steps n rows ++ (steps.Next n (Some row) ∷ [])
  steps_more n [] row = refl
  steps_more n (r ∷ rows) row = ap (λ (ts : List TranscriptStep). steps.Next n (Some r) ∷ ts) (steps_more n rows row)

  -- a, b, c: what is reached at first, before the last answer, and now
  module _ (a b c : Reach) (t u v : Opened) (x y z : TxnIterator) (rows : List KeyValue) (f : WalksOn p a b t u x y (next_steps (number_of x) rows)) where
    behind : (q : Option KeyValue) → WalksOn p b c u v y z (steps.Next (number_of y) q ∷ []) → WalksOn p a c t v x z (next_steps (number_of x) rows ++ (steps.Next (number_of x) q ∷ []))
    behind q l = walks_then a b c t u v x y z (next_steps (number_of x) rows) (steps.Next (number_of x) q ∷ []) f (subst (λ (n : ℕ). WalksOn p b c u v y z (steps.Next n q ∷ [])) f.named.number l)

    pub walks_row : (row : KeyValue) → WalksOn p b c u v y z (steps.Next (number_of y) (Some row) ∷ []) → WalksOn p a c t v x z (next_steps (number_of x) (rows ++ (row ∷ [])))
    walks_row row l = subst (WalksOn p a c t v x z) (sym (steps_more (number_of x) rows row)) (behind (Some row) l)

    pub walks_end : WalksOn p b c u v y z (steps.Next (number_of y) None ∷ []) → WalksOn p a c t v x z (next_steps (number_of x) rows ++ (steps.Next (number_of x) None ∷ []))
    walks_end l = behind None l

    pub hands_all : (limit : ℕ) → length rows < limit → WalksOn p b c u v y z (steps.Next (number_of y) None ∷ []) → HandsUpTo limit (number_of x) t.tx.transcript v.tx.transcript rows
    hands_all limit fewer l = record { last = steps.Next (number_of x) None ∷ []; stopped = inr (fewer, refl); is = (walks_end l).taken }

    pub hands_limit : (limit : ℕ) → length rows ≡ limit → HandsUpTo limit (number_of x) t.tx.transcript u.tx.transcript rows
    hands_limit limit full = record { last = []; stopped = inl (full, refl); is = f.taken ∙ ap (λ (ts : List TranscriptStep). t.tx.transcript ++ ts) (sym (append-nil (next_steps (number_of x) rows))) }

  -- whether it may be asked
  abbrev pub IsReady : Opened → TxnIterator → Type 0
  IsReady t x = (id_of x ≡ t.id) × (number_of x < count_by is_scan t.tx.transcript)

  pub next_ready : (a b : Reach) (t u : Opened) (x y : TxnIterator) (n : ℕ) (q : Option KeyValue) → WalksOn p a b t u x y (steps.Next n q ∷ []) → IsReady t x → IsReady u y
  next_ready a b t u x y n q h r = (
    h.named.named ∙ r.0 ∙ sym h.id,
    subst (λ (k : ℕ × ℕ). k.0 < k.1) (λ i. (sym h.named.number i, sym (ap (count_by is_scan) h.taken ∙ count_same t.tx.transcript (steps.Next n q) refl) i)) r.1,
  )

  -- ---- the opening

  pub opened_ready : (order : IterationOrder) (range : BytesRange) (t u : Opened) (it : TxnIterator) → u.id ≡ t.id → u.tx.transcript ≡ t.tx.transcript ++ (steps.Scan order range ∷ []) → IsScanOf t.id (count_by is_scan t.tx.transcript) order range it → IsReady u it
  opened_ready order range t u it id taken named = (
    named.named ∙ sym id,
    subst (λ (k : ℕ × ℕ). k.0 < k.1) (λ i. (sym named.number i, sym (ap (count_by is_scan) taken ∙ count_more t.tx.transcript (steps.Scan order range)) i)) (one_more (count_by is_scan t.tx.transcript)),
  )
    where
      one_more : (n : ℕ) → n < n + 1
      one_more n = omega arith

  pub record HasOpened (order : IterationOrder) (range : Option BytesRange) (t u : Opened) (a b : Reach) (it : TxnIterator) : Type 0 where
    pub r : BytesRange
    pub is : range ≡ Some r
    pub table : u.table ≡ t.table
    pub id : u.id ≡ t.id
    pub seen : IsPrefix t.seen u.seen
    pub taken : u.tx.transcript ≡ t.tx.transcript ++ (steps.Scan order r ∷ [])
    pub named : IsScanOf t.id (count_by is_scan t.tx.transcript) order r it
    pub opens : (from : List Event) (level : IsolationLevel) → IsOpenAttempt p from level t → IsOpenAttempt p from level u
    pub vouched : IsVouchedThere p.options p.meaning t → IsVouchedThere p.options p.meaning u
    pub reading : (from : List Event) (level : IsolationLevel) → IsOpenAttempt p from level t → (s : IsStoreChecked p.policies p.meaning u.seen a b) → IsReadingOn s.os p.options p.meaning u it (rows_of_range p.options p.meaning u.seen t.tx order r)
    pub since : (from : List Event) (level : IsolationLevel) → IsOpenAttempt p from level t → IsScanSinceOn p.options a b u.seen it
    pub reads : OnlyReads a b

  module _ (order : IterationOrder) (t u : Opened) (a b : Reach) (quiet : Type 0) (query : BytesRange → Option FilterQuery) (meant : a.meaning ≡ p.meaning) where
    abbrev Opens : Result TxnIterator SlateDBError → Option BytesRange → Type 0
    Opens s range = (r : BytesRange) → range ≡ Some r → IsScanOpened p.options p.meaning p.policies (query r) r order t u a b quiet s

    abbrev Fails : Result TxnIterator SlateDBError → Option BytesRange → Type 0
    Fails s range = range ≡ None → ((s ≡ Err InvalidRange) ⊎ (s ≡ Err OutOfMemory)) × (u ≡ t) × quiet

    abbrev refusal : SlateDBError → Result TxnIterator SlateDBError
    refusal e = Err e

    abbrev error_or : SlateDBError → Result TxnIterator SlateDBError → SlateDBError
    error_or x (Ok it) = x
    error_or x (Err e) = e

    no_scan : (it : TxnIterator) (e : SlateDBError) → Ok it ≡ refusal e → ⊥
    no_scan it e is = subst (λ (s : Result TxnIterator SlateDBError). OnErr s ⊥) is tt

    pub opened_at : (s : Result TxnIterator SlateDBError) (it : TxnIterator) (range : Option BytesRange) → s ≡ Ok it → Opens s range → Fails s range → HasOpened order range t u a b it
    opened_at s it range is opens fails = by range (subst (λ (x : Result TxnIterator SlateDBError). Opens x range) is opens) (subst (λ (x : Result TxnIterator SlateDBError). Fails x range) is fails)
      where
        none : {A : Type 0} → (Ok it ≡ refusal InvalidRange) ⊎ (Ok it ≡ refusal OutOfMemory) → A
        none (inl e) = absurd (no_scan it InvalidRange e)
        none (inr e) = absurd (no_scan it OutOfMemory e)

        by : (g : Option BytesRange) → Opens (Ok it) g → Fails (Ok it) g → HasOpened order g t u a b it
        by None opens fails = none (fails refl).0
        by (Some r) opens fails =
            let h = opens r refl in
            let more = scan_more p.options p.meaning p.policies (query r) r order t u a b quiet (Ok it) h in
            record {
              r = r;
              is = refl;
              table = more.0;
              id = more.1;
              seen = more.2;
              taken = ap (λ (z : Opened). z.tx.transcript) h.noted;
              named = h.names;
              opens = λ from level o. open_as p from level _ u (scan_attempt p.options p.meaning p.policies (query r) r order t u a b quiet (Ok it) h from level t.tx.transcript o);
              vouched = scan_vouched_there p.options p.meaning p.policies (query r) r order t u a b quiet (Ok it) h;
              reading = λ from level o s. scan_checked p.options p.meaning p.policies (query r) r order t u a b quiet meant (Ok it) h from level t.tx.transcript o s;
              since = λ from level o. scan_since p.options p.meaning p.policies (query r) r order t u a b quiet (Ok it) h from level t.tx.transcript o (sym meant);
              reads = h.reads;
            }

    pub record IsUnopened (range : Option BytesRange) (e : SlateDBError) : Type 0 where
      pub goes : GoesOn p a b t u
      pub more : IsPrefix t.tx.transcript u.tx.transcript
      pub cause : (from : List Event) (level : IsolationLevel) → IsOpenAttempt p from level t → IsScanRefused p range a b u e
      pub reads : OnlyReads a b

    pub unopened_at : (s : Result TxnIterator SlateDBError) (e : SlateDBError) (range : Option BytesRange) → (quiet → b ≡ a) → s ≡ Err e → Opens s range → Fails s range → IsUnopened range e
    unopened_at s e range still is opens fails = by range (subst (λ (x : Result TxnIterator SlateDBError). Opens x range) is opens) (subst (λ (x : Result TxnIterator SlateDBError). Fails x range) is fails)
      where
        cause_of : (refusal e ≡ refusal InvalidRange) ⊎ (refusal e ≡ refusal OutOfMemory) → IsScanRefused p None a b u e
        cause_of (inl h) = inl (refl, ap (error_or e) h)
        cause_of (inr h) = inr (inl (subst (λ (x : SlateDBError). IsFault a b x) (sym (ap (error_or e) h)) tt))

        by : (g : Option BytesRange) → Opens (Err e) g → Fails (Err e) g → IsUnopened g e
        by None opens fails =
            let f = fails refl in
            record {
              goes = subst (λ (x : Opened × Reach). GoesOn p a x.1 t x.0) (λ i. (sym f.1 i, sym (still f.2) i)) (goes_none p a t);
              more = ([], append-nil t.tx.transcript ∙ sym (ap (λ (z : Opened). z.tx.transcript) f.1));
              cause = λ from level o. cause_of f.0;
              reads = reads_same a b (still f.2);
            }
        by (Some r) opens fails =
            let h = opens r refl in
            let more = scan_more p.options p.meaning p.policies (query r) r order t u a b quiet (Err e) h in
            record {
              goes = record {
                table = more.0;
                id = more.1;
                seen = more.2;
                opens = λ from level o. open_as p from level _ u (scan_refused p.options p.meaning p.policies (query r) r order t u a b quiet (Err e) h from level t.tx.transcript o);
                vouched = λ from level o s v. vouched_on p.options p.meaning t u (ap (λ (z : Opened). z.tx) h.unnoted) h.seen v;
              };
              more = ([], append-nil t.tx.transcript ∙ sym (ap (λ (z : Opened). z.tx.transcript) h.unnoted));
              cause = λ from level o. inr (scan_cause p.options p.meaning p.policies (query r) r order t u a b quiet (Err e) h from level t.tx.transcript o (sym meant));
              reads = h.reads;
            }

  -- ---- the whole scan

  module _ (order : IterationOrder) (range : Option BytesRange) (t u v : Opened) (a b c : Reach) (it : TxnIterator) (h : HasOpened order range t u a b it) (w : HasWalked p b c u v it) where
    pub scan_goes : a.meaning ≡ p.meaning → GoesOn p a c t v
    scan_goes meant = record {
      table = w.table ∙ h.table;
      id = w.id ∙ h.id;
      seen = subst (λ (es : List Event). IsPrefix t.seen es) (sym w.seen) h.seen;
      opens = λ from level o. w.opens from level (h.opens from level o);
      vouched = λ from level o s k. w.vouched s.os _ (h.reads.meaning ∙ meant) (met_last p.meaning s.os a b c h.reads w.reads s.met) (reading from level o s) (h.vouched k);
    }
      where
        known : IsPrefix u.seen v.seen
        known = subst (λ (es : List Event). IsPrefix u.seen es) (sym w.seen) (prefix_self u.seen)

        reading : (from : List Event) (level : IsolationLevel) → IsOpenAttempt p from level t → (s : IsStoreChecked p.policies p.meaning v.seen a c) → IsReadingOn s.os p.options p.meaning u it (rows_of_range p.options p.meaning u.seen t.tx order h.r)
        reading from level o s =
            subst (λ (os : Objects). IsReadingOn os p.options p.meaning u it (rows_of_range p.options p.meaning u.seen t.tx order h.r)) (earlier_checked_os p.policies p.meaning u.seen v.seen a b c known h.reads w.reads s)
            (h.reading from level o (checked_earlier p.policies p.meaning u.seen v.seen a b c known h.reads w.reads s))

    pub scan_more_steps : IsPrefix t.tx.transcript v.tx.transcript
    scan_more_steps = (
      (steps.Scan order h.r ∷ []) ++ w.more.0,
      sym (append_assoc t.tx.transcript (steps.Scan order h.r ∷ []) w.more.0) ∙ ap (λ (ts : List TranscriptStep). ts ++ w.more.0) (sym h.taken) ∙ w.more.1,
    )

    pub scan_steps : (limit : ℕ) (rows : List KeyValue) → HandsUpTo limit (number_of it) u.tx.transcript v.tx.transcript rows → (r : BytesRange) × (range ≡ Some r) × AddsScan order r limit t.tx.transcript v.tx.transcript rows
    scan_steps limit rows handed = (h.r, h.is, subst (λ (x : ℕ × List TranscriptStep). HandsUpTo limit x.0 x.1 v.tx.transcript rows) (λ i. (h.named.number i, h.taken i)) handed)

    pub scan_reads : OnlyReads a c
    scan_reads = reads_then a b c h.reads w.reads

    pub scan_error_at : {A : Type 0} (s : Result A SlateDBError) → ((from : Reach) → OnlyReads from b → IsScanSinceOn p.options from b u.seen it → IfErr s (IsReadErrorOn p.options p.policies from c u.seen)) →
        (from : List Event) (level : IsolationLevel) → IsOpenAttempt p from level t → IfErr s (IsScanRefused p range a c v)
    scan_error_at s cause from level o =
        if_err_map s _ _ (λ e refused. inr (subst (λ (es : List Event). IsReadErrorOn p.options p.policies a c es e) (sym w.seen) refused)) (cause a h.reads (h.since from level o))

-- ---- the connection

-- a scan by what is open; a, b: what its environment reached
module _ (p : Terms) (s n : ConnectionModel) (t u : Opened) (a b : Reach) (was : s.txn ≡ Some t) (is : n.txn ≡ Some u) (from_is : a ≡ s.reach) (to_is : b ≡ n.reach) where
  pub stays_scanned : n.pass ≡ s.pass → OnlyReads a b → GoesOn p a b t u → Stays p s n
  stays_scanned same reads goes =
      stays_by p s n t u was is same (subst (λ (x : Reach × Reach). OnlyReads x.0 x.1) (λ i. (from_is i, to_is i)) reads)
      (subst (λ (x : Reach × Reach). GoesOn p x.0 x.1 t u) (λ i. (from_is i, to_is i)) goes)

  pub cause_scanned : {A : Type 0} (r : Result A SlateDBError) (range : Option BytesRange) → ((from : List Event) (level : IsolationLevel) → IsOpenAttempt p from level t → IfErr r (IsScanRefused p range a b u)) →
      (x : Opened) (from : List Event) (level : IsolationLevel) → s.txn ≡ Some x → IsOpenAttempt p from level x → IfErr r (λ e. (y : Opened) × (n.txn ≡ Some y) × IsScanRefused p range s.reach n.reach y e)
  cause_scanned r range cause x from level there h =
      if_err_map r _ _ (λ e refusal. (u, is, subst (λ (y : Reach × Reach). IsScanRefused p range y.0 y.1 u e) (λ i. (from_is i, to_is i)) refusal))
      (cause from level (subst (IsOpenAttempt p from level) (sym (same_Some t x (sym was ∙ there))) h))

-- by a transaction of its own
pub scanned_through : (p : Terms) (old mid next new : ConnectionModel) (t : Opened) (range : Option BytesRange) (order : IterationOrder) (limit : ℕ) (rows : List KeyValue) → mid.reach ≡ old.reach → Stays p mid next → new.reach ≡ next.reach →
    mid.txn ≡ Some t → IsAttempt p.options old.pass.seen Snapshot [] t → ((u : Opened) → next.txn ≡ Some u → IsPrefix u.seen new.pass.seen) → (r : BytesRange) × (range ≡ Some r) × AddsScan order r limit (taken mid) (taken next) rows → HasScanned p range order limit old new rows
scanned_through p old mid next new t range order limit rows still ran ends there begins known (r, is, scanned) =
    let nothing : taken mid ≡ [] = attempt_nothing p old.pass.seen Snapshot mid t there begins in
    record {
      r = r;
      is = is;
      taken = taken next;
      read = read_through p old mid next new t (taken next) still ran ends there begins known (ap (λ (us : List TranscriptStep). us ++ taken next) (sym nothing));
      scanned = subst (λ (us : List TranscriptStep). AddsScan order r limit us (taken next) rows) nothing scanned;
    }
