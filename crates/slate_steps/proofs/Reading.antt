-- The reads of a transaction.
use Rattle.std.proofs.Common.{◌≡◌, ◌+◌, ◌⊎◌, inl, inr, ℕ, Bool, true, false, cond, List, [], ◌∷◌, ◌++◌, drop, append_assoc, Option, Some, None, Result, Ok, Err, refl, sym, ap, subst, ◌∙◌}
use Rattle.std.specs.Prelude.{IfErr, IfOk, OnErr, OnOk, count_by, slice_get}
use Rattle.slate_types.specs.declared.bytes_range.BytesRange.{BytesRange}
use Rattle.slate_types.specs.declared.config.IsolationLevel.{IsolationLevel}
use Rattle.slate_types.specs.declared.error.SlateDBError.{SlateDBError}
use Rattle.slate_types.specs.declared.filter_policy.FilterQuery.{FilterQuery}
use Rattle.slate_types.specs.declared.iter.IterationOrder.{IterationOrder}
use Rattle.slate_types.specs.declared.types.KeyValue.{KeyValue}
use Rattle.slate_types.specs.declared.types.RowEntry.{RowEntry}
use Rattle.slate_types.specs.Keys.{is_refused, prefix_end, prefix_range, prefix_start, prefix_subrange}
use Rattle.slate_types.specs.Outside.{Act, IsFault, Meaning, Objects, OnlyReads, Reach}
use Rattle.slate_types.specs.Refusing.{NoMore}
use Rattle.slate_types.specs.World.{Checks, IsCall, Kept, Made, Sees, Slips, World}
use Rattle.slate_types.proofs.Calls.{call_both}
use Rattle.slate_types.proofs.KeyLaws.{whole_subrange}
use Rattle.slate_types.proofs.Reaching.{fault_earlier}
use Rattle.slate_filter.specs.Policy.{Policy}
use Rattle.slate_mem.specs.Batch.{Ops}
use Rattle.slate_mem.specs.KeyTests.{Segments}
use Rattle.slate_txn.specs.declared.event.TranscriptStep.{TranscriptStep}
use Rattle.slate_txn.specs.declared.event.TranscriptStep.TheVariants as steps
use Rattle.slate_txn.specs.Alone.{Left, first_left, own_of, scans_left}
use Rattle.slate_txn.specs.Named.{find_named}
use Rattle.slate_txn.specs.Reads.{rows_seen}
use Rattle.slate_txn.specs.State.{Tx}
use Rattle.slate_txn.specs.Step.{Reader, is_scan, reader, reader_or_snapshot, tx_reader}
use Rattle.slate_txn.proofs.ScanLaws.{next_alone, next_moves, opened_left}
use Rattle.slate_db.specs.declared.scan.TxnIterator.{TxnIterator}
use Rattle.slate_db.specs.Answered.{AnswersFrom}
use Rattle.slate_db.specs.Checked.{ChecksFrom, OrSlips, SlipsFrom}
use Rattle.slate_db.specs.Meaning.{rules_of}
use Rattle.slate_db.specs.Model.{CoreModel}
use Rattle.slate_db.specs.Readable.{IsAnswered, IsReadable}
use Rattle.slate_db.specs.Readable as gets
use Rattle.slate_db.specs.Scans.{IsFor, IsOpeningError, IsRefusedByScan, IsRefusedByTables, IsScanError, IsScanOf, IsWorldOf, Leaves, LeavesIn, ScanRefuses, number_of, scan_of}
use Rattle.slate_db.specs.Settled.{IsSettled, IsSettledIn}
use Rattle.slate_db.specs.Shown.{Asking}
use Rattle.slate_db.specs.Vouched.{IsVouchedFor}
use Rattle.slate_db.proofs.RowDamage.{by_tables, opening_scan}
use Rattle.slate_db.proofs.ScanWorlds.{sees_world, slips_of_world, world_holds}
use Rattle.slate_db.proofs.Settled.{settled_answered, settled_readable, true_answered}
use Rattle.slate_steps.specs.Reads.{IsChecked, IsMetBy, IsReadError, IsReading, IsScanSince, of_get, of_scan}
use Rattle.slate_steps.specs.Steps as steps_of
use Rattle.slate_steps.specs.Steps.{IsWithin, newest, taking}
use Rattle.slate_steps.proofs.Settling.{within_settled}
use Rattle.slate_steps.proofs.Taking.{sees_vouched, vouched_sees, within_found, within_noted}

-- ---- results

pub if_ok_map : {A E : Type 0} (r : Result A E) (P Q : A → Type 0) → ((a : A) → P a → Q a) → IfOk r P → IfOk r Q
if_ok_map (Ok a) P Q f h = f a h
if_ok_map (Err e) P Q f h = tt

pub if_err_map : {A E : Type 0} (r : Result A E) (P Q : E → Type 0) → ((e : E) → P e → Q e) → IfErr r P → IfErr r Q
if_err_map (Ok a) P Q f h = tt
if_err_map (Err e) P Q f h = f e h

pub on_ok_map : {A E : Type 0} (r : Result A E) (P Q : Type 0) → (P → Q) → OnOk r P → OnOk r Q
on_ok_map (Ok a) P Q f h = f h
on_ok_map (Err e) P Q f h = tt

pub on_err_map : {A E : Type 0} (r : Result A E) (P Q : Type 0) → (P → Q) → OnErr r P → OnErr r Q
on_err_map (Ok a) P Q f h = tt
on_err_map (Err e) P Q f h = f h

pub both_err : {A E : Type 0} (r : Result A E) (P Q : Type 0) → OnErr r P → OnErr r Q → OnErr r (P × Q)
both_err (Ok a) P Q p q = tt
both_err (Err e) P Q p q = (p, q)

-- ---- a get

pub answered_within : (policies : List Policy) (g : Segments) (before after : Reach) (c d : CoreModel) (id : List ℕ) (level : IsolationLevel) (ts : List TranscriptStep) → IsWithin c id level ts d →
    IsSettledIn policies g before c → IsAnswered policies before after d
answered_within policies g before after c d id level ts h settled = settled_answered policies before after d (within_settled policies before.meaning g before.objects c d id level ts h settled)

pub get_sees : (r : Result (Option KeyValue) SlateDBError) (policies : List Policy) (g : Segments) (before after : Reach) (c d e : CoreModel) (id k : List ℕ) (level : IsolationLevel) (ts : List TranscriptStep) →
    IfOk r (λ a. IsWithin c id level (ts ++ (steps.Get k a ∷ [])) e) → (IsAnswered policies before after d → (other : List ℕ) → IsVouchedFor before.meaning d other → IsVouchedFor before.meaning e other) →
    IsWithin c id level ts d → IsSettledIn policies g before c → steps_of.Sees before.meaning c ts → IfOk r (λ a. steps_of.Sees before.meaning c (ts ++ (steps.Get k a ∷ [])))
get_sees r policies g before after c d e id k level ts within vouched h settled sees =
    if_ok_map r _ _ (λ a w. vouched_sees c e id level (ts ++ (steps.Get k a ∷ [])) w before.meaning
    (vouched (answered_within policies g before after c d id level ts h settled) id (sees_vouched c d id level ts h before.meaning sees))) within

-- what answered the reads of a call, where they are checked
answers_of : (os : Objects) (before after : Reach) → IsMetBy before.meaning os before after → ChecksFrom os before after → AnswersFrom os before after
answers_of os before after (inl answers) checks = answers
answers_of os before after (inr unslipped) checks = by (checks unslipped.known unslipped.tells)
  where
    by : AnswersFrom os before after ⊎ SlipsFrom before.meaning.encode os before.acts after.acts → AnswersFrom os before after
    by (inl answers) = answers
    by (inr slips) = absurd (unslipped.none slips)

settled_there : (policies : List Policy) (g : Segments) (before after : Reach) (c d : CoreModel) (id : List ℕ) (level : IsolationLevel) (ts : List TranscriptStep) → IsWithin c id level ts d →
    (s : IsChecked policies g before after c) → IsSettled policies before.meaning g (Some s.os) d
settled_there policies g before after c d id level ts h s = within_settled policies before.meaning g (Some s.os) c d id level ts h s.settled

pub get_checked : (r : Result (Option KeyValue) SlateDBError) (policies : List Policy) (g : Segments) (before after : Reach) (c d e : CoreModel) (id k : List ℕ) (level : IsolationLevel) (ts : List TranscriptStep) →
    IfOk r (λ a. IsWithin c id level (ts ++ (steps.Get k a ∷ [])) e) → (IsAnswered policies before after d → (other : List ℕ) → IsVouchedFor before.meaning d other → IsVouchedFor before.meaning e other) →
    ((os : Objects) → IsReadable policies before.meaning os d → OnOk r (ChecksFrom os before after)) →
    IsWithin c id level ts d → IsChecked policies g before after c → steps_of.Sees before.meaning c ts → IfOk r (λ a. steps_of.Sees before.meaning c (ts ++ (steps.Get k a ∷ [])))
get_checked (Err x) policies g before after c d e id k level ts within vouched checks h s sees = tt
get_checked (Ok a) policies g before after c d e id k level ts within vouched checks h s sees =
    let settled : IsSettled policies before.meaning g (Some s.os) d = settled_there policies g before after c d id level ts h s in
    let answers : AnswersFrom s.os before after = answers_of s.os before after s.met (checks s.os (settled_readable policies before.meaning s.os d settled)) in
    vouched_sees c e id level (ts ++ (steps.Get k a ∷ [])) within before.meaning (vouched (true_answered policies before after s.os d settled answers) id (sees_vouched c d id level ts h before.meaning sees))

pub get_error : {A : Type 0} (r : Result A SlateDBError) (policies : List Policy) (id : List ℕ) (query : FilterQuery) (before after : Reach) (d : CoreModel) →
    IfErr r (gets.IsReadError (record { policies = policies; query = query }) (gets.reader_at d.state id) before after d) → IfErr r (IsReadError policies before after d)
get_error (Ok a) policies id query before after d h = tt
get_error (Err e) policies id query before after d h = of_get id query h

-- ---- an opening

fits_by : (b : Bool) (r : BytesRange) → cond b None (Some r) ≡ Some r → b ≡ false
fits_by true r h = cc
fits_by false r h = refl

pub prefix_fits : (p : List ℕ) → is_refused (prefix_start p) (prefix_end p) ≡ false
prefix_fits p = fits_by (is_refused (prefix_start p) (prefix_end p)) (prefix_range p) (whole_subrange p)

pub within_reader : (c d : CoreModel) (id : List ℕ) (level : IsolationLevel) (ts : List TranscriptStep) → IsWithin c id level ts d → reader d.state id ≡ Some (tx_reader (taking (newest c) level ts))
within_reader c d id level ts h = ap (λ (o : Option Tx). reader_or_snapshot o (find_named id d.state.snapshots)) (within_found c d id level ts h)

pub scan_named : {E : Type 0} (r : Result TxnIterator E) (c d : CoreModel) (id : List ℕ) (level : IsolationLevel) (ts : List TranscriptStep) (order : IterationOrder) (range : BytesRange) → IsWithin c id level ts d →
    ((from : Reader) → reader d.state id ≡ Some from → IfOk r (IsScanOf id from.scans order range)) → IfOk r (IsScanOf id (count_by is_scan ts) order range)
scan_named r c d id level ts order range h names = names (tx_reader (taking (newest c) level ts)) (within_reader c d id level ts h)

opened_reading : (os : Objects) (m : Meaning) (c : CoreModel) (id : List ℕ) (ts : List TranscriptStep) (order : IterationOrder) (range : BytesRange) (it : TxnIterator) → IsScanOf id (count_by is_scan ts) order range it →
    LeavesIn os m it (rows_seen (rules_of c.settings m) c.state.commits (newest c) (own_of ts) order range) →
    IsReading os m c (ts ++ (steps.Scan order range ∷ [])) it (rows_seen (rules_of c.settings m) c.state.commits (newest c) (own_of ts) order range)
opened_reading os m c id ts order range it named leaves = record {
  left =
      ap (λ n. slice_get (scans_left (rules_of c.settings m) c.state.commits (newest c) (ts ++ (steps.Scan order range ∷ []))) n) named.number
      ∙ opened_left (rules_of c.settings m) c.state.commits (newest c) ts order range
      ∙ ap (λ (o : IterationOrder). Some (o, rows_seen (rules_of c.settings m) c.state.commits (newest c) (own_of ts) order range)) (sym named.ordered);
  leaves = leaves;
}

both_ok : {A E : Type 0} (r : Result A E) (P Q R : A → Type 0) → ((a : A) → P a → Q a → R a) → IfOk r P → IfOk r Q → IfOk r R
both_ok (Ok a) P Q R f p q = f a p q
both_ok (Err e) P Q R f p q = tt

pub scan_reading : {E : Type 0} (r : Result TxnIterator E) (policies : List Policy) (g : Segments) (before after : Reach) (os : Objects) (c d : CoreModel) (id : List ℕ) (level : IsolationLevel) (ts : List TranscriptStep) (order : IterationOrder) (range : BytesRange) →
    IsWithin c id level ts d → ((from : Reader) → reader d.state id ≡ Some from → IfOk r (IsScanOf id from.scans order range)) →
    ((from : Reader) → reader d.state id ≡ Some from → (a : IsAnswered policies before after d) →
    IfOk r (λ it. LeavesIn a.os before.meaning it (rows_seen (rules_of d.settings before.meaning) d.state.commits from.at from.ops order range))) →
    before.objects ≡ Some os → IsSettledIn policies g before c →
    IfOk r (λ it. IsReading os before.meaning c (ts ++ (steps.Scan order range ∷ [])) it (rows_seen (rules_of c.settings before.meaning) c.state.commits (newest c) (own_of ts) order range))
scan_reading r policies g before after os c d id level ts order range h names opened told settled =
    both_ok r _ _ _ (λ it named leaves. opened_reading os before.meaning c id ts order range it named
    (subst (λ (v : CoreModel). LeavesIn os before.meaning it (rows_seen (rules_of v.settings before.meaning) v.state.commits (newest c) (own_of ts) order range)) h.is leaves))
    (scan_named r c d id level ts order range h names)
    (opened (tx_reader (taking (newest c) level ts)) (within_reader c d id level ts h)
    (record { os = os; readable = settled_readable policies before.meaning os d (subst (λ (o : Option Objects). IsSettled policies before.meaning g o d) told (within_settled policies before.meaning g before.objects c d id level ts h settled)); answers = inl told }))

pub scan_checked : (r : Result TxnIterator SlateDBError) (policies : List Policy) (g : Segments) (before after : Reach) (c d : CoreModel) (id : List ℕ) (level : IsolationLevel) (ts : List TranscriptStep) (order : IterationOrder) (range : BytesRange) →
    IsWithin c id level ts d → ((from : Reader) → reader d.state id ≡ Some from → IfOk r (IsScanOf id from.scans order range)) →
    ((from : Reader) → reader d.state id ≡ Some from → (a : IsAnswered policies before after d) →
    IfOk r (λ it. LeavesIn a.os before.meaning it (rows_seen (rules_of d.settings before.meaning) d.state.commits from.at from.ops order range))) →
    ((from : Reader) → reader d.state id ≡ Some from → (os : Objects) → IsReadable policies before.meaning os d →
    IfOk r (λ it. OrSlips os before after (LeavesIn os before.meaning it (rows_seen (rules_of d.settings before.meaning) d.state.commits from.at from.ops order range)))) →
    (s : IsChecked policies g before after c) →
    IfOk r (λ it. IsReading s.os before.meaning c (ts ++ (steps.Scan order range ∷ [])) it (rows_seen (rules_of c.settings before.meaning) c.state.commits (newest c) (own_of ts) order range))
scan_checked (Err x) policies g before after c d id level ts order range h names opened checks s = tt
scan_checked (Ok it) policies g before after c d id level ts order range h names opened checks s =
    opened_reading s.os before.meaning c id ts order range it (scan_named {E = SlateDBError} (Ok it) c d id level ts order range h names)
    (subst (λ (v : CoreModel). LeavesIn s.os before.meaning it (rows_seen (rules_of v.settings before.meaning) v.state.commits (newest c) (own_of ts) order range)) h.is (leaves s.met))
  where
    settled : IsSettled policies before.meaning g (Some s.os) d
    settled = settled_there policies g before after c d id level ts h s

    from : Reader
    from = tx_reader (taking (newest c) level ts)

    by : LeavesIn s.os before.meaning it (rows_seen (rules_of d.settings before.meaning) d.state.commits (newest c) (own_of ts) order range) ⊎ SlipsFrom before.meaning.encode s.os before.acts after.acts → (SlipsFrom before.meaning.encode s.os before.acts after.acts → ⊥) →
        LeavesIn s.os before.meaning it (rows_seen (rules_of d.settings before.meaning) d.state.commits (newest c) (own_of ts) order range)
    by (inl left) none = left
    by (inr slips) none = absurd (none slips)

    leaves : IsMetBy before.meaning s.os before after → LeavesIn s.os before.meaning it (rows_seen (rules_of d.settings before.meaning) d.state.commits (newest c) (own_of ts) order range)
    leaves (inl answers) = opened from (within_reader c d id level ts h) (record { os = s.os; readable = settled_readable policies before.meaning s.os d settled; answers = answers })
    leaves (inr u) = by (checks from (within_reader c d id level ts h) s.os (settled_readable policies before.meaning s.os d settled) u.known u.tells) u.none

-- the same opening, by what its options and its range are
pub as_ordered : {E : Type 0} (r : Result TxnIterator E) (id : List ℕ) (n : ℕ) (order order' : IterationOrder) (range range' : BytesRange) → order ≡ order' → range ≡ range' → IfOk r (IsScanOf id n order range) → IfOk r (IsScanOf id n order' range')
as_ordered {E} r id n order order' range range' o g h = subst (λ (x : IterationOrder). IfOk r (IsScanOf id n x range')) o (subst (λ (x : BytesRange). IfOk r (IsScanOf id n order x)) g h)

pub as_reading : {E : Type 0} (r : Result TxnIterator E) (os : Objects) (m : Meaning) (c : CoreModel) (ts : List TranscriptStep) (order order' : IterationOrder) (range range' : BytesRange) → order ≡ order' → range ≡ range' →
    IfOk r (λ it. IsReading os m c (ts ++ (steps.Scan order range ∷ [])) it (rows_seen (rules_of c.settings m) c.state.commits (newest c) (own_of ts) order range)) →
    IfOk r (λ it. IsReading os m c (ts ++ (steps.Scan order' range' ∷ [])) it (rows_seen (rules_of c.settings m) c.state.commits (newest c) (own_of ts) order' range'))
as_reading {E} r os m c ts order order' range range' o g h =
    subst (λ (x : IterationOrder). IfOk r (λ it. IsReading os m c (ts ++ (steps.Scan x range' ∷ [])) it (rows_seen (rules_of c.settings m) c.state.commits (newest c) (own_of ts) x range'))) o
    (subst (λ (x : BytesRange). IfOk r (λ it. IsReading os m c (ts ++ (steps.Scan order x ∷ [])) it (rows_seen (rules_of c.settings m) c.state.commits (newest c) (own_of ts) order x))) g h)

-- what an opening says of later calls
unfoldable pub since_opening : (policies : List Policy) (query : Option FilterQuery) (before after : Reach) (c : CoreModel) (x : TxnIterator) →
    Made before after (λ reads. (later : List Act) (at : Option (List ℕ)) (e : SlateDBError) → ScanRefuses (scan_of x) before.meaning later at e → IsRefusedByScan policies query before.meaning c reads (reads ++ later) at e) → IsScanSince before after c x
since_opening policies query before after c x (reads, call, refuses) = (reads, call, λ later at e h. by_tables before.meaning c reads (reads ++ later) at e (refuses later at e h))

pub opens_since : (r : Result TxnIterator SlateDBError) (policies : List Policy) (query : Option FilterQuery) (before after : Reach) (c : CoreModel) →
    IfOk r (λ it. IsFor before.meaning (scan_of it) × Made before after (λ reads. (later : List Act) (at : Option (List ℕ)) (e : SlateDBError) → ScanRefuses (scan_of it) before.meaning later at e → IsRefusedByScan policies query before.meaning c reads (reads ++ later) at e)) →
    IfOk r (IsScanSince before after c)
opens_since r policies query before after c h = if_ok_map r _ _ (λ it o. since_opening policies query before after c it o.1) h

pub scan_error : {A : Type 0} (r : Result A SlateDBError) (policies : List Policy) (query : Option FilterQuery) (before after : Reach) (d : CoreModel) → IfErr r (IsOpeningError policies query before after d) → IfErr r (IsReadError policies before after d)
scan_error r policies query before after d h = if_err_map r _ _ (λ e x. of_scan (opening_scan before after d e x)) h

-- ---- a next

world_seen : (os : Objects) (w : World) (before after : Reach) → IsWorldOf os before.meaning w → before.objects ≡ Some os → Sees w before after
world_seen os w before after is told = record { meaning = is.meaning; met = inl (record { os = os; tells = told; holds = λ path kept at. (is.tables path kept at).there }) }

moved : (os : Objects) (m : Meaning) (c : CoreModel) (ts : List TranscriptStep) (x y : TxnIterator) (a : Option KeyValue) (rows : List RowEntry) (w : World) → IsScanOf x.id (number_of x) (scan_of x).order (scan_of x).range y → IsWorldOf os m w →
    Leaves (scan_of y) w (drop 1 rows) → IsReading os m c ts x rows → IsReading os m c (ts ++ (steps.Next (number_of x) a ∷ [])) y (drop 1 rows)
moved os m c ts x y a rows w names is leaves h = record {
  left =
      ap (λ n. slice_get (scans_left (rules_of c.settings m) c.state.commits (newest c) (ts ++ (steps.Next (number_of x) a ∷ []))) n) names.number
      ∙ next_moves (rules_of c.settings m) c.state.commits (newest c) ts (number_of x) a ((scan_of x).order, rows) h.left
      ∙ ap (λ (o : IterationOrder). Some (o, drop 1 rows)) (sym names.ordered);
  leaves = (w, is, leaves);
}

next_by : {E : Type 0} (r : Result (Option KeyValue) E) (os : Objects) (before after : Reach) (c : CoreModel) (ts : List TranscriptStep) (x y : TxnIterator) (rows : List RowEntry) → IsScanOf x.id (number_of x) (scan_of x).order (scan_of x).range y →
    ((w : World) (left : List RowEntry) → Leaves (scan_of x) w left → Sees w before after → IfOk r (λ a. (a ≡ first_left left) × Leaves (scan_of y) w (drop 1 left))) →
    ((w : World) → IsWorldOf os before.meaning w → Leaves (scan_of x) w rows → Sees w before after) → IsReading os before.meaning c ts x rows →
    IfOk r (λ a. (a ≡ first_left rows) × IsReading os before.meaning c (ts ++ (steps.Next (number_of x) a ∷ [])) y (drop 1 rows)
    × (steps_of.Sees before.meaning c ts → steps_of.Sees before.meaning c (ts ++ (steps.Next (number_of x) a ∷ []))))
next_by r os before after c ts x y rows names answers met h = by h.leaves
  where
    by : LeavesIn os before.meaning x rows → IfOk r (λ a. (a ≡ first_left rows) × IsReading os before.meaning c (ts ++ (steps.Next (number_of x) a ∷ [])) y (drop 1 rows)
        × (steps_of.Sees before.meaning c ts → steps_of.Sees before.meaning c (ts ++ (steps.Next (number_of x) a ∷ []))))
    by (w, is, leaves) = if_ok_map r _ _ (λ a q. (
      q.0,
      moved os before.meaning c ts x y a rows w names is q.1 h,
      next_alone (rules_of c.settings before.meaning) c.state.commits (newest c) ts (number_of x) a ((scan_of x).order, rows) h.left q.0,
    ))
        (answers w rows leaves (met w is leaves))

pub next_reading : {E : Type 0} (r : Result (Option KeyValue) E) (os : Objects) (before after : Reach) (c : CoreModel) (ts : List TranscriptStep) (x y : TxnIterator) (rows : List RowEntry) → IsScanOf x.id (number_of x) (scan_of x).order (scan_of x).range y →
    ((w : World) (left : List RowEntry) → Leaves (scan_of x) w left → Sees w before after → IfOk r (λ a. (a ≡ first_left left) × Leaves (scan_of y) w (drop 1 left))) →
    before.objects ≡ Some os → IsReading os before.meaning c ts x rows →
    IfOk r (λ a. (a ≡ first_left rows) × IsReading os before.meaning c (ts ++ (steps.Next (number_of x) a ∷ [])) y (drop 1 rows)
    × (steps_of.Sees before.meaning c ts → steps_of.Sees before.meaning c (ts ++ (steps.Next (number_of x) a ∷ []))))
next_reading r os before after c ts x y rows names answers told h = next_by r os before after c ts x y rows names answers (λ w is leaves. world_seen os w before after is told) h

-- of a call that met the world, or in which no section slipped
world_met : (os : Objects) (w : World) (before after : Reach) → IsWorldOf os before.meaning w → IsMetBy before.meaning os before after → Checks w before after → ((reads : List Act) × IsCall before after reads) → Sees w before after
world_met os w before after is (inl answers) checks call = sees_world os w before after is.meaning (world_holds os before.meaning w is) answers
world_met os w before after is (inr unslipped) checks call = by (checks unslipped.known unslipped.tells is.meaning)
  where
    by : Sees w before after ⊎ Slips w before after → Sees w before after
    by (inl sees) = sees
    by (inr slips) = absurd (unslipped.none (slips_of_world os before.meaning w before after call.0 is call.1 slips))

pub next_checked : (r : Result (Option KeyValue) SlateDBError) (os : Objects) (before after : Reach) (c : CoreModel) (ts : List TranscriptStep) (x y : TxnIterator) (rows : List RowEntry) → IsScanOf x.id (number_of x) (scan_of x).order (scan_of x).range y →
    ((w : World) (left : List RowEntry) → Leaves (scan_of x) w left → Sees w before after → IfOk r (λ a. (a ≡ first_left left) × Leaves (scan_of y) w (drop 1 left))) →
    ((w : World) (left : List RowEntry) → Leaves (scan_of x) w left → OnOk r (Checks w before after)) →
    OnOk r (Made before after (λ reads. NoMore (ScanRefuses (scan_of x) before.meaning) reads (ScanRefuses (scan_of y) before.meaning))) →
    IsMetBy before.meaning os before after → IsReading os before.meaning c ts x rows →
    IfOk r (λ a. (a ≡ first_left rows) × IsReading os before.meaning c (ts ++ (steps.Next (number_of x) a ∷ [])) y (drop 1 rows)
    × (steps_of.Sees before.meaning c ts → steps_of.Sees before.meaning c (ts ++ (steps.Next (number_of x) a ∷ []))))
next_checked (Err e) os before after c ts x y rows names answers checks made met h = tt
next_checked (Ok a) os before after c ts x y rows names answers checks made met h =
    next_by {E = SlateDBError} (Ok a) os before after c ts x y rows names answers (λ w is leaves. world_met os w before after is met (checks w rows leaves) (made.0, made.1)) h

pub next_undamaged : {A : Type 0} (r : Result A SlateDBError) (os : Objects) (before after : Reach) (c : CoreModel) (ts : List TranscriptStep) (x : TxnIterator) (rows : List RowEntry) →
    ((w : World) (left : List RowEntry) → Leaves (scan_of x) w left → Sees w before after → IfErr r (IsFault before after)) →
    before.objects ≡ Some os → IsReading os before.meaning c ts x rows → IfErr r (IsFault before after)
next_undamaged r os before after c ts x rows undamaged told h = by h.leaves
  where
    by : LeavesIn os before.meaning x rows → IfErr r (IsFault before after)
    by (w, is, leaves) = undamaged w rows leaves (world_seen os w before after is told)

pub since_next : {A E : Type 0} (r : Result A E) (from before after : Reach) (c : CoreModel) (x y : TxnIterator) → IsScanSince from before c x →
    OnOk r (Made before after (λ reads. NoMore (ScanRefuses (scan_of x) before.meaning) reads (ScanRefuses (scan_of y) before.meaning))) → OnOk r (IsScanSince from after c y)
since_next (Err e) from before after c x y since later = tt
since_next (Ok a) from before after c x y (first, call, refuses) (second, more, none) = (
  first ++ second,
  call_both from before after first second call more,
  λ later at e h.
      let meant : before.meaning ≡ from.meaning = call.meaning in
      subst (λ (l : List Act). IsRefusedByTables from.meaning c l at e) (sym (append_assoc first second later))
      (refuses (second ++ later) at e (subst (λ (m : Meaning). ScanRefuses (scan_of x) m (second ++ later) at e) meant
      (none later at e (subst (λ (m : Meaning). ScanRefuses (scan_of y) m later at e) (sym meant) h)))),
)

next_refused : (policies : List Policy) (from before after : Reach) (c : CoreModel) (x : TxnIterator) (e : SlateDBError) → OnlyReads from before → IsScanSince from before c x →
    Made before after (λ reads. IsFault before after e ⊎ ScanRefuses (scan_of x) before.meaning reads None e) → IsScanError policies from after c e
next_refused policies from before after c x e only since (second, more, inl fault) = inl (fault_earlier from before after e only.later fault)
next_refused policies from before after c x e only (first, call, refuses) (second, more, inr refused) =
    inr (
      first ++ second,
      call_both from before after first second call more,
      inl (None, refuses second None e (subst (λ (m : Meaning). ScanRefuses (scan_of x) m second None e) call.meaning refused)),
    )

pub next_error : {A : Type 0} (r : Result A SlateDBError) (policies : List Policy) (from before after : Reach) (c : CoreModel) (x : TxnIterator) → OnlyReads from before → IsScanSince from before c x →
    IfErr r (λ e. Made before after (λ reads. IsFault before after e ⊎ ScanRefuses (scan_of x) before.meaning reads None e)) → IfErr r (IsReadError policies from after c)
next_error r policies from before after c x only since h = if_err_map r _ _ (λ e q. of_scan (next_refused policies from before after c x e only since q)) h
