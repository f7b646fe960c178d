-- Readers: open transactions, and open snapshots, which have no operations of their own and no transcript.
use Rattle.std.proofs.Common.{◌≡◌, ◌≤◌, ℕ, Bool, true, false, cond, List, [], ◌∷◌, ◌++◌, map, reverse, Option, Some, None, option_map, unwrap_or, refl, sym, ap, subst, ◌∙◌}
use Rattle.std.specs.Prelude.{count_by, slice_get}
use Rattle.std.specs.List.{AllByRecursion}
use Rattle.std.proofs.lemmas.Option.{same_Some}
use Rattle.slate_types.specs.declared.bytes_range.BytesRange.{BytesRange}
use Rattle.slate_types.specs.declared.iter.IterationOrder.{IterationOrder}
use Rattle.slate_types.specs.declared.types.KeyValue.{KeyValue}
use Rattle.slate_types.specs.declared.types.RowEntry.{RowEntry}
use Rattle.slate_types.specs.Keys.{in_range}
use Rattle.slate_types.specs.Rows.{key_value, of_key}
use Rattle.slate_mem.specs.Batch.{kept}
use Rattle.slate_mem.specs.RowOf.{own_row}
use Rattle.slate_txn.specs.declared.event.TranscriptStep.TheVariants as steps
use Rattle.slate_txn.specs.Alone.{IsVouched, own_of, scans_left}
use Rattle.slate_txn.specs.Named.{find_named}
use Rattle.slate_txn.specs.Reads.{rows_seen, seen}
use Rattle.slate_txn.specs.State.{State, Tx}
use Rattle.slate_txn.specs.Step.{Reader, is_scan, noted, reader, reader_or_snapshot, tx_reader}
use Rattle.slate_txn.proofs.NamedLaws.{update_none}
use Rattle.slate_db.specs.declared.engine.Core.TheInside.{Inside}
use Rattle.slate_db.specs.Log.{AreFine}
use Rattle.slate_db.specs.Meaning.{Meaning, rules_of}
use Rattle.slate_db.specs.Model.{CoreModel}
use Rattle.slate_db.specs.Readable.{IsOwnRow, reader_at}
use Rattle.slate_db.specs.Scanned.{HasOwn}
use Rattle.slate_db.specs.View.{view_of, IsWholeInside}
use Rattle.slate_db.specs.Vouched.{IsVouchedFor}
use Rattle.slate_db.proofs.OpenNotes.{noted_left}
use Rattle.slate_db.proofs.OwnRows.{own_of_open}
use Rattle.slate_db.proofs.Seen.{found_all}
use Rattle.slate_db.proofs.Vouches.{found_updated, get_vouched}
use Rattle.slate_db.proofs.Wholes.{after_note}

data IsReader (s : State) (id : List ℕ) (from : Reader) : Type 0 where
  transaction : (t : Tx) → find_named id s.txns ≡ Some t → from ≡ tx_reader t → IsReader s id from
  snapshot : (n : ℕ) → find_named id s.txns ≡ None → find_named id s.snapshots ≡ Some n → from ≡ record { at = n; ops = []; scans = 0 } → IsReader s id from

who_reads : (s : State) (id : List ℕ) (from : Reader) → reader s id ≡ Some from → IsReader s id from
who_reads s id from is = by (find_named id s.txns) refl (find_named id s.snapshots) refl is
  where
    by : (o : Option Tx) → find_named id s.txns ≡ o → (p : Option ℕ) → find_named id s.snapshots ≡ p → reader_or_snapshot o p ≡ Some from → IsReader s id from
    by (Some t) here p there is = transaction t here (sym (same_Some (tx_reader t) from is))
    by None here (Some n) there is = snapshot n here there (sym (same_Some _ from is))
    by None here None there is = cc

pub of_open : (s : State) (id : List ℕ) (t : Tx) (from : Reader) → find_named id s.txns ≡ Some t → reader s id ≡ Some from → from ≡ tx_reader t
of_open s id t from here is = sym (same_Some (tx_reader t) from (sym (ap (λ (o : Option Tx). reader_or_snapshot o (find_named id s.snapshots)) here) ∙ is))

-- ---- where it starts

pub start_open : (s : State) (id : List ℕ) (n : ℕ) → Some n ≡ option_map (λ (t : Tx). t.begin) (find_named id s.txns) → Some n ≡ option_map (λ (from : Reader). from.at) (reader s id)
start_open s id n is = by (find_named id s.txns) is
  where
    by : (o : Option Tx) → Some n ≡ option_map (λ (t : Tx). t.begin) o → Some n ≡ option_map (λ (from : Reader). from.at) (reader_or_snapshot o (find_named id s.snapshots))
    by None is = cc
    by (Some t) is = is

pub start_shown : (s : State) (id : List ℕ) → None ≡ option_map (λ (t : Tx). t.begin) (find_named id s.txns) → find_named id s.snapshots ≡ option_map (λ (from : Reader). from.at) (reader s id)
start_shown s id is = by (find_named id s.txns) (find_named id s.snapshots) is
  where
    by : (o : Option Tx) (p : Option ℕ) → None ≡ option_map (λ (t : Tx). t.begin) o → p ≡ option_map (λ (from : Reader). from.at) (reader_or_snapshot o p)
    by None None is = refl
    by None (Some n) is = refl
    by (Some t) p is = cc

pub reads_there : (s : State) (id : List ℕ) (n : ℕ) → Some n ≡ option_map (λ (from : Reader). from.at) (reader s id) → n ≡ reader_at s id
reads_there s id n is = ap (λ (o : Option ℕ). unwrap_or o 0) is

pub reads_open : (s : State) (id : List ℕ) (t : Tx) → find_named id s.txns ≡ Some t → reader_at s id ≡ t.begin
reads_open s id t is = ap (λ (o : Option Tx). unwrap_or (option_map (λ (from : Reader). from.at) (reader_or_snapshot o (find_named id s.snapshots))) 0) is

module _ (s : Inside) (v : CoreModel) (is : view_of s ≡ v) (id : List ℕ) (from : Reader) (found : reader v.state id ≡ Some from) where
  pub start_at : (n : ℕ) → Some n ≡ option_map (λ (r : Reader). r.at) (reader v.state id) → n ≡ from.at
  start_at n at = ap (λ (o : Option ℕ). unwrap_or o 0) (at ∙ ap (option_map (λ (r : Reader). r.at)) found)

  pub floor_at : IsWholeInside s → v.floor ≤ from.at
  floor_at whole = subst (λ (k : CoreModel). k.floor ≤ from.at) is (by (who_reads (view_of s).state id from (ap (λ (k : CoreModel). reader k.state id) is ∙ found)))
    where
      by : IsReader (view_of s).state id from → s.layers.floor ≤ from.at
      by (transaction t here same) = subst (λ (r : Reader). s.layers.floor ≤ r.at) (sym same) (found_all (λ (x : Tx). (s.layers.floor ≤ x.begin) × (x.begin ≤ s.log.last)) id s.transactions t whole.tied.begins here).0
      by (snapshot n here there same) = subst (λ (r : Reader). s.layers.floor ≤ r.at) (sym same) (found_all (λ (x : ℕ). (s.layers.floor ≤ x) × (x ≤ s.log.last)) id s.snapshots.active n whole.tied.shows there).0

-- an open transaction's operations are those of its transcript
pub own_at : (s : Inside) (v : CoreModel) → view_of s ≡ v → (id : List ℕ) → IsWholeInside s → (t : Tx) → find_named id v.state.txns ≡ Some t → t.ops ≡ own_of t.transcript
own_at s v is id whole t found = found_all (λ (x : Tx). x.ops ≡ own_of x.transcript) id s.transactions t whole.tied.own (ap (λ (k : CoreModel). find_named id k.state.txns) is ∙ found)

-- ---- its own rows

module _ (s : State) (id : List ℕ) (from : Reader) (found : reader s id ≡ Some from) where
  pub own_rows_of : (k : List ℕ) (rows : List RowEntry) → ((t : Tx) → find_named id s.txns ≡ Some t → rows ≡ map (own_row k) (reverse (kept t.ops k))) → (find_named id s.txns ≡ None → rows ≡ []) →
      rows ≡ map (own_row k) (reverse (kept from.ops k))
  own_rows_of k rows own none = by (who_reads s id from found)
    where
      by : IsReader s id from → rows ≡ map (own_row k) (reverse (kept from.ops k))
      by (transaction t here same) = own t here ∙ ap (λ (r : Reader). map (own_row k) (reverse (kept r.ops k))) (sym same)
      by (snapshot n here there same) = none here ∙ ap (λ (r : Reader). map (own_row k) (reverse (kept r.ops k))) (sym same)

  pub own_range_of : (range : BytesRange) (rows : List RowEntry) → ((t : Tx) → find_named id s.txns ≡ Some t → HasOwn range t.ops rows) → (find_named id s.txns ≡ None → rows ≡ []) → HasOwn range from.ops rows
  own_range_of range rows own none = by (who_reads s id from found)
    where
      nothing : (b : Bool) (none : List RowEntry) → none ≡ [] → [] ≡ cond b none []
      nothing true none is = sym is
      nothing false none is = refl

      by : IsReader s id from → HasOwn range from.ops rows
      by (transaction t here same) = subst (λ (r : Reader). HasOwn range r.ops rows) (sym same) (own t here)
      by (snapshot n here there same) = subst (λ (r : Reader). HasOwn range r.ops rows) (sym same) (λ k. ap (of_key k) (none here) ∙ nothing (in_range range k) _ refl)

  pub own_fine_of : ((t : Tx) → find_named id s.txns ≡ Some t → AreFine t.ops) → AreFine from.ops
  own_fine_of fine = by (who_reads s id from found)
    where
      by : IsReader s id from → AreFine from.ops
      by (transaction t here same) = subst (λ (r : Reader). AreFine r.ops) (sym same) (fine t here)
      by (snapshot n here there same) = subst (λ (r : Reader). AreFine r.ops) (sym same) tt

  -- how many scans it opened
  pub scans_of : (n : ℕ) → ((t : Tx) → find_named id s.txns ≡ Some t → n ≡ count_by is_scan t.transcript) → (find_named id s.txns ≡ None → n ≡ 0) → n ≡ from.scans
  scans_of n opened none = by (who_reads s id from found)
    where
      by : IsReader s id from → n ≡ from.scans
      by (transaction t here same) = opened t here ∙ ap (λ (r : Reader). r.scans) (sym same)
      by (snapshot m here there same) = none here ∙ ap (λ (r : Reader). r.scans) (sym same)

-- ---- what is noted

-- what a scan has left that was opened now
pub scan_left : (m : Meaning) (c : CoreModel) (id : List ℕ) (order : IterationOrder) (range : BytesRange) (from : Reader) (n : ℕ) → reader c.state id ≡ Some from → n ≡ from.scans →
    ((t : Tx) → find_named id c.state.txns ≡ Some t → t.ops ≡ own_of t.transcript) → (u : Tx) → find_named id (after_note c id (steps.Scan order range ∷ [])).state.txns ≡ Some u →
    slice_get (scans_left (rules_of c.settings m) c.state.commits u.begin u.transcript) n ≡ Some (order, rows_seen (rules_of c.settings m) c.state.commits from.at from.ops order range)
scan_left m c id order range from n found number own u there = by (who_reads c.state id from found)
  where
    by : IsReader c.state id from → slice_get (scans_left (rules_of c.settings m) c.state.commits u.begin u.transcript) n ≡ Some (order, rows_seen (rules_of c.settings m) c.state.commits from.at from.ops order range)
    by (transaction t here same) =
        ap (slice_get (scans_left (rules_of c.settings m) c.state.commits u.begin u.transcript)) (number ∙ ap (λ (r : Reader). r.scans) same)
        ∙ noted_left m c id order range t u here (own t here) there
        ∙ ap (λ (r : Reader). Some (order, rows_seen (rules_of c.settings m) c.state.commits r.at r.ops order range)) (sym same)
    by (snapshot _ here _ same) =
        let e : None ≡ Some u = sym here ∙ ap (find_named id) (sym (update_none id (λ (t : Tx). record t { transcript = t.transcript ++ (steps.Scan order range ∷ []) }) c.state.txns here)) ∙ there in cc

pub vouched_get : (m : Meaning) (c : CoreModel) (id k key : List ℕ) (a : Option KeyValue) (from : Reader) → reader c.state id ≡ Some from → ((t : Tx) → find_named id c.state.txns ≡ Some t → t.ops ≡ own_of t.transcript) →
    a ≡ option_map key_value (seen (rules_of c.settings m) c.state.commits from.at from.ops key) → IsVouchedFor m c k → IsVouchedFor m (record c { state = noted c.state id (steps.Get key a ∷ []) }) k
vouched_get m c id k key a from found own is h =
    found_updated (IsVouched (rules_of c.settings m) c.state.commits) id k (λ t. record t { transcript = t.transcript ++ (steps.Get key a ∷ []) }) c.state.txns
    (λ t e g. get_vouched (rules_of c.settings m) c.state.commits key a t (own t e)
    (is ∙ ap (λ (r : Reader). option_map key_value (seen (rules_of c.settings m) c.state.commits r.at r.ops key)) (of_open c.state id t from e found)) g) h

-- own rows are of an open transaction
pub own_of_reader : (c : CoreModel) (id : List ℕ) (from : Reader) (k : List ℕ) (own : List RowEntry) → reader c.state id ≡ Some from → own ≡ map (own_row k) (reverse (kept from.ops k)) → AllByRecursion (IsOwnRow c) own
own_of_reader c id from k own found is = by (who_reads c.state id from found)
  where
    by : IsReader c.state id from → AllByRecursion (IsOwnRow c) own
    by (transaction t here same) = own_of_open k from.ops own is c id t here (ap (λ (r : Reader). r.ops) same)
    by (snapshot n here there same) = subst (AllByRecursion (IsOwnRow c)) (sym (is ∙ ap (λ (r : Reader). map (own_row k) (reverse (kept r.ops k))) same)) tt
