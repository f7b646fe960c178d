-- The opening of a scan is noted in a transcript.
use Rattle.std.proofs.Common.{◌≡◌, ℕ, zero, suc, Bool, true, false, cond, bytes_eq, List, [], ◌∷◌, ◌++◌, length, Option, Some, None, refl, sym, ap, ◌∙◌, nat_lt}
use Rattle.std.specs.Prelude.{count_by, slice_get}
use Rattle.std.proofs.lemmas.Bool.Decides.{nat_tests}
use Rattle.std.proofs.Common.{arith}
use Rattle.std.proofs.lemmas.Option.{same_Some}
use Rattle.slate_types.specs.declared.bytes_range.BytesRange.{BytesRange}
use Rattle.slate_types.specs.declared.iter.IterationOrder.{IterationOrder}
use Rattle.slate_types.specs.declared.types.RowEntry.{RowEntry}
use Rattle.slate_types.specs.Keys.{is_refused, range_of}
use Rattle.slate_mem.specs.Batch.{Ops}
use Rattle.slate_txn.specs.declared.event.TranscriptStep.{TranscriptStep}
use Rattle.slate_txn.specs.declared.event.TranscriptStep.TheVariants as steps
use Rattle.slate_txn.specs.declared.line.Line.TheVariants as lines
use Rattle.slate_txn.specs.declared.line.ScanStep.{ScanStep}
use Rattle.slate_txn.specs.Alone.{IsVouched, own_of, scans_left}
use Rattle.slate_txn.specs.Named.{find_named, update_named}
use Rattle.slate_txn.specs.Reads.{handed, rows_seen}
use Rattle.slate_txn.specs.Reply.{RowsAre}
use Rattle.slate_txn.specs.State.{Commit, Rules, State, Tx}
use Rattle.slate_txn.specs.Step.{Reader, is_scan, noted, reader, scan, step}
use Rattle.slate_txn.proofs.ScanLaws.{opened_left, scan_alone}
use Rattle.slate_db.specs.Meaning.{Meaning, rules_of}
use Rattle.slate_db.specs.Model.{CoreModel}
use Rattle.slate_db.specs.Vouched.{IsVouchedFor}
use Rattle.slate_db.proofs.Vouches.{found_updated}
use Rattle.slate_db.proofs.Wholes.{after_note}

none_below : (n : ℕ) → nat_lt n 0 ≡ false
none_below n = grind (arith, nat_tests)

-- a scan of which nothing is asked yet
pub step_scan : (r : Rules) (s : State) (id : List ℕ) (order : IterationOrder) (range : BytesRange) (from : Reader) → reader s id ≡ Some from → is_refused range.start range.end ≡ false →
    step r s (lines.Scan id order range.start range.end (ScanStep.Rows 0 ∷ [])) ≡ (noted s id (steps.Scan order range ∷ []), RowsAre [])
step_scan r s id order range from found fine =
    (λ i. scan r s id order (cond (fine i) None (Some range)) (ScanStep.Rows 0 ∷ []) (found i))
    ∙ ap (λ b. (noted s id (steps.Scan order range ∷ (cond b (steps.Next from.scans None ∷ []) [] ++ [])), RowsAre (handed (cond b (steps.Next from.scans None ∷ []) [] ++ [])))) (none_below (length (rows_seen r s.commits from.at from.ops order range)))

pub found_noted : {X : Type 0} (id : List ℕ) (f : X → X) (ps : List (List ℕ × X)) (x : X) → find_named id ps ≡ Some x → find_named id (update_named id f ps) ≡ Some (f x)
found_noted id f [] x h = cc
found_noted id f (p ∷ ps) x h = by (bytes_eq p.0 id) refl h (found_noted id f ps x)
  where
    by : (b : Bool) → bytes_eq p.0 id ≡ b → cond b (Some p.1) (find_named id ps) ≡ Some x → (find_named id ps ≡ Some x → find_named id (update_named id f ps) ≡ Some (f x)) → find_named id (cond b ((p.0, f p.1) ∷ ps) (p ∷ update_named id f ps)) ≡ Some (f x)
    by true e h later = ap (λ b. cond b (Some (f p.1)) (find_named id ps)) e ∙ ap (λ y. Some (f y)) (same_Some p.1 x h)
    by false e h later = ap (λ b. cond b (Some p.1) (find_named id (update_named id f ps))) e ∙ later h

-- what the scan has left then
pub noted_left : (m : Meaning) (c : CoreModel) (id : List ℕ) (order : IterationOrder) (range : BytesRange) (t u : Tx) → find_named id c.state.txns ≡ Some t → t.ops ≡ own_of t.transcript →
    find_named id (after_note c id (steps.Scan order range ∷ [])).state.txns ≡ Some u →
    slice_get (scans_left (rules_of c.settings m) c.state.commits u.begin u.transcript) (count_by is_scan t.transcript) ≡ Some (order, rows_seen (rules_of c.settings m) c.state.commits t.begin t.ops order range)
noted_left m c id order range t u found own there =
    ap (λ (x : Tx). slice_get (scans_left (rules_of c.settings m) c.state.commits x.begin x.transcript) (count_by is_scan t.transcript)) (same_Some u _ (sym there ∙ found_noted id (λ x. record x { transcript = x.transcript ++ (steps.Scan order range ∷ []) }) c.state.txns t found))
    ∙ opened_left (rules_of c.settings m) c.state.commits t.begin t.transcript order range
    ∙ ap (λ (os : Ops). Some (order, rows_seen (rules_of c.settings m) c.state.commits t.begin os order range)) (sym own)

pub vouched_scan : (m : Meaning) (c : CoreModel) (id k : List ℕ) (order : IterationOrder) (range : BytesRange) → IsVouchedFor m c k → IsVouchedFor m (after_note c id (steps.Scan order range ∷ [])) k
vouched_scan m c id k order range h =
    found_updated (IsVouched (rules_of c.settings m) c.state.commits) id k (λ t. record t { transcript = t.transcript ++ (steps.Scan order range ∷ []) }) c.state.txns
    (λ t e g. scan_alone (rules_of c.settings m) c.state.commits t.begin t.transcript order range g) h
