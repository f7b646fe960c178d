-- A row that a scan handed out, and a seek, are noted in its transaction's transcript.
use Rattle.std.proofs.Common.{◌≡◌, ◌<◌, ℕ, zero, suc, arith, Bool, true, false, cond, bytes_eq, List, [], ◌∷◌, ◌++◌, drop, length, Option, Some, None, option_map, refl, sym, ap, subst, ◌∙◌, slice_get}
use Rattle.std.specs.Prelude.{IsSome}
use Rattle.std.proofs.lemmas.Option.{same_Some}
use Rattle.slate_types.specs.declared.iter.IterationOrder.{IterationOrder}
use Rattle.slate_types.specs.declared.types.KeyValue.{KeyValue}
use Rattle.slate_types.specs.declared.types.RowEntry.{RowEntry}
use Rattle.slate_types.specs.Iteration.{drop_before}
use Rattle.slate_txn.specs.declared.event.TranscriptStep.{TranscriptStep}
use Rattle.slate_txn.specs.declared.event.TranscriptStep.TheVariants as steps
use Rattle.slate_txn.specs.Alone.{IsVouched, first_left, scans_left}
use Rattle.slate_txn.specs.Named.{find_named, update_named}
use Rattle.slate_txn.specs.State.{Rules, Tx}
use Rattle.slate_txn.proofs.ScanLaws.{count_left, next_alone, next_moves, seek_alone, seek_moves}
use Rattle.slate_db.specs.declared.scan.TxnIterator.{TxnIterator}
use Rattle.slate_db.specs.Meaning.{Meaning, rules_of}
use Rattle.slate_db.specs.Model.{CoreModel}
use Rattle.slate_db.specs.Scans.{HasLeft, IsOpenScan, id_of, number_of, scan_of}
use Rattle.slate_db.specs.Vouched.{IsVouchedFor}
use Rattle.slate_db.proofs.Vouches.{found_updated}
use Rattle.slate_db.proofs.Wholes.{after_note}

-- what stands under a name that was changed
find_updated : {X : Type 0} (k : List ℕ) (f : X → X) (ps : List (List ℕ × X)) → find_named k (update_named k f ps) ≡ option_map f (find_named k ps)
find_updated k f [] = refl
find_updated k f (p ∷ ps) = by (bytes_eq p.0 k) refl (find_updated k f ps)
  where
    by : (b : Bool) → bytes_eq p.0 k ≡ b → find_named k (update_named k f ps) ≡ option_map f (find_named k ps) → find_named k (cond b ((p.0, f p.1) ∷ ps) (p ∷ update_named k f ps)) ≡ option_map f (cond b (Some p.1) (find_named k ps))
    by true is rest = rw is refl
    by false is rest = rw is rest

-- it was there before
was_there : {X : Type 0} (f : X → X) (o : Option X) (y : X) → option_map f o ≡ Some y → (x : X) × (o ≡ Some x) × (f x ≡ y)
was_there f None y h = cc
was_there f (Some x) y h = (x, refl, same_Some (f x) y h)

pub get_within : {X : Type 0} (xs : List X) (i : ℕ) → i < length xs → IsSome (slice_get xs i)
get_within [] i h = absurd (omega (arith, h))
get_within (x ∷ xs) zero h = refl
get_within (x ∷ xs) (suc i) h = get_within xs i (omega (arith, h))

module _ (m : Meaning) (c : CoreModel) (it : TxnIterator) where
  abbrev rules : Rules
  rules = rules_of c.settings m

  -- the step that is noted changes what is left of it
  moved_left : (after : TxnIterator) (s : TranscriptStep) (rows more : List RowEntry) → id_of after ≡ id_of it → number_of after ≡ number_of it → (scan_of after).order ≡ (scan_of it).order →
      ((t : Tx) → slice_get (scans_left rules c.state.commits t.begin t.transcript) (number_of it) ≡ Some ((scan_of it).order, rows) →
      slice_get (scans_left rules c.state.commits t.begin (t.transcript ++ (s ∷ []))) (number_of it) ≡ Some ((scan_of it).order, more)) →
      HasLeft m c it rows → HasLeft m (after_note c (id_of it) (s ∷ [])) after more
  moved_left after s rows more named number order moves h t found =
      let was = was_there (λ (t : Tx). record t { transcript = t.transcript ++ (s ∷ []) }) (find_named (id_of it) c.state.txns) t
      (sym (find_updated (id_of it) (λ (t : Tx). record t { transcript = t.transcript ++ (s ∷ []) }) c.state.txns) ∙ ap (λ (k : List ℕ). find_named k (update_named (id_of it) (λ (t : Tx). record t { transcript = t.transcript ++ (s ∷ []) }) c.state.txns)) (sym named) ∙ found) in
      subst (λ (t : Tx). slice_get (scans_left rules c.state.commits t.begin t.transcript) (number_of after) ≡ Some ((scan_of after).order, more)) was.2
      (ap (slice_get (scans_left rules c.state.commits was.0.begin (was.0.transcript ++ (s ∷ [])))) number ∙ moves was.0 (h was.0 was.1) ∙ ap (λ (o : IterationOrder). Some (o, more)) (sym order))

  pub next_left : (after : TxnIterator) (a : Option KeyValue) (rows : List RowEntry) → id_of after ≡ id_of it → number_of after ≡ number_of it → (scan_of after).order ≡ (scan_of it).order →
      HasLeft m c it rows → HasLeft m (after_note c (id_of it) (steps.Next (number_of it) a ∷ [])) after (drop 1 rows)
  next_left after a rows named number order h = moved_left after (steps.Next (number_of it) a) rows (drop 1 rows) named number order
      (λ t k. next_moves rules c.state.commits t.begin t.transcript (number_of it) a ((scan_of it).order, rows) k) h

  pub seek_left : (after : TxnIterator) (key : List ℕ) (rows : List RowEntry) → id_of after ≡ id_of it → number_of after ≡ number_of it → (scan_of after).order ≡ (scan_of it).order →
      HasLeft m c it rows → HasLeft m (after_note c (id_of it) (steps.Seek (number_of it) key ∷ [])) after (drop_before (scan_of it).order key rows)
  seek_left after key rows named number order h = moved_left after (steps.Seek (number_of it) key) rows (drop_before (scan_of it).order key rows) named number order
      (λ t k. seek_moves rules c.state.commits t.begin t.transcript (number_of it) key ((scan_of it).order, rows) k) h

  -- ---- vouched

  pub vouched_next : (k : List ℕ) (a : Option KeyValue) (rows : List RowEntry) → HasLeft m c it rows → a ≡ first_left rows → IsVouchedFor m c k → IsVouchedFor m (after_note c (id_of it) (steps.Next (number_of it) a ∷ [])) k
  vouched_next k a rows left is h =
      found_updated (IsVouched rules c.state.commits) (id_of it) k (λ t. record t { transcript = t.transcript ++ (steps.Next (number_of it) a ∷ []) }) c.state.txns
      (λ t e g. next_alone rules c.state.commits t.begin t.transcript (number_of it) a ((scan_of it).order, rows) (left t e) is g) h

  pub vouched_seek : (k key : List ℕ) → IsOpenScan c it → IsVouchedFor m c k → IsVouchedFor m (after_note c (id_of it) (steps.Seek (number_of it) key ∷ [])) k
  vouched_seek k key is_open h =
      found_updated (IsVouched rules c.state.commits) (id_of it) k (λ t. record t { transcript = t.transcript ++ (steps.Seek (number_of it) key ∷ []) }) c.state.txns
      (λ t e g. seek_alone rules c.state.commits t.begin t.transcript (number_of it) key (opened t e) g) h
    where
      opened : (t : Tx) → find_named (id_of it) c.state.txns ≡ Some t → IsSome (slice_get (scans_left rules c.state.commits t.begin t.transcript) (number_of it))
      opened t e = get_within (scans_left rules c.state.commits t.begin t.transcript) (number_of it)
          (subst (λ (n : ℕ). number_of it < n) (sym (count_left rules c.state.commits t.begin t.transcript))
          (is_open.1 t e))
