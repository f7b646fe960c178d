-- What a transcript's scans have left after one step more, and that it is alone then.
use Rattle.std.proofs.Common.{◌≡◌, ◌≢◌, ◌<◌, ℕ, List, [], ◌∷◌, ◌++◌, Option, Some, None, drop, option_map, refl, slice_get, length, count_by, sym, ap, subst, ◌∙◌, append_assoc, append-nil, zero-add}
use Rattle.std.specs.Prelude.{IsSome}
use Rattle.std.specs.List.{AllByRecursion}
use Rattle.slate_types.specs.declared.bytes_range.BytesRange.{BytesRange}
use Rattle.slate_types.specs.declared.iter.IterationOrder.{IterationOrder}
use Rattle.slate_types.specs.declared.types.KeyValue.{KeyValue}
use Rattle.slate_types.specs.declared.types.RowEntry.{RowEntry}
use Rattle.slate_types.specs.Iteration.{TakesRow}
use Rattle.slate_types.specs.Rows.{key_value}
use Rattle.slate_mem.specs.declared.WriteOp.{WriteOp}
use Rattle.slate_mem.specs.Batch.{Ops}
use Rattle.slate_txn.specs.declared.event.TranscriptStep.{TranscriptStep}
use Rattle.slate_txn.specs.declared.event.TranscriptStep.TheVariants.{Get, Scan, Next, Seek, View, Own}
use Rattle.slate_txn.specs.Alone.{Left, IsAlone, IsNextOf, own_of, advanced, sought, scans_after, scans_left, first_left}
use Rattle.slate_txn.specs.Reads.{up_to, seen, rows_seen}
use Rattle.slate_txn.specs.State.{Rules, Commit}
use Rattle.slate_txn.specs.Step.{is_scan}
use Rattle.slate_txn.specs.Tracking.{update_at}
use Rattle.slate_txn.proofs.ReadLaws.{alone_more, rows_same, same_commits}
use Rattle.slate_txn.proofs.StepLaws.{count_scans, get_last, get_updated}
use Rattle.slate_txn.proofs.UpdateLaws.{get_before, get_below, get_other}

-- ---- what is left

-- the steps behind begin with what those before them leave
pub left_more : (r : Rules) (cs : List Commit) (n : ℕ) (ops : Ops) (scans : List Left) (ts more : List TranscriptStep) →
    scans_after r cs n ops scans (ts ++ more) ≡ scans_after r cs n (ops ++ own_of ts) (scans_after r cs n ops scans ts) more
left_more r cs n ops scans [] more = ap (λ (os : Ops). scans_after r cs n os scans more) (sym (append-nil ops))
left_more r cs n ops scans (Get k a ∷ ts) more = left_more r cs n ops scans ts more
left_more r cs n ops scans (Scan order range ∷ ts) more = left_more r cs n ops (scans ++ ((order, rows_seen r cs n ops order range) ∷ [])) ts more
left_more r cs n ops scans (Next i a ∷ ts) more = left_more r cs n ops (update_at i advanced scans) ts more
left_more r cs n ops scans (Seek i k ∷ ts) more = left_more r cs n ops (update_at i (sought k) scans) ts more
left_more r cs n ops scans (View range ∷ ts) more = left_more r cs n ops scans ts more
left_more r cs n ops scans (Own k op ∷ ts) more =
    left_more r cs n (ops ++ ((k, op) ∷ [])) scans ts more
    ∙ ap (λ (os : Ops). scans_after r cs n os (scans_after r cs n (ops ++ ((k, op) ∷ [])) scans ts) more) (append_assoc ops ((k, op) ∷ []) (own_of ts))

-- what is left at n depends on the commits up to n alone
left_same_from : (r : Rules) (cs ds : List Commit) (n : ℕ) (ops : Ops) (scans : List Left) (ts : List TranscriptStep) → up_to n cs ≡ up_to n ds → scans_after r cs n ops scans ts ≡ scans_after r ds n ops scans ts
left_same_from r cs ds n ops scans [] p = refl
left_same_from r cs ds n ops scans (Get k a ∷ ts) p = left_same_from r cs ds n ops scans ts p
left_same_from r cs ds n ops scans (Scan order range ∷ ts) p =
    ap (λ (rows : List RowEntry). scans_after r cs n ops (scans ++ ((order, rows) ∷ [])) ts) (rows_same r cs ds n ops order range p)
    ∙ left_same_from r cs ds n ops (scans ++ ((order, rows_seen r ds n ops order range) ∷ [])) ts p
left_same_from r cs ds n ops scans (Next i a ∷ ts) p = left_same_from r cs ds n ops (update_at i advanced scans) ts p
left_same_from r cs ds n ops scans (Seek i k ∷ ts) p = left_same_from r cs ds n ops (update_at i (sought k) scans) ts p
left_same_from r cs ds n ops scans (View range ∷ ts) p = left_same_from r cs ds n ops scans ts p
left_same_from r cs ds n ops scans (Own k op ∷ ts) p = left_same_from r cs ds n (ops ++ ((k, op) ∷ [])) scans ts p

-- later commits change nothing of it
pub left_stays : (r : Rules) (cs later : List Commit) (n : ℕ) (ts : List TranscriptStep) → AllByRecursion (λ c. n < c.seq) later → scans_left r (cs ++ later) n ts ≡ scans_left r cs n ts
left_stays r cs later n ts h = left_same_from r (cs ++ later) cs n [] [] ts (same_commits n cs later h)

-- ---- a row that is taken off

pub first_taken : (rows after : List RowEntry) (answer : Option RowEntry) → TakesRow rows answer after → option_map key_value answer ≡ first_left rows
first_taken rows after None h = ap first_left (sym h.0)
first_taken rows after (Some row) h = ap first_left (sym h)

pub rest_taken : (rows after : List RowEntry) (answer : Option RowEntry) → TakesRow rows answer after → after ≡ drop 1 rows
rest_taken rows after None h = h.1 ∙ ap (drop 1) (sym h.0)
rest_taken rows after (Some row) h = ap (drop 1) (sym h)

module _ (r : Rules) (cs : List Commit) (n : ℕ) (ts : List TranscriptStep) where
  pub get_left : (k : List ℕ) (a : Option KeyValue) → scans_left r cs n (ts ++ (Get k a ∷ [])) ≡ scans_left r cs n ts
  get_left k a = left_more r cs n [] [] ts (Get k a ∷ [])

  pub scan_left : (order : IterationOrder) (range : BytesRange) → scans_left r cs n (ts ++ (Scan order range ∷ [])) ≡ scans_left r cs n ts ++ ((order, rows_seen r cs n (own_of ts) order range) ∷ [])
  scan_left order range = left_more r cs n [] [] ts (Scan order range ∷ [])

  pub next_left : (i : ℕ) (a : Option KeyValue) → scans_left r cs n (ts ++ (Next i a ∷ [])) ≡ update_at i advanced (scans_left r cs n ts)
  next_left i a = left_more r cs n [] [] ts (Next i a ∷ [])

  pub seek_left : (i : ℕ) (k : List ℕ) → scans_left r cs n (ts ++ (Seek i k ∷ [])) ≡ update_at i (sought k) (scans_left r cs n ts)
  seek_left i k = left_more r cs n [] [] ts (Seek i k ∷ [])

  pub own_left : (k : List ℕ) (op : WriteOp) → scans_left r cs n (ts ++ (Own k op ∷ [])) ≡ scans_left r cs n ts
  own_left k op = left_more r cs n [] [] ts (Own k op ∷ [])

  -- ---- the scan with a number

  pub count_left : length (scans_left r cs n ts) ≡ count_by is_scan ts
  count_left = count_scans r cs n [] [] ts ∙ zero-add (count_by is_scan ts)

  -- a scan that is opened has the next one
  pub opened_left : (order : IterationOrder) (range : BytesRange) → slice_get (scans_left r cs n (ts ++ (Scan order range ∷ []))) (count_by is_scan ts) ≡ Some (order, rows_seen r cs n (own_of ts) order range)
  opened_left order range =
      ap (λ (ls : List Left). slice_get ls (count_by is_scan ts)) (scan_left order range)
      ∙ ap (slice_get (scans_left r cs n ts ++ ((order, rows_seen r cs n (own_of ts) order range) ∷ []))) (sym count_left)
      ∙ get_last (scans_left r cs n ts) (order, rows_seen r cs n (own_of ts) order range)

  pub is_opened : (i : ℕ) (s : Left) → slice_get (scans_left r cs n ts) i ≡ Some s → i < count_by is_scan ts
  is_opened i s h = subst (λ (m : ℕ). i < m) count_left (get_below i (scans_left r cs n ts) s h)

  -- those that were opened before stay
  pub scan_keeps : (order : IterationOrder) (range : BytesRange) (i : ℕ) (s : Left) → slice_get (scans_left r cs n ts) i ≡ Some s → slice_get (scans_left r cs n (ts ++ (Scan order range ∷ []))) i ≡ Some s
  scan_keeps order range i s h =
      ap (λ (ls : List Left). slice_get ls i) (scan_left order range) ∙ get_before i (scans_left r cs n ts) ((order, rows_seen r cs n (own_of ts) order range) ∷ []) s h

  pub next_moves : (i : ℕ) (a : Option KeyValue) (s : Left) → slice_get (scans_left r cs n ts) i ≡ Some s → slice_get (scans_left r cs n (ts ++ (Next i a ∷ []))) i ≡ Some (advanced s)
  next_moves i a s h = ap (λ (ls : List Left). slice_get ls i) (next_left i a) ∙ get_updated i advanced (scans_left r cs n ts) s h

  pub next_keeps : (i j : ℕ) (a : Option KeyValue) → i ≢ j → slice_get (scans_left r cs n (ts ++ (Next i a ∷ []))) j ≡ slice_get (scans_left r cs n ts) j
  next_keeps i j a apart = ap (λ (ls : List Left). slice_get ls j) (next_left i a) ∙ get_other i j advanced (scans_left r cs n ts) apart

  pub seek_moves : (i : ℕ) (k : List ℕ) (s : Left) → slice_get (scans_left r cs n ts) i ≡ Some s → slice_get (scans_left r cs n (ts ++ (Seek i k ∷ []))) i ≡ Some (sought k s)
  seek_moves i k s h = ap (λ (ls : List Left). slice_get ls i) (seek_left i k) ∙ get_updated i (sought k) (scans_left r cs n ts) s h

  pub seek_keeps : (i j : ℕ) (k : List ℕ) → i ≢ j → slice_get (scans_left r cs n (ts ++ (Seek i k ∷ []))) j ≡ slice_get (scans_left r cs n ts) j
  seek_keeps i j k apart = ap (λ (ls : List Left). slice_get ls j) (seek_left i k) ∙ get_other i j (sought k) (scans_left r cs n ts) apart

  -- ---- alone

  pub get_alone : (k : List ℕ) (a : Option KeyValue) → a ≡ option_map key_value (seen r cs n (own_of ts) k) → IsAlone r cs n ts → IsAlone r cs n (ts ++ (Get k a ∷ []))
  get_alone k a is h = alone_more r cs n [] [] ts (Get k a ∷ []) h (is, tt)

  pub scan_alone : (order : IterationOrder) (range : BytesRange) → IsAlone r cs n ts → IsAlone r cs n (ts ++ (Scan order range ∷ []))
  scan_alone order range h = alone_more r cs n [] [] ts (Scan order range ∷ []) h tt

  pub next_alone : (i : ℕ) (a : Option KeyValue) (s : Left) → slice_get (scans_left r cs n ts) i ≡ Some s → a ≡ first_left s.1 → IsAlone r cs n ts → IsAlone r cs n (ts ++ (Next i a ∷ []))
  next_alone i a s left is h = alone_more r cs n [] [] ts (Next i a ∷ []) h (subst (λ (o : Option Left). IsNextOf o a) (sym left) is, tt)

  pub seek_alone : (i : ℕ) (k : List ℕ) → IsSome (slice_get (scans_left r cs n ts) i) → IsAlone r cs n ts → IsAlone r cs n (ts ++ (Seek i k ∷ []))
  seek_alone i k left h = alone_more r cs n [] [] ts (Seek i k ∷ []) h (left, tt)
