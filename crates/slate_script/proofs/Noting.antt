-- What is noted in a transcript, in one go and in parts.
use Rattle.std.proofs.Common.{◌≡◌, ℕ, ◌<◌, Bool, true, false, List, [], ◌∷◌, ◌++◌, Option, Some, None, cond, option_map, refl, sym, ap, subst, ◌∙◌, append-nil, append_assoc, arith}
use Rattle.std.specs.Prelude.{IsSome, count_by, bytes_eq}
use Rattle.std.proofs.lemmas.Option.{same_Some}
use Rattle.slate_types.specs.declared.bytes_range.BytesRange.{BytesRange}
use Rattle.slate_types.specs.declared.iter.IterationOrder.{IterationOrder}
use Rattle.slate_txn.specs.declared.event.TranscriptStep.{TranscriptStep}
use Rattle.slate_txn.specs.declared.event.TranscriptStep.TheVariants as steps
use Rattle.slate_txn.specs.Named.{find_named, update_named}
use Rattle.slate_txn.specs.State.{State, Tx}
use Rattle.slate_txn.specs.Step.{Reader, is_scan, noted, reader, reader_or_snapshot}
use Rattle.slate_types.proofs.KeyOrder.{bytes_eq_same}
use Rattle.slate_script.proofs.NamesLaws.{find_named_updated, update_same, update_twice}
use Rattle.slate_script.proofs.WalkLaws.{one_more, scans_more}

pub noted_none : (s : State) (k : List ℕ) → s ≡ noted s k []
noted_none s k = sym (ap (λ ps. record s { txns = ps }) (update_same k (λ t. record t { transcript = t.transcript ++ [] }) s.txns (λ t. ap (λ ts. record t { transcript = ts }) (append-nil t.transcript))))

pub noted_both : (s : State) (k : List ℕ) (ts us : List TranscriptStep) → noted (noted s k ts) k us ≡ noted s k (ts ++ us)
noted_both s k ts us =
    ap (λ ps. record s { txns = ps })
    (update_twice k (λ t. record t { transcript = t.transcript ++ ts }) (λ t. record t { transcript = t.transcript ++ us }) s.txns
    ∙ ap (λ (f : Tx → Tx). update_named k f s.txns) (λ i t. record t { transcript = append_assoc t.transcript ts us i }))

abbrev noting : List TranscriptStep → Tx → Tx
noting ts t = record t { transcript = t.transcript ++ ts }

noted_under : (s : State) (k q : List ℕ) (ts : List TranscriptStep) → find_named q (noted s k ts).txns ≡ cond (bytes_eq k q) (option_map (noting ts) (find_named q s.txns)) (find_named q s.txns)
noted_under s k q ts = find_named_updated k q (noting ts) s.txns

-- what reads goes on to
pub noted_reads : (s : State) (k : List ℕ) (ts : List TranscriptStep) → IsSome (reader s k) → IsSome (reader (noted s k ts) k)
noted_reads s k ts some = subst (λ o. IsSome (reader_or_snapshot o (find_named k s.snapshots))) (sym (noted_under s k k ts)) (by (bytes_eq k k) (find_named k s.txns) (find_named k s.snapshots) some)
  where
    by : (b : Bool) (o : Option Tx) (n : Option ℕ) → IsSome (reader_or_snapshot o n) → IsSome (reader_or_snapshot (cond b (option_map (noting ts) o) o) n)
    by true None n h = h
    by true (Some t) n h = refl
    by false o n h = h

-- of a transaction's scans there are no fewer
pub noted_scans : (s : State) (k : List ℕ) (ts : List TranscriptStep) (n : ℕ) → ((t : Tx) → find_named k s.txns ≡ Some t → n < count_by is_scan t.transcript) →
    (t : Tx) → find_named k (noted s k ts).txns ≡ Some t → n < count_by is_scan t.transcript
noted_scans s k ts n below t found = by (find_named k s.txns) below (sym (noted_under s k k ts ∙ ap (λ b. cond b (option_map (noting ts) (find_named k s.txns)) (find_named k s.txns)) (bytes_eq_same k)) ∙ found)
  where
    by : (o : Option Tx) → ((u : Tx) → o ≡ Some u → n < count_by is_scan u.transcript) → option_map (noting ts) o ≡ Some t → n < count_by is_scan t.transcript
    by None h is = cc
    by (Some u) h is =
        let one : n < count_by is_scan u.transcript = h u refl in
        subst (λ (v : Tx). n < count_by is_scan v.transcript) (same_Some (noting ts u) t is) (omega (arith, one, scans_more u.transcript ts))

-- a scan that is opened is one more
pub noted_scan : (s : State) (k : List ℕ) (order : IterationOrder) (range : BytesRange) (from : Reader) → reader s k ≡ Some from →
    (t : Tx) → find_named k (noted s k (steps.Scan order range ∷ [])).txns ≡ Some t → from.scans < count_by is_scan t.transcript
noted_scan s k order range from reads t found =
    by (find_named k s.txns) (find_named k s.snapshots) reads (sym (noted_under s k k ts ∙ ap (λ b. cond b (option_map (noting ts) (find_named k s.txns)) (find_named k s.txns)) (bytes_eq_same k)) ∙ found)
  where
    ts : List TranscriptStep
    ts = steps.Scan order range ∷ []

    by : (o : Option Tx) (n : Option ℕ) → reader_or_snapshot o n ≡ Some from → option_map (noting ts) o ≡ Some t → from.scans < count_by is_scan t.transcript
    by None n h is = cc
    by (Some u) n h is =
        let few : count_by is_scan u.transcript ≡ from.scans = ap (λ (r : Reader). r.scans) (same_Some _ _ h) in
        let many : count_by is_scan (u.transcript ++ ts) ≡ count_by is_scan t.transcript = ap (λ (v : Tx). count_by is_scan v.transcript) (same_Some _ _ is) in
        let more : count_by is_scan u.transcript < count_by is_scan (u.transcript ++ ts) = one_more u.transcript order range in
        omega (arith, few, many, more)
