-- Later commits change no read, and transcripts go on.
use Rattle.std.proofs.Common.{◌≡◌, ℕ, ◌<◌, false, List, [], ◌∷◌, ◌++◌, map, filter, filter_map, flat_map, option_map, refl, sym, ap, subst, ◌∙◌, cond, arith, leb, append_assoc, append-nil}
use Rattle.std.specs.List.{AllByRecursion}
use Rattle.std.proofs.lemmas.Bool.Decides.{nat_tests}
use Rattle.slate_types.specs.declared.types.RowEntry.{RowEntry}
use Rattle.slate_types.specs.declared.bytes_range.BytesRange.{BytesRange}
use Rattle.slate_types.specs.declared.iter.IterationOrder.{IterationOrder}
use Rattle.slate_types.specs.Keys.{in_range, keys_set}
use Rattle.slate_types.specs.Rows.{key_value}
use Rattle.slate_types.specs.Fold.{shown}
use Rattle.slate_mem.specs.declared.WriteOp.{WriteOp}
use Rattle.slate_mem.specs.Batch.{Ops, kept, batch_keys}
use Rattle.slate_mem.specs.RowOf.{own_row}
use Rattle.slate_txn.specs.declared.event.TranscriptStep.{TranscriptStep}
use Rattle.slate_txn.specs.declared.event.TranscriptStep.TheVariants.{Get, Scan, Next, Seek, View, Own}
use Rattle.slate_txn.specs.State.{Rules, Commit, combine_at}
use Rattle.slate_types.specs.Iteration.{in_order}
use Rattle.slate_txn.specs.Reads.{up_to, key_rows, seen, rows_seen}
use Rattle.slate_txn.specs.Alone.{Left, AloneFrom, own_of, scans_after, advanced, sought}
use Rattle.slate_txn.specs.Tracking.{update_at}

none_later : (n : ℕ) (later : List Commit) → AllByRecursion (λ c. n < c.seq) later → up_to n later ≡ []
none_later n [] h = refl
none_later n (c ∷ cs) h =
    let past : leb c.seq n ≡ false = past_it c.seq n h.0 in
    ap (λ b. cond b (c ∷ up_to n cs) (up_to n cs)) past ∙ none_later n cs h.1
  where
    past_it : (m p : ℕ) → p < m → leb m p ≡ false
    past_it m p k = grind (arith, nat_tests)

pub same_commits : (n : ℕ) (cs later : List Commit) → AllByRecursion (λ c. n < c.seq) later → up_to n (cs ++ later) ≡ up_to n cs
same_commits n [] later h = none_later n later h
same_commits n (c ∷ cs) later h = λ i. cond (leb c.seq n) (c ∷ same_commits n cs later h i) (same_commits n cs later h i)

-- what is seen at n depends on the commits up to n alone
pub seen_same : (r : Rules) (cs ds : List Commit) (n : ℕ) (ops : Ops) (k : List ℕ) → up_to n cs ≡ up_to n ds → seen r cs n ops k ≡ seen r ds n ops k
seen_same r cs ds n ops k p = ap (λ xs. shown (combine_at r k) (key_rows r k xs ++ map (own_row k) (kept ops k))) p

pub rows_same : (r : Rules) (cs ds : List Commit) (n : ℕ) (ops : Ops) (order : IterationOrder) (range : BytesRange) → up_to n cs ≡ up_to n ds → rows_seen r cs n ops order range ≡ rows_seen r ds n ops order range
rows_same r cs ds n ops order range p =
    ap (λ xs. filter_map (λ k. shown (combine_at r k) (key_rows r k xs ++ map (own_row k) (kept ops k)))
    (in_order order (filter (in_range range) (keys_set (flat_map (λ c. batch_keys c.ops) xs ++ batch_keys ops))))) p

pub alone_same : (r : Rules) (cs ds : List Commit) (n : ℕ) (ops : Ops) (scans : List Left) (ts : List TranscriptStep) → up_to n cs ≡ up_to n ds → AloneFrom r cs n ops scans ts → AloneFrom r ds n ops scans ts
alone_same r cs ds n ops scans [] p h = h
alone_same r cs ds n ops scans (Get j b ∷ ts) p h = (h.0 ∙ ap (option_map key_value) (seen_same r cs ds n ops j p), alone_same r cs ds n ops scans ts p h.1)
alone_same r cs ds n ops scans (Scan order range ∷ ts) p h =
    subst (λ (rows : List RowEntry). AloneFrom r ds n ops (scans ++ ((order, rows) ∷ [])) ts) (rows_same r cs ds n ops order range p) (alone_same r cs ds n ops _ ts p h)
alone_same r cs ds n ops scans (Next i b ∷ ts) p h = (h.0, alone_same r cs ds n ops _ ts p h.1)
alone_same r cs ds n ops scans (Seek i j ∷ ts) p h = (h.0, alone_same r cs ds n ops _ ts p h.1)
alone_same r cs ds n ops scans (View range ∷ ts) p h = alone_same r cs ds n ops scans ts p h
alone_same r cs ds n ops scans (Own j op ∷ ts) p h = alone_same r cs ds n (ops ++ ((j, op) ∷ [])) scans ts p h

-- ---- a transcript and more steps

abbrev Rest : Rules → List Commit → ℕ → Ops → List Left → List TranscriptStep → List TranscriptStep → Type 0
Rest r cs n ops scans ts more = AloneFrom r cs n (ops ++ own_of ts) (scans_after r cs n ops scans ts) more

-- the own operations before a step go with those of the steps before
rest_own : (r : Rules) (cs : List Commit) (n : ℕ) (ops : Ops) (scans : List Left) (o : List ℕ × WriteOp) (os : Ops) (more : List TranscriptStep) → AloneFrom r cs n (ops ++ (o ∷ os)) scans more → AloneFrom r cs n ((ops ++ (o ∷ [])) ++ os) scans more
rest_own r cs n ops scans o os more h = subst (λ (ps : Ops). AloneFrom r cs n ps scans more) (sym (append_assoc ops (o ∷ []) os)) h

own_rest : (r : Rules) (cs : List Commit) (n : ℕ) (ops : Ops) (scans : List Left) (o : List ℕ × WriteOp) (os : Ops) (more : List TranscriptStep) → AloneFrom r cs n ((ops ++ (o ∷ [])) ++ os) scans more → AloneFrom r cs n (ops ++ (o ∷ os)) scans more
own_rest r cs n ops scans o os more h = subst (λ (ps : Ops). AloneFrom r cs n ps scans more) (append_assoc ops (o ∷ []) os) h

pub alone_more : (r : Rules) (cs : List Commit) (n : ℕ) (ops : Ops) (scans : List Left) (ts more : List TranscriptStep) → AloneFrom r cs n ops scans ts → Rest r cs n ops scans ts more → AloneFrom r cs n ops scans (ts ++ more)
alone_more r cs n ops scans [] more h m = subst (λ (ps : Ops). AloneFrom r cs n ps scans more) (append-nil ops) m
alone_more r cs n ops scans (Get k a ∷ ts) more h m = (h.0, alone_more r cs n ops scans ts more h.1 m)
alone_more r cs n ops scans (Scan order range ∷ ts) more h m = alone_more r cs n ops _ ts more h m
alone_more r cs n ops scans (Next i a ∷ ts) more h m = (h.0, alone_more r cs n ops (update_at i advanced scans) ts more h.1 m)
alone_more r cs n ops scans (Seek i k ∷ ts) more h m = (h.0, alone_more r cs n ops (update_at i (sought k) scans) ts more h.1 m)
alone_more r cs n ops scans (View range ∷ ts) more h m = alone_more r cs n ops scans ts more h m
alone_more r cs n ops scans (Own k op ∷ ts) more h m =
    alone_more r cs n (ops ++ ((k, op) ∷ [])) scans ts more h (rest_own r cs n ops (scans_after r cs n (ops ++ ((k, op) ∷ [])) scans ts) (k, op) (own_of ts) more m)

pub alone_front : (r : Rules) (cs : List Commit) (n : ℕ) (ops : Ops) (scans : List Left) (ts more : List TranscriptStep) → AloneFrom r cs n ops scans (ts ++ more) → AloneFrom r cs n ops scans ts
alone_front r cs n ops scans [] more h = tt
alone_front r cs n ops scans (Get k a ∷ ts) more h = (h.0, alone_front r cs n ops scans ts more h.1)
alone_front r cs n ops scans (Scan order range ∷ ts) more h = alone_front r cs n ops _ ts more h
alone_front r cs n ops scans (Next i a ∷ ts) more h = (h.0, alone_front r cs n ops (update_at i advanced scans) ts more h.1)
alone_front r cs n ops scans (Seek i k ∷ ts) more h = (h.0, alone_front r cs n ops (update_at i (sought k) scans) ts more h.1)
alone_front r cs n ops scans (View range ∷ ts) more h = alone_front r cs n ops scans ts more h
alone_front r cs n ops scans (Own k op ∷ ts) more h = alone_front r cs n (ops ++ ((k, op) ∷ [])) scans ts more h

pub alone_rest : (r : Rules) (cs : List Commit) (n : ℕ) (ops : Ops) (scans : List Left) (ts more : List TranscriptStep) → AloneFrom r cs n ops scans (ts ++ more) → Rest r cs n ops scans ts more
alone_rest r cs n ops scans [] more h = subst (λ (ps : Ops). AloneFrom r cs n ps scans more) (sym (append-nil ops)) h
alone_rest r cs n ops scans (Get k a ∷ ts) more h = alone_rest r cs n ops scans ts more h.1
alone_rest r cs n ops scans (Scan order range ∷ ts) more h = alone_rest r cs n ops _ ts more h
alone_rest r cs n ops scans (Next i a ∷ ts) more h = alone_rest r cs n ops (update_at i advanced scans) ts more h.1
alone_rest r cs n ops scans (Seek i k ∷ ts) more h = alone_rest r cs n ops (update_at i (sought k) scans) ts more h.1
alone_rest r cs n ops scans (View range ∷ ts) more h = alone_rest r cs n ops scans ts more h
alone_rest r cs n ops scans (Own k op ∷ ts) more h =
    own_rest r cs n ops (scans_after r cs n (ops ++ ((k, op) ∷ [])) scans ts) (k, op) (own_of ts) more (alone_rest r cs n (ops ++ ((k, op) ∷ [])) scans ts more h)
