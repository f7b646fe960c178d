-- What an order's attempt is refused for, from call to call.
use Rattle.std.proofs.Common.{◌≡◌, ◌<◌, ◌⊎◌, inl, inr, ℕ, List, [], ◌∷◌, ◌++◌, length, get_or, Option, Some, None, option_map, sym, subst, ◌∙◌}
use Rattle.std.specs.Prelude.{Contains, Err, IfErr, Ok, OnErr, Result}
use Rattle.std.proofs.lemmas.List.Elements.{Contains-get_or}
use mathlib.Core.List.{IsPrefix}
use Rattle.slate_types.specs.declared.config.IsolationLevel.TheVariants.{SerializableSnapshot}
use Rattle.slate_types.specs.declared.config.Options.{Options}
use Rattle.slate_types.specs.declared.error.SlateDBError.{SlateDBError}
use Rattle.slate_types.specs.declared.error.SlateDBError.TheVariants as errors
use Rattle.slate_types.specs.declared.types.KeyValue.{KeyValue}
use Rattle.slate_types.specs.Outside.{IsFault, Meaning, OnlyReads, Reach}
use Rattle.slate_types.specs.Rows.{key_value}
use Rattle.slate_types.proofs.Reaching.{fault_earlier, reads_none}
use Rattle.slate_filter.specs.Policy.{Policy}
use Rattle.slate_mem.specs.Batch.{Ops}
use Rattle.slate_txn.specs.declared.event.Event.{Event}
use Rattle.slate_txn.specs.declared.event.TranscriptStep.{TranscriptStep}
use Rattle.slate_txn.specs.declared.event.TranscriptStep.TheVariants as steps
use Rattle.slate_txn.specs.Alone.{own_of}
use Rattle.slate_txn.specs.Reads.{seen}
use Rattle.slate_txn.specs.Replay.{IsLegal, replay}
use Rattle.slate_txn.specs.Settings.{settings_of}
use Rattle.slate_txn.proofs.ReadLaws.{alone_rest}
use Rattle.slate_db.specs.Meaning.{rules_of}
use Rattle.slate_shared.specs.Passes.{Opened, PassModel}
use Rattle.slate_shared.proofs.Lists.{prefix_self, prefix_trans}
use Rattle.slate_steps.specs.Attempts.{HasEndedBehind, IsAttempt, IsFaultOn, IsReadErrorOn, IsRefusedBehind, IsUnbegun, IsVouchedThere}
use Rattle.slate_stock.specs.declared.error.StockError.{StockError}
use Rattle.slate_stock.specs.declared.error.StockError.TheVariants.{Db}
use Rattle.slate_stock.specs.declared.order.Order.{Order}
use Rattle.slate_stock.specs.Amounts.{Amounts}
use Rattle.slate_stock.specs.Orders.{order_keys, order_refusal}
use Rattle.slate_stock.specs.Running.{IsBad, IsDb}
use Rattle.slate_stock.specs.Attempting.{HasEndedOn, HasMetBad, HasTakenOn, IsBadBehind, IsBadSince, IsDbCauseOn, IsDbTruthOn, IsGetCauseOn, IsGetTruthOn, IsLeftOn, IsOpenFrom, IsOrderCauseOn, IsOrderTruthOn, IsReadWithin, IsReadsCauseOn, IsReadsTruthOn, IsTakeCauseOn, IsTakeTruthOn, amounts_behind, amounts_since}
use Rattle.slate_stock.proofs.AttemptLaws.{alone_since, amounts_at_start, at_its_start, row_at_start, true_first, true_last}
use Rattle.slate_stock.proofs.CauseLaws.{IsFoundCause, bad_map, db_is, db_map}
use Rattle.slate_stock.proofs.StepLaws.{bad_there}

-- ---- one get

pub found_cause_on : (o : Options) (policies : List Policy) (a b : Reach) (from : List Event) (k : List ℕ) (ts : List TranscriptStep) (t : Opened) (found : Option KeyValue) (e : StockError) →
    IsAttempt o from SerializableSnapshot (ts ++ (steps.Get k found ∷ [])) t → IsFoundCause found k e → IsGetCauseOn o policies a b from k t e
found_cause_on o policies a b from k ts t found e h (inl is) = inl (db_is _ e errors.OutOfMemory is (inl tt))
found_cause_on o policies a b from k ts t found e h (inr (is, (row, there, long))) =
    inr (is, record { before = ts; answer = row; within = subst (λ (f : Option KeyValue). IsAttempt o from SerializableSnapshot (ts ++ (steps.Get k f ∷ [])) t) there h; long = long })

pub found_truth_on : (P : SlateDBError → Type 0) (o : Options) (m : Meaning) (from es : List Event) (k : List ℕ) (ts : List TranscriptStep) (t : Opened) (found : Option KeyValue) (e : StockError) → P errors.OutOfMemory → own_of ts ≡ [] →
    IsAttempt o from SerializableSnapshot (ts ++ (steps.Get k found ∷ [])) t → IsPrefix t.seen es → IsLegal o.start_seq es → IsVouchedThere o m t → IsFoundCause found k e → IsGetTruthOn P o m es t.tx.begin k e
found_truth_on P o m from es k ts t found e wanting none h later legal v (inl is) = inl (db_is P e errors.OutOfMemory is wanting)
found_truth_on P o m from es k ts t found e wanting none h later legal v (inr (is, (row, there, long))) =
    inr (
      is,
      bad_there (rules_of (settings_of o) m) (replay es).commits t.tx.begin k found row
          (subst (λ (os : Ops). found ≡ option_map key_value (seen (rules_of (settings_of o) m) (replay es).commits t.tx.begin os k)) none
          (alone_rest (rules_of (settings_of o) m) (replay es).commits t.tx.begin [] [] ts (steps.Get k found ∷ []) (alone_since o m from (ts ++ (steps.Get k found ∷ [])) t es h later legal v)).0) there long,
    )

-- ---- several

pub reads_cause_on : (o : Options) (policies : List Policy) (a b z : Reach) (from : List Event) (keys : List (List ℕ)) (i : ℕ) (d k : List ℕ) (t : Opened) (e : StockError) → OnlyReads a b → i < length keys → k ≡ get_or keys i d →
    IsGetCauseOn o policies b z from k t e → IsReadsCauseOn o policies a z from keys t e
reads_cause_on o policies a b z from keys i d k t e reads within is (inl h) =
    inl (db_map (IsReadErrorOn o policies b z t.seen) (IsReadWithin o policies a z t.seen) e (λ x f. record { from = b; upto = z; first = reads; later = reads_none z; by = t.seen; known = prefix_self t.seen; refused = f }) h)
reads_cause_on o policies a b z from keys i d k t e reads within is (inr (bad, met)) =
    inr (subst (IsBad (λ j. Contains keys j × HasMetBad o from j t)) (sym bad) (subst (Contains keys) (sym is) (Contains-get_or keys i d within), met))

pub reads_truth_on : (o : Options) (m : Meaning) (policies : List Policy) (a b z : Reach) (seen es : List Event) (n : ℕ) (keys : List (List ℕ)) (i : ℕ) (d k : List ℕ) (e : StockError) → OnlyReads a b → OnlyReads b z → i < length keys → k ≡ get_or keys i d →
    IsGetTruthOn (IsFaultOn policies m seen b z) o m es n k e → IsReadsTruthOn (IsFaultOn policies m seen a z) o m es n keys e
reads_truth_on o m policies a b z seen es n keys i d k e reads last within is (inl h) =
    inl (db_map (IsFaultOn policies m seen b z) (IsFaultOn policies m seen a z) e (λ x f s. fault_earlier a b z x reads.later (f (true_last policies m seen seen a b z (prefix_self seen) reads last s))) h)
reads_truth_on o m policies a b z seen es n keys i d k e reads last within is (inr (bad, value)) =
    inr (subst (IsBad (λ j. Contains keys j × IsBadSince o m es n j)) (sym bad) (subst (Contains keys) (sym is) (Contains-get_or keys i d within), value))

-- want of memory between reads and puts
pub memory_cause_on : (o : Options) (policies : List Policy) (a z : Reach) (from : List Event) (keys : List (List ℕ)) (t : Opened) → IsReadsCauseOn o policies a z from keys t (Db errors.OutOfMemory)
memory_cause_on o policies a z from keys t = inl (record { from = a; upto = z; first = reads_none a; later = reads_none z; by = t.seen; known = prefix_self t.seen; refused = inl tt })

pub memory_truth_on : (P : SlateDBError → Type 0) (o : Options) (m : Meaning) (es : List Event) (n : ℕ) (keys : List (List ℕ)) → P errors.OutOfMemory → IsReadsTruthOn P o m es n keys (Db errors.OutOfMemory)
memory_truth_on P o m es n keys wanting = inl wanting

pub wanting_cause_on : (o : Options) (policies : List Policy) (a z : Reach) (from : List Event) (keys : List (List ℕ)) (t : Opened) (x : SlateDBError) → x ≡ errors.OutOfMemory → IsReadsCauseOn o policies a z from keys t (Db x)
wanting_cause_on o policies a z from keys t x is = subst (λ (y : SlateDBError). IsReadsCauseOn o policies a z from keys t (Db y)) (sym is) (memory_cause_on o policies a z from keys t)

pub wanting_truth_on : (P : SlateDBError → Type 0) (o : Options) (m : Meaning) (es : List Event) (n : ℕ) (keys : List (List ℕ)) (x : SlateDBError) → P errors.OutOfMemory → x ≡ errors.OutOfMemory → IsReadsTruthOn P o m es n keys (Db x)
wanting_truth_on P o m es n keys x wanting is = subst (λ (y : SlateDBError). IsReadsTruthOn P o m es n keys (Db y)) (sym is) (memory_truth_on P o m es n keys wanting)

-- ---- an order before its commit

abbrev pub IsPutCause : Order → Opened → Opened → Amounts → StockError → Type 0
IsPutCause order t u m e = (e ≡ Db errors.OutOfMemory) ⊎ ((u ≡ t) × (order_refusal m order ≡ Some e))

pub put_cause_on : (o : Options) (policies : List Policy) (a z : Reach) (from : List Event) (order : Order) (t u : Opened) (m : Amounts) (e : StockError) → IsPutCause order t u m e → IsTakeCauseOn o policies a z from order u e
put_cause_on o policies a z from order t u m e (inl is) = inl (subst (IsReadsCauseOn o policies a z from (order_keys order) u) (sym is) (memory_cause_on o policies a z from (order_keys order) u))
put_cause_on o policies a z from order t u m e (inr (same, refused)) = inr (m, refused)

pub put_truth_on : (P : SlateDBError → Type 0) (o : Options) (m : Meaning) (es : List Event) (order : Order) (t u : Opened) (e : StockError) → P errors.OutOfMemory → IsPutCause order t u (amounts_since o m es t.tx.begin) e → IsTakeTruthOn P o m es u.tx.begin order e
put_truth_on P o m es order t u e wanting (inl is) = inl (subst (IsReadsTruthOn P o m es u.tx.begin (order_keys order)) (sym is) (memory_truth_on P o m es u.tx.begin (order_keys order) wanting))
put_truth_on P o m es order t u e wanting (inr (same, refused)) = inr (subst (λ (x : Opened). order_refusal (amounts_since o m es x.tx.begin) order ≡ Some e) (sym same) refused)

-- ---- its commit

module _ (o : Options) (a b z : Reach) (old new : PassModel) (order : Order) (t : Opened) (e : StockError) (reads : OnlyReads a b) (h : HasTakenOn o old.seen order t) (refused : IsDb (λ x. IsFault b z x ⊎ IsRefusedBehind o t old new x) e) where
  pub end_cause_on : (policies : List Policy) → IsOrderCauseOn o policies a z old new order e
  end_cause_on policies = inl (db_map _ (IsDbCauseOn o policies a z old new order) e (λ x. elim [
    | inl f ↦ IsDbCauseOn.fault (fault_earlier a b z x reads.later f)
    | inr c ↦ IsDbCauseOn.refused t h c
  ]) refused)

  pub end_truth_on : (m : Meaning) (policies : List Policy) → order_refusal (amounts_behind o m h.within.start) order ≡ None → IsOrderTruthOn o m policies a z old new order e
  end_truth_on m policies fits = IsOrderTruthOn.database (db_map _ (IsDbTruthOn o m policies a z old new order) e (λ x. elim [
    | inl f ↦ IsDbTruthOn.fault (λ s. fault_earlier a b z x reads.later f)
    | inr c ↦ IsDbTruthOn.refused t h c fits
  ]) refused)

-- ---- or its rollback

pub take_cause_on : (o : Options) (policies : List Policy) (a z : Reach) (old new : PassModel) (order : Order) (t : Opened) (e : StockError) → IsPrefix t.seen new.seen → HasEndedBehind t old new →
    IsTakeCauseOn o policies a z old.seen order t e → IsOrderCauseOn o policies a z old new order e
take_cause_on o policies a z old new order t e begins ended (inl (inl h)) =
    inl (db_map (IsReadWithin o policies a z t.seen) (IsDbCauseOn o policies a z old new order) e
    (λ x f. IsDbCauseOn.read (record { from = f.from; upto = f.upto; first = f.first; later = f.later; by = f.by; known = prefix_trans f.by t.seen new.seen f.known begins; refused = f.refused })) h)
take_cause_on o policies a z old new order t e begins ended (inl (inr bad)) =
    inr (inl (bad_map (λ k. Contains (order_keys order) k × HasMetBad o old.seen k t) (λ k. Contains (order_keys order) k × ((u : Opened) × HasMetBad o old.seen k u × HasEndedBehind u old new)) e (λ k x. (x.0, (t, x.1, ended))) bad))
take_cause_on o policies a z old new order t e begins ended (inr refused) = inr (inr refused)

pub take_truth_on : (o : Options) (m : Meaning) (policies : List Policy) (a z : Reach) (old new : PassModel) (order : Order) (t : Opened) (e : StockError) → OnlyReads a z → IsOpenFrom o old.seen t → IsPrefix t.seen new.seen → IsLegal o.start_seq new.seen →
    IsTakeTruthOn (IsFaultOn policies m t.seen a z) o m new.seen t.tx.begin order e → IsOrderTruthOn o m policies a z old new order e
take_truth_on o m policies a z old new order t e only (ts, h) later legal (inl (inl f)) = IsOrderTruthOn.database (db_map (IsFaultOn policies m t.seen a z) (IsDbTruthOn o m policies a z old new order) e
    (λ x g. IsDbTruthOn.fault (λ s. g (true_first policies m t.seen new.seen a z z later only (reads_none z) s))) f)
take_truth_on o m policies a z old new order t e only (ts, h) later legal (inl (inr bad)) =
    IsOrderTruthOn.bad h.start (at_its_start o m old.seen ts t new.seen h later legal)
    (bad_map (λ k. Contains (order_keys order) k × IsBadSince o m new.seen t.tx.begin k) (λ k. Contains (order_keys order) k × IsBadBehind o m h.start k) e
    (λ k x. (x.0, (x.1.0, sym (row_at_start o m old.seen ts t new.seen h later legal k) ∙ x.1.1, x.1.2))) bad)
take_truth_on o m policies a z old new order t e only (ts, h) later legal (inr refused) =
    IsOrderTruthOn.amounts h.start (at_its_start o m old.seen ts t new.seen h later legal)
    (subst (λ (x : Amounts). order_refusal x order ≡ Some e) (amounts_at_start o m old.seen ts t new.seen h later legal) refused)

-- ---- its begin

pub begin_cause_on : (o : Options) (policies : List Policy) (a z : Reach) (old new : PassModel) (order : Order) (x : SlateDBError) → IsUnbegun old new x → IsOrderCauseOn o policies a z old new order (Db x)
begin_cause_on o policies a z old new order x none = inl (IsDbCauseOn.unbegun none)

pub begin_truth_on : (o : Options) (m : Meaning) (policies : List Policy) (a z : Reach) (old new : PassModel) (order : Order) (x : SlateDBError) → IsUnbegun old new x → IsOrderTruthOn o m policies a z old new order (Db x)
begin_truth_on o m policies a z old new order x none = IsOrderTruthOn.database (IsDbTruthOn.unbegun none)

pub left_ended : (o : Options) (old new : PassModel) (r : Result ℕ StockError) → OnErr r (HasEndedOn o old new) → IfErr r (IsLeftOn o old new)
left_ended o old new (Ok n) ended = tt
left_ended o old new (Err e) ended = inr (inr ended)
