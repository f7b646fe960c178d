-- The sum of the amounts that rows hold, as a loop takes them, and what a total is refused for.
use Rattle.std.proofs.Common.{◌≡◌, ◌≢◌, ◌+◌, ◌<◌, ◌≤◌, ◌^◌, ◌⊎◌, inl, inr, ℕ, true, nat_le, List, [], ◌∷◌, ◌++◌, length, map, take, drop, get_or, Option, Some, None, Result, Ok, Err, refl, sym, ap, subst, ◌∙◌, arith}
use Rattle.std.specs.Prelude.{Contains, IfErr, IfOk}
use Rattle.std.proofs.lemmas.Bool.Decides.{nat_tests}
use Rattle.std.proofs.lemmas.List.{take-append-drop, take_all, take_more}
use Rattle.std.proofs.lemmas.List.Elements.{Contains-get_or}
use Rattle.slate_types.specs.declared.config.IsolationLevel.TheVariants.{SerializableSnapshot}
use Rattle.slate_types.specs.declared.error.SlateDBError.{SlateDBError}
use Rattle.slate_types.specs.declared.error.SlateDBError.TheVariants as errors
use Rattle.slate_types.specs.declared.iter.IterationOrder.TheVariants.{Ascending}
use Rattle.slate_types.specs.declared.types.KeyValue.{KeyValue}
use Rattle.slate_types.specs.Keys.{prefix_range}
use Rattle.slate_types.specs.Outside.{IsFault, Meaning, OnlyReads, Reach}
use Rattle.slate_types.specs.Rows.{key_value}
use Rattle.slate_types.proofs.Reaching.{fault_earlier}
use Rattle.slate_filter.specs.Policy.{Policy}
use Rattle.slate_mem.specs.Batch.{Ops}
use Rattle.slate_mem.specs.KeyTests.{Segments}
use Rattle.slate_txn.specs.declared.event.TranscriptStep.{TranscriptStep}
use Rattle.slate_txn.specs.declared.event.TranscriptStep.TheVariants as steps
use Rattle.slate_txn.specs.Reads.{rows_seen}
use Rattle.slate_db.specs.Meaning.{rules_of}
use Rattle.slate_db.specs.Model.{CoreModel}
use Rattle.slate_db.specs.Settled.{IsSettledIn}
use Rattle.slate_steps.specs.Reads.{IsFaultSettled, IsReadError}
use Rattle.slate_steps.specs.Steps.{IsBeginError, IsWithin, newest}
use Rattle.slate_steps.proofs.StoreTruth.{checked_in}
use Rattle.slate_stock.specs.declared.error.StockError.{StockError}
use Rattle.slate_stock.specs.declared.error.StockError.TheVariants.{SameName, SameAsset, TooMuch, BadAmount, AlreadyIssued, NotEnough, Db, ForeignCommit}
use Rattle.slate_stock.specs.Amounts.{amount_bytes, amount_of, head, issued_key}
use Rattle.slate_stock.specs.Running.{HasGot, IsBad, IsBadAmount, IsDb, IsDbCause, IsDbTruth, IsGetCause, IsGetTruth, amounts_of}
use Rattle.slate_stock.specs.Totals.{IsRowRefusal, IsSum, IsSumRefusal, IsTotalCause, IsTotalTruth, balance_rows, values_sum}
use Rattle.slate_stock.proofs.CauseLaws.{db_is, db_map, fault_since, one_fault}
use Rattle.slate_stock.proofs.PutLaws.{amount_again}
use Rattle.slate_stock.proofs.StepLaws.{reads_there}

-- ---- the sum

sum_append : (xs ys : List KeyValue) → values_sum (xs ++ ys) ≡ values_sum xs + values_sum ys
sum_append [] ys = omega arith
sum_append (x ∷ xs) ys = let more = sum_append xs ys in omega (arith, more)

one_sum : (row : KeyValue) → values_sum (row ∷ []) ≡ amount_of row.value
one_sum row = omega arith

-- one row more
sum_more : (xs : List KeyValue) (i : ℕ) (d row : KeyValue) → i < length xs → row ≡ get_or xs i d → values_sum (take (i + 1) xs) ≡ values_sum (take i xs) + amount_of row.value
sum_more xs i d row within is =
    ap values_sum (take_more xs i d within ∙ ap (λ (r : KeyValue). take i xs ++ (r ∷ [])) (sym is)) ∙ sum_append (take i xs) (row ∷ []) ∙ ap (λ (m : ℕ). values_sum (take i xs) + m) (one_sum row)

pub sum_step : (xs : List KeyValue) (i : ℕ) (d row : KeyValue) (n sum : ℕ) → i < length xs → row ≡ get_or xs i d → n ≡ sum + amount_of row.value → sum ≡ values_sum (take i xs) → n ≡ values_sum (take (i + 1) xs)
sum_step xs i d row n sum within is more old = more ∙ ap (λ (m : ℕ). m + amount_of row.value) old ∙ sym (sum_more xs i d row within is)

sum_begins : (xs : List KeyValue) (i : ℕ) → values_sum (take i xs) ≤ values_sum xs
sum_begins xs i =
    let whole : values_sum (take i xs ++ drop i xs) ≡ values_sum (take i xs) + values_sum (drop i xs) = sum_append (take i xs) (drop i xs) in
    let same : values_sum (take i xs ++ drop i xs) ≡ values_sum xs = ap values_sum (take-append-drop i xs) in
    omega (arith, whole, same)

pub sum_all : (xs : List KeyValue) (i n : ℕ) → length xs ≤ i → n ≡ values_sum (take i xs) → n ≡ values_sum xs
sum_all xs i n past is = is ∙ ap values_sum (take_all i xs past)

pub row_sum_is : (row : KeyValue) (n more sum : ℕ) → row.value ≡ amount_bytes more → more < 2 ^ 64 → sum ≡ n + more → sum ≡ n + amount_of row.value
row_sum_is row n more sum value fits is = is ∙ ap (λ (m : ℕ). n + m) (sym (ap amount_of value ∙ amount_again more fits))

above : (n m : ℕ) → nat_le n m ≡ true → n ≤ m
above n m h = grind (arith, nat_tests)

pub past_row : (row : KeyValue) (n more : ℕ) (e : StockError) → row.value ≡ amount_bytes more → more < 2 ^ 64 → nat_le (2 ^ 64) (n + more) ≡ true → e ≡ TooMuch → IsRowRefusal n row e
past_row row n more e value fits past is = inr (inr (is, above (2 ^ 64) (n + amount_of row.value) (ap (λ (m : ℕ). nat_le (2 ^ 64) (n + m)) (ap amount_of value ∙ amount_again more fits) ∙ past)))

pub sum_refused : (xs : List KeyValue) (i n : ℕ) (d row : KeyValue) (e : StockError) → i < length xs → row ≡ get_or xs i d → n ≡ values_sum (take i xs) → IsRowRefusal n row e → IsSumRefusal xs e
sum_refused xs i n d row e within is sum (inl memory) = IsSumRefusal.memory memory
sum_refused xs i n d row e within is sum (inr (inl (bad, long))) = IsSumRefusal.bad row (subst (Contains xs) (sym is) (Contains-get_or xs i d within)) long bad
sum_refused xs i n d row e within is sum (inr (inr (much, past))) =
    let more : values_sum (take (i + 1) xs) ≡ values_sum (take i xs) + amount_of row.value = sum_more xs i d row within is in
    let less : values_sum (take (i + 1) xs) ≤ values_sum xs = sum_begins xs (i + 1) in
    IsSumRefusal.past (omega (arith, past, sum, more, less)) much

-- ---- what was read

pub got_there : (policies : List Policy) (g : Segments) (a b : Reach) (c d : CoreModel) (id k : List ℕ) (n : ℕ) → HasGot policies a b c id [] k n d → IsSettledIn policies g a c → n ≡ amounts_of a.meaning c k
got_there policies g a b c d id k n h settled = first (reads_there (rules_of c.settings a.meaning) c.state.commits (newest c) (k ∷ []) (n ∷ []) (steps.Get k h.answer ∷ []) ((refl, h.is), tt) (h.seen g (checked_in policies g a b c settled) tt))
  where
    first : {m : ℕ} → (n ∷ []) ≡ (m ∷ []) → n ≡ m
    first is = cc

pub got_key : (policies : List Policy) (a b : Reach) (c d : CoreModel) (id k j : List ℕ) (r : Result ℕ StockError) → k ≡ j → IfOk r (λ n. HasGot policies a b c id [] k n d) → IfOk r (λ n. HasGot policies a b c id [] j n d)
got_key policies a b c d id k j r same h = subst (λ (x : List ℕ). IfOk r (λ n. HasGot policies a b c id [] x n d)) same h

-- the rows behind the head of an asset's keys, where the transaction wrote nothing
pub balances_are : (m : Meaning) (c : CoreModel) (asset prefix : List ℕ) (ops : Ops) (rows : List KeyValue) → prefix ≡ head asset → ops ≡ [] →
    rows ≡ map key_value (rows_seen (rules_of c.settings m) c.state.commits (newest c) ops Ascending (prefix_range prefix)) → rows ≡ map key_value (balance_rows m c asset)
balances_are m c asset prefix ops rows same none is = is ∙ (λ i. map key_value (rows_seen (rules_of c.settings m) c.state.commits (newest c) (none i) Ascending (prefix_range (same i))))

pub sum_is_there : (a b : Reach) (c : CoreModel) (asset : List ℕ) (n : ℕ) → OnlyReads a b → IsSum b.meaning c asset n → IsSum a.meaning c asset n
sum_is_there a b c asset n only h = subst (λ (m : Meaning). IsSum m c asset n) only.meaning h

-- ---- what a total is refused for

module _ (policies : List Policy) (a z : Reach) (c : CoreModel) (asset : List ℕ) where
  pub sum_cause : (rows : List KeyValue) (e : StockError) → IsSumRefusal rows e → IsTotalCause policies a z c e
  sum_cause rows e (IsSumRefusal.memory is) = inl (db_is (IsDbCause policies a z c) e errors.OutOfMemory is (IsDbCause.fault tt))
  sum_cause rows e (IsSumRefusal.bad row here long is) = inr (inl (subst (IsBad (λ k. Unit {0})) (sym is) tt))
  sum_cause rows e (IsSumRefusal.past much is) = inr (inr is)

  pub sum_truth : (rows : List KeyValue) (e : StockError) → rows ≡ map key_value (balance_rows a.meaning c asset) → IsSumRefusal rows e → IsTotalTruth a z c asset e
  sum_truth rows e are refused = IsTotalTruth.refused (subst (λ (rs : List KeyValue). IsSumRefusal rs e) are refused)

  pub memory_cause : (e : StockError) → e ≡ Db errors.OutOfMemory → IsTotalCause policies a z c e
  memory_cause e is = inl (db_is (IsDbCause policies a z c) e errors.OutOfMemory is (IsDbCause.fault tt))

  pub memory_truth : (e : StockError) → e ≡ Db errors.OutOfMemory → IsTotalTruth a z c asset e
  memory_truth e is = IsTotalTruth.database (db_is (IsDbTruth (IsFault a z) c) e errors.OutOfMemory is (IsDbTruth.fault tt))

  pub begin_total_cause : (x : SlateDBError) → IsBeginError c x → IsTotalCause policies a z c (Db x)
  begin_total_cause x (inl m) = inl (IsDbCause.fault (subst (IsFault a z) (sym m) tt))
  begin_total_cause x (inr full) = inl (IsDbCause.full full.0 full.1)

  pub begin_total_truth : (x : SlateDBError) → IsBeginError c x → IsTotalTruth a z c asset (Db x)
  begin_total_truth x (inl m) = IsTotalTruth.database (IsDbTruth.fault (subst (IsFault a z) (sym m) tt))
  begin_total_truth x (inr full) = IsTotalTruth.database (IsDbTruth.full full.0 full.1)

  -- of a scan that was read behind these steps
  pub scan_cause : (d : CoreModel) (id : List ℕ) (ts : List TranscriptStep) (x : SlateDBError) → IsWithin c id SerializableSnapshot ts d → IsReadError policies a z d x → IsTotalCause policies a z c (Db x)
  scan_cause d id ts x within h = inl (IsDbCause.read id (one_fault policies a z c d id ts x within h))

  pub scan_truth : (x : SlateDBError) → IsFault a z x → IsTotalTruth a z c asset (Db x)
  scan_truth x h = IsTotalTruth.database (IsDbTruth.fault h)

  -- of the issued amount, which was read first
  pub issued_cause : (k id : List ℕ) (e : StockError) → IsGetCause policies a z c id k e → IsTotalCause policies a z c e
  issued_cause k id e (inl h) = inl (db_map _ (IsDbCause policies a z c) e (λ x. elim [ inl m ↦ IsDbCause.fault (subst (IsFault a z) (sym m) tt) | inr f ↦ IsDbCause.read id f ]) h)
  issued_cause k id e (inr bad) = inr (inl (subst (IsBad (λ j. Unit {0})) (sym bad) tt))

  pub issued_truth : (g : Segments) (e : StockError) → IsSettledIn policies g a c → IsGetTruth (IsFaultSettled policies a z c) a.meaning c (issued_key asset) e → IsTotalTruth a z c asset e
  issued_truth g e settled (inl h) = IsTotalTruth.database (db_map (IsFaultSettled policies a z c) (IsDbTruth (IsFault a z) c) e (λ x f. IsDbTruth.fault (f g settled)) h)
  issued_truth g e settled (inr (bad, value)) = IsTotalTruth.issued bad value

-- since an earlier moment
module _ (policies : List Policy) (a b z : Reach) (c : CoreModel) (asset : List ℕ) (only : OnlyReads a b) where
  db_cause_since : (x : SlateDBError) → IsDbCause policies b z c x → IsDbCause policies a z c x
  db_cause_since x (IsDbCause.fault f) = IsDbCause.fault (fault_earlier a b z x only.later f)
  db_cause_since x (IsDbCause.read id f) = IsDbCause.read id (fault_since policies a b z c id x only f)
  db_cause_since x (IsDbCause.full is place) = IsDbCause.full is place
  db_cause_since x (IsDbCause.last is last) = IsDbCause.last is last

  db_truth_since : (x : SlateDBError) → IsDbTruth (IsFault b z) c x → IsDbTruth (IsFault a z) c x
  db_truth_since x (IsDbTruth.fault f) = IsDbTruth.fault (fault_earlier a b z x only.later f)
  db_truth_since x (IsDbTruth.full is place) = IsDbTruth.full is place

  pub total_cause_since : (e : StockError) → IsTotalCause policies b z c e → IsTotalCause policies a z c e
  total_cause_since e (inl h) = inl (db_map (IsDbCause policies b z c) (IsDbCause policies a z c) e db_cause_since h)
  total_cause_since e (inr other) = inr other

  pub total_truth_since : (e : StockError) → IsTotalTruth b z c asset e → IsTotalTruth a z c asset e
  total_truth_since e (IsTotalTruth.database h) = IsTotalTruth.database (db_map (IsDbTruth (IsFault b z) c) (IsDbTruth (IsFault a z) c) e db_truth_since h)
  total_truth_since e (IsTotalTruth.issued is wrong) = IsTotalTruth.issued is (subst (λ (m : Meaning). IsBadAmount m c (issued_key asset)) only.meaning wrong)
  total_truth_since e (IsTotalTruth.refused h) = IsTotalTruth.refused (subst (λ (m : Meaning). IsSumRefusal (map key_value (balance_rows m c asset)) e) only.meaning h)
