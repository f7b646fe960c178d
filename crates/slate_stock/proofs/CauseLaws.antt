-- What the steps of an order are refused for, from call to call.
use Rattle.std.proofs.Common.{◌≡◌, ◌≢◌, ◌<◌, ◌≤◌, ◌-◌, ◌^◌, ◌⊎◌, ◌+◌, ◌&&◌, ◌==◌, inl, inr, ℕ, Bool, true, false, nat_lt, nat_le, List, [], ◌∷◌, ◌++◌, length, get_or, Option, Some, None, option_map, Result, Ok, Err, refl, sym, ap, subst, ◌∙◌, arith}
use Rattle.std.specs.Prelude.{Contains, IfErr, IsOkUnless}
use Rattle.std.specs.List.{AllByRecursion, list_all}
use Rattle.std.proofs.lemmas.Bool.Decides.{nat_tests}
use Rattle.std.proofs.lemmas.List.{length-append}
use Rattle.std.proofs.lemmas.List.Elements.{Contains-get_or}
use Rattle.slate_types.specs.declared.config.IsolationLevel.TheVariants.{SerializableSnapshot}
use Rattle.slate_types.specs.declared.error.SlateDBError.{SlateDBError}
use Rattle.slate_types.specs.declared.error.SlateDBError.TheVariants as errors
use Rattle.slate_types.specs.declared.types.KeyValue.{KeyValue}
use Rattle.slate_types.specs.Outside.{Meaning, Objects, OnlyReads, Reach}
use Rattle.slate_types.specs.Rows.{key_value}
use Rattle.slate_types.proofs.Reaching.{fault_earlier, reads_none, reads_then}
use Rattle.slate_filter.specs.Policy.{Policy}
use Rattle.slate_mem.specs.Batch.{Ops}
use Rattle.slate_mem.specs.BatchModel.{plain_put}
use Rattle.slate_mem.specs.KeyTests.{Segments}
use Rattle.slate_mem.specs.Refusals.{first_refusal, op_refusal, when}
use Rattle.slate_txn.specs.declared.event.TranscriptStep.{TranscriptStep}
use Rattle.slate_txn.specs.declared.event.TranscriptStep.TheVariants as steps
use Rattle.slate_txn.specs.Alone.{own_of}
use Rattle.slate_txn.specs.Reads.{seen}
use Rattle.slate_txn.proofs.ReadLaws.{alone_rest}
use Rattle.slate_db.specs.Meaning.{rules_of}
use Rattle.slate_db.specs.Model.{CoreModel}
use Rattle.slate_db.specs.Settled.{IsSettled, IsSettledIn}
use Rattle.slate_steps.specs.Reads.{IsFaultSettled, IsReadError, IsReadFault}
use Rattle.slate_steps.specs.Steps.{IsWithin, Sees, newest}
use Rattle.slate_stock.specs.declared.error.StockError.{StockError}
use Rattle.slate_stock.specs.declared.error.StockError.TheVariants.{SameName, SameAsset, TooMuch, BadAmount, AlreadyIssued, NotEnough, Db, ForeignCommit}
use Rattle.slate_stock.specs.declared.order.Order.{Order}
use Rattle.slate_stock.specs.declared.order.Order.TheVariants.{Issue, Pay, Trade}
use Rattle.slate_stock.specs.Amounts.{balance_key, head, issued_key, money}
use Rattle.slate_stock.specs.Names.{is_letter_or_digit}
use Rattle.slate_stock.specs.Commits.{HasNames, IsPlainName}
use Rattle.slate_stock.specs.Orders.{order_keys}
use Rattle.slate_stock.specs.Running.{IsBad, IsBadAmount, IsDb, IsGetCause, IsGetTruth, IsKey, IsReadCause, IsReadTruth}
use Rattle.slate_stock.proofs.StepLaws.{bad_there}

-- ---- of a database error

pub db_map : (P Q : SlateDBError → Type 0) (e : StockError) → ((x : SlateDBError) → P x → Q x) → IsDb P e → IsDb Q e
db_map P Q (Db x) f h = f x h
db_map P Q SameName f h = absurd h
db_map P Q SameAsset f h = absurd h
db_map P Q TooMuch f h = absurd h
db_map P Q (BadAmount k) f h = absurd h
db_map P Q (AlreadyIssued a) f h = absurd h
db_map P Q (NotEnough k n m) f h = absurd h
db_map P Q (ForeignCommit n) f h = absurd h

pub bad_map : (P Q : List ℕ → Type 0) (e : StockError) → ((k : List ℕ) → P k → Q k) → IsBad P e → IsBad Q e
bad_map P Q (BadAmount k) f h = f k h
bad_map P Q (Db x) f h = absurd h
bad_map P Q SameName f h = absurd h
bad_map P Q SameAsset f h = absurd h
bad_map P Q TooMuch f h = absurd h
bad_map P Q (AlreadyIssued a) f h = absurd h
bad_map P Q (NotEnough k n m) f h = absurd h
bad_map P Q (ForeignCommit n) f h = absurd h

pub db_is : (P : SlateDBError → Type 0) (e : StockError) (x : SlateDBError) → e ≡ Db x → P x → IsDb P e
db_is P e x is h = subst (IsDb P) (sym is) h

-- ---- settled, by what was reached before

pub settled_as : (policies : List Policy) (g : Segments) (a b : Reach) (c : CoreModel) → OnlyReads a b → IsSettledIn policies g a c → IsSettledIn policies g b c
settled_as policies g a b c reads h =
    subst (λ (m : Meaning). IsSettled policies m g b.objects c) (sym reads.meaning) (subst (λ (o : Option Objects). IsSettled policies a.meaning g o c) (sym reads.objects) h)

pub settled_before : (policies : List Policy) (g : Segments) (a b : Reach) (c : CoreModel) → OnlyReads a b → IsSettledIn policies g b c → IsSettledIn policies g a c
settled_before policies g a b c reads h =
    subst (λ (m : Meaning). IsSettled policies m g a.objects c) reads.meaning (subst (λ (o : Option Objects). IsSettled policies b.meaning g o c) reads.objects h)

pub settled_fault : (policies : List Policy) (a b z : Reach) (c : CoreModel) (x : SlateDBError) → OnlyReads a b → IsFaultSettled policies b z c x → IsFaultSettled policies a z c x
settled_fault policies a b z c x reads f g settled = fault_earlier a b z x reads.later (f g (settled_as policies g a b c reads settled))

-- ---- one get

pub one_fault : (policies : List Policy) (a b : Reach) (c d : CoreModel) (id : List ℕ) (ts : List TranscriptStep) (x : SlateDBError) → IsWithin c id SerializableSnapshot ts d → IsReadError policies a b d x → IsReadFault policies a b c id SerializableSnapshot x
one_fault policies a b c d id ts x within h = record { taken = ts; core = d; within = within; from = a; upto = b; first = reads_none a; later = reads_none b; refused = h }

pub fault_since : (policies : List Policy) (a b z : Reach) (c : CoreModel) (id : List ℕ) (x : SlateDBError) → OnlyReads a b → IsReadFault policies b z c id SerializableSnapshot x → IsReadFault policies a z c id SerializableSnapshot x
fault_since policies a b z c id x reads h = record { taken = h.taken; core = h.core; within = h.within; from = h.from; upto = h.upto; first = reads_then a b h.from reads h.first; later = h.later; refused = h.refused }

pub fault_upto : (policies : List Policy) (a y z : Reach) (c : CoreModel) (id : List ℕ) (x : SlateDBError) → OnlyReads y z → IsReadFault policies a y c id SerializableSnapshot x → IsReadFault policies a z c id SerializableSnapshot x
fault_upto policies a y z c id x reads h = record { taken = h.taken; core = h.core; within = h.within; from = h.from; upto = h.upto; first = h.first; later = reads_then h.upto y z h.later reads; refused = h.refused }

-- the value that was found
abbrev pub IsFoundCause : Option KeyValue → List ℕ → StockError → Type 0
IsFoundCause found k e = (e ≡ Db errors.OutOfMemory) ⊎ ((e ≡ BadAmount k) × ((row : KeyValue) × (found ≡ Some row) × (length row.value ≢ 8)))

pub found_cause : (policies : List Policy) (a b : Reach) (c : CoreModel) (id k : List ℕ) (found : Option KeyValue) (e : StockError) → IsFoundCause found k e → IsGetCause policies a b c id k e
found_cause policies a b c id k found e (inl is) = inl (db_is _ e errors.OutOfMemory is (inl refl))
found_cause policies a b c id k found e (inr bad) = inr bad.0

pub found_truth : (P : SlateDBError → Type 0) (m : Meaning) (c : CoreModel) (k : List ℕ) (ts : List TranscriptStep) (found : Option KeyValue) (e : StockError) → P errors.OutOfMemory → own_of ts ≡ [] → Sees m c (ts ++ (steps.Get k found ∷ [])) →
    IsFoundCause found k e → IsGetTruth P m c k e
found_truth P m c k ts found e wanting none sees (inl is) = inl (db_is P e errors.OutOfMemory is wanting)
found_truth P m c k ts found e wanting none sees (inr (is, (row, there, long))) =
    inr (
      is,
      bad_there (rules_of c.settings m) c.state.commits (newest c) k found row
          (subst (λ (os : Ops). found ≡ option_map key_value (seen (rules_of c.settings m) c.state.commits (newest c) os k)) none
          (alone_rest (rules_of c.settings m) c.state.commits (newest c) [] [] ts (steps.Get k found ∷ []) sees).0) there long,
    )

-- ---- several

pub cause_more : (policies : List Policy) (a b z : Reach) (c : CoreModel) (id : List ℕ) (keys : List (List ℕ)) (i : ℕ) (d k : List ℕ) (e : StockError) → OnlyReads a b → i < length keys → k ≡ get_or keys i d →
    IsGetCause policies b z c id k e → IsReadCause policies a z c id keys e
cause_more policies a b z c id keys i d k e reads within is (inl h) = inl (db_map _ _ e (λ x. elim [ inl m ↦ inl m | inr f ↦ inr (fault_since policies a b z c id x reads f) ]) h)
cause_more policies a b z c id keys i d k e reads within is (inr bad) = inr (subst (IsBad (λ j. Contains keys j)) (sym bad) (subst (Contains keys) (sym is) (Contains-get_or keys i d within)))

pub truth_more : (policies : List Policy) (a b z : Reach) (c : CoreModel) (keys : List (List ℕ)) (i : ℕ) (d k : List ℕ) (e : StockError) → OnlyReads a b → i < length keys → k ≡ get_or keys i d →
    IsGetTruth (IsFaultSettled policies b z c) b.meaning c k e → IsReadTruth (IsFaultSettled policies a z c) a.meaning c keys e
truth_more policies a b z c keys i d k e reads within is (inl h) = inl (db_map (IsFaultSettled policies b z c) (IsFaultSettled policies a z c) e (λ x f. settled_fault policies a b z c x reads f) h)
truth_more policies a b z c keys i d k e reads within is (inr (bad, value)) =
    inr (subst (IsBad (λ j. Contains keys j × IsBadAmount a.meaning c j)) (sym bad)
    (subst (Contains keys) (sym is) (Contains-get_or keys i d within), subst (λ (m : Meaning). IsBadAmount m c k) reads.meaning value))

-- want of memory between reads
pub wanting_truth : (P : SlateDBError → Type 0) (m : Meaning) (c : CoreModel) (keys : List (List ℕ)) (x : SlateDBError) → P errors.OutOfMemory → x ≡ errors.OutOfMemory → IsReadTruth P m c keys (Db x)
wanting_truth P m c keys x wanting is = inl (subst P (sym is) wanting)

-- ---- puts

none_empty : (n : ℕ) → 0 < n → (n == 0) ≡ false
none_empty n h = grind (arith, nat_tests)

not_above : (n m : ℕ) → n ≤ m → nat_lt m n ≡ false
not_above n m h = grind (arith, nat_tests)

pub no_refusal : (k v : List ℕ) → 0 < length k → length k ≤ 65535 → length v ≡ 8 → op_refusal k (plain_put v) ≡ None
no_refusal k v some short long =
    let few : length v ≤ 2 ^ 32 - 1 = omega (arith, long) in
    λ i. first_refusal (when (none_empty (length k) some i) errors.EmptyKey ∷ when (not_above (length k) 65535 short i) (errors.KeyTooLong (length k)) ∷ when (not_above (length v) (2 ^ 32 - 1) few i) (errors.ValueTooLong (length v)) ∷ [])

pub put_memory : (k v : List ℕ) (e : SlateDBError) → IsKey k → length v ≡ 8 → (e ≡ errors.OutOfMemory) ⊎ (op_refusal k (plain_put v) ≡ Some e) → Db e ≡ Db errors.OutOfMemory
put_memory k v e key long (inl is) = ap Db is
put_memory k v e key long (inr refused) = let none : None ≡ Some e = sym (no_refusal k v key.0 key.1 long) ∙ refused in cc

pub unless_memory : {X : Type 0} (r : Result X StockError) (Q : StockError → Type 0) → IsOkUnless r (Db errors.OutOfMemory) → IfErr r (λ e. (e ≡ Db errors.OutOfMemory) ⊎ Q e)
unless_memory (Ok x) Q h = tt
unless_memory (Err e) Q h = inl h

-- ---- the keys of an order

first_two : (a b c : Bool) → ((a && b) && c) ≡ true → (a ≡ true) × (b ≡ true)
first_two true true c h = (refl, refl)
first_two true false c h = cc
first_two false b c h = cc

name_fits : (n : List ℕ) → IsPlainName n → (1 ≤ length n) × (length n ≤ 32)
name_fits n h =
    let tests = first_two (nat_le 1 (length n)) (nat_le (length n) 32) (list_all is_letter_or_digit n) h in
    (le_of 1 (length n) tests.0, le_of (length n) 32 tests.1)
  where
    le_of : (a b : ℕ) → nat_le a b ≡ true → a ≤ b
    le_of a b e = grind (arith, nat_tests)

balance_fits : (asset name : List ℕ) → IsPlainName asset → IsPlainName name → IsKey (balance_key asset name)
balance_fits asset name a n =
    let l : length (balance_key asset name) ≡ length (head asset) + length name = length-append (head asset) name in
    let m : length (asset ++ (58 ∷ [])) ≡ length asset + 1 = length-append asset (58 ∷ []) in
    let x = name_fits asset a in
    let y = name_fits name n in
    (omega (arith, l, m, x.0, x.1, y.0, y.1), omega (arith, l, m, x.0, x.1, y.0, y.1))

issued_fits : (asset : List ℕ) → IsPlainName asset → IsKey (issued_key asset)
issued_fits asset a = let x = name_fits asset a in (omega (arith, x.0, x.1), omega (arith, x.0, x.1))

pub keys_fit : (o : Order) → HasNames o → AllByRecursion IsKey (order_keys o)
keys_fit (Issue asset name n) h = (issued_fits asset h.0, (balance_fits asset name h.0 h.1, tt))
keys_fit (Pay asset from to n) h = (balance_fits asset from h.0 h.1, (balance_fits asset to h.0 h.2, tt))
keys_fit (Trade asset buyer seller q p) h = (balance_fits asset seller h.0 h.2, (balance_fits asset buyer h.0 h.1, (balance_fits money buyer refl h.1, (balance_fits money seller refl h.2, tt))))
