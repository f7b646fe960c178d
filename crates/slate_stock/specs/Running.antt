-- An order on a core, in one transaction. c: the core before the call; before, after: what the call reaches
--     amounts_of m c      the amounts in the core's state
--     HoldsAmount m c k      what stands at the key is an amount: 8 bytes, or nothing for 0
--     HasSeen policies before after c ts      where what was read is checked, the steps' answers are those of the core's state
--     IsKey k      a key that may be put
--     HasGot policies before after c id ts k n d      the transaction read the amount at a key behind the steps
--     HasRead policies before after c id keys ns d      the transaction read these amounts at the keys, in their order, and nothing else
--     HasTaken policies before after c id order d      it read and put what the order reads and puts
--     HasTakenSome id d      so it did of some order
--     HasOrdered policies before after c order now n d      it was committed then
--     IsLeft c d      what a refused order leaves: the core as it was, or a transaction that began and ended without a commit
--     IsIn c id d      what a refused step leaves: the transaction with the steps before it
--     IsDb P e, IsBad P e      a refusal of the database, or of a value at a key, of which P holds
--     db_error e      the error of the database that a refusal tells, if it tells one
--     IsBadAmount m c k      the value at the key isn't 8 bytes long
--     IsGetCause policies before after c id k e, IsReadCause policies before after c id keys e      what a read of the key, or reads of the keys, are refused for
--     IsGetTruth P m c k e, IsReadTruth P m c keys e      the same where what was read is checked: P holds of a refusal of the database, and a value is bad in the core's state
--     IsTakeCause policies before after c id order e, IsTakeTruth P m c order e      the same of an order before its commit
--     IsOrderCause policies before after c order e      what an order is refused for, by its causes
--     IsLast m c order e      no sequence is left for the order
--     IsDbTruth P c x, IsOrderTruth P m c order e      the same where what was read is checked
use Rattle.std.specs.Prelude.{◌≡◌, ◌≢◌, ◌⊎◌, ◌<◌, ◌≤◌, ℕ, ◌-◌, ◌^◌, ◌++◌, ◌∷◌, List, [], Contains, Option, Some, None, length, option_map, ℤ}
use Rattle.slate_types.specs.declared.config.IsolationLevel.TheVariants.{SerializableSnapshot}
use Rattle.slate_types.specs.declared.error.SlateDBError.{SlateDBError}
use Rattle.slate_types.specs.declared.error.SlateDBError.TheVariants as errors
use Rattle.slate_types.specs.declared.types.KeyValue.{KeyValue}
use Rattle.slate_types.specs.declared.types.RowEntry.{RowEntry}
use Rattle.slate_types.specs.Outside.{IsFault, Meaning, Reach}
use Rattle.slate_types.specs.Rows.{key_value, operand}
use Rattle.slate_filter.specs.Policy.{Policy}
use Rattle.slate_mem.specs.Batch.{batch_keys, kept_ops}
use Rattle.slate_mem.specs.KeyTests.{Segments}
use Rattle.slate_txn.specs.declared.event.TranscriptStep.{TranscriptStep}
use Rattle.slate_txn.specs.declared.event.TranscriptStep.TheVariants as steps
use Rattle.slate_txn.specs.Alone.{own_of}
use Rattle.slate_txn.specs.Reads.{state_at}
use Rattle.slate_db.specs.Flushed.{NoPlace}
use Rattle.slate_db.specs.Log.{LIMIT}
use Rattle.slate_db.specs.Meaning.{rules_of}
use Rattle.slate_db.specs.Model.{CoreModel}
use Rattle.slate_steps.specs.Reads.{IsChecked, IsReadFault}
use Rattle.slate_steps.specs.Steps.{HasCommitted, HasEnded, IsWithin, Sees, newest}
use Rattle.slate_stock.specs.declared.order.Order.{Order}
use Rattle.slate_stock.specs.declared.error.StockError.{StockError}
use Rattle.slate_stock.specs.declared.error.StockError.TheVariants.{BadAmount, Db}
use Rattle.slate_stock.specs.Amounts.{Amounts, amount_at}
use Rattle.slate_stock.specs.Orders.{order_keys, order_moves, order_refusal}
use Rattle.slate_stock.specs.Commits.{IsAmount, IsOrderBy, puts}
use Rattle.slate_stock.specs.Legs.{AreSteps, IsRead}

abbrev pub row_in : Meaning → CoreModel → List ℕ → Option RowEntry
row_in m c k = state_at (rules_of c.settings m) c.state.commits (newest c) k

abbrev pub amounts_of : Meaning → CoreModel → Amounts
amounts_of m c = amount_at (rules_of c.settings m) c.state.commits (newest c)

abbrev pub HoldsAmount : Meaning → CoreModel → List ℕ → Type 0
HoldsAmount m c k = IsAmount (amounts_of m c k) (option_map key_value (row_in m c k))

abbrev pub HasSeen : List Policy → Reach → Reach → CoreModel → List TranscriptStep → Type 0
HasSeen policies before after c ts = (g : Segments) → IsChecked policies g before after c → Sees before.meaning c ts

abbrev pub IsKey : List ℕ → Type 0
IsKey k = (0 < length k) × (length k ≤ 65535)

-- ---- what was done

abbrev pub IsIn : CoreModel → List ℕ → CoreModel → Type 0
IsIn c id d = (taken : List TranscriptStep) × IsWithin c id SerializableSnapshot taken d

-- one get more
pub record HasGot (policies : List Policy) (before after : Reach) (c : CoreModel) (id : List ℕ) (ts : List TranscriptStep) (k : List ℕ) (n : ℕ) (d : CoreModel) : Type 0 where
  pub answer : Option KeyValue
  pub is : IsAmount n answer
  pub within : IsWithin c id SerializableSnapshot (ts ++ (steps.Get k answer ∷ [])) d
  pub seen : (g : Segments) → IsChecked policies g before after c → Sees before.meaning c ts → Sees before.meaning c (ts ++ (steps.Get k answer ∷ []))

pub record HasRead (policies : List Policy) (before after : Reach) (c : CoreModel) (id : List ℕ) (keys : List (List ℕ)) (ns : List ℕ) (d : CoreModel) : Type 0 where
  pub taken : List TranscriptStep
  pub within : IsWithin c id SerializableSnapshot taken d
  pub read : AreSteps IsRead keys ns taken
  pub seen : HasSeen policies before after c taken

pub record HasTaken (policies : List Policy) (before after : Reach) (c : CoreModel) (id : List ℕ) (order : Order) (d : CoreModel) : Type 0 where
  pub taken : List TranscriptStep
  pub within : IsWithin c id SerializableSnapshot taken d
  pub amounts : Amounts
  pub own : own_of taken ≡ puts (order_moves amounts order)
  pub by : IsOrderBy order amounts (kept_ops (own_of taken)) (batch_keys (own_of taken)) taken
  pub seen : HasSeen policies before after c taken

-- some order's operations stand in the transaction
pub record HasTakenSome (id : List ℕ) (d : CoreModel) : Type 0 where
  pub policies : List Policy
  pub before : Reach
  pub after : Reach
  pub core : CoreModel
  pub order : Order
  pub is : HasTaken policies before after core id order d

pub record HasOrdered (policies : List Policy) (before after : Reach) (c : CoreModel) (order : Order) (now : ℤ) (n : ℕ) (d : CoreModel) : Type 0 where
  pub id : List ℕ
  pub taken : List TranscriptStep
  pub committed : HasCommitted c id SerializableSnapshot taken (Some n) now d
  pub amounts : Amounts
  pub own : own_of taken ≡ puts (order_moves amounts order)
  pub by : IsOrderBy order amounts (kept_ops (own_of taken)) (batch_keys (own_of taken)) taken
  pub seen : HasSeen policies before after c taken

abbrev pub IsLeft : CoreModel → CoreModel → Type 0
IsLeft c d = (d ≡ c) ⊎ ((id : List ℕ) × HasEnded c id SerializableSnapshot d)

-- ---- why it was refused

-- of a database error, and of a value
abbrev pub IsDb : (SlateDBError → Type 0) → StockError → Type 0
IsDb P (Db x) = P x
IsDb P e = ⊥

abbrev pub db_error : StockError → Option SlateDBError
db_error (Db x) = Some x
db_error e = None

abbrev pub IsBad : (List ℕ → Type 0) → StockError → Type 0
IsBad P (BadAmount k) = P k
IsBad P e = ⊥

-- of one get
abbrev pub IsGetCause : List Policy → Reach → Reach → CoreModel → List ℕ → List ℕ → StockError → Type 0
IsGetCause policies before after c id k e = IsDb (λ x. (x ≡ errors.OutOfMemory) ⊎ IsReadFault policies before after c id SerializableSnapshot x) e ⊎ (e ≡ BadAmount k)

abbrev pub IsReadCause : List Policy → Reach → Reach → CoreModel → List ℕ → List (List ℕ) → StockError → Type 0
IsReadCause policies before after c id keys e = IsDb (λ x. (x ≡ errors.OutOfMemory) ⊎ IsReadFault policies before after c id SerializableSnapshot x) e ⊎ IsBad (λ k. Contains keys k) e

-- a value of another length
abbrev pub IsBadAmount : Meaning → CoreModel → List ℕ → Type 0
IsBadAmount m c k = (row : RowEntry) × (row_in m c k ≡ Some row) × (length (operand row) ≢ 8)

abbrev pub IsGetTruth : (SlateDBError → Type 0) → Meaning → CoreModel → List ℕ → StockError → Type 0
IsGetTruth P m c k e = IsDb P e ⊎ ((e ≡ BadAmount k) × IsBadAmount m c k)

abbrev pub IsReadTruth : (SlateDBError → Type 0) → Meaning → CoreModel → List (List ℕ) → StockError → Type 0
IsReadTruth P m c keys e = IsDb P e ⊎ IsBad (λ k. Contains keys k × IsBadAmount m c k) e

-- want of memory or a fault, a read that was refused, want of a place for events, or of a sequence
pub data IsDbCause (policies : List Policy) (before after : Reach) (c : CoreModel) (x : SlateDBError) : Type 0 where
  fault : IsFault before after x → IsDbCause policies before after c x
  read : (id : List ℕ) → IsReadFault policies before after c id SerializableSnapshot x → IsDbCause policies before after c x
  full : x ≡ errors.LimitReached LIMIT → NoPlace 2 c → IsDbCause policies before after c x
  last : x ≡ errors.SequenceExhausted → newest c ≡ 2 ^ 64 - 2 → IsDbCause policies before after c x

abbrev pub IsOrderCause : List Policy → Reach → Reach → CoreModel → Order → StockError → Type 0
IsOrderCause policies before after c order e = IsDb (IsDbCause policies before after c) e ⊎ IsBad (λ k. Contains (order_keys order) k) e ⊎ ((m : Amounts) × (order_refusal m order ≡ Some e))

-- before an order's commit
abbrev pub IsTakeCause : List Policy → Reach → Reach → CoreModel → List ℕ → Order → StockError → Type 0
IsTakeCause policies before after c id order e = IsReadCause policies before after c id (order_keys order) e ⊎ ((m : Amounts) × (order_refusal m order ≡ Some e))

abbrev pub IsTakeTruth : (SlateDBError → Type 0) → Meaning → CoreModel → Order → StockError → Type 0
IsTakeTruth P m c order e = IsReadTruth P m c (order_keys order) e ⊎ (order_refusal (amounts_of m c) order ≡ Some e)

pub data IsDbTruth (P : SlateDBError → Type 0) (c : CoreModel) (x : SlateDBError) : Type 0 where
  fault : P x → IsDbTruth P c x
  full : x ≡ errors.LimitReached LIMIT → NoPlace 2 c → IsDbTruth P c x

-- no sequence is left for an order that isn't refused
abbrev pub IsLast : Meaning → CoreModel → Order → StockError → Type 0
IsLast m c order e = (e ≡ Db errors.SequenceExhausted) × (newest c ≡ 2 ^ 64 - 2) × (order_refusal (amounts_of m c) order ≡ None)

abbrev pub IsOrderTruth : (SlateDBError → Type 0) → Meaning → CoreModel → Order → StockError → Type 0
IsOrderTruth P m c order e =
    IsDb (IsDbTruth P c) e ⊎ IsBad (λ k. Contains (order_keys order) k × IsBadAmount m c k) e ⊎ (order_refusal (amounts_of m c) order ≡ Some e) ⊎ IsLast m c order e
