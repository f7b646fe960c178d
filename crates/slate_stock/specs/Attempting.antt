-- An order on a database that threads share, in one attempt. o, m: the options, and what the parts mean; from: what the pass had seen; old, new: the pass before and after the call
--     row_behind o m es k, amounts_behind o m es      the row of a key, and the amounts, in the state behind a journal
--     IsBadBehind o m es k      the value at the key isn't 8 bytes long there
--     amounts_since o m es n, IsBadSince o m es n k      the same of the state at a sequence, by that journal
--     IsOpenFrom o from t      a serializable transaction that took some steps
--     HasGotOn o from ts k n t      it got the amount at a key behind the steps
--     HasReadOn o from keys ns t      it got these amounts at the keys, in their order, and nothing else
--     HasTakenOn o from order t      it read and put what the order reads and puts
--     HasOrderedOn o order now n old new      it was committed then, at the newest place of the pass
--     HasSteppedOn o m order now n old new      so it was, by the amounts at its start: behind it those of its keys are the step's, and all others are as just before it
--     OrdersGoOn old new      behind what other threads added the call adds an event, and where all before it are orders', so are all
--     HasEndedOn o old new      a transaction began in the call, and ended without a commit
--     IsLeftOn o old new e      what a refused order leaves: the pass as it was; or nothing begun, as the refusal says; or a transaction that began and ended without a commit
--     HasBegunAt o old new start      a transaction began behind this journal, which begins with what the pass had seen
--     IsReadWithin o policies before after seen x      a read in the call was refused so, by some journal that begins what is seen then
--     HasMetBad o from k t      the last step of the attempt was a get of the key, and its answer isn't 8 bytes long
--     IsGetCauseOn, IsReadsCauseOn, IsTakeCauseOn      what a read of a key, reads of keys, and an order before its commit are refused for
--     IsGetTruthOn P, IsReadsTruthOn P, IsTakeTruthOn P      the same where what was read is checked, by the state at the begin n; P holds of a refusal of the database
--     IsDbCauseOn, IsOrderCauseOn      what an order is refused for, by its causes
--     IsDbTruthOn, IsOrderTruthOn      the same where what was read is checked: the refusal is the order's at the attempt's start
use Rattle.std.specs.Prelude.{◌≡◌, ◌≢◌, ◌⊎◌, ℕ, List, [], ◌∷◌, ◌++◌, Contains, Option, Some, None, Ok, length, ℤ}
use mathlib.Core.List.{IsPrefix}
use Rattle.slate_types.specs.declared.config.IsolationLevel.TheVariants.{SerializableSnapshot}
use Rattle.slate_types.specs.declared.config.Options.{Options}
use Rattle.slate_types.specs.declared.error.SlateDBError.{SlateDBError}
use Rattle.slate_types.specs.declared.types.KeyValue.{KeyValue}
use Rattle.slate_types.specs.declared.types.RowEntry.{RowEntry}
use Rattle.slate_types.specs.Outside.{IsFault, Meaning, OnlyReads, Reach}
use Rattle.slate_types.specs.Rows.{operand}
use Rattle.slate_filter.specs.Policy.{Policy}
use Rattle.slate_mem.specs.Batch.{batch_keys, kept_ops}
use Rattle.slate_txn.specs.declared.event.Event.{Event}
use Rattle.slate_txn.specs.declared.event.Event.TheVariants as events
use Rattle.slate_txn.specs.declared.event.TranscriptStep.{TranscriptStep}
use Rattle.slate_txn.specs.declared.event.TranscriptStep.TheVariants as steps
use Rattle.slate_txn.specs.Alone.{own_of}
use Rattle.slate_txn.specs.Reads.{state_at}
use Rattle.slate_txn.specs.Replay.{replay, IsLegal}
use Rattle.slate_txn.specs.Settings.{settings_of}
use Rattle.slate_txn.specs.State.{last_of}
use Rattle.slate_db.specs.Meaning.{rules_of}
use Rattle.slate_shared.specs.Passes.{Opened, PassModel}
use Rattle.slate_steps.specs.Attempts.{HasCommittedBehind, HasEndedBehind, IsAttempt, IsFaultOn, IsReadErrorOn, IsRefusedBehind, IsUnbegun, IsVouchedThere}
use Rattle.slate_stock.specs.declared.order.Order.{Order}
use Rattle.slate_stock.specs.declared.error.StockError.{StockError}
use Rattle.slate_stock.specs.declared.error.StockError.TheVariants.{BadAmount}
use Rattle.slate_stock.specs.Amounts.{Amounts, amount_at}
use Rattle.slate_stock.specs.Orders.{first_of, form_refusals, order_keys, order_moves, order_refusal, order_step}
use Rattle.slate_stock.specs.Commits.{IsAmount, IsOrderBy, puts}
use Rattle.slate_stock.specs.Journals.{IsOrders}
use Rattle.slate_stock.specs.Legs.{AreSteps, IsRead}
use Rattle.slate_stock.specs.Running.{IsBad, IsDb}

abbrev pub row_behind : Options → Meaning → List Event → List ℕ → Option RowEntry
row_behind o m es k = state_at (rules_of (settings_of o) m) (replay es).commits (last_of o.start_seq (replay es).commits) k

abbrev pub amounts_behind : Options → Meaning → List Event → Amounts
amounts_behind o m es = amount_at (rules_of (settings_of o) m) (replay es).commits (last_of o.start_seq (replay es).commits)

abbrev pub IsBadBehind : Options → Meaning → List Event → List ℕ → Type 0
IsBadBehind o m es k = (row : RowEntry) × (row_behind o m es k ≡ Some row) × (length (operand row) ≢ 8)

abbrev pub amounts_since : Options → Meaning → List Event → ℕ → Amounts
amounts_since o m es n = amount_at (rules_of (settings_of o) m) (replay es).commits n

abbrev pub IsBadSince : Options → Meaning → List Event → ℕ → List ℕ → Type 0
IsBadSince o m es n k = (row : RowEntry) × (state_at (rules_of (settings_of o) m) (replay es).commits n k ≡ Some row) × (length (operand row) ≢ 8)

-- ---- what was done

abbrev pub IsOpenFrom : Options → List Event → Opened → Type 0
IsOpenFrom o from t = (taken : List TranscriptStep) × IsAttempt o from SerializableSnapshot taken t

pub record HasGotOn (o : Options) (from : List Event) (ts : List TranscriptStep) (k : List ℕ) (n : ℕ) (t : Opened) : Type 0 where
  pub answer : Option KeyValue
  pub is : IsAmount n answer
  pub within : IsAttempt o from SerializableSnapshot (ts ++ (steps.Get k answer ∷ [])) t

pub record HasReadOn (o : Options) (from : List Event) (keys : List (List ℕ)) (ns : List ℕ) (t : Opened) : Type 0 where
  pub taken : List TranscriptStep
  pub within : IsAttempt o from SerializableSnapshot taken t
  pub read : AreSteps IsRead keys ns taken

pub record HasTakenOn (o : Options) (from : List Event) (order : Order) (t : Opened) : Type 0 where
  pub taken : List TranscriptStep
  pub within : IsAttempt o from SerializableSnapshot taken t
  pub amounts : Amounts
  pub own : own_of taken ≡ puts (order_moves amounts order)
  pub by : IsOrderBy order amounts (kept_ops (own_of taken)) (batch_keys (own_of taken)) taken

pub record HasOrderedOn (o : Options) (order : Order) (now : ℤ) (n : ℕ) (old new : PassModel) : Type 0 where
  pub t : Opened
  pub taken : HasTakenOn o old.seen order t
  pub committed : HasCommittedBehind o t (Some n) now old new
  pub legal : IsLegal o.start_seq new.seen

pub record HasSteppedOn (o : Options) (m : Meaning) (order : Order) (now : ℤ) (n : ℕ) (old new : PassModel) : Type 0 where
  pub done : HasOrderedOn o order now n old new
  pub vouched : IsVouchedThere o m (record done.t { seen = new.seen })
  pub after : Amounts
  pub step : order_step (amounts_behind o m done.taken.within.start) order ≡ Ok after
  pub at_keys : (k : List ℕ) → Contains (order_keys order) k → amounts_behind o m new.seen k ≡ after k
  pub others : (k : List ℕ) → (Contains (order_keys order) k → ⊥) → amounts_behind o m new.seen k ≡ amounts_behind o m done.committed.before k

pub record OrdersGoOn (old new : PassModel) : Type 0 where
  pub before : List Event
  pub event : Event
  pub known : IsPrefix old.seen before
  pub added : new.seen ≡ before ++ (event ∷ [])
  pub orders : IsOrders before → IsOrders new.seen

abbrev pub HasEndedOn : Options → PassModel → PassModel → Type 0
HasEndedOn o old new = (t : Opened) × IsOpenFrom o old.seen t × HasEndedBehind t old new

abbrev pub IsLeftOn : Options → PassModel → PassModel → StockError → Type 0
IsLeftOn o old new e = (new ≡ old) ⊎ IsDb (IsUnbegun old new) e ⊎ HasEndedOn o old new

-- ---- why it was refused

pub record HasBegunAt (o : Options) (old new : List Event) (start : List Event) : Type 0 where
  pub id : List ℕ
  pub known : IsPrefix old start
  pub begun : IsPrefix (start ++ (events.Begin id SerializableSnapshot (last_of o.start_seq (replay start).commits) ∷ [])) new

-- from, upto: what the refused read reached; by: the journal that it was answered by
pub record IsReadWithin (o : Options) (policies : List Policy) (before after : Reach) (seen : List Event) (x : SlateDBError) : Type 0 where
  pub from : Reach
  pub upto : Reach
  pub first : OnlyReads before from
  pub later : OnlyReads upto after
  pub by : List Event
  pub known : IsPrefix by seen
  pub refused : IsReadErrorOn o policies from upto by x

-- before: the steps that it took before
pub record HasMetBad (o : Options) (from : List Event) (k : List ℕ) (t : Opened) : Type 0 where
  pub before : List TranscriptStep
  pub answer : KeyValue
  pub within : IsAttempt o from SerializableSnapshot (before ++ (steps.Get k (Some answer) ∷ [])) t
  pub long : length answer.value ≢ 8

abbrev pub IsGetCauseOn : Options → List Policy → Reach → Reach → List Event → List ℕ → Opened → StockError → Type 0
IsGetCauseOn o policies before after from k t e = IsDb (IsReadErrorOn o policies before after t.seen) e ⊎ ((e ≡ BadAmount k) × HasMetBad o from k t)

abbrev pub IsReadsCauseOn : Options → List Policy → Reach → Reach → List Event → List (List ℕ) → Opened → StockError → Type 0
IsReadsCauseOn o policies before after from keys t e = IsDb (IsReadWithin o policies before after t.seen) e ⊎ IsBad (λ k. Contains keys k × HasMetBad o from k t) e

abbrev pub IsTakeCauseOn : Options → List Policy → Reach → Reach → List Event → Order → Opened → StockError → Type 0
IsTakeCauseOn o policies before after from order t e = IsReadsCauseOn o policies before after from (order_keys order) t e ⊎ ((m : Amounts) × (order_refusal m order ≡ Some e))

abbrev pub IsGetTruthOn : (SlateDBError → Type 0) → Options → Meaning → List Event → ℕ → List ℕ → StockError → Type 0
IsGetTruthOn P o m es n k e = IsDb P e ⊎ ((e ≡ BadAmount k) × IsBadSince o m es n k)

abbrev pub IsReadsTruthOn : (SlateDBError → Type 0) → Options → Meaning → List Event → ℕ → List (List ℕ) → StockError → Type 0
IsReadsTruthOn P o m es n keys e = IsDb P e ⊎ IsBad (λ k. Contains keys k × IsBadSince o m es n k) e

abbrev pub IsTakeTruthOn : (SlateDBError → Type 0) → Options → Meaning → List Event → ℕ → Order → StockError → Type 0
IsTakeTruthOn P o m es n order e = IsReadsTruthOn P o m es n (order_keys order) e ⊎ (order_refusal (amounts_since o m es n) order ≡ Some e)

-- want of memory or a fault, a read that was refused, want of a place for events, a conflict or want of a sequence
pub data IsDbCauseOn (o : Options) (policies : List Policy) (before after : Reach) (old new : PassModel) (order : Order) (x : SlateDBError) : Type 0 where
  fault : IsFault before after x → IsDbCauseOn o policies before after old new order x
  read : IsReadWithin o policies before after new.seen x → IsDbCauseOn o policies before after old new order x
  unbegun : IsUnbegun old new x → IsDbCauseOn o policies before after old new order x
  refused : (t : Opened) → HasTakenOn o old.seen order t → IsRefusedBehind o t old new x → IsDbCauseOn o policies before after old new order x

abbrev pub IsOrderCauseOn : Options → List Policy → Reach → Reach → PassModel → PassModel → Order → StockError → Type 0
IsOrderCauseOn o policies before after old new order e =
    IsDb (IsDbCauseOn o policies before after old new order) e
    ⊎ IsBad (λ k. Contains (order_keys order) k × ((t : Opened) × HasMetBad o old.seen k t × HasEndedBehind t old new)) e
    ⊎ ((m : Amounts) × (order_refusal m order ≡ Some e))

pub data IsDbTruthOn (o : Options) (m : Meaning) (policies : List Policy) (before after : Reach) (old new : PassModel) (order : Order) (x : SlateDBError) : Type 0 where
  fault : IsFaultOn policies m new.seen before after x → IsDbTruthOn o m policies before after old new order x
  unbegun : IsUnbegun old new x → IsDbTruthOn o m policies before after old new order x
  refused : (t : Opened) → (h : HasTakenOn o old.seen order t) → IsRefusedBehind o t old new x → order_refusal (amounts_behind o m h.within.start) order ≡ None → IsDbTruthOn o m policies before after old new order x

-- what the order alone shows is tested first, and then nothing is begun
pub data IsOrderTruthOn (o : Options) (m : Meaning) (policies : List Policy) (before after : Reach) (old new : PassModel) (order : Order) (e : StockError) : Type 0 where
  database : IsDb (IsDbTruthOn o m policies before after old new order) e → IsOrderTruthOn o m policies before after old new order e
  shown : first_of (form_refusals order) ≡ Some e → new ≡ old → after ≡ before → IsOrderTruthOn o m policies before after old new order e
  bad : (start : List Event) → HasBegunAt o old.seen new.seen start → IsBad (λ k. Contains (order_keys order) k × IsBadBehind o m start k) e → IsOrderTruthOn o m policies before after old new order e
  amounts : (start : List Event) → HasBegunAt o old.seen new.seen start → order_refusal (amounts_behind o m start) order ≡ Some e → IsOrderTruthOn o m policies before after old new order e
