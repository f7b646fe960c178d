-- What the transactions of a bank did, by their steps.
--     amount_of row      what a row says: an account's balance, or a count; 0 if there is no row
--     IsCount key n ts      a counter was read, and one more was put
--     IsMove from to amount ts      two balances were read, and others put that have the same sum: the first is less by the amount
--     IsTransfer moved from to amount ts      so it was if something moved, and else nothing was put
use Rattle.std.specs.Prelude.{◌≡◌, ℕ, ◌+◌, ◌-◌, ◌^◌, min, Bool, true, false, List, [], ◌∷◌, Option, Some, None}
use Rattle.std.specs.Int.{w64, to_be_bytes}
use Rattle.counters.specs.Counters.{counter_value}
use Rattle.slate_types.specs.declared.types.KeyValue.{KeyValue}
use Rattle.slate_mem.specs.BatchModel.{plain_put}
use Rattle.slate_txn.specs.declared.event.TranscriptStep.{TranscriptStep}
use Rattle.slate_txn.specs.declared.event.TranscriptStep.TheVariants as steps
use Rattle.slate_txn.specs.Alone.{own_of}

abbrev pub amount_of : Option KeyValue → ℕ
amount_of None = 0
amount_of (Some row) = counter_value row.value

pub record IsCount (key : List ℕ) (n : ℕ) (ts : List TranscriptStep) : Type 0 where
  pub row : Option KeyValue
  pub is : ts ≡ steps.Get key row ∷ steps.Own key (plain_put (to_be_bytes w64 n)) ∷ []
  pub one_more : n ≡ min (amount_of row + 1) (2 ^ 64 - 1)

pub record IsMove (from to amount : ℕ) (ts : List TranscriptStep) : Type 0 where
  pub source : Option KeyValue
  pub target : Option KeyValue
  pub left : ℕ
  pub more : ℕ
  pub is : ts ≡ steps.Get (from ∷ []) source ∷ steps.Get (to ∷ []) target ∷ steps.Own (from ∷ []) (plain_put (to_be_bytes w64 left)) ∷ steps.Own (to ∷ []) (plain_put (to_be_bytes w64 more)) ∷ []
  pub less : left + amount ≡ amount_of source
  pub sum : left + more ≡ amount_of source + amount_of target

abbrev pub IsTransfer : Bool → ℕ → ℕ → ℕ → List TranscriptStep → Type 0
IsTransfer true from to amount ts = IsMove from to amount ts
IsTransfer false from to amount ts = own_of ts ≡ []
