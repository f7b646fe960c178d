-- Laws, each the contract of a function of `laws`.
--     BalancesAddUp      on an audited journal with vouched transcripts
--     NoneIsAboveTheIssued      nor is a balance above the issued amount
--     EachIsAStep      there each commit is its order's step
use Rattle.std.specs.Prelude.{◌≡◌, ◌≤◌, ℕ, List, [], ◌∷◌, ◌++◌, Some, ℤ, Ok}
use Rattle.slate_mem.specs.Batch.{Ops}
use Rattle.slate_txn.specs.declared.event.Event.{Event}
use Rattle.slate_txn.specs.declared.event.Event.TheVariants as events
use Rattle.slate_txn.specs.declared.event.TranscriptStep.{TranscriptStep}
use Rattle.slate_txn.specs.State.{Rules, last}
use Rattle.slate_txn.specs.Replay.{replay}
use Rattle.slate_txn.specs.Vouched.{AreVouched}
use Rattle.slate_stock.specs.declared.order.Order.{Order}
use Rattle.slate_stock.specs.Amounts.{Amounts, balance_key, issued_key, amount_at, total_at}
use Rattle.slate_stock.specs.Orders.{order_step}
use Rattle.slate_stock.specs.Commits.{IsPlainName}
use Rattle.slate_stock.specs.Journals.{AreAuditedOrders}

-- The balances of an asset add up to what was issued of it, at each sequence.
abbrev pub BalancesAddUp : Type 0
BalancesAddUp = (r : Rules) (es : List Event) (n : ℕ) (asset : List ℕ) → AreAuditedOrders r.start_seq es → AreVouched r es → IsPlainName asset →
    total_at r (replay es).commits n asset ≡ amount_at r (replay es).commits n (issued_key asset)

-- No balance of an asset is above what was issued of it.
abbrev pub NoneIsAboveTheIssued : Type 0
NoneIsAboveTheIssued = (r : Rules) (es : List Event) (n : ℕ) (asset name : List ℕ) → AreAuditedOrders r.start_seq es → AreVouched r es → IsPlainName asset → IsPlainName name →
    amount_at r (replay es).commits n (balance_key asset name) ≤ amount_at r (replay es).commits n (issued_key asset)

-- the map at a sequence, from that just before it
pub record IsOrderStep (r : Rules) (before : List Event) (e : Event) (n : ℕ) : Type 0 where
  pub order : Order
  pub after : Amounts
  pub step : order_step (amount_at r (replay before).commits (last r (replay before))) order ≡ Ok after
  pub state : (k : List ℕ) → amount_at r (replay (before ++ (e ∷ []))).commits n k ≡ after k

-- Each commit is an order's step on the state just before it.
abbrev pub EachIsAStep : Type 0
EachIsAStep = (r : Rules) (before later : List Event) (id : List ℕ) (n : ℕ) (now : ℤ) (ops : Ops) (tracked : List (List ℕ)) (ts : List TranscriptStep) →
    AreAuditedOrders r.start_seq (before ++ (events.Commit id (Some n) now ops tracked ts ∷ later)) → AreVouched r (before ++ (events.Commit id (Some n) now ops tracked ts ∷ later)) →
    IsOrderStep r before (events.Commit id (Some n) now ops tracked ts) n
