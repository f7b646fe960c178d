-- What a journal of orders says.
--     AddUp r es      the balances of each asset add up to what was issued of it, at each sequence
--     AreSteps r es      each commit is its order's step on the amounts just before it
--     AreBooks r es      both; all commits are orders; and each would read the same just before it,
--             whatever others tracked
use Rattle.std.specs.Prelude.{◌≡◌, ℕ, ℤ, List, [], ◌∷◌, ◌++◌, Some}
use Rattle.slate_mem.specs.Batch.{Ops}
use Rattle.slate_txn.specs.declared.event.Event.{Event}
use Rattle.slate_txn.specs.declared.event.Event.TheVariants as events
use Rattle.slate_txn.specs.declared.event.TranscriptStep.{TranscriptStep}
use Rattle.slate_txn.specs.Replay.{replay}
use Rattle.slate_txn.specs.State.{Rules}
use Rattle.slate_threads.specs.Own.{AreSerial}
use Rattle.slate_stock.specs.Amounts.{amount_at, issued_key, total_at}
use Rattle.slate_stock.specs.Commits.{IsPlainName}
use Rattle.slate_stock.specs.Journals.{IsOrders}
use Rattle.slate_stock.specs.Laws.{IsOrderStep}

abbrev pub AddUp : Rules → List Event → Type 0
AddUp r es = (n : ℕ) (asset : List ℕ) → IsPlainName asset →
    total_at r (replay es).commits n asset ≡ amount_at r (replay es).commits n (issued_key asset)

abbrev pub AreSteps : Rules → List Event → Type 0
AreSteps r es = (before later : List Event) (id : List ℕ) (n : ℕ) (now : ℤ) (ops : Ops)
    (tracked : List (List ℕ)) (ts : List TranscriptStep) →
    es ≡ before ++ (events.Commit id (Some n) now ops tracked ts ∷ later) →
    IsOrderStep r before (events.Commit id (Some n) now ops tracked ts) n

pub record AreBooks (r : Rules) (es : List Event) : Type 0 where
  pub balances : AddUp r es
  pub steps : AreSteps r es
  pub serial : AreSerial r es
  pub orders : IsOrders es
