-- The steps of an order's transcript, each as its key and its amount.
--     IsRead k n t, IsPut k n t      a step reads an amount, or puts it
--     AreSteps P ks ns ts      each step, in their order
--     AreLegsOf o m ks ns js vs      keys and amounts that were read, and keys and amounts that were put, are what the order makes on a map
--     IsLeft o ks vs ops tracked      what a commit leaves of these puts: its operations, and the keys that it tracks
--     IsForeign es e      the refusal of the first event that is no order's
use Rattle.std.specs.Prelude.{◌≡◌, ℕ, ◌<◌, ◌^◌, List, [], ◌∷◌, map, Option, None, ⊤}
use Rattle.std.specs.List.{zip}
use Rattle.slate_mem.specs.Batch.{Ops, batch_keys, kept_ops}
use Rattle.slate_txn.specs.declared.event.Event.{Event}
use Rattle.slate_txn.specs.declared.event.TranscriptStep.{TranscriptStep}
use Rattle.slate_txn.specs.declared.event.TranscriptStep.TheVariants.{Get, Own}
use Rattle.slate_txn.specs.Audited.{IsFirstForeign}
use Rattle.slate_stock.specs.declared.order.Order.{Order}
use Rattle.slate_stock.specs.declared.error.StockError.{StockError}
use Rattle.slate_stock.specs.declared.error.StockError.TheVariants.{ForeignCommit}
use Rattle.slate_stock.specs.Amounts.{Amounts}
use Rattle.slate_stock.specs.Orders.{order_keys, order_refusal, order_moves}
use Rattle.slate_stock.specs.Commits.{HasNames, IsAmount, amount_put, puts}
use Rattle.slate_stock.specs.Journals.{order_kind}

abbrev pub IsRead : List ℕ → ℕ → TranscriptStep → Type 0
IsRead k n (Get j a) = (j ≡ k) × IsAmount n a
IsRead k n _ = ⊥

abbrev pub IsPut : List ℕ → ℕ → TranscriptStep → Type 0
IsPut k n (Own j op) = (j ≡ k) × (op ≡ amount_put n) × (n < 2 ^ 64)
IsPut k n _ = ⊥

abbrev pub AreSteps : (List ℕ → ℕ → TranscriptStep → Type 0) → List (List ℕ) → List ℕ → List TranscriptStep → Type 0
AreSteps P [] [] [] = ⊤
AreSteps P [] [] (t ∷ ts) = ⊥
AreSteps P [] (n ∷ ns) ts = ⊥
AreSteps P (k ∷ ks) [] ts = ⊥
AreSteps P (k ∷ ks) (n ∷ ns) [] = ⊥
AreSteps P (k ∷ ks) (n ∷ ns) (t ∷ ts) = P k n t × AreSteps P ks ns ts

pub record AreLegsOf (o : Order) (m : Amounts) (ks : List (List ℕ)) (ns : List ℕ) (js : List (List ℕ)) (vs : List ℕ) : Type 0 where
  pub names : HasNames o
  pub fits : order_refusal m o ≡ None
  pub keys : ks ≡ order_keys o
  pub read : ns ≡ map m (order_keys o)
  pub put_keys : js ≡ order_keys o
  pub new : vs ≡ map (λ p. p.1) (order_moves m o)

abbrev pub IsLeft : List (List ℕ) → List ℕ → Ops → List (List ℕ) → Type 0
IsLeft ks vs ops tracked = (ops ≡ kept_ops (puts (zip ks vs))) × (tracked ≡ batch_keys ops)

pub record IsForeign (es : List Event) (e : StockError) : Type 0 where
  pub seq : ℕ
  pub is : e ≡ ForeignCommit seq
  pub first : IsFirstForeign order_kind es seq
