-- Which commits are orders'.
--     HasNames o      the order's assets and holders are names
--     IsAmount n a      an answer holds the amount: 8 bytes, or nothing for 0
--     AreReads m ks ts      gets of the keys, in their order, amount_answered by the amounts
--     puts ps, own_puts ps      the operations that put new amounts, and their steps
--     IsOrderBy o m ops tracked ts      a commit of that batch and transcript is the order's, on these amounts
--     IsOrder level ops tracked ts      a serializable commit that is some order's
use Rattle.std.specs.Prelude.{◌≡◌, ℕ, ◌<◌, ◌^◌, List, [], ◌∷◌, ◌++◌, map, Option, Some, None, true, ⊤}
use Rattle.slate_types.specs.declared.config.IsolationLevel.{IsolationLevel}
use Rattle.slate_types.specs.declared.config.IsolationLevel.TheVariants.{SerializableSnapshot}
use Rattle.slate_types.specs.declared.types.KeyValue.{KeyValue}
use Rattle.slate_mem.specs.declared.WriteOp.{WriteOp}
use Rattle.slate_mem.specs.Batch.{Ops, batch_keys, kept_ops}
use Rattle.slate_mem.specs.BatchModel.{plain_put}
use Rattle.slate_txn.specs.declared.event.TranscriptStep.{TranscriptStep}
use Rattle.slate_txn.specs.declared.event.TranscriptStep.TheVariants.{Get, Own}
use Rattle.slate_stock.specs.declared.order.Order.{Order}
use Rattle.slate_stock.specs.declared.order.Order.TheVariants.{Issue, Pay, Trade}
use Rattle.slate_stock.specs.Names.{is_plain_name}
use Rattle.slate_stock.specs.Amounts.{Amounts, amount_bytes}
use Rattle.slate_stock.specs.Orders.{order_keys, order_refusal, order_moves}

abbrev pub IsPlainName : List ℕ → Type 0
IsPlainName n = is_plain_name n ≡ true

abbrev pub HasNames : Order → Type 0
HasNames (Issue asset name n) = IsPlainName asset × IsPlainName name
HasNames (Pay asset from to n) = IsPlainName asset × IsPlainName from × IsPlainName to
HasNames (Trade asset buyer seller q p) = IsPlainName asset × IsPlainName buyer × IsPlainName seller

abbrev pub IsAmount : ℕ → Option KeyValue → Type 0
IsAmount n None = n ≡ 0
IsAmount n (Some kv) = (kv.value ≡ amount_bytes n) × (n < 2 ^ 64)

abbrev pub ReadsAmount : Amounts → List ℕ → TranscriptStep → Type 0
ReadsAmount m k (Get j a) = (j ≡ k) × IsAmount (m k) a
ReadsAmount m k _ = ⊥

abbrev pub AreReads : Amounts → List (List ℕ) → List TranscriptStep → Type 0
AreReads m [] [] = ⊤
AreReads m [] (t ∷ ts) = ⊥
AreReads m (k ∷ ks) [] = ⊥
AreReads m (k ∷ ks) (t ∷ ts) = ReadsAmount m k t × AreReads m ks ts

abbrev pub amount_put : ℕ → WriteOp
amount_put n = plain_put (amount_bytes n)

abbrev pub puts : List (List ℕ × ℕ) → Ops
puts ps = map (λ p. (p.0, amount_put p.1)) ps

abbrev pub own_puts : List (List ℕ × ℕ) → List TranscriptStep
own_puts ps = map (λ p. Own p.0 (amount_put p.1)) ps

pub record IsOrderBy (o : Order) (m : Amounts) (ops : Ops) (tracked : List (List ℕ)) (ts : List TranscriptStep) : Type 0 where
  pub names : HasNames o
  pub fits : order_refusal m o ≡ None
  pub reads : List TranscriptStep
  pub read : AreReads m (order_keys o) reads
  pub whole : ts ≡ reads ++ own_puts (order_moves m o)
  pub kept : ops ≡ kept_ops (puts (order_moves m o))
  pub keys : tracked ≡ batch_keys ops

pub record IsOrder (level : IsolationLevel) (ops : Ops) (tracked : List (List ℕ)) (ts : List TranscriptStep) : Type 0 where
  pub serializable : level ≡ SerializableSnapshot
  pub order : Order
  pub amounts : Amounts
  pub by : IsOrderBy order amounts ops tracked ts
