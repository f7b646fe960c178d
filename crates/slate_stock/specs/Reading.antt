-- Which order a commit shows.
--     cut_name k      what stands before the first colon, and behind it
--     balance_of k, issued_of k      asset and holder of a balance's key, and the asset of an issued amount's
--     gets ts, put_values ts      the leading gets with the amounts that they amount_answered, and the amounts that are put
--     order_read ts      the order, where the transcript has the form of one
--     plain_order o      of trades of quantity 0, which all do the same, the one at price 0
use Rattle.std.specs.Prelude.{ℕ, ◌-◌, ◌/◌, nat_eq, if◌then◌else◌, List, [], ◌∷◌, drop, Option, Some, None}
use Rattle.std.specs.List.{starts_with}
use Rattle.slate_types.specs.declared.types.KeyValue.{KeyValue}
use Rattle.slate_mem.specs.declared.WriteOp.{WriteOp}
use Rattle.slate_mem.specs.declared.WriteOp.TheVariants.{Put}
use Rattle.slate_txn.specs.declared.event.TranscriptStep.{TranscriptStep}
use Rattle.slate_txn.specs.declared.event.TranscriptStep.TheVariants.{Get, Own}
use Rattle.slate_stock.specs.declared.order.Order.{Order}
use Rattle.slate_stock.specs.declared.order.Order.TheVariants.{Issue, Pay, Trade}
use Rattle.slate_stock.specs.Amounts.{amount_of}

abbrev pub front_of : ℕ → Option (List ℕ × List ℕ) → Option (List ℕ × List ℕ)
front_of b None = None
front_of b (Some p) = Some (b ∷ p.0, p.1)

abbrev pub cut_name : List ℕ → Option (List ℕ × List ℕ)
cut_name [] = None
cut_name (b ∷ bs) = if nat_eq b 58 then Some ([], bs) else front_of b (cut_name bs)

abbrev pub balance_of : List ℕ → Option (List ℕ × List ℕ)
balance_of k = if starts_with nat_eq k (98 ∷ 58 ∷ []) then cut_name (drop 2 k) else None

abbrev pub issued_of : List ℕ → Option (List ℕ)
issued_of k = if starts_with nat_eq k (105 ∷ 58 ∷ []) then Some (drop 2 k) else None

abbrev pub amount_answered : Option KeyValue → ℕ
amount_answered None = 0
amount_answered (Some kv) = amount_of kv.value

abbrev pub put_value : WriteOp → ℕ
put_value (Put v o) = amount_of v
put_value _ = 0

abbrev pub gets : List TranscriptStep → List (List ℕ × ℕ)
gets [] = []
gets (Get k a ∷ ts) = (k, amount_answered a) ∷ gets ts
gets (_ ∷ ts) = []

abbrev pub put_values : List TranscriptStep → List ℕ
put_values [] = []
put_values (Own k op ∷ ts) = put_value op ∷ put_values ts
put_values (_ ∷ ts) = put_values ts

abbrev pub of_two : Option (List ℕ) → Option (List ℕ × List ℕ) → Option (List ℕ × List ℕ) → ℕ → ℕ → Option Order
of_two (Some asset) first (Some p) had put = Some (Issue asset p.1 put)
of_two (Some asset) first None had put = None
of_two None (Some p) (Some q) had put = Some (Pay p.0 p.1 q.1 (had - put))
of_two None (Some p) None had put = None
of_two None None second had put = None

abbrev pub price : ℕ → ℕ → ℕ
price cost q = if nat_eq q 0 then 0 else cost / q

abbrev pub of_four : Option (List ℕ × List ℕ) → Option (List ℕ × List ℕ) → ℕ → ℕ → Option Order
of_four (Some p) (Some o) q cost = Some (Trade p.0 o.1 p.1 q (price cost q))
of_four (Some p) None q cost = None
of_four None o q cost = None

abbrev pub order_by : List (List ℕ × ℕ) → List ℕ → Option Order
order_by (a ∷ b ∷ []) (v ∷ vs) = of_two (issued_of a.0) (balance_of a.0) (balance_of b.0) a.1 v
order_by (a ∷ b ∷ c ∷ d ∷ []) (v ∷ w ∷ x ∷ vs) = of_four (balance_of a.0) (balance_of b.0) (a.1 - v) (c.1 - x)
order_by _ _ = None

abbrev pub order_read : List TranscriptStep → Option Order
order_read ts = order_by (gets ts) (put_values ts)

abbrev pub plain_order : Order → Order
plain_order (Issue asset name n) = Issue asset name n
plain_order (Pay asset from to n) = Pay asset from to n
plain_order (Trade asset buyer seller q p) = Trade asset buyer seller q (if nat_eq q 0 then 0 else p)
