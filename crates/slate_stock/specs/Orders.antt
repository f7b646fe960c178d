-- What an order does to a map of amounts.
--     order_keys o      the keys that it reads, in their order
--     order_refusal m o      why it is refused, in the order of tests
--     order_moves m o      the new amounts, where it isn't
--     order_step m o      the map after it, or the refusal
use Rattle.std.specs.Prelude.{ℕ, ◌+◌, ◌-◌, ◌*◌, ◌^◌, Bool, true, false, nat_lt, nat_le, ◌++◌, List, [], ◌∷◌, Option, Some, None, bytes_eq}
use Rattle.std.specs.Prelude.{Result, Ok, Err}
use Rattle.slate_stock.specs.declared.order.Order.{Order}
use Rattle.slate_stock.specs.declared.order.Order.TheVariants.{Issue, Pay, Trade}
use Rattle.slate_stock.specs.declared.error.StockError.{StockError}
use Rattle.slate_stock.specs.declared.error.StockError.TheVariants.{SameName, SameAsset, TooMuch, AlreadyIssued, NotEnough}
use Rattle.slate_stock.specs.Amounts.{Amounts, balance_key, issued_key, money, put_amounts}

abbrev pub order_keys : Order → List (List ℕ)
order_keys (Issue asset name n) = issued_key asset ∷ balance_key asset name ∷ []
order_keys (Pay asset from to n) = balance_key asset from ∷ balance_key asset to ∷ []
order_keys (Trade asset buyer seller q p) = balance_key asset seller ∷ balance_key asset buyer ∷ balance_key money buyer ∷ balance_key money seller ∷ []

-- ---- refusals

abbrev pub first_of : List (Option StockError) → Option StockError
first_of [] = None
first_of (None ∷ es) = first_of es
first_of (Some e ∷ es) = Some e

abbrev pub where_true : Bool → StockError → Option StockError
where_true true e = Some e
where_true false e = None

abbrev pub too_much : ℕ → Option StockError
too_much n = where_true (nat_le (2 ^ 64) n) TooMuch

abbrev pub too_little : Amounts → List ℕ → ℕ → Option StockError
too_little m k needs = where_true (nat_lt (m k) needs) (NotEnough k (m k) needs)

-- what the order alone shows
abbrev pub form_refusals : Order → List (Option StockError)
form_refusals (Issue asset name n) = []
form_refusals (Pay asset from to n) = where_true (bytes_eq from to) SameName ∷ []
form_refusals (Trade asset buyer seller q p) = where_true (bytes_eq buyer seller) SameName ∷ where_true (bytes_eq asset money) SameAsset ∷ too_much (p * q) ∷ []

-- what the amounts show; the greatest amounts after it last
abbrev pub amount_refusals : Amounts → Order → List (Option StockError)
amount_refusals m (Issue asset name n) = where_true (nat_lt 0 (m (issued_key asset))) (AlreadyIssued asset) ∷ too_much (m (balance_key asset name) + n) ∷ []
amount_refusals m (Pay asset from to n) = too_little m (balance_key asset from) n ∷ too_much (m (balance_key asset to) + n) ∷ []
amount_refusals m (Trade asset buyer seller q p) =
    too_little m (balance_key asset seller) q ∷ too_little m (balance_key money buyer) (p * q) ∷
    too_much (m (balance_key asset buyer) + q) ∷ too_much (m (balance_key money seller) + p * q) ∷ []

abbrev pub order_refusal : Amounts → Order → Option StockError
order_refusal m o = first_of (form_refusals o ++ amount_refusals m o)

-- ---- the step

abbrev pub order_moves : Amounts → Order → List (List ℕ × ℕ)
order_moves m (Issue asset name n) = (issued_key asset, n) ∷ (balance_key asset name, m (balance_key asset name) + n) ∷ []
order_moves m (Pay asset from to n) = (balance_key asset from, m (balance_key asset from) - n) ∷ (balance_key asset to, m (balance_key asset to) + n) ∷ []
order_moves m (Trade asset buyer seller q p) =
    (balance_key asset seller, m (balance_key asset seller) - q) ∷ (balance_key asset buyer, m (balance_key asset buyer) + q) ∷
    (balance_key money buyer, m (balance_key money buyer) - p * q) ∷ (balance_key money seller, m (balance_key money seller) + p * q) ∷ []

abbrev pub stepped : Option StockError → Amounts → Result Amounts StockError
stepped (Some e) m = Err e
stepped None m = Ok m

abbrev pub order_step : Amounts → Order → Result Amounts StockError
order_step m o = stepped (order_refusal m o) (put_amounts m (order_moves m o))
