-- Keys and amounts.
--     balance_key asset name, issued_key asset      where they stand
--     head asset, is_balance_of asset k      what the keys of an asset's balances begin with, and which keys are theirs
--     Amounts, put_amount m k n, put_amounts m ps      a map from key to amount, in which a missing key is 0
--     amount_bytes n      an amount as it is stored
--     amount_in row      the amount in a row, and 0 where there is none
--     amount_at r cs n k, total_at r cs n asset      the amount at a key in the state at n, and the sum of an asset's balances there
use Rattle.std.specs.Prelude.{ℕ, ◌+◌, Bool, if◌then◌else◌, nat_eq, List, [], ◌∷◌, ◌++◌, Option, Some, None, bytes_eq}
use Rattle.std.specs.List.{starts_with}
use Rattle.std.specs.Int.{w64, to_be_bytes, from_be_bytes}
use Rattle.slate_types.specs.declared.types.RowEntry.{RowEntry}
use Rattle.slate_types.specs.Rows.{operand}
use Rattle.slate_txn.specs.State.{Rules, Commit}
use Rattle.slate_txn.specs.Reads.{state_at, keys_seen}

-- b:, the asset, and a colon
abbrev pub head : List ℕ → List ℕ
head asset = 98 ∷ 58 ∷ (asset ++ (58 ∷ []))

abbrev pub balance_key : List ℕ → List ℕ → List ℕ
balance_key asset name = head asset ++ name

-- i: and the asset
abbrev pub issued_key : List ℕ → List ℕ
issued_key asset = 105 ∷ 58 ∷ asset

abbrev pub money : List ℕ
money = 109 ∷ 111 ∷ 110 ∷ 101 ∷ 121 ∷ []

abbrev pub is_balance_of : List ℕ → List ℕ → Bool
is_balance_of asset k = starts_with nat_eq k (head asset)

abbrev pub Amounts : Type 0
Amounts = List ℕ → ℕ

abbrev pub put_amount : Amounts → List ℕ → ℕ → Amounts
put_amount m j n k = if bytes_eq j k then n else m k

abbrev pub put_amounts : Amounts → List (List ℕ × ℕ) → Amounts
put_amounts m [] = m
put_amounts m (p ∷ ps) = put_amounts (put_amount m p.0 p.1) ps

unfoldable pub amount_bytes : ℕ → List ℕ
amount_bytes n = to_be_bytes w64 n

unfoldable pub amount_of : List ℕ → ℕ
amount_of bytes = from_be_bytes w64 bytes

abbrev pub amount_in : Option RowEntry → ℕ
amount_in None = 0
amount_in (Some row) = amount_of (operand row)

abbrev pub amount_at : Rules → List Commit → ℕ → Amounts
amount_at r cs n k = amount_in (state_at r cs n k)

abbrev pub balances_sum : Amounts → List ℕ → List (List ℕ) → ℕ
balances_sum m asset [] = 0
balances_sum m asset (k ∷ ks) = (if is_balance_of asset k then m k else 0) + balances_sum m asset ks

-- the keys of a state are those that its commits wrote
abbrev pub total_at : Rules → List Commit → ℕ → List ℕ → ℕ
total_at r cs n asset = balances_sum (amount_at r cs n) asset (keys_seen cs n [])
