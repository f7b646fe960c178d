-- The open transactions of a core, and where they began.
--     Transactions      what is open, under ids, in the order of these
--     least_begin n ps      the least of n and the begins
--     least_start n s      the least of n, the begins of open transactions and the sequences of open snapshots: the barrier of a flush, where n is the newest sequence
--     BeginsRise ps      no open transaction began before one that stands in front of it
use Rattle.std.specs.Prelude.{ℕ, ◌≤◌, min, List, [], ◌∷◌, Option, Some, None}
use Rattle.std.specs.List.{AllByRecursion}
use Rattle.slate_txn.specs.Managers.{least_seq}
use Rattle.slate_txn.specs.State.{Tx, State}

abbrev pub Transactions : Type 0
Transactions = List (List ℕ × Tx)

abbrev pub least_begin : ℕ → List (List ℕ × Tx) → ℕ
least_begin n [] = n
least_begin n (p ∷ ps) = least_begin (min n p.1.begin) ps

abbrev pub or_least : ℕ → Option ℕ → ℕ
or_least n None = n
or_least n (Some m) = min m n

abbrev pub least_start : ℕ → State → ℕ
least_start n s = or_least (least_begin n s.txns) (least_seq s.snapshots)

abbrev pub BeginsRise : List (List ℕ × Tx) → Type 0
BeginsRise [] = Unit {0}
BeginsRise (p ∷ ps) = AllByRecursion (λ q. p.1.begin ≤ q.1.begin) ps × BeginsRise ps
