-- Counters, as values of 8 bytes, the highest first.
--     counter_value v      the number that a value stands for; 0 where it is no counter
--     added u v      the sum of both as a counter, which stops at 2 ^ 64 - 1; v where there is no u
--     added_short      a sum of short values is short
--     AddIsLawful      a first operand is kept, and it makes no difference what is added first
use Rattle.std.specs.Prelude.{ℕ, nat_eq, ◌+◌, ◌-◌, ◌^◌, min, if◌then◌else◌, List, length, Option, Some, None}
use Rattle.std.specs.Int.{w64, to_be_bytes, from_be_bytes}
use Rattle.std.proofs.Math.Dec.{lit≤}
use Rattle.slate_types.specs.Fold.{IsLawful, KeepsShort}

abbrev pub counter_value : List ℕ → ℕ
counter_value v = if nat_eq (length v) 8 then min (from_be_bytes w64 v) (2 ^ 64 - 1) else 0

abbrev pub added : Option (List ℕ) → List ℕ → List ℕ
added None v = v
added (Some u) v = to_be_bytes w64 (min (counter_value u + counter_value v) (2 ^ 64 - 1))

pub added_short : KeepsShort added
added_short None v h hv = hv
added_short (Some u) v h hv = lit≤ tt

abbrev pub AddIsLawful : Type 0
AddIsLawful = IsLawful added
