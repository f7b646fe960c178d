-- Calls that are to fail.
--     Plan      failing: the numbers of the calls that are to fail, from 1; calls: how many calls were made
--     next_call calls      the number of the next call
--     is_planned failing call      whether the call is to fail
--     CountsCall before after      where the plan is told, one more call was made
--     FailsAsPlanned before Fails      where the plan is told, the call fails exactly if it was to fail
--     FailsWherePlanned before Fails      where the plan is told, the call fails if it was to fail
use Rattle.std.specs.Prelude.{◌≡◌, ◌↔◌, ◌+◌, ◌-◌, ◌^◌, ◌==◌, ℕ, Bool, List, Option, Some, min, IsTrue}
use Rattle.std.specs.List.{list_any}

pub record Plan : Type 0 where
  pub failing : List ℕ
  pub calls : ℕ

-- the number stands still at the greatest one of 64 bits
abbrev pub next_call : ℕ → ℕ
next_call calls = min (calls + 1) (2 ^ 64 - 1)

abbrev pub is_planned : List ℕ → ℕ → Bool
is_planned failing call = list_any (λ n. n == call) failing

abbrev pub CountsCall : Option Plan → Option Plan → Type 0
CountsCall before after = (plan : Plan) → before ≡ Some plan → after ≡ Some (record plan { calls = next_call plan.calls })

abbrev pub FailsAsPlanned : Option Plan → Type 0 → Type 0
FailsAsPlanned before Fails = (plan : Plan) → before ≡ Some plan → Fails ↔ IsTrue (is_planned plan.failing (next_call plan.calls))

abbrev pub FailsWherePlanned : Option Plan → Type 0 → Type 0
FailsWherePlanned before Fails = (plan : Plan) → before ≡ Some plan → IsTrue (is_planned plan.failing (next_call plan.calls)) → Fails
