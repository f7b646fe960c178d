-- How often a claim commits that answers so.
--     claims_made result      once, if it took a job; and not if none was free, or it was refused
use Rattle.std.specs.Prelude.{ℕ, Option, Some, None, Result, Ok, Err}

abbrev pub claims_made : {A E : Type 0} → Result (Option A) E → ℕ
claims_made (Ok (Some a)) = 1
claims_made (Ok None) = 0
claims_made (Err e) = 0
