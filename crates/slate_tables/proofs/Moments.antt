-- Moments of 64 bits.
use Rattle.std.specs.Prelude.{◌≡◌, ℕ, suc, ◌^◌, ◌<◌, ◌-◌, Bool, true, false, cond, ℤ, pos, negsuc, ◌+ℤ◌, ◌-ℤ◌, nat_abs, int_lt, IsTrue, FitsSigned, Option, Some, None, IfSome}
use Rattle.std.proofs.Common.{arith, refl}
use Rattle.std.specs.Int.{int_min}
use Rattle.std.proofs.lemmas.Int.{ints, clamps}
use Rattle.std.proofs.lemmas.Bool.Decides.{nat_tests}
use Rattle.slate_language.specs.Grammar.{is_moment}
use Rattle.slate_tables.specs.Loading.{IsReached, earlier}
use mir.Syntax.{w64}

-- the time from the earlier of two moments on to the second
pub later_reached : (now end : ℤ) → int_min now end +ℤ pos (nat_abs (end -ℤ int_min now end)) ≡ end
later_reached now end = omega (arith, ints, clamps)

pub later_fits : (now end : ℤ) → FitsSigned w64 now → FitsSigned w64 end → nat_abs (end -ℤ int_min now end) < 2 ^ 64
later_fits now end h k = omega (arith, ints, clamps, h, k)

pub is_in_time : (z : ℤ) → FitsSigned w64 z → (IsTrue (is_moment z)) × IsReached z
is_in_time (pos n) h = let f = h.sfits in (grind (arith, nat_tests), grind (arith, nat_tests))
is_in_time (negsuc n) h = let f = h.sfits in (grind (arith, nat_tests), refl)

pub earlier_fits : (now : ℤ) (end : Option ℤ) → FitsSigned w64 now → IfSome end (FitsSigned w64) → FitsSigned w64 (earlier now end)
earlier_fits now None h k = h
earlier_fits now (Some end) h k = by (int_lt end now)
  where
    by : (b : Bool) → FitsSigned w64 (cond b end now)
    by true = k
    by false = h
