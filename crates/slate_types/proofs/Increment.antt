-- The increment of a prefix by its last byte.
use Rattle.std.proofs.Common.{◌≡◌, ℕ, ◌+◌, ◌<◌, false, cond, ◌==◌, List, [], ◌∷◌, ◌++◌, length, take, get_or, Some, None, refl, sym, ap, ◌∙◌, arith}
use Rattle.std.proofs.lemmas.Bool.Decides.{nat_tests}
use Rattle.std.proofs.lemmas.List.{take_more}
use Rattle.slate_types.specs.Keys.{carried, successor}

-- a last byte 255 adds nothing
pub dropped_last : (bs : List ℕ) → successor (bs ++ 255 ∷ []) ≡ successor bs
dropped_last [] = refl
dropped_last (b ∷ bs) = ap (carried b) (dropped_last bs)

last_of : (b : ℕ) → b < 255 → carried b None ≡ Some ((b + 1) ∷ [])
last_of b h =
    let other : (b == 255) ≡ false = grind (arith, nat_tests) in
    λ i. cond (other i) None (Some ((b + 1) ∷ []))

-- another one is incremented
pub raised_last : (bs : List ℕ) (b : ℕ) → b < 255 → successor (bs ++ b ∷ []) ≡ Some (bs ++ (b + 1) ∷ [])
raised_last [] b h = last_of b h
raised_last (c ∷ bs) b h = ap (carried c) (raised_last bs b h)

-- the first bytes of a key before and with a byte 255
pub trimmed : (p : List ℕ) (n : ℕ) → n < length p → get_or p n 0 ≡ 255 → successor (take n p) ≡ successor (take (n + 1) p)
trimmed p n h e = sym (ap successor (take_more p n 0 h ∙ ap (λ b. take n p ++ b ∷ []) e) ∙ dropped_last (take n p))

-- and with another byte
pub raised : (p : List ℕ) (n : ℕ) → n < length p → get_or p n 0 < 255 → successor (take (n + 1) p) ≡ Some (take n p ++ (get_or p n 0 + 1) ∷ [])
raised p n h e = ap successor (take_more p n 0 h) ∙ raised_last (take n p) (get_or p n 0) e
