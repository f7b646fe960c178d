-- The first and the last of a byte, found one by one.
use Rattle.std.proofs.Common.{◌≡◌, ℕ, suc, ◌+◌, ◌-◌, ◌<◌, ◌≤◌, ◌≢◌, Bool, true, false, cond, eqb, List, [], ◌∷◌, ◌++◌, length, get_or, take, Option, Some, None, refl, sym, ap, ◌∙◌, arith}
use Rattle.std.proofs.lemmas.Bool.Decides.{nat_tests}
use Rattle.std.proofs.Math.Seq.{take-suc}
use Rattle.std.proofs.lemmas.List.{length-take-le}
use Rattle.slate_filter.specs.Extractors.{or_here, through_last}

-- so many bytes before
abbrev pub shifted : ℕ → Option ℕ → Option ℕ
shifted i None = None
shifted i (Some n) = Some (i + n)

-- ---- the last

last_front : (c : ℕ) (s : List ℕ) (b : ℕ) → through_last c (s ++ b ∷ []) ≡ cond (eqb b c) (Some (length s + 1)) (through_last c s)
last_front c [] b = refl
last_front c (x ∷ s) b = ap (or_here (cond (eqb x c) (Some 1) None)) (last_front c s b) ∙ by (eqb b c) (through_last c s)
  where
    by : (t : Bool) (o : Option ℕ) → or_here (cond (eqb x c) (Some 1) None) (cond t (Some (length s + 1)) o) ≡ cond t (Some (length (x ∷ s) + 1)) (or_here (cond (eqb x c) (Some 1) None) o)
    by true o = let e : length s + 1 + 1 ≡ length (x ∷ s) + 1 = omega arith in ap Some e
    by false o = refl

back : (s : List ℕ) (n : ℕ) → 0 < n → n ≤ length s → take n s ≡ take (n - 1) s ++ get_or s (n - 1) 0 ∷ []
back s n p q =
    let e : n ≡ suc (n - 1) = omega (arith, p) in
    let within : n - 1 < length s = omega (arith, p, q) in
    ap (λ (k : ℕ). take k s) e ∙ take-suc s (n - 1) 0 within

pub last_here : (c : ℕ) (s : List ℕ) (n : ℕ) (all : Option ℕ) → 0 < n → n ≤ length s → through_last c (take n s) ≡ all → get_or s (n - 1) 0 ≡ c → Some n ≡ all
last_here c s n all p q inv e =
    let same : eqb (get_or s (n - 1) 0) c ≡ true = grind (arith, nat_tests) in
    let size = length-take-le (n - 1) s (omega (arith, p, q)) in
    let whole : length (take (n - 1) s) + 1 ≡ n = omega (arith, size, p) in
    let found = last_front c (take (n - 1) s) (get_or s (n - 1) 0) ∙ ap (λ (t : Bool). cond t (Some (length (take (n - 1) s) + 1)) (through_last c (take (n - 1) s))) same ∙ ap Some whole in
    sym found ∙ sym (ap (through_last c) (back s n p q)) ∙ inv

pub last_more : (c : ℕ) (s : List ℕ) (n : ℕ) (all : Option ℕ) → 0 < n → n ≤ length s → through_last c (take n s) ≡ all → get_or s (n - 1) 0 ≢ c → through_last c (take (n - 1) s) ≡ all
last_more c s n all p q inv e =
    let other : eqb (get_or s (n - 1) 0) c ≡ false = grind (arith, nat_tests) in
    let before = last_front c (take (n - 1) s) (get_or s (n - 1) 0) ∙ ap (λ (t : Bool). cond t (Some (length (take (n - 1) s) + 1)) (through_last c (take (n - 1) s))) other in
    sym before ∙ sym (ap (through_last c) (back s n p q)) ∙ inv
