-- The keys of jobs stand in the order of their ids.
use Rattle.std.proofs.Common.{◌≡◌, ℕ, ◌+◌, ◌*◌, ◌<◌, ◌≤◌, ◌^◌, cond, Bool, true, false, nat_eq, nat_lt, List, [], ◌∷◌, length, refl, ap, ◌∙◌, arith, Ordering, Less, Equal, Greater}
use Rattle.std.specs.Ordering.{ordering_then}
use Rattle.std.specs.Int.{w64, from_be_bytes}
use Rattle.std.proofs.lemmas.Bool.Decides.{nat_tests}
use Rattle.std.proofs.Math.Nat.{mul-le-mul_left}
use Rattle.slate_types.specs.Keys.{AreBytes, key_cmp}
use Rattle.slate_types.proofs.KeyOrder.{equal_keys, turned_key}
use Rattle.std.specs.Ordering.{ordering_reverse}
use Rattle.slate_queue.specs.Stored.{job_key, number_bytes, number_of}
use Rattle.slate_queue.proofs.Changes.{number_again}

-- ---- a number of bytes, the greatest first

abbrev weight : List ℕ → ℕ
weight [] = 1
weight (b ∷ bs) = 256 * weight bs

abbrev big : List ℕ → ℕ
big [] = 0
big (b ∷ bs) = b * weight bs + big bs

below_next : (w b c p : ℕ) → b + 1 ≤ c → p < w → b * w + p < c * w
below_next w b c p h f = let m : w * (b + 1) ≤ w * c = mul-le-mul_left w h in omega arith

big_below : (bs : List ℕ) → AreBytes bs → big bs < weight bs
big_below [] h = omega arith
big_below (b ∷ bs) h = let small : b < 256 = h.0 in below_next (weight bs) b 256 (big bs) (omega arith) (big_below bs h.1)

same_weight : (xs ys : List ℕ) → length xs ≡ length ys → weight xs ≡ weight ys
same_weight [] [] e = refl
same_weight [] (y ∷ ys) e = absurd (omega arith)
same_weight (x ∷ xs) [] e = absurd (omega arith)
same_weight (x ∷ xs) (y ∷ ys) e = ap (λ w. 256 * w) (same_weight xs ys (omega arith))

less_is : (x y : ℕ) → nat_lt x y ≡ true → x < y
less_is x y e = grind (arith, nat_tests)

same_is : (x y : ℕ) → nat_eq x y ≡ true → x ≡ y
same_is x y e = grind (arith, nat_tests)

big_less : (xs ys : List ℕ) → AreBytes xs → AreBytes ys → length xs ≡ length ys → key_cmp xs ys ≡ Less → big xs < big ys
big_less [] [] hx hy e l = cc
big_less [] (y ∷ ys) hx hy e l = absurd (omega arith)
big_less (x ∷ xs) [] hx hy e l = absurd (omega arith)
big_less (x ∷ xs) (y ∷ ys) hx hy e l = by (nat_lt x y) refl (nat_eq x y) refl l (big_less xs ys hx.1 hy.1 (omega arith))
  where
    long : length xs ≡ length ys
    long = omega arith

    even : weight xs ≡ weight ys
    even = same_weight xs ys long

    by : (a : Bool) → nat_lt x y ≡ a → (b : Bool) → nat_eq x y ≡ b → ordering_then (cond a Less (cond b Equal Greater)) (key_cmp xs ys) ≡ Less → (key_cmp xs ys ≡ Less → big xs < big ys) → big (x ∷ xs) < big (y ∷ ys)
    by true f b g k later =
        let lt : x < y = less_is x y f in
        let part : x * weight xs + big xs < y * weight xs = below_next (weight xs) x y (big xs) (omega arith) (big_below xs hx.1) in
        let same : y * weight xs ≡ y * weight ys = ap (λ w. y * w) even in
        omega arith
    by false f true g k later =
        let is : x ≡ y = same_is x y g in
        let rest : big xs < big ys = later k in
        let same : x * weight xs ≡ y * weight ys = λ i. is i * even i in
        omega arith
    by false f false g k later = cc

-- ---- of 8 bytes

eight_is : (a b c d e f g h : ℕ) → big (a ∷ b ∷ c ∷ d ∷ e ∷ f ∷ g ∷ h ∷ []) ≡ from_be_bytes w64 (a ∷ b ∷ c ∷ d ∷ e ∷ f ∷ g ∷ h ∷ [])
eight_is a b c d e f g h = omega arith

number_is : (n : ℕ) → n < 2 ^ 64 → big (number_bytes n) ≡ n
unfolding number_bytes number_of
number_is n fits = eight_is _ _ _ _ _ _ _ _ ∙ number_again n fits

bytes_are : (n : ℕ) → AreBytes (number_bytes n)
unfolding number_bytes
bytes_are n = (omega arith, (omega arith, (omega arith, (omega arith, (omega arith, (omega arith, (omega arith, (omega arith, tt))))))))

both_long : (a b : ℕ) → length (number_bytes a) ≡ length (number_bytes b)
unfolding number_bytes
both_long a b = refl

-- a lesser id has the earlier key
pub lesser_first : (a b : ℕ) → a < b → b < 2 ^ 64 → key_cmp (job_key a) (job_key b) ≡ Less
lesser_first a b h fits = by (key_cmp (number_bytes a) (number_bytes b)) refl
  where
    below : a < 2 ^ 64
    below = omega arith

    by : (o : Ordering) → key_cmp (number_bytes a) (number_bytes b) ≡ o → o ≡ Less
    by Less e = refl
    by Equal e =
        let same : big (number_bytes a) ≡ big (number_bytes b) = ap big (equal_keys (number_bytes a) (number_bytes b) e) in
        let left : big (number_bytes a) ≡ a = number_is a below in
        let right : big (number_bytes b) ≡ b = number_is b fits in
        absurd (omega arith)
    by Greater e =
        let turned : key_cmp (number_bytes b) (number_bytes a) ≡ Less = turned_key (number_bytes b) (number_bytes a) ∙ ap ordering_reverse e in
        let less : big (number_bytes b) < big (number_bytes a) = big_less (number_bytes b) (number_bytes a) (bytes_are b) (bytes_are a) (both_long b a) turned in
        let left : big (number_bytes a) ≡ a = number_is a below in
        let right : big (number_bytes b) ≡ b = number_is b fits in
        absurd (omega arith)
