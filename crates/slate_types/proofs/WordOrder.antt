-- The order of keys by words: the first bytes that differ decide, and a number of bytes, the first the highest, is below another where they are.
use Rattle.std.proofs.Common.{◌≡◌, ◌≢◌, ◌+◌, ◌-◌, ◌*◌, ◌^◌, ◌<◌, ◌≤◌, ℕ, zero, suc, min, List, [], ◌∷◌, ◌++◌, length, get_or, take, drop, refl, sym, ap, subst, ◌∙◌, arith, length-drop, get_or-drop, drop-cons, take-take, take-add, nat_cmp, Ordering, Less, Equal, Greater, w64}
use Rattle.std.specs.Int.{from_be_bytes}
use Rattle.std.specs.Ordering.{ordering_then, MatchOrdering}
use Rattle.std.specs.Cmp.{ranks}
use Rattle.slate_types.specs.Keys.{key_cmp}

abbrev pub Small : List ℕ → Type 0
Small us = (k : ℕ) → get_or us k 0 < 256

-- x and y stand for n first bytes of us and of vs
pub record StandFor (us vs : List ℕ) (n x y : ℕ) : Type 0 where
  pub apart : (x ≢ y) → key_cmp us vs ≡ nat_cmp x y
  pub alike : x ≡ y → take n us ≡ take n vs

-- ---- numbers by how they lie

is_Less : (x y : ℕ) (r : Ordering) → MatchOrdering r (x < y) (x ≡ y) (y < x) → x < y → r ≡ Less
is_Less x y Less h l = refl
is_Less x y Equal h l = let e : x ≡ y = h in absurd (omega arith)
is_Less x y Greater h l = let e : y < x = h in absurd (omega arith)

is_Equal : (x y : ℕ) (r : Ordering) → MatchOrdering r (x < y) (x ≡ y) (y < x) → x ≡ y → r ≡ Equal
is_Equal x y Less h l = let e : x < y = h in absurd (omega arith)
is_Equal x y Equal h l = refl
is_Equal x y Greater h l = let e : y < x = h in absurd (omega arith)

is_Greater : (x y : ℕ) (r : Ordering) → MatchOrdering r (x < y) (x ≡ y) (y < x) → y < x → r ≡ Greater
is_Greater x y Less h l = let e : x < y = h in absurd (omega arith)
is_Greater x y Equal h l = let e : x ≡ y = h in absurd (omega arith)
is_Greater x y Greater h l = refl

below : (x y : ℕ) → x < y → nat_cmp x y ≡ Less
below x y = is_Less x y _ (ranks x y)

level : (x y : ℕ) → x ≡ y → nat_cmp x y ≡ Equal
level x y = is_Equal x y _ (ranks x y)

above : (x y : ℕ) → y < x → nat_cmp x y ≡ Greater
above x y = is_Greater x y _ (ranks x y)

-- ---- keys behind a front that they share

behind_front : (n : ℕ) (xs ys : List ℕ) → n ≤ length xs → n ≤ length ys → take n xs ≡ take n ys → key_cmp xs ys ≡ key_cmp (drop n xs) (drop n ys)
behind_front zero xs ys p q e = refl
behind_front (suc n) [] ys p q e = absurd (omega arith)
behind_front (suc n) (x ∷ xs) [] p q e = absurd (omega arith)
behind_front (suc n) (x ∷ xs) (y ∷ ys) p q e =
    ap (λ r. ordering_then r (key_cmp xs ys)) (level x y (ap (λ l. get_or l 0 0) e))
    ∙ behind_front n xs ys (omega arith) (omega arith) (ap (drop 1) e)

pub shorter_front : (m n : ℕ) (xs ys : List ℕ) → m ≤ n → take n xs ≡ take n ys → take m xs ≡ take m ys
shorter_front m n xs ys le e = sym (take-take m n xs le) ∙ ap (take m) e ∙ take-take m n ys le

longer_front : (m n : ℕ) (xs ys : List ℕ) → take m xs ≡ take m ys → take n (drop m xs) ≡ take n (drop m ys) → take (m + n) xs ≡ take (m + n) ys
longer_front m n xs ys e f = take-add m n xs ∙ ap (λ l. l ++ take n (drop m xs)) e ∙ ap (λ l. take m ys ++ l) f ∙ sym (take-add m n ys)

-- where the shorter key is a front of the other, their lengths decide
pub by_lengths : (n : ℕ) (xs ys : List ℕ) → n ≡ min (length xs) (length ys) → take n xs ≡ take n ys → nat_cmp (length xs) (length ys) ≡ key_cmp xs ys
by_lengths n [] [] m e = level 0 0 refl
by_lengths n [] (y ∷ ys) m e = below 0 (length (y ∷ ys)) (omega arith)
by_lengths n (x ∷ xs) [] m e = above (length (x ∷ xs)) 0 (omega arith)
by_lengths zero (x ∷ xs) (y ∷ ys) m e = let none : 0 ≡ min (suc (length xs)) (suc (length ys)) = m in absurd (omega arith)
by_lengths (suc n) (x ∷ xs) (y ∷ ys) m e =
    let one_less : suc n ≡ min (suc (length xs)) (suc (length ys)) = m in
    same_rank (length xs) (length ys)
    ∙ by_lengths n xs ys (omega arith) (ap (drop 1) e)
    ∙ sym (ap (λ r. ordering_then r (key_cmp xs ys)) (level x y (ap (λ l. get_or l 0 0) e)))
  where
    same_rank : (a b : ℕ) → nat_cmp (suc a) (suc b) ≡ nat_cmp a b
    same_rank a b = by (nat_cmp a b) (ranks a b)
      where
        by : (r : Ordering) → MatchOrdering r (a < b) (a ≡ b) (b < a) → nat_cmp (suc a) (suc b) ≡ r
        by Less h = let l : a < b = h in below (suc a) (suc b) (omega arith)
        by Equal h = let l : a ≡ b = h in level (suc a) (suc b) (omega arith)
        by Greater h = let l : b < a = h in above (suc a) (suc b) (omega arith)

-- ---- bytes as numbers

-- n bytes behind a number
abbrev spelt : ℕ → ℕ → List ℕ → ℕ
spelt zero a us = a
spelt (suc n) a [] = a
spelt (suc n) a (u ∷ us) = spelt n (a * 256 + u) us

rises : (n a b : ℕ) (us vs : List ℕ) → n ≤ length us → n ≤ length vs → Small us → a < b → spelt n a us < spelt n b vs
rises zero a b us vs p q h l = l
rises (suc n) a b [] vs p q h l = absurd (omega arith)
rises (suc n) a b (u ∷ us) [] p q h l = absurd (omega arith)
rises (suc n) a b (u ∷ us) (v ∷ vs) p q h l =
    let small : u < 256 = h 0 in
    rises n (a * 256 + u) (b * 256 + v) us vs (omega arith) (omega arith) (λ k. h (suc k)) (omega arith)

stand_for : (n a : ℕ) (us vs : List ℕ) → n ≤ length us → n ≤ length vs → Small us → Small vs → StandFor us vs n (spelt n a us) (spelt n a vs)
stand_for zero a us vs p q g h = record { apart = λ f. absurd (f refl); alike = λ _. refl }
stand_for (suc n) a [] vs p q g h = absurd (omega arith)
stand_for (suc n) a (u ∷ us) [] p q g h = absurd (omega arith)
stand_for (suc n) a (u ∷ us) (v ∷ vs) p q g h = by (stand_for n (a * 256 + u) us vs (omega arith) (omega arith) (λ k. g (suc k)) (λ k. h (suc k))) (nat_cmp u v) refl (ranks u v)
  where
    by : StandFor us vs n (spelt n (a * 256 + u) us) (spelt n (a * 256 + u) vs)
        → (r : Ordering) → nat_cmp u v ≡ r → MatchOrdering r (u < v) (u ≡ v) (v < u) → StandFor (u ∷ us) (v ∷ vs) (suc n) (spelt n (a * 256 + u) us) (spelt n (a * 256 + v) vs)
    by later Less e l =
        let under : u < v = l in
        let t = rises n (a * 256 + u) (a * 256 + v) us vs (omega arith) (omega arith) (λ k. g (suc k)) (omega arith) in
        record { apart = λ _. ap (λ r. ordering_then r (key_cmp us vs)) e ∙ sym (below _ _ t); alike = λ s. absurd (omega arith) }
    by later Greater e l =
        let over : v < u = l in
        let t = rises n (a * 256 + v) (a * 256 + u) vs us (omega arith) (omega arith) (λ k. h (suc k)) (omega arith) in
        record { apart = λ _. ap (λ r. ordering_then r (key_cmp us vs)) e ∙ sym (above _ _ t); alike = λ s. absurd (omega arith) }
    by later Equal e l =
        let same : u ≡ v = l in
        let t = subst (λ z. StandFor us vs n (spelt n (a * 256 + u) us) (spelt n (a * 256 + z) vs)) same later in
        record {
          apart = λ f. ap (λ r. ordering_then r (key_cmp us vs)) e ∙ t.apart f;
          alike = λ s. (λ i. same i ∷ t.alike s i);
        }

-- ---- a word of two keys

eight : (u0 u1 u2 u3 u4 u5 u6 u7 : ℕ) (us : List ℕ)
    → u0 * 72057594037927936 + u1 * 281474976710656 + u2 * 1099511627776 + u3 * 4294967296 + u4 * 16777216 + u5 * 65536 + u6 * 256 + u7 ≡ spelt 8 0 (u0 ∷ u1 ∷ u2 ∷ u3 ∷ u4 ∷ u5 ∷ u6 ∷ u7 ∷ us)
eight u0 u1 u2 u3 u4 u5 u6 u7 us = omega arith

word_is : (us : List ℕ) → 8 ≤ length us → from_be_bytes w64 (take 8 us) ≡ spelt 8 0 us
word_is (u0 ∷ u1 ∷ u2 ∷ u3 ∷ u4 ∷ u5 ∷ u6 ∷ u7 ∷ us) h = eight u0 u1 u2 u3 u4 u5 u6 u7 us
word_is [] h = absurd (omega arith)
word_is (u0 ∷ []) h = absurd (omega arith)
word_is (u0 ∷ u1 ∷ []) h = absurd (omega arith)
word_is (u0 ∷ u1 ∷ u2 ∷ []) h = absurd (omega arith)
word_is (u0 ∷ u1 ∷ u2 ∷ u3 ∷ []) h = absurd (omega arith)
word_is (u0 ∷ u1 ∷ u2 ∷ u3 ∷ u4 ∷ []) h = absurd (omega arith)
word_is (u0 ∷ u1 ∷ u2 ∷ u3 ∷ u4 ∷ u5 ∷ []) h = absurd (omega arith)
word_is (u0 ∷ u1 ∷ u2 ∷ u3 ∷ u4 ∷ u5 ∷ u6 ∷ []) h = absurd (omega arith)

eight_of : (us : List ℕ) → 8 ≤ length us
    → (get_or us 0 0 ∷ get_or us 1 0 ∷ get_or us 2 0 ∷ get_or us 3 0 ∷ get_or us 4 0 ∷ get_or us 5 0 ∷ get_or us 6 0 ∷ get_or us 7 0 ∷ []) ≡ take 8 us
eight_of (u0 ∷ u1 ∷ u2 ∷ u3 ∷ u4 ∷ u5 ∷ u6 ∷ u7 ∷ us) h = refl
eight_of [] h = absurd (omega arith)
eight_of (u0 ∷ []) h = absurd (omega arith)
eight_of (u0 ∷ u1 ∷ []) h = absurd (omega arith)
eight_of (u0 ∷ u1 ∷ u2 ∷ []) h = absurd (omega arith)
eight_of (u0 ∷ u1 ∷ u2 ∷ u3 ∷ []) h = absurd (omega arith)
eight_of (u0 ∷ u1 ∷ u2 ∷ u3 ∷ u4 ∷ []) h = absurd (omega arith)
eight_of (u0 ∷ u1 ∷ u2 ∷ u3 ∷ u4 ∷ u5 ∷ []) h = absurd (omega arith)
eight_of (u0 ∷ u1 ∷ u2 ∷ u3 ∷ u4 ∷ u5 ∷ u6 ∷ []) h = absurd (omega arith)

-- the bytes as they are read one by one
pub read_out : (xs : List ℕ) (i : ℕ) → i + 8 ≤ length xs
    → (get_or xs i 0 ∷ get_or xs (i + 1) 0 ∷ get_or xs (i + 2) 0 ∷ get_or xs (i + 3) 0 ∷ get_or xs (i + 4) 0 ∷ get_or xs (i + 5) 0 ∷ get_or xs (i + 6) 0 ∷ get_or xs (i + 7) 0 ∷ []) ≡ take 8 (drop i xs)
read_out xs i h =
    let at_first : i ≡ i + 0 = omega arith in
    let first : get_or xs i 0 ≡ get_or (drop i xs) 0 0 = ap (λ k. get_or xs k 0) at_first ∙ sym (get_or-drop i xs 0 0) in
    let each = λ (k : ℕ). sym (get_or-drop i xs k 0) in
    (λ j. first j ∷ each 1 j ∷ each 2 j ∷ each 3 j ∷ each 4 j ∷ each 5 j ∷ each 6 j ∷ each 7 j ∷ []) ∙ eight_of (drop i xs) (omega (arith, length-drop i xs))

-- the words at a place behind a front that the keys share
pub words : (xs ys : List ℕ) → Small xs → Small ys → (i x y : ℕ) → i + 8 ≤ length xs → i + 8 ≤ length ys → take i xs ≡ take i ys
    → x ≡ from_be_bytes w64 (take 8 (drop i xs)) → y ≡ from_be_bytes w64 (take 8 (drop i ys)) → StandFor xs ys (i + 8) x y
words xs ys g h i x y p q e a b =
    let us = drop i xs in
    let vs = drop i ys in
    let long_x : 8 ≤ length us = omega (arith, length-drop i xs) in
    let long_y : 8 ≤ length vs = omega (arith, length-drop i ys) in
    let x_is : spelt 8 0 us ≡ x = sym (a ∙ word_is us long_x) in
    let y_is : spelt 8 0 vs ≡ y = sym (b ∙ word_is vs long_y) in
    let small_x : Small us = λ k. subst (λ z. z < 256) (sym (get_or-drop i xs k 0)) (g (i + k)) in
    let small_y : Small vs = λ k. subst (λ z. z < 256) (sym (get_or-drop i ys k 0)) (h (i + k)) in
    let t = stand_for 8 0 us vs long_x long_y small_x small_y in
    let s = subst (λ z. StandFor us vs 8 z y) x_is (subst (StandFor us vs 8 (spelt 8 0 us)) y_is t) in
    record {
      apart = λ f. behind_front i xs ys (omega arith) (omega arith) e ∙ s.apart f;
      alike = λ f. longer_front i 8 xs ys e (s.alike f);
    }
