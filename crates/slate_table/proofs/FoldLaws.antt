-- A sparse multiple of the checksum's polynomial lets bytes be folded into later ones, many at once.
use Rattle.std.proofs.Common.{◌≡◌, ℕ, zero, suc, ◌+◌, ◌-◌, ◌*◌, ◌/◌, ◌%◌, ◌^◌, ◌<◌, ◌≤◌, List, [], ◌∷◌, length, take, drop, get_or, replicate, refl, sym, ap, ◌∙◌, inl, inr, arith}
use Rattle.std.specs.Prelude.{bit_xor}
use Rattle.std.specs.Int.{w32, to_le_bytes}
use Rattle.std.specs.Int.Bits.{xor_assoc, xor_self, xor_zero_l}
use Rattle.std.proofs.lemmas.Bool.{cases_lt}
use Rattle.std.proofs.lemmas.List.{get_or_past}
use Rattle.std.proofs.lemmas.Simd.{length-chunk, get_or-chunk, length-zip2, get_or-zip2, get_or-put_chunk_below, get_or-put_chunk_at, get_or-put_chunk_above}
use lib.Lanes.{zip2, chunk, put_chunk}
use Rattle.std.proofs.lemmas.Nat.{xor_comm, xor_block}
use Rattle.slate_table.specs.Checksum.{crc_bit, crc_bits, crc_from, folded_byte, IsFolded}
use Rattle.slate_table.proofs.CrcLaws.{xor_zero_r, bits_linear, bits_more, bits_of_none, from_linear, from_number, number}

exchange : (a b c d : ℕ) → bit_xor (bit_xor a b) (bit_xor c d) ≡ bit_xor (bit_xor a c) (bit_xor b d)
exchange a b c d =
    xor_assoc a b (bit_xor c d) ∙ ap (bit_xor a) (sym (xor_assoc b c d) ∙ ap (λ (x : ℕ). bit_xor x d) (xor_comm b c) ∙ xor_assoc c b d)
    ∙ sym (xor_assoc a c (bit_xor b d))

-- ---- the sum of bytes at places

abbrev pub run : (ℕ → ℕ) → ℕ → ℕ
run f zero = 0
run f (suc n) = crc_bits 8 (bit_xor (run f n) (f n))

run_linear : (f g : ℕ → ℕ) (n : ℕ) → run (λ k. bit_xor (f k) (g k)) n ≡ bit_xor (run f n) (run g n)
run_linear f g zero = refl
run_linear f g (suc n) =
    ap (λ (x : ℕ). crc_bits 8 (bit_xor x (bit_xor (f n) (g n)))) (run_linear f g n)
    ∙ ap (crc_bits 8) (exchange (run f n) (run g n) (f n) (g n))
    ∙ bits_linear 8 (bit_xor (run f n) (f n)) (bit_xor (run g n) (g n))

run_ext : (f g : ℕ → ℕ) (n : ℕ) → ((k : ℕ) → k < n → f k ≡ g k) → run f n ≡ run g n
run_ext f g zero h = refl
run_ext f g (suc n) h =
    let before = run_ext f g n (λ k lt. h k (omega arith)) in
    let last = h n (omega arith) in
    (λ i. crc_bits 8 (bit_xor (before i) (last i)))

run_none : (f : ℕ → ℕ) (n : ℕ) → ((k : ℕ) → k < n → f k ≡ 0) → run f n ≡ 0
run_none f zero h = refl
run_none f (suc n) h =
    let before = run_none f n (λ k lt. h k (omega arith)) in
    let last = h n (omega arith) in
    (λ i. crc_bits 8 (bit_xor (before i) (last i))) ∙ bits_of_none 8

run_later : (f g : ℕ → ℕ) (d n m : ℕ) → m ≡ d + n → ((k : ℕ) → k < d → f k ≡ 0) → ((k : ℕ) → k < n → f (d + k) ≡ g k) → run f m ≡ run g n
run_later f g d zero m is h same = run_none f m (λ k lt. h k (omega (arith, is)))
run_later f g d (suc n) zero is h same = absurd (omega (arith, is))
run_later f g d (suc n) (suc m) is h same =
    let before = run_later f g d n m (omega (arith, is)) h (λ k lt. same k (omega arith)) in
    let place : m ≡ d + n = omega (arith, is) in
    let last : f m ≡ g n = ap f place ∙ same n (omega arith) in
    (λ i. crc_bits 8 (bit_xor (before i) (last i)))

run_stops : (f : ℕ → ℕ) (n r m : ℕ) → m ≡ n + r → ((k : ℕ) → n ≤ k → f k ≡ 0) → run f m ≡ crc_bits (8 * r) (run f n)
run_stops f n zero m is h = let same : m ≡ n = omega (arith, is) in ap (run f) same
run_stops f n (suc r) zero is h = absurd (omega (arith, is))
run_stops f n (suc r) (suc m) is h =
    let before = run_stops f n r m (omega (arith, is)) h in
    let last : f m ≡ 0 = h m (omega (arith, is)) in
    let size : 8 * r + 8 ≡ 8 * suc r = omega arith in
    (λ i. crc_bits 8 (bit_xor (before i) (last i))) ∙ ap (crc_bits 8) (xor_zero_r (crc_bits (8 * r) (run f n)))
    ∙ bits_more 8 (8 * r) (run f n) ∙ ap (λ (k : ℕ). crc_bits k (run f n)) size

pub run_is : (f : ℕ → ℕ) (j : ℕ) (xs : List ℕ) (m : ℕ) → m ≡ j + length xs → ((i : ℕ) → i < length xs → get_or xs i 0 ≡ f (j + i)) → crc_from (run f j) xs ≡ run f m
run_is f j [] m is h = let same : j ≡ m = omega (arith, is) in ap (run f) same
run_is f j (x ∷ xs) m is h =
    let place : j + 0 ≡ j = omega arith in
    let first : x ≡ f j = h 0 (omega arith) ∙ ap f place in
    ap (λ (y : ℕ). crc_from (crc_bits 8 (bit_xor (run f j) y)) xs) first
    ∙ run_is f (suc j) xs m (omega (arith, is)) (λ i lt. let next : j + suc i ≡ suc j + i = omega arith in h (suc i) (omega arith) ∙ ap f next)

-- ---- x ^ 2400 + x ^ 1240 + x ^ 936 + x ^ 712 + 1 is a multiple of the checksum's polynomial,
-- since x ^ 300 + x ^ 155 + x ^ 117 + x ^ 89 + 1 is one

abbrev multiple : ℕ → ℕ → ℕ → ℕ → ℕ → ℕ
multiple p q r s v = bit_xor (bit_xor (bit_xor v (crc_bits p v)) (bit_xor (crc_bits q v) (crc_bits r v))) (crc_bits s v)

multiple_linear : (p q r s u v : ℕ) → multiple p q r s (bit_xor u v) ≡ bit_xor (multiple p q r s u) (multiple p q r s v)
multiple_linear p q r s u v =
    let at = λ (k x : ℕ). crc_bits k x in
    let lp = bits_linear p u v in
    let lq = bits_linear q u v in
    let lr = bits_linear r u v in
    let ls = bits_linear s u v in
    (λ i. bit_xor (bit_xor (bit_xor (bit_xor u v) (lp i)) (bit_xor (lq i) (lr i))) (ls i))
    ∙ (λ i. bit_xor (bit_xor (exchange u v (at p u) (at p v) i) (exchange (at q u) (at q v) (at r u) (at r v) i)) (bit_xor (at s u) (at s v)))
    ∙ ap (λ (x : ℕ). bit_xor x (bit_xor (at s u) (at s v)))
    (exchange (bit_xor u (at p u)) (bit_xor v (at p v)) (bit_xor (at q u) (at r u)) (bit_xor (at q v) (at r v)))
    ∙ exchange (bit_xor (bit_xor u (at p u)) (bit_xor (at q u) (at r u))) (bit_xor (bit_xor v (at p v)) (bit_xor (at q v) (at r v))) (at s u) (at s v)

swapped : (m n c : ℕ) → crc_bits m (crc_bits n c) ≡ crc_bits n (crc_bits m c)
swapped m n c = let same : n + m ≡ m + n = omega arith in bits_more m n c ∙ ap (λ (k : ℕ). crc_bits k c) same ∙ sym (bits_more n m c)

multiple_later : (p q r s n v : ℕ) → multiple p q r s (crc_bits n v) ≡ crc_bits n (multiple p q r s v)
multiple_later p q r s n v =
    let at = λ (k : ℕ). crc_bits k v in
    let near = sym (bits_linear n v (at p)) in
    let far = sym (bits_linear n (at q) (at r)) in
    (λ i. bit_xor (bit_xor (bit_xor (crc_bits n v) (swapped p n v i)) (bit_xor (swapped q n v i) (swapped r n v i))) (swapped s n v i))
    ∙ (λ i. bit_xor (bit_xor (near i) (far i)) (crc_bits n (at s)))
    ∙ ap (λ (x : ℕ). bit_xor x (crc_bits n (at s))) (sym (bits_linear n (bit_xor v (at p)) (bit_xor (at q) (at r))))
    ∙ sym (bits_linear n (bit_xor (bit_xor v (at p)) (bit_xor (at q) (at r))) (at s))

-- none of a byte is left, where none of its highest bit is
abbrev IsNone : ℕ → ℕ → ℕ → ℕ → ℕ → Type 0
IsNone p q r s v = multiple p q r s v ≡ 0

halved : (p q r s v : ℕ) → IsNone p q r s v → IsNone p q r s (crc_bit v)
halved p q r s v h = multiple_later p q r s 1 v ∙ ap (crc_bits 1) h

joined : (p q r s u v : ℕ) → IsNone p q r s u → IsNone p q r s v → IsNone p q r s (bit_xor u v)
joined p q r s u v g h = multiple_linear p q r s u v ∙ (λ i. bit_xor (g i) (h i))

doubled_range : (p q r s k : ℕ) → IsNone p q r s (2 ^ k) → ((b : ℕ) → b < 2 ^ k → IsNone p q r s b) → (b : ℕ) → b < 2 * 2 ^ k → IsNone p q r s b
doubled_range p q r s k top low b lt = elim (cases_lt b (2 ^ k)) [ inl small ↦ low b small | inr large ↦ high large ]
  where
    high : 2 ^ k ≤ b → IsNone p q r s b
    high large =
        let c = b - 2 ^ k in
        let fits : c < 2 ^ k = omega (arith, lt, large) in
        let whole : bit_xor (1 * 2 ^ k + 0) (0 * 2 ^ k + c) ≡ bit_xor 1 0 * 2 ^ k + bit_xor 0 c = xor_block k 1 0 0 c (omega (arith, fits)) fits in
        let left : 2 ^ k ≡ 1 * 2 ^ k + 0 = omega arith in
        let right : c ≡ 0 * 2 ^ k + c = omega arith in
        let sum : 1 * 2 ^ k + bit_xor 0 c ≡ b = omega (arith, large, xor_zero_l c) in
        let is : bit_xor (2 ^ k) c ≡ b = (λ i. bit_xor (left i) (right i)) ∙ whole ∙ sum in
        sym (ap (multiple p q r s) is) ∙ joined p q r s (2 ^ k) c top (low c fits)

none_of_none : (p q r s : ℕ) → IsNone p q r s 0
none_of_none p q r s = (λ i. bit_xor (bit_xor (bit_xor 0 (bits_of_none p i)) (bit_xor (bits_of_none q i) (bits_of_none r i))) (bits_of_none s i))

none_of_byte : (p q r s : ℕ) → IsNone p q r s 128 → (b : ℕ) → b < 256 → IsNone p q r s b
none_of_byte p q r s h7 =
    let h6 = halved p q r s 128 h7 in
    let h5 = halved p q r s 64 h6 in
    let h4 = halved p q r s 32 h5 in
    let h3 = halved p q r s 16 h4 in
    let h2 = halved p q r s 8 h3 in
    let h1 = halved p q r s 4 h2 in
    let h0 = halved p q r s 2 h1 in
    let r0 = doubled_range p q r s 0 h0 (λ b lt. let none : b ≡ 0 = omega (arith, lt) in ap (multiple p q r s) none ∙ none_of_none p q r s) in
    doubled_range p q r s 7 h7 (doubled_range p q r s 6 h6 (doubled_range p q r s 5 h5 (doubled_range p q r s 4 h4
    (doubled_range p q r s 3 h3 (doubled_range p q r s 2 h2 (doubled_range p q r s 1 h1 r0))))))

none_of_run : (p q r s : ℕ) → IsNone p q r s 128 → (f : ℕ → ℕ) → ((k : ℕ) → f k < 256) → (n : ℕ) → IsNone p q r s (run f n)
none_of_run p q r s h f fits zero = none_of_byte p q r s h 0 (omega arith)
none_of_run p q r s h f fits (suc n) =
    multiple_later p q r s 8 (bit_xor (run f n) (f n))
    ∙ ap (crc_bits 8) (joined p q r s (run f n) (f n) (none_of_run p q r s h f fits n) (none_of_byte p q r s h (f n) (fits n)))
    ∙ bits_of_none 8

by_712 : crc_bits 712 128 ≡ 3327797036
by_712 = refl

by_936 : crc_bits 224 3327797036 ≡ 13382516
by_936 = refl

by_1240 : crc_bits 304 13382516 ≡ 95655106
by_1240 = refl

by_1820 : crc_bits 580 95655106 ≡ 2953993952
by_1820 = refl

by_2400 : crc_bits 580 2953993952 ≡ 3274014746
by_2400 = refl

unit_is_none : (p q r s : ℕ) → p ≡ 712 → q ≡ 936 → r ≡ 1240 → s ≡ 2400 → IsNone p q r s 128
unit_is_none p q r s is_p is_q is_r is_s =
    let at = λ (k : ℕ). crc_bits k 128 in
    let at_p : at p ≡ 3327797036 = ap at is_p ∙ by_712 in
    let at_q : at q ≡ 13382516 = ap at is_q ∙ sym (bits_more 224 712 128) ∙ ap (crc_bits 224) by_712 ∙ by_936 in
    let at_r : at r ≡ 95655106 = ap at is_r ∙ sym (bits_more 304 936 128) ∙ ap (crc_bits 304) (sym (bits_more 224 712 128) ∙ ap (crc_bits 224) by_712 ∙ by_936) ∙ by_1240 in
    let at_s : at s ≡ 3274014746 =
    ap at is_s ∙ sym (bits_more 1160 1240 128)
    ∙ ap (crc_bits 1160) (sym (bits_more 304 936 128) ∙ ap (crc_bits 304) (sym (bits_more 224 712 128) ∙ ap (crc_bits 224) by_712 ∙ by_936) ∙ by_1240)
    ∙ sym (bits_more 580 580 95655106) ∙ ap (crc_bits 580) by_1820 ∙ by_2400 in
    (λ i. bit_xor (bit_xor (bit_xor 128 (at_p i)) (bit_xor (at_q i) (at_r i))) (at_s i))

-- ---- a round of folding

from_run : (c : ℕ) (m : List ℕ) → crc_from c m ≡ bit_xor (crc_bits (8 * length m) c) (run (λ k. get_or m k 0) (length m))
from_run c m =
    let at = λ (k : ℕ). get_or m k 0 in
    let none : crc_from 0 m ≡ run at (length m) = run_is at 0 m (length m) (omega arith) (λ i lt. let place : i ≡ 0 + i = omega arith in ap at place) in
    ap (λ (x : ℕ). crc_from x m) (sym (xor_zero_r c)) ∙ from_linear c 0 m ∙ ap (bit_xor (crc_bits (8 * length m) c)) none

start_is : (c : ℕ) → c < 2 ^ 32 → run (λ k. get_or (to_le_bytes w32 c) k 0) 4 ≡ crc_bits 32 c
start_is c lt =
    let low = to_le_bytes w32 c in
    let at = λ (k : ℕ). get_or low k 0 in
    let whole : bit_xor 0 (number low) ≡ c = xor_zero_l (number low) ∙ omega (arith, lt) in
    sym (run_is at 0 low 4 refl (λ i below. let place : i ≡ 0 + i = omega arith in ap at place))
    ∙ from_number 0 low (omega arith, (omega arith, (omega arith, (omega arith, refl)))) ∙ ap (crc_bits 32) whole

past_start : (c k : ℕ) → 4 ≤ k → get_or (to_le_bytes w32 c) k 0 ≡ 0
past_start c k le = get_or_past (to_le_bytes w32 c) k 0 le

arranged : (x e v p q r s : ℕ) → bit_xor (bit_xor x (bit_xor (bit_xor (bit_xor e v) p) (bit_xor q r))) s ≡ bit_xor (bit_xor e x) (bit_xor (bit_xor (bit_xor v p) (bit_xor q r)) s)
arranged x e v p q r s =
    let w = bit_xor (bit_xor v p) (bit_xor q r) in
    let inner : bit_xor (bit_xor (bit_xor e v) p) (bit_xor q r) ≡ bit_xor e w = ap (λ (y : ℕ). bit_xor y (bit_xor q r)) (xor_assoc e v p) ∙ xor_assoc e (bit_xor v p) (bit_xor q r) in
    ap (λ (y : ℕ). bit_xor (bit_xor x y) s) inner
    ∙ ap (λ (y : ℕ). bit_xor y s) (sym (xor_assoc x e w) ∙ ap (λ (y : ℕ). bit_xor y w) (xor_comm x e))
    ∙ xor_assoc (bit_xor e x) w s

-- what the history has at a distance
shifted : (c n : ℕ) (h m : List ℕ) → IsFolded c n h m → (d o j : ℕ) → d + o ≡ 300 → 4 ≤ d → j ≡ d + 4 →
    run (λ k. get_or h (k + d) 0) (n + 304) ≡ crc_bits (8 * j) (run (λ k. get_or h (300 + k) 0) n)
shifted c n h m f d o j is far far_is =
    let at = λ (k : ℕ). get_or h k 0 in
    let later = λ (k : ℕ). get_or h (300 + k) 0 in
    run_later (λ k. get_or h (k + d) 0) later o (n + j) (n + 304) (omega (arith, is, far_is))
    (λ k lt. f.first (k + d) (omega (arith, is, lt)) ∙ past_start c (k + d) (omega (arith, far)))
    (λ k lt. let place : o + k + d ≡ 300 + k = omega (arith, is) in ap at place)
    ∙ run_stops later n j (n + j) refl (λ k le. f.beyond (300 + k) (omega (arith, le)))

nearest : (c n : ℕ) (h m : List ℕ) → IsFolded c n h m → c < 2 ^ 32 →
    run (λ k. get_or h k 0) (n + 304) ≡ bit_xor (crc_bits (8 * (n + 304)) c) (crc_bits (8 * 4) (run (λ k. get_or h (300 + k) 0) n))
nearest c n h m f lt =
    let at = λ (k : ℕ). get_or h k 0 in
    let start = λ (k : ℕ). get_or (to_le_bytes w32 c) k 0 in
    let later = λ (k : ℕ). get_or h (300 + k) 0 in
    let other = λ (k : ℕ). bit_xor (start k) (at k) in
    let size : 32 + 8 * (n + 300) ≡ 8 * (n + 304) = omega arith in
    let by_start : run start (n + 304) ≡ crc_bits (8 * (n + 304)) c =
    run_stops start 4 (n + 300) (n + 304) (omega arith) (λ k le. past_start c k le)
    ∙ ap (crc_bits (8 * (n + 300))) (start_is c lt) ∙ bits_more (8 * (n + 300)) 32 c ∙ ap (λ (k : ℕ). crc_bits k c) size in
    let by_later : run other (n + 304) ≡ crc_bits (8 * 4) (run later n) =
    run_later other later 300 (n + 4) (n + 304) (omega arith)
    (λ k below. ap (bit_xor (start k)) (f.first k below) ∙ xor_self (start k))
    (λ k below. ap (λ (x : ℕ). bit_xor x (later k)) (past_start c (300 + k) (omega arith)) ∙ xor_zero_l (later k))
    ∙ run_stops later n 4 (n + 4) refl (λ k le. f.beyond (300 + k) (omega (arith, le))) in
    run_ext at (λ k. bit_xor (start k) (other k)) (n + 304)
    (λ k below. sym (sym (xor_assoc (start k) (start k) (at k)) ∙ ap (λ (x : ℕ). bit_xor x (at k)) (xor_self (start k)) ∙ xor_zero_l (at k)))
    ∙ run_linear start other (n + 304) ∙ (λ i. bit_xor (by_start i) (by_later i))

round_sum : (p q r s : ℕ) → p ≡ 712 → q ≡ 936 → r ≡ 1240 → s ≡ 2400 → (c n : ℕ) (h m : List ℕ) → c < 2 ^ 32 → ((k : ℕ) → get_or h k 0 < 256) → length m ≡ n + 304 →
    IsFolded c n h m → run (λ k. folded_byte h m (n + k)) 304 ≡ crc_from c m
round_sum p q r s is_p is_q is_r is_s c n h m lt fits long f =
    let len = n + 304 in
    let at = λ (k : ℕ). get_or h k 0 in
    let byte = λ (k : ℕ). get_or m k 0 in
    let at1 = λ (k : ℕ). get_or h (k + 89) 0 in
    let at2 = λ (k : ℕ). get_or h (k + 117) 0 in
    let at3 = λ (k : ℕ). get_or h (k + 155) 0 in
    let later = λ (k : ℕ). get_or h (300 + k) 0 in
    let all = λ (k : ℕ). bit_xor (folded_byte h m k) (later k) in
    let u = run later n in
    let v = crc_bits (8 * 4) u in
    let more = λ (k j : ℕ) (size : 32 + k ≡ 8 * j). sym (bits_more k 32 u ∙ ap (λ (x : ℕ). crc_bits x u) size) in
    let none : bit_xor (bit_xor (bit_xor v (crc_bits p v)) (bit_xor (crc_bits q v) (crc_bits r v))) (crc_bits s v) ≡ 0 =
    none_of_later p q r s (unit_is_none p q r s is_p is_q is_r is_s) later (λ k. fits (300 + k)) n in
    let is_front = nearest c n h m f lt in
    let is1 = shifted c n h m f 89 211 93 refl (omega arith) refl ∙ more p 93 (omega (arith, is_p)) in
    let is2 = shifted c n h m f 117 183 121 refl (omega arith) refl ∙ more q 121 (omega (arith, is_q)) in
    let is3 = shifted c n h m f 155 145 159 refl (omega arith) refl ∙ more r 159 (omega (arith, is_r)) in
    let is4 = run_stops later n 304 len refl (λ k le. f.beyond (300 + k) (omega (arith, le))) ∙ more s 304 (omega (arith, is_s)) in
    let taken : run all len ≡ run (λ k. folded_byte h m (n + k)) 304 =
    run_later all (λ k. folded_byte h m (n + k)) n 304 len refl
    (λ k below. ap (bit_xor (folded_byte h m k)) (f.filled k below) ∙ xor_self (folded_byte h m k))
    (λ k below. ap (bit_xor (folded_byte h m (n + k))) (f.beyond (300 + (n + k)) (omega arith)) ∙ xor_zero_r (folded_byte h m (n + k))) in
    let inner : run (λ k. bit_xor (bit_xor (at k) (at1 k)) (bit_xor (at2 k) (at3 k))) len ≡ bit_xor (bit_xor (run at len) (run at1 len)) (bit_xor (run at2 len) (run at3 len)) =
    run_linear (λ k. bit_xor (at k) (at1 k)) (λ k. bit_xor (at2 k) (at3 k)) len ∙ (λ i. bit_xor (run_linear at at1 len i) (run_linear at2 at3 len i)) in
    let parts : run all len ≡ bit_xor (bit_xor (run byte len) (bit_xor (bit_xor (run at len) (run at1 len)) (bit_xor (run at2 len) (run at3 len)))) (run later len) =
    run_linear (folded_byte h m) later len
    ∙ ap (λ (x : ℕ). bit_xor x (run later len)) (run_linear byte (λ k. bit_xor (bit_xor (at k) (at1 k)) (bit_xor (at2 k) (at3 k))) len ∙ ap (bit_xor (run byte len)) inner) in
    let e = crc_bits (8 * len) c in
    sym taken ∙ parts
    ∙ (λ i. bit_xor (bit_xor (run byte len) (bit_xor (bit_xor (is_front i) (is1 i)) (bit_xor (is2 i) (is3 i)))) (is4 i))
    ∙ arranged (run byte len) e v (crc_bits p v) (crc_bits q v) (crc_bits r v) (crc_bits s v)
    ∙ ap (bit_xor (bit_xor e (run byte len))) none ∙ xor_zero_r (bit_xor e (run byte len))
    ∙ sym (from_run c m ∙ ap (λ (k : ℕ). bit_xor (crc_bits (8 * k) c) (run byte k)) long)
  where
    none_of_later : (p q r s : ℕ) → IsNone p q r s 128 → (g : ℕ → ℕ) → ((k : ℕ) → g k < 256) → (n : ℕ) → IsNone p q r s (crc_bits (8 * 4) (run g n))
    none_of_later p q r s unit g below n =
        multiple_later p q r s (8 * 4) (run g n) ∙ ap (crc_bits (8 * 4)) (none_of_run p q r s unit g below n) ∙ bits_of_none (8 * 4)

pub round_is : (c n : ℕ) (h m : List ℕ) → c < 2 ^ 32 → ((k : ℕ) → get_or h k 0 < 256) → length m ≡ n + 304 → IsFolded c n h m → run (λ k. folded_byte h m (n + k)) 304 ≡ crc_from c m
round_is = round_sum 712 936 1240 2400 refl refl refl refl

-- ---- sixteen bytes at once

pub folded_lanes : (h m : List ℕ) (at : ℕ) (a b c d e : List ℕ) → at + 171 ≤ length h → at + 16 ≤ length m →
    a ≡ chunk at 16 h → b ≡ chunk (at + 89) 16 h → c ≡ chunk (at + 117) 16 h → d ≡ chunk (at + 155) 16 h → e ≡ chunk at 16 m →
    (length (zip2 bit_xor e (zip2 bit_xor (zip2 bit_xor a b) (zip2 bit_xor c d))) ≡ 16)
    × ((i : ℕ) → i < 16 → get_or (zip2 bit_xor e (zip2 bit_xor (zip2 bit_xor a b) (zip2 bit_xor c d))) i 0 ≡ folded_byte h m (at + i))
folded_lanes h m at a b c d e room long is_a is_b is_c is_d is_e =
    let len_a = ap length is_a ∙ length-chunk at 16 h (omega (arith, room)) in
    let len_b = ap length is_b ∙ length-chunk (at + 89) 16 h (omega (arith, room)) in
    let len_c = ap length is_c ∙ length-chunk (at + 117) 16 h (omega (arith, room)) in
    let len_d = ap length is_d ∙ length-chunk (at + 155) 16 h (omega (arith, room)) in
    let len_e = ap length is_e ∙ length-chunk at 16 m long in
    let near = zip2 bit_xor a b in
    let far = zip2 bit_xor c d in
    let both = zip2 bit_xor near far in
    let len_near = length-zip2 bit_xor a b (len_a ∙ sym len_b) ∙ len_a in
    let len_far = length-zip2 bit_xor c d (len_c ∙ sym len_d) ∙ len_c in
    let len_both = length-zip2 bit_xor near far (len_near ∙ sym len_far) ∙ len_near in (
      length-zip2 bit_xor e both (len_e ∙ sym len_both) ∙ len_e,
      λ i lt.
          let past = λ (j : ℕ) (place : at + j + i ≡ at + i + j). ap (λ (k : ℕ). get_or h k 0) place in
          let at_a : get_or a i 0 ≡ get_or h (at + i) 0 = ap (λ (l : List ℕ). get_or l i 0) is_a ∙ get_or-chunk at 16 h i 0 lt in
          let at_b : get_or b i 0 ≡ get_or h (at + i + 89) 0 = ap (λ (l : List ℕ). get_or l i 0) is_b ∙ get_or-chunk (at + 89) 16 h i 0 lt ∙ past 89 (omega arith) in
          let at_c : get_or c i 0 ≡ get_or h (at + i + 117) 0 = ap (λ (l : List ℕ). get_or l i 0) is_c ∙ get_or-chunk (at + 117) 16 h i 0 lt ∙ past 117 (omega arith) in
          let at_d : get_or d i 0 ≡ get_or h (at + i + 155) 0 = ap (λ (l : List ℕ). get_or l i 0) is_d ∙ get_or-chunk (at + 155) 16 h i 0 lt ∙ past 155 (omega arith) in
          let at_e : get_or e i 0 ≡ get_or m (at + i) 0 = ap (λ (l : List ℕ). get_or l i 0) is_e ∙ get_or-chunk at 16 m i 0 lt in
          get_or-zip2 bit_xor e both i 0 0 0 (omega (arith, lt, len_e)) (omega (arith, lt, len_both))
          ∙ ap (bit_xor (get_or e i 0)) (get_or-zip2 bit_xor near far i 0 0 0 (omega (arith, lt, len_near)) (omega (arith, lt, len_far))
          ∙ (λ j. bit_xor (get_or-zip2 bit_xor a b i 0 0 0 (omega (arith, lt, len_a)) (omega (arith, lt, len_b)) j) (get_or-zip2 bit_xor c d i 0 0 0 (omega (arith, lt, len_c)) (omega (arith, lt, len_d)) j)))
          ∙ (λ j. bit_xor (at_e j) (bit_xor (bit_xor (at_a j) (at_b j)) (bit_xor (at_c j) (at_d j)))),
    )

pub fold_step : (at : ℕ) (h m v : List ℕ) → at + 316 ≤ length h → length v ≡ 16 → ((i : ℕ) → i < 16 → get_or v i 0 ≡ folded_byte h m (at + i)) →
    (start : ℕ) → IsFolded start at h m → IsFolded start (at + 16) (put_chunk (at + 300) h v) m
fold_step at h m v room len lanes start f = record {
  first = λ k lt. below k (omega (arith, lt)) ∙ f.first k lt;
  filled = λ k lt. filled k lt;
  beyond = λ k le. get_or-put_chunk_above (at + 300) h v k 0 (omega (arith, le, len)) ∙ f.beyond k (omega (arith, le));
}
  where
    below : (k : ℕ) → k < at + 300 → get_or (put_chunk (at + 300) h v) k 0 ≡ get_or h k 0
    below k lt = get_or-put_chunk_below (at + 300) h v k 0 lt

    same : (k : ℕ) → k < at + 16 → folded_byte h m k ≡ folded_byte (put_chunk (at + 300) h v) m k
    same k lt =
        let b0 = sym (below k (omega (arith, lt))) in
        let b1 = sym (below (k + 89) (omega (arith, lt))) in
        let b2 = sym (below (k + 117) (omega (arith, lt))) in
        let b3 = sym (below (k + 155) (omega (arith, lt))) in
        (λ i. bit_xor (get_or m k 0) (bit_xor (bit_xor (b0 i) (b1 i)) (bit_xor (b2 i) (b3 i))))

    filled : (k : ℕ) → k < at + 16 → get_or (put_chunk (at + 300) h v) (300 + k) 0 ≡ folded_byte (put_chunk (at + 300) h v) m k
    filled k lt = elim (cases_lt k at) [
      | inl earlier ↦ below (300 + k) (omega (arith, earlier)) ∙ f.filled k earlier ∙ same k lt
      | inr later ↦
          let j = k - at in
          let place : 300 + k ≡ at + 300 + j = omega (arith, later) in
          let back : at + j ≡ k = omega (arith, later) in
          let fits : j < 16 = omega (arith, later, lt) in
          ap (λ (x : ℕ). get_or (put_chunk (at + 300) h v) x 0) place
          ∙ get_or-put_chunk_at (at + 300) h v j 0 (omega (arith, fits, len)) (omega (arith, room, len))
          ∙ lanes j fits ∙ ap (folded_byte h m) back ∙ same k lt
    ]

pub take_step : (h m v : List ℕ) (from group crc r : ℕ) → length v ≡ 16 → ((i : ℕ) → i < 16 → get_or v i 0 ≡ folded_byte h m (from + 16 * group + i)) →
    crc ≡ run (λ k. folded_byte h m (from + k)) (16 * group) → r ≡ crc_from crc v → r ≡ run (λ k. folded_byte h m (from + k)) (16 * (group + 1))
take_step h m v from group crc r len lanes so_far is =
    is ∙ ap (λ (x : ℕ). crc_from x v) so_far
    ∙ run_is (λ k. folded_byte h m (from + k)) (16 * group) v (16 * (group + 1)) (omega (arith, len))
    (λ i lt. let place : from + 16 * group + i ≡ from + (16 * group + i) = omega arith in lanes i (omega (arith, lt, len)) ∙ ap (folded_byte h m) place)

pub none_in : (n k : ℕ) → get_or {A = ℕ} (replicate n 0) k 0 ≡ 0
none_in zero k = refl
none_in (suc n) zero = refl
none_in (suc n) (suc k) = none_in n k

-- ---- one part after the other

split_once : (c n : ℕ) (bs : List ℕ) → crc_from (crc_from c (take n bs)) (drop n bs) ≡ crc_from c bs
split_once c zero bs = refl
split_once c (suc n) [] = refl
split_once c (suc n) (b ∷ bs) = split_once (crc_bits 8 (bit_xor c b)) n bs

pub part_taken : (c n r : ℕ) (bs now later : List ℕ) → now ≡ take n bs → later ≡ drop n bs → r ≡ crc_from c now → crc_from r later ≡ crc_from c bs
part_taken c n r bs now later front back is =
    ap (λ (x : ℕ). crc_from x later) is ∙ (λ i. crc_from (crc_from c (front i)) (back i)) ∙ split_once c n bs
