-- The checksum's step is linear, so bytes can be taken by tables.
use Rattle.std.proofs.Common.{◌≡◌, ℕ, zero, suc, ◌+◌, ◌-◌, ◌*◌, ◌/◌, ◌%◌, ◌^◌, ◌<◌, Bool, true, false, cond, eqb, ◌&&◌, List, [], ◌∷◌, ◌++◌, length, get_or, refl, sym, ap, ◌∙◌, arith}
use Rattle.std.specs.Prelude.{bit_xor}
use Rattle.std.specs.Int.{w64, to_le_bytes, from_le_bytes}
use Rattle.std.specs.Int.Bits.{xor_assoc, xor_self, xor_zero_l}
use Rattle.std.proofs.lemmas.Bool.{and_parts, eqb-true}
use Rattle.std.proofs.lemmas.Nat.{xor_comm, xor_shr, xor_mod, xor_block}
use Rattle.slate_table.specs.Checksum.{crc_bit, crc_bits, crc_from}

pub xor_zero_r : (a : ℕ) → bit_xor a 0 ≡ a
xor_zero_r a = xor_comm a 0 ∙ xor_zero_l a

swap : (a b c : ℕ) → bit_xor (bit_xor a b) c ≡ bit_xor (bit_xor a c) b
swap a b c = xor_assoc a b c ∙ ap (bit_xor a) (xor_comm b c) ∙ sym (xor_assoc a c b)

pub twice : (a b p : ℕ) → bit_xor (bit_xor a p) (bit_xor b p) ≡ bit_xor a b
twice a b p =
    sym (xor_assoc (bit_xor a p) b p) ∙ ap (λ (x : ℕ). bit_xor x p) (swap a p b) ∙ xor_assoc (bit_xor a b) p p
    ∙ ap (bit_xor (bit_xor a b)) (xor_self p) ∙ xor_zero_r (bit_xor a b)

-- ---- one bit

-- by the bit that falls off
abbrev fallen : ℕ → ℕ → ℕ → ℕ
fallen p odd half = cond (eqb odd 1) (bit_xor half p) half

fallen_linear : (p o q g h : ℕ) → o < 2 → q < 2 → fallen p (bit_xor o q) (bit_xor g h) ≡ bit_xor (fallen p o g) (fallen p q h)
fallen_linear p zero zero g h lo lq = refl
fallen_linear p zero (suc zero) g h lo lq = xor_assoc g h p
fallen_linear p (suc zero) zero g h lo lq = swap g h p
fallen_linear p (suc zero) (suc zero) g h lo lq = sym (twice g h p)
fallen_linear p zero (suc (suc q)) g h lo lq = absurd (omega arith)
fallen_linear p (suc zero) (suc (suc q)) g h lo lq = absurd (omega arith)
fallen_linear p (suc (suc o)) q g h lo lq = absurd (omega arith)

bit_linear : (a b : ℕ) → crc_bit (bit_xor a b) ≡ bit_xor (crc_bit a) (crc_bit b)
bit_linear a b =
    ap (λ (o : ℕ). fallen 0xedb88320 o (bit_xor a b / 2)) (xor_mod a b 1)
    ∙ ap (fallen 0xedb88320 (bit_xor (a % 2) (b % 2))) (xor_shr a b 1)
    ∙ fallen_linear 0xedb88320 (a % 2) (b % 2) (a / 2) (b / 2) (omega arith) (omega arith)

bit_of_double : (y : ℕ) → crc_bit (y * 2) ≡ y
bit_of_double y =
    let even : (y * 2) % 2 ≡ 0 = omega arith in
    let half : (y * 2) / 2 ≡ y = omega arith in
    ap (λ (o : ℕ). fallen 0xedb88320 o (y * 2 / 2)) even ∙ half

-- ---- several bits

pub bits_linear : (n a b : ℕ) → crc_bits n (bit_xor a b) ≡ bit_xor (crc_bits n a) (crc_bits n b)
bits_linear zero a b = refl
bits_linear (suc n) a b = ap (crc_bits n) (bit_linear a b) ∙ bits_linear n (crc_bit a) (crc_bit b)

pub bits_more : (m n c : ℕ) → crc_bits m (crc_bits n c) ≡ crc_bits (n + m) c
bits_more m zero c = let same : m ≡ 0 + m = omega arith in ap (λ (k : ℕ). crc_bits k c) same
bits_more m (suc n) c =
    let same : suc (n + m) ≡ suc n + m = omega arith in
    bits_more m n (crc_bit c) ∙ ap (λ (k : ℕ). crc_bits k c) same

doubled : ℕ → ℕ → ℕ
doubled zero y = y
doubled (suc n) y = doubled n y * 2

bits_of_doubled : (n y : ℕ) → crc_bits n (doubled n y) ≡ y
unfolding doubled
bits_of_doubled zero y = refl
bits_of_doubled (suc n) y = ap (crc_bits n) (bit_of_double (doubled n y)) ∙ bits_of_doubled n y

byte_of_high : (y : ℕ) → crc_bits 8 (y * 256) ≡ y
unfolding doubled
byte_of_high y =
    let same : y * 256 ≡ doubled 8 y = omega arith in
    ap (crc_bits 8) same ∙ bits_of_doubled 8 y

low_and_high : (x : ℕ) → bit_xor (x % 256) (x / 256 * 256) ≡ x
low_and_high x =
    let low : 0 * 2 ^ 8 + x % 256 ≡ x % 256 = omega arith in
    let high : x / 256 * 2 ^ 8 + 0 ≡ x / 256 * 256 = omega arith in
    let both : bit_xor 0 (x / 256) * 2 ^ 8 + bit_xor (x % 256) 0 ≡ x = omega (arith, xor_zero_l (x / 256), xor_zero_r (x % 256)) in
    ap (λ (l : ℕ). bit_xor l (x / 256 * 256)) (sym low) ∙ ap (bit_xor (0 * 2 ^ 8 + x % 256)) (sym high)
    ∙ xor_block 8 0 (x / 256) (x % 256) 0 (omega arith) (omega arith) ∙ both

-- eight bits, by the low byte
pub byte_of : (x : ℕ) → crc_bits 8 x ≡ bit_xor (crc_bits 8 (x % 256)) (x / 256)
byte_of x =
    ap (crc_bits 8) (sym (low_and_high x)) ∙ bits_linear 8 (x % 256) (x / 256 * 256)
    ∙ ap (bit_xor (crc_bits 8 (x % 256))) (byte_of_high (x / 256))

-- ---- bytes

pub from_linear : (u v : ℕ) (bs : List ℕ) → crc_from (bit_xor u v) bs ≡ bit_xor (crc_bits (8 * length bs) u) (crc_from v bs)
from_linear u v [] = refl
from_linear u v (b ∷ bs) =
    let size : 8 + 8 * length bs ≡ 8 * length (b ∷ bs) = omega arith in
    ap (λ (x : ℕ). crc_from (crc_bits 8 x) bs) (xor_assoc u v b)
    ∙ ap (λ (x : ℕ). crc_from x bs) (bits_linear 8 u (bit_xor v b))
    ∙ from_linear (crc_bits 8 u) (crc_bits 8 (bit_xor v b)) bs
    ∙ ap (λ (x : ℕ). bit_xor x (crc_from (crc_bits 8 (bit_xor v b)) bs)) (bits_more (8 * length bs) 8 u ∙ ap (λ (k : ℕ). crc_bits k u) size)

-- the first byte and the low byte go through all that follows
pub peel : (c b : ℕ) (bs : List ℕ) → b < 256 → crc_from c (b ∷ bs) ≡ bit_xor (crc_bits (8 * length (b ∷ bs)) (bit_xor (c % 256) b)) (crc_from (c / 256) bs)
peel c b bs lt =
    let size : 8 + 8 * length bs ≡ 8 * length (b ∷ bs) = omega arith in
    let whole : b % 2 ^ 8 ≡ b = omega arith in
    let none : b / 2 ^ 8 ≡ 0 = omega arith in
    let low : bit_xor c b % 256 ≡ bit_xor (c % 256) b = xor_mod c b 8 ∙ ap (bit_xor (c % 256)) whole in
    let high : bit_xor c b / 256 ≡ c / 256 = xor_shr c b 8 ∙ ap (bit_xor (c / 256)) none ∙ xor_zero_r (c / 256) in
    ap (λ (x : ℕ). crc_from x bs) (byte_of (bit_xor c b) ∙ ap (λ (x : ℕ). bit_xor (crc_bits 8 x) (bit_xor c b / 256)) low ∙ ap (bit_xor (crc_bits 8 (bit_xor (c % 256) b))) high)
    ∙ from_linear (crc_bits 8 (bit_xor (c % 256) b)) (c / 256) bs
    ∙ ap (λ (x : ℕ). bit_xor x (crc_from (c / 256) bs)) (bits_more (8 * length bs) 8 (bit_xor (c % 256) b) ∙ ap (λ (k : ℕ). crc_bits k (bit_xor (c % 256) b)) size)

-- ---- words

-- what is left of a word, by its bytes
abbrev slices : ℕ → List ℕ → ℕ
slices k [] = 0
slices k (b ∷ bs) = bit_xor (crc_bits (8 * (k + length bs + 1)) b) (slices k bs)

pub bits_of_none : (n : ℕ) → crc_bits n 0 ≡ 0
bits_of_none zero = refl
bits_of_none (suc n) = bits_of_none n

abbrev digits : ℕ → ℕ → List ℕ
digits zero x = []
digits (suc n) x = x % 256 ∷ digits n (x / 256)

length_digits : (n x : ℕ) → length (digits n x) ≡ n
length_digits zero x = refl
length_digits (suc n) x = ap suc (length_digits n (x / 256))

abbrev over : ℕ → ℕ → ℕ
over zero x = x
over (suc n) x = over n (x / 256)

slices_are : (k n x : ℕ) → over n x ≡ 0 → slices k (digits n x) ≡ crc_bits (8 * (k + n)) x
slices_are k zero x none = sym (ap (crc_bits (8 * (k + 0))) none ∙ bits_of_none (8 * (k + 0)))
slices_are k (suc n) x none =
    let size : 8 + 8 * (k + n) ≡ 8 * (k + suc n) = omega arith in
    let long : 8 * (k + length (digits n (x / 256)) + 1) ≡ 8 * (k + suc n) = omega (arith, length_digits n (x / 256)) in
    let split = bits_more (8 * (k + n)) 8 (x % 256) ∙ ap (λ (m : ℕ). crc_bits m (x % 256)) size in
    ap (λ (m : ℕ). bit_xor (crc_bits m (x % 256)) (slices k (digits n (x / 256)))) long
    ∙ ap (bit_xor (crc_bits (8 * (k + suc n)) (x % 256))) (slices_are k n (x / 256) none)
    ∙ ap (λ (y : ℕ). bit_xor y (crc_bits (8 * (k + n)) (x / 256))) (sym split)
    ∙ sym (bits_linear (8 * (k + n)) (crc_bits 8 (x % 256)) (x / 256))
    ∙ ap (crc_bits (8 * (k + n))) (sym (byte_of x))
    ∙ bits_more (8 * (k + n)) 8 x ∙ ap (λ (m : ℕ). crc_bits m x) size

grouped : (a b c d e f g h : ℕ) → bit_xor a (bit_xor b (bit_xor c (bit_xor d (bit_xor e (bit_xor f (bit_xor g (bit_xor h 0)))))))
    ≡ bit_xor (bit_xor (bit_xor (bit_xor a b) c) d) (bit_xor (bit_xor (bit_xor e f) g) h)
grouped a b c d e f g h =
    ap (λ (x : ℕ). bit_xor a (bit_xor b (bit_xor c (bit_xor d (bit_xor e (bit_xor f (bit_xor g x))))))) (xor_zero_r h) ∙ sym (simp xor_assoc)

record IsOver (x : ℕ) : Type 0 where
  at2 : x / 65536 ≡ over 2 x
  at3 : x / 16777216 ≡ over 3 x
  at4 : x / 4294967296 ≡ over 4 x
  at5 : x / 1099511627776 ≡ over 5 x
  at6 : x / 281474976710656 ≡ over 6 x
  at7 : x / 72057594037927936 ≡ over 7 x

is_over : (x : ℕ) → IsOver x
is_over x =
    let by2 : x / 65536 ≡ x / 256 / 256 = omega arith in
    let by3 : x / 16777216 ≡ x / 65536 / 256 = omega arith in
    let by4 : x / 4294967296 ≡ x / 16777216 / 256 = omega arith in
    let by5 : x / 1099511627776 ≡ x / 4294967296 / 256 = omega arith in
    let by6 : x / 281474976710656 ≡ x / 1099511627776 / 256 = omega arith in
    let by7 : x / 72057594037927936 ≡ x / 281474976710656 / 256 = omega arith in
    let step = λ (y : ℕ). y / 256 in
    let is3 = by3 ∙ ap step by2 in
    let is4 = by4 ∙ ap step is3 in
    let is5 = by5 ∙ ap step is4 in
    let is6 = by6 ∙ ap step is5 in
    record { at2 = by2; at3 = is3; at4 = is4; at5 = is5; at6 = is6; at7 = by7 ∙ ap step is6 }

same_digits : (x : ℕ) → to_le_bytes w64 x ≡ digits 8 x
same_digits x =
    let h = is_over x in
    (λ i. x % 256 ∷ x / 256 % 256 ∷ h.at2 i % 256 ∷ h.at3 i % 256 ∷ h.at4 i % 256 ∷ h.at5 i % 256 ∷ h.at6 i % 256 ∷ h.at7 i % 256 ∷ [])

none_over : (x : ℕ) → x < 2 ^ 64 → over 8 x ≡ 0
none_over x lt =
    let none : x / 72057594037927936 / 256 ≡ 0 = omega (arith, lt) in
    ap (λ (y : ℕ). y / 256) (sym (is_over x).at7) ∙ none

-- what is left of a word's bytes, each by its table
pub record AreLeft (k : ℕ) (w : List ℕ) (r0 r1 r2 r3 r4 r5 r6 r7 : ℕ) : Type 0 where
  pub is0 : r0 ≡ crc_bits (8 * (k + 7 + 1)) (get_or w 0 0)
  pub is1 : r1 ≡ crc_bits (8 * (k + 6 + 1)) (get_or w 1 0)
  pub is2 : r2 ≡ crc_bits (8 * (k + 5 + 1)) (get_or w 2 0)
  pub is3 : r3 ≡ crc_bits (8 * (k + 4 + 1)) (get_or w 3 0)
  pub is4 : r4 ≡ crc_bits (8 * (k + 3 + 1)) (get_or w 4 0)
  pub is5 : r5 ≡ crc_bits (8 * (k + 2 + 1)) (get_or w 5 0)
  pub is6 : r6 ≡ crc_bits (8 * (k + 1 + 1)) (get_or w 6 0)
  pub is7 : r7 ≡ crc_bits (8 * (k + 1)) (get_or w 7 0)

pub word_is : (k x : ℕ) (w : List ℕ) (r0 r1 r2 r3 r4 r5 r6 r7 : ℕ) → x < 2 ^ 64 → w ≡ to_le_bytes w64 x → AreLeft k w r0 r1 r2 r3 r4 r5 r6 r7 →
    bit_xor (bit_xor (bit_xor (bit_xor r0 r1) r2) r3) (bit_xor (bit_xor (bit_xor r4 r5) r6) r7) ≡ crc_bits (8 * (k + 8)) x
word_is k x w r0 r1 r2 r3 r4 r5 r6 r7 lt is h =
    let same : 8 * (k + 1) ≡ 8 * (k + 0 + 1) = omega arith in
    let e7 = h.is7 ∙ ap (λ (m : ℕ). crc_bits m (get_or w 7 0)) same in
    let left = λ (j : ℕ) (l : List ℕ). crc_bits (8 * (k + j + 1)) (get_or l (7 - j) 0) in
    sym (grouped r0 r1 r2 r3 r4 r5 r6 r7)
    ∙ (λ i. bit_xor (h.is0 i) (bit_xor (h.is1 i) (bit_xor (h.is2 i) (bit_xor (h.is3 i) (bit_xor (h.is4 i) (bit_xor (h.is5 i) (bit_xor (h.is6 i) (bit_xor (e7 i) 0))))))))
    ∙ ap (λ (l : List ℕ). bit_xor (left 7 l) (bit_xor (left 6 l) (bit_xor (left 5 l) (bit_xor (left 4 l) (bit_xor (left 3 l) (bit_xor (left 2 l) (bit_xor (left 1 l) (bit_xor (left 0 l) 0)))))))) (is ∙ same_digits x)
    ∙ slices_are k 8 x (none_over x lt)

-- ---- bytes as a word

abbrev pub number : List ℕ → ℕ
number [] = 0
number (b ∷ bs) = b + 256 * number bs

abbrev pub are_bytes : List ℕ → Type 0
are_bytes [] = true ≡ true
are_bytes (b ∷ bs) = (b < 256) × are_bytes bs

number_first : (b v : ℕ) → b < 256 → b + 256 * v ≡ bit_xor b (v * 256)
number_first b v lt =
    let x = b + 256 * v in
    let low : x % 256 ≡ b = omega (arith, lt) in
    let high : x / 256 * 256 ≡ v * 256 = omega (arith, lt) in
    sym (low_and_high x) ∙ (λ i. bit_xor (low i) (high i))

pub from_number : (c : ℕ) (bs : List ℕ) → are_bytes bs → crc_from c bs ≡ crc_bits (8 * length bs) (bit_xor c (number bs))
from_number c [] fit = sym (xor_zero_r c)
from_number c (b ∷ bs) fit =
    let size : 8 + 8 * length bs ≡ 8 * length (b ∷ bs) = omega arith in
    let whole : crc_bits 8 (bit_xor c (number (b ∷ bs))) ≡ bit_xor (crc_bits 8 (bit_xor c b)) (number bs) =
    ap (λ (y : ℕ). crc_bits 8 (bit_xor c y)) (number_first b (number bs) fit.0)
    ∙ ap (crc_bits 8) (sym (xor_assoc c b (number bs * 256)))
    ∙ bits_linear 8 (bit_xor c b) (number bs * 256)
    ∙ ap (bit_xor (crc_bits 8 (bit_xor c b))) (byte_of_high (number bs)) in
    from_number (crc_bits 8 (bit_xor c b)) bs fit.1
    ∙ ap (crc_bits (8 * length bs)) (sym whole)
    ∙ bits_more (8 * length bs) 8 (bit_xor c (number (b ∷ bs)))
    ∙ ap (λ (m : ℕ). crc_bits m (bit_xor c (number (b ∷ bs)))) size

from_joined : (c : ℕ) (bs later : List ℕ) → crc_from c (bs ++ later) ≡ crc_from (crc_from c bs) later
from_joined c [] later = refl
from_joined c (b ∷ bs) later = from_joined (crc_bits 8 (bit_xor c b)) bs later

-- a number behind other bytes, and more behind it
pub from_parts : (c kind : ℕ) (id at bytes : List ℕ) → crc_from (crc_from (crc_from (crc_from c id) (kind ∷ [])) at) bytes ≡ crc_from c ((id ++ kind ∷ at) ++ bytes)
from_parts c kind id at bytes = sym (from_joined c (id ++ kind ∷ at) bytes ∙ ap (λ (x : ℕ). crc_from x bytes) (from_joined c id (kind ∷ at)))

number_word : (a b c d e f g h : ℕ) → from_le_bytes w64 (a ∷ b ∷ c ∷ d ∷ e ∷ f ∷ g ∷ h ∷ []) ≡ number (a ∷ b ∷ c ∷ d ∷ e ∷ f ∷ g ∷ h ∷ [])
number_word a b c d e f g h = omega arith

listed : ℕ → (ℕ → ℕ) → List ℕ
listed zero at = []
listed (suc n) at = at 0 ∷ listed n (λ i. at (suc i))

listed_is : (n : ℕ) (bs : List ℕ) → length bs ≡ n → bs ≡ listed n (λ i. get_or bs i 0)
unfolding listed
listed_is zero [] len = refl
listed_is zero (b ∷ bs) len = absurd (omega (arith, len))
listed_is (suc n) [] len = absurd (omega (arith, len))
listed_is (suc n) (b ∷ bs) len = ap (λ (l : List ℕ). b ∷ l) (listed_is n bs (omega (arith, len)))

abbrev pub first_word : List ℕ → List ℕ
first_word bs = get_or bs 0 0 ∷ get_or bs 1 0 ∷ get_or bs 2 0 ∷ get_or bs 3 0 ∷ get_or bs 4 0 ∷ get_or bs 5 0 ∷ get_or bs 6 0 ∷ get_or bs 7 0 ∷ []

abbrev pub second_word : List ℕ → List ℕ
second_word bs = get_or bs 8 0 ∷ get_or bs 9 0 ∷ get_or bs 10 0 ∷ get_or bs 11 0 ∷ get_or bs 12 0 ∷ get_or bs 13 0 ∷ get_or bs 14 0 ∷ get_or bs 15 0 ∷ []

two_words : (bs : List ℕ) → length bs ≡ 16 → bs ≡ first_word bs ++ second_word bs
unfolding listed
two_words bs len = listed_is 16 bs len

-- the word's 64 bits, taken at once, do what the bytes do one by one
abbrev pub IsWord : List ℕ → ℕ → Type 0
IsWord bytes word = (start : ℕ) → crc_from start bytes ≡ crc_bits 64 (bit_xor start word)

-- the words of sixteen bytes, and what is left of each
pub record AreWords (c : ℕ) (bs : List ℕ) (w u v r s : ℕ) : Type 0 where
  pub start : w ≡ c
  pub first : IsWord (first_word bs) u
  pub second : IsWord (second_word bs) v
  pub left : r ≡ crc_bits (8 * (8 + 8)) (bit_xor w u)
  pub later : s ≡ crc_bits (8 * (0 + 8)) v

pub sixteen_are : (c : ℕ) (bs : List ℕ) (w u v r s : ℕ) → length bs ≡ 16 → AreWords c bs w u v r s → bit_xor r s ≡ crc_from c bs
sixteen_are c bs w u v r s len h =
    let a = first_word bs in
    let b = second_word bs in
    let by_first : crc_bits 64 (crc_from c a) ≡ crc_bits (64 + 64) (bit_xor c u) = ap (crc_bits 64) (h.first c) ∙ bits_more 64 64 (bit_xor c u) in
    let whole : crc_from c bs ≡ bit_xor (crc_bits (64 + 64) (bit_xor c u)) (crc_bits 64 v) =
    ap (crc_from c) (two_words bs len) ∙ from_joined c a b ∙ h.second (crc_from c a) ∙ bits_linear 64 (crc_from c a) v
    ∙ ap (λ (y : ℕ). bit_xor y (crc_bits 64 v)) by_first in
    (λ i. bit_xor (h.left i) (h.later i)) ∙ ap (λ (y : ℕ). bit_xor (crc_bits (8 * (8 + 8)) (bit_xor y u)) (crc_bits (8 * (0 + 8)) v)) h.start ∙ sym whole

pub word_is_bytes : (a b c d e f g h : ℕ) → are_bytes (a ∷ b ∷ c ∷ d ∷ e ∷ f ∷ g ∷ h ∷ []) → (w : ℕ) → w ≡ from_le_bytes w64 (a ∷ b ∷ c ∷ d ∷ e ∷ f ∷ g ∷ h ∷ []) →
    IsWord (a ∷ b ∷ c ∷ d ∷ e ∷ f ∷ g ∷ h ∷ []) w
word_is_bytes a b c d e f g h fit w is start =
    from_number start (a ∷ b ∷ c ∷ d ∷ e ∷ f ∷ g ∷ h ∷ []) fit
    ∙ ap (λ (y : ℕ). crc_bits 64 (bit_xor start y)) (sym (is ∙ number_word a b c d e f g h))

-- ---- tables

-- each number is what the one in its place comes to after eight bits
abbrev next_row : List ℕ → List ℕ → Bool
next_row [] [] = true
next_row [] (u ∷ us) = false
next_row (t ∷ ts) [] = false
next_row (t ∷ ts) (u ∷ us) = eqb u (crc_bits 8 t) && next_row ts us

abbrev pub rows_follow : List ℕ → List (List ℕ) → Bool
rows_follow row [] = true
rows_follow row (next ∷ rows) = next_row row next && rows_follow next rows

abbrev pub counted : ℕ → ℕ → List ℕ
counted zero b = []
counted (suc n) b = b ∷ counted n (b + 1)

record IsRow (bits size : ℕ) (row : List ℕ) : Type 0 where
  pub len : length row ≡ size
  pub is : (b : ℕ) → b < size → get_or row b 0 ≡ crc_bits bits b

next_is : (ts us : List ℕ) → next_row ts us ≡ true → (length us ≡ length ts) × ((b : ℕ) → b < length ts → get_or us b 0 ≡ crc_bits 8 (get_or ts b 0))
next_is [] [] h = (refl, λ b lt. absurd (omega arith))
next_is [] (u ∷ us) h = absurd cc
next_is (t ∷ ts) [] h = absurd cc
next_is (t ∷ ts) (u ∷ us) h =
    let parts = and_parts (eqb u (crc_bits 8 t)) (next_row ts us) h in
    let later = next_is ts us parts.1 in
    (ap suc later.0, at later.1 (eqb-true u (crc_bits 8 t) parts.0))
  where
    at : ((b : ℕ) → b < length ts → get_or us b 0 ≡ crc_bits 8 (get_or ts b 0)) → u ≡ crc_bits 8 t → (b : ℕ) → b < suc (length ts) → get_or (u ∷ us) b 0 ≡ crc_bits 8 (get_or (t ∷ ts) b 0)
    at later first zero lt = first
    at later first (suc b) lt = later b (omega arith)

counted_is : (n from : ℕ) → (length (counted n from) ≡ n) × ((b : ℕ) → b < n → get_or (counted n from) b 0 ≡ from + b)
counted_is zero from = (refl, λ b lt. absurd (omega arith))
counted_is (suc n) from =
    let later = counted_is n (from + 1) in
    (ap suc later.0, at later.1)
  where
    at : ((b : ℕ) → b < n → get_or (counted n (from + 1)) b 0 ≡ from + 1 + b) → (b : ℕ) → b < suc n → get_or (from ∷ counted n (from + 1)) b 0 ≡ from + b
    at later zero lt = omega arith
    at later (suc b) lt = later b (omega arith) ∙ omega arith

next_IsRow : (bits size : ℕ) (row next : List ℕ) → IsRow bits size row → next_row row next ≡ true → IsRow (bits + 8) size next
next_IsRow bits size row next r h =
    let n = next_is row next h in
    record { len = n.0 ∙ r.len; is = λ b lt. n.1 b (omega (arith, r.len)) ∙ ap (crc_bits 8) (r.is b lt) ∙ bits_more 8 bits b }

rows_are : (bits size : ℕ) (row : List ℕ) (rows : List (List ℕ)) → IsRow bits size row → rows_follow row rows ≡ true → (k : ℕ) → k < length rows → IsRow (bits + 8 * (k + 1)) size (get_or rows k [])
rows_are bits size row [] r h k lt = absurd (omega arith)
rows_are bits size row (next ∷ rows) r h zero lt = next_IsRow bits size row next r (and_parts (next_row row next) (rows_follow next rows) h).0
rows_are bits size row (next ∷ rows) r h (suc k) lt =
    let parts = and_parts (next_row row next) (rows_follow next rows) h in
    let same : bits + 8 + 8 * (k + 1) ≡ bits + 8 * (suc k + 1) = omega arith in
    rw (← same) (rows_are (bits + 8) size next rows (next_IsRow bits size row next r parts.0) parts.1 k (omega arith))

pub table_is : (rows : List (List ℕ)) → rows_follow (counted 256 0) rows ≡ true → (k b : ℕ) → k < length rows → b < 256 → get_or (get_or rows k []) b 0 ≡ crc_bits (8 * (k + 1)) b
table_is rows h k b lt in_row =
    let c = counted_is 256 0 in
    let first : IsRow 0 256 (counted 256 0) = record { len = c.0; is = λ x below. c.1 x below ∙ omega arith } in
    let same : 0 + 8 * (k + 1) ≡ 8 * (k + 1) = omega arith in
    let row = rows_are 0 256 (counted 256 0) rows first h k lt in
    row.is b in_row ∙ ap (λ (n : ℕ). crc_bits n b) same
