-- The digits of a table's id, and that a path has those of one.
use Rattle.std.proofs.Common.{◌≡◌, ℕ, zero, suc, ◌+◌, ◌*◌, ◌/◌, ◌%◌, ◌^◌, ◌<◌, ◌≤◌, Bool, true, false, cond, ◌&&◌, ◌==◌, List, [], ◌∷◌, ◌++◌, length, take, drop, slice_index, slice_set, refl, sym, ap, ◌∙◌, arith}
use Rattle.std.proofs.lemmas.List.{append_assoc, append-nil, drop_all, drop_more, take_all, take_more_set, length-set}
use Rattle.std.specs.Prelude.{codes, ltb}
use Rattle.std.specs.Int.{w128, byte_at, bytes_high_first, to_be_bytes}
use Rattle.std.proofs.Math.Arith.{mod-mul}
use Rattle.std.proofs.Math.Nat.{div-div-eq-div-mul, pow-succ'}
use Rattle.std.specs.Str.{IsAscii, IsUtf8}
use Rattle.std.proofs.lemmas.Bool.{and_parts, eqb-true, ltb-true}
use Rattle.std.proofs.lemmas.Str.{IsUtf8-append, IsUtf8-from_ascii}
use Rattle.std.proofs.lemmas.Str.Ascii.{IsAscii-nil, IsAscii-cons}
use Rattle.slate_block.proofs.Pieces.{same_head, same_tail, same_ends}
use Rattle.slate_table.specs.Paths.{hex_digit, hex, path_of}

-- each byte as two digits, the high four bits first
unfoldable pub two_digits : List ℕ → List ℕ
two_digits [] = []
two_digits (b ∷ rest) = hex_digit (b / 16) ∷ hex_digit (b % 16) ∷ two_digits rest

-- two writes in a row, seen from the front
two_writes : (xs : List ℕ) (o x y : ℕ) → o + 1 < length xs → take (o + 2) (slice_set (slice_set xs o x) (o + 1) y) ≡ take o xs ++ (x ∷ y ∷ [])
two_writes xs o x y fits =
    let len : length (slice_set xs o x) ≡ length xs = length-set xs o x in
    let two : o + 2 ≡ o + 1 + 1 = omega arith in
    let second = take_more_set (slice_set xs o x) (o + 1) y (omega (arith, len)) in
    let first = take_more_set xs o x (omega arith) in
    rw (two, second, first) (append_assoc (take o xs) (x ∷ []) (y ∷ []))

-- the digits of what is left, from one byte on
digits_left : (bytes : List ℕ) (i : ℕ) → i < length bytes →
    two_digits (drop i bytes) ≡ hex_digit (slice_index bytes i / 16) ∷ hex_digit (slice_index bytes i % 16) ∷ two_digits (drop (i + 1) bytes)
unfolding two_digits
digits_left bytes i h = rw (drop_more bytes i 0 h) refl

-- one byte more is written
pub digits_step : (bytes digits : List ℕ) (i x y : ℕ) → i < length bytes → 2 * i + 1 < length digits →
    x ≡ hex_digit (slice_index bytes i / 16) → y ≡ hex_digit (slice_index bytes i % 16) → take (2 * i) digits ++ two_digits (drop i bytes) ≡ two_digits bytes →
    take (2 * (i + 1)) (slice_set (slice_set digits (2 * i) x) (2 * i + 1) y) ++ two_digits (drop (i + 1) bytes) ≡ two_digits bytes
digits_step bytes digits i x y h fits high low inv =
    let two : 2 * (i + 1) ≡ 2 * i + 2 = omega arith in
    let front = two_writes digits (2 * i) x y fits in
    let rest = digits_left bytes i h in
    rw (two, front, append_assoc, high, low) (rw rest at inv)

-- every byte is written
pub digits_done : (bytes digits : List ℕ) (i : ℕ) → length bytes ≤ i → length digits ≡ 2 * length bytes →
    take (2 * i) digits ++ two_digits (drop i bytes) ≡ two_digits bytes → digits ≡ two_digits bytes
unfolding two_digits
digits_done bytes digits i h len inv =
    let d = drop_all i bytes h in
    let a = take_all (2 * i) digits (omega arith) in
    rw (d, a, append-nil) at inv

abbrev twice : ℕ → ℕ
twice zero = zero
twice (suc k) = suc (suc (twice k))

power : (k : ℕ) → 16 ^ twice k ≡ 256 ^ k
power zero = refl
power (suc k) =
    let sixteen = pow-succ' 16 (suc (twice k)) ∙ ap (λ (p : ℕ). 16 * p) (pow-succ' 16 (twice k)) in
    omega (arith, power k, sixteen, pow-succ' 256 k)

byte_is : (k n : ℕ) → byte_at k n ≡ n / 256 ^ k % 256
byte_is zero n = omega arith
byte_is (suc k) n = refl

digits : (k n : ℕ) → two_digits (bytes_high_first k n) ≡ hex (twice k) n
unfolding two_digits
digits zero n = refl
digits (suc k) n =
    let b = byte_at k n in
    let q = n / 256 ^ k in
    let is : b ≡ q % 256 = byte_is k n in
    let lower : q ≡ n / 16 ^ twice k = ap (λ (p : ℕ). n / p) (sym (power k)) in
    let step : 256 ^ k * 16 ≡ 16 ^ suc (twice k) = omega (arith, power k, pow-succ' 16 (twice k)) in
    let upper : q / 16 ≡ n / 16 ^ suc (twice k) = div-div-eq-div-mul n (256 ^ k) 16 ∙ ap (λ (p : ℕ). n / p) step in
    let high : b / 16 ≡ n / 16 ^ suc (twice k) % 16 = omega (arith, is, upper) in
    let low : b % 16 ≡ n / 16 ^ twice k % 16 = omega (arith, is, lower) in
    let first = ap hex_digit high in
    let second = ap hex_digit low in
    λ i. first i ∷ second i ∷ digits k n i

pub digits_of_id : (n : ℕ) → two_digits (to_be_bytes w128 n) ≡ hex 32 n
digits_of_id n = digits 16 n

-- the digits of an id are text
digit_small : (d : ℕ) → d < 16 → hex_digit d < 128
digit_small d lt = by (ltb d 10) refl
  where
    by : (t : Bool) → ltb d 10 ≡ t → cond t (48 + d) (87 + d) < 128
    by true e = omega (arith, lt)
    by false e = omega (arith, lt)

ascii_digits : (k n : ℕ) → IsAscii (hex k n)
ascii_digits zero n = IsAscii-nil
ascii_digits (suc k) n = IsAscii-cons (hex_digit (n / 16 ^ k % 16)) (hex k n) (digit_small (n / 16 ^ k % 16) (omega arith)) (ascii_digits k n)

pub digits_are_text : (k n : ℕ) → IsUtf8 (hex k n)
digits_are_text k n = IsUtf8-from_ascii (hex k n) (ascii_digits k n)

-- ---- one path, one id

same_digit : (m n : ℕ) → hex_digit m ≡ hex_digit n → m ≡ n
same_digit m n h = by (ltb m 10) refl (ltb n 10) refl h
  where
    by : (t : Bool) → ltb m 10 ≡ t → (u : Bool) → ltb n 10 ≡ u → cond t (48 + m) (87 + m) ≡ cond u (48 + n) (87 + n) → m ≡ n
    by true e true f same = omega (arith, same)
    by true e false f same = let below = ltb-true m 10 e in absurd (omega (arith, same, below))
    by false e true f same = let below = ltb-true n 10 f in absurd (omega (arith, same, below))
    by false e false f same = omega (arith, same)

power_some : (k : ℕ) → zero < 16 ^ k
power_some zero = omega arith
power_some (suc k) = omega (arith, pow-succ' 16 k, power_some k)

same_number : (k m n : ℕ) → hex k m ≡ hex k n → m % 16 ^ k ≡ n % 16 ^ k
same_number zero m n h = omega arith
same_number (suc k) m n h =
    let p = 16 ^ k in
    let first : m / p % 16 ≡ n / p % 16 = same_digit (m / p % 16) (n / p % 16) (same_head (hex_digit (m / p % 16)) (hex_digit (n / p % 16)) (hex k m) (hex k n) h) in
    let rest : m % p ≡ n % p = same_number k m n (same_tail (hex_digit (m / p % 16)) (hex_digit (n / p % 16)) (hex k m) (hex k n) h) in
    let split : (x : ℕ) → x % 16 ^ suc k ≡ x / p % 16 * p + x % p = λ x. ap (λ (q : ℕ). x % q) (pow-succ' 16 k) ∙ mod-mul x (omega arith) (power_some k) in
    split m ∙ (λ i. first i * p + rest i) ∙ sym (split n)

digits_count : (k n : ℕ) → length (hex k n) ≡ k
digits_count zero n = refl
digits_count (suc k) n = let rest = digits_count k n in omega (arith, rest)

pub one_id : (root other : List ℕ) (id another : ℕ) → id < 2 ^ 128 → another < 2 ^ 128 → path_of root id ≡ path_of other another → id ≡ another
one_id root other id another below small h =
    let front = root ++ codes "/compacted/" in
    let start = other ++ codes "/compacted/" in
    let named = same_ends (front ++ hex 32 id) (start ++ hex 32 another) (codes ".sst") (codes ".sst") refl h in
    let ends = same_ends front start (hex 32 id) (hex 32 another) (digits_count 32 id ∙ sym (digits_count 32 another)) named.0 in
    let same = same_number 32 id another ends.1 in
    omega (arith, same, below, small)

-- ---- a path in its room

-- four pieces, one behind the other
pub path_spelled : (root : List ℕ) (id : ℕ) (folder digits name first second third fourth : List ℕ) →
    first ≡ root → second ≡ first ++ folder → third ≡ second ++ digits → fourth ≡ third ++ name →
    folder ≡ codes "/compacted/" → digits ≡ hex 32 id → name ≡ codes ".sst" → fourth ≡ path_of root id
path_spelled root id folder digits name first second third fourth e f g h is_folder are_digits is_name =
    let two = f ∙ ap (λ (xs : List ℕ). xs ++ folder) e in
    let three = g ∙ ap (λ (xs : List ℕ). xs ++ digits) two in
    h ∙ ap (λ (xs : List ℕ). xs ++ name) three ∙ (λ i. root ++ is_folder i ++ are_digits i ++ is_name i)

pub path_is_text : (root : List ℕ) (id : ℕ) → IsUtf8 root → IsUtf8 (codes "/compacted/") → IsUtf8 (codes ".sst") → IsUtf8 (path_of root id)
path_is_text root id front folder name =
    IsUtf8-append (root ++ codes "/compacted/" ++ hex 32 id) (codes ".sst") (IsUtf8-append (root ++ codes "/compacted/") (hex 32 id) (IsUtf8-append root (codes "/compacted/") front folder) (digits_are_text 32 id)) name

-- ---- a table of digits

abbrev pub are_pairs : ℕ → List ℕ → Bool
are_pairs b [] = true
are_pairs b (x ∷ []) = false
are_pairs b (x ∷ y ∷ rest) = (x == hex_digit (b / 16)) && ((y == hex_digit (b % 16)) && are_pairs (suc b) rest)

pair_is : (t : List ℕ) (b k : ℕ) → are_pairs b t ≡ true → 2 * k + 1 < length t → (slice_index t (2 * k) ≡ hex_digit ((b + k) / 16)) × (slice_index t (2 * k + 1) ≡ hex_digit ((b + k) % 16))
pair_is [] b k h lt = absurd (omega arith)
pair_is (x ∷ []) b k h lt = absurd cc
pair_is (x ∷ y ∷ rest) b zero h lt =
    let first = and_parts (x == hex_digit (b / 16)) ((y == hex_digit (b % 16)) && are_pairs (suc b) rest) h in
    let second = and_parts (y == hex_digit (b % 16)) (are_pairs (suc b) rest) first.1 in
    let same : b ≡ b + 0 = omega arith in
    (eqb-true x (hex_digit (b / 16)) first.0 ∙ ap (λ (n : ℕ). hex_digit (n / 16)) same, eqb-true y (hex_digit (b % 16)) second.0 ∙ ap (λ (n : ℕ). hex_digit (n % 16)) same)
pair_is (x ∷ y ∷ rest) b (suc k) h lt =
    let first = and_parts (x == hex_digit (b / 16)) ((y == hex_digit (b % 16)) && are_pairs (suc b) rest) h in
    let second = and_parts (y == hex_digit (b % 16)) (are_pairs (suc b) rest) first.1 in
    let later = pair_is rest (suc b) k second.1 (omega (arith, lt)) in
    let even : 2 * suc k ≡ suc (suc (2 * k)) = omega arith in
    let odd : 2 * suc k + 1 ≡ suc (suc (2 * k + 1)) = omega arith in
    let same : suc b + k ≡ b + suc k = omega arith in
    (ap (slice_index (x ∷ y ∷ rest)) even ∙ later.0 ∙ ap (λ (n : ℕ). hex_digit (n / 16)) same, ap (slice_index (x ∷ y ∷ rest)) odd ∙ later.1 ∙ ap (λ (n : ℕ). hex_digit (n % 16)) same)

pub pair_of : (t : List ℕ) (byte : ℕ) → are_pairs 0 t ≡ true → 2 * byte + 1 < length t → (slice_index t (2 * byte) ≡ hex_digit (byte / 16)) × (slice_index t (2 * byte + 1) ≡ hex_digit (byte % 16))
pair_of t byte h lt =
    let pair = pair_is t 0 byte h lt in
    let same : 0 + byte ≡ byte = omega arith in
    (pair.0 ∙ ap (λ (n : ℕ). hex_digit (n / 16)) same, pair.1 ∙ ap (λ (n : ℕ). hex_digit (n % 16)) same)
