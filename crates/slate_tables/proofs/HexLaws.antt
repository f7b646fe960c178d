-- The digits of a table's id, read one by one, and the path that they stand in.
use Rattle.std.proofs.Common.{◌≡◌, ℕ, zero, suc, ◌+◌, ◌-◌, ◌*◌, ◌/◌, ◌%◌, ◌^◌, ◌<◌, ◌≤◌, Bool, true, false, cond, ltb, List, [], ◌∷◌, ◌++◌, length, take, get_or, refl, sym, ap, ◌∙◌, arith}
use Rattle.std.specs.Prelude.{codes}
use Rattle.std.proofs.lemmas.Bool.{ltb-false, ltb-true}
use Rattle.std.proofs.lemmas.List.{append_assoc, append_cancel_left, append_cancel_right, take_all, take_more}
use Rattle.std.proofs.lemmas.Nat.{div-mul-add}
use Rattle.std.proofs.Math.Nat.{div-div-eq-div-mul, pow-succ', pow-le-pow_right}
use Rattle.slate_table.specs.Paths.{hex, hex_digit, path_of}

shifted : (k n v : ℕ) → v < 16 → (n * 16 + v) / 16 ^ suc k ≡ n / 16 ^ k
shifted k n v h =
    ap (λ (m : ℕ). (n * 16 + v) / m) (pow-succ' 16 k) ∙ sym (div-div-eq-div-mul (n * 16 + v) 16 (16 ^ k)) ∙ ap (λ (m : ℕ). m / 16 ^ k) (div-mul-add n 16 v h)

-- one digit more
hex_more : (k n v : ℕ) → v < 16 → hex (suc k) (n * 16 + v) ≡ hex k n ++ (hex_digit v ∷ [])
hex_more zero n v h = let low : (n * 16 + v) / 16 ^ zero % 16 ≡ v = omega arith in ap (λ (d : ℕ). hex_digit d ∷ []) low
hex_more (suc k) n v h =
    let high = ap (λ (m : ℕ). hex_digit (m % 16)) (shifted k n v h) in
    λ i. high i ∷ hex_more k n v h i

pub record SoFar (digits : List ℕ) (i number : ℕ) : Type 0 where
  pub spelled : take i digits ≡ hex i number
  pub below : number < 16 ^ i

pub sofar_none : (digits : List ℕ) → SoFar digits 0 0
sofar_none digits = record { spelled = refl; below = omega arith }

pub sofar_more : (digits : List ℕ) (i number v : ℕ) → i < length digits → get_or digits i 0 ≡ hex_digit v → v < 16 → SoFar digits i number → SoFar digits (i + 1) (number * 16 + v)
sofar_more digits i number v within spells small s =
    let next : i + 1 ≡ suc i = omega arith in
    record {
      spelled = take_more digits i 0 within ∙ (λ j. s.spelled j ++ (spells j ∷ [])) ∙ sym (hex_more i number v small) ∙ ap (λ (k : ℕ). hex k (number * 16 + v)) (sym next);
      below = (let grown : 16 ^ suc i ≡ 16 * 16 ^ i = pow-succ' 16 i in let same = ap (λ (k : ℕ). 16 ^ k) next in omega (arith, s.below, grown, same));
    }

-- it fits its type
pub sofar_fits : (digits : List ℕ) (i number v : ℕ) → i < 32 → v < 16 → SoFar digits i number → number * 16 + v < 2 ^ 128
sofar_fits digits i number v few small s =
    let most : 16 ^ i ≤ 16 ^ 31 = pow-le-pow_right {n = 16} (omega arith) {i = i} {j = 31} (omega arith) in
    let top : 16 ^ 31 ≡ 2 ^ 124 = refl in
    omega (arith, most, top, s.below)

pub sofar_all : (digits : List ℕ) (i number : ℕ) → length digits ≡ 32 → i ≡ 32 → SoFar digits i number → digits ≡ hex 32 number
sofar_all digits i number len end s =
    sym (take_all i digits (omega arith)) ∙ s.spelled ∙ ap (λ (k : ℕ). hex k number) end

-- each digit is one
is_digit : (k n i d : ℕ) → i < k → (v : ℕ) × (v < 16) × (get_or (hex k n) i d ≡ hex_digit v)
is_digit zero n i d h = absurd (omega arith)
is_digit (suc k) n zero d h = (n / 16 ^ k % 16, omega arith, refl)
is_digit (suc k) n (suc i) d h = is_digit k n i d (omega arith)

hex_length : (k n : ℕ) → length (hex k n) ≡ k
hex_length zero n = refl
hex_length (suc k) n = let rest = hex_length k n in omega (arith, rest)

pub not_short : (digits : List ℕ) (n : ℕ) → digits ≡ hex 32 n → length digits ≡ 32
not_short digits n is = ap (λ (l : List ℕ). length l) is ∙ hex_length 32 n

pub a_digit : (digits : List ℕ) (n i : ℕ) → digits ≡ hex 32 n → i < length digits → (v : ℕ) × (v < 16) × (get_or digits i 0 ≡ hex_digit v)
a_digit digits n i is within =
    let few : i < 32 = (let len = not_short digits n is in omega arith) in
    let found = is_digit 32 n i 0 few in
    (found.0, found.1, ap (λ (l : List ℕ). get_or l i 0) is ∙ found.2)

-- ---- what a byte stands for

digit_of : (n : ℕ) → n < 16 → (t : Bool) → ltb n 10 ≡ t → (d : ℕ) → d ≡ cond t (48 + n) (87 + n) → (48 ≤ d → 57 < d) → (97 ≤ d → 102 < d) → ⊥
digit_of n small true is d same low high = omega (arith, same, low, high, ltb-true n 10 is)
digit_of n small false is d same low high = by (ltb-false n 10 is)
  where
    by : 10 ≤ n → ⊥
    by h = omega (arith, same, low, high, h)

pub no_digit : (n d : ℕ) → n < 16 → d ≡ hex_digit n → (48 ≤ d → 57 < d) → (97 ≤ d → 102 < d) → ⊥
no_digit n d small same low high = digit_of n small (ltb n 10) refl d same low high

pub low_digit : (d : ℕ) → 48 ≤ d → d ≤ 57 → d ≡ hex_digit (d - 48)
low_digit d low high = by (ltb (d - 48) 10) refl
  where
    by : (t : Bool) → ltb (d - 48) 10 ≡ t → d ≡ cond t (48 + (d - 48)) (87 + (d - 48))
    by true is = omega arith
    by false is = absurd (omega (arith, low, high, ltb-false (d - 48) 10 is))

pub high_digit : (d : ℕ) → 97 ≤ d → d ≤ 102 → d ≡ hex_digit (d - 97 + 10)
high_digit d low high = by (ltb (d - 97 + 10) 10) refl
  where
    by : (t : Bool) → ltb (d - 97 + 10) 10 ≡ t → d ≡ cond t (48 + (d - 97 + 10)) (87 + (d - 97 + 10))
    by true is = absurd (omega (arith, low, high, ltb-true (d - 97 + 10) 10 is))
    by false is = omega arith

-- ---- the path

path_split : (root : List ℕ) (id : ℕ) → path_of root id ≡ root ++ (codes "/compacted/" ++ (hex 32 id ++ codes ".sst"))
path_split root id = append_assoc (root ++ codes "/compacted/") (hex 32 id) (codes ".sst") ∙ append_assoc root (codes "/compacted/") (hex 32 id ++ codes ".sst")

pub found_path : (root path name rest digits : List ℕ) (id : ℕ) → path ≡ root ++ name → name ≡ codes "/compacted/" ++ rest → rest ≡ digits ++ codes ".sst" → digits ≡ hex 32 id → path ≡ path_of root id
found_path root path name rest digits id a b c d =
    a ∙ ap (λ (l : List ℕ). root ++ l) (b ∙ ap (λ (l : List ℕ). codes "/compacted/" ++ l) (c ∙ ap (λ (l : List ℕ). l ++ codes ".sst") d)) ∙ sym (path_split root id)

pub has_root : (root path : List ℕ) (id : ℕ) → path ≡ path_of root id → path ≡ root ++ (codes "/compacted/" ++ (hex 32 id ++ codes ".sst"))
has_root root path id is = is ∙ path_split root id

pub has_folder : (root path name : List ℕ) (id : ℕ) → path ≡ root ++ name → path ≡ path_of root id → name ≡ codes "/compacted/" ++ (hex 32 id ++ codes ".sst")
has_folder root path name id a is = append_cancel_left root name (codes "/compacted/" ++ (hex 32 id ++ codes ".sst")) (sym a ∙ has_root root path id is)

pub has_digits : (root path name rest : List ℕ) (id : ℕ) → path ≡ root ++ name → name ≡ codes "/compacted/" ++ rest → path ≡ path_of root id → rest ≡ hex 32 id ++ codes ".sst"
has_digits root path name rest id a b is = append_cancel_left (codes "/compacted/") rest (hex 32 id ++ codes ".sst") (sym b ∙ has_folder root path name id a is)

pub are_digits : (root path name rest digits : List ℕ) (id : ℕ) → path ≡ root ++ name → name ≡ codes "/compacted/" ++ rest → rest ≡ digits ++ codes ".sst" → path ≡ path_of root id → digits ≡ hex 32 id
are_digits root path name rest digits id a b c is = append_cancel_right digits (hex 32 id) (codes ".sst") (sym c ∙ has_digits root path name rest id a b is)
