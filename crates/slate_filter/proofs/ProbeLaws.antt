-- Probes one after the other, and bits in bytes.
use Rattle.std.proofs.Common.{◌≡◌, ℕ, suc, ◌+◌, ◌-◌, ◌*◌, ◌/◌, ◌%◌, ◌^◌, ◌<◌, ◌≤◌, ◌≢◌, Bool, true, false, cond, ◌&&◌, ◌||◌, ltb, eqb, List, [], ◌∷◌, ◌++◌, length, get_or, set, append_assoc, refl, sym, ap, ◌∙◌, arith}
use Rattle.std.specs.List.{list_all, list_any}
use Rattle.std.specs.Prelude.{bit_or}
use Rattle.std.specs.Int.{w8, bit_at}
use Rattle.std.proofs.lemmas.Bool.Decides.{nat_tests}
use Rattle.std.proofs.lemmas.Nat.Bits.{bit_at_set_same, bit_at_set_other}
use Rattle.slate_filter.specs.Hash.{filter_hash}
use Rattle.slate_filter.specs.Bloom.{is_set, is_held, probes, probes_from}
use Rattle.std.proofs.Math.Bool.{or_assoc, or-false}

-- ---- a probe more

more : (count i bits h d h' d' : ℕ) → i < count → d' ≡ (d + i) % bits → h' ≡ (h + d') % bits → probes_from (count - i) i bits h d ≡ h ∷ probes_from (count - (i + 1)) (i + 1) bits h' d'
more count i bits h d h' d' p e f = by (count - i) (count - (i + 1)) (omega (arith, p))
  where
    next : (k : ℕ) → probes_from k (i + 1) bits ((h + (d + i) % bits) % bits) ((d + i) % bits) ≡ probes_from k (i + 1) bits h' d'
    next k = rw (f, e) refl

    by : (n m : ℕ) → n ≡ suc m → probes_from n i bits h d ≡ h ∷ probes_from m (i + 1) bits h' d'
    by n m q = ap (λ (k : ℕ). probes_from k i bits h d) q ∙ ap (λ (l : List ℕ). h ∷ l) (next m)

none : (count i bits h d : ℕ) → count ≤ i → probes_from (count - i) i bits h d ≡ []
none count i bits h d p = let e : count - i ≡ 0 = omega (arith, p) in ap (λ (k : ℕ). probes_from k i bits h d) e

-- ---- tests

pub all_stop : (test : ℕ → Bool) (count i bits h d : ℕ) (all : Bool) → i < count → list_all test (probes_from (count - i) i bits h d) ≡ all → test h ≡ false → false ≡ all
all_stop test count i bits h d all p inv e =
    let here = more count i bits h d _ _ p refl refl in
    let fails = ap (λ (t : Bool). t && list_all test (probes_from (count - (i + 1)) (i + 1) bits ((h + (d + i) % bits) % bits) ((d + i) % bits))) e in
    sym fails ∙ sym (ap (λ (l : List ℕ). list_all test l) here) ∙ inv

pub all_more : (test : ℕ → Bool) (count i bits h d h' d' : ℕ) (all : Bool) → i < count → list_all test (probes_from (count - i) i bits h d) ≡ all → test h ≡ true →
    d' ≡ (d + i) % bits → h' ≡ (h + d') % bits → list_all test (probes_from (count - (i + 1)) (i + 1) bits h' d') ≡ all
all_more test count i bits h d h' d' all p inv e f g =
    let here = more count i bits h d h' d' p f g in
    let passes = ap (λ (t : Bool). t && list_all test (probes_from (count - (i + 1)) (i + 1) bits h' d')) e in
    sym passes ∙ sym (ap (λ (l : List ℕ). list_all test l) here) ∙ inv

pub all_done : (test : ℕ → Bool) (count i bits h d : ℕ) (all : Bool) → count ≤ i → list_all test (probes_from (count - i) i bits h d) ≡ all → true ≡ all
all_done test count i bits h d all p inv = sym (ap (λ (l : List ℕ). list_all test l) (none count i bits h d p)) ∙ inv

pub held_some : (count : ℕ) (bits s : List ℕ) → 0 < length bits → is_held count bits s ≡ list_all (λ b. is_set bits b) (probes (filter_hash s) count (8 * length bits))
held_some count [] s p = absurd (omega (arith, p))
held_some count (x ∷ xs) s p = refl

-- of a hash that was made of the string
pub held_of : (count : ℕ) (bits s : List ℕ) (hash : ℕ) → 0 < length bits → hash ≡ filter_hash s → list_all (λ b. is_set bits b) (probes hash count (8 * length bits)) ≡ is_held count bits s
held_of count bits s hash p e = ap (λ (h : ℕ). list_all (λ b. is_set bits b) (probes h count (8 * length bits))) e ∙ sym (held_some count bits s p)

pub any_more : (was is : Bool) (b count i bits h d h' d' : ℕ) (all : Bool) → i < count → (was || list_any (λ p. eqb p b) (probes_from (count - i) i bits h d)) ≡ all → is ≡ (was || eqb h b) →
    d' ≡ (d + i) % bits → h' ≡ (h + d') % bits → (is || list_any (λ p. eqb p b) (probes_from (count - (i + 1)) (i + 1) bits h' d')) ≡ all
any_more was is b count i bits h d h' d' all p inv e f g =
    let here = more count i bits h d h' d' p f g in
    let rest : Bool = list_any (λ p. eqb p b) (probes_from (count - (i + 1)) (i + 1) bits h' d') in
    ap (λ (t : Bool). t || rest) e ∙ or_assoc was (eqb h b) rest ∙ sym (ap (λ (l : List ℕ). was || list_any (λ p. eqb p b) l) here) ∙ inv

pub any_done : (was : Bool) (b count i bits h d : ℕ) (all : Bool) → count ≤ i → (was || list_any (λ p. eqb p b) (probes_from (count - i) i bits h d)) ≡ all → was ≡ all
any_done was b count i bits h d all p inv = sym (ap (λ (l : List ℕ). was || list_any (λ p. eqb p b) l) (none count i bits h d p) ∙ or-false was) ∙ inv

pub list_more : (found : List ℕ) (count i bits h d h' d' : ℕ) (all : List ℕ) → i < count → found ++ probes_from (count - i) i bits h d ≡ all →
    d' ≡ (d + i) % bits → h' ≡ (h + d') % bits → (found ++ h ∷ []) ++ probes_from (count - (i + 1)) (i + 1) bits h' d' ≡ all
list_more found count i bits h d h' d' all p inv f g = let here = more count i bits h d h' d' p f g in
    append_assoc found (h ∷ []) (probes_from (count - (i + 1)) (i + 1) bits h' d') ∙ sym (ap (λ (l : List ℕ). found ++ l) here) ∙ inv

-- ---- bits

pub set_at : (xs : List ℕ) (b : ℕ) → b < 8 * length xs → eqb (bit_at (get_or xs (b / 8) 0) (b % 8)) 1 ≡ is_set xs b
set_at [] b p = absurd (omega (arith, p))
set_at (x ∷ xs) b p = by (ltb b 8) refl (λ (far : 8 ≤ b). set_at xs (b - 8) (omega (arith, p, far)))
  where
    by : (t : Bool) → ltb b 8 ≡ t → (8 ≤ b → eqb (bit_at (get_or xs ((b - 8) / 8) 0) ((b - 8) % 8)) 1 ≡ is_set xs (b - 8)) →
        eqb (bit_at (get_or (x ∷ xs) (b / 8) 0) (b % 8)) 1 ≡ cond t (eqb (bit_at x b) 1) (is_set xs (b - 8))
    by true e rest =
        let near : b < 8 = grind (arith, nat_tests) in
        let first : b / 8 ≡ 0 = omega (arith, near) in
        let low : b % 8 ≡ b = omega (arith, near) in
        rw (first, low) refl
    by false e rest =
        let far : 8 ≤ b = grind (arith, nat_tests) in
        let later : b / 8 ≡ suc ((b - 8) / 8) = omega (arith, far) in
        let low : b % 8 ≡ (b - 8) % 8 = omega (arith, far) in
        rw (later, low) (rest far)

or_one : (x bit b : ℕ) → bit < 8 → b < 8 → eqb (bit_at (bit_or x (1 * 2 ^ bit % 256)) b) 1 ≡ (eqb (bit_at x b) 1 || eqb bit b)
or_one x bit b p q = by (eqb bit b) refl
  where
    all : (a : Bool) → (a || true) ≡ true
    all true = refl
    all false = refl

    by : (t : Bool) → eqb bit b ≡ t → eqb (bit_at (bit_or x (1 * 2 ^ bit % 256)) b) 1 ≡ (eqb (bit_at x b) 1 || t)
    by true e =
        let same : bit ≡ b = grind (arith, nat_tests) in
        let set = bit_at_set_same w8 x b q in
        rw (same, set) (sym (all (eqb (bit_at x b) 1)))
    by false e =
        let other : b ≢ bit = grind (arith, nat_tests) in
        let kept = bit_at_set_other w8 x bit p b other in
        ap (λ (n : ℕ). eqb n 1) kept ∙ sym (or-false (eqb (bit_at x b) 1))

pub set_one : (xs : List ℕ) (bit b : ℕ) → bit < 8 * length xs → is_set (set xs (bit / 8) (bit_or (get_or xs (bit / 8) 0) (1 * 2 ^ (bit % 8) % 256))) b ≡ (is_set xs b || eqb bit b)
set_one [] bit b p = absurd (omega (arith, p))
set_one (x ∷ xs) bit b p = by (ltb bit 8) (ltb b 8) refl refl (λ (far : 8 ≤ bit). set_one xs (bit - 8) (b - 8) (omega (arith, p, far)))
  where
    by : (s t : Bool) → ltb bit 8 ≡ s → ltb b 8 ≡ t →
        (8 ≤ bit → is_set (set xs ((bit - 8) / 8) (bit_or (get_or xs ((bit - 8) / 8) 0) (1 * 2 ^ ((bit - 8) % 8) % 256))) (b - 8) ≡ (is_set xs (b - 8) || eqb (bit - 8) (b - 8))) →
        is_set (set (x ∷ xs) (bit / 8) (bit_or (get_or (x ∷ xs) (bit / 8) 0) (1 * 2 ^ (bit % 8) % 256))) b ≡ (cond t (eqb (bit_at x b) 1) (is_set xs (b - 8)) || eqb bit b)
    by true true e f rest =
        let near : bit < 8 = grind (arith, nat_tests) in
        let here : b < 8 = grind (arith, nat_tests) in
        let first : bit / 8 ≡ 0 = omega (arith, near) in
        let low : bit % 8 ≡ bit = omega (arith, near) in
        rw (first, low, f) (or_one x bit b near here)
    by true false e f rest =
        let near : bit < 8 = grind (arith, nat_tests) in
        let there : 8 ≤ b = grind (arith, nat_tests) in
        let first : bit / 8 ≡ 0 = omega (arith, near) in
        let apart : eqb bit b ≡ false = grind (arith, nat_tests) in
        rw (first, f, apart) (sym (or-false (is_set xs (b - 8))))
    by false true e f rest =
        let far : 8 ≤ bit = grind (arith, nat_tests) in
        let here : b < 8 = grind (arith, nat_tests) in
        let later : bit / 8 ≡ suc ((bit - 8) / 8) = omega (arith, far) in
        let apart : eqb bit b ≡ false = grind (arith, nat_tests) in
        rw (later, f, apart) (sym (or-false (eqb (bit_at x b) 1)))
    by false false e f rest =
        let far : 8 ≤ bit = grind (arith, nat_tests) in
        let there : 8 ≤ b = grind (arith, nat_tests) in
        let later : bit / 8 ≡ suc ((bit - 8) / 8) = omega (arith, far) in
        let low : bit % 8 ≡ (bit - 8) % 8 = omega (arith, far) in
        let same : eqb bit b ≡ eqb (bit - 8) (b - 8) = grind (arith, nat_tests) in
        rw (later, low, f, same) (rest far)
