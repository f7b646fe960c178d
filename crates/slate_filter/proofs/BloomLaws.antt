-- A Bloom filter denies no query that one of its rows matches.
use Rattle.std.proofs.Common.{◌≡◌, ℕ, zero, suc, ◌+◌, ◌-◌, ◌*◌, ◌/◌, ◌%◌, ◌<◌, ◌≤◌, ◌^◌, ◌⊎◌, Bool, true, false, cond, ◌&&◌, ◌||◌, ltb, eqb, List, [], ◌∷◌, ◌++◌, length, get_or, map, flat_map, Option, Some, None, inl, inr, refl, sym, subst, ap, ◌∙◌, arith}
use Rattle.std.specs.Prelude.{bytes_eq, Contains, IfSome}
use Rattle.std.specs.List.{list_all, list_any}
use Rattle.std.specs.Int.{bit_at, w16, to_be_bytes}
use Rattle.std.proofs.lemmas.Bool.Decides.{nat_tests}
use Rattle.std.proofs.lemmas.List.{take-append-le}
use Rattle.std.proofs.Math.Nat.{mul-pos, mod-lt}
use Rattle.std.proofs.lemmas.Slice.Eq.{bytes_eq-Decides}
use Rattle.slate_types.specs.declared.types.RowEntry.{RowEntry}
use Rattle.slate_types.specs.declared.filter_policy.FilterQuery.{FilterQuery}
use Rattle.slate_types.specs.declared.filter_policy.PrefixTarget.{PrefixTarget}
use Rattle.slate_types.specs.declared.filter_policy.PrefixTarget.TheVariants.{Point, Prefix}
use Rattle.slate_types.specs.Lawful.{Lengths, IsWithinTarget, IsLawfulLengths}
use Rattle.slate_filter.specs.Hash.{filter_hash}
use Rattle.slate_filter.specs.Bloom.{Bloom, prefix_of, if_other, new_prefix, last_prefix, hashed, bit_value, byte_of_bits, bits_from, is_set, probes, probes_from, probe_count, all_probes, front, bit_bytes, bit_bytes_len, bloom_bytes, bloom_build, bloom_parts, answer_of_parts, bloom_answers, bloom_holds, is_held, held_or_open}
use Rattle.slate_filter.specs.Policy.{IsOf, IsLawfulPolicy}

-- ---- elements

unfoldable pub Has : {X : Type 0} → List X → X → Type 0
Has [] x = ⊥
Has (y ∷ ys) x = (y ≡ x) ⊎ Has ys x

has_left : {X : Type 0} (xs ys : List X) (x : X) → Has xs x → Has (xs ++ ys) x
unfolding Has
has_left [] ys x h = absurd h
has_left (y ∷ xs) ys x (inl e) = inl e
has_left (y ∷ xs) ys x (inr h) = inr (has_left xs ys x h)

has_right : {X : Type 0} (xs ys : List X) (x : X) → Has ys x → Has (xs ++ ys) x
unfolding Has
has_right [] ys x h = h
has_right (y ∷ xs) ys x h = inr (has_right xs ys x h)

has_each : {X : Type 0} (f : X → List ℕ) (xs : List X) (x : X) (b : ℕ) → Has xs x → Has (f x) b → Has (flat_map f xs) b
unfolding Has
has_each f [] x b h k = absurd h
has_each f (y ∷ xs) x b (inl e) k = has_left (f y) (flat_map f xs) b (subst (λ z. Has (f z) b) (sym e) k)
has_each f (y ∷ xs) x b (inr h) k = has_right (f y) (flat_map f xs) b (has_each f xs x b h k)

has_at : {X : Type 0} (xs : List X) (k : ℕ) (x : X) → k < length xs → get_or xs k x ≡ x → Has xs x
unfolding Has
has_at [] k x p e = absurd (omega (arith, p))
has_at (y ∷ xs) zero x p e = inl e
has_at (y ∷ xs) (suc k) x p e = inr (has_at xs k x (omega (arith, p)) e)

pub has_contained : {X : Type 0} (xs : List X) (x : X) → Contains xs x → Has xs x
has_contained xs x c = has_at xs c.0 x c.1 c.2

has_mapped : {X Y : Type 0} (f : X → Y) (xs : List X) (x : X) → Has xs x → Has (map f xs) (f x)
unfolding Has
has_mapped f [] x h = absurd h
has_mapped f (y ∷ xs) x (inl e) = inl (ap f e)
has_mapped f (y ∷ xs) x (inr h) = inr (has_mapped f xs x h)

-- ---- what is hashed

has_whole : (bloom : Bloom) (last : Option (List ℕ)) (ks : List (List ℕ)) (k : List ℕ) → bloom.whole ≡ true → Has ks k → Has (hashed bloom last ks) k
unfolding Has
has_whole bloom last [] k w h = absurd h
has_whole bloom last (j ∷ ks) k w (inl e) =
    let front = new_prefix last (prefix_of bloom.lengths (Point j)) in
    has_left (front ++ (cond bloom.whole (j ∷ []) [])) (hashed bloom (last_prefix last (prefix_of bloom.lengths (Point j))) ks) k
    (has_right front (cond bloom.whole (j ∷ []) []) k (subst (λ t. Has (cond t (j ∷ []) []) k) (sym w) (inl e)))
has_whole bloom last (j ∷ ks) k w (inr h) =
    has_right (new_prefix last (prefix_of bloom.lengths (Point j)) ++ (cond bloom.whole (j ∷ []) [])) (hashed bloom (last_prefix last (prefix_of bloom.lengths (Point j))) ks) k
    (has_whole bloom (last_prefix last (prefix_of bloom.lengths (Point j))) ks k w h)

has_other : (p : List ℕ) (last : Option (List ℕ)) → Has (if_other p last) p ⊎ (last ≡ Some p)
unfolding Has
has_other p None = inl (inl refl)
has_other p (Some q) = by (bytes_eq q p) refl
  where
    by : (t : Bool) → bytes_eq q p ≡ t → Has (cond t [] (p ∷ [])) p ⊎ (Some q ≡ Some p)
    by true e = let same : q ≡ p = (bytes_eq-Decides q p).0 e in inr (λ i. Some (same i))
    by false e = inl (inl refl)

has_new : (last o : Option (List ℕ)) (p : List ℕ) → o ≡ Some p → Has (new_prefix last o) p ⊎ (last ≡ Some p)
has_new last o p e = subst (λ x. Has (new_prefix last x) p ⊎ (last ≡ Some p)) (sym e) (has_other p last)

last_or_here : (last o : Option (List ℕ)) (p : List ℕ) → last_prefix last o ≡ Some p → (last ≡ Some p) ⊎ (o ≡ Some p)
last_or_here last None p e = inl e
last_or_here last (Some r) p e = inr e

-- a prefix is hashed, or it is the one that was hashed last
has_prefix : (bloom : Bloom) (last : Option (List ℕ)) (ks : List (List ℕ)) (k p : List ℕ) → prefix_of bloom.lengths (Point k) ≡ Some p → Has ks k → Has (hashed bloom last ks) p ⊎ (last ≡ Some p)
unfolding Has
has_prefix bloom last [] k p e h = absurd h
has_prefix bloom last (j ∷ ks) k p e (inl same) = widen (has_new last (prefix_of bloom.lengths (Point j)) p (ap (λ x. prefix_of bloom.lengths (Point x)) same ∙ e))
  where
    widen : Has (new_prefix last (prefix_of bloom.lengths (Point j))) p ⊎ (last ≡ Some p) → Has (hashed bloom last (j ∷ ks)) p ⊎ (last ≡ Some p)
    widen (inl h) = inl (has_left (new_prefix last (prefix_of bloom.lengths (Point j)) ++ (cond bloom.whole (j ∷ []) [])) (hashed bloom (last_prefix last (prefix_of bloom.lengths (Point j))) ks) p
        (has_left (new_prefix last (prefix_of bloom.lengths (Point j))) (cond bloom.whole (j ∷ []) []) p h))
    widen (inr e) = inr e
has_prefix bloom last (j ∷ ks) k p e (inr h) = later (has_prefix bloom (last_prefix last (prefix_of bloom.lengths (Point j))) ks k p e h)
  where
    widen : Has (new_prefix last (prefix_of bloom.lengths (Point j))) p ⊎ (last ≡ Some p) → Has (hashed bloom last (j ∷ ks)) p ⊎ (last ≡ Some p)
    widen (inl h) = inl (has_left (new_prefix last (prefix_of bloom.lengths (Point j)) ++ (cond bloom.whole (j ∷ []) [])) (hashed bloom (last_prefix last (prefix_of bloom.lengths (Point j))) ks) p
        (has_left (new_prefix last (prefix_of bloom.lengths (Point j))) (cond bloom.whole (j ∷ []) []) p h))
    widen (inr e) = inr e

    known : (last ≡ Some p) ⊎ (prefix_of bloom.lengths (Point j) ≡ Some p) → Has (hashed bloom last (j ∷ ks)) p ⊎ (last ≡ Some p)
    known (inl e) = inr e
    known (inr e) = widen (has_new last (prefix_of bloom.lengths (Point j)) p e)

    later : Has (hashed bloom (last_prefix last (prefix_of bloom.lengths (Point j))) ks) p ⊎ (last_prefix last (prefix_of bloom.lengths (Point j)) ≡ Some p) → Has (hashed bloom last (j ∷ ks)) p ⊎ (last ≡ Some p)
    later (inl h) = inl (has_right (new_prefix last (prefix_of bloom.lengths (Point j)) ++ (cond bloom.whole (j ∷ []) [])) (hashed bloom (last_prefix last (prefix_of bloom.lengths (Point j))) ks) p h)
    later (inr e) = known (last_or_here last (prefix_of bloom.lengths (Point j)) p e)

-- ---- bits

or_true : (a : Bool) → (a || true) ≡ true
or_true true = refl
or_true false = refl

any_has : (at : ℕ) (ps : List ℕ) → Has ps at → list_any (λ p. eqb p at) ps ≡ true
unfolding Has
any_has at [] h = absurd h
any_has at (p ∷ ps) (inl e) = let same : eqb p at ≡ true = grind (arith, nat_tests) in ap (λ t. t || list_any (λ p. eqb p at) ps) same
any_has at (p ∷ ps) (inr h) = ap (λ t. eqb p at || t) (any_has at ps h) ∙ or_true (eqb p at)

record IsBit (v : ℕ) (power : ℕ) : Type 0 where
  pub times : ℕ
  pub once : times ≤ 1
  pub is : v ≡ times * power

value_bit : (ps : List ℕ) (at j : ℕ) → IsBit (bit_value ps at j) (2 ^ j)
value_bit ps at j = by (list_any (λ p. eqb p (at + j)) ps)
  where
    by : (t : Bool) → IsBit (cond t (2 ^ j) 0) (2 ^ j)
    by true = record { times = 1; once = omega arith; is = omega arith }
    by false = record { times = 0; once = omega arith; is = omega arith }

value_set : (ps : List ℕ) (at j : ℕ) → Has ps (at + j) → bit_value ps at j ≡ 2 ^ j
value_set ps at j h = ap (λ t. cond t (2 ^ j) 0) (any_has (at + j) ps h)

bit_0 : (ps : List ℕ) (at : ℕ) → Has ps (at + 0) → bit_at (byte_of_bits ps at) 0 ≡ 1
bit_0 ps at h =
    let v = value_set ps at 0 h in
    let b1 = value_bit ps at 1 in
    let b2 = value_bit ps at 2 in
    let b3 = value_bit ps at 3 in
    let b4 = value_bit ps at 4 in
    let b5 = value_bit ps at 5 in
    let b6 = value_bit ps at 6 in
    let b7 = value_bit ps at 7 in
    omega (arith, v, b1.once, b1.is, b2.once, b2.is, b3.once, b3.is, b4.once, b4.is, b5.once, b5.is, b6.once, b6.is, b7.once, b7.is)

bit_1 : (ps : List ℕ) (at : ℕ) → Has ps (at + 1) → bit_at (byte_of_bits ps at) 1 ≡ 1
bit_1 ps at h =
    let v = value_set ps at 1 h in
    let b0 = value_bit ps at 0 in
    let b2 = value_bit ps at 2 in
    let b3 = value_bit ps at 3 in
    let b4 = value_bit ps at 4 in
    let b5 = value_bit ps at 5 in
    let b6 = value_bit ps at 6 in
    let b7 = value_bit ps at 7 in
    omega (arith, v, b0.once, b0.is, b2.once, b2.is, b3.once, b3.is, b4.once, b4.is, b5.once, b5.is, b6.once, b6.is, b7.once, b7.is)

bit_2 : (ps : List ℕ) (at : ℕ) → Has ps (at + 2) → bit_at (byte_of_bits ps at) 2 ≡ 1
bit_2 ps at h =
    let v = value_set ps at 2 h in
    let b0 = value_bit ps at 0 in
    let b1 = value_bit ps at 1 in
    let b3 = value_bit ps at 3 in
    let b4 = value_bit ps at 4 in
    let b5 = value_bit ps at 5 in
    let b6 = value_bit ps at 6 in
    let b7 = value_bit ps at 7 in
    omega (arith, v, b0.once, b0.is, b1.once, b1.is, b3.once, b3.is, b4.once, b4.is, b5.once, b5.is, b6.once, b6.is, b7.once, b7.is)

bit_3 : (ps : List ℕ) (at : ℕ) → Has ps (at + 3) → bit_at (byte_of_bits ps at) 3 ≡ 1
bit_3 ps at h =
    let v = value_set ps at 3 h in
    let b0 = value_bit ps at 0 in
    let b1 = value_bit ps at 1 in
    let b2 = value_bit ps at 2 in
    let b4 = value_bit ps at 4 in
    let b5 = value_bit ps at 5 in
    let b6 = value_bit ps at 6 in
    let b7 = value_bit ps at 7 in
    omega (arith, v, b0.once, b0.is, b1.once, b1.is, b2.once, b2.is, b4.once, b4.is, b5.once, b5.is, b6.once, b6.is, b7.once, b7.is)

bit_4 : (ps : List ℕ) (at : ℕ) → Has ps (at + 4) → bit_at (byte_of_bits ps at) 4 ≡ 1
bit_4 ps at h =
    let v = value_set ps at 4 h in
    let b0 = value_bit ps at 0 in
    let b1 = value_bit ps at 1 in
    let b2 = value_bit ps at 2 in
    let b3 = value_bit ps at 3 in
    let b5 = value_bit ps at 5 in
    let b6 = value_bit ps at 6 in
    let b7 = value_bit ps at 7 in
    omega (arith, v, b0.once, b0.is, b1.once, b1.is, b2.once, b2.is, b3.once, b3.is, b5.once, b5.is, b6.once, b6.is, b7.once, b7.is)

bit_5 : (ps : List ℕ) (at : ℕ) → Has ps (at + 5) → bit_at (byte_of_bits ps at) 5 ≡ 1
bit_5 ps at h =
    let v = value_set ps at 5 h in
    let b0 = value_bit ps at 0 in
    let b1 = value_bit ps at 1 in
    let b2 = value_bit ps at 2 in
    let b3 = value_bit ps at 3 in
    let b4 = value_bit ps at 4 in
    let b6 = value_bit ps at 6 in
    let b7 = value_bit ps at 7 in
    omega (arith, v, b0.once, b0.is, b1.once, b1.is, b2.once, b2.is, b3.once, b3.is, b4.once, b4.is, b6.once, b6.is, b7.once, b7.is)

bit_6 : (ps : List ℕ) (at : ℕ) → Has ps (at + 6) → bit_at (byte_of_bits ps at) 6 ≡ 1
bit_6 ps at h =
    let v = value_set ps at 6 h in
    let b0 = value_bit ps at 0 in
    let b1 = value_bit ps at 1 in
    let b2 = value_bit ps at 2 in
    let b3 = value_bit ps at 3 in
    let b4 = value_bit ps at 4 in
    let b5 = value_bit ps at 5 in
    let b7 = value_bit ps at 7 in
    omega (arith, v, b0.once, b0.is, b1.once, b1.is, b2.once, b2.is, b3.once, b3.is, b4.once, b4.is, b5.once, b5.is, b7.once, b7.is)

bit_7 : (ps : List ℕ) (at : ℕ) → Has ps (at + 7) → bit_at (byte_of_bits ps at) 7 ≡ 1
bit_7 ps at h =
    let v = value_set ps at 7 h in
    let b0 = value_bit ps at 0 in
    let b1 = value_bit ps at 1 in
    let b2 = value_bit ps at 2 in
    let b3 = value_bit ps at 3 in
    let b4 = value_bit ps at 4 in
    let b5 = value_bit ps at 5 in
    let b6 = value_bit ps at 6 in
    omega (arith, v, b0.once, b0.is, b1.once, b1.is, b2.once, b2.is, b3.once, b3.is, b4.once, b4.is, b5.once, b5.is, b6.once, b6.is)

bit_is_set : (ps : List ℕ) (at b : ℕ) → b < 8 → Has ps (at + b) → bit_at (byte_of_bits ps at) b ≡ 1
bit_is_set ps at zero p h = bit_0 ps at h
bit_is_set ps at (suc zero) p h = bit_1 ps at h
bit_is_set ps at (suc (suc zero)) p h = bit_2 ps at h
bit_is_set ps at (suc (suc (suc zero))) p h = bit_3 ps at h
bit_is_set ps at (suc (suc (suc (suc zero)))) p h = bit_4 ps at h
bit_is_set ps at (suc (suc (suc (suc (suc zero))))) p h = bit_5 ps at h
bit_is_set ps at (suc (suc (suc (suc (suc (suc zero)))))) p h = bit_6 ps at h
bit_is_set ps at (suc (suc (suc (suc (suc (suc (suc zero))))))) p h = bit_7 ps at h
bit_is_set ps at (suc (suc (suc (suc (suc (suc (suc (suc b)))))))) p h = absurd (omega (arith, p))

set_has : (n at : ℕ) (ps : List ℕ) (b : ℕ) → b < 8 * n → Has ps (at + b) → is_set (bits_from n at ps) b ≡ true
set_has zero at ps b p h = absurd (omega (arith, p))
set_has (suc n) at ps b p h = by (ltb b 8) refl (λ (far : 8 ≤ b). set_has n (at + 8) ps (b - 8) (omega (arith, p, far)) (subst (λ x. Has ps x) (later far) h))
  where
    later : 8 ≤ b → at + b ≡ at + 8 + (b - 8)
    later far = omega (arith, far)

    by : (t : Bool) → ltb b 8 ≡ t → (8 ≤ b → is_set (bits_from n (at + 8) ps) (b - 8) ≡ true) →
        cond t (eqb (bit_at (byte_of_bits ps at) b) 1) (is_set (bits_from n (at + 8) ps) (b - 8)) ≡ true
    by true e rest = let near : b < 8 = grind (arith, nat_tests) in ap (λ x. eqb x 1) (bit_is_set ps at b near h)
    by false e rest = let far : 8 ≤ b = grind (arith, nat_tests) in rest far

probes_below : (k i bits h d b : ℕ) → 0 < bits → h < bits → Has (probes_from k i bits h d) b → b < bits
unfolding Has
probes_below zero i bits h d b p q s = absurd s
probes_below (suc k) i bits h d b p q (inl e) = omega (arith, q, e)
probes_below (suc k) i bits h d b p q (inr s) = probes_below k (i + 1) bits ((h + (d + i) % bits) % bits) ((d + i) % bits) b p (mod-lt (h + (d + i) % bits) p) s

all_hold : (test : ℕ → Bool) (qs : List ℕ) → ((b : ℕ) → Has qs b → test b ≡ true) → list_all test qs ≡ true
unfolding Has
all_hold test [] f = refl
all_hold test (q ∷ qs) f =
    let first = f q (inl refl) in
    let rest = all_hold test qs (λ b h. f b (inr h)) in
    λ i. first i && rest i

bits_length : (n at : ℕ) (ps : List ℕ) → length (bits_from n at ps) ≡ n
bits_length zero at ps = refl
bits_length (suc n) at ps = let rest = bits_length n (at + 8) ps in omega (arith, rest)

-- a string that is hashed is held
held : (n count : ℕ) (strings : List (List ℕ)) (s : List ℕ) → 0 < n → Has strings s → is_held count (bits_from n 0 (all_probes strings count (8 * n))) s ≡ true
held zero count strings s p h = absurd (omega (arith, p))
held (suc m) count strings s p h =
    subst (λ l. list_all (λ b. is_set (bits_from (suc m) 0 ps) b) (probes (filter_hash s) count (8 * l)) ≡ true) (sym (bits_length (suc m) 0 ps))
    (all_hold (λ b. is_set (bits_from (suc m) 0 ps) b) (probes (filter_hash s) count (8 * suc m)) each)
  where
    ps : List ℕ
    ps = all_probes strings count (8 * suc m)

    each : (b : ℕ) → Has (probes (filter_hash s) count (8 * suc m)) b → is_set (bits_from (suc m) 0 (all_probes strings count (8 * suc m))) b ≡ true
    each b q =
        let some : 0 < 8 * suc m = omega arith in
        let below = probes_below count 0 (8 * suc m) (filter_hash s % 2 ^ 32 % (8 * suc m)) (filter_hash s / 2 ^ 32 % (8 * suc m)) b some (mod-lt (filter_hash s % 2 ^ 32) some) q in
        let place : b ≡ 0 + b = omega arith in
        set_has (suc m) 0 (all_probes strings count (8 * suc m)) b below (subst (λ x. Has (all_probes strings count (8 * suc m)) x) place (has_each (λ x. probes (filter_hash x) count (8 * suc m)) strings s b h q))

-- ---- answers

parts_of : (c : ℕ) (bits : List ℕ) → c ≤ 65535 → length bits ≤ 2 ^ 29 - 1 → bloom_parts (to_be_bytes w16 c ++ bits) ≡ Some (c, bits)
parts_of c bits p q =
    let within : ltb (2 ^ 29 - 1) (length bits) ≡ false = grind (arith, nat_tests) in
    let number : c / 256 % 256 * 256 + c % 256 ≡ c = omega (arith, p) in
    λ i. cond (within i) None (Some (number i, bits))

size_of : Bloom → List (List ℕ) → ℕ
size_of bloom strings = bit_bytes_len (length strings) bloom.bits_per_key

bits_of : Bloom → List (List ℕ) → List ℕ
bits_of bloom strings = bit_bytes (size_of bloom strings) (probe_count bloom.bits_per_key) strings

answer_is : (bloom : Bloom) (strings : List (List ℕ)) (target : PrefixTarget) → size_of bloom strings ≤ 2 ^ 29 - 1 →
    bloom_answers bloom (bloom_bytes bloom strings) target ≡ Some (bloom_holds bloom (probe_count bloom.bits_per_key) (bits_of bloom strings) target)
unfolding size_of bits_of
answer_is bloom strings target p =
    let size = bits_length (size_of bloom strings) 0 (all_probes strings (probe_count bloom.bits_per_key) (8 * size_of bloom strings)) in
    ap (answer_of_parts bloom target) (parts_of (probe_count bloom.bits_per_key) (bits_of bloom strings) (omega arith) (omega (arith, p, size)))

some_hashed : (strings : List (List ℕ)) (s : List ℕ) → Has strings s → 0 < length strings
unfolding Has
some_hashed [] s h = absurd h
some_hashed (x ∷ xs) s h = omega arith

held_in : (bloom : Bloom) (strings : List (List ℕ)) (s : List ℕ) → 1 ≤ bloom.bits_per_key → Has strings s → is_held (probe_count bloom.bits_per_key) (bits_of bloom strings) s ≡ true
unfolding size_of bits_of
held_in bloom strings s p h =
    let product = mul-pos {m = length strings} {n = bloom.bits_per_key} (some_hashed strings s h) p in
    held (size_of bloom strings) (probe_count bloom.bits_per_key) strings s (omega (arith, product)) h

held_or_not_asked : (count : ℕ) (bits : List ℕ) (o : Option (List ℕ)) → ((p : List ℕ) → o ≡ Some p → is_held count bits p ≡ true) → held_or_open count bits o ≡ true
held_or_not_asked count bits None f = refl
held_or_not_asked count bits (Some p) f = f p refl

-- ---- extractors

same_front : (f : Lengths) → IsWithinTarget f → IsLawfulLengths f → (p rest q : List ℕ) → front p (f (Prefix p)) ≡ Some q → front (p ++ rest) (f (Point (p ++ rest))) ≡ Some q
same_front f within lawful p rest q = by (f (Prefix p)) (within (Prefix p)) (lawful p rest)
  where
    by : (o : Option ℕ) → IfSome o (λ n. n ≤ length p) → IfSome o (λ n. f (Point (p ++ rest)) ≡ Some n) → front p o ≡ Some q → front (p ++ rest) (f (Point (p ++ rest))) ≡ Some q
    by None w l e = cc
    by (Some n) w l e = ap (front (p ++ rest)) l ∙ ap Some (take-append-le n p rest w) ∙ e

same_prefix : (lengths : Option Lengths) → IfSome lengths IsWithinTarget → IfSome lengths IsLawfulLengths → (p rest q : List ℕ) → prefix_of lengths (Prefix p) ≡ Some q → prefix_of lengths (Point (p ++ rest)) ≡ Some q
same_prefix None within lawful p rest q e = e
same_prefix (Some f) within lawful p rest q e = same_front f within lawful p rest q e

-- ---- the policy

prefix_held : (bloom : Bloom) (keys : List (List ℕ)) (k p : List ℕ) → 1 ≤ bloom.bits_per_key → Has keys k → prefix_of bloom.lengths (Point k) ≡ Some p →
    is_held (probe_count bloom.bits_per_key) (bits_of bloom (hashed bloom None keys)) p ≡ true
prefix_held bloom keys k p some h e = by (has_prefix bloom None keys k p e h)
  where
    by : Has (hashed bloom None keys) p ⊎ (None ≡ Some p) → is_held (probe_count bloom.bits_per_key) (bits_of bloom (hashed bloom None keys)) p ≡ true
    by (inl s) = held_in bloom (hashed bloom None keys) p some s
    by (inr n) = cc

holds : (bloom : Bloom) (keys : List (List ℕ)) (k : List ℕ) (target : PrefixTarget) → 1 ≤ bloom.bits_per_key → IfSome bloom.lengths IsWithinTarget → IfSome bloom.lengths IsLawfulLengths →
    Has keys k → IsOf target k → bloom_holds bloom (probe_count bloom.bits_per_key) (bits_of bloom (hashed bloom None keys)) target ≡ true
holds bloom keys k (Point j) some within lawful h e = by bloom.whole refl
  where
    count : ℕ
    count = probe_count bloom.bits_per_key

    bits : List ℕ
    bits = bits_of bloom (hashed bloom None keys)

    by : (t : Bool) → bloom.whole ≡ t → cond t (is_held count bits j) (held_or_open count bits (prefix_of bloom.lengths (Point j))) ≡ true
    by true w = held_in bloom (hashed bloom None keys) j some (has_whole bloom None keys j w (subst (λ x. Has keys x) e h))
    by false w = held_or_not_asked count bits (prefix_of bloom.lengths (Point j)) (λ p q. prefix_held bloom keys j p some (subst (λ x. Has keys x) e h) q)
holds bloom keys k (Prefix p) some within lawful h e =
    held_or_not_asked (probe_count bloom.bits_per_key) (bits_of bloom (hashed bloom None keys)) (prefix_of bloom.lengths (Prefix p))
    (λ q s. prefix_held bloom keys (p ++ e.0) q some (subst (λ x. Has keys x) e.1 h) (same_prefix bloom.lengths within lawful p e.0 q s))

pub bloom_lawful : (bloom : Bloom) → 1 ≤ bloom.bits_per_key → IfSome bloom.lengths IsWithinTarget → IfSome bloom.lengths IsLawfulLengths →
    IsLawfulPolicy (λ rows. bloom_build bloom (map (λ r. r.key) rows)) (λ filter query. bloom_answers bloom filter query.target)
unfolding size_of
bloom_lawful bloom some within lawful = record { keeps = keeps; reads = reads }
  where
    strings : List RowEntry → List (List ℕ)
    strings rows = hashed bloom None (map (λ r. r.key) rows)

    keeps : (rows : List RowEntry) (row : RowEntry) (query : FilterQuery) → Contains rows row → IsOf query.target row.key →
        IfSome (bloom_build bloom (map (λ r. r.key) rows)) (λ bytes. bloom_answers bloom bytes query.target ≡ Some true)
    keeps rows row query c m = by (ltb (2 ^ 29 - 1) (size_of bloom (strings rows))) refl
      where
        by : (t : Bool) → ltb (2 ^ 29 - 1) (size_of bloom (strings rows)) ≡ t → IfSome (cond t None (Some (bloom_bytes bloom (strings rows)))) (λ bytes. bloom_answers bloom bytes query.target ≡ Some true)
        by true e = tt
        by false e = let short : size_of bloom (strings rows) ≤ 2 ^ 29 - 1 = grind (arith, nat_tests) in
            answer_is bloom (strings rows) query.target short
            ∙ ap Some (holds bloom (map (λ r. r.key) rows) row.key query.target some within lawful (has_mapped (λ (r : RowEntry). r.key) rows row (has_contained rows row c)) m)

    reads : (rows : List RowEntry) (query : FilterQuery) → IfSome (bloom_build bloom (map (λ r. r.key) rows)) (λ bytes. (b : Bool) × (bloom_answers bloom bytes query.target ≡ Some b))
    reads rows query = by (ltb (2 ^ 29 - 1) (size_of bloom (strings rows))) refl
      where
        by : (t : Bool) → ltb (2 ^ 29 - 1) (size_of bloom (strings rows)) ≡ t → IfSome (cond t None (Some (bloom_bytes bloom (strings rows)))) (λ bytes. (b : Bool) × (bloom_answers bloom bytes query.target ≡ Some b))
        by true e = tt
        by false e = let short : size_of bloom (strings rows) ≤ 2 ^ 29 - 1 = grind (arith, nat_tests) in (_, answer_is bloom (strings rows) query.target short)
