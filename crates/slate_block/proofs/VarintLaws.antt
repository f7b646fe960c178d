-- The laws of varints.
use Rattle.std.proofs.Common.{◌≡◌, ℕ, zero, suc, ◌+◌, ◌*◌, ◌/◌, ◌%◌, ◌^◌, ◌<◌, ◌≤◌, Bool, true, false, cond, ltb, List, [], ◌∷◌, ◌++◌, refl, sym, subst, ◌∙◌, arith}
use Rattle.std.proofs.lemmas.Bool.{ltb-true}
use Rattle.std.proofs.lemmas.Bool.Decides.{nat_tests}
use Rattle.slate_block.specs.Varint.{SpellsVarint, IsVarint, varint, varint_within}
use Rattle.slate_block.proofs.Pieces.{same_head, same_tail}

-- no spelling begins another
pub spells_alone : (a b x y : List ℕ) (m n : ℕ) → SpellsVarint a m → SpellsVarint b n → a ++ x ≡ b ++ y → (m ≡ n) × (a ≡ b) × (x ≡ y)
spells_alone [] b x y m n s t h = absurd s
spells_alone (p ∷ a) [] x y m n s t h = absurd t
spells_alone (p ∷ []) (q ∷ []) x y m n s t h =
    let first : p ≡ q = same_head p q x y h in
    (s.1 ∙ first ∙ sym t.1, (λ i. first i ∷ []), same_tail p q x y h)
spells_alone (p ∷ []) (q ∷ d ∷ b) x y m n s t h =
    let first : p ≡ q = same_head p q x (d ∷ b ++ y) h in
    absurd (omega (arith, first, s.0, t.0))
spells_alone (p ∷ c ∷ a) (q ∷ []) x y m n s t h =
    let first : p ≡ q = same_head p q (c ∷ a ++ x) y h in
    absurd (omega (arith, first, t.0, s.0))
spells_alone (p ∷ c ∷ a) (q ∷ d ∷ b) x y m n s t h =
    let first : p ≡ q = same_head p q (c ∷ a ++ x) (d ∷ b ++ y) h in
    let rest = spells_alone (c ∷ a) (d ∷ b) x y s.2 t.2 s.5 t.5 (same_tail p q (c ∷ a ++ x) (d ∷ b ++ y) h) in
    let high : s.2 ≡ t.2 = rest.0 in
    (omega (arith, first, high, s.4, t.4), (λ i. first i ∷ rest.1 i), rest.2)

pub varints_alone : (a b x y : List ℕ) (m n : ℕ) → IsVarint a m → IsVarint b n → a ++ x ≡ b ++ y → (m ≡ n) × (a ≡ b) × (x ≡ y)
varints_alone a b x y m n s t h = spells_alone a b x y m n s.1 t.1 h

-- ---- the computed spelling

pub spells_group : (b : ℕ) (rest : List ℕ) (high n : ℕ) → 128 ≤ b → b < 256 → 0 < high → n + 128 ≡ b + 128 * high → SpellsVarint rest high → SpellsVarint (b ∷ rest) n
spells_group b [] high n p q r e s = absurd s
spells_group b (c ∷ cs) high n p q r e s = (p, q, high, r, e, s)

-- past what k + 1 groups of bits spell
past : ℕ → ℕ
past zero = 128
past (suc k) = 128 * past k

spells_within : (k n : ℕ) → n < past k → SpellsVarint (varint_within (suc k) n) n
unfolding past
spells_within zero n p = by (ltb n 128) refl
  where
    by : (t : Bool) → ltb n 128 ≡ t → SpellsVarint (cond t (n ∷ []) ((128 + n % 128) ∷ [])) n
    by true e = (ltb-true n 128 e, refl)
    by false e = absurd (grind (arith, nat_tests))
spells_within (suc k) n p = by (ltb n 128) refl (spells_within k (n / 128) (omega (arith, p)))
  where
    by : (t : Bool) → ltb n 128 ≡ t → SpellsVarint (varint_within (suc k) (n / 128)) (n / 128) →
        SpellsVarint (cond t (n ∷ []) ((128 + n % 128) ∷ varint_within (suc k) (n / 128))) n
    by true e rest = (ltb-true n 128 e, refl)
    by false e rest =
        let far : 128 ≤ n = grind (arith, nat_tests) in
        spells_group (128 + n % 128) (varint_within (suc k) (n / 128)) (n / 128) n (omega arith) (omega arith) (omega arith) (omega arith) rest

pub varint_spells : (n : ℕ) → n < 2 ^ 32 → IsVarint (varint n) n
unfolding past varint
varint_spells n p = (p, spells_within 4 n (omega (arith, p)))

-- ---- and no other

spells_once : (a b : List ℕ) (n : ℕ) → SpellsVarint a n → SpellsVarint b n → a ≡ b
spells_once [] b n s t = absurd s
spells_once (p ∷ a) [] n s t = absurd t
spells_once (p ∷ []) (q ∷ []) n s t = let first : p ≡ q = sym s.1 ∙ t.1 in λ i. first i ∷ []
spells_once (p ∷ []) (q ∷ d ∷ b) n s t = absurd (omega (arith, s.0, s.1, t.0, t.3, t.4))
spells_once (p ∷ c ∷ a) (q ∷ []) n s t = absurd (omega (arith, t.0, t.1, s.0, s.3, s.4))
spells_once (p ∷ c ∷ a) (q ∷ d ∷ b) n s t =
    let first : p ≡ q = omega (arith, s.0, s.1, t.0, t.1, s.4, t.4) in
    let high : t.2 ≡ s.2 = omega (arith, s.0, s.1, t.0, t.1, s.4, t.4) in
    let rest = spells_once (c ∷ a) (d ∷ b) s.2 s.5 (subst (λ x. SpellsVarint (d ∷ b) x) high t.5) in
    λ i. first i ∷ rest i

pub one_varint : (bytes : List ℕ) (n : ℕ) → IsVarint bytes n → bytes ≡ varint n
one_varint bytes n s = spells_once bytes (varint n) n s.1 (varint_spells n s.0).1

pub same_varint : (m n : ℕ) (x y : List ℕ) → m < 2 ^ 32 → n < 2 ^ 32 → varint m ++ x ≡ varint n ++ y → (m ≡ n) × (x ≡ y)
same_varint m n x y p q h =
    let both = varints_alone (varint m) (varint n) x y m n (varint_spells m p) (varint_spells n q) h in
    (both.0, both.2)
