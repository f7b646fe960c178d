-- The greatest sequence of some writes, each a sequence and its keys, at the keys that pass a test.
use Rattle.std.proofs.Common.{◌≡◌, ℕ, ◌<◌, ◌≤◌, ◌⊎◌, inl, inr, Bool, true, false, cond, ◌&&◌, ◌||◌, max, ltb, List, [], ◌∷◌, ◌++◌, bytes_eq, Option, Some, None, refl, sym, ap, subst, ◌∙◌, arith}
use Rattle.std.specs.List.{list_any, AllByRecursion}
use Rattle.std.proofs.lemmas.Bool.{cases_lt, or_right, and_parts}
use Rattle.std.proofs.lemmas.Bool.Decides.{nat_tests}
use Rattle.std.proofs.lemmas.Slice.Eq.{bytes_eq-Decides}
use Rattle.slate_txn.specs.Conflict.{with_greatest}

-- ---- options by what they hold

abbrev pub UpTo : Option ℕ → Option ℕ → Type 0
UpTo None o = Unit {0}
UpTo (Some n) None = ⊥
UpTo (Some n) (Some m) = n ≤ m

pub up_to_refl : (o : Option ℕ) → UpTo o o
up_to_refl None = tt
up_to_refl (Some n) = let h : n ≤ n = omega arith in h

pub up_to_trans : (a b c : Option ℕ) → UpTo a b → UpTo b c → UpTo a c
up_to_trans None b c h k = tt
up_to_trans (Some n) None c h k = absurd h
up_to_trans (Some n) (Some m) None h k = absurd k
up_to_trans (Some n) (Some m) (Some l) h k = nat n m l h k
  where
    nat : (n m l : ℕ) → n ≤ m → m ≤ l → n ≤ l
    nat n m l h k = omega arith

pub up_to_antisym : (a b : Option ℕ) → UpTo a b → UpTo b a → a ≡ b
up_to_antisym None None h k = refl
up_to_antisym None (Some m) h k = absurd k
up_to_antisym (Some n) None h k = absurd h
up_to_antisym (Some n) (Some m) h k = ap Some (nat n m h k)
  where
    nat : (n m : ℕ) → n ≤ m → m ≤ n → n ≡ m
    nat n m h k = omega arith

pub up_to_is : (a b : Option ℕ) → a ≡ b → UpTo a b
up_to_is a b e = subst (λ o. UpTo a o) e (up_to_refl a)

first : (n : ℕ) (o : Option ℕ) → UpTo (Some n) (with_greatest n o)
first n None = let h : n ≤ n = omega arith in h
first n (Some m) = let h : n ≤ max n m = omega arith in h

rest : (n : ℕ) (o : Option ℕ) → UpTo o (with_greatest n o)
rest n None = tt
rest n (Some m) = let h : m ≤ max n m = omega arith in h

either : (n m : ℕ) (o : Option ℕ) → UpTo (Some n) (with_greatest m o) → (n ≤ m) ⊎ UpTo (Some n) o
either n m None h = inl h
either n m (Some l) h = nat n m l h
  where
    nat : (n m l : ℕ) → n ≤ max m l → (n ≤ m) ⊎ (n ≤ l)
    nat n m l h = by (cases_lt m n) h
      where
        by : (m < n) ⊎ (n ≤ m) → n ≤ max m l → (n ≤ m) ⊎ (n ≤ l)
        by (inl g) h = inr (omega arith)
        by (inr g) h = inl g

-- ---- writes

abbrev pub Write : Type 0
Write = ℕ × List (List ℕ)

abbrev pub newest : (List ℕ → Bool) → ℕ → List Write → Option ℕ
newest p b [] = None
newest p b (w ∷ ws) = cond (ltb b w.0 && list_any p w.1) (with_greatest w.0 (newest p b ws)) (newest p b ws)

-- the test of one key
abbrev pub is : List ℕ → List ℕ → Bool
is k x = bytes_eq x k

hit : (p : List ℕ → Bool) (b : ℕ) (w : Write) (ws : List Write) → ltb b w.0 ≡ true → list_any p w.1 ≡ true → UpTo (Some w.0) (newest p b (w ∷ ws))
hit p b w ws s t = subst (λ o. UpTo (Some w.0) o) (sym (λ i. cond (s i && t i) (with_greatest w.0 (newest p b ws)) (newest p b ws))) (first w.0 (newest p b ws))

more : (p : List ℕ → Bool) (b : ℕ) (w : Write) (ws : List Write) → UpTo (newest p b ws) (newest p b (w ∷ ws))
more p b w ws = by (ltb b w.0 && list_any p w.1)
  where
    by : (t : Bool) → UpTo (newest p b ws) (cond t (with_greatest w.0 (newest p b ws)) (newest p b ws))
    by true = rest w.0 (newest p b ws)
    by false = up_to_refl (newest p b ws)

any_of : (p : List ℕ → Bool) (k : List ℕ) → p k ≡ true → (ks : List (List ℕ)) → list_any (is k) ks ≡ true → list_any p ks ≡ true
any_of p k h [] e = cc
any_of p k h (x ∷ xs) e = by (bytes_eq x k) refl e (any_of p k h xs)
  where
    by : (t : Bool) → bytes_eq x k ≡ t → (t || list_any (is k) xs) ≡ true → (list_any (is k) xs ≡ true → list_any p xs ≡ true) → (p x || list_any p xs) ≡ true
    by true d g later = ap (λ b. b || list_any p xs) (ap p ((bytes_eq-Decides x k).0 d) ∙ h)
    by false d g later = or_right (p x) (list_any p xs) (later g)

record Hit (p : List ℕ → Bool) (ks : List (List ℕ)) : Type 0 where
  key : List ℕ
  passes : p key ≡ true
  stands : list_any (is key) ks ≡ true

some_key : (p : List ℕ → Bool) (ks : List (List ℕ)) → list_any p ks ≡ true → Hit p ks
some_key p [] e = cc
some_key p (x ∷ xs) e = by (p x) refl e (some_key p xs)
  where
    by : (t : Bool) → p x ≡ t → (t || list_any p xs) ≡ true → (list_any p xs ≡ true → Hit p xs) → Hit p (x ∷ xs)
    by true d g others = record { key = x; passes = d; stands = ap (λ b. b || list_any (is x) xs) ((bytes_eq-Decides x x).1 refl) }
    by false d g others = let h = others g in record { key = h.key; passes = h.passes; stands = or_right (bytes_eq x h.key) (list_any (is h.key) xs) h.stands }

-- what is reached at one key that passes is reached
reach : (p : List ℕ → Bool) (k : List ℕ) → p k ≡ true → (s b n : ℕ) → b < n → (ws : List Write) → UpTo (Some n) (newest (is k) s ws) → UpTo (Some n) (newest p b ws)
reach p k t s b n l [] h = h
reach p k t s b n l (w ∷ ws) h = by (ltb s w.0 && list_any (is k) w.1) refl h (λ g. up_to_trans (Some n) (newest p b ws) (newest p b (w ∷ ws)) (reach p k t s b n l ws g) (more p b w ws))
  where
    here : list_any (is k) w.1 ≡ true → n ≤ w.0 → UpTo (Some n) (newest p b (w ∷ ws))
    here d g =
        let past : ltb b w.0 ≡ true = grind (arith, nat_tests) in
        up_to_trans (Some n) (Some w.0) (newest p b (w ∷ ws)) g (hit p b w ws past (any_of p k t w.1 d))

    cases : list_any (is k) w.1 ≡ true → (UpTo (Some n) (newest (is k) s ws) → UpTo (Some n) (newest p b (w ∷ ws))) → (n ≤ w.0) ⊎ UpTo (Some n) (newest (is k) s ws) → UpTo (Some n) (newest p b (w ∷ ws))
    cases d on (inl m) = here d m
    cases d on (inr m) = on m

    by : (c : Bool) → (ltb s w.0 && list_any (is k) w.1) ≡ c → UpTo (Some n) (cond c (with_greatest w.0 (newest (is k) s ws)) (newest (is k) s ws)) →
        (UpTo (Some n) (newest (is k) s ws) → UpTo (Some n) (newest p b (w ∷ ws))) → UpTo (Some n) (newest p b (w ∷ ws))
    by true d g on = cases (and_parts (ltb s w.0) (list_any (is k) w.1) d).1 on (either n w.0 (newest (is k) s ws) g)
    by false d g on = on g

-- writes that have at each key no more than others have at any test no more
within : (p : List ℕ → Bool) (s b : ℕ) → s ≤ b → (ws vs : List Write) → ((k : List ℕ) → UpTo (newest (is k) s ws) (newest (is k) s vs)) → UpTo (newest p b ws) (newest p b vs)
within p s b l [] vs h = tt
within p s b l (w ∷ ws) vs h = by (ltb b w.0 && list_any p w.1) refl (within p s b l ws vs (λ k. up_to_trans (newest (is k) s ws) (newest (is k) s (w ∷ ws)) (newest (is k) s vs) (more (is k) s w ws) (h k)))
  where
    past : ltb b w.0 ≡ true → b < w.0
    past e = grind (arith, nat_tests)

    above_s : b < w.0 → ltb s w.0 ≡ true
    above_s e = grind (arith, nat_tests)

    one : Hit p w.1 → ltb b w.0 ≡ true → UpTo (Some w.0) (newest p b vs)
    one k e = reach p k.key k.passes s b w.0 (past e) vs
        (up_to_trans (Some w.0) (newest (is k.key) s (w ∷ ws)) (newest (is k.key) s vs) (hit (is k.key) s w ws (above_s (past e)) k.stands) (h k.key))

    all : (n : ℕ) (o q : Option ℕ) → UpTo (Some n) q → UpTo o q → UpTo (with_greatest n o) q
    all n None q g m = g
    all n (Some l) None g m = absurd m
    all n (Some l) (Some r) g m = nat n l r g m
      where
        nat : (n l r : ℕ) → n ≤ r → l ≤ r → max n l ≤ r
        nat n l r g m = omega arith

    by : (c : Bool) → (ltb b w.0 && list_any p w.1) ≡ c → UpTo (newest p b ws) (newest p b vs) → UpTo (cond c (with_greatest w.0 (newest p b ws)) (newest p b ws)) (newest p b vs)
    by true d others = let t = and_parts (ltb b w.0) (list_any p w.1) d in all w.0 (newest p b ws) (newest p b vs) (one (some_key p w.1 t.1) t.0) others
    by false d others = others

-- Writes that have the same at each key above s have the same at any test above b, which is no lower.
pub same_newest : (p : List ℕ → Bool) (s b : ℕ) → s ≤ b → (ws vs : List Write) → ((k : List ℕ) → newest (is k) s ws ≡ newest (is k) s vs) → newest p b ws ≡ newest p b vs
same_newest p s b l ws vs h = up_to_antisym (newest p b ws) (newest p b vs)
    (within p s b l ws vs (λ k. up_to_is (newest (is k) s ws) (newest (is k) s vs) (h k)))
    (within p s b l vs ws (λ k. up_to_is (newest (is k) s vs) (newest (is k) s ws) (sym (h k))))

-- where none is above b, nothing is found
pub none_above : (p : List ℕ → Bool) (b : ℕ) (ws : List Write) → AllByRecursion (λ w. w.0 ≤ b) ws → newest p b ws ≡ None
none_above p b [] h = refl
none_above p b (w ∷ ws) h =
    let low : w.0 ≤ b = h.0 in
    let past : ltb b w.0 ≡ false = grind (arith, nat_tests) in
    ap (λ t. cond (t && list_any p w.1) (with_greatest w.0 (newest p b ws)) (newest p b ws)) past ∙ none_above p b ws h.1

-- one write more, past all others
pub newest_more : (p : List ℕ → Bool) (b n : ℕ) (ks : List (List ℕ)) (ws : List Write) → AllByRecursion (λ w. w.0 ≤ n) ws → b < n → newest p b (ws ++ ((n, ks) ∷ [])) ≡ cond (list_any p ks) (Some n) (newest p b ws)
newest_more p b n ks [] h l =
    let past : ltb b n ≡ true = grind (arith, nat_tests) in
    ap (λ t. cond (t && list_any p ks) (Some n) None) past
newest_more p b n ks (w ∷ ws) h l = ap (λ o. cond (ltb b w.0 && list_any p w.1) (with_greatest w.0 o) o) (newest_more p b n ks ws h.1 l) ∙ by (ltb b w.0 && list_any p w.1) (list_any p ks)
  where
    low : w.0 ≤ n
    low = h.0

    by : (c t : Bool) → cond c (with_greatest w.0 (cond t (Some n) (newest p b ws))) (cond t (Some n) (newest p b ws)) ≡ cond t (Some n) (cond c (with_greatest w.0 (newest p b ws)) (newest p b ws))
    by true true = ap Some (let e : max w.0 n ≡ n = omega arith in e)
    by true false = refl
    by false true = refl
    by false false = refl
