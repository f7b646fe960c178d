-- The operators, the extractors and the transformer are lawful.
use Rattle.std.proofs.Common.{◌≡◌, ℕ, zero, suc, ◌-◌, ◌^◌, ◌≤◌, Bool, true, false, cond, List, [], ◌∷◌, ◌++◌, length, take, Some, Result, Ok, Err, IfOk, refl, sym, ap, subst, ◌∙◌, arith, append_assoc}
use Rattle.std.specs.Prelude.{IfErr, IsErrAnd, MatchResult}
use Rattle.slate_types.specs.Fold.{IsLawful, KeepsShort}
use Rattle.slate_types.specs.Keys.{key_lt}
use Rattle.slate_types.proofs.KeyOrder.{lt_trans, not_lt_trans}
use Rattle.std.specs.Int.Bits.{bit_xor, xor_assoc, xor_self, xor_zero_r}
use Rattle.slate_types.specs.Lawful.{IsLawfulLengths, IsWithinTarget}
use Rattle.slate_filter.proofs.ExtractorLaws.{extractors_lawful}
use Rattle.slate_language.specs.declared.extractors.NamedExtractor.{NamedExtractor}
use Rattle.slate_language.specs.declared.extractors.NamedExtractor.TheVariants as extractors
use Rattle.slate_language.specs.Segments.{lengths_of}
use Rattle.slate_language.specs.declared.operators.NamedOperator.{NamedOperator}
use Rattle.slate_language.specs.declared.operators.NamedOperator.TheVariants as operators
use Rattle.slate_language.specs.Parts.{concat, greater, named, xored}
use Rattle.slate_language.specs.ShortParts.{concat_short, greater_short}

take_all : (n : ℕ) (v : List ℕ) → length v ≤ n → take n v ≡ v
take_all zero [] h = refl
take_all zero (x ∷ xs) h = absurd (omega (arith, h))
take_all (suc n) [] h = refl
take_all (suc n) (x ∷ xs) h = ap (λ ys. x ∷ ys) (take_all n xs (omega (arith, h)))

take_front : (n : ℕ) (xs ws : List ℕ) → take n (take n xs ++ ws) ≡ take n (xs ++ ws)
take_front zero xs ws = refl
take_front (suc n) [] ws = refl
take_front (suc n) (x ∷ xs) ws = ap (λ ys. x ∷ ys) (take_front n xs ws)

take_take : (n m : ℕ) (zs : List ℕ) → n ≤ m → take n (take m zs) ≡ take n zs
take_take zero m zs h = refl
take_take (suc n) zero zs h = absurd (omega (arith, h))
take_take (suc n) (suc m) [] h = refl
take_take (suc n) (suc m) (z ∷ zs) h = ap (λ ys. z ∷ ys) (take_take n m zs (omega (arith, h)))

take_back : (n m : ℕ) (xs zs : List ℕ) → n ≤ m → take n (xs ++ take m zs) ≡ take n (xs ++ zs)
take_back n m [] zs h = take_take n m zs h
take_back zero m (x ∷ xs) zs h = refl
take_back (suc n) m (x ∷ xs) zs h = ap (λ ys. x ∷ ys) (take_back n m xs zs (omega (arith, h)))

concat_assoc : (n : ℕ) (u v w : List ℕ) → take n (take n (u ++ v) ++ w) ≡ take n (u ++ take n (v ++ w))
concat_assoc n u v w = take_front n (u ++ v) w ∙ ap (take n) (append_assoc u v w) ∙ sym (take_back n n u (v ++ w) (omega arith))

concat_law : (k : List ℕ) → IsLawful (concat k)
concat_law k = record {
  first = λ v h. take_all (2 ^ 32 - 1) v h;
  assoc = λ u v w hu hv hw. concat_assoc (2 ^ 32 - 1) u v w;
}

pub concat_lawful : (k : List ℕ) → IsLawful (concat k) × KeepsShort (concat k)
concat_lawful k = (concat_law k, concat_short k)

greater_assoc : (k u v w : List ℕ) → greater k (Some (greater k (Some u) v)) w ≡ greater k (Some u) (greater k (Some v) w)
greater_assoc k u v w = by (key_lt u v) refl (key_lt v w) refl
  where
    by : (s : Bool) → key_lt u v ≡ s → (t : Bool) → key_lt v w ≡ t → greater k (Some (cond s v u)) w ≡ greater k (Some u) (cond t w v)
    by true e true f = ap (λ b. cond b w v) f ∙ sym (ap (λ b. cond b w u) (lt_trans u v w e f))
    by true e false f = ap (λ b. cond b w v) f ∙ sym (ap (λ b. cond b v u) e)
    by false e true f = refl
    by false e false f = ap (λ b. cond b w u) (not_lt_trans u v w e f) ∙ sym (ap (λ b. cond b v u) e)

greater_law : (k : List ℕ) → IsLawful (greater k)
greater_law k = record {
  first = λ v h. refl;
  assoc = λ u v w hu hv hw. greater_assoc k u v w;
}

pub greater_lawful : (k : List ℕ) → IsLawful (greater k) × KeepsShort (greater k)
greater_lawful k = (greater_law k, greater_short k)

pub named_lawful : (o : NamedOperator) (k : List ℕ) → IsLawful (named o k) × KeepsShort (named o k)
named_lawful operators.Concat k = concat_lawful k
named_lawful operators.Max k = greater_lawful k

pub named_extractor_lawful : (x : NamedExtractor) → IsWithinTarget (lengths_of x) × IsLawfulLengths (lengths_of x)
named_extractor_lawful (extractors.Fixed n) = let l = extractors_lawful.0 n in (l.0, l.1)
named_extractor_lawful extractors.Colon = (extractors_lawful.1, extractors_lawful.2)
named_extractor_lawful extractors.LastColon = (extractors_lawful.3, extractors_lawful.4)

-- ---- bytes that are changed by one number

pub xor_back : (n : ℕ) (d : List ℕ) → xored n (xored n d) ≡ d
xor_back n [] = refl
xor_back n (b ∷ bs) =
    let back : bit_xor (bit_xor b n) n ≡ b = xor_assoc b n n ∙ ap (bit_xor b) (xor_self n) ∙ xor_zero_r b in
    λ i. back i ∷ xor_back n bs i

-- ---- a result whose error is mapped to one

pub ok_of : {T E D : Type 0} (r : Result T E) (m : Result T D) (P : T → Type 0) (d : D) → MatchResult r (λ x. m ≡ Ok x) (λ e. IsErrAnd m (λ y. y ≡ d)) → IfOk r P → IfOk m P
ok_of (Ok x) m P d is p = subst (λ a. IfOk a P) (sym is) p
ok_of (Err e) (Ok x) P d is p = absurd is
ok_of (Err e) (Err y) P d is p = tt

pub err_of : {T E D : Type 0} (r : Result T E) (m : Result T D) (d : D) → MatchResult r (λ x. m ≡ Ok x) (λ e. IsErrAnd m (λ y. y ≡ d)) → IfErr m (λ y. y ≡ d)
err_of (Ok x) m d is = subst (λ a. IfErr a (λ y. y ≡ d)) (sym is) tt
err_of (Err e) (Ok x) d is = absurd is
err_of (Err e) (Err y) d is = is
