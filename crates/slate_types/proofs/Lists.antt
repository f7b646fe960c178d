-- Laws of lists.
use Rattle.std.proofs.Common.{◌≡◌, ℕ, zero, suc, Bool, true, false, cond, List, [], ◌∷◌, ◌++◌, reverse, filter, Some, refl, sym, ap, subst, None, ◌+◌, ◌-◌, ◌∙◌, map, length, take, drop, arith}
use Rattle.std.specs.Prelude.{slice_get, Contains}
use Rattle.std.specs.List.{AllByRecursion}
use Rattle.std.proofs.lemmas.List.{reverse-append, map-append}
use Rattle.std.proofs.lemmas.Option.{same_Some}
use Rattle.std.proofs.lemmas.Grind.{common_steps, reverse_onto}

pub AllByRecursion_append : {X : Type 0} (P : X → Type 0) (xs ys : List X) → AllByRecursion P xs → AllByRecursion P ys → AllByRecursion P (xs ++ ys)
AllByRecursion_append P [] ys h k = k
AllByRecursion_append P (x ∷ xs) ys h k = (h.0, AllByRecursion_append P xs ys h.1 k)

pub AllByRecursion_push : {X : Type 0} (P : X → Type 0) (xs : List X) (x : X) → AllByRecursion P xs → P x → AllByRecursion P (xs ++ (x ∷ []))
AllByRecursion_push P xs x h p = AllByRecursion_append P xs (x ∷ []) h (p, tt)

pub AllByRecursion_front : {X : Type 0} (P : X → Type 0) (xs ys : List X) → AllByRecursion P (xs ++ ys) → AllByRecursion P xs
AllByRecursion_front P [] ys h = tt
AllByRecursion_front P (x ∷ xs) ys h = (h.0, AllByRecursion_front P xs ys h.1)

pub AllByRecursion_behind : {X : Type 0} (P : X → Type 0) (xs ys : List X) → AllByRecursion P (xs ++ ys) → AllByRecursion P ys
AllByRecursion_behind P [] ys h = h
AllByRecursion_behind P (x ∷ xs) ys h = AllByRecursion_behind P xs ys h.1

pub AllByRecursion_weaken : {X : Type 0} (P Q : X → Type 0) → ((x : X) → P x → Q x) → (xs : List X) → AllByRecursion P xs → AllByRecursion Q xs
AllByRecursion_weaken P Q f [] h = tt
AllByRecursion_weaken P Q f (x ∷ xs) h = (f x h.0, AllByRecursion_weaken P Q f xs h.1)

pub AllByRecursion_filter : {X : Type 0} (P : X → Type 0) (t : X → Bool) (xs : List X) → AllByRecursion P xs → AllByRecursion P (filter t xs)
AllByRecursion_filter P t [] h = tt
AllByRecursion_filter P t (x ∷ xs) h = by (t x) (AllByRecursion_filter P t xs h.1)
  where
    by : (b : Bool) → AllByRecursion P (filter t xs) → AllByRecursion P (cond b (x ∷ filter t xs) (filter t xs))
    by true later = (h.0, later)
    by false later = later

pub AllByRecursion_reverse : {X : Type 0} (P : X → Type 0) (xs : List X) → AllByRecursion P xs → AllByRecursion P (reverse xs)
AllByRecursion_reverse P [] h = tt
AllByRecursion_reverse P (x ∷ xs) h = subst (AllByRecursion P) (sym (reverse-append (x ∷ []) xs)) (AllByRecursion_push P (reverse xs) x (AllByRecursion_reverse P xs h.1) h.0)

pub AllByRecursion_slice_get : {X : Type 0} (P : X → Type 0) (xs : List X) (i : ℕ) (x : X) → AllByRecursion P xs → slice_get xs i ≡ Some x → P x
AllByRecursion_slice_get P [] i x h is = cc
AllByRecursion_slice_get P (y ∷ ys) zero x h is = subst P (same_Some y x is) h.0
AllByRecursion_slice_get P (y ∷ ys) (suc i) x h is = AllByRecursion_slice_get P ys i x h.1 is

pub filter_all : {X : Type 0} (t : X → Bool) (xs : List X) → AllByRecursion (λ x. t x ≡ true) xs → filter t xs ≡ xs
filter_all t [] h = refl
filter_all t (x ∷ xs) h = by (t x) h.0 (filter_all t xs h.1)
  where
    by : (b : Bool) → b ≡ true → filter t xs ≡ xs → cond b (x ∷ filter t xs) (filter t xs) ≡ x ∷ xs
    by true e later = ap (λ ys. x ∷ ys) later
    by false e later = cc

pub AllByRecursion_map : {X Y : Type 0} (f : X → Y) (P : Y → Type 0) (xs : List X) → AllByRecursion (λ x. P (f x)) xs → AllByRecursion P (map f xs)
AllByRecursion_map f P [] all = tt
AllByRecursion_map f P (x ∷ xs) all = (all.0, AllByRecursion_map f P xs all.1)

-- ---- lists by their places

pub Contains_at : {X : Type 0} (xs : List X) (i : ℕ) (x : X) → slice_get xs i ≡ Some x → Contains xs x
Contains_at [] i x h = cc
Contains_at (y ∷ xs) zero x h = (0, omega arith, same_Some y x h)
Contains_at (y ∷ xs) (suc i) x h = let r = Contains_at xs i x h in (suc r.0, (let lt = r.1 in omega (arith, lt)), r.2)

pub slice_get_drop : {X : Type 0} (xs : List X) (f i : ℕ) (x : X) → slice_get (drop f xs) i ≡ Some x → slice_get xs (f + i) ≡ Some x
slice_get_drop xs zero i x h = ap (slice_get xs) (let e : 0 + i ≡ i = omega arith in e) ∙ h
slice_get_drop [] (suc f) i x h = cc
slice_get_drop (y ∷ xs) (suc f) i x h = ap (slice_get (y ∷ xs)) (let e : suc f + i ≡ suc (f + i) = omega arith in e) ∙ slice_get_drop xs f i x h

pub slice_get_map : {X Y : Type 0} (f : X → Y) (xs : List X) (i : ℕ) (x : X) → slice_get xs i ≡ Some x → slice_get (map f xs) i ≡ Some (f x)
slice_get_map f [] i x h = cc
slice_get_map f (y ∷ xs) zero x h = ap (λ z. Some (f z)) (same_Some y x h)
slice_get_map f (y ∷ xs) (suc i) x h = slice_get_map f xs i x h

-- a part up to the end is all that is left
pub take_behind : {X : Type 0} (xs : List X) (i : ℕ) → take (length xs - i) (drop i xs) ≡ drop i xs
take_behind xs i = grind (arith, common_steps)

pub map_reverse : {X Y : Type 0} (f : X → Y) (xs : List X) → map f (reverse xs) ≡ reverse (map f xs)
map_reverse f [] = refl
map_reverse f (x ∷ xs) = ap (map f) (reverse_onto xs x []) ∙ map-append f (reverse xs) (x ∷ []) ∙ ap (λ l. l ++ (f x ∷ [])) (map_reverse f xs) ∙ sym (reverse_onto (map f xs) (f x) [])
