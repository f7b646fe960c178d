-- A list of which one item was changed.
use Rattle.std.proofs.Common.{◌≡◌, ◌≢◌, ◌<◌, ℕ, zero, suc, true, false, List, [], ◌∷◌, ◌++◌, Some, get_or, slice_get, slice_set, length, refl, ap, arith}
use Rattle.slate_txn.specs.Tracking.{update_at}

pub set_is : {X : Type 0} (i : ℕ) (f : X → X) (xs : List X) (x : X) → i < length xs → x ≡ get_or xs i x → slice_set xs i (f x) ≡ update_at i f xs
set_is i f [] x h e = absurd (omega (arith, h))
set_is zero f (y ∷ ys) x h e = ap (λ z. f z ∷ ys) e
set_is (suc i) f (y ∷ ys) x h e = ap (λ zs. y ∷ zs) (set_is i f ys x (omega (arith, h)) e)

-- there is none to be changed
pub none_is : {X : Type 0} (i : ℕ) (f : X → X) (xs : List X) → (i < length xs → false ≡ true) → xs ≡ update_at i f xs
none_is i f [] h = refl
none_is zero f (y ∷ ys) h = let e : false ≡ true = h (omega arith) in cc
none_is (suc i) f (y ∷ ys) h = ap (λ zs. y ∷ zs) (none_is i f ys (λ b. h (omega (arith, b))))

pub get_below : {X : Type 0} (i : ℕ) (xs : List X) (x : X) → slice_get xs i ≡ Some x → i < length xs
get_below i [] x h = cc
get_below zero (y ∷ ys) x h = omega arith
get_below (suc i) (y ∷ ys) x h = let b : i < length ys = get_below i ys x h in omega (arith, b)

pub get_before : {X : Type 0} (i : ℕ) (xs ys : List X) (x : X) → slice_get xs i ≡ Some x → slice_get (xs ++ ys) i ≡ Some x
get_before i [] ys x h = cc
get_before zero (y ∷ xs) ys x h = h
get_before (suc i) (y ∷ xs) ys x h = get_before i xs ys x h

-- the others stay
pub get_other : {X : Type 0} (i j : ℕ) (f : X → X) (xs : List X) → i ≢ j → slice_get (update_at i f xs) j ≡ slice_get xs j
get_other i j f [] apart = refl
get_other zero zero f (x ∷ xs) apart = absurd (apart refl)
get_other zero (suc j) f (x ∷ xs) apart = refl
get_other (suc i) zero f (x ∷ xs) apart = refl
get_other (suc i) (suc j) f (x ∷ xs) apart = get_other i j f xs (λ e. apart (ap suc e))
