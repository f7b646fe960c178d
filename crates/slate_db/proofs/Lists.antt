-- Facts of each item.
use Rattle.std.proofs.Common.{◌≡◌, List, [], ◌∷◌, ◌++◌, map, flat_map, refl, ap}
use Rattle.std.specs.List.{AllByRecursion}
use Rattle.std.specs.Prelude.{Result, Ok, Err, OnOk}
use Rattle.std.specs.Result.{result_and}

pub all_both : {X : Type 0} (P Q R : X → Type 0) → ((x : X) → P x → Q x → R x) → (xs : List X) → AllByRecursion P xs → AllByRecursion Q xs → AllByRecursion R xs
all_both P Q R f [] h k = tt
all_both P Q R f (y ∷ ys) h k = (f y h.0 k.0, all_both P Q R f ys h.1 k.1)

pub none_behind : {X : Type 0} (xs : List X) (x : X) → xs ++ (x ∷ []) ≡ [] → ⊥
none_behind [] x h = cc
none_behind (y ∷ ys) x h = cc

pub flat_map_items : {X Y : Type 0} (f : X → List Y) (xs : List X) → flat_map f xs ≡ flat_map (λ ys. ys) (map f xs)
flat_map_items f [] = refl
flat_map_items f (x ∷ xs) = ap (λ ys. f x ++ ys) (flat_map_items f xs)

-- of two results, where both are made
pub first_ok : {A B E P : Type 0} (a : Result A E) (b : Result B E) (x : B) → result_and a b ≡ Ok x → OnOk a P → P
first_ok (Ok y) b x is p = p
first_ok (Err e) b x is p = cc

pub second_ok : {A B E P : Type 0} (a : Result A E) (b : Result B E) (x : B) → result_and a b ≡ Ok x → OnOk b P → P
second_ok (Ok y) (Ok z) x is p = p
second_ok (Ok y) (Err e) x is p = cc
second_ok (Err e) b x is p = cc
