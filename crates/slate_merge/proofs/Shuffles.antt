-- What is gathered from elements in any order: parts that can be put in either way round.
use Rattle.std.proofs.Common.{◌≡◌, ℕ, ◌+◌, ◌-◌, ◌<◌, ◌≤◌, ◌==◌, Bool, true, false, cond, List, [], ◌∷◌, ◌++◌, length, take, drop, set, slice_index_or, sum_by, refl, sym, ap, ◌∙◌, subst, inl, inr, arith, append_assoc, length-append}
use Rattle.std.specs.List.{swap}
use Rattle.std.specs.List.Sorted.{IsPermutation}
use Rattle.std.proofs.lemmas.List.Sorted.{IsPermutation-keeps, IsPermutation-swap, sum_by-IsPermutation}
use Rattle.std.proofs.lemmas.List.Sums.{sum_by-cons, sum_by-append}
use Rattle.std.proofs.lemmas.List.Edits.{swap_is}
use Rattle.std.proofs.lemmas.List.{get_or-drop, set-get_or, take-append-drop, drop_more, length-take-le, length-drop, set_at, set_comm}
use Rattle.std.proofs.lemmas.Bool.{ltb-true, ltb-false}
use Rattle.std.proofs.lemmas.Bool.Decides.{nat_tests}
use lib.Dec.{ltb}
use Rattle.slate_merge.specs.Turns.{both}

-- a list with two elements in each other's place
parts_less : {X : Type 0} (l : List X) (i j : ℕ) (d : X) → i < j → j < length l
    → (front : List X) × (x : X) × (m : List X) × (y : X) × (back : List X) × (l ≡ front ++ (x ∷ (m ++ (y ∷ back)))) × (swap l i j ≡ front ++ (y ∷ (m ++ (x ∷ back))))
parts_less {X} l i j d a b =
    let x = slice_index_or l i d in
    let y = slice_index_or l j d in
    let front = take i l in
    let r = drop (i + 1) l in
    let long_front : length front ≡ i = length-take-le i l (omega (arith, a, b)) in
    let whole : l ≡ front ++ x ∷ r = sym (rw (sym (drop_more l i d (omega (arith, a, b)))) (take-append-drop i l)) in
    let long_r : length r ≡ length l - (i + 1) = length-drop (i + 1) l in
    let m = take (j - i - 1) r in
    let back = drop (j - i) r in
    let in_r : j - i - 1 < length r = omega (arith, a, b, long_r) in
    let jj : i + 1 + (j - i - 1) ≡ j = omega (arith, a) in
    let at_j : slice_index_or r (j - i - 1) d ≡ y = rw (get_or-drop (i + 1) l (j - i - 1) d, jj) refl in
    let long_m : length m ≡ j - i - 1 = length-take-le (j - i - 1) r (omega (arith, in_r)) in
    let past : j - i - 1 + 1 ≡ j - i = omega (arith, a) in
    let r_is : r ≡ m ++ y ∷ back = sym (rw (drop_more r (j - i - 1) d in_r, at_j, past) at (take-append-drop (j - i - 1) r)) in
    let once : set l i y ≡ (front ++ y ∷ m) ++ y ∷ back =
    ap (λ v. set v i y) whole ∙ set_at front x r y i long_front ∙ ap (λ v. front ++ y ∷ v) r_is ∙ sym (append_assoc front (y ∷ m) (y ∷ back)) in
    let long_y : length (front ++ y ∷ m) ≡ j = omega (arith, length-append front (y ∷ m), long_front, long_m, a) in
    let twice : set (set l i y) j x ≡ (front ++ y ∷ m) ++ x ∷ back =
    ap (λ v. set v j x) once ∙ set_at (front ++ y ∷ m) y back x j long_y in
    let swapped : swap l i j ≡ (front ++ y ∷ m) ++ x ∷ back = sym (swap_is l i j d (omega (arith, a, b)) b) ∙ twice in
    (front, x, m, y, back, whole ∙ ap (λ v. front ++ x ∷ v) r_is, swapped ∙ append_assoc front (y ∷ m) (x ∷ back))

module _ {X G : Type 0} (add : X → G → G) where
  abbrev pub gathered : G → List X → G
  gathered g [] = g
  gathered g (x ∷ xs) = add x (gathered g xs)

  pub gathered_append : (g : G) (xs ys : List X) → gathered g (xs ++ ys) ≡ gathered (gathered g ys) xs
  gathered_append g [] ys = refl
  gathered_append g (x ∷ xs) ys = ap (add x) (gathered_append g xs ys)

module _ {X : Type 0} (place : X → ℕ) where
  abbrev at_place : ℕ → X → ℕ
  at_place n x = cond (place x == n) 1 0

  -- no two elements have a place
  abbrev pub OnePlace : List X → Type 0
  OnePlace xs = (n : ℕ) → sum_by (at_place n) xs ≤ 1

  abbrev pub Elsewhere : ℕ → List X → Type 0
  Elsewhere n [] = Unit {0}
  Elsewhere n (x ∷ xs) = (place x == n ≡ false) × Elsewhere n xs

  here : (x : X) → at_place (place x) x ≡ 1
  here x = let same : (place x == place x) ≡ true = grind (arith, nat_tests) in rw same refl

  -- where none is counted, none is there
  none_there : (n : ℕ) (xs : List X) → sum_by (at_place n) xs ≤ 0 → Elsewhere n xs
  none_there n [] h = tt
  none_there n (x ∷ xs) h =
      let counted = sum_by-cons (at_place n) x xs in
      elim (both (place x == n)) as (λ _. Elsewhere n (x ∷ xs)) [
        | inl e ↦ let one : at_place n x ≡ 1 = rw e refl in absurd (omega (arith, h, counted, one))
        | inr e ↦ (e, none_there n xs (omega (arith, h, counted)))
      ]

  pub elsewhere_behind : (x : X) (xs : List X) → OnePlace (x ∷ xs) → Elsewhere (place x) xs
  elsewhere_behind x xs h = none_there (place x) xs (omega (arith, h (place x), sum_by-cons (at_place (place x)) x xs, here x))

  pub one_place_tail : (x : X) (xs : List X) → OnePlace (x ∷ xs) → OnePlace xs
  one_place_tail x xs h n = omega (arith, h n, sum_by-cons (at_place n) x xs)

  pub one_place_shuffled : (xs ys : List X) → IsPermutation xs ys → OnePlace xs → OnePlace ys
  one_place_shuffled xs ys p h n = rw (sum_by-IsPermutation (at_place n) xs ys p) (h n)

  -- another element at the same place
  pub one_place_instead : (x y : X) (xs : List X) → place x ≡ place y → OnePlace (x ∷ xs) → OnePlace (y ∷ xs)
  one_place_instead x y xs e h n =
      let same : at_place n x ≡ at_place n y = ap (λ m. cond (m == n) 1 0) e in
      omega (arith, h n, sum_by-cons (at_place n) x xs, sum_by-cons (at_place n) y xs, same)

  pub one_place_more : (x : X) (xs : List X) → Elsewhere (place x) xs → OnePlace xs → OnePlace (x ∷ xs)
  one_place_more x xs h k n =
      elim (both (place x == n)) as (λ _. sum_by (at_place n) (x ∷ xs) ≤ 1) [
        | inl e ↦
            let same : place x ≡ n = grind (arith, nat_tests, e) in
            let one : at_place n x ≡ 1 = rw e refl in
            let none = none_counted n xs (subst (λ m. Elsewhere m xs) same h) in
            omega (arith, sum_by-cons (at_place n) x xs, one, none)
        | inr e ↦
            let none : at_place n x ≡ 0 = rw e refl in
            omega (arith, sum_by-cons (at_place n) x xs, none, k n)
      ]
    where
      none_counted : (m : ℕ) (ys : List X) → Elsewhere m ys → sum_by (at_place m) ys ≡ 0
      none_counted m [] g = refl
      none_counted m (y ∷ ys) g =
          let none : at_place m y ≡ 0 = rw g.0 refl in
          omega (arith, sum_by-cons (at_place m) y ys, none, none_counted m ys g.1)

module _ {X G : Type 0} (place : X → ℕ) (add : X → G → G) (either : (x y : X) (g : G) → (place y == place x ≡ false) → add x (add y g) ≡ add y (add x g)) where
  pub past : (x : X) (m : List X) (g : G) → Elsewhere place (place x) m → gathered add (add x g) m ≡ add x (gathered add g m)
  past x [] g h = refl
  past x (y ∷ m) g h = ap (add y) (past x m g h.1) ∙ sym (either x y (gathered add g m) h.0)

  exchanged : (g : G) (front : List X) (x : X) (m : List X) (y : X) (back : List X) → OnePlace place (front ++ (x ∷ (m ++ (y ∷ back)))) → gathered add g (front ++ (x ∷ (m ++ (y ∷ back)))) ≡ gathered add g (front ++ (y ∷ (m ++ (x ∷ back))))
  exchanged g front x m y back one =
      let t = gathered add g back in
      let count : (n : ℕ) → sum_by (at_place place n) front + (at_place place n x + (sum_by (at_place place n) m + (at_place place n y + sum_by (at_place place n) back))) ≤ 1 =
      λ n. omega (arith, one n, sum_by-append (at_place place n) front (x ∷ (m ++ (y ∷ back))), sum_by-cons (at_place place n) x (m ++ (y ∷ back)), sum_by-append (at_place place n) m (y ∷ back), sum_by-cons (at_place place n) y back) in
      let x_in_m : Elsewhere place (place x) m = none_there place (place x) m (omega (arith, count (place x), here place x)) in
      let y_in_m : Elsewhere place (place y) m = none_there place (place y) m (omega (arith, count (place y), here place y)) in
      let apart : (place y == place x) ≡ false = elim (both (place y == place x)) as (λ _. (place y == place x) ≡ false) [
        | inl e ↦ let two : at_place place (place x) y ≡ 1 = rw e refl in absurd (omega (arith, count (place x), here place x, two))
        | inr e ↦ e
      ] in
      let left : gathered add g (front ++ (x ∷ (m ++ (y ∷ back)))) ≡ gathered add (add x (add y (gathered add t m))) front =
      gathered_append add g front (x ∷ (m ++ (y ∷ back))) ∙ ap (λ v. gathered add (add x v) front) (gathered_append add g m (y ∷ back) ∙ past y m t y_in_m) in
      let right : gathered add g (front ++ (y ∷ (m ++ (x ∷ back)))) ≡ gathered add (add y (add x (gathered add t m))) front =
      gathered_append add g front (y ∷ (m ++ (x ∷ back))) ∙ ap (λ v. gathered add (add y v) front) (gathered_append add g m (x ∷ back) ∙ past x m t x_in_m) in
      left ∙ ap (λ v. gathered add v front) (either x y (gathered add t m) apart) ∙ sym right

  swapped : (g : G) (l : List X) (i j : ℕ) (d : X) → i < j → j < length l → OnePlace place l → gathered add g l ≡ gathered add g (swap l i j)
  swapped g l i j d a b one =
      let parts = parts_less l i j d a b in
      let whole = subst (OnePlace place) parts.5 one in
      ap (gathered add g) parts.5 ∙ exchanged g parts.0 parts.1 parts.2 parts.3 parts.4 whole ∙ sym (ap (gathered add g) parts.6)

  swapped_any : (g : G) (l : List X) (i j : ℕ) → i < length l → j < length l → OnePlace place l → gathered add g l ≡ gathered add g (swap l i j)
  swapped_any g [] i j a b one = absurd (omega (arith, a))
  swapped_any g (d ∷ ls) i j a b one = go (ltb i j) refl
    where
      l : List X
      l = d ∷ ls

      go2 : (v : Bool) → ltb j i ≡ v → ltb i j ≡ false → gathered add g l ≡ gathered add g (swap l i j)
      go2 true e2 e =
          let less = ltb-true _ _ e2 in
          let same : swap l j i ≡ swap l i j = sym (swap_is l j i d b a) ∙ set_comm l j i _ _ (λ z. absurd (omega (arith, z, less))) ∙ swap_is l i j d a b in
          swapped g l j i d less a one ∙ ap (gathered add g) same
      go2 false e2 e =
          let same : i ≡ j = omega (arith, ltb-false _ _ e, ltb-false _ _ e2) in
          let still : swap l i j ≡ l = rw same (sym (swap_is l j j d b b) ∙ rw (set-get_or l j d) (set-get_or l j d)) in
          sym (ap (gathered add g) still)

      go : (v : Bool) → ltb i j ≡ v → gathered add g l ≡ gathered add g (swap l i j)
      go true e = swapped g l i j d (ltb-true _ _ e) b one
      go false e = go2 (ltb j i) refl e

  -- elements of different places, in any order
  pub gathered_shuffled : (g : G) (xs ys : List X) → OnePlace place xs → IsPermutation xs ys → gathered add g xs ≡ gathered add g ys
  gathered_shuffled g xs ys one p =
      (IsPermutation-keeps xs (λ l. OnePlace place l × (gathered add g xs ≡ gathered add g l)) (one, refl)
      (λ l i j a b h. (one_place_shuffled place l (swap l i j) (IsPermutation-swap l (swap l i j) i j a b refl) h.0, h.1 ∙ swapped_any g l i j a b h.0)) ys p).1
