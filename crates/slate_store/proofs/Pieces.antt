-- What is taken in pieces.
use Rattle.std.proofs.Common.{◌≡◌, ◌+◌, ◌-◌, ◌≤◌, ◌++◌, ℕ, List, take, drop, length, ap, sym, ◌∙◌, append_assoc, arith, length-drop}
use Rattle.std.proofs.lemmas.Grind.{common_steps}
use Rattle.std.proofs.Math.Seq.{take-add}
use Rattle.slate_types.proofs.Lists.{take_behind}

-- a further front of what is left stands behind the front that was taken
pub taken_further : (before xs : List ℕ) (i n : ℕ) → (before ++ take i xs) ++ take n (take (length xs - i) (drop i xs)) ≡ before ++ take (i + n) xs
taken_further before xs i n =
    ap (λ ys. (before ++ take i xs) ++ take n ys) (take_behind xs i) ∙ append_assoc before (take i xs) (take n (drop i xs)) ∙ ap (λ ys. before ++ ys) (sym (take-add i n xs))

-- no piece is taken from past the end
pub taken_within : {X : Type 0} (xs : List X) (i n : ℕ) → i ≤ length xs → n ≤ length (take (length xs - i) (drop i xs)) → i + n ≤ length xs
taken_within xs i n h k =
    let bound : n ≤ length (drop i xs) = rw (← take_behind xs i) k in
    omega (arith, length-drop i xs)
