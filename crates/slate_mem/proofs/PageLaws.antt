-- Pages of rows that an iterator copies from slots.
use Rattle.std.proofs.Common.{◌≡◌, ℕ, ◌==◌, ◌<◌, ◌≤◌, Bool, true, false, List, [], ◌∷◌, ◌++◌, drop, get_or, length, Option, Some, None, refl, sym, ap, ◌∙◌, arith}
use Rattle.std.specs.Option.{option_to_list}
use Rattle.std.proofs.lemmas.Bool.Decides.{nat_tests}
use Rattle.slate_types.specs.declared.types.RowEntry.{RowEntry}
use Rattle.slate_types.specs.declared.iter.IterationOrder.{IterationOrder}
use Rattle.slate_types.specs.Iteration.{TakesRow, begins_before, comes_before}
use Rattle.slate_mem.specs.declared.slots.Slot.{Slot}
use Rattle.slate_mem.specs.Slots.{rows_in, standing}

pub no_items : {X : Type 0} (xs : List X) → length xs ≤ 0 → xs ≡ []
no_items [] le = refl
no_items (x ∷ xs) le = absurd (omega (arith, le))

zero_is : (n : ℕ) → (n == 0) ≡ true → n ≤ 0
zero_is n h = grind (arith, nat_tests)

pub none_is : {X : Type 0} (xs : List X) (b : Bool) → b ≡ (length xs == 0) → b ≡ true → xs ≡ []
none_is xs b is h = no_items xs (zero_is (length xs) (sym is ∙ h))

pub some_is : {X : Type 0} (xs : List X) (b : Bool) → b ≡ (length xs == 0) → b ≡ false → xs ≡ [] → ⊥
some_is [] b is h none = let clash : true ≡ false = sym is ∙ h in cc
some_is (x ∷ xs) b is h none = cc

pub shorter : {X : Type 0} (xs : List X) → 0 < length xs → length (drop 1 xs) < length xs
shorter [] some = absurd (omega (arith, some))
shorter (x ∷ xs) some = omega arith

pub first_slot : (slots : List Slot) (s : Slot) → 0 < length slots → s ≡ get_or slots 0 s → standing slots ≡ rows_in s ++ standing (drop 1 slots)
first_slot [] s some is = absurd (omega (arith, some))
first_slot (t ∷ slots) s some is = ap (λ x. rows_in x ++ standing slots) (sym is)

drops_itself : (xs : List RowEntry) → xs ≡ drop 1 xs → xs ≡ []
drops_itself [] is = refl
drops_itself (x ∷ xs) is = absurd (omega (arith, ap length is))

-- the first of the rows that were copied is taken
pub takes_front : (copies after behind old : List RowEntry) (answer : Option RowEntry) → copies ≡ option_to_list answer ++ after → after ≡ drop 1 copies → (copies ≡ [] → behind ≡ []) → copies ++ behind ≡ old → TakesRow old answer (after ++ behind)
takes_front copies after behind old None is rest ends all =
    let none : copies ≡ [] = drops_itself copies (is ∙ rest) in
    (sym all ∙ (λ i. none i ++ ends none i), (λ i. (sym is ∙ none) i ++ ends none i))
takes_front copies after behind old (Some row) is rest ends all = sym all ∙ ap (λ xs. xs ++ behind) is

-- whether the first row comes before a key
pub begins_is : (order : IterationOrder) (key : List ℕ) (rows : List RowEntry) (row : RowEntry) → 0 < length rows → row ≡ get_or rows 0 row → comes_before order row.key key ≡ begins_before order key rows
begins_is order key [] row some is = absurd (omega (arith, some))
begins_is order key (r ∷ rs) row some is = ap (λ (x : RowEntry). comes_before order x.key key) is

pub begins_none : (order : IterationOrder) (key : List ℕ) (rows : List RowEntry) → length rows ≤ 0 → false ≡ begins_before order key rows
begins_none order key [] le = refl
begins_none order key (r ∷ rs) le = absurd (omega (arith, le))

pub begins_all : (order : IterationOrder) (key : List ℕ) (copies behind : List RowEntry) → (copies ≡ [] → behind ≡ []) → begins_before order key copies ≡ begins_before order key (copies ++ behind)
begins_all order key [] behind ends = ap (begins_before order key) (sym (ends refl))
begins_all order key (r ∷ rs) behind ends = refl
