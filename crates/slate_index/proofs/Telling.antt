-- An entry's key tells its field and its record's id: the field ends at the first 0 that has no 255 behind it.
use Rattle.std.proofs.Common.{◌≡◌, ℕ, zero, suc, Bool, true, false, cond, nat_eq, nat_le, length, ◌||◌, List, [], ◌∷◌, ◌++◌, bytes_eq, Option, Some, None, refl, sym, ap, ◌∙◌, arith}
use Rattle.std.proofs.lemmas.Bool.Decides.{nat_tests}
use Rattle.std.proofs.lemmas.List.Folds.{list_any-append}
use Rattle.std.proofs.lemmas.Slice.Eq.{bytes_eq-Decides}
use Rattle.slate_types.specs.Keys.{among}
use Rattle.slate_index.specs.Entries.{FieldsModel, entry_key, entry_where, entries_below, escaped, is_entry_key, longest_field}
use Rattle.slate_index.specs.Laws.{EntriesTell}

-- what stands behind the end of a field; first whether the byte before was a 0
behind_field : Bool → List ℕ → List ℕ
behind_field true [] = []
behind_field false [] = []
behind_field true (b ∷ bs) = cond (nat_eq b 255) (behind_field false bs) bs
behind_field false (b ∷ bs) = cond (nat_eq b 0) (behind_field true bs) (behind_field false bs)

tells_id : (f id : List ℕ) → behind_field false (escaped f ++ (0 ∷ 1 ∷ id)) ≡ id
unfolding behind_field
tells_id [] id = refl
tells_id (b ∷ bs) id = by (nat_eq b 0) refl (tells_id bs id)
  where
    by : (t : Bool) → nat_eq b 0 ≡ t → behind_field false (escaped bs ++ (0 ∷ 1 ∷ id)) ≡ id → behind_field false ((cond t (0 ∷ 255 ∷ []) (b ∷ []) ++ escaped bs) ++ (0 ∷ 1 ∷ id)) ≡ id
    by true e later = later
    by false e later = ap (λ (t : Bool). cond t (behind_field true (escaped bs ++ (0 ∷ 1 ∷ id))) (behind_field false (escaped bs ++ (0 ∷ 1 ∷ id)))) e ∙ later

-- the field, as far as its end
front_field : Bool → List ℕ → List ℕ
front_field true [] = []
front_field false [] = []
front_field true (b ∷ bs) = cond (nat_eq b 255) (0 ∷ front_field false bs) []
front_field false (b ∷ bs) = cond (nat_eq b 0) (front_field true bs) (b ∷ front_field false bs)

is_zero : (b : ℕ) → nat_eq b 0 ≡ true → 0 ≡ b
is_zero b e = grind (arith, nat_tests)

tells_field : (f id : List ℕ) → front_field false (escaped f ++ (0 ∷ 1 ∷ id)) ≡ f
unfolding front_field
tells_field [] id = refl
tells_field (b ∷ bs) id = by (nat_eq b 0) refl (tells_field bs id)
  where
    by : (t : Bool) → nat_eq b 0 ≡ t → front_field false (escaped bs ++ (0 ∷ 1 ∷ id)) ≡ bs → front_field false ((cond t (0 ∷ 255 ∷ []) (b ∷ []) ++ escaped bs) ++ (0 ∷ 1 ∷ id)) ≡ b ∷ bs
    by true e later = λ i. is_zero b e i ∷ later i
    by false e later = ap (λ (t : Bool). cond t (front_field true (escaped bs ++ (0 ∷ 1 ∷ id))) (b ∷ front_field false (escaped bs ++ (0 ∷ 1 ∷ id)))) e ∙ ap (λ xs. b ∷ xs) later

behind_two : List ℕ → List ℕ
behind_two [] = []
behind_two (a ∷ []) = []
behind_two (a ∷ b ∷ bs) = bs

second : List ℕ → ℕ
second [] = 0
second (a ∷ []) = 0
second (a ∷ b ∷ bs) = b

pub tell : EntriesTell
unfolding behind_two second
tell n o f g id other e =
    (ap second e, sym (tells_field f id) ∙ ap (λ k. front_field false (behind_two k)) e ∙ tells_field g other, sym (tells_id f id) ∙ ap (λ k. behind_field false (behind_two k)) e ∙ tells_id g other)

-- ---- the id of each key among a record's entries

pub id_of_key : List ℕ → List ℕ
id_of_key k = behind_field false (behind_two k)

or_either : (a b : Bool) {P : Type 0} → (a || b) ≡ true → (a ≡ true → P) → (b ≡ true → P) → P
or_either true b h f g = f refl
or_either false b h f g = g h

pub tells_of : (fs : FieldsModel) (n : ℕ) (id v k : List ℕ) → among k (entries_below fs n id v) ≡ true → (id_of_key k ≡ id) × (is_entry_key k ≡ true)
unfolding id_of_key behind_two
tells_of fs zero id v k h = cc
tells_of fs (suc n) id v k h =
    or_either (among k (entries_below fs n id v)) (among k (entry_where n id (fs.field n v))) (sym (list_any-append (λ x. bytes_eq x k) (entries_below fs n id v) (entry_where n id (fs.field n v))) ∙ h)
    (tells_of fs n id v k) (of_one (fs.field n v))
  where
    of_one : (o : Option (List ℕ)) → among k (entry_where n id o) ≡ true → (id_of_key k ≡ id) × (is_entry_key k ≡ true)
    of_one None g = cc
    of_one (Some f) g = by (nat_le (length f) longest_field) g
      where
        by : (t : Bool) → among k (cond t (entry_key n f id ∷ []) []) ≡ true → (id_of_key k ≡ id) × (is_entry_key k ≡ true)
        by false x = cc
        by true x =
            let is : entry_key n f id ≡ k = (bytes_eq-Decides (entry_key n f id) k).0 (one (bytes_eq (entry_key n f id) k) x) in
            (ap (λ j. behind_field false (behind_two j)) (sym is) ∙ tells_id f id, ap is_entry_key (sym is))
          where
            one : (b : Bool) → (b || false) ≡ true → b ≡ true
            one true y = refl
            one false y = y
