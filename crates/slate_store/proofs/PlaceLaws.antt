-- Two objects of a folder have two files, and none of them is the file as which an object is written.
use Rattle.std.proofs.Common.{◌≡◌, ◌==◌, ℕ, Bool, true, false, not, ◌&&◌, ◌||◌, List, [], ◌∷◌, ◌++◌, length, refl, sym, ap, ◌∙◌}
use Rattle.std.specs.Prelude.{bytes_eq, codes}
use Rattle.std.specs.List.{ends_with, list_all, list_any, onto_first, slice_split}
use Rattle.std.proofs.lemmas.List.{append_assoc, append_cancel_left}
use Rattle.std.proofs.lemmas.Slice.Eq.{ends_is}
use Rattle.std.proofs.lemmas.Bool.Decides.{Decides-eqb}
use Rattle.slate_store.specs.Laws.{NoPlaceIsBeside, PlacesDiffer}
use Rattle.slate_store.specs.Places.{is_path, is_path_part, unfinished}

abbrev is_unfinished : List ℕ → Bool
is_unfinished name = ends_with (λ a b. a == b) name unfinished

abbrev parts_of : List ℕ → List (List ℕ)
parts_of path = slice_split (λ b. b == 47) path

-- what ends so still does behind one more byte
more : (b : ℕ) (name : List ℕ) → is_unfinished name ≡ true → is_unfinished (b ∷ name) ≡ true
more b name e =
    let known = ends_is Decides-eqb name unfinished (is_unfinished name) refl in
    let wanted = ends_is Decides-eqb (b ∷ name) unfinished (is_unfinished (b ∷ name)) refl in
    wanted.1 (b ∷ _) (ap (λ bs. b ∷ bs) (known.0 e))

and_false : (a : Bool) → (a && false) ≡ false
and_false true = refl
and_false false = refl

no_name : (name : List ℕ) → is_unfinished name ≡ true → is_path_part name ≡ false
no_name name e =
    let others = not (length name == 0) && not (bytes_eq name (codes ".")) && not (bytes_eq name (codes "..")) in
    ap (λ ends. others && not ends) e ∙ and_false others

onto : (b : ℕ) (parts : List (List ℕ)) → list_any is_unfinished parts ≡ true → list_any is_unfinished (onto_first b parts) ≡ true
onto b [] e = absurd cc
onto b (part ∷ parts) e = by (is_unfinished part) (is_unfinished (b ∷ part)) refl refl e
  where
    by : (s t : Bool) → is_unfinished part ≡ s → is_unfinished (b ∷ part) ≡ t → (s || list_any is_unfinished parts) ≡ true → (t || list_any is_unfinished parts) ≡ true
    by s true p q e = refl
    by true false p q e = let wrong : true ≡ false = sym (more b part p) ∙ q in absurd cc
    by false false p q e = e

one_ends_so : (path : List ℕ) → list_any is_unfinished (parts_of (path ++ unfinished)) ≡ true
one_ends_so [] = refl
one_ends_so (b ∷ path) = by (b == 47) refl (one_ends_so path)
  where
    by : (t : Bool) → (b == 47) ≡ t → list_any is_unfinished (parts_of (path ++ unfinished)) ≡ true → list_any is_unfinished (parts_of (b ∷ (path ++ unfinished))) ≡ true
    by true e h = rw (e, h) refl
    by false e h = rw e (onto b (parts_of (path ++ unfinished)) h)

no_names : (parts : List (List ℕ)) → list_any is_unfinished parts ≡ true → list_all is_path_part parts ≡ false
no_names [] e = absurd cc
no_names (part ∷ parts) e = by (is_unfinished part) (is_path_part part) refl refl e (no_names parts)
  where
    by : (s t : Bool) → is_unfinished part ≡ s → is_path_part part ≡ t → (s || list_any is_unfinished parts) ≡ true → (list_any is_unfinished parts ≡ true → list_all is_path_part parts ≡ false) → (t && list_all is_path_part parts) ≡ false
    by s false p q e h = refl
    by false true p q e h = h e
    by true true p q e h = let wrong : true ≡ false = sym q ∙ no_name part p in absurd cc

pub no_path : (path : List ℕ) → is_path (path ++ unfinished) ≡ false
no_path path = no_names (parts_of (path ++ unfinished)) (one_ends_so path)

pub places_differ : PlacesDiffer
places_differ folder path other same = append_cancel_left (folder ++ codes "/") path other same

pub no_place_is_beside : NoPlaceIsBeside
no_place_is_beside folder path other has same =
    let is : path ≡ other ++ unfinished = append_cancel_left (folder ++ codes "/") path (other ++ unfinished) (same ∙ append_assoc (folder ++ codes "/") other unfinished) in
    by (not (length folder == 0)) (is_path path) refl refl (ap is_path is ∙ no_path other) has
  where
    by : (s t : Bool) → (not (length folder == 0)) ≡ s → is_path path ≡ t → is_path path ≡ false → (s && t) ≡ true → ⊥
    by true true p q none has = let wrong : true ≡ false = sym q ∙ none in cc
    by true false p q none has = cc
    by false t p q none has = cc
