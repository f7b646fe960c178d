-- Words with a byte between each two, and words more.
use Rattle.std.proofs.Common.{◌≡◌, ℕ, zero, suc, ◌+◌, ◌<◌, List, [], ◌∷◌, ◌++◌, map, length, take, get_or, refl, sym, ap, ◌∙◌, append_assoc, append-nil, arith}
use Rattle.std.specs.Prelude.{flat_map}
use Rattle.std.specs.List.{join_with_byte}
use Rattle.std.proofs.lemmas.List.{map_more, take_more}
use Rattle.std.proofs.lemmas.Grind.{flat_map-append}

join_push : (c : ℕ) (x : List ℕ) (xs : List (List ℕ)) (y : List ℕ) → join_with_byte c ((x ∷ xs) ++ (y ∷ [])) ≡ join_with_byte c (x ∷ xs) ++ (c ∷ y)
join_push c x [] y = refl
join_push c x (z ∷ zs) y = ap (λ ws. x ++ (c ∷ ws)) (join_push c z zs y) ∙ sym (append_assoc x (c ∷ join_with_byte c (z ∷ zs)) (c ∷ y))

pub joined_first : {A : Type 0} (c : ℕ) (text : A → List ℕ) (ws : List A) (i : ℕ) (d : A) → i < length ws → i ≡ 0 →
    join_with_byte c (map text (take (i + 1) ws)) ≡ text (get_or ws i d)
joined_first c text [] i d within first = absurd (omega arith)
joined_first c text (x ∷ xs) zero d within first = refl
joined_first c text (x ∷ xs) (suc i) d within first = absurd (omega arith)

pub joined_more : {A : Type 0} (c : ℕ) (text : A → List ℕ) (ws : List A) (i : ℕ) (d : A) → i < length ws → 0 < i →
    join_with_byte c (map text (take (i + 1) ws)) ≡ join_with_byte c (map text (take i ws)) ++ (c ∷ text (get_or ws i d))
joined_more c text [] i d within later = absurd (omega arith)
joined_more c text (x ∷ xs) zero d within later = absurd (omega arith)
joined_more c text (x ∷ xs) (suc i) d within later =
    ap (join_with_byte c) (map_more text (x ∷ xs) (suc i) d within)
    ∙ join_push c (text x) (map text (take i xs)) (text (get_or xs i d))

-- the words behind the first, each behind the byte
join_spaced : (c : ℕ) (x : List ℕ) (ys : List (List ℕ)) → join_with_byte c (x ∷ ys) ≡ x ++ flat_map (λ w. c ∷ w) ys
join_spaced c x [] = sym (append-nil x)
join_spaced c x (y ∷ ys) = ap (λ bs. x ++ (c ∷ bs)) (join_spaced c y ys)

joined_spaced : (c : ℕ) (x : List ℕ) (xs ys : List (List ℕ)) →
    join_with_byte c (x ∷ (xs ++ ys)) ≡ join_with_byte c (x ∷ xs) ++ flat_map (λ w. c ∷ w) ys
joined_spaced c x xs ys =
    join_spaced c x (xs ++ ys) ∙ ap (λ bs. x ++ bs) (flat_map-append (λ w. c ∷ w) xs ys)
    ∙ sym (append_assoc x (flat_map (λ w. c ∷ w) xs) (flat_map (λ w. c ∷ w) ys)) ∙ ap (λ bs. bs ++ flat_map (λ w. c ∷ w) ys) (sym (join_spaced c x xs))

words_more : {A B : Type 0} (words : A → List B) (rows : List A) (i : ℕ) (row : A) → i < length rows → row ≡ get_or rows i row →
    flat_map words (take (i + 1) rows) ≡ flat_map words (take i rows) ++ words row
words_more words rows i row within is =
    ap (flat_map words) (take_more rows i row within) ∙ flat_map-append words (take i rows) (get_or rows i row ∷ [])
    ∙ ap (λ bs. flat_map words (take i rows) ++ bs) (append-nil (words (get_or rows i row))) ∙ ap (λ r. flat_map words (take i rows) ++ words r) (sym is)

-- two words and those of one row more
pub joined_rows : {A : Type 0} (c : ℕ) (x y : List ℕ) (words : A → List (List ℕ)) (rows : List A) (i : ℕ) (row : A) → i < length rows → row ≡ get_or rows i row →
    join_with_byte c (x ∷ y ∷ flat_map words (take (i + 1) rows)) ≡ join_with_byte c (x ∷ y ∷ flat_map words (take i rows)) ++ flat_map (λ w. c ∷ w) (words row)
joined_rows c x y words rows i row within is =
    ap (λ ws. join_with_byte c (x ∷ y ∷ ws)) (words_more words rows i row within is)
    ∙ joined_spaced c x (y ∷ flat_map words (take i rows)) (words row)
