-- Of each key the folded rows fold to what all its rows fold to.
use Rattle.std.proofs.Common.{◌≡◌, refl, sym, ap, ◌∙◌, subst, inl, inr, ℕ, Bool, true, false, List, [], ◌∷◌, ◌++◌, reverse, Some, None, bytes_eq, filter, filter_map, flat_map, append_assoc, option_and_then, option_to_list}
use Rattle.std.proofs.lemmas.List.{reverse-append, append-nil}
use Rattle.std.specs.List.{AllByRecursion, list_any, cons_option}
use Rattle.std.proofs.lemmas.Slice.Eq.{bytes_eq-Decides}
use Rattle.slate_types.specs.declared.types.RowEntry.{RowEntry}
use Rattle.slate_types.specs.declared.types.ValueDeletable.{ValueDeletable}
use Rattle.slate_types.specs.declared.types.ValueDeletable.TheVariants.{Value, Merge, Tombstone}
use Rattle.slate_types.specs.Fold.{Combine, fold_rows, onto, value_of_taken, IsLawful, KeepsShort, AreShort, IsShort}
use Rattle.slate_types.specs.Rows.{is_base, of_key, operand, bytes_of, hide_tombstone}
use Rattle.slate_types.proofs.FoldLaws.{fold_middle}
use Rattle.slate_merge.specs.Folding.{links, put_front, cut, fold_group, folded}
use Rattle.slate_merge.specs.FoldedLaws.{AreOf, IsOfKey, cut_of_key, group_folds, reverse_front}
use Rattle.slate_merge.specs.FoldedReads.{KeepsFolds, KeepsShown}
use Rattle.slate_merge.specs.Turns.{both}

module _ {X : Type 0} (P : X → Type 0) where
  all_append : (xs ys : List X) → AllByRecursion P xs → AllByRecursion P ys → AllByRecursion P (xs ++ ys)
  all_append [] ys h j = j
  all_append (x ∷ xs) ys h j = (h.0, all_append xs ys h.1 j)

  all_reverse : (xs : List X) → AllByRecursion P xs → AllByRecursion P (reverse xs)
  all_reverse [] h = tt
  all_reverse (x ∷ xs) h = subst (AllByRecursion P) (sym (reverse_front x xs)) (all_append (reverse xs) (x ∷ []) (all_reverse xs h.1) (h.0, tt))

  all_filter : (test : X → Bool) (xs : List X) → AllByRecursion P xs → AllByRecursion P (filter test xs)
  all_filter test [] h = tt
  all_filter test (x ∷ xs) h = elim (both (test x)) as (λ _. AllByRecursion P (filter test (x ∷ xs))) [
    | inl e ↦ rw e (h.0, all_filter test xs h.1)
    | inr e ↦ rw e (all_filter test xs h.1)
  ]

  all_left : (xs ys : List X) → AllByRecursion P (xs ++ ys) → AllByRecursion P xs
  all_left [] ys h = tt
  all_left (x ∷ xs) ys h = (h.0, all_left xs ys h.1)

  all_right : (xs ys : List X) → AllByRecursion P (xs ++ ys) → AllByRecursion P ys
  all_right [] ys h = h
  all_right (x ∷ xs) ys h = all_right xs ys h.1

-- ---- a fold of short rows is short

module _ (c : Combine) (keeps : KeepsShort c) where
  onto_short : (v : List ℕ) (rows : List RowEntry) → IsShort v → AreShort rows → IsShort (onto c v rows)
  onto_short v [] h a = h
  onto_short v (r ∷ rows) h a = onto_short (c (Some v) (operand r)) rows (keeps (Some v) (operand r) h a.0) a.1

  value_short : (v : ValueDeletable) (rows : List RowEntry) → IsShort (bytes_of v) → AreShort rows → IsShort (bytes_of (value_of_taken c v rows))
  value_short v [] h a = h
  value_short (Value v) (r ∷ rows) h a = onto_short v (r ∷ rows) h a
  value_short Tombstone (r ∷ rows) h a = onto_short (c None (operand r)) rows (keeps None (operand r) tt a.0) a.1
  value_short (Merge v) (r ∷ rows) h a = onto_short (c None v) (r ∷ rows) (keeps None v tt h) a

  no_row : {A : Type 0} {B : Type 0} (x : A) → None ≡ Some x → B
  no_row x e = cc

  same_some : {A : Type 0} (x y : A) → Some x ≡ Some y → x ≡ y
  same_some x y e = cc

  fold_short : (rows : List RowEntry) (f : RowEntry) → AreShort rows → fold_rows c rows ≡ Some f → IsShort (operand f)
  fold_short [] f a e = no_row f e
  fold_short (r ∷ rows) f a e = elim (both (list_any is_base rows)) as (λ _. IsShort (operand f)) [
    | inl b ↦ fold_short rows f a.1 (rw b at e)
    | inr b ↦ subst (λ x. IsShort (operand x)) (same_some _ _ (rw b at e)) (value_short r.value rows a.0 a.1)
  ]

-- ---- groups of other keys

of_append : (key : List ℕ) (xs ys : List RowEntry) → of_key key (xs ++ ys) ≡ of_key key xs ++ of_key key ys
of_append key [] ys = refl
of_append key (x ∷ xs) ys = elim (both (bytes_eq x.key key)) as (λ _. of_key key ((x ∷ xs) ++ ys) ≡ of_key key (x ∷ xs) ++ of_key key ys) [
  | inl e ↦ rw e (ap (λ l. x ∷ l) (of_append key xs ys))
  | inr e ↦ rw e (of_append key xs ys)
]

of_same : (key k : List ℕ) (rows : List RowEntry) → bytes_eq k key ≡ true → AreOf k rows → of_key key rows ≡ rows
of_same key k [] e h = refl
of_same key k (r ∷ rows) e h =
    let too : bytes_eq r.key key ≡ true = ap (λ x. bytes_eq x key) h.0 ∙ e in
    rw too (ap (λ l. r ∷ l) (of_same key k rows e h.1))

of_other : (key k : List ℕ) (rows : List RowEntry) → bytes_eq k key ≡ false → AreOf k rows → of_key key rows ≡ []
of_other key k [] e h = refl
of_other key k (r ∷ rows) e h =
    let too : bytes_eq r.key key ≡ false = ap (λ x. bytes_eq x key) h.0 ∙ e in
    rw too (of_other key k rows e h.1)

all_in : {X : Type 0} (link : X → X → Bool) (x : X) (gs : List (List X)) → flat_map (λ g. g) (put_front link x gs) ≡ x ∷ flat_map (λ g. g) gs
all_in link x [] = refl
all_in link x ([] ∷ gs) = refl
all_in link x ((y ∷ ys) ∷ gs) = elim (both (link x y)) as (λ _. flat_map (λ g. g) (put_front link x ((y ∷ ys) ∷ gs)) ≡ x ∷ flat_map (λ g. g) ((y ∷ ys) ∷ gs)) [
  | inl e ↦ rw e refl
  | inr e ↦ rw e refl
]

-- nothing is lost where a list is cut
pub cut_whole : {X : Type 0} (link : X → X → Bool) (xs : List X) → flat_map (λ g. g) (cut link xs) ≡ xs
cut_whole link [] = refl
cut_whole link (x ∷ xs) = all_in link x (cut link xs) ∙ ap (λ l. x ∷ l) (cut_whole link xs)

module _ (c : List ℕ → Combine) (key : List ℕ) (law : IsLawful (c key)) (keeps : KeepsShort (c key)) where
  abbrev all_of : List (List RowEntry) → List RowEntry
  all_of gs = flat_map (λ g. g) gs

  abbrev older : List RowEntry → List RowEntry
  older rows = reverse (of_key key rows)

  groups_keep : (gs : List (List RowEntry)) (newer : List RowEntry) → AllByRecursion IsOfKey gs → AreShort (all_of gs) → AreShort newer
      → fold_rows (c key) (older (all_of gs) ++ newer) ≡ fold_rows (c key) (older (filter_map (fold_group c) gs) ++ newer)
  groups_keep [] newer k a n = refl
  groups_keep ([] ∷ gs) newer k a n = absurd k.0
  groups_keep ((r ∷ rows) ∷ gs) newer k a n = by (λ m short n. groups_keep gs m k.1 short n) (bytes_eq r.key key) refl
    where
      is : (f : RowEntry) × (fold_group c (r ∷ rows) ≡ Some f) × (f.key ≡ r.key)
      is = group_folds c r rows k.0

      more : filter_map (fold_group c) ((r ∷ rows) ∷ gs) ≡ is.0 ∷ filter_map (fold_group c) gs
      more = ap (λ o. cons_option o (filter_map (fold_group c) gs)) is.1

      all_k : AreOf r.key (r ∷ rows)
      all_k = (refl, k.0)

      group_short : AreShort (r ∷ rows)
      group_short = all_left (λ x. IsShort (operand x)) (r ∷ rows) (all_of gs) a

      rest_short : AreShort (all_of gs)
      rest_short = all_right (λ x. IsShort (operand x)) (r ∷ rows) (all_of gs) a

      by : ((m : List RowEntry) → AreShort (all_of gs) → AreShort m → fold_rows (c key) (older (all_of gs) ++ m) ≡ fold_rows (c key) (older (filter_map (fold_group c) gs) ++ m)) → (b : Bool) → bytes_eq r.key key ≡ b → fold_rows (c key) (older (all_of ((r ∷ rows) ∷ gs)) ++ newer) ≡ fold_rows (c key) (older (filter_map (fold_group c) ((r ∷ rows) ∷ gs)) ++ newer)
      by again false e =
          let one : of_key key (is.0 ∷ []) ≡ [] = of_other key r.key (is.0 ∷ []) e (is.2, tt) in
          ap (λ l. fold_rows (c key) (reverse l ++ newer)) (of_append key (r ∷ rows) (all_of gs) ∙ ap (λ l. l ++ of_key key (all_of gs)) (of_other key r.key (r ∷ rows) e all_k))
          ∙ again newer rest_short n
          ∙ sym (ap (λ l. fold_rows (c key) (older l ++ newer)) more ∙ ap (λ l. fold_rows (c key) (reverse l ++ newer)) (of_append key (is.0 ∷ []) (filter_map (fold_group c) gs) ∙ ap (λ l. l ++ of_key key (filter_map (fold_group c) gs)) one))
      by again true e =
          let same : key ≡ r.key = sym ((bytes_eq-Decides r.key key).0 e) in
          let one : of_key key (is.0 ∷ []) ≡ is.0 ∷ [] = of_same key r.key (is.0 ∷ []) e (is.2, tt) in
          let fold : fold_rows (c key) (reverse (r ∷ rows)) ≡ Some is.0 = ap (λ x. fold_rows (c x) (reverse (r ∷ rows))) same ∙ is.1 in
          let short : AreShort (reverse (r ∷ rows)) = all_reverse (λ x. IsShort (operand x)) (r ∷ rows) group_short in
          let older_short : AreShort (older (all_of gs)) = all_reverse (λ x. IsShort (operand x)) (of_key key (all_of gs)) (all_filter (λ x. IsShort (operand x)) (λ x. bytes_eq x.key key) (all_of gs) rest_short) in
          let f_short : IsShort (operand is.0) = fold_short (c key) keeps (reverse (r ∷ rows)) is.0 short fold in
          ap (λ l. fold_rows (c key) (reverse l ++ newer)) (of_append key (r ∷ rows) (all_of gs) ∙ ap (λ l. l ++ of_key key (all_of gs)) (of_same key r.key (r ∷ rows) e all_k))
          ∙ ap (λ l. fold_rows (c key) (l ++ newer)) (reverse-append (r ∷ rows) (of_key key (all_of gs)))
          ∙ ap (fold_rows (c key)) (append_assoc (older (all_of gs)) (reverse (r ∷ rows)) newer)
          ∙ fold_middle (c key) law keeps (older (all_of gs)) (reverse (r ∷ rows)) newer older_short short n
          ∙ ap (λ o. fold_rows (c key) (older (all_of gs) ++ (option_to_list o ++ newer))) fold
          ∙ again (is.0 ∷ newer) rest_short (f_short, n)
          ∙ sym (ap (λ l. fold_rows (c key) (older l ++ newer)) more
          ∙ ap (λ l. fold_rows (c key) (reverse l ++ newer)) (of_append key (is.0 ∷ []) (filter_map (fold_group c) gs) ∙ ap (λ l. l ++ of_key key (filter_map (fold_group c) gs)) one)
          ∙ ap (λ l. fold_rows (c key) (l ++ newer)) (reverse_front is.0 (of_key key (filter_map (fold_group c) gs)))
          ∙ ap (fold_rows (c key)) (append_assoc (older (filter_map (fold_group c) gs)) (is.0 ∷ []) newer))

pub keeps_folds : KeepsFolds
keeps_folds c different barrier key rows law keeps short =
    let gs = cut (links different barrier) rows in
    let whole : flat_map (λ g. g) gs ≡ rows = cut_whole (links different barrier) rows in
    sym (ap (λ l. fold_rows (c key) (reverse (of_key key l))) (sym whole)
    ∙ ap (fold_rows (c key)) (sym (append-nil (reverse (of_key key (flat_map (λ g. g) gs)))))
    ∙ groups_keep c key law keeps gs [] (cut_of_key different barrier rows) (subst AreShort (sym whole) short) tt
    ∙ ap (fold_rows (c key)) (append-nil (reverse (of_key key (folded c different barrier rows)))))

pub keeps_shown : KeepsShown
keeps_shown c different barrier key rows law keeps short = ap (λ o. option_and_then (λ r. hide_tombstone r.value r) o) (keeps_folds c different barrier key rows law keeps short)
