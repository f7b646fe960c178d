-- What folding groups of rows keeps.
--     folded_in_order      what is folded comes in the order
--     folded_dropped      folding and seeks commute
--     folded_through      a row that isn't folded is handed through
--     folded_gathered      linked rows, of which the last isn't linked with what stands behind it, are folded
--     following link x xs, beyond link x xs      the elements behind x that are linked, each with the one before it, and those behind these
--     cut_first, cut_group      what the first group of a cut list is
--     linked_more      linked elements, and one more that is linked with the last
--     AreOf key rows, IsOfKey rows      the rows have the key; there are some, and they have the key of the first
--     and_left, and_right      of two tests that both hold, each does
--     followed_key, linked_key      a row that follows another, or is linked with it, has its key
--     cut_of_key      each group is of one key
--     reverse_front      a list turned round ends with its first element
--     group_folds      the fold of a group of one key is a row of that key
--     unlinked      a row that isn't folded is linked with none behind it
--     linked_operands      linked rows are operands
use Rattle.std.proofs.Common.{◌≡◌, refl, sym, ap, ◌∙◌, subst, inl, inr, ℕ, ◌&&◌, Bool, true, false, List, [], ◌∷◌, ◌++◌, reverse, Option, Some, append_assoc, bytes_eq, filter_map, if◌then◌else◌}
use Rattle.std.proofs.lemmas.List.{reverse-append}
use Rattle.std.specs.List.{AllByRecursion, list_any, cons_option}
use Rattle.std.proofs.lemmas.Slice.Eq.{bytes_eq-Decides}
use Rattle.slate_types.specs.declared.types.RowEntry.{RowEntry}
use Rattle.slate_types.specs.declared.iter.IterationOrder.{IterationOrder}
use Rattle.slate_types.specs.Fold.{Combine, fold_rows}
use Rattle.slate_types.specs.Iteration.{comes_before, drop_before, NoneBefore, IsInOrder}
use Rattle.slate_types.specs.Rows.{is_base, is_operand}
use Rattle.slate_merge.specs.Folding.{AreLinked, AreOperands, is_open, follows, links, put_front, cut, begins_linked, fold_group, folded}
use Rattle.slate_merge.specs.Turns.{both}

module _ {X : Type 0} (link : X → X → Bool) where
  abbrev pub following : X → List X → List X
  following x [] = []
  following x (y ∷ ys) = if link x y then y ∷ following y ys else []

  abbrev pub beyond : X → List X → List X
  beyond x [] = []
  beyond x (y ∷ ys) = if link x y then beyond y ys else y ∷ ys

  pub cut_first : (x : X) (xs : List X) → cut link (x ∷ xs) ≡ (x ∷ following x xs) ∷ cut link (beyond x xs)
  cut_first x [] = refl
  cut_first x (y ∷ ys) = elim (both (link x y)) as (λ _. cut link (x ∷ y ∷ ys) ≡ (x ∷ following x (y ∷ ys)) ∷ cut link (beyond x (y ∷ ys))) [
    | inl e ↦ ap (put_front link x) (cut_first y ys) ∙ rw e refl
    | inr e ↦ ap (put_front link x) (cut_first y ys) ∙ rw e (ap (λ g. (x ∷ []) ∷ g) (sym (cut_first y ys)))
  ]

  -- an element that isn't linked with those behind it is a group
  cut_apart : (x : X) (xs : List X) → begins_linked link x xs ≡ false → cut link (x ∷ xs) ≡ (x ∷ []) ∷ cut link xs
  cut_apart x [] h = refl
  cut_apart x (y ∷ ys) h = ap (put_front link x) (cut_first y ys) ∙ rw h (ap (λ g. (x ∷ []) ∷ g) (sym (cut_first y ys)))

  -- and so are linked elements of which the last one isn't
  pub cut_group : (xs : List X) (x : X) (more : List X) → AreLinked link xs x → begins_linked link x more ≡ false → cut link (xs ++ (x ∷ more)) ≡ (xs ++ (x ∷ [])) ∷ cut link more
  cut_group [] x more h apart = cut_apart x more apart
  cut_group (y ∷ []) x more h apart = ap (put_front link y) (cut_apart x more apart) ∙ rw h refl
  cut_group (y ∷ z ∷ zs) x more h apart = ap (put_front link y) (cut_group (z ∷ zs) x more h.1 apart) ∙ rw h.0 refl

  pub linked_more : (xs : List X) (x y : X) → AreLinked link xs x → link x y ≡ true → AreLinked link (xs ++ (x ∷ [])) y
  linked_more [] x y h is = is
  linked_more (z ∷ []) x y h is = (h, is)
  linked_more (z ∷ w ∷ ws) x y h is = (h.0, linked_more (w ∷ ws) x y h.1 is)

-- ---- groups have rows of one key

abbrev pub AreOf : List ℕ → List RowEntry → Type 0
AreOf key rows = AllByRecursion (λ r. r.key ≡ key) rows

abbrev pub IsOfKey : List RowEntry → Type 0
IsOfKey [] = ⊥
IsOfKey (r ∷ rows) = AreOf r.key rows

pub and_left : (a b : Bool) → (a && b) ≡ true → a ≡ true
and_left true b h = refl
and_left false b h = cc

pub and_right : (a b : Bool) → (a && b) ≡ true → b ≡ true
and_right true b h = h
and_right false b h = cc

pub followed_key : (different : Bool) (r s : RowEntry) → follows different r s ≡ true → s.key ≡ r.key
followed_key different r s h = sym ((bytes_eq-Decides r.key s.key).0 (and_left (bytes_eq r.key s.key) _ h))

pub linked_key : (different : Bool) (barrier : Option ℕ) (r s : RowEntry) → links different barrier r s ≡ true → s.key ≡ r.key
linked_key different barrier r s h = followed_key different r s (and_right (is_open barrier r) _ h)

are_of : (k l : List ℕ) (rows : List RowEntry) → k ≡ l → AreOf k rows → AreOf l rows
are_of k l rows e h = subst (λ x. AreOf x rows) e h

module _ (different : Bool) (barrier : Option ℕ) where
  front_of_key : (r : RowEntry) (groups : List (List RowEntry)) → AllByRecursion IsOfKey groups → AllByRecursion IsOfKey (put_front (links different barrier) r groups)
  front_of_key r [] h = (tt, tt)
  front_of_key r ([] ∷ gs) h = (tt, h.1)
  front_of_key r ((s ∷ rows) ∷ gs) h = elim (both (links different barrier r s)) as (λ _. AllByRecursion IsOfKey (put_front (links different barrier) r ((s ∷ rows) ∷ gs))) [
    | inl e ↦ let same = linked_key different barrier r s e in rw e ((same, are_of s.key r.key rows same h.0), h.1)
    | inr e ↦ rw e (tt, h)
  ]

  pub cut_of_key : (rows : List RowEntry) → AllByRecursion IsOfKey (cut (links different barrier) rows)
  cut_of_key [] = tt
  cut_of_key (r ∷ rows) = front_of_key r (cut (links different barrier) rows) (cut_of_key rows)

-- ---- the fold of a group is one row of its key

last_folds : (c : Combine) (k : List ℕ) (rows : List RowEntry) (r : RowEntry) → AreOf k rows → r.key ≡ k → (f : RowEntry) × (fold_rows c (rows ++ (r ∷ [])) ≡ Some f) × (f.key ≡ k)
last_folds c k [] r h e = (r, refl, e)
last_folds c k (s ∷ rows) r h e = elim (both (list_any is_base (rows ++ (r ∷ [])))) as (λ _. (f : RowEntry) × (fold_rows c ((s ∷ rows) ++ (r ∷ [])) ≡ Some f) × (f.key ≡ k)) [
  | inl b ↦ rw b (last_folds c k rows r h.1 e)
  | inr b ↦ rw b (_, refl, h.0)
]

are_append : (k : List ℕ) (rows others : List RowEntry) → AreOf k rows → AreOf k others → AreOf k (rows ++ others)
are_append k [] others h j = j
are_append k (r ∷ rows) others h j = (h.0, are_append k rows others h.1 j)

pub reverse_front : {X : Type 0} (x : X) (xs : List X) → reverse (x ∷ xs) ≡ reverse xs ++ (x ∷ [])
reverse_front x xs = reverse-append (x ∷ []) xs

are_reversed : (k : List ℕ) (rows : List RowEntry) → AreOf k rows → AreOf k (reverse rows)
are_reversed k [] h = tt
are_reversed k (r ∷ rows) h = subst (AreOf k) (sym (reverse_front r rows)) (are_append k (reverse rows) (r ∷ []) (are_reversed k rows h.1) (h.0, tt))

pub group_folds : (c : List ℕ → Combine) (r : RowEntry) (rows : List RowEntry) → AreOf r.key rows → (f : RowEntry) × (fold_group c (r ∷ rows) ≡ Some f) × (f.key ≡ r.key)
group_folds c r rows h =
    let is = last_folds (c r.key) r.key (reverse rows) r (are_reversed r.key rows h) refl in
    (is.0, ap (fold_rows (c r.key)) (reverse_front r rows) ∙ is.1, is.2)

-- ---- the order

module _ (order : IterationOrder) where
  abbrev NoHeadBefore : List ℕ → List (List RowEntry) → Type 0
  NoHeadBefore key [] = Unit {0}
  NoHeadBefore key ([] ∷ gs) = NoHeadBefore key gs
  NoHeadBefore key ((r ∷ rows) ∷ gs) = (comes_before order r.key key ≡ false) × NoHeadBefore key gs

  abbrev HeadsInOrder : List (List RowEntry) → Type 0
  HeadsInOrder [] = Unit {0}
  HeadsInOrder ([] ∷ gs) = HeadsInOrder gs
  HeadsInOrder ((r ∷ rows) ∷ gs) = NoHeadBefore r.key gs × HeadsInOrder gs

  module _ (link : RowEntry → RowEntry → Bool) where
    front_not_before : (key : List ℕ) (r : RowEntry) (gs : List (List RowEntry)) → comes_before order r.key key ≡ false → NoHeadBefore key gs → NoHeadBefore key (put_front link r gs)
    front_not_before key r [] e h = (e, tt)
    front_not_before key r ([] ∷ gs) e h = (e, h)
    front_not_before key r ((s ∷ rows) ∷ gs) e h = elim (both (link r s)) as (λ _. NoHeadBefore key (put_front link r ((s ∷ rows) ∷ gs))) [
      | inl b ↦ rw b (e, h.1)
      | inr b ↦ rw b (e, h)
    ]

    cut_not_before : (key : List ℕ) (rows : List RowEntry) → NoneBefore order key rows → NoHeadBefore key (cut link rows)
    cut_not_before key [] h = tt
    cut_not_before key (r ∷ rows) h = front_not_before key r (cut link rows) h.0 (cut_not_before key rows h.1)

    front_in_order : (r : RowEntry) (gs : List (List RowEntry)) → NoHeadBefore r.key gs → HeadsInOrder gs → HeadsInOrder (put_front link r gs)
    front_in_order r [] n h = (tt, tt)
    front_in_order r ([] ∷ gs) n h = (n, h)
    front_in_order r ((s ∷ rows) ∷ gs) n h = elim (both (link r s)) as (λ _. HeadsInOrder (put_front link r ((s ∷ rows) ∷ gs))) [
      | inl b ↦ rw b (n.1, h.1)
      | inr b ↦ rw b (n, h)
    ]

    cut_in_order : (rows : List RowEntry) → IsInOrder order rows → HeadsInOrder (cut link rows)
    cut_in_order [] h = tt
    cut_in_order (r ∷ rows) h = front_in_order r (cut link rows) (cut_not_before r.key rows h.0) (cut_in_order rows h.1)

  module _ (c : List ℕ → Combine) where
    folds_not_before : (key : List ℕ) (gs : List (List RowEntry)) → AllByRecursion IsOfKey gs → NoHeadBefore key gs → NoneBefore order key (filter_map (fold_group c) gs)
    folds_not_before key [] k h = tt
    folds_not_before key ([] ∷ gs) k h = absurd k.0
    folds_not_before key ((r ∷ rows) ∷ gs) k h =
        let is = group_folds c r rows k.0 in
        rw is.1 (subst (λ l. comes_before order l key ≡ false) (sym is.2) h.0, folds_not_before key gs k.1 h.1)

    folds_in_order : (gs : List (List RowEntry)) → AllByRecursion IsOfKey gs → HeadsInOrder gs → IsInOrder order (filter_map (fold_group c) gs)
    folds_in_order [] k h = tt
    folds_in_order ([] ∷ gs) k h = absurd k.0
    folds_in_order ((r ∷ rows) ∷ gs) k h =
        let is = group_folds c r rows k.0 in
        rw is.1 (subst (λ l. NoneBefore order l (filter_map (fold_group c) gs)) (sym is.2) (folds_not_before r.key gs k.1 h.0), folds_in_order gs k.1 h.1)

  pub folded_in_order : (c : List ℕ → Combine) (different : Bool) (barrier : Option ℕ) (rows : List RowEntry) → IsInOrder order rows → IsInOrder order (folded c different barrier rows)
  folded_in_order c different barrier rows h = folds_in_order c (cut (links different barrier) rows) (cut_of_key different barrier rows) (cut_in_order (links different barrier) rows h)

-- ---- seeks

module _ (order : IterationOrder) (key : List ℕ) where
  abbrev drop_groups : List (List RowEntry) → List (List RowEntry)
  drop_groups [] = []
  drop_groups ([] ∷ gs) = drop_groups gs
  drop_groups ((r ∷ rows) ∷ gs) = if comes_before order r.key key then drop_groups gs else (r ∷ rows) ∷ gs

  module _ (different : Bool) (barrier : Option ℕ) where
    front_kept : (r : RowEntry) (gs : List (List RowEntry)) → comes_before order r.key key ≡ false → drop_groups (put_front (links different barrier) r gs) ≡ put_front (links different barrier) r gs
    front_kept r [] e = rw e refl
    front_kept r ([] ∷ gs) e = rw e refl
    front_kept r ((s ∷ rows) ∷ gs) e = elim (both (links different barrier r s)) as (λ _. drop_groups (put_front (links different barrier) r ((s ∷ rows) ∷ gs)) ≡ put_front (links different barrier) r ((s ∷ rows) ∷ gs)) [
      | inl b ↦ rw (b, e) refl
      | inr b ↦ rw (b, e) refl
    ]

    front_dropped : (r : RowEntry) (gs : List (List RowEntry)) → comes_before order r.key key ≡ true → drop_groups (put_front (links different barrier) r gs) ≡ drop_groups gs
    front_dropped r [] e = rw e refl
    front_dropped r ([] ∷ gs) e = rw e refl
    front_dropped r ((s ∷ rows) ∷ gs) e = elim (both (links different barrier r s)) as (λ _. drop_groups (put_front (links different barrier) r ((s ∷ rows) ∷ gs)) ≡ drop_groups ((s ∷ rows) ∷ gs)) [
      | inl b ↦ let too : comes_before order s.key key ≡ true = subst (λ l. comes_before order l key ≡ true) (sym (linked_key different barrier r s b)) e in rw (b, e, too) refl
      | inr b ↦ rw (b, e) refl
    ]

    cut_dropped : (rows : List RowEntry) → cut (links different barrier) (drop_before order key rows) ≡ drop_groups (cut (links different barrier) rows)
    cut_dropped [] = refl
    cut_dropped (r ∷ rows) = elim (both (comes_before order r.key key)) as (λ _. cut (links different barrier) (drop_before order key (r ∷ rows)) ≡ drop_groups (cut (links different barrier) (r ∷ rows))) [
      | inl e ↦ rw e (cut_dropped rows) ∙ sym (front_dropped r (cut (links different barrier) rows) e)
      | inr e ↦ rw e refl ∙ sym (front_kept r (cut (links different barrier) rows) e)
    ]

  folds_dropped : (c : List ℕ → Combine) (gs : List (List RowEntry)) → AllByRecursion IsOfKey gs → drop_before order key (filter_map (fold_group c) gs) ≡ filter_map (fold_group c) (drop_groups gs)
  folds_dropped c [] k = refl
  folds_dropped c ([] ∷ gs) k = absurd k.0
  folds_dropped c ((r ∷ rows) ∷ gs) k =
      let is = group_folds c r rows k.0 in
      ap (λ o. drop_before order key (cons_option o (filter_map (fold_group c) gs))) is.1
      ∙ (elim (both (comes_before order r.key key)) as (λ _. drop_before order key (is.0 ∷ filter_map (fold_group c) gs) ≡ filter_map (fold_group c) (drop_groups ((r ∷ rows) ∷ gs))) [
        | inl e ↦ rw (is.2, e) (folds_dropped c gs k.1)
        | inr e ↦ rw (is.2, e) (sym (ap (λ o. cons_option o (filter_map (fold_group c) gs)) is.1))
      ])

  pub folded_dropped : (c : List ℕ → Combine) (different : Bool) (barrier : Option ℕ) (rows : List RowEntry) → folded c different barrier (drop_before order key rows) ≡ drop_before order key (folded c different barrier rows)
  folded_dropped c different barrier rows = ap (filter_map (fold_group c)) (cut_dropped different barrier rows) ∙ sym (folds_dropped c (cut (links different barrier) rows) (cut_of_key different barrier rows))

-- ---- the first group

pub unlinked : (different : Bool) (barrier : Option ℕ) (r : RowEntry) (rows : List RowEntry) → is_open barrier r ≡ false → begins_linked (links different barrier) r rows ≡ false
unlinked different barrier r [] e = refl
unlinked different barrier r (s ∷ rows) e = ap (λ b. b && follows different r s) e

module _ (different : Bool) (barrier : Option ℕ) where
  -- linked rows are operands of one key
  pub linked_operands : (rows : List RowEntry) (oldest : RowEntry) → AreLinked (links different barrier) rows oldest → AreOperands rows
  linked_operands [] oldest h = tt
  linked_operands (r ∷ []) oldest h = (and_left (is_operand r) _ (and_left (is_open barrier r) _ h), tt)
  linked_operands (r ∷ s ∷ rows) oldest h = (and_left (is_operand r) _ (and_left (is_open barrier r) _ h.0), linked_operands (s ∷ rows) oldest h.1)

  linked_first : (r : RowEntry) (rows : List RowEntry) (oldest : RowEntry) → AreLinked (links different barrier) (r ∷ rows) oldest → oldest.key ≡ r.key
  linked_first r [] oldest h = linked_key different barrier r oldest h
  linked_first r (s ∷ rows) oldest h = linked_first s rows oldest h.1 ∙ linked_key different barrier r s h.0

module _ (c : List ℕ → Combine) (different : Bool) (barrier : Option ℕ) where
  group_of : (newer : List RowEntry) (oldest : RowEntry) → AreLinked (links different barrier) newer oldest → fold_group c (newer ++ (oldest ∷ [])) ≡ fold_rows (c oldest.key) (oldest ∷ reverse newer)
  group_of [] oldest h = refl
  group_of (r ∷ rows) oldest h =
      ap (λ k. fold_rows (c k) (reverse ((r ∷ rows) ++ (oldest ∷ [])))) (sym (linked_first different barrier r rows oldest h))
      ∙ ap (fold_rows (c oldest.key)) (reverse-append (r ∷ rows) (oldest ∷ []))

  pub folded_through : (r : RowEntry) (rows : List RowEntry) → is_open barrier r ≡ false → folded c different barrier (r ∷ rows) ≡ r ∷ folded c different barrier rows
  folded_through r rows e = ap (filter_map (fold_group c)) (cut_group (links different barrier) [] r rows tt (unlinked different barrier r rows e))

  pub folded_gathered : (newer : List RowEntry) (oldest row : RowEntry) (more : List RowEntry) → AreLinked (links different barrier) newer oldest → begins_linked (links different barrier) oldest more ≡ false
      → fold_rows (c oldest.key) (oldest ∷ reverse newer) ≡ Some row → folded c different barrier ((newer ++ (oldest ∷ [])) ++ more) ≡ row ∷ folded c different barrier more
  folded_gathered newer oldest row more h apart fold =
      ap (folded c different barrier) (append_assoc newer (oldest ∷ []) more)
      ∙ ap (filter_map (fold_group c)) (cut_group (links different barrier) newer oldest more h apart)
      ∙ ap (λ o. cons_option o (folded c different barrier more)) (group_of newer oldest h ∙ fold)
