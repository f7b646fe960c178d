-- A fold of merged rows gives one row of each key. slate_db has the same lemmas, and stands beside
-- this crate.
use Rattle.std.proofs.Common.{◌≡◌, ℕ, Bool, true, false, cond, ◌&&◌, ◌||◌, List, [], ◌∷◌, filter, filter_map, flat_map, Option, Some, None, option_to_list, bytes_eq, refl, sym, ap, subst, ◌∙◌}
use Rattle.std.specs.List.{AllByRecursion, cons_option}
use Rattle.std.proofs.lemmas.Slice.Eq.{bytes_eq-Decides}
use Rattle.slate_types.specs.declared.iter.IterationOrder.{IterationOrder}
use Rattle.slate_types.specs.declared.types.RowEntry.{RowEntry}
use Rattle.slate_types.specs.Equality.{same_stamp}
use Rattle.slate_types.specs.Fold.{Combine}
use Rattle.slate_types.specs.RowTurns.{AreInTurn, NoneEarlier, row_before}
use Rattle.slate_types.specs.Rows.{is_operand, of_key}
use Rattle.slate_merge.specs.FoldedLaws.{IsOfKey, beyond, cut_first, cut_of_key, following, group_folds}
use Rattle.slate_merge.specs.Folding.{NoneRises, cut, fold_group, folded, links, put_front}
use Rattle.slate_merge.specs.Merge.{decided_after, decides, is_hidden, merged}
use Rattle.slate_merge.specs.MergeLaws.{merged_in_order, merged_in_turn}
use Rattle.slate_merge.proofs.FoldedKeys.{cut_whole}
use Rattle.slate_merge.proofs.FoldedTurns.{none_rises_in_turn}
use Rattle.slate_tables.proofs.Together.{AreTogether, Leads, Rows, order_together}
use Rattle.slate_types.proofs.Lists.{AllByRecursion_behind}

-- ---- rows of one key are one group

abbrev same_keys : RowEntry → RowEntry → Bool
same_keys r s = bytes_eq r.key s.key

abbrev is_headed : List ℕ → Rows → Bool
is_headed k [] = false
is_headed k (r ∷ rows) = bytes_eq r.key k

abbrev as_group : Rows → List Rows
as_group [] = []
as_group (r ∷ rows) = (r ∷ rows) ∷ []

abbrev add_first : RowEntry → List Rows → List Rows
add_first r [] = []
add_first r (g ∷ gs) = (r ∷ g) ∷ gs

either_key : (a b k : List ℕ) → bytes_eq a b ≡ true → bytes_eq b k ≡ bytes_eq a k
either_key a b k e = sym (ap (λ x. bytes_eq x k) ((bytes_eq-Decides a b).0 e))

turned_key : (a b : List ℕ) → bytes_eq a b ≡ false → bytes_eq b a ≡ false
turned_key a b e = by (bytes_eq b a) refl
  where
    by : (t : Bool) → bytes_eq b a ≡ t → t ≡ false
    by true f = let yes : bytes_eq a b ≡ true = (bytes_eq-Decides a b).1 (sym ((bytes_eq-Decides b a).0 f)) in let no : true ≡ false = sym yes ∙ e in no
    by false f = refl

lone_group : (k : List ℕ) (r : RowEntry) → filter (is_headed k) ((r ∷ []) ∷ []) ≡ as_group (of_key k (r ∷ []))
lone_group k r = by (bytes_eq r.key k)
  where
    by : (b : Bool) → cond b ((r ∷ []) ∷ []) [] ≡ as_group (cond b (r ∷ []) [])
    by true = refl
    by false = refl

module _ (k : List ℕ) (r s : RowEntry) (rows f : Rows) (gs : List Rows) (leads : cond (bytes_eq s.key r.key) (Leads r.key rows) (of_key r.key rows ≡ [])) (later : filter (is_headed k) ((s ∷ f) ∷ gs) ≡ as_group (of_key k (s ∷ rows))) where
  none_more : bytes_eq r.key s.key ≡ false → bytes_eq r.key k ≡ true → of_key k (s ∷ rows) ≡ []
  none_more apart is =
      let own : r.key ≡ k = (bytes_eq-Decides r.key k).0 is in
      let no : bytes_eq s.key r.key ≡ false = turned_key r.key s.key apart in
      let none : of_key r.key rows ≡ [] = subst (λ b. cond b (Leads r.key rows) (of_key r.key rows ≡ [])) no leads in
      subst (λ j. of_key j (s ∷ rows) ≡ []) own (ap (λ b. cond b (s ∷ of_key r.key rows) (of_key r.key rows)) no ∙ none)

  linked_group : (e : Bool) → bytes_eq r.key k ≡ e → bytes_eq s.key k ≡ e → cond e ((r ∷ s ∷ f) ∷ filter (is_headed k) gs) (filter (is_headed k) gs) ≡ as_group (cond e (r ∷ of_key k (s ∷ rows)) (of_key k (s ∷ rows)))
  linked_group true is too =
      let here : (s ∷ f) ∷ filter (is_headed k) gs ≡ (s ∷ of_key k rows) ∷ [] = subst (λ b. cond b ((s ∷ f) ∷ filter (is_headed k) gs) (filter (is_headed k) gs) ≡ as_group (cond b (s ∷ of_key k rows) (of_key k rows))) too later in
      ap (add_first r) here ∙ ap (λ b. as_group (r ∷ cond b (s ∷ of_key k rows) (of_key k rows))) (sym too)
  linked_group false is too =
      let here : filter (is_headed k) gs ≡ as_group (of_key k rows) = subst (λ b. cond b ((s ∷ f) ∷ filter (is_headed k) gs) (filter (is_headed k) gs) ≡ as_group (cond b (s ∷ of_key k rows) (of_key k rows))) too later in
      here ∙ ap (λ b. as_group (cond b (s ∷ of_key k rows) (of_key k rows))) (sym too)

  apart_group : bytes_eq r.key s.key ≡ false → (e : Bool) → bytes_eq r.key k ≡ e → cond e ((r ∷ []) ∷ filter (is_headed k) ((s ∷ f) ∷ gs)) (filter (is_headed k) ((s ∷ f) ∷ gs)) ≡ as_group (cond e (r ∷ of_key k (s ∷ rows)) (of_key k (s ∷ rows)))
  apart_group apart true is =
      ap (λ (l : List Rows). (r ∷ []) ∷ l) (later ∙ ap as_group (none_more apart is))
      ∙ ap (λ (l : Rows). (r ∷ l) ∷ []) (sym (none_more apart is))
  apart_group apart false is = later

  next_group : (b : Bool) → bytes_eq r.key s.key ≡ b → filter (is_headed k) (cond b ((r ∷ s ∷ f) ∷ gs) ((r ∷ []) ∷ (s ∷ f) ∷ gs)) ≡ as_group (of_key k (r ∷ s ∷ rows))
  next_group true e = linked_group (bytes_eq r.key k) refl (either_key r.key s.key k e)
  next_group false e = apart_group e (bytes_eq r.key k) refl

group_of : (k : List ℕ) (rows : Rows) → AreTogether rows → filter (is_headed k) (cut same_keys rows) ≡ as_group (of_key k rows)
group_of k [] h = refl
group_of k (r ∷ []) h = lone_group k r
group_of k (r ∷ s ∷ rows) h =
    let first = cut_first same_keys s rows in
    ap (λ (gs : List Rows). filter (is_headed k) (put_front same_keys r gs)) first
    ∙ next_group k r s rows (following same_keys s rows) (cut same_keys (beyond same_keys s rows)) h.0 (ap (filter (is_headed k)) (sym first) ∙ group_of k (s ∷ rows) h.1) (bytes_eq r.key s.key) refl

-- ---- the fold of a group has its key

module _ (c : List ℕ → Combine) where
  folds_of_key : (k : List ℕ) (gs : List Rows) → AllByRecursion IsOfKey gs → of_key k (filter_map (fold_group c) gs) ≡ filter_map (fold_group c) (filter (is_headed k) gs)
  folds_of_key k [] h = refl
  folds_of_key k ([] ∷ gs) h = absurd h.0
  folds_of_key k ((r ∷ rows) ∷ gs) h =
      ap (λ (o : Option RowEntry). of_key k (cons_option o (filter_map (fold_group c) gs))) is.1
      ∙ ap (λ (j : List ℕ). cond (bytes_eq j k) (is.0 ∷ of_key k (filter_map (fold_group c) gs)) (of_key k (filter_map (fold_group c) gs))) is.2
      ∙ by (bytes_eq r.key k) (folds_of_key k gs h.1)
    where
      is : (f : RowEntry) × (fold_group c (r ∷ rows) ≡ Some f) × (f.key ≡ r.key)
      is = group_folds c r rows h.0

      by : (b : Bool) → of_key k (filter_map (fold_group c) gs) ≡ filter_map (fold_group c) (filter (is_headed k) gs) →
          cond b (is.0 ∷ of_key k (filter_map (fold_group c) gs)) (of_key k (filter_map (fold_group c) gs)) ≡ filter_map (fold_group c) (cond b ((r ∷ rows) ∷ filter (is_headed k) gs) (filter (is_headed k) gs))
      by true e = ap (λ (l : Rows). is.0 ∷ l) e ∙ sym (ap (λ (o : Option RowEntry). cons_option o (filter_map (fold_group c) (filter (is_headed k) gs))) is.1)
      by false e = e

  one_fold : (rows : Rows) → filter_map (fold_group c) (as_group rows) ≡ option_to_list (fold_group c rows)
  one_fold [] = refl
  one_fold (r ∷ rows) = by (fold_group c (r ∷ rows))
    where
      by : (o : Option RowEntry) → cons_option o [] ≡ option_to_list o
      by None = refl
      by (Some f) = refl

-- ---- merged rows that dedup decided are linked by their keys alone

abbrev IsShownFirst : Option (List ℕ) → Rows → Type 0
IsShownFirst hidden [] = Unit {0}
IsShownFirst hidden (r ∷ rows) = is_hidden hidden r.key ≡ false

abbrev AreApart : Rows → Type 0
AreApart [] = Unit {0}
AreApart (r ∷ rows) = IsShownFirst (decides r) rows × AreApart rows

shown_first : (hidden : Option (List ℕ)) (rows : Rows) → IsShownFirst hidden (decided_after hidden rows)
shown_first hidden [] = tt
shown_first hidden (r ∷ rows) = by (is_hidden hidden r.key) refl (shown_first hidden rows)
  where
    by : (b : Bool) → is_hidden hidden r.key ≡ b → IsShownFirst hidden (decided_after hidden rows) → IsShownFirst hidden (cond b (decided_after hidden rows) (r ∷ decided_after (decides r) rows))
    by true e later = later
    by false e later = e

decided_apart : (hidden : Option (List ℕ)) (rows : Rows) → AreApart (decided_after hidden rows)
decided_apart hidden [] = tt
decided_apart hidden (r ∷ rows) = by (is_hidden hidden r.key) (decided_apart hidden rows) (decided_apart (decides r) rows)
  where
    by : (b : Bool) → AreApart (decided_after hidden rows) → AreApart (decided_after (decides r) rows) → AreApart (cond b (decided_after hidden rows) (r ∷ decided_after (decides r) rows))
    by true h k = h
    by false h k = (shown_first (decides r) rows, k)

none_decided : (before : RowEntry → RowEntry → Bool) (x : RowEntry) (hidden : Option (List ℕ)) (rows : Rows) → NoneEarlier before x rows → NoneEarlier before x (decided_after hidden rows)
none_decided before x hidden [] h = tt
none_decided before x hidden (r ∷ rows) h = by (is_hidden hidden r.key) (none_decided before x hidden rows h.1) (none_decided before x (decides r) rows h.1)
  where
    by : (b : Bool) → NoneEarlier before x (decided_after hidden rows) → NoneEarlier before x (decided_after (decides r) rows) → NoneEarlier before x (cond b (decided_after hidden rows) (r ∷ decided_after (decides r) rows))
    by true k l = k
    by false k l = (h.0, l)

turn_decided : (before : RowEntry → RowEntry → Bool) (hidden : Option (List ℕ)) (rows : Rows) → AreInTurn before rows → AreInTurn before (decided_after hidden rows)
turn_decided before hidden [] h = tt
turn_decided before hidden (r ∷ rows) h = by (is_hidden hidden r.key) (turn_decided before hidden rows h.1) (turn_decided before (decides r) rows h.1)
  where
    by : (b : Bool) → AreInTurn before (decided_after hidden rows) → AreInTurn before (decided_after (decides r) rows) → AreInTurn before (cond b (decided_after hidden rows) (r ∷ decided_after (decides r) rows))
    by true k l = k
    by false k l = (none_decided before r (decides r) rows h.0, l)

and_true : (b : Bool) → (b && true) ≡ b
and_true true = refl
and_true false = refl

linked_same : (r s : RowEntry) → is_hidden (decides r) s.key ≡ false → links true None r s ≡ same_keys r s
linked_same r s h = by (is_operand r) h
  where
    by : (b : Bool) → is_hidden (cond b None (Some r.key)) s.key ≡ false → ((b && true) && (bytes_eq r.key s.key && true)) ≡ bytes_eq r.key s.key
    by true h = and_true (bytes_eq r.key s.key)
    by false h = sym h

front_same : {X : Type 0} (f g : X → X → Bool) (x y : X) (ys : List X) (groups : List (List X)) → f x y ≡ g x y → put_front f x ((y ∷ ys) ∷ groups) ≡ put_front g x ((y ∷ ys) ∷ groups)
front_same f g x y ys groups e = ap (λ b. cond b ((x ∷ y ∷ ys) ∷ groups) ((x ∷ []) ∷ (y ∷ ys) ∷ groups)) e

cut_same : (rows : Rows) → AreApart rows → cut (links true None) rows ≡ cut same_keys rows
cut_same [] h = refl
cut_same (r ∷ []) h = refl
cut_same (r ∷ s ∷ rows) h =
    let first = cut_first same_keys s rows in
    ap (put_front (links true None) r) (cut_same (s ∷ rows) h.1 ∙ first)
    ∙ front_same (links true None) same_keys r s (following same_keys s rows) (cut same_keys (beyond same_keys s rows)) (linked_same r s h.0)
    ∙ ap (put_front same_keys r) (sym first)

-- lists that are merged stand in turn
pub merged_falls : (order : IterationOrder) (lists : List Rows) → NoneRises true None (merged order true lists)
merged_falls order lists = none_rises_in_turn order true None (merged order true lists) (turn_decided (row_before order) None (merged order false lists) (merged_in_turn order lists))

-- of each key that is merged one row is left, the fold of its rows
pub folded_of_key : (c : List ℕ → Combine) (order : IterationOrder) (lists : List Rows) (k : List ℕ) →
    of_key k (folded c true None (merged order true lists)) ≡ option_to_list (fold_group c (of_key k (merged order true lists)))
folded_of_key c order lists k =
    folds_of_key c k (cut (links true None) (merged order true lists)) (cut_of_key true None (merged order true lists))
    ∙ ap (λ (gs : List Rows). filter_map (fold_group c) (filter (is_headed k) gs))
    (cut_same (merged order true lists) (decided_apart None (merged order false lists)))
    ∙ ap (filter_map (fold_group c)) (group_of k (merged order true lists) (order_together order (merged order true lists) (merged_in_order order true lists)))
    ∙ one_fold c (of_key k (merged order true lists))

-- ---- what is true of the keys of rows is so of what they fold to

folds_keys : (Q : List ℕ → Type 0) (c : List ℕ → Combine) (gs : List Rows) → AllByRecursion IsOfKey gs → AllByRecursion (λ r. Q r.key) (flat_map (λ g. g) gs) → AllByRecursion (λ r. Q r.key) (filter_map (fold_group c) gs)
folds_keys Q c [] h k = tt
folds_keys Q c ([] ∷ gs) h k = absurd h.0
folds_keys Q c ((r ∷ rows) ∷ gs) h k =
    let is = group_folds c r rows h.0 in
    subst (λ (o : Option RowEntry). AllByRecursion (λ r. Q r.key) (cons_option o (filter_map (fold_group c) gs))) (sym is.1)
    (subst Q (sym is.2) k.0, folds_keys Q c gs h.1 (AllByRecursion_behind (λ r. Q r.key) rows (flat_map (λ (g : Rows). g) gs) k.1))

pub folded_keys : (Q : List ℕ → Type 0) (c : List ℕ → Combine) (different : Bool) (barrier : Option ℕ) (rows : Rows) → AllByRecursion (λ r. Q r.key) rows → AllByRecursion (λ r. Q r.key) (folded c different barrier rows)
folded_keys Q c different barrier rows h =
    folds_keys Q c (cut (links different barrier) rows) (cut_of_key different barrier rows)
    (subst (AllByRecursion (λ (r : RowEntry). Q r.key)) (sym (cut_whole (links different barrier) rows)) h)
