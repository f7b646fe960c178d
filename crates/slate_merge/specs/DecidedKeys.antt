-- Of a key's rows in order dedup leaves those up to the first one that is no operand.
--     upto_base rows      the rows up to the first one that is no operand, or all
--     decided_key      the law
use Rattle.std.specs.Prelude.{ℕ, ◌≡◌, true, false, if◌then◌else◌, List, [], ◌∷◌, Option, Some, None, bytes_eq, refl}
use Rattle.std.proofs.Common.{sym, ap, ◌∙◌, subst, inl, inr}
use Rattle.std.specs.declared.cmp.Ordering.{Ordering}
use Rattle.std.specs.declared.cmp.Ordering.TheVariants.{Less, Equal, Greater}
use Rattle.std.specs.Ordering.{is_lt, is_le, is_eq}
use Rattle.std.proofs.lemmas.Map.Text.{is_eq-slice_cmp}
use Rattle.std.proofs.lemmas.Slice.Eq.{bytes_eq-Decides}
use Rattle.slate_types.specs.declared.types.RowEntry.{RowEntry}
use Rattle.slate_types.specs.declared.iter.IterationOrder.{IterationOrder}
use Rattle.slate_types.specs.declared.iter.IterationOrder.TheVariants.{Ascending, Descending}
use Rattle.slate_types.specs.Keys.{key_cmp, key_lt}
use Rattle.slate_types.specs.Rows.{is_operand, of_key}
use Rattle.slate_types.specs.Iteration.{comes_before, NoneBefore, IsInOrder}
use Rattle.slate_types.proofs.KeyOrder.{not_lt}
use Rattle.slate_merge.specs.Merge.{is_hidden, decides, decided_after, decided}
use Rattle.slate_merge.specs.Turns.{both}
use Rattle.slate_merge.specs.Rising.{none_before_decided}

abbrev pub upto_base : List RowEntry → List RowEntry
upto_base [] = []
upto_base (r ∷ rows) = if is_operand r then r ∷ upto_base rows else r ∷ []

same : (a b : List ℕ) → bytes_eq a b ≡ true → a ≡ b
same a b e = (bytes_eq-Decides a b).0 e

other : (a b : List ℕ) → bytes_eq a b ≡ false → bytes_eq b a ≡ false
other a b e = elim (both (bytes_eq b a)) as (λ _. bytes_eq b a ≡ false) [
  | inl k ↦ let no : bytes_eq a b ≡ true = (bytes_eq-Decides a b).1 (sym (same b a k)) in cc
  | inr k ↦ k
]

less_of : (o : Ordering) → is_le o ≡ true → is_eq o ≡ false → is_lt o ≡ true
less_of Less h e = refl
less_of Equal h e = cc
less_of Greater h e = cc

apart_less : (a b : List ℕ) → key_lt b a ≡ false → bytes_eq a b ≡ false → key_lt a b ≡ true
apart_less a b h e = less_of (key_cmp a b) (not_lt b a h) (is_eq-slice_cmp a b ∙ e)

-- a key that another doesn't come before, and isn't, comes before that
comes_first : (order : IterationOrder) (k s : List ℕ) → comes_before order s k ≡ false → bytes_eq k s ≡ false → comes_before order k s ≡ true
comes_first Ascending k s h e = apart_less k s h e
comes_first Descending k s h e = apart_less s k h (other k s e)

none_of : (order : IterationOrder) (k s : List ℕ) (rows : List RowEntry) → comes_before order k s ≡ true → NoneBefore order s rows → of_key k rows ≡ []
none_of order k s [] e h = refl
none_of order k s (r ∷ rows) e h = elim (both (bytes_eq r.key k)) as (λ _. of_key k (r ∷ rows) ≡ []) [
  | inl is ↦ let no : comes_before order r.key s ≡ true = subst (λ x. comes_before order x s ≡ true) (sym (same r.key k is)) e in let yes = h.0 in cc
  | inr is ↦ rw is (none_of order k s rows e h.1)
]

hidden_gone : (order : IterationOrder) (k : List ℕ) (rows : List RowEntry) → IsInOrder order rows → NoneBefore order k rows → of_key k (decided_after (Some k) rows) ≡ []
hidden_gone order k [] h n = refl
hidden_gone order k (r ∷ rows) h n = elim (both (bytes_eq k r.key)) as (λ _. of_key k (decided_after (Some k) (r ∷ rows)) ≡ []) [
  | inl is ↦ rw is (hidden_gone order k rows h.1 n.1)
  | inr is ↦ rw (is, other k r.key is) (none_of order k r.key (decided_after (decides r) rows) (comes_first order k r.key n.0 is) (none_before_decided order r.key (decides r) rows h.0))
]

not_hidden_by : (k : List ℕ) (r : RowEntry) → bytes_eq r.key k ≡ false → is_hidden (decides r) k ≡ false
not_hidden_by k r e = elim (both (is_operand r)) as (λ _. is_hidden (decides r) k ≡ false) [
  | inl o ↦ rw o refl
  | inr o ↦ rw o e
]

decided_of : (order : IterationOrder) (k : List ℕ) (hidden : Option (List ℕ)) (rows : List RowEntry) → is_hidden hidden k ≡ false → IsInOrder order rows → of_key k (decided_after hidden rows) ≡ upto_base (of_key k rows)
decided_of order k hidden [] n h = refl
decided_of order k hidden (r ∷ rows) n h = elim (both (bytes_eq r.key k)) as (λ _. of_key k (decided_after hidden (r ∷ rows)) ≡ upto_base (of_key k (r ∷ rows))) [
  | inl is ↦
      let shown : is_hidden hidden r.key ≡ false = subst (λ x. is_hidden hidden x ≡ false) (sym (same r.key k is)) n in
      elim (both (is_operand r)) as (λ _. of_key k (decided_after hidden (r ∷ rows)) ≡ upto_base (of_key k (r ∷ rows))) [
        | inl o ↦ rw (shown, is, o) (ap (λ l. r ∷ l) (decided_of order k None rows refl h.1))
        | inr o ↦
            let gone : of_key k (decided_after (Some r.key) rows) ≡ [] = subst (λ x. of_key k (decided_after (Some x) rows) ≡ []) (sym (same r.key k is)) (hidden_gone order k rows h.1 (subst (λ x. NoneBefore order x rows) (same r.key k is) h.0)) in
            rw (shown, is, o) (ap (λ l. r ∷ l) gone)
      ]
  | inr is ↦ elim (both (is_hidden hidden r.key)) as (λ _. of_key k (decided_after hidden (r ∷ rows)) ≡ upto_base (of_key k (r ∷ rows))) [
    | inl e ↦ rw (e, is) (decided_of order k hidden rows n h.1)
    | inr e ↦ rw (e, is) (decided_of order k (decides r) rows (not_hidden_by k r is) h.1)
  ]
]

pub decided_key : (order : IterationOrder) (key : List ℕ) (rows : List RowEntry) → IsInOrder order rows → of_key key (decided rows) ≡ upto_base (of_key key rows)
decided_key order key rows h = decided_of order key None rows refl h
