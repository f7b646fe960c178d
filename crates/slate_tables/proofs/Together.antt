-- Rows of one key come together where rows come in an order. slate_db has the same lemmas, and stands
-- beside this crate.
use Rattle.std.proofs.Common.{◌≡◌, ℕ, Bool, true, false, cond, List, [], ◌∷◌, filter, bytes_eq, refl, sym, ap, subst, ◌∙◌}
use Rattle.std.specs.Ordering.{is_le, is_lt}
use Rattle.std.specs.declared.cmp.Ordering.{Ordering}
use Rattle.std.specs.declared.cmp.Ordering.TheVariants.{Less, Equal, Greater}
use Rattle.std.proofs.lemmas.Slice.Eq.{bytes_eq-Decides}
use Rattle.slate_types.specs.declared.iter.IterationOrder.{IterationOrder}
use Rattle.slate_types.specs.declared.iter.IterationOrder.TheVariants.{Ascending, Descending}
use Rattle.slate_types.specs.declared.types.RowEntry.{RowEntry}
use Rattle.slate_types.specs.Iteration.{IsInOrder, NoneBefore, comes_before}
use Rattle.slate_types.specs.Keys.{key_cmp, key_le, key_lt}
use Rattle.slate_types.specs.Rows.{of_key}
use Rattle.slate_types.proofs.KeyOrder.{not_lt, equal_keys}

abbrev pub Rows : Type 0
Rows = List RowEntry

same_key : (k : List ℕ) → bytes_eq k k ≡ true
same_key k = (bytes_eq-Decides k k).1 refl

-- the rows of a key lead
abbrev pub Leads : List ℕ → Rows → Type 0
Leads k [] = Unit {0}
Leads k (r ∷ rows) = cond (bytes_eq r.key k) (Leads k rows) (of_key k rows ≡ [])

abbrev pub AreTogether : Rows → Type 0
AreTogether [] = Unit {0}
AreTogether (r ∷ rows) = Leads r.key rows × AreTogether rows

le_lt : (a b : List ℕ) → bytes_eq b a ≡ false → key_le a b ≡ true → key_lt a b ≡ true
le_lt a b apart h = by (key_cmp a b) refl h
  where
    by : (o : Ordering) → key_cmp a b ≡ o → is_le o ≡ true → is_lt o ≡ true
    by Less e h = refl
    by Equal e h = let same : a ≡ b = equal_keys a b e in let yes : bytes_eq b a ≡ true = ap (bytes_eq b) same ∙ same_key b in cc
    by Greater e h = cc

apart_back : (a b : List ℕ) → bytes_eq a b ≡ false → bytes_eq b a ≡ false
apart_back a b h = by (bytes_eq b a) refl
  where
    by : (t : Bool) → bytes_eq b a ≡ t → t ≡ false
    by true e = let yes : bytes_eq a b ≡ true = ap (bytes_eq a) ((bytes_eq-Decides b a).0 e) ∙ same_key a in cc
    by false e = refl

-- of two keys one comes before the other
pub one_before : (order : IterationOrder) (a k : List ℕ) → bytes_eq a k ≡ false → comes_before order a k ≡ false → comes_before order k a ≡ true
one_before Ascending a k apart h = le_lt k a apart (not_lt a k h)
one_before Descending a k apart h = le_lt a k (apart_back a k apart) (not_lt k a h)

none_behind : (order : IterationOrder) (k : List ℕ) (x : RowEntry) (rows : Rows) → comes_before order k x.key ≡ true → NoneBefore order x.key rows → of_key k rows ≡ []
none_behind order k x [] before h = refl
none_behind order k x (r ∷ rows) before h = by (bytes_eq r.key k) refl (none_behind order k x rows before h.1)
  where
    by : (b : Bool) → bytes_eq r.key k ≡ b → of_key k rows ≡ [] → cond b (r ∷ of_key k rows) (of_key k rows) ≡ []
    by true is later = let e : r.key ≡ k = (bytes_eq-Decides r.key k).0 is in let no : comes_before order k x.key ≡ false = sym (ap (λ j. comes_before order j x.key) e) ∙ h.0 in cc
    by false is later = later

order_leads : (order : IterationOrder) (k : List ℕ) (rows : Rows) → NoneBefore order k rows → IsInOrder order rows → Leads k rows
order_leads order k [] before h = tt
order_leads order k (r ∷ rows) before h = by (bytes_eq r.key k) refl (order_leads order k rows before.1 h.1)
  where
    by : (b : Bool) → bytes_eq r.key k ≡ b → Leads k rows → cond b (Leads k rows) (of_key k rows ≡ [])
    by true is later = later
    by false is later = none_behind order k r rows (one_before order r.key k is before.0) h.0

pub order_together : (order : IterationOrder) (rows : Rows) → IsInOrder order rows → AreTogether rows
order_together order [] h = tt
order_together order (r ∷ rows) h = (order_leads order r.key rows h.0 h.1, order_together order rows h.1)
