-- The order of keys is total, and tests by it chain.
use Rattle.std.proofs.Common.{◌≡◌, ℕ, Bool, true, false, List, bytes_eq, refl, sym, ap, ◌∙◌, Ordering, Less, Equal, Greater}
use Rattle.std.specs.Ordering.{is_eq, is_lt, is_le, ordering_reverse}
use Rattle.std.proofs.lemmas.Cmp.{nat_list_cmp_total, tied_itself}
use Rattle.std.proofs.lemmas.Map.Text.{is_eq-slice_cmp}
use Rattle.std.proofs.lemmas.Slice.Eq.{bytes_eq-Decides}
use Rattle.slate_types.specs.Keys.{key_cmp, key_lt, key_le}

pub equal_keys : (a b : List ℕ) → key_cmp a b ≡ Equal → a ≡ b
equal_keys a b e = (bytes_eq-Decides a b).0 (sym (is_eq-slice_cmp a b) ∙ ap is_eq e)

pub turned_key : (a b : List ℕ) → key_cmp a b ≡ ordering_reverse (key_cmp b a)
turned_key a b = nat_list_cmp_total.antisymm a b

-- keys as bytes
pub bytes_eq_same : (a : List ℕ) → bytes_eq a a ≡ true
bytes_eq_same a = (bytes_eq-Decides a a).1 refl

pub bytes_eq_below : (a b : List ℕ) → key_cmp a b ≡ Less → bytes_eq a b ≡ false
bytes_eq_below a b e = sym (is_eq-slice_cmp a b) ∙ ap is_eq e

pub bytes_eq_above : (a b : List ℕ) → key_cmp a b ≡ Less → bytes_eq b a ≡ false
bytes_eq_above a b e = sym (is_eq-slice_cmp b a) ∙ ap is_eq (turned_key b a ∙ ap ordering_reverse e)

pub is_less : (o : Ordering) → is_lt o ≡ true → o ≡ Less
is_less Less h = refl
is_less Equal h = cc
is_less Greater h = cc

less_is_le : (o : Ordering) → is_lt o ≡ true → is_le o ≡ true
less_is_le Less h = refl
less_is_le Equal h = cc
less_is_le Greater h = cc

reversed_le : (o : Ordering) → is_lt o ≡ false → is_le (ordering_reverse o) ≡ true
reversed_le Less h = cc
reversed_le Equal h = refl
reversed_le Greater h = refl

reversed_lt : (o : Ordering) → is_le o ≡ false → is_lt (ordering_reverse o) ≡ true
reversed_lt Less h = cc
reversed_lt Equal h = cc
reversed_lt Greater h = refl

pub lt_le : (a b : List ℕ) → key_lt a b ≡ true → key_le a b ≡ true
lt_le a b h = less_is_le (key_cmp a b) h

pub not_lt : (a b : List ℕ) → key_lt a b ≡ false → key_le b a ≡ true
not_lt a b h = ap is_le (turned_key b a) ∙ reversed_le (key_cmp a b) h

pub not_le : (a b : List ℕ) → key_le a b ≡ false → key_lt b a ≡ true
not_le a b h = ap is_lt (turned_key b a) ∙ reversed_lt (key_cmp a b) h

pub le_lt_trans : (a b c : List ℕ) → key_le a b ≡ true → key_lt b c ≡ true → key_lt a c ≡ true
le_lt_trans a b c h k = by (key_cmp a b) refl h
  where
    by : (o : Ordering) → key_cmp a b ≡ o → is_le o ≡ true → key_lt a c ≡ true
    by Less e m = ap is_lt (nat_list_cmp_total.trans a b c e (is_less (key_cmp b c) k))
    by Equal e m = ap is_lt (nat_list_cmp_total.congr a b c e) ∙ k
    by Greater e m = cc

pub lt_le_trans : (a b c : List ℕ) → key_lt a b ≡ true → key_le b c ≡ true → key_lt a c ≡ true
lt_le_trans a b c h k = by (key_cmp b c) refl k
  where
    by : (o : Ordering) → key_cmp b c ≡ o → is_le o ≡ true → key_lt a c ≡ true
    by Less e m = ap is_lt (nat_list_cmp_total.trans a b c (is_less (key_cmp a b) h) e)
    by Equal e m = ap (λ x. key_lt a x) (sym (equal_keys b c e)) ∙ h
    by Greater e m = cc

pub lt_trans : (a b c : List ℕ) → key_lt a b ≡ true → key_lt b c ≡ true → key_lt a c ≡ true
lt_trans a b c h k = le_lt_trans a b c (lt_le a b h) k

-- what is not below either is not below
pub not_lt_trans : (a b c : List ℕ) → key_lt a b ≡ false → key_lt b c ≡ false → key_lt a c ≡ false
not_lt_trans a b c h k = by (key_lt a c) refl
  where
    by : (t : Bool) → key_lt a c ≡ t → t ≡ false
    by true e = sym (le_lt_trans b a c (not_lt a b h) e) ∙ k
    by false e = refl

pub lt_irreflexive : {A : Type 0} (a : List ℕ) → key_lt a a ≡ true → A
lt_irreflexive a h = let is : false ≡ true = sym (ap is_lt (tied_itself nat_list_cmp_total a)) ∙ h in cc
