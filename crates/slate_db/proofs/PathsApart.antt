-- Tables of different flushes, and of different places in one, lie at different paths.
use Rattle.std.proofs.Common.{◌≡◌, ℕ, zero, suc, ◌+◌, ◌*◌, ◌/◌, ◌%◌, ◌^◌, ◌<◌, ◌≤◌, ◌⊎◌, inl, inr, List, [], ◌∷◌, ◌++◌, flat_map, length, refl, sym, ap, subst, ◌∙◌, arith, append-nil}
use native.Mathlib.Numerals.{unary_clauses}
use Rattle.std.proofs.Math.Nat.{mul_comm}
use Rattle.std.specs.Prelude.{codes, Some}
use Rattle.std.specs.List.{AllByRecursion}
use Rattle.std.proofs.lemmas.Bool.Decides.{nat_tests}
use Rattle.std.proofs.lemmas.List.{append_cancel_right}
use Rattle.std.proofs.Math.Arith.{mod-mul}
use Rattle.slate_types.specs.declared.types.Ulid.{Ulid}
use Rattle.slate_types.specs.Outside.{Objects}
use Rattle.slate_store.specs.Store.{object_at, with_object}
use Rattle.slate_store.proofs.StoreLaws.{others_stay, put_is_there}
use Rattle.slate_table.specs.Paths.{hex_digit, hex, path_of, table_id}
use Rattle.slate_db.specs.Flushed.{with_tables}
use Rattle.slate_db.specs.Installs.{root, ArePlaced, Holds, NumberedFrom}
use Rattle.slate_types.proofs.Lists.{AllByRecursion_append, AllByRecursion_behind, AllByRecursion_front}

digit_same : (a b : ℕ) → a < 16 → b < 16 → hex_digit a ≡ hex_digit b → a ≡ b
digit_same a b h k e = grind (arith, nat_tests)

first_same : {X : Type 0} (x y : X) (xs ys : List X) → x ∷ xs ≡ y ∷ ys → x ≡ y
first_same x y xs ys h = cc

rest_same : {X : Type 0} (x y : X) (xs ys : List X) → x ∷ xs ≡ y ∷ ys → xs ≡ ys
rest_same x y xs ys h = cc

below_16 : (a : ℕ) → a % 16 < 16
below_16 a = omega arith

more_power : (k : ℕ) → 16 ^ suc k ≡ 16 * 16 ^ k
more_power k = simp unary_clauses (mul_comm (16 ^ k) 16)

some_power : (k : ℕ) → 0 < 16 ^ k
some_power zero = omega arith
some_power (suc k) = let h : 0 < 16 ^ k = some_power k in omega (arith, more_power k)

-- the lowest k digits
hex_same : (k a b : ℕ) → hex k a ≡ hex k b → a % 16 ^ k ≡ b % 16 ^ k
hex_same zero a b h = omega arith
hex_same (suc k) a b h =
    let high : a / 16 ^ k % 16 ≡ b / 16 ^ k % 16 = digit_same _ _ (below_16 (a / 16 ^ k)) (below_16 (b / 16 ^ k)) (first_same _ _ _ _ h) in
    let low : a % 16 ^ k ≡ b % 16 ^ k = hex_same k a b (rest_same _ _ _ _ h) in
    let pow : 16 ^ suc k ≡ 16 * 16 ^ k = more_power k in
    ap (λ m. a % m) pow ∙ mod-mul a (omega arith) (some_power k) ∙ (λ i. high i * 16 ^ k + low i) ∙ sym (ap (λ m. b % m) pow ∙ mod-mul b (omega arith) (some_power k))

digits_same : (a b : ℕ) → path_of root a ≡ path_of root b → hex 32 a ≡ hex 32 b
digits_same a b h = append_cancel_right (hex 32 a) (hex 32 b) (codes ".sst") cc

pub one_id : (a b : ℕ) → a < 2 ^ 128 → b < 2 ^ 128 → path_of root a ≡ path_of root b → a ≡ b
one_id a b k l e = let same : a % 16 ^ 32 ≡ b % 16 ^ 32 = hex_same 32 a b (digits_same a b e) in omega (arith, same, k, l)

pub ids_same : (a b p q : ℕ) → a < 2 ^ 64 → b < 2 ^ 64 → p < 2 ^ 64 → q < 2 ^ 64 → path_of root (table_id a p) ≡ path_of root (table_id b q) → (a ≡ b) × (p ≡ q)
ids_same a b p q h k l n e = let same : table_id a p % 16 ^ 32 ≡ table_id b q % 16 ^ 32 = hex_same 32 (table_id a p) (table_id b q) (digits_same (table_id a p) (table_id b q) e) in (omega (arith, same), omega (arith, same))

-- the table of an earlier flush, or of an earlier place in this one
pub record IsEarlier (n p : ℕ) (t : Ulid × List ℕ) : Type 0 where
  pub number : ℕ
  pub place : ℕ
  pub id : t.0.0 ≡ table_id number place
  pub fits : place < 2 ^ 64
  pub earlier : (number < n) ⊎ ((number ≡ n) × (place < p))

pub earlier_apart : (n p : ℕ) (t : Ulid × List ℕ) → IsEarlier n p t → n < 2 ^ 64 → p < 2 ^ 64 → path_of root (table_id n p) ≡ path_of root t.0.0 → ⊥
earlier_apart n p t e fits place same = by e.earlier
  where
    by : (e.number < n) ⊎ ((e.number ≡ n) × (e.place < p)) → ⊥
    by (inl below) = let is = ids_same n e.number p e.place fits (omega arith) place e.fits (same ∙ ap (path_of root) e.id) in omega (arith, is.0)
    by (inr (number, below)) = let is = ids_same n e.number p e.place fits (omega arith) place e.fits (same ∙ ap (path_of root) e.id) in omega (arith, is.1)

pub still_earlier : (n p : ℕ) (ts : List (Ulid × List ℕ)) → AllByRecursion (IsEarlier n p) ts → AllByRecursion (IsEarlier n (p + 1)) ts
still_earlier n p [] h = tt
still_earlier n p (t ∷ ts) h = (record { number = h.0.number; place = h.0.place; id = h.0.id; fits = h.0.fits; earlier = by h.0.number h.0.place h.0.earlier }, still_earlier n p ts h.1)
  where
    by : (i q : ℕ) → (i < n) ⊎ ((i ≡ n) × (q < p)) → (i < n) ⊎ ((i ≡ n) × (q < p + 1))
    by i q (inl below) = inl below
    by i q (inr (same, below)) = inr (same, omega arith)

-- those of earlier flushes are before each place
pub later_place : (n p : ℕ) (ts : List (Ulid × List ℕ)) → AllByRecursion (IsEarlier n 0) ts →
    AllByRecursion (IsEarlier n p) ts
later_place n p [] h = tt
later_place n p (t ∷ ts) h = (
  record {
    number = h.0.number;
    place = h.0.place;
    id = h.0.id;
    fits = h.0.fits;
    earlier = by h.0.number h.0.place h.0.earlier;
  },
  later_place n p ts h.1,
)
  where
    by : (i q : ℕ) → (i < n) ⊎ ((i ≡ n) × (q < 0)) → (i < n) ⊎ ((i ≡ n) × (q < p))
    by i q (inl below) = inl below
    by i q (inr (same, below)) = absurd (omega (arith, below))

earlier_run : (i p n : ℕ) (ts : List (Ulid × List ℕ)) → ArePlaced i p ts → i < n → AllByRecursion (IsEarlier n 0) ts
earlier_run i p n [] h below = tt
earlier_run i p n (t ∷ ts) h below = (record { number = i; place = p; id = h.0; fits = h.1; earlier = inl below }, earlier_run i (p + 1) n ts h.2 below)

pub earlier_all : (i n : ℕ) (runs : List (List (Ulid × List ℕ))) → NumberedFrom i runs → i + length runs ≤ n → AllByRecursion (IsEarlier n 0) (flat_map (λ ts. ts) runs)
earlier_all i n [] h later = tt
earlier_all i n (ts ∷ runs) h later = AllByRecursion_append (IsEarlier n 0) ts (flat_map (λ us. us) runs) (earlier_run i 0 n ts h.0 (omega arith)) (earlier_all (i + 1) n runs h.1 (omega arith))

-- ---- what is held stays so

holds_still : (os : Objects) (path bytes : List ℕ) (ts : List (Ulid × List ℕ)) → AllByRecursion (λ t. path ≡ path_of root t.0.0 → ⊥) ts → Holds os ts → Holds (with_object os path bytes) ts
holds_still os path bytes [] apart h = tt
holds_still os path bytes (t ∷ ts) apart h = (others_stay os path bytes (path_of root t.0.0) apart.0 ∙ h.0, holds_still os path bytes ts apart.1 h.1)

apart_from : (n p : ℕ) (t : Ulid × List ℕ) (ts : List (Ulid × List ℕ)) → t.0.0 ≡ table_id n p → n < 2 ^ 64 → p < 2 ^ 64 → AllByRecursion (IsEarlier n p) ts → AllByRecursion (λ u. path_of root t.0.0 ≡ path_of root u.0.0 → ⊥) ts
apart_from n p t [] id fits place h = tt
apart_from n p t (u ∷ ts) id fits place h = (λ same. earlier_apart n p u h.0 fits place (sym (ap (path_of root) id) ∙ same), apart_from n p t ts id fits place h.1)

apart_later : (n p q : ℕ) (t : Ulid × List ℕ) (us : List (Ulid × List ℕ)) →
    t.0.0 ≡ table_id n p → n < 2 ^ 64 → p < 2 ^ 64 → p < q → ArePlaced n q us →
    AllByRecursion (λ u. path_of root t.0.0 ≡ path_of root u.0.0 → ⊥) us
apart_later n p q t [] id fits place later h = tt
apart_later n p q t (u ∷ us) id fits place later h = (
  λ same. let is = ids_same n n p q fits fits place h.1
      (sym (ap (path_of root) id) ∙ same ∙ ap (path_of root) h.0) in omega (arith, is.1, later),
  apart_later n p (q + 1) t us id fits place (omega (arith, later)) h.2,
)

-- tables of one flush are put, from the last down to a place
pub holds_puts : (os : Objects) (n p : ℕ) (ts us : List (Ulid × List ℕ)) → n < 2 ^ 64 →
    AllByRecursion (IsEarlier n p) ts → ArePlaced n p us → Holds os ts →
    Holds (with_tables os us) (ts ++ us)
holds_puts os n p ts [] fits earlier placed h = subst (Holds os) (sym (append-nil ts)) h
holds_puts os n p ts (u ∷ us) fits earlier placed h =
    let path : List ℕ = path_of root u.0.0 in
    let rest : Holds (with_tables os us) (ts ++ us) =
    holds_puts os n (p + 1) ts us fits (still_earlier n p ts earlier) placed.2 h in
    let left : Objects = with_object (with_tables os us) path u.1 in
    let first : Holds left ts = holds_still (with_tables os us) path u.1 ts
    (apart_from n p u ts placed.0 fits placed.1 earlier) (AllByRecursion_front _ ts us rest) in
    let last : Holds left us = holds_still (with_tables os us) path u.1 us
    (apart_later n p (p + 1) u us placed.0 fits placed.1 (omega arith) placed.2)
    (AllByRecursion_behind _ ts us rest) in
    AllByRecursion_append _ ts (u ∷ us) first
    (put_is_there (with_tables os us) path u.1, last)

-- and they alone change
pub others_keep : (os : Objects) (n p q : ℕ) (us : List (Ulid × List ℕ)) → n < 2 ^ 64 →
    p < 2 ^ 64 → p < q → ArePlaced n q us →
    object_at (with_tables os us) (path_of root (table_id n p))
    ≡ object_at os (path_of root (table_id n p))
others_keep os n p q [] fits place later placed = refl
others_keep os n p q (u ∷ us) fits place later placed =
    others_stay (with_tables os us) (path_of root u.0.0) u.1 (path_of root (table_id n p))
    (λ same. let is = ids_same n n p q fits fits place placed.1
    (sym same ∙ ap (path_of root) placed.0) in omega (arith, is.1, later))
    ∙ others_keep os n p (q + 1) us fits place (omega (arith, later)) placed.2
