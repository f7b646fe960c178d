-- Elements in turn.
--     both      a test holds, or doesn't
--     put_first      an element that none stands before is put first
--     none_earlier_put, none_earlier_put_all, none_earlier_chain      none stands before an element: among what was put in, and where it stands
--                                                                     before another
--     put_all_append      elements of two lists put in
--     in_turn_already      a list in turn stays as it is
--     are_in_turn_put, are_in_turn_all, in_turn_is      what is put in turn is in turn
--     filter_put, filter_put_all, filter_in_turn      what a filter keeps of all in turn is all that it keeps, in turn
--     put_swap      two elements, of which one stands before the other, can be put in either way round
use Rattle.std.proofs.Common.{◌≡◌, Bool, true, false, cond, List, [], ◌∷◌, ◌++◌, refl, sym, ap, ◌∙◌, inl, inr, ◌⊎◌, filter}
use Rattle.std.specs.Cmp.{IsStrictWeakOrder}
use Rattle.slate_types.specs.RowTurns.{NoneEarlier, AreInTurn}
use Rattle.slate_merge.specs.Merge.{put_in, put_all, in_turn}

pub both : (b : Bool) → (b ≡ true) ⊎ (b ≡ false)
both true = inl refl
both false = inr refl

module _ {X : Type 0} (before : X → X → Bool) where
  -- an element that none stands before comes first
  pub put_first : (x : X) (zs : List X) → NoneEarlier before x zs → put_in before x zs ≡ x ∷ zs
  put_first x [] h = refl
  put_first x (z ∷ zs) h = rw h.0 refl

  pub none_earlier_put : (x y : X) (zs : List X) → before y x ≡ false → NoneEarlier before x zs → NoneEarlier before x (put_in before y zs)
  none_earlier_put x y [] e h = (e, tt)
  none_earlier_put x y (z ∷ zs) e h =
      elim (both (before z y)) as (λ _. NoneEarlier before x (put_in before y (z ∷ zs))) [
        | inl p ↦ rw p (h.0, none_earlier_put x y zs e h.1)
        | inr p ↦ rw p (e, h)
      ]

  pub none_earlier_put_all : (x : X) (ys zs : List X) → NoneEarlier before x ys → NoneEarlier before x zs → NoneEarlier before x (put_all before ys zs)
  none_earlier_put_all x [] zs h k = k
  none_earlier_put_all x (y ∷ ys) zs h k = none_earlier_put x y (put_all before ys zs) h.0 (none_earlier_put_all x ys zs h.1 k)

  pub put_all_append : (xs ys zs : List X) → put_all before (xs ++ ys) zs ≡ put_all before xs (put_all before ys zs)
  put_all_append [] ys zs = refl
  put_all_append (x ∷ xs) ys zs = ap (put_in before x) (put_all_append xs ys zs)

  -- a list in turn stays as it is
  pub in_turn_already : (xs : List X) → AreInTurn before xs → in_turn before xs ≡ xs
  in_turn_already [] h = refl
  in_turn_already (x ∷ xs) h = ap (put_in before x) (in_turn_already xs h.1) ∙ put_first x xs h.0

  module _ (order : IsStrictWeakOrder before) where
    irreflexive : (x : X) → before x x ≡ false
    irreflexive x = elim (both (before x x)) as (λ _. before x x ≡ false) [ inl p ↦ order.one_way x x p | inr p ↦ p ]

    pub none_earlier_chain : (x y : X) (zs : List X) → before y x ≡ false → NoneEarlier before y zs → NoneEarlier before x zs
    none_earlier_chain x y [] e h = tt
    none_earlier_chain x y (z ∷ zs) e h = (order.chain z y x h.0 e, none_earlier_chain x y zs e h.1)

    pub are_in_turn_put : (x : X) (zs : List X) → AreInTurn before zs → AreInTurn before (put_in before x zs)
    are_in_turn_put x [] h = (tt, tt)
    are_in_turn_put x (z ∷ zs) h =
        elim (both (before z x)) as (λ _. AreInTurn before (put_in before x (z ∷ zs))) [
          | inl p ↦ rw p (none_earlier_put z x zs (order.one_way z x p) h.0, are_in_turn_put x zs h.1)
          | inr p ↦ rw p ((p, none_earlier_chain x z zs p h.0), h)
        ]

    pub are_in_turn_all : (xs zs : List X) → AreInTurn before zs → AreInTurn before (put_all before xs zs)
    are_in_turn_all [] zs h = h
    are_in_turn_all (x ∷ xs) zs h = are_in_turn_put x (put_all before xs zs) (are_in_turn_all xs zs h)

    -- all elements in turn are in turn
    pub in_turn_is : (xs : List X) → AreInTurn before (in_turn before xs)
    in_turn_is xs = are_in_turn_all xs [] tt

    -- what a filter keeps is put in the same places
    pub filter_put : (p : X → Bool) (x : X) (zs : List X) → AreInTurn before zs → p x ≡ true → filter p (put_in before x zs) ≡ put_in before x (filter p zs)
    filter_put p x [] h e = rw e refl
    filter_put p x (z ∷ zs) h e =
        elim (both (before z x)) as (λ _. filter p (put_in before x (z ∷ zs)) ≡ put_in before x (filter p (z ∷ zs))) [
          | inl b ↦ elim (both (p z)) as (λ _. filter p (put_in before x (z ∷ zs)) ≡ put_in before x (filter p (z ∷ zs))) [
            | inl q ↦ rw (b, q, b) (ap (λ l. z ∷ l) (filter_put p x zs h.1 e))
            | inr q ↦ rw (b, q) (filter_put p x zs h.1 e)
          ]
          | inr b ↦
              let none : NoneEarlier before x (filter p (z ∷ zs)) = none_kept x (z ∷ zs) (b, none_earlier_chain x z zs b h.0) in
              rw (b, e) (sym (put_first x (filter p (z ∷ zs)) none))
        ]
      where
        none_kept : (y : X) (ws : List X) → NoneEarlier before y ws → NoneEarlier before y (filter p ws)
        none_kept y [] k = tt
        none_kept y (w ∷ ws) k = elim (both (p w)) as (λ _. NoneEarlier before y (filter p (w ∷ ws))) [
          | inl q ↦ rw q (k.0, none_kept y ws k.1)
          | inr q ↦ rw q (none_kept y ws k.1)
        ]

    filter_put_none : (p : X → Bool) (x : X) (zs : List X) → p x ≡ false → filter p (put_in before x zs) ≡ filter p zs
    filter_put_none p x [] e = rw e refl
    filter_put_none p x (z ∷ zs) e =
        elim (both (before z x)) as (λ _. filter p (put_in before x (z ∷ zs)) ≡ filter p (z ∷ zs)) [
          | inl b ↦ rw b (ap (λ l. cond (p z) (z ∷ l) l) (filter_put_none p x zs e))
          | inr b ↦ rw (b, e) refl
        ]

    pub filter_put_all : (p : X → Bool) (xs zs : List X) → AreInTurn before zs → filter p (put_all before xs zs) ≡ put_all before (filter p xs) (filter p zs)
    filter_put_all p [] zs h = refl
    filter_put_all p (x ∷ xs) zs h =
        elim (both (p x)) as (λ _. filter p (put_all before (x ∷ xs) zs) ≡ put_all before (filter p (x ∷ xs)) (filter p zs)) [
          | inl e ↦ rw e (filter_put p x (put_all before xs zs) (are_in_turn_all xs zs h) e ∙ ap (put_in before x) (filter_put_all p xs zs h))
          | inr e ↦ rw e (filter_put_none p x (put_all before xs zs) e ∙ filter_put_all p xs zs h)
        ]

    -- a filter of all in turn is all that it keeps in turn
    pub filter_in_turn : (p : X → Bool) (xs : List X) → filter p (in_turn before xs) ≡ in_turn before (filter p xs)
    filter_in_turn p xs = filter_put_all p xs [] tt

    -- x stands before z, which doesn't stand behind y, so x stands before y
    before_chain : (x y z : X) → before z x ≡ false → before z y ≡ true → before x y ≡ true
    before_chain x y z h k = elim (both (before x y)) as (λ _. before x y ≡ true) [
      | inl e ↦ e
      | inr e ↦ let no = order.chain z x y h e in cc
    ]

    -- elements that don't stand alike can be put in either way round
    pub put_swap : (x y : X) (zs : List X) → before x y ≡ true → put_in before x (put_in before y zs) ≡ put_in before y (put_in before x zs)
    put_swap x y [] h =
        let back = order.one_way x y h in
        rw (h, back) refl
    put_swap x y (z ∷ zs) h =
        let back = order.one_way x y h in
        elim (both (before z x)) as (λ _. put_in before x (put_in before y (z ∷ zs)) ≡ put_in before y (put_in before x (z ∷ zs))) [
          | inl zx ↦
              let zy : before z y ≡ true = before_chain z y x (order.one_way z x zx) h in
              rw (zy, zx, zy) (ap (λ l. z ∷ l) (put_swap x y zs h))
          | inr zx ↦ elim (both (before z y)) as (λ _. put_in before x (put_in before y (z ∷ zs)) ≡ put_in before y (put_in before x (z ∷ zs))) [
            | inl zy ↦ rw (zy, zx, h, zy) refl
            | inr zy ↦ rw (zy, back, zx, h, zy) refl
          ]
        ]
