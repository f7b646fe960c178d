-- Steps over rows of which operands are folded.
use Rattle.std.proofs.Common.{◌≡◌, ◌⊎◌, inl, inr, ℕ, ◌&&◌, Bool, true, false, List, [], ◌∷◌, ◌++◌, Option, Some, None, refl, sym, ap, subst, ◌∙◌, append_assoc, reverse}
use Rattle.std.specs.Prelude.{IfSome, is_some}
use Rattle.slate_types.specs.declared.error.SlateDBError.{SlateDBError}
use Rattle.slate_types.specs.declared.error.SlateDBError.TheVariants.{MergeOperatorMissing}
use Rattle.slate_types.specs.declared.iter.IterationOrder.{IterationOrder}
use Rattle.slate_types.specs.declared.types.RowEntry.{RowEntry}
use Rattle.slate_types.specs.Fold.{fold_rows, operator_at}
use Rattle.slate_types.specs.Iteration.{IsInOrder, TakesRow}
use Rattle.slate_types.specs.Outside.{Act, IsFault, IsLater, Meaning, Reach}
use Rattle.slate_types.specs.Refusing.{NoMore}
use Rattle.slate_types.specs.Steps.{Step}
use Rattle.slate_types.specs.World.{World, IsCall, Made, Sees}
use Rattle.slate_types.proofs.Calls.{call_both, call_none, checks_none, met, sees_first, sees_last}
use Rattle.slate_types.proofs.Moves.{Moves}
use Rattle.slate_types.proofs.Reaching.{fault_earlier}
use Rattle.slate_merge.specs.Offers.{offers}
use Rattle.slate_merge.specs.Folding.{AreLinked, begins_linked, folded, follows, is_open, links}
use Rattle.slate_merge.specs.FoldedLaws.{folded_gathered, folded_through}
use Rattle.slate_merge.specs.Folds.{Blames, BlamesNext, Taken, folds_held, hands_out, refuses_folds, refuses_taken, rest_folds, rest_taken, sound_taken, takes_ahead}
use Rattle.slate_merge.specs.Peeking.{TakesAhead, with_ahead}
use Rattle.slate_merge.proofs.FoldBringings.{Came, ahead_held, folds_less, held_less, open_brought}
use Rattle.slate_merge.proofs.Risings.{fault_blames, own_blames}

-- rows behind others in order are in order
pub in_order_behind : (order : IterationOrder) (front rows : List RowEntry) → IsInOrder order (front ++ rows) → IsInOrder order rows
in_order_behind order [] rows h = h
in_order_behind order (r ∷ front) rows h = in_order_behind order front rows h.1

-- a row that isn't folded into the last one
pub not_followed : (different : Bool) (barrier : Option ℕ) (oldest row : RowEntry) (rows : List RowEntry) → follows different oldest row ≡ false → begins_linked (links different barrier) oldest (row ∷ rows) ≡ false
not_followed different barrier oldest row rows e = by (is_open barrier oldest) (follows different oldest row) e
  where
    by : (a b : Bool) → b ≡ false → (a && b) ≡ false
    by true b h = h
    by false b h = refl

-- and one that is
pub is_linked : (different : Bool) (barrier : Option ℕ) (oldest row : RowEntry) → is_open barrier oldest ≡ true → follows different oldest row ≡ true → links different barrier oldest row ≡ true
is_linked different barrier oldest row opened followed = (λ i. opened i && follows different oldest row) ∙ followed

pub no_operator : (a b : Reach) (has : Bool) → b.meaning ≡ a.meaning → has ≡ is_some b.meaning.combine → has ≡ false → a.meaning.combine ≡ None
no_operator a b has same is false_is = by a.meaning.combine (sym (ap (λ (p : Meaning). is_some p.combine) same) ∙ sym is ∙ false_is)
  where
    by : {A : Type 0} (o : Option A) → is_some o ≡ false → o ≡ None
    by None h = refl
    by (Some x) h = cc

-- nothing was asked
pub call_moves : {A : Type 0} (rest : A → World → List RowEntry) (sound : A → World → Type 0) (refuses : A → Meaning → List Act → Option (List ℕ) → SlateDBError → Type 0) (a b : Reach) (x : A) → IsCall a b [] → Moves rest sound refuses a b x x
call_moves rest sound refuses a b x call = record {
  rows = λ w sees h. refl;
  still = λ w sees h. h;
  checked = λ w h known began parts. inl (met w a b known [] parts began call tt);
  made = ([], call, λ later at e h. h);
}

module _ {S : Type 0} (rest : S → World → List RowEntry) (sound : S → World → Type 0) (refuses : S → Meaning → List Act → Option (List ℕ) → SlateDBError → Type 0) (order_of : S → IterationOrder) where
  -- a source's row is taken, behind others
  pub row_moves : (takes : S → Meaning → List Act → Option RowEntry → S → Type 0) (a b : Reach) (x y : S) (taken : List RowEntry) (row : RowEntry) → order_of y ≡ order_of x → Step rest sound refuses takes a b x (Some row) y →
      Moves (rest_taken rest) (sound_taken rest sound order_of) (refuses_taken refuses) a b (x, None, taken) (y, None, taken ++ (row ∷ []))
  row_moves takes a b x y taken row order s = record {
    rows = same;
    still = λ w sees h. (s.still w sees h.0, subst (λ (o : IterationOrder). IsInOrder o ((taken ++ (row ∷ [])) ++ rest y w)) (sym order) (subst (IsInOrder (order_of x)) (sym (same w sees h)) h.1));
    checked = λ w h. s.checked w h.0;
    made = (s.taken.0, s.taken.1, s.taken.2.1);
  }
    where
      same : (w : World) → Sees w a b → sound_taken rest sound order_of (x, None, taken) w → (taken ++ (row ∷ [])) ++ rest y w ≡ taken ++ rest x w
      same w sees h = append_assoc taken (row ∷ []) (rest y w) ∙ ap (λ (l : List RowEntry). taken ++ l) (sym (s.rows w sees h.0))

  -- and read ahead
  pub ahead_moves : (takes : S → Meaning → List Act → Option RowEntry → S → Type 0) (a b : Reach) (x y : S) (taken : List RowEntry) (row : RowEntry) → order_of y ≡ order_of x → Step rest sound refuses takes a b x (Some row) y →
      Moves (rest_taken rest) (sound_taken rest sound order_of) (refuses_taken refuses) a b (x, None, taken) (y, Some row, taken)
  ahead_moves takes a b x y taken row order s = record {
    rows = same;
    still = λ w sees h. (s.still w sees h.0, subst (λ (o : IterationOrder). IsInOrder o (taken ++ (row ∷ rest y w))) (sym order) (subst (IsInOrder (order_of x)) (sym (same w sees h)) h.1));
    checked = λ w h. s.checked w h.0;
    made = (s.taken.0, s.taken.1, s.taken.2.1);
  }
    where
      same : (w : World) → Sees w a b → sound_taken rest sound order_of (x, None, taken) w → taken ++ (row ∷ rest y w) ≡ taken ++ rest x w
      same w sees h = ap (λ (l : List RowEntry). taken ++ l) (sym (s.rows w sees h.0))

  -- the source is spent
  pub spent_moves : (takes : S → Meaning → List Act → Option RowEntry → S → Type 0) (a b : Reach) (x y : S) (taken : List RowEntry) → order_of y ≡ order_of x → Step rest sound refuses takes a b x None y →
      Moves (rest_taken rest) (sound_taken rest sound order_of) (refuses_taken refuses) a b (x, None, taken) (y, None, taken)
  spent_moves takes a b x y taken order s = record {
    rows = same;
    still = λ w sees h. (s.still w sees h.0, subst (λ (o : IterationOrder). IsInOrder o (taken ++ rest y w)) (sym order) (subst (IsInOrder (order_of x)) (sym (same w sees h)) h.1));
    checked = λ w h. s.checked w h.0;
    made = (s.taken.0, s.taken.1, s.taken.2.1);
  }
    where
      same : (w : World) → Sees w a b → sound_taken rest sound order_of (x, None, taken) w → taken ++ rest y w ≡ taken ++ rest x w
      same w sees h = ap (λ (l : List RowEntry). taken ++ l) ((s.rows w sees h.0).1 ∙ sym (s.rows w sees h.0).0)

  -- ---- the first row

  pub ahead_step : (takes : S → Meaning → List Act → Option RowEntry → S → Type 0) (t : Reach) (x : S) (ahead : Option RowEntry) (row : RowEntry) → ahead ≡ Some row →
      Step (rest_taken rest) (sound_taken rest sound order_of) (refuses_taken refuses) (takes_ahead takes) t t (x, ahead, []) (Some row) (x, None, [])
  ahead_step takes t x ahead row is = record {
    rows = λ w sees h. ap (λ (o : Option RowEntry). with_ahead o (rest x w)) is;
    still = λ w sees h. (h.0, (subst (λ (o : Option RowEntry). IsInOrder (order_of x) (with_ahead o (rest x w))) is h.1).1);
    checked = λ w h. checks_none w t;
    taken = ([], call_none t, (subst (λ (o : Option RowEntry). TakesAhead (λ u rs a v. takes u t.meaning rs a v) o [] (Some row) x x) (sym is) (refl, refl, refl), λ later at e h. h));
  }

  in_order_after : (order : IterationOrder) (rows after : List RowEntry) (answer : Option RowEntry) → TakesRow rows answer after → IsInOrder order rows → IsInOrder order after
  in_order_after order rows after None t h = subst (IsInOrder order) (sym t.1) tt
  in_order_after order rows after (Some row) t h = (subst (IsInOrder order) t h).1

  pub next_step : (takes : S → Meaning → List Act → Option RowEntry → S → Type 0) (a b : Reach) (x y : S) (ahead answer : Option RowEntry) → ahead ≡ None → order_of y ≡ order_of x → Step rest sound refuses takes a b x answer y →
      Step (rest_taken rest) (sound_taken rest sound order_of) (refuses_taken refuses) (takes_ahead takes) a b (x, ahead, []) answer (y, None, [])
  next_step takes a b x y ahead answer none order s = record {
    rows = rows;
    still = λ w sees h. (s.still w sees h.0, subst (λ (o : IterationOrder). IsInOrder o (rest y w)) (sym order) (in_order_after (order_of x) (with_ahead ahead (rest x w)) (rest y w) answer (rows w sees h) h.1));
    checked = λ w h. s.checked w h.0;
    taken = (s.taken.0, s.taken.1, (subst (λ (o : Option RowEntry). TakesAhead (λ u rs c v. takes u a.meaning rs c v) o s.taken.0 answer x y) (sym none) s.taken.2.0, s.taken.2.1));
  }
    where
      rows : (w : World) → Sees w a b → sound_taken rest sound order_of (x, ahead, []) w → TakesRow (with_ahead ahead (rest x w)) answer (rest y w)
      rows w sees h = subst (λ (o : Option RowEntry). TakesRow (with_ahead o (rest x w)) answer (rest y w)) (sym none) (s.rows w sees h.0)

  -- the first row was taken
  pub first_moves : (takes : Taken S → Meaning → List Act → Option RowEntry → Taken S → Type 0) (a b : Reach) (x y : S) (ahead : Option RowEntry) (row : RowEntry) → order_of y ≡ order_of x →
      Step (rest_taken rest) (sound_taken rest sound order_of) (refuses_taken refuses) takes a b (x, ahead, []) (Some row) (y, None, []) →
      Moves (rest_taken rest) (sound_taken rest sound order_of) (refuses_taken refuses) a b (x, ahead, []) (y, None, row ∷ [])
  first_moves takes a b x y ahead row order s = record {
    rows = λ w sees h. sym (s.rows w sees h);
    still = λ w sees h. ((s.still w sees h).0, subst (λ (o : IterationOrder). IsInOrder o (row ∷ rest y w)) (sym order) (subst (IsInOrder (order_of x)) (s.rows w sees h) h.1));
    checked = s.checked;
    made = (s.taken.0, s.taken.1, s.taken.2.1);
  }

  -- ---- a whole step

  module _ (begins : S → Meaning → List Act → S → Type 0) (takes : S → Meaning → List Act → Option RowEntry → S → Type 0) (seeks : S → Meaning → List Act → List ℕ → S → Type 0) where
    -- what a call hands out, and that it adds nothing to what may be refused
    abbrev pub HandsFolds : Option ℕ → Reach → Reach → S → Option RowEntry → Option RowEntry → S → Option RowEntry → Type 0
    HandsFolds barrier a b x ahead answer y more =
        Made a b (λ reads. hands_out {S = S} takes barrier (x, ahead, []) a.meaning reads answer (y, more, [])
        × NoMore (refuses_folds {S = S} refuses (offers begins takes seeks) (x, ahead, []) a.meaning) reads (refuses_folds {S = S} refuses (offers begins takes seeks) (y, more, []) a.meaning))

    hands : (barrier : Option ℕ) (a b : Reach) (x y : S) (ahead answer more : Option RowEntry) (reads : List Act) → IsCall a b reads → (a.meaning.combine ≡ None → IfSome answer (λ row. is_open barrier row ≡ false) × takes_ahead {S = S} takes (x, ahead, []) a.meaning reads answer (y, more, [])) →
        folds_held {S = S} takes (x, ahead, []) a.meaning reads (y, more, []) → NoMore (refuses x a.meaning) reads (refuses y a.meaning) → HandsFolds barrier a b x ahead answer y more
    hands barrier a b x y ahead answer more reads call plain held less = (
      reads,
      call,
      ((plain, held), folds_less (offers begins takes seeks) refuses a.meaning (x, ahead, []) (y, more, []) reads less (held_less begins takes seeks a.meaning x y ahead more reads held)),
    )

    -- nothing is folded
    alone : (barrier : Option ℕ) (a b : Reach) (x y : S) (ahead answer : Option RowEntry) → IfSome answer (λ row. is_open barrier row ≡ false) → Step (rest_taken rest) (sound_taken rest sound order_of) (refuses_taken refuses) (takes_ahead takes) a b (x, ahead, []) answer (y, None, []) → HandsFolds barrier a b x ahead answer y None
    alone barrier a b x y ahead answer closed s = hands barrier a b x y ahead answer None s.taken.0 s.taken.1 (λ none. (closed, s.taken.2.0)) (ahead_held takes a.meaning x y ahead answer s.taken.0 s.taken.2.0) s.taken.2.1

    pub folded_none : (different : Bool) (barrier : Option ℕ) (a b : Reach) (x y : S) (ahead more : Option RowEntry) → more ≡ None → Step (rest_taken rest) (sound_taken rest sound order_of) (refuses_taken refuses) (takes_ahead takes) a b (x, ahead, []) None (y, None, []) →
        Step (rest_folds different barrier rest) (sound_taken rest sound order_of) (refuses_folds refuses (offers begins takes seeks)) (hands_out takes barrier) a b (x, ahead, []) None (y, more, [])
    folded_none different barrier a b x y ahead more none s =
        subst (λ (o : Option RowEntry). Step (rest_folds different barrier rest) (sound_taken rest sound order_of) (refuses_folds refuses (offers begins takes seeks)) (hands_out takes barrier) a b (x, ahead, []) None (y, o, [])) (sym none)
        (record {
          rows = λ w sees h. (ap (folded (operator_at w.meaning.combine) different barrier) (s.rows w sees h).0, ap (folded (operator_at w.meaning.combine) different barrier) (s.rows w sees h).1);
          still = s.still;
          checked = s.checked;
          taken = alone barrier a b x y ahead None tt s;
        })

    pub through_step : (different : Bool) (barrier : Option ℕ) (a b : Reach) (x y : S) (ahead more : Option RowEntry) (row : RowEntry) → more ≡ None → is_open barrier row ≡ false → Step (rest_taken rest) (sound_taken rest sound order_of) (refuses_taken refuses) (takes_ahead takes) a b (x, ahead, []) (Some row) (y, None, []) →
        Step (rest_folds different barrier rest) (sound_taken rest sound order_of) (refuses_folds refuses (offers begins takes seeks)) (hands_out takes barrier) a b (x, ahead, []) (Some row) (y, more, [])
    through_step different barrier a b x y ahead more row none closed s =
        subst (λ (o : Option RowEntry). Step (rest_folds different barrier rest) (sound_taken rest sound order_of) (refuses_folds refuses (offers begins takes seeks)) (hands_out takes barrier) a b (x, ahead, []) (Some row) (y, o, [])) (sym none)
        (record {
          rows = λ w sees h. ap (folded (operator_at w.meaning.combine) different barrier) (s.rows w sees h) ∙ folded_through (operator_at w.meaning.combine) different barrier row (rest y w) closed;
          still = s.still;
          checked = s.checked;
          taken = alone barrier a b x y ahead (Some row) closed s;
        })

    pub folded_step : (different : Bool) (barrier : Option ℕ) (a b : Reach) (x y : S) (ahead more : Option RowEntry) (newer : List RowEntry) (oldest row : RowEntry) →
        Moves (rest_taken rest) (sound_taken rest sound order_of) (refuses_taken refuses) a b (x, ahead, []) (y, more, newer ++ (oldest ∷ [])) → AreLinked (links different barrier) newer oldest →
        ((w : World) → Sees w a b → sound_taken rest sound order_of (x, ahead, []) w → begins_linked (links different barrier) oldest (with_ahead more (rest y w)) ≡ false) →
        fold_rows (operator_at a.meaning.combine oldest.key) (oldest ∷ reverse newer) ≡ Some row → (a.meaning.combine ≡ None → ⊥) → Came takes refuses a b x ahead y more →
        Step (rest_folds different barrier rest) (sound_taken rest sound order_of) (refuses_folds refuses (offers begins takes seeks)) (hands_out takes barrier) a b (x, ahead, []) (Some row) (y, more, [])
    folded_step different barrier a b x y ahead more newer oldest row m linked ends fold some came = record {
      rows = λ w sees h. ap (folded (operator_at w.meaning.combine) different barrier) (sym (m.rows w sees h))
          ∙ folded_gathered (operator_at w.meaning.combine) different barrier newer oldest row (with_ahead more (rest y w)) linked (ends w sees h)
          (subst (λ (p : Meaning). fold_rows (operator_at p.combine oldest.key) (oldest ∷ reverse newer) ≡ Some row) (sym sees.meaning) fold);
      still = λ w sees h. ((m.still w sees h).0, in_order_behind (order_of y) (newer ++ (oldest ∷ [])) (with_ahead more (rest y w)) (m.still w sees h).1);
      checked = m.checked;
      taken = hands barrier a b x y ahead (Some row) more came.0 came.1 (λ none. absurd (some none)) came.2.0 came.2.1;
    }

    -- what a call refuses for
    abbrev pub RefusesFolds : Bool → Option ℕ → Reach → Reach → S → Option RowEntry → SlateDBError → S → Type 0
    RefusesFolds different barrier a b x ahead e y =
        Made a b (λ reads. (IsFault a b e ⊎ refuses_folds {S = S} refuses (offers begins takes seeks) (x, ahead, []) a.meaning reads None e) × BlamesNext refuses takes different barrier ahead a.meaning reads None e x y)

    pub source_blames : (different : Bool) (barrier : Option ℕ) (a b : Reach) (x y : S) (ahead : Option RowEntry) (e : SlateDBError) → Made a b (λ reads. IsFault a b e ⊎ refuses x a.meaning reads None e) → RefusesFolds different barrier a b x ahead e y
    source_blames different barrier a b x y ahead e (reads, call, why) = (reads, call, by why)
      where
        by : IsFault a b e ⊎ refuses x a.meaning reads None e → (IsFault a b e ⊎ refuses_folds {S = S} refuses (offers begins takes seeks) (x, ahead, []) a.meaning reads None e) × BlamesNext refuses takes different barrier ahead a.meaning reads None e x y
        by (inl k) = (inl k, fault_blames a b e k)
        by (inr k) = (inr (inl k), own_blames e k)

    -- an operand comes, and there is no operator
    pub open_blames : (different : Bool) (barrier : Option ℕ) (a b : Reach) (x y : S) (ahead : Option RowEntry) (row : RowEntry) (has : Bool) → Step (rest_taken rest) (sound_taken rest sound order_of) (refuses_taken refuses) (takes_ahead takes) a b (x, ahead, []) (Some row) (y, None, []) →
        is_open barrier row ≡ true → b.meaning ≡ a.meaning → has ≡ is_some b.meaning.combine → has ≡ false →
        RefusesFolds different barrier a b x ahead MergeOperatorMissing y
    open_blames different barrier a b x y ahead row has s opened same is false_is = (
      s.taken.0,
      s.taken.1,
      (
        inr (inr (open_brought begins takes seeks barrier a.meaning x y ahead s.taken.0 row s.taken.2.0 opened (no_operator a b has same is false_is))),
        (λ missing. inr (row, opened, s.taken.2.0), λ current next never. cc),
      ),
    )

-- what stands behind the rows that were gathered, in a call that took the first row before
pub gathered_ends : {A B : Type 0} (sound : A → World → Type 0) (later : B → World → Type 0) (P : World → Type 0) (a b c d : Reach) (x : A) (y : B) (r s : List Act) → IsCall a b r → IsCall b c s → IsCall c d [] →
    ((w : World) → Sees w a b → sound x w → later y w) → ((w : World) → Sees w b c → later y w → P w) → (w : World) → Sees w a d → sound x w → P w
gathered_ends sound later P a b c d x y r s f g l still ends w sees h =
    let upto = sees_first w a c d (r ++ s) [] (call_both a b c r s f g) l sees in
    ends w (sees_last w a b c r s f g upto) (still w (sees_first w a b c r s f g upto) h)

-- ---- refusals

-- a fault of the operator, since there is one
pub operator_blames : {own opens opened rising : Type 0} (a b c : Reach) (e : SlateDBError) (has : Bool) → IsLater a.faults b.faults → b.meaning ≡ a.meaning → has ≡ is_some a.meaning.combine → has ≡ true → IsFault b c e ⊎ ((e ≡ MergeOperatorMissing) × (b.meaning.combine ≡ None)) →
    (IsFault a c e ⊎ (own ⊎ opened)) × Blames e own opens rising
operator_blames a b c e has later same is true_is (inl k) = let here = fault_earlier a b c e later k in (inl here, fault_blames a c e here)
operator_blames a b c e has later same is true_is (inr k) =
    let none : a.meaning.combine ≡ None = subst (λ (p : Meaning). p.combine ≡ None) same k.1 in
    let no : is_some a.meaning.combine ≡ false = ap is_some none in
    let yes : is_some a.meaning.combine ≡ true = sym is ∙ true_is in cc

pub some_operator : (a b : Reach) (has : Bool) {A : Type 0} → b.meaning ≡ a.meaning → has ≡ is_some b.meaning.combine → has ≡ true → a.meaning.combine ≡ None → A
some_operator a b has same is true_is none =
    let no : is_some a.meaning.combine ≡ false = ap is_some none in
    let yes : is_some a.meaning.combine ≡ true = sym (ap (λ (p : Meaning). is_some p.combine) same) ∙ sym is ∙ true_is in cc
