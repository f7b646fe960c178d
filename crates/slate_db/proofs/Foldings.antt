-- An iterator that folds, where it is going.
use Rattle.std.proofs.Common.{◌≡◌, ◌⊎◌, inl, inr, ℕ, Bool, true, false, ◌&&◌, List, [], ◌∷◌, Option, Some, None, refl, sym, ap, subst, ◌∙◌}
use Rattle.std.specs.List.{AllByRecursion}
use Rattle.slate_types.specs.declared.error.SlateDBError.{SlateDBError}
use Rattle.slate_types.specs.declared.error.SlateDBError.TheVariants.{IteratorNotInitialized, OutOfMemory}
use Rattle.slate_types.specs.declared.iter.IterationOrder.{IterationOrder}
use Rattle.slate_types.specs.declared.types.RowEntry.{RowEntry}
use Rattle.slate_types.specs.Outside.{Act, IsFault, Meaning, Reach}
use Rattle.slate_types.specs.Refusing.{IsDamage}
use Rattle.slate_types.specs.Rows.{is_base, is_operand}
use Rattle.slate_types.specs.World.{AnswersWorld, Made, Sees, World}
use Rattle.slate_types.proofs.Calls.{seen}
use Rattle.slate_merge.specs.declared.operator_iterator.MergeOperatorIterator.{MergeOperatorIterator}
use Rattle.slate_merge.specs.Folding.{is_open, is_within}
use Rattle.slate_merge.specs.Folds.{NoneOpen, RefusesBrought, refuses_folds, rest_taken, sound_taken}
use Rattle.slate_merge.specs.Offers.{Comes, Offer, Rises}
use Rattle.slate_merge.specs.OperatorIterators.{IsGoing, IsOperable, RefusesBy, SoundUnless, refuses_folding, sound_folding}
use Rattle.slate_db.specs.Sound.{AreBases}

-- ---- what it refuses for

by_going : (own : SlateDBError → Type 0) (refusal : Option SlateDBError) (begun : Bool) (e : SlateDBError) → refusal ≡ None → begun ≡ true → RefusesBy refusal begun own e → own e
by_going own None begun e none is (inl h) = let never : true ≡ false = sym is ∙ h.0 in cc
by_going own None begun e none is (inr h) = h
by_going own (Some kept) begun e none is h = cc

pub refuses_going : {S : Type 0} (own : SlateDBError → Type 0) (it : MergeOperatorIterator S) (e : SlateDBError) → IsGoing it → RefusesBy it.refusal it.begun own e → own e
refuses_going own it e going h = by_going own it.refusal it.begun e going.1 going.0 h

own_by : (own : SlateDBError → Type 0) (refusal : Option SlateDBError) (begun : Bool) (e : SlateDBError) → refusal ≡ None → own e → RefusesBy refusal begun own e
own_by own None begun e none h = inr h
own_by own (Some kept) begun e none h = cc

pub going_refuses : {S : Type 0} (own : SlateDBError → Type 0) (it : MergeOperatorIterator S) (e : SlateDBError) → IsGoing it → own e → RefusesBy it.refusal it.begun own e
going_refuses own it e going h = own_by own it.refusal it.begun e going.1 h

pub refuses_weaker : (own other : SlateDBError → Type 0) (refusal : Option SlateDBError) (begun : Bool) (e : SlateDBError) → (own e → other e) → RefusesBy refusal begun own e → RefusesBy refusal begun other e
refuses_weaker own other None begun e f (inl h) = inl h
refuses_weaker own other None begun e f (inr h) = inr (f h)
refuses_weaker own other (Some kept) begun e f h = h

-- ---- what it rests on

by_none : (P : Type 0) (refusal : Option SlateDBError) → refusal ≡ None → SoundUnless refusal P → P
by_none P None none h = h
by_none P (Some kept) none h = cc

module _ {S : Type 0} (rest : S → World → List RowEntry) (sound : S → World → Type 0) (order : S → IterationOrder) (it : MergeOperatorIterator S) (w : World) where
  pub sound_going : IsGoing it → sound_folding rest sound order it w → sound it.iterator w
  sound_going going h = (by_none (sound_taken rest sound order (it.iterator, it.ahead, []) w) it.refusal going.1 h).0

  -- in a world that it sees none of what its source refuses is damage
  pub whole_going : (refuses : S → Meaning → List Act → Option (List ℕ) → SlateDBError → Type 0) →
      ((x : S) (w : World) (reads : List Act) (at : Option (List ℕ)) (e : SlateDBError) → sound x w → AllByRecursion (AnswersWorld w) reads → refuses x w.meaning reads at e → ¬ IsDamage e) →
      IsGoing it → sound_folding rest sound order it w → (at : Option (List ℕ)) (e : SlateDBError) (reads : List Act) → AllByRecursion (AnswersWorld w) reads → refuses it.iterator w.meaning reads at e → ¬ IsDamage e
  whole_going refuses whole going h at e reads each r = whole it.iterator w reads at e (sound_going going h) each r

-- a seek asks no operator
no_seek : {Q : Type 0} (brings rises : RowEntry → Type 0) (m : Meaning) (key : List ℕ) (e : SlateDBError) → RefusesBrought brings rises m (Some key) e → Q
no_seek brings rises m key e (inl operand) = let never : Some key ≡ None = operand.refuses.0 in cc
no_seek brings rises m key e (inr rise) = let never : Some key ≡ None = rise.refuses.0 in cc

pub seek_undamaged : {S : Type 0} (rest : S → World → List RowEntry) (sound : S → World → Type 0) (order : S → IterationOrder) (refuses : S → Meaning → List Act → Option (List ℕ) → SlateDBError → Type 0) (offers : Option RowEntry → S → Meaning → List Act → Offer → Type 0) →
    ((x : S) (w : World) (reads : List Act) (at : Option (List ℕ)) (e : SlateDBError) → sound x w → AllByRecursion (AnswersWorld w) reads → refuses x w.meaning reads at e → ¬ IsDamage e) →
    (it : MergeOperatorIterator S) (w : World) (a b : Reach) (key : List ℕ) (e : SlateDBError) → Sees w a b → IsGoing it → sound_folding rest sound order it w →
    Made a b (λ reads. IsFault a b e ⊎ refuses_folding refuses offers it a.meaning reads (Some key) e) → IsFault a b e ⊎ Made a b (λ reads. refuses it.iterator a.meaning reads (Some key) e × ¬ IsDamage e)
seek_undamaged {S = S} rest sound order refuses offers whole it w a b key e sees going h made = by made.2
  where
    own : refuses_folds refuses offers (it.iterator, it.ahead, []) a.meaning made.0 (Some key) e → IsFault a b e ⊎ Made a b (λ reads. refuses it.iterator a.meaning reads (Some key) e × ¬ IsDamage e)
    own (inl r) = inr (made.0, made.1, (r, whole_going rest sound order it w refuses whole going h (Some key) e made.0 (seen w a b made.0 sees made.1) (subst (λ (m : Meaning). refuses it.iterator m made.0 (Some key) e) (sym sees.meaning) r)))
    own (inr brought) = no_seek (λ r. offers it.ahead it.iterator a.meaning made.0 (Comes r)) (λ r. offers it.ahead it.iterator a.meaning made.0 (Rises r)) a.meaning key e brought

    by : IsFault a b e ⊎ refuses_folding refuses offers it a.meaning made.0 (Some key) e → IsFault a b e ⊎ Made a b (λ reads. refuses it.iterator a.meaning reads (Some key) e × ¬ IsDamage e)
    by (inl k) = inl k
    by (inr k) = own (refuses_going (λ d. refuses_folds refuses offers (it.iterator, it.ahead, []) a.meaning made.0 (Some key) d) it e going k)

-- ---- operands

closed : (r : RowEntry) (within : Bool) → is_base r ≡ true → (is_operand r && within) ≡ false
closed r within h = by (is_operand r) refl h
  where
    by : (b : Bool) → is_operand r ≡ b → is_base r ≡ true → (b && within) ≡ false
    by true e h = let never : false ≡ true = (rw e at h) in cc
    by false e h = refl

pub bases_closed : (barrier : Option ℕ) (rows : List RowEntry) → AreBases rows → NoneOpen barrier rows
bases_closed barrier [] h = tt
bases_closed barrier (r ∷ rows) h = (closed r (is_within barrier r.seq) h.0, bases_closed barrier rows h.1)

pub not_open : (r : RowEntry) → (is_operand r && true) ≡ false → is_base r ≡ true
not_open r h = by (is_operand r) refl h
  where
    by : (b : Bool) → is_operand r ≡ b → (b && true) ≡ false → is_base r ≡ true
    by true e h = cc
    by false e h = rw e refl

-- where there is no barrier
closed_all : (rows : List RowEntry) → NoneOpen None rows → AreBases rows
closed_all [] h = tt
closed_all (r ∷ rows) h = (not_open r h.0, closed_all rows h.1)

pub closed_bases : (barrier : Option ℕ) (rows : List RowEntry) → barrier ≡ None → NoneOpen barrier rows → AreBases rows
closed_bases barrier rows none h = closed_all rows (subst (λ (b : Option ℕ). NoneOpen b rows) none h)
