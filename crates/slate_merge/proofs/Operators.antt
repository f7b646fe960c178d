-- What the calls of an iterator do that folds operands.
use Rattle.std.proofs.Common.{◌≡◌, ◌≢◌, ◌⊎◌, ◌≤◌, ◌<◌, inl, inr, arith, ℕ, Bool, true, false, List, [], ◌++◌, Option, Some, None, refl, sym, ap, subst, ◌∙◌}
use Rattle.std.specs.List.{AllByRecursion}
use Rattle.slate_types.specs.declared.error.SlateDBError.{SlateDBError}
use Rattle.slate_types.specs.declared.error.SlateDBError.TheVariants.{IteratorNotInitialized, OutOfMemory, StoreFault, Callback, BlockTransformError}
use Rattle.slate_types.specs.declared.iter.IterationOrder.{IterationOrder}
use Rattle.slate_types.specs.declared.types.RowEntry.{RowEntry}
use Rattle.slate_types.specs.Fold.{operator_at}
use Rattle.slate_types.specs.Iteration.{drop_before, IsInOrder, TakesRow}
use Rattle.slate_types.specs.Outside.{Act, Counts, IsCounted, IsFault, Meaning, Reach}
use Rattle.slate_types.specs.Refusing.{IsDamage, IsReady, NoMore, NoMoreBut}
use Rattle.slate_types.specs.World.{World, AnswersWorld, Made, Sees}
use Rattle.slate_types.proofs.Calls.{call_none, seen}
use Rattle.slate_merge.specs.declared.folding.Folding.{Folding}
use Rattle.slate_merge.specs.declared.operator_iterator.MergeOperatorIterator.{MergeOperatorIterator}
use Rattle.slate_merge.specs.NoMoreRows.{NoMoreRows}
use Rattle.slate_merge.specs.Folding.{folded}
use Rattle.slate_merge.specs.Folds.{BlamesNext, RefusesOffered, refuses_folds}
use Rattle.slate_merge.specs.Kept.{Copies}
use Rattle.slate_merge.specs.Offers.{Offer}
use Rattle.slate_merge.specs.OperatorIterators.{IsFolding, IsGoing, Keeps, KeepsIn, RefusesBy, SoundUnless, Stays, StaysIn, bound_unless, refuses_folding, rest_folding, rows_unless, sound_folding}
use Rattle.slate_merge.specs.OperatorLaws.{folding_whole}
use Rattle.slate_merge.specs.Peeking.{with_ahead}
use Rattle.slate_merge.proofs.FoldBringings.{folds_less}
use Rattle.slate_merge.proofs.Risings.{fault_blames, own_blames}

undamaged : (i j : Counts) (e : SlateDBError) → IsCounted i j e → ¬ IsDamage e
undamaged i j OutOfMemory h = λ d. d
undamaged i j StoreFault h = λ d. d
undamaged i j (Callback m) h = λ d. d
undamaged i j BlockTransformError h = λ d. d
undamaged i j _ h = absurd h

is_memory : (d : SlateDBError) → (d ≡ OutOfMemory) ⊎ (d ≢ OutOfMemory)
is_memory OutOfMemory = inl refl
is_memory d = inr (λ h. cc)

abbrev no_reads : List Act
no_reads = []

pub by_begun : {A : Type 0} {b : Bool} → b ≡ false → b ≡ true → A
by_begun new begun = let never : true ≡ false = sym begun ∙ new in cc

pub some_going : {A S : Type 0} (it : MergeOperatorIterator S) (kept : SlateDBError) → it.refusal ≡ Some kept → IsGoing it → A
some_going it kept is going = let never : Some kept ≡ None = sym is ∙ going.1 in cc

-- ---- by the refusal that is kept, or none

pub unless_rows : (refusal : Option SlateDBError) (rows after : List RowEntry) → refusal ≡ None → rows ≡ after → rows_unless refusal rows ≡ rows_unless refusal after
unless_rows refusal rows after none same = ap (rows_unless refusal) same

pub unless_takes : (refusal : Option SlateDBError) (rows after : List RowEntry) (answer : Option RowEntry) → refusal ≡ None → TakesRow rows answer after → TakesRow (rows_unless refusal rows) answer (rows_unless refusal after)
unless_takes refusal rows after answer none t = subst (λ (r : Option SlateDBError). TakesRow (rows_unless r rows) answer (rows_unless r after)) (sym none) t

pub unless_drops : (order : IterationOrder) (key : List ℕ) (refusal : Option SlateDBError) (rows after : List RowEntry) → refusal ≡ None → after ≡ drop_before order key rows → rows_unless refusal after ≡ drop_before order key (rows_unless refusal rows)
unless_drops order key refusal rows after none same = subst (λ (r : Option SlateDBError). rows_unless r after ≡ drop_before order key (rows_unless r rows)) (sym none) same

pub sound_of : (refusal : Option SlateDBError) (P : Type 0) → refusal ≡ None → SoundUnless refusal P → P
sound_of refusal P none h = subst (λ (r : Option SlateDBError). SoundUnless r P) none h

pub sound_unless : (refusal : Option SlateDBError) (P : Type 0) → refusal ≡ None → P → SoundUnless refusal P
sound_unless refusal P none h = subst (λ (r : Option SlateDBError). SoundUnless r P) (sym none) h

pub unless_smaller : (refusal : Option SlateDBError) (m n : ℕ) → refusal ≡ None → m < n → bound_unless refusal m < bound_unless refusal n
unless_smaller refusal m n none less = subst (λ (r : Option SlateDBError). bound_unless r m < bound_unless r n) (sym none) less

pub unless_no_larger : (refusal : Option SlateDBError) (m n : ℕ) → refusal ≡ None → m ≤ n → bound_unless refusal m ≤ bound_unless refusal n
unless_no_larger refusal m n none less = subst (λ (r : Option SlateDBError). bound_unless r m ≤ bound_unless r n) (sym none) less

pub kept_no_larger : (e : SlateDBError) (refusal : Option SlateDBError) (m n : ℕ) → KeepsIn e refusal → bound_unless refusal m ≤ n
kept_no_larger e None m n kept = absurd kept
kept_no_larger e (Some k) m n kept = omega arith

pub less_by : (refusal : Option SlateDBError) (old begun : Bool) (own more : SlateDBError → Type 0) (e : SlateDBError) → refusal ≡ None → begun ≡ true → (own e → more e) → RefusesBy refusal begun own e → RefusesBy refusal old more e
less_by refusal old begun own more e none is less h = subst (λ (r : Option SlateDBError). RefusesBy r old more e) (sym none) (by (subst (λ (r : Option SlateDBError). RefusesBy r begun own e) none h))
  where
    by : ((begun ≡ false) × (e ≡ IteratorNotInitialized)) ⊎ own e → ((old ≡ false) × (e ≡ IteratorNotInitialized)) ⊎ more e
    by (inl k) = let never : true ≡ false = sym is ∙ k.0 in cc
    by (inr k) = inr (less k)

module _ {S : Type 0} (refuses : S → Meaning → List Act → Option (List ℕ) → SlateDBError → Type 0) (offers : Option RowEntry → S → Meaning → List Act → Offer → Type 0) where
  pub folding_less : (it y : MergeOperatorIterator S) (m : Meaning) (reads : List Act) → it.refusal ≡ None → y.refusal ≡ it.refusal → y.begun ≡ true → NoMore (refuses_folds {S = S} refuses offers (it.iterator, it.ahead, []) m) reads (refuses_folds {S = S} refuses offers (y.iterator, y.ahead, []) m) →
      NoMore (refuses_folding refuses offers it m) reads (refuses_folding refuses offers y m)
  folding_less it y m reads none same begun less later at e h =
      less_by it.refusal it.begun y.begun (λ d. refuses_folds {S = S} refuses offers (y.iterator, y.ahead, []) m later at d) (λ d. refuses_folds {S = S} refuses offers (it.iterator, it.ahead, []) m (reads ++ later) at d) e none begun (less later at e)
      (subst (λ (r : Option SlateDBError). RefusesBy r y.begun (λ d. refuses_folds {S = S} refuses offers (y.iterator, y.ahead, []) m later at d) e) same h)

  pub source_less : (it y : MergeOperatorIterator S) (m : Meaning) (reads : List Act) → it.refusal ≡ None → y.refusal ≡ it.refusal → y.begun ≡ true → NoMore (refuses it.iterator m) reads (refuses y.iterator m) →
      NoMoreRows (offers it.ahead it.iterator m) reads (offers y.ahead y.iterator m) → NoMore (refuses_folding refuses offers it m) reads (refuses_folding refuses offers y m)
  source_less it y m reads none same begun less rows = folding_less it y m reads none same begun (folds_less offers refuses m (it.iterator, it.ahead, []) (y.iterator, y.ahead, []) reads less rows)

  pub folding_ready : (y : MergeOperatorIterator S) (m : Meaning) → y.refusal ≡ None → y.begun ≡ true → IsReady (refuses y.iterator m) → IsReady (refuses_folding refuses offers y m)
  folding_ready y m none begun ready reads at h = by (subst (λ (r : Option SlateDBError). RefusesBy r y.begun (λ d. refuses_folds {S = S} refuses offers (y.iterator, y.ahead, []) m reads at d) IteratorNotInitialized) none h)
    where
      by : ((y.begun ≡ false) × (IteratorNotInitialized ≡ IteratorNotInitialized)) ⊎ refuses_folds {S = S} refuses offers (y.iterator, y.ahead, []) m reads at IteratorNotInitialized → ⊥
      by (inl k) = let never : true ≡ false = sym begun ∙ k.0 in cc
      by (inr (inl k)) = ready reads at k
      by (inr (inr (inl k))) = let clash = k.refuses.1 in cc
      by (inr (inr (inr k))) = k.refuses.2

  -- ---- refusals

  module _ (takes : S → Meaning → List Act → Option RowEntry → S → Type 0) where
    abbrev pub Refused : Reach → Reach → MergeOperatorIterator S → Option (List ℕ) → SlateDBError → MergeOperatorIterator S → Type 0
    Refused a b it at e y = Made a b (λ reads. (IsFault a b e ⊎ refuses_folding refuses offers it a.meaning reads at e) × Stays refuses takes it a.meaning reads at e y × NoMoreBut e (refuses_folding refuses offers it a.meaning) reads (refuses_folding refuses offers y a.meaning))

    -- a kept refusal is answered again
    pub again_refused : (t : Reach) (it : MergeOperatorIterator S) (at : Option (List ℕ)) (kept e : SlateDBError) → it.refusal ≡ Some kept → Copies kept e → Refused t t it at e it
    again_refused t it at kept e is why = (
      [],
      call_none t,
      (
        blamed why,
        subst (λ (r : Option SlateDBError). StaysIn r it.begun at e ((no_reads ≡ []) × (it ≡ it)) (Keeps e it × BlamesNext refuses takes it.folding.merge_different_expire_ts it.folding.snapshot_barrier_seq it.ahead t.meaning [] at e it.iterator it.iterator)) (sym is) (why, (refl, refl)),
        λ later k d r. inl r,
      ),
    )
      where
        own : SlateDBError → Type 0
        own d = refuses_folds {S = S} refuses offers (it.iterator, it.ahead, []) t.meaning [] at d

        blamed : Copies kept e → IsFault t t e ⊎ refuses_folding refuses offers it t.meaning [] at e
        blamed (inr m) = inl (subst (IsCounted t.faults t.faults) (sym m) tt)
        blamed (inl same) = by (is_memory kept)
          where
            by : (kept ≡ OutOfMemory) ⊎ (kept ≢ OutOfMemory) → IsFault t t e ⊎ refuses_folding refuses offers it t.meaning [] at e
            by (inl m) = inl (subst (IsCounted t.faults t.faults) (sym (same ∙ m)) tt)
            by (inr other) = inr (subst (λ (r : Option SlateDBError). RefusesBy r it.begun (λ d. refuses_folds {S = S} refuses offers (it.iterator, it.ahead, []) t.meaning [] at d) e) (sym is) (other, same))

    -- it wasn't begun
    pub new_refused : (t : Reach) (it : MergeOperatorIterator S) (at : Option (List ℕ)) → it.refusal ≡ None → it.begun ≡ false → Refused t t it at IteratorNotInitialized it
    new_refused t it at none new = (
      [],
      call_none t,
      (
        inr (subst (λ (r : Option SlateDBError). RefusesBy r it.begun (λ d. refuses_folds {S = S} refuses offers (it.iterator, it.ahead, []) t.meaning [] at d) IteratorNotInitialized) (sym none) (inl (new, refl))),
        subst (λ (r : Option SlateDBError). StaysIn r it.begun at IteratorNotInitialized ((no_reads ≡ []) × (it ≡ it)) (Keeps IteratorNotInitialized it × BlamesNext refuses takes it.folding.merge_different_expire_ts it.folding.snapshot_barrier_seq it.ahead t.meaning [] at IteratorNotInitialized it.iterator it.iterator)) (sym none) (inl (new, refl, (refl, refl))),
        λ later k d r. inl r,
      ),
    )

    kept_alone : (e : SlateDBError) (refusal : Option SlateDBError) (begun : Bool) (own : SlateDBError → Type 0) (d : SlateDBError) → KeepsIn e refusal → RefusesBy refusal begun own d → d ≡ e
    kept_alone e None begun own d kept h = absurd kept
    kept_alone e (Some k) begun own d (inl is) h = h.1 ∙ is
    kept_alone e (Some k) begun own d (inr is) h = absurd (h.0 is)

    -- a refusal is kept
    pub keeps_refused : (a b : Reach) (it y : MergeOperatorIterator S) (z : S) (at : Option (List ℕ)) (e : SlateDBError) → it.refusal ≡ None → (it.begun ≡ false → at ≡ None) → Keeps e y → y.iterator ≡ z →
        Made a b (λ reads. (IsFault a b e ⊎ (refuses it.iterator a.meaning reads at e ⊎ RefusesOffered {S = S} offers (it.iterator, it.ahead, []) a.meaning reads at e)) × BlamesNext refuses takes it.folding.merge_different_expire_ts it.folding.snapshot_barrier_seq it.ahead a.meaning reads at e it.iterator z) →
        Refused a b it at e y
    keeps_refused a b it y z at e none begun kept same (reads, call, why) = (
      reads,
      call,
      (
        by why.0,
        subst (λ (r : Option SlateDBError). StaysIn r it.begun at e ((reads ≡ []) × (y ≡ it)) (Keeps e y × BlamesNext refuses takes it.folding.merge_different_expire_ts it.folding.snapshot_barrier_seq it.ahead a.meaning reads at e it.iterator y.iterator)) (sym none)
            (inr (begun, (kept, subst (λ (v : S). BlamesNext refuses takes it.folding.merge_different_expire_ts it.folding.snapshot_barrier_seq it.ahead a.meaning reads at e it.iterator v) (sym same) why.1))),
        λ later k d r. inr (kept_alone e y.refusal y.begun (λ f. refuses_folds {S = S} refuses offers (y.iterator, y.ahead, []) a.meaning later k f) d kept r),
      ),
    )
      where
        by : IsFault a b e ⊎ (refuses it.iterator a.meaning reads at e ⊎ RefusesOffered {S = S} offers (it.iterator, it.ahead, []) a.meaning reads at e) → IsFault a b e ⊎ refuses_folding refuses offers it a.meaning reads at e
        by (inl k) = inl k
        by (inr k) = inr (subst (λ (r : Option SlateDBError). RefusesBy r it.begun (λ d. refuses_folds {S = S} refuses offers (it.iterator, it.ahead, []) a.meaning reads at d) e) (sym none) (inr k))

    -- what the source refuses
    pub source_refused : (a b : Reach) (it y : MergeOperatorIterator S) (at : Option (List ℕ)) (e : SlateDBError) → it.refusal ≡ None → (it.begun ≡ false → at ≡ None) → Keeps e y →
        Made a b (λ reads. IsFault a b e ⊎ refuses it.iterator a.meaning reads at e) → Refused a b it at e y
    source_refused a b it y at e none begun kept (reads, call, why) = keeps_refused a b it y y.iterator at e none begun kept refl (reads, call, by why)
      where
        by : IsFault a b e ⊎ refuses it.iterator a.meaning reads at e → (IsFault a b e ⊎ (refuses it.iterator a.meaning reads at e ⊎ RefusesOffered {S = S} offers (it.iterator, it.ahead, []) a.meaning reads at e)) × BlamesNext refuses takes it.folding.merge_different_expire_ts it.folding.snapshot_barrier_seq it.ahead a.meaning reads at e it.iterator y.iterator
        by (inl k) = (inl k, fault_blames a b e k)
        by (inr k) = (inr (inl k), own_blames e k)

    -- and it is no damage in a world that the call met
    pub kept_still : (rest : S → World → List RowEntry) (sound : S → World → Type 0) (order : S → IterationOrder) →
        ((x : S) (w : World) (reads : List Act) (at : Option (List ℕ)) (e : SlateDBError) → sound x w → AllByRecursion (AnswersWorld w) reads → refuses x w.meaning reads at e → ¬ IsDamage e) →
        (a b : Reach) (it y : MergeOperatorIterator S) (at : Option (List ℕ)) (e : SlateDBError) → Keeps e y → Refused a b it at e y → (w : World) → Sees w a b → sound_folding rest sound order it w → sound_folding rest sound order y w
    kept_still rest sound order whole a b it y at e kept (reads, call, why) w sees k = by y.refusal _ kept
      where
        fine : IsFault a b e ⊎ refuses_folding refuses offers it a.meaning reads at e → ¬ IsDamage e
        fine (inl o) = undamaged a.faults b.faults e o
        fine (inr r) = folding_whole rest sound order refuses whole offers it w reads at e k (seen w a b reads sees call) (subst (λ (m : Meaning). refuses_folding refuses offers it m reads at e) (sym sees.meaning) r)

        by : (refusal : Option SlateDBError) (P : Type 0) → KeepsIn e refusal → SoundUnless refusal P
        by None P h = absurd h
        by (Some d) P (inl is) = subst (λ (f : SlateDBError). ¬ IsDamage f) (sym is) (fine why.0)
        by (Some d) P (inr is) = subst (λ (f : SlateDBError). ¬ IsDamage f) (sym is) (λ (f : IsDamage OutOfMemory). f)

-- ---- behind a refusal

pub kept_some : {A : Type 0} (e : SlateDBError) (refusal : Option SlateDBError) → KeepsIn e refusal → refusal ≡ None → A
kept_some e refusal kept none = let no : ⊥ = subst (KeepsIn e) none kept in absurd no

pub stays_keeps : (refusal : Option SlateDBError) (begun : Bool) (at : Option (List ℕ)) (e : SlateDBError) (same keeps : Type 0) (after : Option SlateDBError) → e ≢ IteratorNotInitialized → e ≢ OutOfMemory → (same → after ≡ refusal) → (keeps → KeepsIn e after) → StaysIn refusal begun at e same keeps → KeepsIn e after
stays_keeps None begun at e same keeps after ready room stood kept (inl h) = absurd (ready h.1)
stays_keeps None begun at e same keeps after ready room stood kept (inr h) = kept h.1
stays_keeps (Some k) begun at e same keeps after ready room stood kept h = by h.0
  where
    by : Copies k e → KeepsIn e after
    by (inl is) = subst (KeepsIn e) (sym (stood h.1)) (inl (sym is))
    by (inr is) = absurd (room is)

pub stays_again : (refusal : Option SlateDBError) (begun : Bool) (at : Option (List ℕ)) (e d : SlateDBError) (same keeps : Type 0) (after : Option SlateDBError) → KeepsIn e refusal → (same → after ≡ refusal) → StaysIn refusal begun at d same keeps → Copies e d × KeepsIn e after
stays_again None begun at e d same keeps after kept stood h = absurd kept
stays_again (Some k) begun at e d same keeps after kept stood h = (by kept h.0, subst (KeepsIn e) (sym (stood h.1)) kept)
  where
    by : Copies e k → Copies k d → Copies e d
    by (inl is) (inl too) = inl (too ∙ is)
    by (inl is) (inr out) = inr out
    by (inr is) (inl too) = inr (too ∙ is)
    by (inr is) (inr out) = inr out

-- ---- a new iterator

module _ {S : Type 0} where
  pub new_rest : (rest : S → World → List RowEntry) (source : S) (folding : Folding) (it : MergeOperatorIterator S) → IsFolding source folding it → (w : World) →
      rest_folding rest it w ≡ folded (operator_at w.meaning.combine) folding.merge_different_expire_ts folding.snapshot_barrier_seq (rest source w)
  new_rest rest source folding it h w = λ i. rows_unless (h.unrefused i) (folded (operator_at w.meaning.combine) (h.folds i).merge_different_expire_ts (h.folds i).snapshot_barrier_seq (with_ahead (h.none i) (rest (h.rows i) w)))

  pub new_sound : (rest : S → World → List RowEntry) (sound : S → World → Type 0) (order : S → IterationOrder) → ((x : S) (w : World) → sound x w → IsInOrder (order x) (rest x w)) →
      (source : S) (folding : Folding) (it : MergeOperatorIterator S) → IsFolding source folding it → (w : World) → sound source w → sound_folding rest sound order it w
  new_sound rest sound order rising source folding it h w s =
      let k = subst (λ (x : S). sound x w) (sym h.rows) s in
      sound_unless it.refusal _ h.unrefused (k, subst (λ (o : Option RowEntry). IsInOrder (order it.iterator) (with_ahead o (rest it.iterator w))) (sym h.none) (rising it.iterator w k))
