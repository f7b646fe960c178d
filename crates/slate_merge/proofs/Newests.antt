-- What the calls of an iterator do that hands out the newest row of each key first.
use Rattle.std.proofs.Common.{◌≡◌, ◌≢◌, ◌⊎◌, ◌≤◌, inl, inr, arith, length, ℕ, Bool, true, false, not, List, [], Option, Some, None, refl, sym, ap, subst, ◌∙◌}
use Rattle.std.specs.List.{AllByRecursion}
use Rattle.slate_types.specs.declared.bytes_range.BytesRange.{BytesRange}
use Rattle.slate_types.specs.declared.error.SlateDBError.{SlateDBError}
use Rattle.slate_types.specs.declared.error.SlateDBError.TheVariants.{IteratorNotInitialized, OutOfMemory, SeekKeyOutOfKeyRange, StoreFault, Callback, BlockTransformError}
use Rattle.slate_types.specs.declared.types.RowEntry.{RowEntry}
use Rattle.slate_types.specs.declared.iter.IterationOrder.{IterationOrder}
use Rattle.slate_types.specs.declared.iter.IterationOrder.TheVariants.{Ascending, Descending}
use Rattle.slate_types.specs.Outside.{Act, Counts, IsCounted, IsFault, Meaning, Reach}
use Rattle.slate_types.specs.Refusing.{IsDamage, IsReady, NoMore, NoMoreBut}
use Rattle.slate_types.specs.RowTurns.{AreInTurn, row_before}
use Rattle.slate_types.specs.World.{World, AnswersWorld, Checks, Made, Sees}
use Rattle.slate_types.proofs.Calls.{call_none, seen}
use Rattle.slate_types.proofs.KeyOrder.{le_lt_trans, lt_irreflexive, not_lt}
use Rattle.slate_types.specs.Keys.{key_le, key_lt}
use Rattle.slate_merge.specs.declared.groups.Groups.{Groups}
use Rattle.slate_merge.specs.declared.newest_first.NewestFirst.{NewestFirst}
use Rattle.slate_merge.specs.declared.progress.Progress.{Progress}
use Rattle.slate_merge.specs.declared.progress.Progress.TheVariants.{New, Going, Refused}
use Rattle.slate_merge.specs.Groups.{IsOneKey, in_turn, newest_left, sound_grouped}
use Rattle.slate_merge.specs.NewestFirst.{Begins, IsGoing, IsKept, IsReached, IsUnrefused, bound_newest, RefusesSeek, Stays, StaysIn, is_below, refuses_newest, rest_newest, sound_newest}
use Rattle.slate_merge.specs.NewestLaws.{newest_whole}

undamaged : (i j : Counts) (e : SlateDBError) → IsCounted i j e → ¬ IsDamage e
undamaged i j OutOfMemory h = λ d. d
undamaged i j StoreFault h = λ d. d
undamaged i j (Callback m) h = λ d. d
undamaged i j BlockTransformError h = λ d. d
undamaged i j _ h = absurd h

unrefused_of : (s : Progress) → ((e : SlateDBError) → s ≡ Refused e → ⊥) → IsUnrefused s
unrefused_of New h = tt
unrefused_of (Going groups) h = tt
unrefused_of (Refused e) h = h e refl

pub going_of : (s : Progress) (groups : Groups) → s ≡ Going groups → IsGoing s
going_of s groups is = subst IsGoing (sym is) tt

is_memory : (d : SlateDBError) → (d ≡ OutOfMemory) ⊎ (d ≢ OutOfMemory)
is_memory OutOfMemory = inl refl
is_memory d = inr (λ h. cc)

never_begun : (range : BytesRange) (at : Option (List ℕ)) → RefusesSeek range at IteratorNotInitialized → ⊥
never_begun range None h = absurd h
never_begun range (Some key) h = let clash = h.1 in cc

pub below_included : (key start : List ℕ) → key_lt key start ≡ not (key_le start key)
below_included key start = by (key_lt key start) refl
  where
    by : (t : Bool) → key_lt key start ≡ t → t ≡ not (key_le start key)
    by true e = ap not (sym (above start key e))
      where
        above : (a k : List ℕ) → key_lt k a ≡ true → key_le a k ≡ false
        above a k lt = least (key_le a k) refl
          where
            least : (u : Bool) → key_le a k ≡ u → u ≡ false
            least true le = lt_irreflexive a (le_lt_trans a k a le lt)
            least false le = refl
    by false e = ap not (sym (not_lt key start e))

module _ {I : Type 0} (refuses : I → Meaning → List Act → Option (List ℕ) → SlateDBError → Type 0) where
  -- what goes on is ready
  going_ready : (range : BytesRange) (it : I) (s : Progress) (groups : Groups) (m : Meaning) → s ≡ Going groups → ((reads : List Act) (at : Option (List ℕ)) → ¬ refuses it m reads at IteratorNotInitialized) →
      (reads : List Act) (at : Option (List ℕ)) → refuses_newest refuses range it s m reads at IteratorNotInitialized → ⊥
  going_ready range it s groups m is ready reads at h = by (subst (λ (p : Progress). refuses_newest refuses range it p m reads at IteratorNotInitialized) is h)
    where
      by : refuses it m reads at IteratorNotInitialized ⊎ RefusesSeek range at IteratorNotInitialized → ⊥
      by (inl k) = ready reads at k
      by (inr k) = never_begun range at k

  -- a kept refusal is answered again
  pub again_refused : {W : Type 0} → W → (range : BytesRange) (it : I) (t : Reach) (s p : Progress) (kept e : SlateDBError) (at : Option (List ℕ)) → s ≡ Refused kept → p ≡ Refused kept → (e ≡ kept) ⊎ (e ≡ OutOfMemory) →
      Made t t (λ reads. (IsFault t t e ⊎ refuses_newest refuses range it s t.meaning reads at e) × W × NoMoreBut e (refuses_newest refuses range it s t.meaning) reads (refuses_newest refuses range it p t.meaning))
  again_refused {W} stays range it t s p kept e at is too why = ([], call_none t, (blamed why, stays, λ later k d r. inl (subst (λ (q : Progress). refuses_newest refuses range it q t.meaning later k d) (too ∙ sym is) r)))
    where
      blamed : (e ≡ kept) ⊎ (e ≡ OutOfMemory) → IsFault t t e ⊎ refuses_newest refuses range it s t.meaning [] at e
      blamed (inr m) = inl (subst (IsCounted t.faults t.faults) (sym m) tt)
      blamed (inl same) = by (is_memory kept)
        where
          by : (kept ≡ OutOfMemory) ⊎ (kept ≢ OutOfMemory) → IsFault t t e ⊎ refuses_newest refuses range it s t.meaning [] at e
          by (inl m) = inl (subst (IsCounted t.faults t.faults) (sym (same ∙ m)) tt)
          by (inr other) = inr (subst (λ (q : Progress). refuses_newest refuses range it q t.meaning [] at e) (sym is) (other, same))

  -- it is refused, and stands as it stood
  pub stands_refused : {W : Type 0} → W → (range : BytesRange) (it : I) (t : Reach) (s p : Progress) (at : Option (List ℕ)) (e : SlateDBError) → p ≡ s → IsFault t t e ⊎ refuses_newest refuses range it s t.meaning [] at e →
      Made t t (λ reads. (IsFault t t e ⊎ refuses_newest refuses range it s t.meaning reads at e) × W × NoMoreBut e (refuses_newest refuses range it s t.meaning) reads (refuses_newest refuses range it p t.meaning))
  stands_refused {W} stays range it t s p at e same why = ([], call_none t, (why, stays, λ later k d r. inl (subst (λ (q : Progress). refuses_newest refuses range it q t.meaning later k d) same r)))

  pub new_refuses : (range : BytesRange) (it : I) (t : Reach) (s : Progress) (at : Option (List ℕ)) → s ≡ New → IsFault t t IteratorNotInitialized ⊎ refuses_newest refuses range it s t.meaning [] at IteratorNotInitialized
  new_refuses range it t s at is = inr (subst (λ (q : Progress). refuses_newest refuses range it q t.meaning [] at IteratorNotInitialized) (sym is) (inl refl))

  pub below_refuses : (range : BytesRange) (it : I) (t : Reach) (s : Progress) (groups : Groups) (key : List ℕ) (e : SlateDBError) → s ≡ Going groups → is_below range key ≡ true → (e ≡ SeekKeyOutOfKeyRange key) ⊎ (e ≡ OutOfMemory) →
      IsFault t t e ⊎ refuses_newest refuses range it s t.meaning [] (Some key) e
  below_refuses range it t s groups key e is below (inl k) = inr (subst (λ (q : Progress). refuses_newest refuses range it q t.meaning [] (Some key) e) (sym is) (inr (below, k)))
  below_refuses range it t s groups key e is below (inr m) = inl (subst (IsCounted t.faults t.faults) (sym m) tt)

  pub going_fewer : (range : BytesRange) (m : Meaning) (reads : List Act) (y z : I) (groups more : Groups) → NoMore (refuses y m) reads (refuses z m) → NoMore (refuses_newest refuses range y (Going groups) m) reads (refuses_newest refuses range z (Going more) m)
  going_fewer range m reads y z groups more fewer later at e (inl r) = inl (fewer later at e r)
  going_fewer range m reads y z groups more fewer later at e (inr r) = inr r

  -- it answered, and goes on
  pub going_made : {W : Type 0} → W → (range : BytesRange) (a b : Reach) (y z : I) (s : Progress) (groups more : Groups) → s ≡ Going groups → Made a b (λ reads. NoMore (refuses y a.meaning) reads (refuses z a.meaning)) →
      Made a b (λ reads. W × NoMore (refuses_newest refuses range y s a.meaning) reads (refuses_newest refuses range z (Going more) a.meaning))
  going_made {W} goes range a b y z s groups more is (reads, call, fewer) =
      (reads, call, (goes, subst (λ (q : Progress). NoMore (refuses_newest refuses range y q a.meaning) reads (refuses_newest refuses range z (Going more) a.meaning)) (sym is) (going_fewer range a.meaning reads y z groups more fewer)))

module _ {I : Type 0} where
  pub stays_new : (it : NewestFirst I) (at : Option (List ℕ)) → it.progress ≡ New → Stays it at IteratorNotInitialized it
  stays_new it at is = (subst (λ (p : Progress). StaysIn it.range p at IteratorNotInitialized (it ≡ it) it.progress) (sym is) (inl (refl, refl)), refl)

  stays_refused : (before after : NewestFirst I) (at : Option (List ℕ)) (kept e : SlateDBError) → before.progress ≡ Refused kept → (e ≡ kept) ⊎ (e ≡ OutOfMemory) → after ≡ before → Stays before at e after
  stays_refused before after at kept e is why same = (subst (λ (p : Progress). StaysIn before.range p at e (after ≡ before) after.progress) (sym is) (why, same), ap (λ (x : NewestFirst I). x.range) same)

  pub stays_same : (it : NewestFirst I) (at : Option (List ℕ)) (kept e : SlateDBError) → it.progress ≡ Refused kept → (e ≡ kept) ⊎ (e ≡ OutOfMemory) → Stays it at e it
  stays_same it at kept e is why = stays_refused it it at kept e is why refl

  pub stays_again : (it : NewestFirst I) (at : Option (List ℕ)) (kept e : SlateDBError) → it.progress ≡ Refused kept → (e ≡ kept) ⊎ (e ≡ OutOfMemory) → Stays it at e (record it { progress = Refused kept })
  stays_again it at kept e is why = stays_refused it (record it { progress = Refused kept }) at kept e is why (ap (λ (p : Progress). record it { progress = p }) (sym is))

  pub stays_below : (it : NewestFirst I) (groups : Groups) (key : List ℕ) (e : SlateDBError) → it.progress ≡ Going groups → is_below it.range key ≡ true → (e ≡ SeekKeyOutOfKeyRange key) ⊎ (e ≡ OutOfMemory) → Stays it (Some key) e (record it { progress = Going groups })
  stays_below it groups key e is below why =
      let after = record it { progress = Going groups } in
      (subst (λ (p : Progress). StaysIn it.range p (Some key) e (after ≡ it) (Going groups)) (sym is) (inl ((below, why), ap (λ (p : Progress). record it { progress = p }) (sym is))), refl)

  pub stays_going : (before after : NewestFirst I) (groups : Groups) (at : Option (List ℕ)) (e : SlateDBError) → before.progress ≡ Going groups → IsReached before.range at → IsKept e after.progress → after.range ≡ before.range → Stays before at e after
  stays_going before after groups at e is reached kept range = (subst (λ (p : Progress). StaysIn before.range p at e (after ≡ before) after.progress) (sym is) (inr (reached, kept)), range)

  pub stays_begun : (before after : NewestFirst I) (e : SlateDBError) → ((d : SlateDBError) → before.progress ≡ Refused d → ⊥) → IsKept e after.progress → after.range ≡ before.range → Stays before None e after
  stays_begun before after e unrefused kept range = (by before.progress unrefused, range)
    where
      by : (p : Progress) → ((d : SlateDBError) → p ≡ Refused d → ⊥) → StaysIn before.range p None e (after ≡ before) after.progress
      by New h = inr (refl, kept)
      by (Going groups) h = inr (tt, kept)
      by (Refused d) h = absurd (h d refl)

module _ {I : Type 0} (rest : I → World → List RowEntry) (sound : I → World → Type 0) (order : I → IterationOrder) (refuses : I → Meaning → List Act → Option (List ℕ) → SlateDBError → Type 0) where
  -- a refusal that is kept is no damage in a world that the call met
  pub kept_still : ((x : I) (w : World) (reads : List Act) (at : Option (List ℕ)) (e : SlateDBError) → sound x w → AllByRecursion (AnswersWorld w) reads → refuses x w.meaning reads at e → ¬ IsDamage e) →
      (range : BytesRange) (a b : Reach) (it after : I) (s p : Progress) (at : Option (List ℕ)) (e : SlateDBError) → IsKept e p → Made a b (λ reads. IsFault a b e ⊎ refuses_newest refuses range it s a.meaning reads at e) →
      (w : World) → Sees w a b → sound_newest rest sound order it s w → sound_newest rest sound order after p w
  kept_still whole range a b it after s p at e kept (reads, call, why) w sees k = by kept
    where
      fine : IsFault a b e ⊎ refuses_newest refuses range it s a.meaning reads at e → ¬ IsDamage e
      fine (inl o) = undamaged a.faults b.faults e o
      fine (inr r) = newest_whole rest sound order refuses whole range it s w reads at e k (seen w a b reads sees call) (subst (λ (m : Meaning). refuses_newest refuses range it s m reads at e) (sym sees.meaning) r)

      by : IsKept e p → sound_newest rest sound order after p w
      by (inl is) = subst (λ (q : Progress). sound_newest rest sound order after q w) (sym is) (fine why)
      by (inr is) = subst (λ (q : Progress). sound_newest rest sound order after q w) (sym is) (λ (d : IsDamage OutOfMemory). d)

  -- what a source refuses
  pub going_refused : (range : BytesRange) (a b : Reach) (it : I) (s : Progress) (groups : Groups) (at : Option (List ℕ)) (e : SlateDBError) → s ≡ Going groups → Made a b (λ reads. IsFault a b e ⊎ refuses it a.meaning reads at e) →
      Made a b (λ reads. IsFault a b e ⊎ refuses_newest refuses range it s a.meaning reads at e)
  going_refused range a b it s groups at e is (reads, call, inl k) = (reads, call, inl k)
  going_refused range a b it s groups at e is (reads, call, inr k) = (reads, call, inr (subst (λ (p : Progress). refuses_newest refuses range it p a.meaning reads at e) (sym is) (inl k)))

  pub new_refused : (range : BytesRange) (a b : Reach) (it : I) (s : Progress) (at : Option (List ℕ)) (e : SlateDBError) → s ≡ New → Made a b (λ reads. IsFault a b e ⊎ refuses it a.meaning reads at e) →
      Made a b (λ reads. IsFault a b e ⊎ refuses_newest refuses range it s a.meaning reads at e)
  new_refused range a b it s at e is (reads, call, inl k) = (reads, call, inl k)
  new_refused range a b it s at e is (reads, call, inr k) = (reads, call, inr (subst (λ (p : Progress). refuses_newest refuses range it p a.meaning reads at e) (sym is) (inr (inl k))))

  pub going_checked : (a b : Reach) (it : I) (s : Progress) (groups : Groups) → s ≡ Going groups → ((w : World) → sound_grouped rest sound order (it, groups) w → Checks w a b) → (w : World) → sound_newest rest sound order it s w → Checks w a b
  going_checked a b it s groups is checked w k = checked w (subst (λ (p : Progress). sound_newest rest sound order it p w) is k)

  -- ---- the source was begun

  begun_rows : (a b : Reach) (y z : I) (s p : Progress) → order z ≡ order y → Begins s p → (w : World) → rest z w ≡ rest y w → rest_newest rest order z p w ≡ rest_newest rest order y s w
  begun_rows a b y z New New same h w is = absurd h
  begun_rows a b y z New (Going groups) same h w is = (λ i. newest_left (same i) (h.0 i) (h.1 i) (is i)) ∙ by (order y)
    where
      by : (o : IterationOrder) → newest_left o [] [] (rest y w) ≡ in_turn o (rest y w)
      by Ascending = refl
      by Descending = refl
  begun_rows a b y z New (Refused e) same h w is = absurd h
  begun_rows a b y z (Going groups) p same h w is = ap (λ (q : Progress). rest_newest rest order z q w) h ∙ (λ i. newest_left (same i) groups.ready.items groups.gathered.items (is i))
  begun_rows a b y z (Refused e) p same h w is = ap (λ (q : Progress). rest_newest rest order z q w) h

  begun_sound : (s : Progress) (it : I) (w : World) → ((e : SlateDBError) → s ≡ Refused e → ⊥) → sound_newest rest sound order it s w → sound it w
  begun_sound New it w unrefused k = k.0
  begun_sound (Going groups) it w unrefused k = k.0
  begun_sound (Refused e) it w unrefused k = absurd (unrefused e refl)

  begun_still : (y z : I) (s p : Progress) → order z ≡ order y → Begins s p → (w : World) → rest z w ≡ rest y w → sound z w → sound_newest rest sound order y s w → sound_newest rest sound order z p w
  begun_still y z New New same h w is k s = absurd h
  begun_still y z New (Going groups) same h w is k s = (
    k,
    record {
      turn = subst (λ (o : IterationOrder). AreInTurn (row_before o) (newest_left (order z) groups.ready.items groups.gathered.items (rest z w))) (sym same)
          (subst (AreInTurn (row_before (order y))) (sym ((λ i. newest_left (same i) (h.0 i) (h.1 i) (is i)) ∙ by (order y))) s.1);
      one_ready = subst IsOneKey (sym h.0) tt;
      one_gathered = subst IsOneKey (sym h.1) tt;
    },
  )
    where
      by : (o : IterationOrder) → newest_left o [] [] (rest y w) ≡ in_turn o (rest y w)
      by Ascending = refl
      by Descending = refl
  begun_still y z New (Refused e) same h w is k s = absurd h
  begun_still y z (Going groups) p same h w is k s = subst (λ (q : Progress). sound_newest rest sound order z q w) (sym h) (
    k,
    record {
      turn = subst (λ (o : IterationOrder). AreInTurn (row_before o) (newest_left (order z) groups.ready.items groups.gathered.items (rest z w))) (sym same)
          (subst (AreInTurn (row_before (order y))) (sym (λ i. newest_left (same i) groups.ready.items groups.gathered.items (is i))) s.1.turn);
      one_ready = s.1.one_ready;
      one_gathered = s.1.one_gathered;
    },
  )
  begun_still y z (Refused e) p same h w is k s = subst (λ (q : Progress). sound_newest rest sound order z q w) (sym h) s

  begun_fewer : (range : BytesRange) (m : Meaning) (reads : List Act) (y z : I) (s p : Progress) → Begins s p → NoMore (refuses y m) reads (refuses z m) → NoMore (refuses_newest refuses range y s m) reads (refuses_newest refuses range z p m)
  begun_fewer range m reads y z New New h fewer = absurd h
  begun_fewer range m reads y z New (Going groups) h fewer = by
    where
      by : NoMore (refuses_newest refuses range y New m) reads (refuses_newest refuses range z (Going groups) m)
      by later at e (inl r) = inr (inl (fewer later at e r))
      by later at e (inr r) = inr (inr r)
  begun_fewer range m reads y z New (Refused e) h fewer = absurd h
  begun_fewer range m reads y z (Going groups) p h fewer = subst (λ (q : Progress). NoMore (refuses_newest refuses range y (Going groups) m) reads (refuses_newest refuses range z q m)) (sym h) by
    where
      by : NoMore (refuses_newest refuses range y (Going groups) m) reads (refuses_newest refuses range z (Going groups) m)
      by later at e (inl r) = inl (fewer later at e r)
      by later at e (inr r) = inr r
  begun_fewer range m reads y z (Refused e) p h fewer = subst (λ (q : Progress). NoMore (refuses_newest refuses range y (Refused e) m) reads (refuses_newest refuses range z q m)) (sym h) (λ later at d r. r)

  begun_ready : (range : BytesRange) (m : Meaning) (y z : I) (s p : Progress) → ((e : SlateDBError) → s ≡ Refused e → ⊥) → Begins s p → IsReady (refuses z m) → IsReady (refuses_newest refuses range z p m)
  begun_ready range m y z New New unrefused h ready = absurd h
  begun_ready range m y z New (Going groups) unrefused h ready = going_ready refuses range z (Going groups) groups m refl ready
  begun_ready range m y z New (Refused e) unrefused h ready = absurd h
  begun_ready range m y z (Going groups) p unrefused h ready = going_ready refuses range z p groups m h ready
  begun_ready range m y z (Refused e) p unrefused h ready = absurd (unrefused e refl)

  pub record Begun (begins : I → Meaning → List Act → I → Type 0) (range : BytesRange) (a b : Reach) (y z : I) (s p : Progress) : Type 0 where
    pub rows : (w : World) → Sees w a b → sound_newest rest sound order y s w → rest_newest rest order z p w ≡ rest_newest rest order y s w
    pub still : (w : World) → Sees w a b → sound_newest rest sound order y s w → sound_newest rest sound order z p w
    pub checked : (w : World) → sound_newest rest sound order y s w → Checks w a b
    pub ready : IsReady (refuses_newest refuses range z p a.meaning)
    pub begun : Made a b (λ reads. (IsUnrefused s × Begins s p × begins y a.meaning reads z) × NoMore (refuses_newest refuses range y s a.meaning) reads (refuses_newest refuses range z p a.meaning))

  pub begun_of : (begins : I → Meaning → List Act → I → Type 0) (range : BytesRange) (a b : Reach) (y z : I) (s p : Progress) → ((e : SlateDBError) → s ≡ Refused e → ⊥) → Begins s p → order z ≡ order y →
      ((w : World) → Sees w a b → sound y w → rest z w ≡ rest y w) → ((w : World) → Sees w a b → sound y w → sound z w) → ((w : World) → sound y w → Checks w a b) → IsReady (refuses z a.meaning) →
      Made a b (λ reads. begins y a.meaning reads z × NoMore (refuses y a.meaning) reads (refuses z a.meaning)) → Begun begins range a b y z s p
  begun_of begins range a b y z s p unrefused h same rows still checked ready made = record {
    rows = λ w sees k. begun_rows a b y z s p same h w (rows w sees (begun_sound s y w unrefused k));
    still = λ w sees k. begun_still y z s p same h w (rows w sees (begun_sound s y w unrefused k)) (still w sees (begun_sound s y w unrefused k)) k;
    checked = λ w k. checked w (begun_sound s y w unrefused k);
    ready = begun_ready range a.meaning y z s p unrefused h ready;
    begun = (made.0, made.1, ((unrefused_of s unrefused, h, made.2.0), begun_fewer range a.meaning made.0 y z s p h made.2.1));
  }

  -- what a source refuses
  pub source_refused : (range : BytesRange) (a b : Reach) (it : I) (s : Progress) (at : Option (List ℕ)) (e : SlateDBError) → ((d : SlateDBError) → s ≡ Refused d → ⊥) → Made a b (λ reads. IsFault a b e ⊎ refuses it a.meaning reads at e) →
      Made a b (λ reads. IsFault a b e ⊎ refuses_newest refuses range it s a.meaning reads at e)
  source_refused range a b it s at e unrefused (reads, call, inl k) = (reads, call, inl k)
  source_refused range a b it New at e unrefused (reads, call, inr k) = (reads, call, inr (inr (inl k)))
  source_refused range a b it (Going groups) at e unrefused (reads, call, inr k) = (reads, call, inr (inl k))
  source_refused range a b it (Refused d) at e unrefused (reads, call, inr k) = absurd (unrefused d refl)

  -- and then the refusal is kept
  pub refused_made : {W : Type 0} → W → (range : BytesRange) (a b : Reach) (it after : I) (s p : Progress) (at : Option (List ℕ)) (e : SlateDBError) → IsKept e p → Made a b (λ reads. IsFault a b e ⊎ refuses_newest refuses range it s a.meaning reads at e) →
      Made a b (λ reads. (IsFault a b e ⊎ refuses_newest refuses range it s a.meaning reads at e) × W × NoMoreBut e (refuses_newest refuses range it s a.meaning) reads (refuses_newest refuses range after p a.meaning))
  refused_made {W} stays range a b it after s p at e kept (reads, call, why) = (reads, call, (why, stays, by kept))
    where
      by : IsKept e p → NoMoreBut e (refuses_newest refuses range it s a.meaning) reads (refuses_newest refuses range after p a.meaning)
      by (inl is) = λ later k d r. inr ((subst (λ (q : Progress). refuses_newest refuses range after q a.meaning later k d) is r).1)
      by (inr is) = λ later k d r. absurd ((subst (λ (q : Progress). refuses_newest refuses range after q a.meaning later k d) is r).0 refl)

pub begun_no_larger : (m n : ℕ) (s p : Progress) → Begins s p → m ≤ n → bound_newest m p ≤ bound_newest n s
begun_no_larger m n New New h le = absurd h
begun_no_larger m n New (Going groups) h le = let a = ap length h.0 in let b = ap length h.1 in omega (arith, le, a, b)
begun_no_larger m n New (Refused e) h le = absurd h
begun_no_larger m n (Going groups) p h le = subst (λ (q : Progress). bound_newest m q ≤ bound_newest n (Going groups)) (sym h) (omega (arith, le))
begun_no_larger m n (Refused e) p h le = subst (λ (q : Progress). bound_newest m q ≤ 0) (sym h) (omega arith)
