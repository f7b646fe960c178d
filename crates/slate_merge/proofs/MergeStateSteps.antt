-- What the steps of its sources do to a merge iterator.
use Rattle.std.proofs.Common.{◌≡◌, ◌≢◌, ◌⊎◌, inl, inr, ℕ, ◌≤◌, Bool, false, List, [], ◌∷◌, ◌++◌, Option, Some, None, refl, sym, ap, subst, ◌∙◌, arith}
use Rattle.std.specs.Prelude.{IfSome, IsSome}
use Rattle.std.specs.List.{AllByRecursion}
use Rattle.std.specs.BinaryHeap.{heap_items, IsHeap}
use Rattle.slate_types.specs.declared.error.SlateDBError.{SlateDBError}
use Rattle.slate_types.specs.declared.error.SlateDBError.TheVariants.{OutOfMemory, StoreFault, Callback, BlockTransformError, IteratorNotInitialized}
use Rattle.slate_types.specs.declared.iter.IterationOrder.{IterationOrder}
use Rattle.slate_types.specs.declared.types.RowEntry.{RowEntry}
use Rattle.slate_types.specs.Iteration.{begins_before, drop_before}
use Rattle.slate_types.specs.Outside.{Act, Counts, IsCounted, IsFault, Meaning, Reach}
use Rattle.slate_types.specs.Refusing.{IsDamage, IsReady, NoMoreBut}
use Rattle.slate_types.specs.Steps.{Step}
use Rattle.slate_types.specs.World.{World, AnswersWorld, Checks, Made, Sees}
use Rattle.slate_types.proofs.Calls.{call_none, seen}
use Rattle.slate_types.proofs.IterationLaws.{drops_none}
use Rattle.slate_types.proofs.Moves.{Moves}
use Rattle.slate_merge.specs.declared.head.Head.{Head}
use Rattle.slate_merge.specs.declared.merge_iterator.MergeIterator.{MergeIterator}
use Rattle.slate_merge.specs.declared.merge_iterator.MergeState.{MergeState}
use Rattle.slate_merge.specs.declared.merge_iterator.MergeState.TheVariants.{New, Begun, Refused}
use Rattle.slate_merge.specs.NoMoreRows.{AddsNoneByCall, HandsOut, NoMoreRows}
use Rattle.slate_merge.specs.Heads.{head_cmp}
use Rattle.slate_merge.specs.Calls.{BringsByCalls}
use Rattle.slate_merge.specs.Offers.{IsAbove, Offer, Rises, offers}
use Rattle.slate_merge.specs.Kept.{Copies, IsKept}
use Rattle.slate_merge.specs.Merge.{shown_rows}
use Rattle.slate_merge.specs.MergeLaws.{fresh_merge}
use Rattle.slate_merge.specs.Merging.{AnyByRecursion, AreHeaped, AreReady, HasRow, IsMergingIn, begun_sources, blames, either_refusal, left_in, waiting_sources}
use Rattle.slate_merge.specs.MergeBringing.{HasHead, IsHeapedIn, StandBehind, merge_brings, merge_offers, sources_offer, takes_front}
use Rattle.slate_merge.specs.MergeSteps.{TakesMerged}
use Rattle.slate_merge.specs.MergeStates.{IsUnrefused, CopiedIn, HasBegun, IsFrontIn, IsSoundIn, IsWaiting, Keeps, Stays, bound_in, left_of, refuses_in, rest_in}
use Rattle.slate_merge.specs.MergeStateLaws.{refuses_whole}
use Rattle.slate_merge.proofs.DecidedLaws.{shown_dropped}
use Rattle.slate_merge.proofs.MergeBringings.{SourcesAdd, front_brought, rows_less}

empty_heap : (S : Type 0) → IsHeap {X = Head S} head_cmp []
unfolding IsHeap
empty_heap S p k d a b c e = absurd (omega (arith, e))

is_memory : (d : SlateDBError) → (d ≡ OutOfMemory) ⊎ (d ≢ OutOfMemory)
is_memory OutOfMemory = inl refl
is_memory d = inr (λ h. cc)

-- a kept refusal is answered again
pub kept_again : (a b : Counts) (k e : SlateDBError) → Copies k e → IsCounted a b e ⊎ IsKept k e
kept_again a b k e (inr m) = inl (subst (IsCounted a b) (sym m) tt)
kept_again a b k e (inl same) = by (is_memory k)
  where
    by : (k ≡ OutOfMemory) ⊎ (k ≢ OutOfMemory) → IsCounted a b e ⊎ IsKept k e
    by (inl m) = inl (subst (IsCounted a b) (sym (same ∙ m)) tt)
    by (inr other) = inr (other, same)

counted_undamaged : (i j : Counts) (e : SlateDBError) → IsCounted i j e → ¬ IsDamage e
counted_undamaged i j OutOfMemory h = λ d. d
counted_undamaged i j StoreFault h = λ d. d
counted_undamaged i j (Callback m) h = λ d. d
counted_undamaged i j BlockTransformError h = λ d. d
counted_undamaged i j _ h = absurd h

module _ {S : Type 0} where
  abbrev pub heads_in : MergeState S → List (Head S)
  heads_in (Begun heads) = heap_items heads
  heads_in _ = []

  abbrev pub waiting_in : MergeState S → List S
  waiting_in (New sources) = sources.items
  waiting_in _ = []

module _ {S : Type 0} (rest : S → World → List RowEntry) (sound : S → World → Type 0) (refuses : S → Meaning → List Act → Option (List ℕ) → SlateDBError → Type 0) (order_of : S → IterationOrder) where
  abbrev sound_in : IterationOrder → MergeState S → World → Type 0
  sound_in o s w = IsSoundIn rest sound order_of o s w

  -- a step of the heads is one of the merge
  module _ (begins : S → Meaning → List Act → S → Type 0) (takes : S → Meaning → List Act → Option RowEntry → S → Type 0) (seeks : S → Meaning → List Act → List ℕ → S → Type 0) where
    abbrev brings : S → Meaning → List Act → RowEntry → Type 0
    brings = BringsByCalls begins takes seeks

    abbrev offered : Option RowEntry → S → Meaning → List Act → Offer → Type 0
    offered = offers begins takes seeks

    abbrev front_in : IterationOrder → MergeState S → Meaning → List Act → Option RowEntry → MergeState S → Type 0
    front_in o x m reads answer y =
        IsFrontIn answer x × HandsOut (merge_brings brings x m) reads answer (merge_brings brings y m) × NoMoreRows (merge_offers offered x m) reads (merge_offers offered y m)
        × IfSome answer (λ q. IsHeapedIn o x → (r : RowEntry) → HasHead y r → IsAbove q r → merge_offers offered x m reads (Rises r))

    stand_in : (o : IterationOrder) (m : Meaning) (reads : List Act) (h k : List (Head S)) (answer : Option RowEntry) → IfSome answer (λ q. StandBehind offered q (begun_sources h) m reads k) →
        IfSome answer (λ q. AreHeaped o h → (r : RowEntry) → HasRow k r → IsAbove q r → sources_offer offered (begun_sources h) m reads (Rises r))
    stand_in o m reads h k None b = tt
    stand_in o m reads h k (Some q) b = b o

    pub state_step : (o : IterationOrder) (dedup : Bool) (a b : Reach) (x z y : MergeState S) (answer : Option RowEntry) → x ≡ z → HasBegun z → HasBegun y
        → Step (λ u w. shown_rows dedup (left_in rest o u w)) (λ u w. IsMergingIn rest sound order_of o u w) (blames refuses) (takes_front offered) a b (begun_sources (heads_in z)) answer (begun_sources (heads_in y))
        → Step (rest_in rest o dedup) (sound_in o) (refuses_in refuses) (front_in o) a b x answer y
    state_step o dedup a b x (Begun h) (Begun k) answer is p q s =
        subst (λ (u : MergeState S). Step (rest_in rest o dedup) (sound_in o) (refuses_in refuses) (front_in o) a b u answer (Begun k)) (sym is)
        (record { rows = s.rows; still = s.still; checked = s.checked; taken = (s.taken.0, s.taken.1, ((s.taken.2.0.0, (front_brought brings a.meaning s.taken.0 answer (heap_items h) s.taken.2.0.0, rows_less begins takes seeks (Begun h) (Begun k) a.meaning s.taken.0 s.taken.2.0.1), s.taken.2.0.1, stand_in o a.meaning s.taken.0 (heap_items h) (heap_items k) answer s.taken.2.0.2), s.taken.2.1)) })
    state_step o dedup a b x (Begun h) (New q) answer is p never s = absurd never
    state_step o dedup a b x (Begun h) (Refused q) answer is p never s = absurd never
    state_step o dedup a b x (New q) y answer is never p s = absurd never
    state_step o dedup a b x (Refused q) y answer is never p s = absurd never

    abbrev adds_in : Reach → Reach → MergeState S → MergeState S → Type 0
    adds_in a b x y = AddsNoneByCall (merge_offers offered) (refuses_in refuses) a b x y

    -- what the sources don't add, the merge doesn't
    pub begun_adds : (a b : Reach) (x z y : MergeState S) → x ≡ z → HasBegun z → HasBegun y → SourcesAdd offered refuses a b (begun_sources (heads_in z)) (begun_sources (heads_in y)) → adds_in a b x y
    begun_adds a b x (Begun h) (Begun k) is p q m = subst (λ (u : MergeState S). adds_in a b u (Begun k)) (sym is) m
    begun_adds a b x (Begun h) (New k) is p never m = absurd never
    begun_adds a b x (Begun h) (Refused k) is p never m = absurd never
    begun_adds a b x (New h) y is never q m = absurd never
    begun_adds a b x (Refused h) y is never q m = absurd never

    pub waiting_adds : (a b : Reach) (x z y : MergeState S) → x ≡ z → IsWaiting z → HasBegun y → SourcesAdd offered refuses a b (waiting_sources (waiting_in z)) (begun_sources (heads_in y)) → adds_in a b x y
    waiting_adds a b x (New h) (Begun k) is p q m = subst (λ (u : MergeState S). adds_in a b u (Begun k)) (sym is) (m.0, m.1, (λ later at e r. inr (m.2.0 later at e r), m.2.1))
    waiting_adds a b x (New h) (New k) is p never m = absurd never
    waiting_adds a b x (New h) (Refused k) is p never m = absurd never
    waiting_adds a b x (Begun h) y is never q m = absurd never
    waiting_adds a b x (Refused h) y is never q m = absurd never

  -- and takes what it took
  pub state_takes : (o : IterationOrder) (dedup : Bool) (a b : Reach) (x z y : MergeState S) (n m : ℕ) → x ≡ z → HasBegun z → HasBegun y
      → ((w : World) → Sees w a b → IsMergingIn rest sound order_of o (begun_sources (heads_in z)) w → TakesMerged dedup (left_in rest o (begun_sources (heads_in z)) w) (left_in rest o (begun_sources (heads_in y)) w) n m)
      → (w : World) → Sees w a b → sound_in o x w → TakesMerged dedup (left_of rest o x w) (left_of rest o y w) n m
  state_takes o dedup a b x (Begun h) (Begun k) n m is p q t w sees s =
      subst (λ (u : MergeState S). TakesMerged dedup (left_of rest o u w) (left_of rest o (Begun k) w) n m) (sym is) (t w sees (subst (λ (u : MergeState S). sound_in o u w) is s))
  state_takes o dedup a b x (Begun h) (New q) n m is p never t w sees s = absurd never
  state_takes o dedup a b x (Begun h) (Refused q) n m is p never t w sees s = absurd never
  state_takes o dedup a b x (New q) y n m is never p t w sees s = absurd never
  state_takes o dedup a b x (Refused q) y n m is never p t w sees s = absurd never

  pub record SoughtIn (o : IterationOrder) (dedup : Bool) (key : List ℕ) (a b : Reach) (x y : MergeState S) : Type 0 where
    pub rows : (w : World) → Sees w a b → sound_in o x w → rest_in rest o dedup y w ≡ drop_before o key (rest_in rest o dedup x w)
    pub still : (w : World) → Sees w a b → sound_in o x w → sound_in o y w
    pub checked : (w : World) → sound_in o x w → Checks w a b

  -- a seek of the heads is one of the merge
  pub state_seek : (o : IterationOrder) (dedup : Bool) (key : List ℕ) (a b : Reach) (x z y : MergeState S) → x ≡ z → HasBegun z → HasBegun y
      → Moves (λ u w. drop_before o key (left_in rest o u w)) (λ u w. IsMergingIn rest sound order_of o u w) (blames refuses) a b (begun_sources (heads_in z)) (begun_sources (heads_in y))
      → ((w : World) → IsMergingIn rest sound order_of o (begun_sources (heads_in y)) w → begins_before o key (left_in rest o (begun_sources (heads_in y)) w) ≡ false) → SoughtIn o dedup key a b x y
  state_seek o dedup key a b x (Begun h) (Begun k) is p q m done =
      subst (λ (u : MergeState S). SoughtIn o dedup key a b u (Begun k)) (sym is) (record { rows = rows; still = m.still; checked = m.checked })
    where
      rows : (w : World) → Sees w a b → sound_in o (Begun h) w → rest_in rest o dedup (Begun k) w ≡ drop_before o key (rest_in rest o dedup (Begun h) w)
      rows w sees g =
          ap (shown_rows dedup) (sym (drops_none o key (left_in rest o (begun_sources (heap_items k)) w) (done w (m.still w sees g))) ∙ m.rows w sees g) ∙ sym (shown_dropped o dedup key (left_in rest o (begun_sources (heap_items h)) w))
  state_seek o dedup key a b x (Begun h) (New q) is p never m done = absurd never
  state_seek o dedup key a b x (Begun h) (Refused q) is p never m done = absurd never
  state_seek o dedup key a b x (New q) y is never p m done = absurd never
  state_seek o dedup key a b x (Refused q) y is never p m done = absurd never

  -- all sources began
  pub state_begins : (o : IterationOrder) (dedup : Bool) (a b : Reach) (x z y : MergeState S) → x ≡ z → IsWaiting z → HasBegun y
      → Moves (left_in rest o) (λ u w. IsMergingIn rest sound order_of o u w) (blames refuses) a b (waiting_sources (waiting_in z)) (begun_sources (heads_in y)) → Moves (rest_in rest o dedup) (sound_in o) (refuses_in refuses) a b x y
  state_begins o dedup a b x (New sources) (Begun k) is p q m =
      subst (λ (u : MergeState S). Moves (rest_in rest o dedup) (sound_in o) (refuses_in refuses) a b u (Begun k)) (sym is)
      (record { rows = λ w sees h. ap (shown_rows dedup) (m.rows w sees (fresh w h)); still = λ w sees h. m.still w sees (fresh w h); checked = λ w h. m.checked w (fresh w h); made = (m.made.0, m.made.1, λ later at e h. inr (m.made.2 later at e h)) })
    where
      fresh : (w : World) → sound_in o (New sources) w → IsMergingIn rest sound order_of o (waiting_sources sources.items) w
      fresh w h = fresh_merge (λ s. rest s w) (λ s. sound s w × (order_of s ≡ o)) o sources.items h (empty_heap S)
  state_begins o dedup a b x (New sources) (New k) is p never m = absurd never
  state_begins o dedup a b x (New sources) (Refused k) is p never m = absurd never
  state_begins o dedup a b x (Begun h) y is never q m = absurd never
  state_begins o dedup a b x (Refused h) y is never q m = absurd never

  -- they began again
  pub state_again : (o : IterationOrder) (dedup : Bool) (a b : Reach) (x z y : MergeState S) → x ≡ z → HasBegun z → HasBegun y
      → Moves (left_in rest o) (λ u w. IsMergingIn rest sound order_of o u w) (blames refuses) a b (begun_sources (heads_in z)) (begun_sources (heads_in y)) → Moves (rest_in rest o dedup) (sound_in o) (refuses_in refuses) a b x y
  state_again o dedup a b x (Begun h) (Begun k) is p q m =
      subst (λ (u : MergeState S). Moves (rest_in rest o dedup) (sound_in o) (refuses_in refuses) a b u (Begun k)) (sym is) (record { rows = λ w sees g. ap (shown_rows dedup) (m.rows w sees g); still = m.still; checked = m.checked; made = m.made })
  state_again o dedup a b x (Begun h) (New k) is p never m = absurd never
  state_again o dedup a b x (Begun h) (Refused k) is p never m = absurd never
  state_again o dedup a b x (New h) y is never q m = absurd never
  state_again o dedup a b x (Refused h) y is never q m = absurd never

  -- it was refused
  module _ (whole : (x : S) (w : World) (reads : List Act) (at : Option (List ℕ)) (e : SlateDBError) → sound x w → AllByRecursion (AnswersWorld w) reads → refuses x w.meaning reads at e → ¬ IsDamage e) where
    pub fails_still : (o : IterationOrder) (a b : Reach) (at : Option (List ℕ)) (e : SlateDBError) (x y : MergeState S) → Made a b (λ reads. IsFault a b e ⊎ refuses_in refuses x a.meaning reads at e) → CopiedIn e y → (w : World) → Sees w a b → sound_in o x w → sound_in o y w
    fails_still o a b at e x (Refused k) m h w sees g = by h
      where
        fine : IsFault a b e ⊎ refuses_in refuses x a.meaning m.0 at e → ¬ IsDamage e
        fine (inl f) = counted_undamaged a.faults b.faults e f
        fine (inr r) = refuses_whole refuses rest sound order_of whole o w m.0 at e x g (seen w a b m.0 sees m.1) (subst (λ (p : Meaning). refuses_in refuses x p m.0 at e) (sym sees.meaning) r)

        by : Copies e k → ¬ IsDamage k
        by (inl is) = subst (λ d. ¬ IsDamage d) (sym is) (fine m.2)
        by (inr is) = subst (λ d. ¬ IsDamage d) (sym is) (λ d. d)
    fails_still o a b at e x (New q) m h w sees g = absurd h
    fails_still o a b at e x (Begun q) m h w sees g = absurd h

module _ {S : Type 0} (refuses : S → Meaning → List Act → Option (List ℕ) → SlateDBError → Type 0) where
  pub fails_but : (m : Meaning) (e : SlateDBError) (x y : MergeState S) (reads : List Act) → CopiedIn e y → NoMoreBut e (refuses_in refuses x m) reads (refuses_in refuses y m)
  fails_but m e x (Refused k) reads (inl is) later at d h = inr (h.1 ∙ is)
  fails_but m e x (Refused k) reads (inr is) later at d h = absurd (h.0 is)
  fails_but m e x (New q) reads h later at d r = absurd h
  fails_but m e x (Begun q) reads h later at d r = absurd h

  state_fails : (a b : Reach) (at : Option (List ℕ)) (e : SlateDBError) (x z : MergeState S) → x ≡ z → Made a b (λ reads. IsFault a b e ⊎ refuses_in refuses z a.meaning reads at e) → Made a b (λ reads. IsFault a b e ⊎ refuses_in refuses x a.meaning reads at e)
  state_fails a b at e x z is m = subst (λ (u : MergeState S). Made a b (λ reads. IsFault a b e ⊎ refuses_in refuses u a.meaning reads at e)) (sym is) m

  pub begun_fails : (a b : Reach) (at : Option (List ℕ)) (e : SlateDBError) (x z : MergeState S) → x ≡ z → HasBegun z → Made a b (λ reads. IsFault a b e ⊎ blames refuses (begun_sources (heads_in z)) a.meaning reads at e) → Made a b (λ reads. IsFault a b e ⊎ refuses_in refuses x a.meaning reads at e)
  begun_fails a b at e x (Begun h) is p m = state_fails a b at e x (Begun h) is m
  begun_fails a b at e x (New h) is never m = absurd never
  begun_fails a b at e x (Refused h) is never m = absurd never

  pub waiting_fails : (a b : Reach) (at : Option (List ℕ)) (e : SlateDBError) (x z : MergeState S) → x ≡ z → IsWaiting z → Made a b (λ reads. IsFault a b e ⊎ blames refuses (waiting_sources (waiting_in z)) a.meaning reads at e) → Made a b (λ reads. IsFault a b e ⊎ refuses_in refuses x a.meaning reads at e)
  waiting_fails a b at e x (New h) is p m = state_fails a b at e x (New h) is (m.0, m.1, by m.2)
    where
      by : IsFault a b e ⊎ blames refuses (waiting_sources h.items) a.meaning m.0 at e → IsFault a b e ⊎ refuses_in refuses (New h) a.meaning m.0 at e
      by (inl k) = inl k
      by (inr k) = inr (inr k)
  waiting_fails a b at e x (Begun h) is never m = absurd never
  waiting_fails a b at e x (Refused h) is never m = absurd never

  pub again_fails : (a : Reach) (at : Option (List ℕ)) (k e : SlateDBError) (x : MergeState S) → x ≡ Refused k → Copies k e → Made a a (λ reads. IsFault a a e ⊎ refuses_in refuses x a.meaning reads at e)
  again_fails a at k e x is c = state_fails a a at e x (Refused k) is ([], call_none a, kept_again a.faults a.faults k e c)

  -- no head can say that it hasn't begun
  any_ready : (m : Meaning) (reads : List Act) (at : Option (List ℕ)) (heads : List (Head S)) → AreReady refuses m heads → AnyByRecursion (λ h. either_refusal (λ s. refuses s m reads) at h.source IteratorNotInitialized) heads → ⊥
  any_ready m reads at [] all h = h
  any_ready m reads at (x ∷ heads) all (inl (inl h)) = all.0 reads at h
  any_ready m reads at (x ∷ heads) all (inl (inr h)) = all.0 reads None h
  any_ready m reads at (x ∷ heads) all (inr h) = any_ready m reads at heads all.1 h

  pub state_ready : (m : Meaning) (s : MergeState S) → HasBegun s → AreReady refuses m (heads_in s) → IsReady (refuses_in refuses s m)
  state_ready m (Begun heads) p all reads at (inl h) = h
  state_ready m (Begun heads) p all reads at (inr h) = any_ready m reads at (heap_items heads) all h
  state_ready m (New q) never all reads at h = absurd never
  state_ready m (Refused q) never all reads at h = absurd never

kept_copied : (k e : SlateDBError) → Copies k e → Copies e k ⊎ (e ≡ OutOfMemory)
kept_copied k e (inl is) = inl (inl (sym is))
kept_copied k e (inr is) = inr is

module _ {S : Type 0} where
  pub copied_kept : (e : SlateDBError) (s : MergeState S) → CopiedIn e s → Keeps e s
  copied_kept e (Refused k) h = inl h
  copied_kept e (New q) h = absurd h
  copied_kept e (Begun q) h = absurd h

  pub copied_bound : (bound : S → ℕ) (e : SlateDBError) (s : MergeState S) (n : ℕ) → CopiedIn e s → bound_in bound s ≤ n
  copied_bound bound e (Refused k) n h = omega arith
  copied_bound bound e (New q) n h = absurd h
  copied_bound bound e (Begun q) n h = absurd h

  pub unrefused_of : (s : MergeState S) → ((e : SlateDBError) → s ≡ Refused e → ⊥) → IsUnrefused s
  unrefused_of (New q) h = tt
  unrefused_of (Begun q) h = tt
  unrefused_of (Refused e) h = h e refl

  pub not_waiting : {A : Type 0} (x z : MergeState S) → x ≡ z → HasBegun z → IsWaiting x → A
  not_waiting x (Begun h) is p w = let never : ⊥ = subst IsWaiting is w in absurd never
  not_waiting x (New h) is never w = absurd never
  not_waiting x (Refused h) is never w = absurd never

module _ {S : Type 0} (refuses : S → Meaning → List Act → Option (List ℕ) → SlateDBError → Type 0) where
  -- what an iterator owes where it refused
  pub refused_stays : (a b : Reach) (at : Option (List ℕ)) (e : SlateDBError) (before after : MergeIterator S) → (IsWaiting before.state → IsSome at → e ≡ IteratorNotInitialized) → CopiedIn e after.state → Made a b (λ reads. IsFault a b e ⊎ refuses_in refuses before.state a.meaning reads at e)
      → Made a b (λ reads. (IsFault a b e ⊎ refuses_in refuses before.state a.meaning reads at e) × Stays before at e after × NoMoreBut e (refuses_in refuses before.state a.meaning) reads (refuses_in refuses after.state a.meaning))
  refused_stays a b at e before after first h m = (m.0, m.1, (m.2, (inr (copied_kept e after.state h), first), fails_but refuses a.meaning e before.state after.state m.0 h))

  -- and where it refused once more
  pub again_stays : (a : Reach) (at : Option (List ℕ)) (k e : SlateDBError) (before after : MergeIterator S) → before.state ≡ Refused k → after.state ≡ Refused k → Copies k e
      → Made a a (λ reads. (IsFault a a e ⊎ refuses_in refuses before.state a.meaning reads at e) × Stays before at e after × NoMoreBut e (refuses_in refuses before.state a.meaning) reads (refuses_in refuses after.state a.meaning))
  again_stays a at k e before after is same c =
      let m = again_fails refuses a at k e before.state is c in (
        m.0,
        m.1,
        (
          m.2,
          (inr (subst (Keeps e) (sym same) (kept_copied k e c)), λ w. (let never : ⊥ = subst IsWaiting is w in absurd never)),
          λ later at d r. inl (subst (λ (s : MergeState S). refuses_in refuses s a.meaning (m.0 ++ later) at d) (sym is) (subst (λ (s : MergeState S). refuses_in refuses s a.meaning later at d) same r)),
        ),
      )

  -- it hasn't begun
  pub unbegun_stays : (a : Reach) (at : Option (List ℕ)) (it : MergeIterator S) (z : MergeState S) → it.state ≡ z → IsWaiting z
      → Made a a (λ reads. (IsFault a a IteratorNotInitialized ⊎ refuses_in refuses it.state a.meaning reads at IteratorNotInitialized) × Stays it at IteratorNotInitialized it × NoMoreBut IteratorNotInitialized (refuses_in refuses it.state a.meaning) reads (refuses_in refuses it.state a.meaning))
  unbegun_stays a at it (New q) is p = (
    [],
    call_none a,
    (
      inr (subst (λ (s : MergeState S). refuses_in refuses s a.meaning [] at IteratorNotInitialized) (sym is) (inl refl)),
      (inl (refl, subst IsWaiting (sym is) tt, refl), λ w some. refl),
      λ later at d r. inl r,
    ),
  )
  unbegun_stays a at it (Begun q) is never = absurd never
  unbegun_stays a at it (Refused q) is never = absurd never
