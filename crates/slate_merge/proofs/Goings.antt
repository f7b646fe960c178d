-- What the call of one source does to a merge under way.
use Rattle.std.proofs.Common.{◌≡◌, ◌⊎◌, inl, inr, ℕ, ◌≤◌, ◌<◌, true, List, [], ◌∷◌, ◌++◌, length, Option, Some, None, sym, ap, subst, ◌∙◌, arith, append_assoc, IsPermutation, slice_index_or}
use Rattle.std.proofs.lemmas.List.Sorted.{length_permutation}
use Rattle.std.specs.BinaryHeap.{IsHeap, IsUpperBound, KeepsHeap}
use Rattle.slate_types.specs.declared.error.SlateDBError.{SlateDBError}
use Rattle.slate_types.specs.declared.types.RowEntry.{RowEntry}
use Rattle.slate_types.specs.declared.iter.IterationOrder.{IterationOrder}
use Rattle.slate_types.specs.Iteration.{comes_before, drop_before}
use Rattle.slate_types.specs.Outside.{Act, Meaning, Reach, IsFault, IsLater}
use Rattle.slate_types.specs.Refusing.{NoMore, IsReady}
use Rattle.slate_types.specs.Steps.{Step}
use Rattle.slate_types.specs.World.{World, Checks, IsCall, Made, Sees}
use Rattle.slate_types.proofs.Calls.{call_none, call_both, sees_first, sees_last, checks_none, checks_both, no_more_both}
use Rattle.slate_types.proofs.Moves.{Moves}
use Rattle.slate_types.proofs.Reaching.{fault_earlier}
use Rattle.slate_merge.specs.declared.head.Head.{Head}
use Rattle.slate_merge.specs.NoMoreRows.{AddsNone, AddsNoneByCall, NoMoreRows}
use Rattle.slate_merge.specs.Offers.{Offer, Rises, offers, offers_behind_others}
use Rattle.slate_merge.specs.Heads.{head_cmp}
use Rattle.slate_merge.specs.Merging.{AnyByRecursion, Sources, left_in, IsMergingIn, IsSoundHead, blames, either_refusal, begun_sources, merging_bound, AreReady, HasRow, IsFront}
use Rattle.slate_merge.specs.MergeBringing.{StandBehind, sources_offer, takes_front}
use Rattle.slate_merge.specs.MergeSteps.{Falls, Goes, Joins}
use Rattle.slate_merge.proofs.HeadLaws.{each_shuffled}
use Rattle.slate_merge.proofs.StepLaws.{Gives, any_shuffled, joins_weaker, steps_still, steps_rows, steps_smaller}
use Rattle.slate_merge.proofs.SeekLaws.{sought_still, sought_rows}
use Rattle.slate_merge.proofs.BeginLaws.{begun_still, begun_rows, begun_bound}
use Rattle.slate_merge.proofs.Heaps.{none_above}
use Rattle.slate_merge.proofs.Offerings.{next_rises, offers_called, offers_held, offers_taken}
use Rattle.slate_merge.proofs.MergeBringings.{brought_begun, brought_empty, brought_gone, brought_put}
use Rattle.slate_merge.proofs.Blames.{head_blamed, blamed_put, blamed_gone, blamed_begun, blamed_empty}
use Rattle.std.proofs.lemmas.List.{nil_from_length}

pub made_weaker : (a b : Reach) (P Q : List Act → Type 0) → ((reads : List Act) → P reads → Q reads) → Made a b P → Made a b Q
made_weaker a b P Q f m = (m.0, m.1, f m.0 m.2)

-- a refusal behind a first call
pub then_fails : (before after : Meaning → List Act → Option (List ℕ) → SlateDBError → Type 0) (a b c : Reach) (at : Option (List ℕ)) (e : SlateDBError) → IsLater a.faults b.faults → Made a b (λ r. NoMore (before a.meaning) r (after a.meaning))
    → Made b c (λ s. IsFault b c e ⊎ after b.meaning s at e) → Made a c (λ reads. IsFault a c e ⊎ before a.meaning reads at e)
then_fails before after a b c at e since m n = (m.0 ++ n.0, call_both a b c m.0 n.0 m.1 n.1, by n.2)
  where
    by : IsFault b c e ⊎ after b.meaning n.0 at e → IsFault a c e ⊎ before a.meaning (m.0 ++ n.0) at e
    by (inl h) = inl (fault_earlier a b c e since h)
    by (inr h) = inr (m.2 n.0 at e (subst (λ (p : Meaning). after p n.0 at e) m.1.meaning h))

front_first : {S : Type 0} (heads others : List (Head S)) (x : Head S) → x ≡ slice_index_or heads 0 x → IsPermutation heads (x ∷ others) → IsFront (Some x.row) heads
front_first [] others x is p = let long = length_permutation [] (x ∷ others) p in absurd (omega (arith, long))
front_first (y ∷ heads) others x is p = ap (λ (h : Head _). h.row) (sym is)

-- no head is left
pub none_step : {S : Type 0} (offers : Option RowEntry → S → Meaning → List Act → Offer → Type 0) (rest : S → World → List RowEntry) (sound : S → World → Type 0) (refuses : S → Meaning → List Act → Option (List ℕ) → SlateDBError → Type 0) (order_of : S → IterationOrder) (a : Reach) (heads new : List (Head S)) → length heads ≡ 0 → new ≡ heads
    → (o : IterationOrder) → Step (left_in rest o) (IsMergingIn rest sound order_of o) (blames refuses) (takes_front offers) a a (begun_sources heads) None (begun_sources new)
none_step {S} offers rest sound refuses order_of a heads new long same o = record {
  rows = λ w s m. (none w heads (nil_from_length heads long), none w new (same ∙ nil_from_length heads long));
  still = λ w s m. subst (λ (l : List (Head S)). IsMergingIn rest sound order_of o (begun_sources l) w) (sym same) m;
  checked = λ w m. checks_none w a;
  taken = ([], call_none a, ((nil_from_length heads long, λ later o k. subst (λ (l : List (Head S)). sources_offer offers (begun_sources l) a.meaning later o) same k, tt), λ later at e h. subst (λ (l : List (Head S)). blames refuses (begun_sources l) a.meaning later at e) same h));
}
  where
    none : (w : World) (l : List (Head S)) → l ≡ [] → left_in rest o (begun_sources l) w ≡ []
    none w l is = ap (λ (k : List (Head S)). left_in rest o (begun_sources k) w) is

module _ {S : Type 0} (rest : S → World → List RowEntry) (sound : S → World → Type 0) (refuses : S → Meaning → List Act → Option (List ℕ) → SlateDBError → Type 0) (begins : S → Meaning → List Act → S → Type 0) (takes : S → Meaning → List Act → Option RowEntry → S → Type 0) (seeks : S → Meaning → List Act → List ℕ → S → Type 0) (bound : S → ℕ) (order_of : S → IterationOrder) where
  abbrev goes : Reach → Reach → S → Option RowEntry → S → Type 0
  goes a b = Goes rest sound refuses takes bound order_of a b

  -- what the sources offer
  abbrev offered : Option RowEntry → S → Meaning → List Act → Offer → Type 0
  offered = offers begins takes seeks

  offers_more : (ahead : Option RowEntry) (x : S) (m : Meaning) (done reads : List Act) (o : Offer) → offered ahead x m reads o → offered ahead x m (done ++ reads) o
  offers_more ahead x m done reads o k = offers_behind_others begins takes seeks ahead x m done reads o k

  -- what is offered of x behind a call and a `next` was offered before
  handed_on : (m : Meaning) (x source : S) (y : Head S) (r s : List Act) → NoMoreRows (offered None x m) r (offered None source m) → takes source m s (Some y.row) y.source
      → (later : List Act) (o : Offer) → offered (Some y.row) y.source m later o → offered None x m ((r ++ s) ++ later) o
  handed_on m x source y r s less taken later o k =
      subst (λ (acts : List Act). offered None x m acts o) (sym (append_assoc r s later)) (less (s ++ later) o (offers_taken begins takes seeks m source y.source s y.row taken later o k))

  abbrev merging : IterationOrder → Sources S → World → Type 0
  merging order x w = IsMergingIn rest sound order_of order x w

  abbrev rest_at : World → S → List RowEntry
  rest_at w s = rest s w

  abbrev sound_at : World → IterationOrder → S → Type 0
  sound_at w o s = sound s w × (order_of s ≡ o)

  abbrev gives : World → IterationOrder → S → Option RowEntry → S → Type 0
  gives w o = Gives (rest_at w) (sound_at w o)

  goes_in : (a b : Reach) (w : World) (o : IterationOrder) → Sees w a b → (x : S) (answer : Option RowEntry) (y : S) → goes a b x answer y → gives w o x answer y
  goes_in a b w o s x answer y g = record { rows = λ k. g.step.rows w s k.0; still = λ k. (g.step.still w s k.0, g.order ∙ k.1) }

  pub joins_in : (a b : Reach) (source : S) (behind : ℕ) (order : IterationOrder) (old new : List (Head S)) (w : World) (o : IterationOrder) → Sees w a b → Joins (goes a b) source behind order old new → Joins (gives w o) source behind order old new
  joins_in a b source behind order old new w o s j = joins_weaker (goes a b) (gives w o) source behind order old new (λ answer y g. goes_in a b w o s source answer y g) j

  pub joins_falls : (a b : Reach) (source : S) (behind : ℕ) (order : IterationOrder) (old new : List (Head S)) → Joins (goes a b) source behind order old new → Joins (Falls bound) source behind order old new
  joins_falls a b source behind order old new j = joins_weaker (goes a b) (Falls bound) source behind order old new (λ answer y g. g.smaller) j

  joined : (a b : Reach) (source : S) (behind : ℕ) (order : IterationOrder) (old new : List (Head S)) → Joins (goes a b) source behind order old new → (answer : Option RowEntry) × (y : S) × goes a b source answer y
  joined a b source behind order old new (inl j) = (None, j.0, j.1)
  joined a b source behind order old new (inr j) = (Some j.0, j.1, j.2)

  sound_first : (w : World) (o : IterationOrder) (heads others : List (Head S)) (x : Head S) → IsPermutation heads (x ∷ others) → merging o (begun_sources heads) w → sound x.source w
  sound_first w o heads others x p m = (each_shuffled (IsSoundHead (rest_at w) (sound_at w o) o) heads (x ∷ others) p m.begun).0.0.0

  -- what the source of a head refuses, in the call or in the `next` behind a seek
  pub head_fails : (a b : Reach) (at : Option (List ℕ)) (e : SlateDBError) (waiting : List S) (heads others : List (Head S)) (x : Head S) → IsPermutation heads (x ∷ others)
      → Made a b (λ reads. IsFault a b e ⊎ refuses x.source a.meaning reads at e) → Made a b (λ reads. IsFault a b e ⊎ blames refuses (record { waiting = waiting; heads = heads }) a.meaning reads at e)
  head_fails a b at e waiting heads others x p m = (m.0, m.1, by m.2)
    where
      by : IsFault a b e ⊎ refuses x.source a.meaning m.0 at e → IsFault a b e ⊎ blames refuses (record { waiting = waiting; heads = heads }) a.meaning m.0 at e
      by (inl h) = inl h
      by (inr h) = inr (head_blamed refuses a.meaning m.0 at e waiting heads others x p (inl h))

  pub next_fails : (a b : Reach) (at : Option (List ℕ)) (e : SlateDBError) (waiting : List S) (heads others : List (Head S)) (x : Head S) → IsPermutation heads (x ∷ others)
      → Made a b (λ reads. IsFault a b e ⊎ refuses x.source a.meaning reads None e) → Made a b (λ reads. IsFault a b e ⊎ blames refuses (record { waiting = waiting; heads = heads }) a.meaning reads at e)
  next_fails a b at e waiting heads others x p m = (m.0, m.1, by m.2)
    where
      by : IsFault a b e ⊎ refuses x.source a.meaning m.0 None e → IsFault a b e ⊎ blames refuses (record { waiting = waiting; heads = heads }) a.meaning m.0 at e
      by (inl h) = inl h
      by (inr h) = inr (head_blamed refuses a.meaning m.0 at e waiting heads others x p (inr h))

  -- what the first source that waits refuses
  pub source_fails : (a b : Reach) (e : SlateDBError) (all : List S) (source : S) (waiting : List S) (heads : List (Head S)) → all ≡ source ∷ waiting
      → Made a b (λ reads. IsFault a b e ⊎ refuses source a.meaning reads None e) → Made a b (λ reads. IsFault a b e ⊎ blames refuses (record { waiting = all; heads = heads }) a.meaning reads None e)
  source_fails a b e all source waiting heads is m = (m.0, m.1, by m.2)
    where
      by : IsFault a b e ⊎ refuses source a.meaning m.0 None e → IsFault a b e ⊎ blames refuses (record { waiting = all; heads = heads }) a.meaning m.0 None e
      by (inl h) = inl h
      by (inr h) = inr (inl (subst (λ (l : List S). AnyByRecursion (λ s. either_refusal (λ t. refuses t a.meaning m.0) None s e) l) (sym is) (inl (inl h))))

  module _ (more : (x : S) (m : Meaning) (done reads : List Act) (at : Option (List ℕ)) (e : SlateDBError) → refuses x m reads at e → refuses x m (done ++ reads) at e) where
    -- a head's source made a call, and then another that put it back
    pub joined_made : (a b c : Reach) (r : List Act) (heads others new : List (Head S)) (x : Head S) (source : S) (behind : ℕ) (order : IterationOrder) → IsCall a b r → NoMore (refuses x.source a.meaning) r (refuses source a.meaning)
        → NoMoreRows (offered None x.source a.meaning) r (offered None source a.meaning) → IsPermutation heads (x ∷ others) → Joins (goes b c) source behind order others new → AddsNoneByCall (sources_offer offered) (blames refuses) a c (begun_sources heads) (begun_sources new)
    joined_made a b c r heads others new x source behind order call less fewer p (inl j) =
        let reads = r ++ j.1.step.taken.0 in (
          reads,
          call_both a b c r j.1.step.taken.0 call j.1.step.taken.1,
          subst (λ (l : List (Head S)). AddsNone (sources_offer offered) (blames refuses) a.meaning (begun_sources heads) reads (begun_sources l)) (sym j.2) (blamed_gone refuses more a.meaning reads [] heads others x p, brought_gone offered offers_more a.meaning reads [] heads others x p),
        )
    joined_made a b c r heads others new x source behind order call less fewer p (inr j) =
        let y : Head S = record { row = j.0; behind = behind; order = order; source = j.1 } in
        let s = j.2.step.taken.0 in
        let own : takes source a.meaning s (Some j.0) j.1 × NoMore (refuses source a.meaning) s (refuses j.1 a.meaning) = subst (λ (p : Meaning). takes source p s (Some j.0) j.1 × NoMore (refuses source p) s (refuses j.1 p)) call.meaning j.2.step.taken.2 in (
          r ++ s,
          call_both a b c r s call j.2.step.taken.1,
          (
            blamed_put refuses more a.meaning (r ++ s) [] heads others new x y p j.3 (no_more_both (refuses x.source a.meaning) (refuses source a.meaning) (refuses j.1 a.meaning) r s less own.1),
            brought_put offered offers_more a.meaning (r ++ s) [] heads others new x y p j.3 (λ later o k. offers_held begins takes seeks a.meaning (Some x.row) x.source ((r ++ s) ++ later) o (handed_on a.meaning x.source source y r s fewer own.0 later o k)),
          ),
        )

    -- of what stands behind the first row no other head is above it, so that what is rises
    front_behind : (a b : Reach) (heads others new : List (Head S)) (x : Head S) (p : IsPermutation heads (x ∷ others)) → (IsHeap head_cmp heads → IsUpperBound head_cmp x others) → (j : Joins (goes a b) x.source x.behind x.order others new)
        → StandBehind offered x.row (begun_sources heads) a.meaning (joined_made a a b [] heads others new x x.source x.behind x.order (call_none a) (λ later at e h. h) (λ later o k. k) p j).0 new
    unfolding joined_made
    front_behind a b heads others new x p top (inl j) order heaped r has above =
        let all = each_shuffled (λ (h : Head S). h.order ≡ order) heads (x ∷ others) p heaped.ordered in
        none_above order x others all.0 (top heaped.heap) all.1 r (subst (λ (l : List (Head S)). HasRow l r) j.2 has) above
    front_behind a b heads others new x p top (inr j) order heaped r has above = by (any_shuffled (λ (h : Head S). h.row ≡ r) (y ∷ others) new j.3 has)
      where
        y : Head S
        y = record { row = j.0; behind = x.behind; order = x.order; source = j.1 }

        by : HasRow (y ∷ others) r → sources_offer offered (begun_sources heads) a.meaning j.2.step.taken.0 (Rises r)
        by (inl is) = inr (any_shuffled (λ (h : Head S). offered (Some h.row) h.source a.meaning j.2.step.taken.0 (Rises r)) heads (x ∷ others) p
            (inl (inl (next_rises begins takes seeks a.meaning x.source j.1 j.2.step.taken.0 x.row r (subst (λ (q : RowEntry). takes x.source a.meaning j.2.step.taken.0 (Some q) j.1) is j.2.step.taken.2.0) above))))
        by (inr rest) =
            let all = each_shuffled (λ (h : Head S). h.order ≡ order) heads (x ∷ others) p heaped.ordered in
            none_above order x others all.0 (top heaped.heap) all.1 r rest above

    -- the first row of a merge
    pub first_step : (a b : Reach) (heads others new : List (Head S)) (x : Head S) → x ≡ slice_index_or heads 0 x → IsPermutation heads (x ∷ others) → (IsHeap head_cmp heads → IsHeap head_cmp others) → (IsHeap head_cmp heads → IsUpperBound head_cmp x others) → KeepsHeap head_cmp others new
        → Joins (goes a b) x.source x.behind x.order others new → (o : IterationOrder) → Step (left_in rest o) (merging o) (blames refuses) (takes_front offered) a b (begun_sources heads) (Some x.row) (begun_sources new)
    first_step a b heads others new x first p keeps top stays j o =
        let made = joined_made a a b [] heads others new x x.source x.behind x.order (call_none a) (λ later at e h. h) (λ later o k. k) p j in
        record {
          rows = λ w s m. steps_rows (rest_at w) (sound_at w o) o heads others new x p top (joins_in a b x.source x.behind x.order others new w o s j) m;
          still = λ w s m. steps_still (rest_at w) (sound_at w o) o [] heads others new x p keeps stays (joins_in a b x.source x.behind x.order others new w o s j) m;
          checked = λ w m. (joined a b x.source x.behind x.order others new j).2.step.checked w (sound_first w o heads others x p m);
          taken = (made.0, made.1, ((front_first heads others x first p, made.2.1, front_behind a b heads others new x p top j), made.2.0));
        }

    pub first_smaller : (a b : Reach) (heads others new : List (Head S)) (x : Head S) (source : S) → IsPermutation heads (x ∷ others) → bound source ≤ bound x.source → Joins (goes a b) source x.behind x.order others new → merging_bound bound [] new < merging_bound bound [] heads
    first_smaller a b heads others new x source p less j = steps_smaller bound [] heads others new x source x.behind x.order p less (joins_falls a b source x.behind x.order others new j)

    abbrev pub Sought : List ℕ → Reach → Reach → S → S → Type 0
    Sought key a b x y = Made a b (λ reads. seeks x a.meaning reads key y × NoMore (refuses x a.meaning) reads (refuses y a.meaning))

    abbrev pub Begun : Reach → Reach → S → S → Type 0
    Begun a b x y = Made a b (λ reads. begins x a.meaning reads y × NoMore (refuses x a.meaning) reads (refuses y a.meaning))

    -- a seek of the first head's source
    pub seek_made : (key : List ℕ) (a b c : Reach) (heads others new : List (Head S)) (x : Head S) (source : S) → IsPermutation heads (x ∷ others) → Sought key a b x.source source → Joins (goes b c) source x.behind x.order others new
        → AddsNoneByCall (sources_offer offered) (blames refuses) a c (begun_sources heads) (begun_sources new)
    seek_made key a b c heads others new x source p made j =
        joined_made a b c made.0 heads others new x source x.behind x.order made.1 made.2.1 (offers_called begins takes seeks a.meaning x.source source made.0 (inr (inr (key, made.2.0)))) p j

    pub seek_moves : (key : List ℕ) (a b c : Reach) (heads others new : List (Head S)) (x : Head S) (source : S) → IsPermutation heads (x ∷ others) → (IsHeap head_cmp heads → IsHeap head_cmp others) → KeepsHeap head_cmp others new
        → ((w : World) → Sees w a b → sound x.source w → rest source w ≡ drop_before (order_of x.source) key (rest x.source w)) → ((w : World) → Sees w a b → sound x.source w → sound source w) → ((w : World) → sound x.source w → Checks w a b)
        → order_of source ≡ order_of x.source → Sought key a b x.source source → Joins (goes b c) source x.behind x.order others new
        → ((o : IterationOrder) (w : World) → merging o (begun_sources heads) w → comes_before o x.row.key key ≡ true)
        → (o : IterationOrder) → Moves (λ z w. drop_before o key (left_in rest o z w)) (merging o) (blames refuses) a c (begun_sources heads) (begun_sources new)
    seek_moves key a b c heads others new x source p keeps stays rows still checked order made j before o = record {
      rows = λ w s m. sought_rows (rest_at w) (sound_at w o) o key heads others new x source p (before o w m) (kept w s) (gone w s) (joins_in b c source x.behind x.order others new w o (last w s) j) m;
      still = λ w s m. sought_still (rest_at w) (sound_at w o) o key heads others new x source p keeps stays (kept w s) (gone w s) (joins_in b c source x.behind x.order others new w o (last w s) j) m;
      checked = λ w m. checks_both w a b c made.0 went.step.taken.0 made.1 went.step.taken.1 (checked w (sound_first w o heads others x p m)) (λ s. went.step.checked w (still w s (sound_first w o heads others x p m)));
      made = (let k = seek_made key a b c heads others new x source p made j in (k.0, k.1, k.2.0));
    }
      where
        went : goes b c source (joined b c source x.behind x.order others new j).0 (joined b c source x.behind x.order others new j).1
        went = (joined b c source x.behind x.order others new j).2

        first : (w : World) → Sees w a c → Sees w a b
        first w s = sees_first w a b c made.0 went.step.taken.0 made.1 went.step.taken.1 s

        last : (w : World) → Sees w a c → Sees w b c
        last w s = sees_last w a b c made.0 went.step.taken.0 made.1 went.step.taken.1 s

        kept : (w : World) → Sees w a c → sound_at w o x.source → sound_at w o source
        kept w s k = (still w (first w s) k.0, order ∙ k.1)

        gone : (w : World) → Sees w a c → sound_at w o x.source → rest source w ≡ drop_before o key (rest x.source w)
        gone w s k = subst (λ (q : IterationOrder). rest source w ≡ drop_before q key (rest x.source w)) k.1 (rows w (first w s) k.0)

    -- a source that waited began, and went among the heads
    pub begun_made : (a b c : Reach) (source begun : S) (waiting : List S) (behind : ℕ) (order : IterationOrder) (heads new : List (Head S)) → Begun a b source begun → Joins (goes b c) begun behind order heads new
        → AddsNoneByCall (sources_offer offered) (blames refuses) a c (record { waiting = source ∷ waiting; heads = heads }) (record { waiting = waiting; heads = new })
    begun_made a b c source begun waiting behind order heads new made (inl j) =
        let reads = made.0 ++ j.1.step.taken.0 in (
          reads,
          call_both a b c made.0 j.1.step.taken.0 made.1 j.1.step.taken.1,
          subst (λ (l : List (Head S)). AddsNone (sources_offer offered) (blames refuses) a.meaning (record { waiting = source ∷ waiting; heads = heads }) reads (record { waiting = waiting; heads = l })) (sym j.2) (blamed_empty refuses more a.meaning reads source waiting heads, brought_empty offered offers_more a.meaning reads source waiting heads),
        )
    begun_made a b c source begun waiting behind order heads new made (inr j) =
        let y : Head S = record { row = j.0; behind = behind; order = order; source = j.1 } in
        let r = made.0 in
        let s = j.2.step.taken.0 in
        let own : takes begun a.meaning s (Some j.0) j.1 × NoMore (refuses begun a.meaning) s (refuses j.1 a.meaning) = subst (λ (p : Meaning). takes begun p s (Some j.0) j.1 × NoMore (refuses begun p) s (refuses j.1 p)) made.1.meaning j.2.step.taken.2 in (
          r ++ s,
          call_both a b c r s made.1 j.2.step.taken.1,
          (
            blamed_begun refuses more a.meaning (r ++ s) source waiting heads new y j.3 (no_more_both (refuses source a.meaning) (refuses begun a.meaning) (refuses j.1 a.meaning) r s made.2.1 own.1),
            brought_begun offered offers_more a.meaning (r ++ s) source waiting heads new y j.3 (handed_on a.meaning source begun y r s (offers_called begins takes seeks a.meaning source begun r (inl made.2.0)) own.0),
          ),
        )

    pub begin_moves : (a b c : Reach) (source begun : S) (waiting : List S) (behind : ℕ) (o : IterationOrder) (heads new : List (Head S)) → behind ≡ length waiting → KeepsHeap head_cmp heads new
        → ((w : World) → Sees w a b → sound source w → rest begun w ≡ rest source w) → ((w : World) → Sees w a b → sound source w → sound begun w) → ((w : World) → sound source w → Checks w a b)
        → order_of begun ≡ order_of source → Begun a b source begun → Joins (goes b c) begun behind o heads new → Moves (left_in rest o) (merging o) (blames refuses) a c (record { waiting = source ∷ waiting; heads = heads }) (record { waiting = waiting; heads = new })
    begin_moves a b c source begun waiting behind o heads new e stays rows still checked order made j = record {
      rows = λ w s m. begun_rows (rest_at w) (sound_at w o) o source begun waiting behind heads new (kept w s) (same w s) e (joins_in b c begun behind o heads new w o (last w s) j) m;
      still = λ w s m. begun_still (rest_at w) (sound_at w o) o source begun waiting behind heads new (kept w s) (same w s) e stays (joins_in b c begun behind o heads new w o (last w s) j) m;
      checked = λ w m. checks_both w a b c made.0 went.step.taken.0 made.1 went.step.taken.1 (checked w m.ready.0.0.0) (λ s. went.step.checked w (still w s m.ready.0.0.0));
      made = (let k = begun_made a b c source begun waiting behind o heads new made j in (k.0, k.1, k.2.0));
    }
      where
        went : goes b c begun (joined b c begun behind o heads new j).0 (joined b c begun behind o heads new j).1
        went = (joined b c begun behind o heads new j).2

        first : (w : World) → Sees w a c → Sees w a b
        first w s = sees_first w a b c made.0 went.step.taken.0 made.1 went.step.taken.1 s

        last : (w : World) → Sees w a c → Sees w b c
        last w s = sees_last w a b c made.0 went.step.taken.0 made.1 went.step.taken.1 s

        kept : (w : World) → Sees w a c → sound_at w o source → sound_at w o begun
        kept w s k = (still w (first w s) k.0, order ∙ k.1)

        same : (w : World) → Sees w a c → sound_at w o source → rest begun w ≡ rest source w
        same w s k = rows w (first w s) k.0

    pub begin_bound : (a b : Reach) (source begun : S) (waiting : List S) (behind : ℕ) (o : IterationOrder) (heads new : List (Head S)) → bound begun ≤ bound source → Joins (goes a b) begun behind o heads new → merging_bound bound waiting new ≤ merging_bound bound (source ∷ waiting) heads
    begin_bound a b source begun waiting behind o heads new less j = begun_bound bound source begun waiting behind o heads new less (joins_falls a b begun behind o heads new j)

    -- the source can't say that it hasn't begun
    pub begin_ready : (b c : Reach) (m : Meaning) (begun : S) (behind : ℕ) (o : IterationOrder) (heads new : List (Head S)) → b.meaning ≡ m → IsReady (refuses begun m) → Joins (goes b c) begun behind o heads new → AreReady refuses m heads → AreReady refuses m new
    begin_ready b c m begun behind o heads new is ready (inl j) all = subst (AreReady refuses m) (sym j.2) all
    begin_ready b c m begun behind o heads new is ready (inr j) all =
        let y : Head S = record { row = j.0; behind = behind; order = o; source = j.1 } in
        let less : NoMore (refuses begun m) j.2.step.taken.0 (refuses j.1 m) = subst (λ (p : Meaning). NoMore (refuses begun p) j.2.step.taken.0 (refuses j.1 p)) is j.2.step.taken.2.1 in
        each_shuffled (λ (h : Head S). IsReady (refuses h.source m)) (y ∷ heads) new j.3 (λ reads at k. ready (j.2.step.taken.0 ++ reads) at (less reads at _ k), all)
