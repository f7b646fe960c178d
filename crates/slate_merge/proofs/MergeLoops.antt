-- Loops over the steps of a merge.
use Rattle.std.proofs.Common.{◌≡◌, ◌⊎◌, inl, inr, ℕ, ◌+◌, ◌-◌, ◌^◌, ◌≤◌, ◌&&◌, min, Bool, true, false, List, [], ◌∷◌, ◌++◌, Option, Some, None, refl, sym, ap, subst, ◌∙◌, arith, IsPermutation}
use Rattle.std.specs.Prelude.{bytes_eq}
use Rattle.std.specs.List.{AllByRecursion}
use Rattle.std.specs.BinaryHeap.{IsHeap}
use Rattle.slate_types.specs.declared.error.SlateDBError.{SlateDBError}
use Rattle.slate_types.specs.declared.types.RowEntry.{RowEntry}
use Rattle.slate_types.specs.declared.iter.IterationOrder.{IterationOrder}
use Rattle.slate_types.specs.Outside.{Act, Meaning, Reach}
use Rattle.slate_types.specs.Refusing.{NoMore, IsReady}
use Rattle.slate_types.specs.Rows.{is_base}
use Rattle.slate_types.specs.Steps.{Step}
use Rattle.slate_types.specs.World.{World, Made, Sees}
use Rattle.slate_types.proofs.Calls.{call_both, sees_first, sees_last, checks_both, no_more_both}
use Rattle.slate_types.proofs.Lists.{AllByRecursion_push}
use Rattle.slate_types.proofs.Moves.{Moves, moves_both}
use Rattle.slate_merge.specs.declared.head.Head.{Head}
use Rattle.slate_merge.specs.Heads.{head_cmp}
use Rattle.slate_merge.specs.Merge.{begins_with, counted, past_key, row_bytes, shown_rows, with_key}
use Rattle.slate_merge.specs.Merging.{ArePlaced, left_rows, left_in, IsMergingIn, IsSoundHead, IsTop, has_key, blames, begun_sources, AreReady, IsFront}
use Rattle.slate_merge.specs.Offers.{Offer, offers, offers_behind_others}
use Rattle.slate_merge.specs.NoMoreRows.{AddsNoneByCall}
use Rattle.slate_merge.specs.MergeBringing.{sources_offer}
use Rattle.slate_merge.specs.MergeSteps.{CountsKey, CountsTaken, Renews, TakesMerged}
use Rattle.slate_merge.proofs.HeadLaws.{each_shuffled}
use Rattle.slate_merge.proofs.SeekLaws.{past_none, past_one, counted_one}
use Rattle.slate_merge.proofs.DecidedLaws.{shown_alone, takes_older, shown_older}
use Rattle.slate_merge.proofs.RenewLaws.{Renewed, moved_out, moved_in, renewed_begun, renewed_placed, renewed_rows}
use Rattle.slate_merge.proofs.Blames.{blamed_put}
use Rattle.slate_merge.proofs.Offerings.{offers_begun}
use Rattle.slate_merge.proofs.MergeBringings.{brought_put}

-- ---- rows of a key

pub top_some : {S A : Type 0} (key : List ℕ) (heads : List (Head S)) (top : Option (Head S)) → IsTop heads top → has_key key top ≡ true → heads ≡ [] → A
top_some key heads None t e none = cc
top_some key heads (Some x) t e none = let no : [] ≡ x ∷ t.0 = sym none ∙ t.1 in cc

pub front_key : {S : Type 0} (key : List ℕ) (heads : List (Head S)) (top : Option (Head S)) (r : RowEntry) → IsTop heads top → has_key key top ≡ true → IsFront (Some r) heads → bytes_eq key r.key ≡ true
front_key key heads None r t e f = cc
front_key key heads (Some x) r t e f =
    let same : x.row ≡ r = subst (λ (l : List (Head _)). IsFront (Some r) l) t.1 f in
    subst (λ (z : RowEntry). bytes_eq key z.key ≡ true) same e

counted_more : (n : ℕ) (rows : List RowEntry) (r : RowEntry) → counted n (rows ++ (r ∷ [])) ≡ min (counted n rows + row_bytes r) (2 ^ 64 - 1)
counted_more n [] r = refl
counted_more n (x ∷ rows) r = counted_more (min (n + row_bytes x) (2 ^ 64 - 1)) rows r

plainly : (m k : ℕ) (r : RowEntry) → k ≡ min (m + min (row_bytes r) (2 ^ 64 - 1)) (2 ^ 64 - 1) → k ≡ min (m + row_bytes r) (2 ^ 64 - 1)
plainly m k r e = omega (arith, e)

pub counts_none : (key : List ℕ) (n : ℕ) → CountsKey key n n
counts_none key n = ([], tt, refl)

pub counts_more : (key : List ℕ) (n m k : ℕ) (r : RowEntry) → CountsKey key n m → bytes_eq key r.key ≡ true → k ≡ min (m + min (row_bytes r) (2 ^ 64 - 1)) (2 ^ 64 - 1) → CountsKey key n k
counts_more key n m k r c e is = (
  c.0 ++ (r ∷ []),
  AllByRecursion_push (λ (x : RowEntry). bytes_eq key x.key ≡ true) c.0 r c.1 e,
  plainly m k r is ∙ ap (λ (z : ℕ). min (z + row_bytes r) (2 ^ 64 - 1)) c.2 ∙ sym (counted_more n c.0 r),
)

module _ {A : Type 0} (rest : A → World → List RowEntry) (sound : A → World → Type 0) (refuses : A → Meaning → List Act → Option (List ℕ) → SlateDBError → Type 0) (T : A → Meaning → List Act → Option RowEntry → A → Type 0) where
  pub step_first : (a b c : Reach) (x y z : A) (f : List RowEntry → List RowEntry) (answer : Option RowEntry) → Moves (λ u w. f (rest u w)) sound refuses a b x y → Step rest sound refuses T b c y answer z → (w : World) → Sees w a c → Sees w a b
  step_first a b c x y z f answer m s w sees = sees_first w a b c m.made.0 s.taken.0 m.made.1 s.taken.1 sees

  pub step_last : (a b c : Reach) (x y z : A) (f : List RowEntry → List RowEntry) (answer : Option RowEntry) → Moves (λ u w. f (rest u w)) sound refuses a b x y → Step rest sound refuses T b c y answer z → (w : World) → Sees w a c → Sees w b c
  step_last a b c x y z f answer m s w sees = sees_last w a b c m.made.0 s.taken.0 m.made.1 s.taken.1 sees

  pub moves_by : (f : List RowEntry → List RowEntry) (a b : Reach) (x y : A) (answer : Option RowEntry) → Step rest sound refuses T a b x answer y → ((w : World) → Sees w a b → sound x w → f (rest y w) ≡ f (rest x w)) → Moves (λ z w. f (rest z w)) sound refuses a b x y
  moves_by f a b x y answer s same = record { rows = same; still = s.still; checked = s.checked; made = (s.taken.0, s.taken.1, s.taken.2.1) }

  -- one more row of the key
  pub older_moves : (key : List ℕ) (a b c : Reach) (x y z : A) (r : RowEntry) → Moves (λ u w. past_key key (rest u w)) sound refuses a b x y → Step rest sound refuses T b c y (Some r) z → ((w : World) → sound y w → begins_with key (rest y w) ≡ true)
      → Moves (λ u w. past_key key (rest u w)) sound refuses a c x z
  older_moves key a b c x y z r m s begins =
      moves_both (λ u w. past_key key (rest u w)) sound refuses a b c x y z m (moves_by (past_key key) b c y z (Some r) s (λ w sees h. past_one key r (rest y w) (rest z w) (s.rows w sees h) (begins w h)))

  pub older_count : (key : List ℕ) (a b c : Reach) (x y z : A) (r : RowEntry) (n m k : ℕ) → Moves (λ u w. past_key key (rest u w)) sound refuses a b x y → Step rest sound refuses T b c y (Some r) z → ((w : World) → sound y w → begins_with key (rest y w) ≡ true)
      → ((w : World) → Sees w a b → sound x w → counted m (with_key key (rest y w)) ≡ counted n (with_key key (rest x w))) → k ≡ min (m + min (row_bytes r) (2 ^ 64 - 1)) (2 ^ 64 - 1)
      → (w : World) → Sees w a c → sound x w → counted k (with_key key (rest z w)) ≡ counted n (with_key key (rest x w))
  older_count key a b c x y z r n m k moves s begins count is w sees h =
      let first = step_first a b c x y z (past_key key) (Some r) moves s w sees in
      let last = step_last a b c x y z (past_key key) (Some r) moves s w sees in
      let still = moves.still w first h in
      counted_one m k key r (rest y w) (rest z w) (s.rows w last still) (begins w still) is ∙ count w first h

  -- a row that decides none of the others
  pub alone_step : (dedup : Bool) (a b : Reach) (x y : A) (r : RowEntry) → (dedup && is_base r) ≡ false → Step rest sound refuses T a b x (Some r) y → Step (λ z w. shown_rows dedup (rest z w)) sound refuses T a b x (Some r) y
  alone_step dedup a b x y r e s = record { rows = λ w sees h. shown_alone dedup r (rest x w) (rest y w) e (s.rows w sees h); still = s.still; checked = s.checked; taken = s.taken }

  none_shown : (dedup : Bool) (rows : List RowEntry) → rows ≡ [] → shown_rows dedup rows ≡ []
  none_shown true rows e = rw e refl
  none_shown false rows e = e

  pub ended_step : (dedup : Bool) (a b : Reach) (x y : A) → Step rest sound refuses T a b x None y → Step (λ z w. shown_rows dedup (rest z w)) sound refuses T a b x None y
  ended_step dedup a b x y s = record { rows = λ w sees h. (let t = s.rows w sees h in (none_shown dedup (rest x w) t.0, none_shown dedup (rest y w) t.1)); still = s.still; checked = s.checked; taken = s.taken }

  pub ended_takes : (dedup : Bool) (n : ℕ) (a b : Reach) (x y : A) → Step rest sound refuses T a b x None y → (w : World) → Sees w a b → sound x w → TakesMerged dedup (rest x w) (rest y w) n n
  ended_takes dedup n a b x y s w sees h =
      let t = s.rows w sees h in
      rw (t.0, t.1) (refl, refl)

  -- and one whose older rows were dropped
  module _ (a b c : Reach) (x y z : A) (r : RowEntry) (s : Step rest sound refuses T a b x (Some r) y) (m : Moves (λ u w. past_key r.key (rest u w)) sound refuses b c y z) (done : (w : World) → sound z w → begins_with r.key (rest z w) ≡ false) where
    abbrev first : (w : World) → Sees w a c → Sees w a b
    first w sees = sees_first w a b c s.taken.0 m.made.0 s.taken.1 m.made.1 sees

    abbrev last : (w : World) → Sees w a c → Sees w b c
    last w sees = sees_last w a b c s.taken.0 m.made.0 s.taken.1 m.made.1 sees

    past : (w : World) → Sees w a c → sound x w → rest z w ≡ past_key r.key (rest y w)
    past w sees h =
        let still = s.still w (first w sees) h in
        let end = m.still w (last w sees) still in
        sym (past_none r.key (rest z w) (done w end)) ∙ m.rows w (last w sees) still

    pub older_step : (dedup : Bool) (adds : A → Meaning → List Act → A → Type 0) → ((v : Meaning) (reads more : List Act) → T x v reads (Some r) y → adds y v more z → T x v (reads ++ more) (Some r) z) → Made b c (λ more. NoMore (refuses y b.meaning) more (refuses z b.meaning) × adds y b.meaning more z)
        → (dedup && is_base r) ≡ true → Step (λ u w. shown_rows dedup (rest u w)) sound refuses T a c x (Some r) z
    older_step dedup adds goes_on brought e = record {
      rows = λ w sees h. shown_older dedup r (rest x w) (rest y w) (rest z w) e (s.rows w (first w sees) h) (past w sees h);
      still = λ w sees h. m.still w (last w sees) (s.still w (first w sees) h);
      checked = λ w h. checks_both w a b c s.taken.0 m.made.0 s.taken.1 m.made.1 (s.checked w h) (λ sees. m.checked w (s.still w sees h));
      taken = (
        s.taken.0 ++ brought.0,
        call_both a b c s.taken.0 brought.0 s.taken.1 brought.1,
        (goes_on a.meaning s.taken.0 brought.0 s.taken.2.0 more.1, no_more_both (refuses x a.meaning) (refuses y a.meaning) (refuses z a.meaning) s.taken.0 brought.0 s.taken.2.1 more.0),
      );
    }
      where
        more : NoMore (refuses y a.meaning) brought.0 (refuses z a.meaning) × adds y a.meaning brought.0 z
        more = subst (λ (p : Meaning). NoMore (refuses y p) brought.0 (refuses z p) × adds y p brought.0 z) s.taken.1.meaning brought.2

    pub older_takes : (dedup : Bool) (n k q : ℕ) → (dedup && is_base r) ≡ true → k ≡ min (n + min (row_bytes r) (2 ^ 64 - 1)) (2 ^ 64 - 1) → ((w : World) → Sees w b c → sound y w → q ≡ counted k (with_key r.key (rest y w)))
        → (w : World) → Sees w a c → sound x w → TakesMerged dedup (rest x w) (rest z w) n q
    older_takes dedup n k q e is count w sees h = takes_older dedup r (rest x w) (rest y w) (rest z w) n k q e (s.rows w (first w sees) h) (past w sees h) is (count w (last w sees) (s.still w (first w sees) h))

pub counts_alone : (dedup : Bool) (n k : ℕ) (r : RowEntry) → k ≡ min (n + min (row_bytes r) (2 ^ 64 - 1)) (2 ^ 64 - 1) → CountsTaken dedup n (Some r) k
counts_alone dedup n k r is = ([], tt, λ e. refl, plainly n k r is)

pub counts_older : (dedup : Bool) (n k q : ℕ) (r : RowEntry) → (dedup && is_base r) ≡ true → k ≡ min (n + min (row_bytes r) (2 ^ 64 - 1)) (2 ^ 64 - 1) → CountsKey r.key k q → CountsTaken dedup n (Some r) q
counts_older dedup n k q r e is c = (c.0, c.1, λ no. (let other : true ≡ false = sym e ∙ no in cc), c.2 ∙ ap (λ (z : ℕ). counted z c.0) (plainly n k r is))

-- ---- heads that begin again

module _ {S : Type 0} (rest : S → World → List RowEntry) (sound : S → World → Type 0) (refuses : S → Meaning → List Act → Option (List ℕ) → SlateDBError → Type 0) (bound : S → ℕ) (order_of : S → IterationOrder) where
  abbrev rest_at : World → S → List RowEntry
  rest_at w s = rest s w

  abbrev sound_at : World → IterationOrder → S → Type 0
  sound_at w o s = sound s w × (order_of s ≡ o)

  abbrev pub heads_left : IterationOrder → List (Head S) → World → List RowEntry
  heads_left o heads w = left_rows (rest_at w) o [] heads

  abbrev pub AreSoundHeads : IterationOrder → List (Head S) → World → Type 0
  AreSoundHeads o heads w = AllByRecursion (IsSoundHead (rest_at w) (sound_at w o) o) heads × ArePlaced heads

  abbrev pub heads_blame : List (Head S) → Meaning → List Act → Option (List ℕ) → SlateDBError → Type 0
  heads_blame heads = blames refuses (begun_sources heads)

  module _ (begins : S → Meaning → List Act → S → Type 0) (more : (x : S) (m : Meaning) (done reads : List Act) (at : Option (List ℕ)) (e : SlateDBError) → refuses x m reads at e → refuses x m (done ++ reads) at e)
      (a b : Reach) (done left others new : List (Head S)) (x : Head S) (source : S) (out : IsPermutation left (x ∷ others)) (within : IsPermutation (record { row = x.row; behind = x.behind; order = x.order; source = source } ∷ done) new)
      (renews : Renews rest sound refuses begins bound order_of a b x.source source) where
    abbrev y : Head S
    y = record { row = x.row; behind = x.behind; order = x.order; source = source }

    renewed : (w : World) → Sees w a b → Renewed (rest_at w) (λ s. sound s w) order_of x.source source
    renewed w sees = record { rows = renews.rows w sees; still = renews.still w sees; order = renews.order }

    pub renew_moves : (o : IterationOrder) → Moves (heads_left o) (AreSoundHeads o) heads_blame a b (done ++ left) (new ++ others)
    renew_moves o = record {
      rows = λ w sees h. renewed_rows (rest_at w) (λ s. sound s w) order_of done left others new x y out within (renewed w sees) o refl refl refl [] h.1 h.0;
      still = λ w sees h. (renewed_begun (rest_at w) (λ s. sound s w) order_of done left others new x y out within (renewed w sees) o refl refl refl h.0, renewed_placed (rest_at w) (λ s. sound s w) order_of done left others new x y out within (renewed w sees) o refl refl refl h.1);
      checked = λ w h. renews.checked w (each_shuffled (IsSoundHead (rest_at w) (sound_at w o) o) (done ++ left) (x ∷ (done ++ others)) (moved_out done left others x out) h.0).0.0.0;
      made = (
        renews.begun.0,
        renews.begun.1,
        blamed_put refuses more a.meaning renews.begun.0 [] (done ++ left) (done ++ others) (new ++ others) x y (moved_out done left others x out) (moved_in done new others y within) renews.begun.2.1,
      );
    }

    -- and bring no more
    pub renew_made : (takes : S → Meaning → List Act → Option RowEntry → S → Type 0) (seeks : S → Meaning → List Act → List ℕ → S → Type 0) → AddsNoneByCall (sources_offer (offers begins takes seeks)) (blames refuses) a b (begun_sources (done ++ left)) (begun_sources (new ++ others))
    renew_made takes seeks = (
      reads,
      renews.begun.1,
      (
        blamed_put refuses more a.meaning reads [] (done ++ left) (done ++ others) (new ++ others) x y (moved_out done left others x out) (moved_in done new others y within) renews.begun.2.1,
        brought_put (offers begins takes seeks) (λ q s m d rs o k. offers_behind_others begins takes seeks q s m d rs o k) a.meaning reads [] (done ++ left) (done ++ others) (new ++ others) x y (moved_out done left others x out) (moved_in done new others y within) less,
      ),
    )
      where
        reads : List Act
        reads = renews.begun.0

        less : (later : List Act) (o : Offer) → offers begins takes seeks (Some x.row) source a.meaning later o → offers begins takes seeks (Some x.row) x.source a.meaning (reads ++ later) o
        less later o k = offers_begun begins takes seeks a.meaning x.source source reads renews.begun.2.0 (Some x.row) later o k

  pub renew_ready : (begins : S → Meaning → List Act → S → Type 0) (a b : Reach) (done new : List (Head S)) (x : Head S) (source : S) (m : Meaning) → IsPermutation (record { row = x.row; behind = x.behind; order = x.order; source = source } ∷ done) new → Renews rest sound refuses begins bound order_of a b x.source source → a.meaning ≡ m
      → AreReady refuses m done → AreReady refuses m new
  renew_ready begins a b done new x source m within renews same h =
      let y : Head S = record { row = x.row; behind = x.behind; order = x.order; source = source } in
      each_shuffled (λ (z : Head S). IsReady (refuses z.source m)) (y ∷ done) new within (subst (λ (p : Meaning). IsReady (refuses source p)) same renews.ready, h)

  none_ahead : (heads : List (Head S)) → AllByRecursion (λ h. 0 ≤ h.behind) heads
  none_ahead [] = tt
  none_ahead (h ∷ heads) = (omega arith, none_ahead heads)

  -- all heads have begun again
  pub again_moves : (o : IterationOrder) (a b : Reach) (heads done : List (Head S)) → IsHeap head_cmp done → Moves (heads_left o) (AreSoundHeads o) heads_blame a b heads done
      → Moves (left_in rest o) (IsMergingIn rest sound order_of o) (blames refuses) a b (begun_sources heads) (begun_sources done)
  again_moves o a b heads done heap m = record {
    rows = λ w sees h. m.rows w sees (h.begun, h.placed);
    still = λ w sees h. (let k = m.still w sees (h.begun, h.placed) in record { ready = tt; begun = k.0; heap = heap; placed = k.1; ahead = none_ahead done });
    checked = λ w h. m.checked w (h.begun, h.placed);
    made = m.made;
  }
