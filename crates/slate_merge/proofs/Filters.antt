-- What a filter does by the steps of its source.
use Rattle.std.proofs.Common.{◌≡◌, ◌⊎◌, inl, inr, ℕ, Bool, true, false, List, [], ◌∷◌, ◌++◌, flat_map, filter, Option, Some, None, refl, sym, ap, subst, ◌∙◌, append_assoc, append-nil}
use Rattle.std.specs.Prelude.{IfSome}
use Rattle.slate_types.specs.declared.error.SlateDBError.{SlateDBError}
use Rattle.slate_types.specs.declared.types.RowEntry.{RowEntry}
use Rattle.slate_types.specs.Iteration.{TakesRow}
use Rattle.slate_store.specs.Store.{Act}
use Rattle.slate_types.specs.Outside.{Counts, IsLater, IsCounted}
use Rattle.slate_types.proofs.IterationLaws.{skipped}
use Rattle.slate_types.proofs.OutsideLaws.{counted_earlier}
use Rattle.slate_types.specs.World.{World, Checks, IsCall, Made, Sees}
use Rattle.slate_types.specs.Outside.{Meaning, Reach}
use Rattle.slate_types.specs.Refusing.{NoMore, NoMoreBut}
use Rattle.slate_merge.specs.Filtering.{Skips, StaysKept, TakesKept}
use Rattle.slate_types.proofs.Calls.{call_none, call_both, sees_first, sees_last, checks_none, checks_both, no_more_both, no_more_but}
use Rattle.slate_types.specs.Steps.{Step}

-- the reads of calls
abbrev pub reads_of : List (List Act × RowEntry) → List Act
reads_of calls = flat_map (λ (call : List Act × RowEntry). call.0) calls

-- steps that brought rows which aren't kept
pub record Went {A : Type 0} (rest : A → World → List RowEntry) (sound : A → World → Type 0) (refuses : A → Meaning → List Act → Option (List ℕ) → SlateDBError → Type 0) (takes : A → Meaning → List Act → Option RowEntry → A → Type 0)
    (keep : RowEntry → Bool) (before after : Reach) (x y : A) : Type 0 where
  pub dropped : List (List Act × RowEntry)
  pub call : IsCall before after (reads_of dropped)
  pub skips : Skips (λ u rs a v. takes u before.meaning rs a v) keep x dropped y
  pub fewer : NoMore (refuses x before.meaning) (reads_of dropped) (refuses y before.meaning)
  pub still : (w : World) → Sees w before after → sound x w → sound y w
  pub rows : (w : World) → Sees w before after → sound x w → filter keep (rest y w) ≡ filter keep (rest x w)
  pub checked : (w : World) → sound x w → Checks w before after

reads_more : (calls : List (List Act × RowEntry)) (one : List Act × RowEntry) → reads_of (calls ++ (one ∷ [])) ≡ reads_of calls ++ one.0
reads_more [] one = append-nil one.0
reads_more (call ∷ calls) one = ap (λ (l : List Act). call.0 ++ l) (reads_more calls one) ∙ sym (append_assoc call.0 (reads_of calls) one.0)

skips_more : {A : Type 0} (step : A → List Act → Option RowEntry → A → Type 0) (keep : RowEntry → Bool) (x y z : A) (calls : List (List Act × RowEntry)) (reads : List Act) (row : RowEntry) →
    Skips step keep x calls y → step y reads (Some row) z → keep row ≡ false → Skips step keep x (calls ++ ((reads, row) ∷ [])) z
skips_more step keep x y z [] reads row h s k = (z, subst (λ u. step u reads (Some row) z) (sym h) s, k, refl)
skips_more step keep x y z (call ∷ calls) reads row h s k = (h.0, h.1, h.2, skips_more step keep h.0 y z calls reads row h.3 s k)

pub went_none : {A : Type 0} (rest : A → World → List RowEntry) (sound : A → World → Type 0) (refuses : A → Meaning → List Act → Option (List ℕ) → SlateDBError → Type 0) (takes : A → Meaning → List Act → Option RowEntry → A → Type 0)
    (keep : RowEntry → Bool) (t : Reach) (x : A) → Went rest sound refuses takes keep t t x x
went_none rest sound refuses takes keep t x = record {
  dropped = [];
  call = call_none t;
  skips = refl;
  fewer = λ later at e h. h;
  still = λ w s h. h;
  rows = λ w s h. refl;
  checked = λ w h. checks_none w t;
}

-- one more row that isn't kept
pub went_on : {A : Type 0} (rest : A → World → List RowEntry) (sound : A → World → Type 0) (refuses : A → Meaning → List Act → Option (List ℕ) → SlateDBError → Type 0) (takes : A → Meaning → List Act → Option RowEntry → A → Type 0)
    (keep : RowEntry → Bool) (a b c : Reach) (x y z : A) (row : RowEntry) → Went rest sound refuses takes keep a b x y → Step rest sound refuses takes b c y (Some row) z → keep row ≡ false → Went rest sound refuses takes keep a c x z
went_on rest sound refuses takes keep a b c x y z row w s k = record {
  dropped = w.dropped ++ ((s.taken.0, row) ∷ []);
  call = subst (λ (reads : List Act). IsCall a c reads) (sym more) (call_both a b c (reads_of w.dropped) s.taken.0 w.call s.taken.1);
  skips = skips_more (λ u rs answer v. takes u a.meaning rs answer v) keep x y z w.dropped s.taken.0 row w.skips (subst (λ (p : Meaning). takes y p s.taken.0 (Some row) z) w.call.meaning s.taken.2.0) k;
  fewer = subst (λ (reads : List Act). NoMore (refuses x a.meaning) reads (refuses z a.meaning)) (sym more)
      (no_more_both (refuses x a.meaning) (refuses y a.meaning) (refuses z a.meaning) (reads_of w.dropped) s.taken.0 w.fewer (subst (λ (p : Meaning). NoMore (refuses y p) s.taken.0 (refuses z p)) w.call.meaning s.taken.2.1));
  still = λ v sees h. s.still v (last v sees) (w.still v (first v sees) h);
  rows = λ v sees h. skipped keep row (rest y v) (rest z v) (s.rows v (last v sees) (w.still v (first v sees) h)) k ∙ w.rows v (first v sees) h;
  checked = λ v h. checks_both v a b c (reads_of w.dropped) s.taken.0 w.call s.taken.1 (w.checked v h) (λ sees. s.checked v (w.still v sees h));
}
  where
    more : reads_of (w.dropped ++ ((s.taken.0, row) ∷ [])) ≡ reads_of w.dropped ++ s.taken.0
    more = reads_more w.dropped (s.taken.0, row)

    first : (v : World) → Sees v a c → Sees v a b
    first v h = sees_first v a b c (reads_of w.dropped) s.taken.0 w.call s.taken.1 h

    last : (v : World) → Sees v a c → Sees v b c
    last v h = sees_last v a b c (reads_of w.dropped) s.taken.0 w.call s.taken.1 h

takes_filtered : (keep : RowEntry → Bool) (before after whole : List RowEntry) (answer : Option RowEntry) → TakesRow before answer after → IfSome answer (λ row. keep row ≡ true) → filter keep before ≡ whole → TakesRow whole answer (filter keep after)
takes_filtered keep before after whole None t k is = (sym is ∙ ap (λ (l : List RowEntry). filter keep l) t.0, ap (λ (l : List RowEntry). filter keep l) t.1)
takes_filtered keep before after whole (Some row) t k is = sym is ∙ ap (λ (l : List RowEntry). filter keep l) t ∙ kept
  where
    kept : filter keep (row ∷ after) ≡ row ∷ filter keep after
    kept = rw k refl

-- and then one that is kept, or none
pub went_step : {A : Type 0} (rest : A → World → List RowEntry) (sound : A → World → Type 0) (refuses : A → Meaning → List Act → Option (List ℕ) → SlateDBError → Type 0) (takes : A → Meaning → List Act → Option RowEntry → A → Type 0)
    (keep : RowEntry → Bool) (a b c : Reach) (x y z : A) (answer : Option RowEntry) → Went rest sound refuses takes keep a b x y → Step rest sound refuses takes b c y answer z → IfSome answer (λ row. keep row ≡ true) →
    Step (λ u w. filter keep (rest u w)) sound refuses (λ u p reads r v. TakesKept (λ s rs k t. takes s p rs k t) keep u reads r v) a c x answer z
went_step rest sound refuses takes keep a b c x y z answer w s k = record {
  rows = λ v sees h. takes_filtered keep (rest y v) (rest z v) (filter keep (rest x v)) answer (s.rows v (last v sees) (w.still v (first v sees) h)) k (w.rows v (first v sees) h);
  still = λ v sees h. s.still v (last v sees) (w.still v (first v sees) h);
  checked = λ v h. checks_both v a b c (reads_of w.dropped) s.taken.0 w.call s.taken.1 (w.checked v h) (λ sees. s.checked v (w.still v sees h));
  taken = (
    reads_of w.dropped ++ s.taken.0,
    call_both a b c (reads_of w.dropped) s.taken.0 w.call s.taken.1,
    (
      (w.dropped, s.taken.0, y, refl, w.skips, subst (λ (p : Meaning). takes y p s.taken.0 answer z) w.call.meaning s.taken.2.0, k),
      no_more_both (refuses x a.meaning) (refuses y a.meaning) (refuses z a.meaning) (reads_of w.dropped) s.taken.0 w.fewer (subst (λ (p : Meaning). NoMore (refuses y p) s.taken.0 (refuses z p)) w.call.meaning s.taken.2.1),
    ),
  );
}
  where
    first : (v : World) → Sees v a c → Sees v a b
    first v h = sees_first v a b c (reads_of w.dropped) s.taken.0 w.call s.taken.1 h

    last : (v : World) → Sees v a c → Sees v b c
    last v h = sees_last v a b c (reads_of w.dropped) s.taken.0 w.call s.taken.1 h

-- or one that is refused
pub went_still : {A : Type 0} (rest : A → World → List RowEntry) (sound : A → World → Type 0) (refuses : A → Meaning → List Act → Option (List ℕ) → SlateDBError → Type 0) (takes : A → Meaning → List Act → Option RowEntry → A → Type 0)
    (keep : RowEntry → Bool) (a b c : Reach) (x y z : A) (reads : List Act) → Went rest sound refuses takes keep a b x y → IsCall b c reads → ((w : World) → Sees w b c → sound y w → sound z w) → (w : World) → Sees w a c → sound x w → sound z w
went_still rest sound refuses takes keep a b c x y z reads w call still = λ v sees h.
    still v (sees_last v a b c (reads_of w.dropped) reads w.call call sees) (w.still v (sees_first v a b c (reads_of w.dropped) reads w.call call sees) h)

pub went_fails : {A : Type 0} (rest : A → World → List RowEntry) (sound : A → World → Type 0) (refuses : A → Meaning → List Act → Option (List ℕ) → SlateDBError → Type 0) (takes : A → Meaning → List Act → Option RowEntry → A → Type 0)
    (stays : A → Meaning → List Act → Option (List ℕ) → SlateDBError → A → Type 0) (Q : Type 0)
    (keep : RowEntry → Bool) (a b c : Reach) (i j k : Counts) (x y z : A) (e : SlateDBError) → Went rest sound refuses takes keep a b x y → IsLater i j →
    Made b c (λ reads. (IsCounted j k e ⊎ refuses y b.meaning reads None e) × stays y b.meaning reads None e z × NoMoreBut e (refuses y b.meaning) reads (refuses z b.meaning)) → Q →
    Made a c (λ reads. (IsCounted i k e ⊎ refuses x a.meaning reads None e) × (StaysKept (λ u rs r v. takes u a.meaning rs r v) (λ u rs l d v. stays u a.meaning rs l d v) keep x reads None e z × Q) × NoMoreBut e (refuses x a.meaning) reads (refuses z a.meaning))
went_fails rest sound refuses takes stays Q keep a b c i j k x y z e w since made q = (
  reads_of w.dropped ++ made.0,
  call_both a b c (reads_of w.dropped) made.0 w.call made.1,
  (blamed made.2.0, ((w.dropped, made.0, y, refl, w.skips, subst (λ (p : Meaning). stays y p made.0 None e z) w.call.meaning made.2.1, λ some. cc), q), no_more_but (refuses x a.meaning) (refuses y a.meaning) (refuses z a.meaning) e (reads_of w.dropped) made.0 w.fewer (subst (λ (p : Meaning). NoMoreBut e (refuses y p) made.0 (refuses z p)) w.call.meaning made.2.2)),
)
  where
    blamed : IsCounted j k e ⊎ refuses y b.meaning made.0 None e → IsCounted i k e ⊎ refuses x a.meaning (reads_of w.dropped ++ made.0) None e
    blamed (inl h) = inl (counted_earlier i j k e since h)
    blamed (inr h) = inr (w.fewer made.0 None e (subst (λ (p : Meaning). refuses y p made.0 None e) w.call.meaning h))

-- what the source refuses at once
pub stays_at_once : {A : Type 0} (step : A → List Act → Option RowEntry → A → Type 0) (stays : A → List Act → Option (List ℕ) → SlateDBError → A → Type 0) (keep : RowEntry → Bool) (x y : A) (reads : List Act) (at : Option (List ℕ)) (e : SlateDBError) →
    stays x reads at e y → StaysKept step stays keep x reads at e y
stays_at_once step stays keep x y reads at e h = ([], reads, x, refl, refl, h, λ some. refl)
