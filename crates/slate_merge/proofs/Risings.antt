-- Rows that rise above the operand before them.
use Rattle.std.proofs.Common.{◌≡◌, ◌⊎◌, inl, inr, ℕ, ◌<◌, ◌&&◌, Bool, true, false, List, [], ◌∷◌, ◌++◌, Option, Some, None, refl, sym, ap, subst, ◌∙◌, append_assoc, arith}
use Rattle.std.specs.Prelude.{nat_lt}
use Rattle.std.proofs.lemmas.Bool.Decides.{nat_tests}
use Rattle.std.proofs.lemmas.List.Elements.{Contains-append_right}
use Rattle.slate_types.specs.declared.error.SlateDBError.{SlateDBError}
use Rattle.slate_types.specs.declared.error.SlateDBError.TheVariants.{InvalidSequenceOrder, MergeOperatorMissing}
use Rattle.slate_types.specs.declared.iter.IterationOrder.{IterationOrder}
use Rattle.slate_types.specs.declared.types.RowEntry.{RowEntry}
use Rattle.slate_types.specs.Iteration.{comes_before, drop_before}
use Rattle.slate_types.specs.Outside.{Act, Counts, IsCounted, IsFault, IsLater, Meaning, OnlyReads, Reach}
use Rattle.slate_types.specs.Refusing.{NoMore}
use Rattle.slate_types.specs.Steps.{Step, Takes}
use Rattle.slate_types.specs.World.{World, Made, Sees}
use Rattle.slate_types.proofs.Calls.{call_both, no_more_both, sees_first, sees_last}
use Rattle.slate_types.proofs.Moves.{Moves}
use Rattle.slate_types.proofs.Reaching.{fault_earlier}
use Rattle.slate_types.proofs.Walked.{Walked, walked_none, walked_on}
use Rattle.slate_merge.specs.Offers.{offers}
use Rattle.slate_merge.specs.Folding.{AreLinked, FoldFalls, NoneRises, begins_linked, is_open, links, rises}
use Rattle.slate_merge.specs.FoldedLaws.{and_right, unlinked}
use Rattle.slate_merge.specs.Folds.{Blames, BlamesNext, EndsByRise, IsRise, MeetsRise, RefusesRise, Taken, refuses_folds, refuses_taken, rest_taken, sound_taken, takes_ahead}
use Rattle.slate_merge.specs.OperatorIterators.{IsOwn}
use Rattle.slate_merge.specs.Peeking.{TakesAhead, with_ahead}
use Rattle.slate_merge.specs.Turns.{both}
use Rattle.slate_merge.proofs.FoldBringings.{Came, rise_brought}

pub not_risen : (different : Bool) (barrier : Option ℕ) (r s : RowEntry) → nat_lt r.seq s.seq ≡ false → rises different barrier r s ≡ false
not_risen different barrier r s e = by (links different barrier r s) (nat_lt r.seq s.seq) e
  where
    by : (a b : Bool) → b ≡ false → (a && b) ≡ false
    by true b h = h
    by false b h = refl

-- a row that isn't folded doesn't rise, whatever its sequence
pub apart_falls : (different : Bool) (barrier : Option ℕ) (r : RowEntry) (rows : List RowEntry) → begins_linked (links different barrier) r rows ≡ false → begins_linked (rises different barrier) r rows ≡ false
apart_falls different barrier r [] e = refl
apart_falls different barrier r (s ∷ rows) e = ap (λ b. b && nat_lt r.seq s.seq) e

pub is_risen : (different : Bool) (barrier : Option ℕ) (r s : RowEntry) → links different barrier r s ≡ true → nat_lt r.seq s.seq ≡ true → rises different barrier r s ≡ true
is_risen different barrier r s linked above = (λ i. linked i && nat_lt r.seq s.seq) ∙ above

risen_less : (different : Bool) (barrier : Option ℕ) (r s : RowEntry) → rises different barrier r s ≡ true → r.seq < s.seq
risen_less different barrier r s e = less r.seq s.seq (and_right (links different barrier r s) (nat_lt r.seq s.seq) e)
  where
    less : (m n : ℕ) → nat_lt m n ≡ true → m < n
    less m n h = grind (arith, nat_tests, h)

-- ---- lists of rows

pub none_rises_behind : (different : Bool) (barrier : Option ℕ) (front rows : List RowEntry) → NoneRises different barrier (front ++ rows) → NoneRises different barrier rows
none_rises_behind different barrier [] rows h = h
none_rises_behind different barrier (r ∷ front) rows h = none_rises_behind different barrier front rows h.1

-- a seek takes rows off
pub none_rises_dropped : (different : Bool) (barrier : Option ℕ) (order : IterationOrder) (key : List ℕ) (rows : List RowEntry) → NoneRises different barrier rows → NoneRises different barrier (drop_before order key rows)
none_rises_dropped different barrier order key [] h = tt
none_rises_dropped different barrier order key (r ∷ rows) h = elim (both (comes_before order r.key key)) as (λ _. NoneRises different barrier (drop_before order key (r ∷ rows))) [
  | inl e ↦ rw e (none_rises_dropped different barrier order key rows h.1)
  | inr e ↦ rw e h
]

pub none_rises_more : (different : Bool) (barrier : Option ℕ) (rows : List RowEntry) (r s : RowEntry) → NoneRises different barrier (rows ++ (r ∷ [])) → rises different barrier r s ≡ false → NoneRises different barrier ((rows ++ (r ∷ [])) ++ (s ∷ []))
none_rises_more different barrier [] r s h e = (e, (refl, tt))
none_rises_more different barrier (x ∷ []) r s h e = (h.0, none_rises_more different barrier [] r s h.1 e)
none_rises_more different barrier (x ∷ y ∷ rows) r s h e = (h.0, none_rises_more different barrier (y ∷ rows) r s h.1 e)

-- rows that are folded
pub gathered_falls : (different : Bool) (barrier : Option ℕ) (newer : List RowEntry) (oldest : RowEntry) (more : List RowEntry) → NoneRises different barrier (newer ++ (oldest ∷ [])) →
    begins_linked (links different barrier) oldest more ≡ false → FoldFalls different barrier (newer ++ (oldest ∷ more))
gathered_falls different barrier [] oldest more h apart = (apart_falls different barrier oldest more apart, λ is. (let never : true ≡ false = sym is ∙ apart in cc))
gathered_falls different barrier (r ∷ []) oldest more h apart = (h.0, λ is. gathered_falls different barrier [] oldest more h.1 apart)
gathered_falls different barrier (r ∷ s ∷ rows) oldest more h apart = (h.0, λ is. gathered_falls different barrier (s ∷ rows) oldest more h.1 apart)

-- a row that isn't folded
pub through_falls : (different : Bool) (barrier : Option ℕ) (r : RowEntry) (rows : List RowEntry) → is_open barrier r ≡ false → FoldFalls different barrier (r ∷ rows)
through_falls different barrier r rows e = gathered_falls different barrier [] r rows (refl, tt) (unlinked different barrier r rows e)

-- ---- rows that were gathered behind the first one

pub record Gathering {S : Type 0} (rest : S → World → List RowEntry) (sound : S → World → Type 0) (refuses : S → Meaning → List Act → Option (List ℕ) → SlateDBError → Type 0) (takes : S → Meaning → List Act → Option RowEntry → S → Type 0)
    (a b : Reach) (x y : S) (first : RowEntry) (rows : List RowEntry) : Type 0 where
  pub given : List RowEntry
  pub are : rows ≡ first ∷ given
  pub walked : Walked rest sound refuses takes a b x y given

module _ {S : Type 0} (rest : S → World → List RowEntry) (sound : S → World → Type 0) (refuses : S → Meaning → List Act → Option (List ℕ) → SlateDBError → Type 0) (takes : S → Meaning → List Act → Option RowEntry → S → Type 0) where
  pub gathering_none : (a : Reach) (x : S) (first : RowEntry) → Gathering rest sound refuses takes a a x x first (first ∷ [])
  gathering_none a x first = record { given = []; are = refl; walked = walked_none rest sound refuses takes a x }

  pub gathering_on : (a b c : Reach) (x y z : S) (first row : RowEntry) (rows : List RowEntry) → Gathering rest sound refuses takes a b x y first rows → Step rest sound refuses takes b c y (Some row) z → OnlyReads b c →
      Gathering rest sound refuses takes a c x z first (rows ++ (row ∷ []))
  gathering_on a b c x y z first row rows g s reads = record {
    given = g.given ++ (row ∷ []);
    are = ap (λ (l : List RowEntry). l ++ (row ∷ [])) g.are;
    walked = walked_on rest sound refuses takes a b c x y z g.given row g.walked s reads;
  }

  -- what came
  pub gathering_came : (a b : Reach) (x y : S) (first : RowEntry) (rows : List RowEntry) (more : Option RowEntry) → more ≡ None → Gathering rest sound refuses takes a b x y first rows → Came takes refuses a b x None y more
  gathering_came a b x y first rows more none g = subst (λ (o : Option RowEntry). Came takes refuses a b x None y o) (sym none) (g.walked.made.0, g.walked.made.1, ((g.given, inl g.walked.made.2.1, tt, tt), g.walked.made.2.0))

  pub gathering_ahead : (a b c : Reach) (x y z : S) (first row : RowEntry) (rows : List RowEntry) → Gathering rest sound refuses takes a b x y first rows → Step rest sound refuses takes b c y (Some row) z → OnlyReads b c → Came takes refuses a c x None z (Some row)
  gathering_ahead a b c x y z first row rows g s reads =
      let on = walked_on rest sound refuses takes a b c x y z g.given row g.walked s reads in
      (on.made.0, on.made.1, ((g.given ++ (row ∷ []), inl on.made.2.1, (Contains-append_right g.given (row ∷ []) row (0, omega arith, refl), tt), (g.given, on.made.2.1)), on.made.2.0))

  pub gathering_spent : (a b c : Reach) (x y z : S) (first : RowEntry) (rows : List RowEntry) (more : Option RowEntry) → more ≡ None → Gathering rest sound refuses takes a b x y first rows → Step rest sound refuses takes b c y None z → OnlyReads b c → Came takes refuses a c x None z more
  gathering_spent a b c x y z first rows more none g s reads =
      let m = g.walked.made in
      let meaning = m.1.meaning in
      subst (λ (o : Option RowEntry). Came takes refuses a c x None z o) (sym none) (
        m.0 ++ s.taken.0,
        call_both a b c m.0 s.taken.0 m.1 s.taken.1,
        (
          (g.given, inr (y, m.0, s.taken.0, refl, m.2.1, subst (λ (p : Meaning). takes y p s.taken.0 None z) meaning s.taken.2.0), tt, tt),
          no_more_both (refuses x a.meaning) (refuses y a.meaning) (refuses z a.meaning) m.0 s.taken.0 m.2.0 (subst (λ (p : Meaning). NoMore (refuses y p) s.taken.0 (refuses z p)) meaning s.taken.2.1),
        ),
      )

  -- the next row rises
  pub gathering_rises : (different : Bool) (barrier : Option ℕ) (a b c : Reach) (x y z : S) (first oldest row : RowEntry) (newer : List RowEntry) → Gathering rest sound refuses takes a b x y first (newer ++ (oldest ∷ [])) → AreLinked (links different barrier) newer oldest →
      Step rest sound refuses takes b c y (Some row) z → OnlyReads b c → links different barrier oldest row ≡ true → nat_lt oldest.seq row.seq ≡ true →
      Made a c (λ reads. MeetsRise (λ u rs o v. takes u a.meaning rs o v) different barrier (Some first) reads x z (InvalidSequenceOrder oldest.seq row.seq))
  gathering_rises different barrier a b c x y z first oldest row newer g linked s reads last above =
      let on = gathering_on a b c x y z first row (newer ++ (oldest ∷ [])) g s reads in (
        on.walked.made.0,
        on.walked.made.1,
        (
          on.given,
          on.walked.made.2.1,
          record {
            newer = newer;
            oldest = oldest;
            row = row;
            are = sym on.are ∙ append_assoc newer (oldest ∷ []) (row ∷ []);
            linked = linked;
            rises = is_risen different barrier oldest row last above;
            refusal = refl;
          },
        ),
      )

module _ {S : Type 0} (rest : S → World → List RowEntry) (sound : S → World → Type 0) (refuses : S → Meaning → List Act → Option (List ℕ) → SlateDBError → Type 0) (order_of : S → IterationOrder) where
  -- no row rises in a world in which none does
  pub never_rises : {A : Type 0} (takes : S → Meaning → List Act → Option RowEntry → S → Type 0) (different : Bool) (barrier : Option ℕ) (oldest row : RowEntry) (newer : List RowEntry) (a b c : Reach) (z : Taken S) (x y : S) →
      Moves (rest_taken rest) (sound_taken rest sound order_of) (refuses_taken refuses) a b z (x, None, newer ++ (oldest ∷ [])) → Step rest sound refuses takes b c x (Some row) y → links different barrier oldest row ≡ true → nat_lt oldest.seq row.seq ≡ true →
      (w : World) → Sees w a c → sound_taken rest sound order_of z w → NoneRises different barrier (rest_taken rest z w) → A
  never_rises takes different barrier oldest row newer a b c z x y m s linked above w sees h falls =
      let first : Sees w a b = sees_first w a b c m.made.0 s.taken.0 m.made.1 s.taken.1 sees in
      let last : Sees w b c = sees_last w a b c m.made.0 s.taken.0 m.made.1 s.taken.1 sees in
      let came : (newer ++ (oldest ∷ [])) ++ (row ∷ rest y w) ≡ rest_taken rest z w = ap (λ (l : List RowEntry). (newer ++ (oldest ∷ [])) ++ l) (sym (s.rows w last (m.still w first h).0)) ∙ m.rows w first h in
      let here : NoneRises different barrier (newer ++ (oldest ∷ row ∷ rest y w)) = subst (NoneRises different barrier) (append_assoc newer (oldest ∷ []) (row ∷ rest y w)) (subst (NoneRises different barrier) (sym came) falls) in
      let no : rises different barrier oldest row ≡ false = (none_rises_behind different barrier newer (oldest ∷ row ∷ rest y w) here).0 in
      let never : true ≡ false = sym (is_risen different barrier oldest row linked above) ∙ no in cc

  -- the source is spent
  pub spent_rest : (takes : S → Meaning → List Act → Option RowEntry → S → Type 0) (a b c : Reach) (z : Taken S) (x y : S) (taken : List RowEntry) → Moves (rest_taken rest) (sound_taken rest sound order_of) (refuses_taken refuses) a b z (x, None, taken) →
      Step rest sound refuses takes b c x None y → (w : World) → Sees w a c → sound_taken rest sound order_of z w → rest y w ≡ []
  spent_rest takes a b c z x y taken m s w sees h =
      (s.rows w (sees_last w a b c m.made.0 s.taken.0 m.made.1 s.taken.1 sees) (m.still w (sees_first w a b c m.made.0 s.taken.0 m.made.1 s.taken.1 sees) h).0).1

  -- the refusal of the source behind the first row is that of the source
  pub own_behind : (a b c : Reach) (x : Taken S) (y : S) (ahead : Option RowEntry) (taken : List RowEntry) (e : SlateDBError) → Moves (rest_taken rest) (sound_taken rest sound order_of) (refuses_taken refuses) a b x (y, ahead, taken) → IsLater a.faults b.faults →
      IsOwn refuses b c y e → IsOwn refuses a c x.0 e
  own_behind a b c x y ahead taken e m later (inl k) = inl (fault_earlier a b c e later k)
  own_behind a b c x y ahead taken e m later (inr k) = inr (
    m.made.0 ++ k.0,
    call_both a b c m.made.0 k.0 m.made.1 k.1,
    m.made.2 k.0 None e (subst (λ (p : Meaning). refuses y p k.0 None e) m.made.1.meaning k.2),
  )

-- ---- refusals

not_order : {A : Type 0} (i j : Counts) (e : SlateDBError) (current next : ℕ) → e ≡ InvalidSequenceOrder current next → IsCounted i j e → A
not_order i j e current next is k = let no : ⊥ = subst (IsCounted i j) is k in absurd no

not_missing : {A : Type 0} (i j : Counts) (e : SlateDBError) → e ≡ MergeOperatorMissing → IsCounted i j e → A
not_missing i j e m k = let no : ⊥ = subst (IsCounted i j) m k in absurd no

pub fault_blames : {own opens rising : Type 0} (a b : Reach) (e : SlateDBError) → IsFault a b e → Blames e own opens rising
fault_blames a b e k = (λ m. not_missing a.faults b.faults e m k, λ current next is. not_order a.faults b.faults e current next is k)

pub own_blames : {own opens rising : Type 0} (e : SlateDBError) → own → Blames e own opens rising
own_blames e k = (λ m. inl k, λ current next is. inl k)

module _ {S : Type 0} (takes : S → List Act → Option RowEntry → S → Type 0) (different : Bool) (barrier : Option ℕ) where
  pub rise_refused : (m : Meaning) (ahead : Option RowEntry) (reads : List Act) (x y : S) (e : SlateDBError) → (m.combine ≡ None → ⊥) → MeetsRise takes different barrier ahead reads x y e → RefusesRise m None e
  rise_refused m ahead reads x y e some (given, came, ends) = (refl, some, subst IsRise (sym ends.refusal) (risen_less different barrier ends.oldest ends.row ends.rises))

  pub rise_blames : {own opens : Type 0} (ahead : Option RowEntry) (reads : List Act) (x y : S) (e : SlateDBError) → MeetsRise takes different barrier ahead reads x y e → Blames e own opens (MeetsRise takes different barrier ahead reads x y e)
  rise_blames ahead reads x y e met = (λ m. (let never = sym m ∙ met.2.refusal in cc), λ current next is. inr met)

  -- the first row was read ahead, or the source gave it
  pub rise_behind : (ahead : Option RowEntry) (first : RowEntry) (reads more : List Act) (x y z : S) (e : SlateDBError) → TakesAhead takes ahead reads (Some first) x y → MeetsRise takes different barrier (Some first) more y z e →
      MeetsRise takes different barrier ahead (reads ++ more) x z e
  rise_behind None first reads more x y z e t (given, came, ends) = (first ∷ given, (y, reads, more, refl, t, came), ends)
  rise_behind (Some row) first reads more x y z e (is, none, same) (given, came, ends) = (
    given,
    subst (λ (l : List Act). Takes takes x l given z) (ap (λ (l : List Act). l ++ more) (sym none)) (subst (λ (u : S). Takes takes u more given z) same came),
    subst (λ (o : Option RowEntry). EndsByRise different barrier (with_ahead o given) e) is ends,
  )

-- the source refuses
pub or_rising : {A B C : Type 0} → A ⊎ B → A ⊎ (B ⊎ C)
or_rising (inl h) = inl h
or_rising (inr h) = inr (inl h)

-- what comes behind the first row is refused
pub gathered_blames : {S : Type 0} (rest : S → World → List RowEntry) (sound : S → World → Type 0) (refuses : S → Meaning → List Act → Option (List ℕ) → SlateDBError → Type 0) (order_of : S → IterationOrder)
    (begins : S → Meaning → List Act → S → Type 0) (takes : S → Meaning → List Act → Option RowEntry → S → Type 0) (seeks : S → Meaning → List Act → List ℕ → S → Type 0)
    (different : Bool) (barrier : Option ℕ) (a b c : Reach) (x y z : S) (ahead : Option RowEntry) (first : RowEntry) (e : SlateDBError) →
    Step (rest_taken rest) (sound_taken rest sound order_of) (refuses_taken refuses) (takes_ahead takes) a b (x, ahead, []) (Some first) (y, None, []) → IsLater a.faults b.faults → (a.meaning.combine ≡ None → ⊥) →
    Made b c (λ reads. IsFault b c e ⊎ (refuses y b.meaning reads None e ⊎ MeetsRise (λ u rs o v. takes u b.meaning rs o v) different barrier (Some first) reads y z e)) →
    Made a c (λ reads. (IsFault a c e ⊎ refuses_folds {S = S} refuses (offers begins takes seeks) (x, ahead, []) a.meaning reads None e)
    × BlamesNext refuses takes different barrier ahead a.meaning reads None e x z)
gathered_blames {S} rest sound refuses order_of begins takes seeks different barrier a b c x y z ahead first e s later some made = (s.taken.0 ++ made.0, call_both a b c s.taken.0 made.0 s.taken.1 made.1, by made.2)
  where
    all : List Act
    all = s.taken.0 ++ made.0

    by : IsFault b c e ⊎ (refuses y b.meaning made.0 None e ⊎ MeetsRise (λ u rs o v. takes u b.meaning rs o v) different barrier (Some first) made.0 y z e) →
        (IsFault a c e ⊎ refuses_folds {S = S} refuses (offers begins takes seeks) (x, ahead, []) a.meaning all None e)
        × BlamesNext refuses takes different barrier ahead a.meaning all None e x z
    by (inl k) = let here = fault_earlier a b c e later k in (inl here, fault_blames a c e here)
    by (inr (inl k)) = let here = s.taken.2.1 made.0 None e (subst (λ (p : Meaning). refuses y p made.0 None e) s.taken.1.meaning k) in (inr (inl here), own_blames e here)
    by (inr (inr k)) =
        let takes_now : S → List Act → Option RowEntry → S → Type 0 = λ u rs o v. takes u a.meaning rs o v in
        let met = rise_behind takes_now different barrier ahead first s.taken.0 made.0 x y z e s.taken.2.0 (subst (λ (p : Meaning). MeetsRise (λ u rs o v. takes u p rs o v) different barrier (Some first) made.0 y z e) s.taken.1.meaning k) in
        let why = rise_refused takes_now different barrier a.meaning ahead all x z e some met in
        (inr (inr (rise_brought begins takes seeks different barrier a.meaning x z ahead all e why met)), rise_blames takes_now different barrier ahead all x z e met)
