-- What rows show that come next where operands are folded: an operand, or one that rises.
use Rattle.std.proofs.Common.{◌≡◌, ◌⊎◌, inl, inr, ℕ, Bool, true, List, [], ◌∷◌, ◌++◌, Option, Some, None, refl, sym, ap, subst, ◌∙◌, append-nil, append_assoc, arith}
use Rattle.std.specs.Prelude.{◌<◌, Contains, IfSome, bytes_eq, nat_lt}
use Rattle.std.proofs.lemmas.Bool.Decides.{nat_tests}
use Rattle.std.proofs.lemmas.List.Elements.{Contains-append_cases, Contains-append_right}
use Rattle.slate_types.specs.declared.error.SlateDBError.{SlateDBError}
use Rattle.slate_types.specs.declared.error.SlateDBError.TheVariants.{MergeOperatorMissing}
use Rattle.slate_types.specs.declared.types.RowEntry.{RowEntry}
use Rattle.slate_types.specs.Outside.{Act, Meaning, Reach}
use Rattle.slate_types.specs.Refusing.{NoMore}
use Rattle.slate_types.specs.Rows.{is_operand}
use Rattle.slate_types.specs.Steps.{Takes}
use Rattle.slate_types.specs.World.{IsCall, Made}
use Rattle.slate_types.proofs.Calls.{call_both, no_more_both}
use Rattle.slate_merge.specs.NoMoreRows.{NoMoreRows}
use Rattle.slate_merge.specs.CallLaws.{among_within}
use Rattle.slate_merge.specs.Calls.{BringsByCalls}
use Rattle.slate_merge.specs.Folding.{follows, is_open, is_within, links}
use Rattle.slate_merge.specs.FoldedLaws.{and_left, and_right}
use Rattle.slate_merge.specs.Folds.{EndsBy, MeetsRise, RefusesOffered, RefusesRise, Taken, folds_held, refuses_folds}
use Rattle.slate_merge.specs.Handing.{Gives}
use Rattle.slate_merge.specs.Offers.{Comes, IsAbove, Offer, Rises, RisesBehind, offers}
use Rattle.slate_merge.specs.OperatorLaws.{brought_weaker}
use Rattle.slate_merge.specs.Peeking.{TakesAhead, with_ahead}
use Rattle.slate_merge.proofs.Calling.{brings_taken_row, calls_stay, calls_tell}
use Rattle.slate_merge.proofs.Offerings.{given_offer, last_offers, next_rises, offers_held, two_rise}
use Rattle.slate_merge.proofs.Tellings.{gives_tell, one_of}

first_of : (row : RowEntry) (rows : List RowEntry) → Contains (row ∷ rows) row
first_of row rows = (0, omega arith, refl)

behind_first : (front : List RowEntry) (row : RowEntry) (rows : List RowEntry) → Contains (front ++ (row ∷ rows)) row
behind_first front row rows = Contains-append_right front (row ∷ rows) row (first_of row rows)

open_operand : (barrier : Option ℕ) (row : RowEntry) → is_open barrier row ≡ true → is_operand row ≡ true
open_operand barrier row opened = and_left (is_operand row) (is_within barrier row.seq) opened

-- ---- of any source

-- nothing else is refused where the source refuses nothing else, and nothing else is offered
pub folds_less : {S : Type 0} (offers : Option RowEntry → S → Meaning → List Act → Offer → Type 0) (refuses : S → Meaning → List Act → Option (List ℕ) → SlateDBError → Type 0) (m : Meaning) (x y : Taken S) (reads : List Act) → NoMore (refuses x.0 m) reads (refuses y.0 m) →
    NoMoreRows (offers x.1 x.0 m) reads (offers y.1 y.0 m) → NoMore (refuses_folds refuses offers x m) reads (refuses_folds refuses offers y m)
folds_less offers refuses m x y reads less rows later at e (inl h) = inl (less later at e h)
folds_less offers refuses m x y reads less rows later at e (inr h) = inr (brought_weaker (λ r. offers y.1 y.0 m later (Comes r)) (λ r. offers x.1 x.0 m (reads ++ later) (Comes r)) (λ r. offers y.1 y.0 m later (Rises r)) (λ r. offers x.1 x.0 m (reads ++ later) (Rises r)) m at e
    (λ r k. rows later (Comes r) k) (λ r k. rows later (Rises r) k) h)

-- ---- rows that came

module _ {S : Type 0} (takes : S → Meaning → List Act → Option RowEntry → S → Type 0) where
  -- the first row alone, or none
  pub ahead_held : (m : Meaning) (x y : S) (ahead answer : Option RowEntry) (reads : List Act) → TakesAhead (λ u rs a v. takes u m rs a v) ahead reads answer x y → folds_held {S = S} takes (x, ahead, []) m reads (y, None, [])
  ahead_held m x y None None reads t = ([], inr (x, [], reads, refl, (refl, refl), t), tt, tt)
  ahead_held m x y None (Some row) reads t = (row ∷ [], inl (y, reads, [], sym (append-nil reads), t, (refl, refl)), tt, tt)
  ahead_held m x y (Some row) answer reads (is, none, same) = ([], inl (none, sym same), tt, tt)

  -- and others behind it
  pub ahead_then : (m : Meaning) (x y z : S) (ahead more : Option RowEntry) (first : RowEntry) (reads behind : List Act) → TakesAhead (λ u rs a v. takes u m rs a v) ahead reads (Some first) x y → folds_held {S = S} takes (y, None, []) m behind (z, more, []) →
      folds_held {S = S} takes (x, ahead, []) m (reads ++ behind) (z, more, [])
  ahead_then m x y z None more first reads behind t (given, gives, among, ends) = (first ∷ given, front gives, among_within (with_ahead more []) given (first ∷ given) (λ r k. Contains-append_right (first ∷ []) given r k) among, last more ends)
    where
      front : Gives (λ u rs a v. takes u m rs a v) y behind given z → Gives (λ u rs a v. takes u m rs a v) x (reads ++ behind) (first ∷ given) z
      front (inl k) = inl (y, reads, behind, refl, t, k)
      front (inr (last, upto, end, is, k, spent)) = inr (last, reads ++ upto, end, ap (λ (l : List Act). reads ++ l) is ∙ sym (append_assoc reads upto end), (y, reads, upto, refl, t, k), spent)

      last : (o : Option RowEntry) → IfSome o (λ row. EndsBy takes y m behind row z) → IfSome o (λ row. EndsBy takes x m (reads ++ behind) row z)
      last None h = tt
      last (Some row) (before, k) = (first ∷ before, (y, reads, behind, refl, t, k))
  ahead_then m x y z (Some row) more first reads behind (is, none, same) (given, gives, among, ends) = (
    given,
    subst (λ (l : List Act). Gives (λ u rs a v. takes u m rs a v) x l given z) (ap (λ (l : List Act). l ++ behind) (sym none)) (subst (λ (u : S). Gives (λ v rs a w. takes v m rs a w) u behind given z) same gives),
    among,
    subst (λ (l : List Act). IfSome more (λ row. EndsBy takes x m l row z)) (ap (λ (l : List Act). l ++ behind) (sym none)) (subst (λ (u : S). IfSome more (λ row. EndsBy takes u m behind row z)) same ends),
  )

  -- of a call
  module _ (refuses : S → Meaning → List Act → Option (List ℕ) → SlateDBError → Type 0) where
    abbrev pub Came : Reach → Reach → S → Option RowEntry → S → Option RowEntry → Type 0
    Came a b x ahead y more = Made a b (λ reads. folds_held {S = S} takes (x, ahead, []) a.meaning reads (y, more, []) × NoMore (refuses x a.meaning) reads (refuses y a.meaning))

    pub first_came : (a b c : Reach) (x y z : S) (ahead more : Option RowEntry) (first : RowEntry) → Made a b (λ reads. TakesAhead (λ u rs o v. takes u a.meaning rs o v) ahead reads (Some first) x y × NoMore (refuses x a.meaning) reads (refuses y a.meaning)) →
        Came b c y None z more → Came a c x ahead z more
    first_came a b c x y z ahead more first s g =
        let k : folds_held {S = S} takes (y, None, []) a.meaning g.0 (z, more, []) × NoMore (refuses y a.meaning) g.0 (refuses z a.meaning) = subst (λ (p : Meaning). folds_held {S = S} takes (y, None, []) p g.0 (z, more, []) × NoMore (refuses y p) g.0 (refuses z p)) s.1.meaning g.2 in (
          s.0 ++ g.0,
          call_both a b c s.0 g.0 s.1 g.1,
          (ahead_then a.meaning x y z ahead more first s.0 g.0 s.2.0 k.0, no_more_both (refuses x a.meaning) (refuses y a.meaning) (refuses z a.meaning) s.0 g.0 s.2.1 k.1),
        )

    -- and nothing is read behind it
    pub still_came : (a b c : Reach) (x y : S) (ahead more : Option RowEntry) → Came a b x ahead y more → IsCall b c [] → Came a c x ahead y more
    still_came a b c x y ahead more came call = (came.0, subst (λ (l : List Act). IsCall a c l) (append-nil came.0) (call_both a b c came.0 [] came.1 call), came.2)

-- ---- what calls of the source offer

less_is : (n k : ℕ) → nat_lt n k ≡ true → n < k
less_is n k h = grind (arith, nat_tests, h)

module _ {S : Type 0} (begins : S → Meaning → List Act → S → Type 0) (takes : S → Meaning → List Act → Option RowEntry → S → Type 0) (seeks : S → Meaning → List Act → List ℕ → S → Type 0) where
  abbrev pub offered : Option RowEntry → S → Meaning → List Act → Offer → Type 0
  offered = offers begins takes seeks

  -- a row that was read ahead, or came, is offered
  came_brought : (m : Meaning) (x y : S) (ahead : Option RowEntry) (reads : List Act) (given : List RowEntry) → Gives (λ u rs a v. takes u m rs a v) x reads given y → (r : RowEntry) → Contains (with_ahead ahead given) r → offered ahead x m reads (Comes r)
  came_brought m x y ahead reads given gives r k = by ahead k
    where
      told : (q : RowEntry) → Contains given q → BringsByCalls begins takes seeks x m reads q
      told = (gives_tell (λ u rs q. BringsByCalls begins takes seeks u m rs q) (λ u rs a v. takes u m rs a v) (calls_tell begins takes seeks m) (calls_stay begins takes seeks m) x y reads given gives).1

      cases : (q : RowEntry) → Contains (q ∷ []) r ⊎ Contains given r → (q ≡ r) ⊎ BringsByCalls begins takes seeks x m reads r
      cases q (inl c) = inl (one_of q r c)
      cases q (inr c) = inr (told r c)

      by : (o : Option RowEntry) → Contains (with_ahead o given) r → offered o x m reads (Comes r)
      by None c = told r c
      by (Some q) c = cases q (Contains-append_cases (q ∷ []) given r c)

  pub held_less : (m : Meaning) (x y : S) (ahead more : Option RowEntry) (reads : List Act) → folds_held {S = S} takes (x, ahead, []) m reads (y, more, []) → NoMoreRows (offered ahead x m) reads (offered more y m)
  held_less m x y ahead None reads (given, gives, among, ends) later o k = offers_held begins takes seeks m ahead x (reads ++ later) o (given_offer begins takes seeks m given x y reads gives later o k)
  held_less m x y ahead (Some row) reads (given, gives, among, ends) later o k = offers_held begins takes seeks m ahead x (reads ++ later) o (last_offers begins takes seeks m ends.0 x y reads row ends.1 later o k)

  first_brought : (m : Meaning) (x y : S) (ahead : Option RowEntry) (reads : List Act) (row : RowEntry) → TakesAhead (λ u rs a v. takes u m rs a v) ahead reads (Some row) x y → offered ahead x m reads (Comes row)
  first_brought m x y None reads row t = brings_taken_row begins takes seeks x m reads row y t
  first_brought m x y (Some first) reads row (is, none, same) = inl cc

  -- an operand is refused, where there is no operator
  pub open_brought : (barrier : Option ℕ) (m : Meaning) (x y : S) (ahead : Option RowEntry) (reads : List Act) (row : RowEntry) → TakesAhead (λ u rs a v. takes u m rs a v) ahead reads (Some row) x y → is_open barrier row ≡ true → m.combine ≡ None →
      RefusesOffered {S = S} offered (x, ahead, []) m reads None MergeOperatorMissing
  open_brought barrier m x y ahead reads row t opened none = inl (record { refuses = (refl, refl, none); row = row; operand = open_operand barrier row opened; brought = first_brought m x y ahead reads row t })

  -- the second of two rows rises, of which the first may have been read ahead
  pair_rises : (m : Meaning) (x y : S) (ahead : Option RowEntry) (reads : List Act) (given newer : List RowEntry) (q r : RowEntry) → IsAbove q r → Takes (λ u rs a v. takes u m rs a v) x reads given y → with_ahead ahead given ≡ newer ++ (q ∷ r ∷ []) → offered ahead x m reads (Rises r)
  pair_rises m x y None reads given newer q r above came are = two_rise begins takes seeks m newer x y reads q r above (subst (λ (l : List RowEntry). Takes (λ u rs a v. takes u m rs a v) x reads l y) are came)
  pair_rises m x y (Some p) reads given [] q r above came are =
      let first : p ≡ q = cc in
      let rest : given ≡ r ∷ [] = cc in
      inl (subst (λ (z : RowEntry). RisesBehind begins takes z x m reads r) (sym first) (one_rises (subst (λ (l : List RowEntry). Takes (λ u rs a v. takes u m rs a v) x reads l y) rest came)))
    where
      one_rises : Takes (λ u rs a v. takes u m rs a v) x reads (r ∷ []) y → RisesBehind begins takes q x m reads r
      one_rises (next, first, end, is, taken, (none, same)) =
          subst (λ (acts : List Act). RisesBehind begins takes q x m acts r) (sym (is ∙ ap (λ (l : List Act). first ++ l) none ∙ append-nil first)) (next_rises begins takes seeks m x next first q r taken above)
  pair_rises m x y (Some p) reads given (n ∷ newer) q r above came are =
      let rest : given ≡ newer ++ (q ∷ r ∷ []) = cc in
      inr (two_rise begins takes seeks m newer x y reads q r above (subst (λ (l : List RowEntry). Takes (λ u rs a v. takes u m rs a v) x reads l y) rest came))

  -- a row that rises
  pub rise_brought : (different : Bool) (barrier : Option ℕ) (m : Meaning) (x y : S) (ahead : Option RowEntry) (reads : List Act) (e : SlateDBError) → RefusesRise m None e → MeetsRise (λ u rs a v. takes u m rs a v) different barrier ahead reads x y e →
      RefusesOffered {S = S} offered (x, ahead, []) m reads None e
  rise_brought different barrier m x y ahead reads e why (given, came, ends) =
      let linked : links different barrier ends.oldest ends.row ≡ true = and_left (links different barrier ends.oldest ends.row) (nat_lt ends.oldest.seq ends.row.seq) ends.rises in
      let above : IsAbove ends.oldest ends.row = record {
        operand = open_operand barrier ends.oldest (and_left (is_open barrier ends.oldest) (follows different ends.oldest ends.row) linked);
        same_key = and_left (bytes_eq ends.oldest.key ends.row.key) _ (and_right (is_open barrier ends.oldest) (follows different ends.oldest ends.row) linked);
        greater = less_is ends.oldest.seq ends.row.seq (and_right (links different barrier ends.oldest ends.row) (nat_lt ends.oldest.seq ends.row.seq) ends.rises);
      } in
      inr (record {
        refuses = why;
        current = ends.oldest;
        next = ends.row;
        operand = above.operand;
        same_key = above.same_key;
        names = ends.refusal;
        brought = came_brought m x y ahead reads given (inl came) ends.oldest (subst (λ (l : List RowEntry). Contains l ends.oldest) (sym ends.are) (behind_first ends.newer ends.oldest (ends.row ∷ [])));
        brought_next = pair_rises m x y ahead reads given ends.newer ends.oldest ends.row above came ends.are;
      })
