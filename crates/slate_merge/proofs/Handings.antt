-- What comes from a source, and is held before it is handed out.
use Rattle.std.proofs.Common.{◌≡◌, inl, inr, ℕ, List, [], ◌∷◌, ◌++◌, Option, Some, None, refl, sym, ap, subst, ◌∙◌, arith, append-nil, append_assoc}
use Rattle.std.specs.Prelude.{Contains}
use Rattle.std.specs.Option.{option_to_list}
use Rattle.std.proofs.lemmas.List.Elements.{All-contains, All-from_recursion, Contains-append_left, Contains-append_right}
use Rattle.slate_types.specs.declared.bytes_range.BytesRange.{BytesRange}
use Rattle.slate_types.specs.declared.error.SlateDBError.{SlateDBError}
use Rattle.slate_types.specs.declared.types.RowEntry.{RowEntry}
use Rattle.slate_types.specs.Outside.{Act, Meaning, Reach}
use Rattle.slate_types.specs.Refusing.{NoMore}
use Rattle.slate_types.specs.Steps.{Takes}
use Rattle.slate_types.specs.World.{Made}
use Rattle.slate_types.proofs.Calls.{call_none, call_both, no_more_both}
use Rattle.slate_types.proofs.Lists.{AllByRecursion_append, AllByRecursion_weaken}
use Rattle.slate_merge.specs.declared.groups.Groups.{Groups}
use Rattle.slate_merge.specs.declared.progress.Progress.{Progress}
use Rattle.slate_merge.specs.declared.progress.Progress.TheVariants.{Going}
use Rattle.slate_merge.specs.Handing.{AreAmong, HandsHeld, Held, SeeksHeld, held_in, held_of}
use Rattle.slate_merge.specs.NewestFirst.{refuses_newest}
use Rattle.slate_merge.proofs.Newests.{going_fewer}

-- ---- rows among others

first_of : (row : RowEntry) (rows : List RowEntry) → Contains (row ∷ rows) row
first_of row rows = (0, omega arith, refl)

own_behind : (front rows : List RowEntry) → AreAmong rows (front ++ rows)
own_behind front [] = tt
own_behind front (r ∷ rows) = (
  Contains-append_right front (r ∷ rows) r (first_of r rows),
  subst (AreAmong rows) (append_assoc front (r ∷ []) rows) (own_behind (front ++ (r ∷ [])) rows),
)

own : (rows : List RowEntry) → AreAmong rows rows
own rows = own_behind [] rows

among_same : (rows all : List RowEntry) → rows ≡ all → AreAmong rows all
among_same rows all is = subst (AreAmong rows) is (own rows)

among_more : (rows all more : List RowEntry) → ((r : RowEntry) → Contains all r → Contains more r) → AreAmong rows all → AreAmong rows more
among_more rows all more f h = AllByRecursion_weaken (λ r. Contains all r) (λ r. Contains more r) f rows h

among_get : (rows all : List RowEntry) (r : RowEntry) → AreAmong rows all → Contains rows r → Contains all r
among_get rows all r h k = All-contains (λ x. Contains all x) rows r (All-from_recursion (λ x. Contains all x) rows h) k

-- ---- steps

takes_more : {A : Type 0} (step : A → List Act → Option RowEntry → A → Type 0) (x y z : A) (reads more : List Act) (rows : List RowEntry) (row : RowEntry) → Takes step x reads rows y → step y more (Some row) z → Takes step x (reads ++ more) (rows ++ (row ∷ [])) z
takes_more step x y z reads more [] row s t = (z, more, [], ap (λ (l : List Act). l ++ more) s.0 ∙ sym (append-nil more), subst (λ v. step v more (Some row) z) (sym s.1) t, (refl, refl))
takes_more step x y z reads more (first ∷ rows) row s t = (s.0, s.1, s.2 ++ more, ap (λ (l : List Act). l ++ more) s.3 ∙ append_assoc s.1 s.2 more, s.4, takes_more step s.0 y z s.2 more rows row s.5 t)

module _ {I : Type 0} (refuses : I → Meaning → List Act → Option (List ℕ) → SlateDBError → Type 0) (takes : I → Meaning → List Act → Option RowEntry → I → Type 0) where
  -- what callers know of a call
  abbrev pub Hands : Reach → Reach → Held I → Option RowEntry → Held I → Type 0
  Hands a b x answer y = Made a b (λ reads. HandsHeld takes x a.meaning reads answer y × NoMore (refuses x.0 a.meaning) reads (refuses y.0 a.meaning))

  abbrev pub Took : Reach → Reach → I → Option RowEntry → I → Type 0
  Took b c y answer z = Made b c (λ reads. takes y b.meaning reads answer z × NoMore (refuses y b.meaning) reads (refuses z b.meaning))

  -- rows that came stand behind those that were gathered
  abbrev pub Gathers : Reach → Reach → I → List RowEntry → I → List RowEntry → Type 0
  Gathers a b x before y gathered =
      Made a b (λ reads. ((given : List RowEntry) × Takes (λ u rs an v. takes u a.meaning rs an v) x reads given y × (gathered ≡ before ++ given)) × NoMore (refuses x a.meaning) reads (refuses y a.meaning))

  pub gathers_none : (t : Reach) (x : I) (before gathered : List RowEntry) → gathered ≡ before → Gathers t t x before x gathered
  gathers_none t x before gathered is = ([], call_none t, (([], (refl, refl), is ∙ sym (append-nil before)), λ later at e k. k))

  last_of : (a b c : Reach) (reads : List Act) (y z : I) (answer : Option RowEntry) → b.meaning ≡ a.meaning → takes y b.meaning reads answer z × NoMore (refuses y b.meaning) reads (refuses z b.meaning) →
      takes y a.meaning reads answer z × NoMore (refuses y a.meaning) reads (refuses z a.meaning)
  last_of a b c reads y z answer is k = subst (λ (p : Meaning). takes y p reads answer z × NoMore (refuses y p) reads (refuses z p)) is k

  pub gathers_more : (a b c : Reach) (x y z : I) (before gathered more : List RowEntry) (row : RowEntry) → Gathers a b x before y gathered → Took b c y (Some row) z → more ≡ gathered ++ (row ∷ []) → Gathers a c x before z more
  gathers_more a b c x y z before gathered more row g s is =
      let k = last_of a b c s.0 y z (Some row) g.1.meaning s.2 in (
        g.0 ++ s.0,
        call_both a b c g.0 s.0 g.1 s.1,
        (
          (
            g.2.0.0 ++ (row ∷ []),
            takes_more (λ u rs an v. takes u a.meaning rs an v) x y z g.0 s.0 g.2.0.0 row g.2.0.1 k.0,
            is ∙ ap (λ (l : List RowEntry). l ++ (row ∷ [])) g.2.0.2 ∙ append_assoc before g.2.0.0 (row ∷ []),
          ),
          no_more_both (refuses x a.meaning) (refuses y a.meaning) (refuses z a.meaning) g.0 s.0 g.2.1 k.1,
        ),
      )

  -- a row of another key makes them ready
  pub gathers_turn : (a b c : Reach) (x y z : I) (old new : Groups) (gathered : List RowEntry) (row : RowEntry) → Gathers a b x old.gathered.items y gathered → Took b c y (Some row) z →
      old.ready.items ≡ [] → new.ready.items ≡ gathered → new.gathered.items ≡ row ∷ [] → Hands a c (x, held_of old) None (z, held_of new)
  gathers_turn a b c x y z old new gathered row g s none ready behind =
      let m = gathers_more a b c x y z old.gathered.items gathered (held_of new) row g s ((λ i. ready i ++ behind i)) in
      (m.0, m.1, ((m.2.0.0, inl m.2.0.1, tt, among_same (held_of new) (held_of old ++ m.2.0.0) (m.2.0.2 ∙ sym (ap (λ (l : List RowEntry). (l ++ old.gathered.items) ++ m.2.0.0) none))), m.2.1))

  -- and so does the end of the source
  pub gathers_end : (a b c : Reach) (x y z : I) (old new : Groups) (gathered : List RowEntry) → Gathers a b x old.gathered.items y gathered → Took b c y None z →
      old.ready.items ≡ [] → new.ready.items ≡ gathered → new.gathered.items ≡ [] → Hands a c (x, held_of old) None (z, held_of new)
  gathers_end a b c x y z old new gathered g s none ready behind =
      let k = last_of a b c s.0 y z None g.1.meaning s.2 in (
        g.0 ++ s.0,
        call_both a b c g.0 s.0 g.1 s.1,
        (
          (
            g.2.0.0,
            inr (y, g.0, s.0, refl, g.2.0.1, k.0),
            tt,
            among_same (held_of new) (held_of old ++ g.2.0.0) ((λ i. ready i ++ behind i) ∙ append-nil gathered ∙ g.2.0.2 ∙ sym (ap (λ (l : List RowEntry). (l ++ old.gathered.items) ++ g.2.0.0) none)),
          ),
          no_more_both (refuses x a.meaning) (refuses y a.meaning) (refuses z a.meaning) g.0 s.0 g.2.1 k.1,
        ),
      )

  -- upwards each row is the source's
  pub upwards_hands : (b c : Reach) (y z : I) (held : List RowEntry) (answer : Option RowEntry) → Took b c y answer z → Hands b c (y, held) answer (z, held)
  upwards_hands b c y z held None (reads, call, (took, fewer)) = (reads, call, (([], inr (y, [], reads, refl, (refl, refl), took), tt, among_same held (held ++ []) (sym (append-nil held))), fewer))
  upwards_hands b c y z held (Some row) (reads, call, (took, fewer)) = (
    reads,
    call,
    (
      (
        row ∷ [],
        inl (z, reads, [], sym (append-nil reads), took, (refl, refl)),
        Contains-append_right held (row ∷ []) row (first_of row []),
        among_more held held (held ++ (row ∷ [])) (λ r k. Contains-append_left held (row ∷ []) r k) (own held),
      ),
      fewer,
    ),
  )

  -- a row that is ready is handed out
  taken_off : (g h : Groups) (row : RowEntry) → g.ready.items ≡ h.ready.items ++ (row ∷ []) → h.gathered.items ≡ g.gathered.items → Contains (held_of g) row × AreAmong (held_of h) (held_of g)
  taken_off g h row ready gathered = (
    Contains-append_left g.ready.items g.gathered.items row (subst (λ (l : List RowEntry). Contains l row) (sym ready) (Contains-append_right h.ready.items (row ∷ []) row (first_of row []))),
    AllByRecursion_append (λ r. Contains (held_of g) r) h.ready.items h.gathered.items
        (among_more h.ready.items h.ready.items (held_of g) (λ r k. Contains-append_left g.ready.items g.gathered.items r (subst (λ (l : List RowEntry). Contains l r) (sym ready) (Contains-append_left h.ready.items (row ∷ []) r k))) (own h.ready.items))
        (among_more h.gathered.items g.gathered.items (held_of g) (λ r k. Contains-append_right g.ready.items g.gathered.items r k) (among_same h.gathered.items g.gathered.items gathered)),
  )

  pub popped_hands : (t : Reach) (x : I) (g h : Groups) (row : RowEntry) → g.ready.items ≡ h.ready.items ++ (row ∷ []) → h.gathered.items ≡ g.gathered.items → Hands t t (x, held_of g) (Some row) (x, held_of h)
  popped_hands t x g h row ready gathered =
      let k = taken_off g h row ready gathered in
      let more : (r : RowEntry) → Contains (held_of g) r → Contains (held_of g ++ []) r = (λ r c. Contains-append_left (held_of g) [] r c) in
      ([], call_none t, (([], inl (refl, refl), more row k.0, among_more (held_of h) (held_of g) (held_of g ++ []) more k.1), λ later at e r. r))

  -- the newest of the rows that were gathered, or none
  pub newest_hands : (a b : Reach) (x : I) (held : List RowEntry) (old : List RowEntry) (y : I) (g h : Groups) (answer : Option RowEntry) → held ≡ old → Hands a b (x, held) None (y, held_of g) → g.ready.items ≡ h.ready.items ++ option_to_list answer → h.gathered.items ≡ g.gathered.items → Hands a b (x, old) answer (y, held_of h)
  newest_hands a b x held old y g h answer is came ready gathered = subst (λ (l : List RowEntry). Hands a b (x, l) answer (y, held_of h)) is (by answer ready)
    where
      all : List RowEntry
      all = held ++ came.2.0.0

      by : (o : Option RowEntry) → g.ready.items ≡ h.ready.items ++ option_to_list o → Hands a b (x, held) o (y, held_of h)
      by None same = (
        came.0,
        came.1,
        (
          (came.2.0.0, came.2.0.1, tt, subst (λ (l : List RowEntry). AreAmong l all) (λ i. (same ∙ append-nil h.ready.items) i ++ sym gathered i) came.2.0.3),
          came.2.1,
        ),
      )
      by (Some row) same =
          let k = taken_off g h row same gathered in
          (came.0, came.1, ((came.2.0.0, came.2.0.1, among_get (held_of g) all row came.2.0.3 k.0, among_more (held_of h) (held_of g) all (λ r c. among_get (held_of g) all r came.2.0.3 c) k.1), came.2.1))

  -- ---- an iterator that hands them out

  pub going_hands : {P Q R : Type 0} → P → Q → R → (range : BytesRange) (a b : Reach) (y z : I) (s : Progress) (groups more : Groups) (answer : Option RowEntry) → s ≡ Going groups → Hands a b (y, held_of groups) answer (z, held_of more) →
      Made a b (λ reads. (P × Q × R × HandsHeld takes (y, held_in s) a.meaning reads answer (z, held_in (Going more))) × NoMore (refuses_newest refuses range y s a.meaning) reads (refuses_newest refuses range z (Going more) a.meaning))
  going_hands {P} {Q} {R} p q r range a b y z s groups more answer is (reads, call, (hands, fewer)) =
      subst (λ (v : Progress). Made a b (λ reads. (P × Q × R × HandsHeld takes (y, held_in v) a.meaning reads answer (z, held_in (Going more))) × NoMore (refuses_newest refuses range y v a.meaning) reads (refuses_newest refuses range z (Going more) a.meaning))) (sym is)
      (reads, call, ((p, q, r, hands), going_fewer refuses range a.meaning reads y z groups more fewer))

module _ {I : Type 0} (refuses : I → Meaning → List Act → Option (List ℕ) → SlateDBError → Type 0) (seeks : I → Meaning → List Act → List ℕ → I → Type 0) where
  abbrev pub Seeks : Reach → Reach → Held I → List ℕ → Held I → Type 0
  Seeks a b x key y = Made a b (λ reads. SeeksHeld seeks x a.meaning reads key y × NoMore (refuses x.0 a.meaning) reads (refuses y.0 a.meaning))

  -- nothing is called
  pub still_held : (key : List ℕ) (t : Reach) (x : I) (held more : List RowEntry) → AreAmong more held → Seeks t t (x, held) key (x, more)
  still_held key t x held more among = ([], call_none t, ((inl (refl, refl), among), λ later at e k. k))

  -- the source seeks
  pub sought_held : (key : List ℕ) (b c : Reach) (y z : I) (held more : List RowEntry) → AreAmong more held → Made b c (λ reads. seeks y b.meaning reads key z × NoMore (refuses y b.meaning) reads (refuses z b.meaning)) → Seeks b c (y, held) key (z, more)
  sought_held key b c y z held more among (reads, call, (sought, fewer)) = (reads, call, ((inr sought, among), fewer))

  pub same_held : (held : List RowEntry) → AreAmong held held
  same_held held = own held

  -- what is ready is let go of, and then what was gathered
  pub gathered_held : (g h : Groups) → h.ready.items ≡ [] → h.gathered.items ≡ g.gathered.items → AreAmong (held_of h) (held_of g)
  gathered_held g h ready gathered =
      let same : held_of h ≡ g.gathered.items = (λ i. ready i ++ gathered i) in
      among_more (held_of h) g.gathered.items (held_of g) (λ r k. Contains-append_right g.ready.items g.gathered.items r k) (among_same (held_of h) g.gathered.items same)

  pub none_held : (g h : Groups) → h.ready.items ≡ [] → h.gathered.items ≡ [] → AreAmong (held_of h) (held_of g)
  none_held g h ready gathered = subst (λ (l : List RowEntry). AreAmong l (held_of g)) (λ i. sym ready i ++ sym gathered i) tt

  pub going_seeks : {P Q R S : Type 0} → P → Q → R → S → (range : BytesRange) (key : List ℕ) (a b : Reach) (y z : I) (s : Progress) (groups more : Groups) → s ≡ Going groups → Seeks a b (y, held_of groups) key (z, held_of more) →
      Made a b (λ reads. (P × Q × R × S × SeeksHeld seeks (y, held_in s) a.meaning reads key (z, held_in (Going more))) × NoMore (refuses_newest refuses range y s a.meaning) reads (refuses_newest refuses range z (Going more) a.meaning))
  going_seeks {P} {Q} {R} {S} p q r w range key a b y z s groups more is (reads, call, (sought, fewer)) =
      subst (λ (v : Progress). Made a b (λ reads. (P × Q × R × S × SeeksHeld seeks (y, held_in v) a.meaning reads key (z, held_in (Going more))) × NoMore (refuses_newest refuses range y v a.meaning) reads (refuses_newest refuses range z (Going more) a.meaning))) (sym is)
      (reads, call, ((p, q, r, w, sought), going_fewer refuses range a.meaning reads y z groups more fewer))
