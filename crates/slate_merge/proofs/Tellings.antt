-- What a source tells of the rows that it may bring, those tell that read it.
use Rattle.std.proofs.Common.{◌≡◌, ◌⊎◌, inl, inr, ℕ, suc, zero, arith, Bool, List, [], ◌∷◌, ◌++◌, Option, Some, None, sym, subst, flat_map}
use Rattle.std.specs.Prelude.{Contains}
use Rattle.std.proofs.lemmas.List.Elements.{All-contains, All-from_recursion, Contains-append_cases}
use Rattle.slate_types.specs.declared.types.RowEntry.{RowEntry}
use Rattle.slate_types.specs.Outside.{Act, Meaning}
use Rattle.slate_types.specs.Steps.{Takes}
use Rattle.slate_merge.specs.declared.progress.Progress.{Progress}
use Rattle.slate_merge.specs.declared.progress.Progress.TheVariants.{New, Going, Refused}
use Rattle.slate_merge.specs.NoMoreRows.{HandsOut, NoMoreRows}
use Rattle.slate_merge.specs.Filtering.{Skips, TakesKept}
use Rattle.slate_merge.specs.Handing.{Gives, HandsHeld, Held, SeeksHeld, brings_held, held_in}
use Rattle.slate_merge.specs.NewestFirst.{Begins}
use Rattle.slate_merge.proofs.NoMoreRows.{no_rows_both, some_weaker}

pub none_of : (r : RowEntry) → Contains [] r → ⊥
none_of r k = let lt = k.1 in omega (arith, lt)

pub one_of : (row r : RowEntry) → Contains (row ∷ []) r → row ≡ r
one_of row r (zero, lt, is) = is
one_of row r (suc i, lt, is) = absurd (omega (arith, lt))

module _ {S : Type 0} (brings : S → List Act → RowEntry → Type 0) where
  -- rows that are brought by some reads are by more
  abbrev pub StaysBrought : Type 0
  StaysBrought = (x : S) (reads later : List Act) (r : RowEntry) → brings x reads r → brings x (reads ++ later) r

  abbrev pub Tells : (S → List Act → Option RowEntry → S → Type 0) → Type 0
  Tells step = (x y : S) (reads : List Act) (answer : Option RowEntry) → step x reads answer y → HandsOut (brings x) reads answer (brings y)

  skips_tell : (step : S → List Act → Option RowEntry → S → Type 0) → Tells step → (keep : RowEntry → Bool) (x y : S) (calls : List (List Act × RowEntry)) → Skips step keep x calls y → NoMoreRows (brings x) (flat_map (λ call. call.0) calls) (brings y)
  skips_tell step tells keep x y [] s later r k = subst (λ (z : S). brings z later r) (sym s) k
  skips_tell step tells keep x y (call ∷ calls) s later r k =
      no_rows_both (brings x) (brings s.0) (brings y) call.0 (flat_map (λ c. c.0) calls) (tells x s.0 call.0 (Some call.1) s.1).1 (λ more q h. skips_tell step tells keep s.0 y calls s.3 more q h) later r k

  pub kept_tells : (step : S → List Act → Option RowEntry → S → Type 0) → Tells step → (keep : RowEntry → Bool) → Tells (λ x reads answer y. TakesKept step keep x reads answer y)
  kept_tells step tells keep x y reads answer t = subst (λ (acts : List Act). HandsOut (brings x) acts answer (brings y)) (sym t.3) (
    some_weaker (λ r. brings t.2 t.1 r) (λ r. brings x (front ++ t.1) r) answer (λ r k. less t.1 r k) last.0,
    no_rows_both (brings x) (brings t.2) (brings y) front t.1 less last.1,
  )
    where
      front : List Act
      front = flat_map (λ call. call.0) t.0

      less : NoMoreRows (brings x) front (brings t.2)
      less = skips_tell step tells keep x t.2 t.0 t.4

      last : HandsOut (brings t.2) t.1 answer (brings y)
      last = tells t.2 y t.1 answer t.5

  -- a row, and then others
  one_more : (x next y : S) (first behind : List Act) (row : RowEntry) (rows : List RowEntry) → StaysBrought → HandsOut (brings x) first (Some row) (brings next) →
      NoMoreRows (brings next) behind (brings y) × ((r : RowEntry) → Contains rows r → brings next behind r) → NoMoreRows (brings x) (first ++ behind) (brings y) × ((r : RowEntry) → Contains (row ∷ rows) r → brings x (first ++ behind) r)
  one_more x next y first behind row rows stays h more = (no_rows_both (brings x) (brings next) (brings y) first behind h.1 more.0, λ r k. by r (Contains-append_cases (row ∷ []) rows r k))
    where
      by : (r : RowEntry) → Contains (row ∷ []) r ⊎ Contains rows r → brings x (first ++ behind) r
      by r (inl k) = stays x first behind r (subst (λ (q : RowEntry). brings x first q) (one_of row r k) h.0)
      by r (inr k) = h.1 behind r (more.1 r k)

  takes_tell : (step : S → List Act → Option RowEntry → S → Type 0) → Tells step → StaysBrought → (x y : S) (reads : List Act) (rows : List RowEntry) → Takes step x reads rows y → NoMoreRows (brings x) reads (brings y) × ((r : RowEntry) → Contains rows r → brings x reads r)
  takes_tell step tells stays x y reads [] t = (λ later r k. subst (λ (acts : List Act). brings x (acts ++ later) r) (sym t.0) (subst (λ (z : S). brings z later r) (sym t.1) k), λ r k. absurd (none_of r k))
  takes_tell step tells stays x y reads (row ∷ rows) t =
      subst (λ (acts : List Act). NoMoreRows (brings x) acts (brings y) × ((r : RowEntry) → Contains (row ∷ rows) r → brings x acts r)) (sym t.3)
      (one_more x t.0 y t.1 t.2 row rows stays (tells x t.0 t.1 (Some row) t.4) (takes_tell step tells stays t.0 y t.2 rows t.5))

  pub gives_tell : (step : S → List Act → Option RowEntry → S → Type 0) → Tells step → StaysBrought → (x y : S) (reads : List Act) (rows : List RowEntry) → Gives step x reads rows y → NoMoreRows (brings x) reads (brings y) × ((r : RowEntry) → Contains rows r → brings x reads r)
  gives_tell step tells stays x y reads rows (inl t) = takes_tell step tells stays x y reads rows t
  gives_tell step tells stays x y reads rows (inr (last, first, end, is, t, none)) =
      let k = takes_tell step tells stays x last first rows t in (
        subst (λ (acts : List Act). NoMoreRows (brings x) acts (brings y)) (sym is) (no_rows_both (brings x) (brings last) (brings y) first end k.0 (tells last y end None none).1),
        λ r c. subst (λ (acts : List Act). brings x acts r) (sym is) (stays x first end r (k.1 r c)),
      )

  -- what is held was brought
  held_or : (x : S) (held : List RowEntry) (reads later : List Act) (r : RowEntry) → StaysBrought → brings_held brings (x, held) reads r → brings_held brings (x, held) (reads ++ later) r
  held_or x held reads later r stays (inl k) = inl k
  held_or x held reads later r stays (inr k) = inr (stays x reads later r k)

  pub held_tells : (takes : S → Meaning → List Act → Option RowEntry → S → Type 0) (m : Meaning) → Tells (λ x rs a y. takes x m rs a y) → StaysBrought → (x y : Held S) (reads : List Act) (answer : Option RowEntry) → HandsHeld takes x m reads answer y → HandsOut (brings_held brings x) reads answer (brings_held brings y)
  held_tells takes m tells stays x y reads answer (given, gives, handed, among) = (
    some_weaker (λ r. Contains (x.1 ++ given) r) (λ r. brings_held brings x reads r) answer (λ r k. came r k) handed,
    less,
  )
    where
      told : NoMoreRows (brings x.0) reads (brings y.0) × ((r : RowEntry) → Contains given r → brings x.0 reads r)
      told = gives_tell (λ u rs a v. takes u m rs a v) tells stays x.0 y.0 reads given gives

      came : (r : RowEntry) → Contains (x.1 ++ given) r → brings_held brings x reads r
      came r k = by (Contains-append_cases x.1 given r k)
        where
          by : Contains x.1 r ⊎ Contains given r → brings_held brings x reads r
          by (inl c) = inl c
          by (inr c) = inr (told.1 r c)

      less : NoMoreRows (brings_held brings x) reads (brings_held brings y)
      less later r (inl k) = held_or x.0 x.1 reads later r stays (came r (All-contains (λ z. Contains (x.1 ++ given) z) y.1 r (All-from_recursion (λ z. Contains (x.1 ++ given) z) y.1 among) k))
      less later r (inr k) = inr (told.0 later r k)

  pub sought_tells : (seeks : S → Meaning → List Act → List ℕ → S → Type 0) (m : Meaning) → ((x y : S) (reads : List Act) (key : List ℕ) → seeks x m reads key y → NoMoreRows (brings x) reads (brings y)) → (x y : Held S) (reads : List Act) (key : List ℕ) → SeeksHeld seeks x m reads key y →
      NoMoreRows (brings_held brings x) reads (brings_held brings y)
  sought_tells seeks m tells x y reads key (why, among) later r (inl k) = inl (All-contains (λ z. Contains x.1 z) y.1 r (All-from_recursion (λ z. Contains x.1 z) y.1 among) k)
  sought_tells seeks m tells x y reads key (inl same, among) later r (inr k) = inr (subst (λ (acts : List Act). brings x.0 (acts ++ later) r) (sym same.0) (subst (λ (z : S). brings z later r) same.1 k))
  sought_tells seeks m tells x y reads key (inr sought, among) later r (inr k) = inr (tells x.0 y.0 reads key sought later r k)

  -- nothing is held yet, or what was held is
  pub begun_tells : (x y : S) (s p : Progress) (reads : List Act) → Begins s p → NoMoreRows (brings x) reads (brings y) → NoMoreRows (brings_held brings (x, held_in s)) reads (brings_held brings (y, held_in p))
  begun_tells x y s p reads b less later r (inr k) = inr (less later r k)
  begun_tells x y New (Going groups) reads b less later r (inl k) = absurd (none_of r (subst (λ (l : List RowEntry). Contains l r) (λ i. b.0 i ++ b.1 i) k))
  begun_tells x y New New reads b less later r (inl k) = absurd b
  begun_tells x y New (Refused e) reads b less later r (inl k) = absurd b
  begun_tells x y (Going groups) p reads b less later r (inl k) = inl (subst (λ (q : Progress). Contains (held_in q) r) b k)
  begun_tells x y (Refused e) p reads b less later r (inl k) = inl (subst (λ (q : Progress). Contains (held_in q) r) b k)

  -- what is held by one that is new
  pub held_new : (x : S) (s : Progress) (reads : List Act) (r : RowEntry) → s ≡ New → brings_held brings (x, held_in s) reads r → brings x reads r
  held_new x s reads r new (inl k) = absurd (none_of r (subst (λ (q : Progress). Contains (held_in q) r) new k))
  held_new x s reads r new (inr k) = k

  -- what some reads bring, more do
  pub held_grows : (x : Held S) (reads all : List Act) (r : RowEntry) → (brings x.0 reads r → brings x.0 all r) → brings_held brings x reads r → brings_held brings x all r
  held_grows x reads all r grows (inl k) = inl k
  held_grows x reads all r grows (inr k) = inr (grows k)
