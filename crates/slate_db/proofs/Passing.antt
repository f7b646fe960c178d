-- Steps of an iterator by which a reader gets a row.
use Rattle.std.proofs.Common.{◌≡◌, ◌⊎◌, inl, inr, ℕ, Bool, true, false, List, [], ◌∷◌, ◌++◌, filter, drop, Option, Some, None, refl, sym, ap, subst, ◌∙◌}
use Rattle.std.specs.Prelude.{if◌then◌else◌}
use Rattle.std.specs.List.{AllByRecursion}
use Rattle.std.proofs.lemmas.Option.{same_Some}
use Rattle.slate_types.specs.declared.bytes_range.BytesRange.{BytesRange}
use Rattle.slate_types.specs.declared.error.SlateDBError.{SlateDBError}
use Rattle.slate_types.specs.declared.iter.IterationOrder.{IterationOrder}
use Rattle.slate_types.specs.declared.types.KeyValue.{KeyValue}
use Rattle.slate_types.specs.declared.types.RowEntry.{RowEntry}
use Rattle.slate_types.specs.Iteration.{IsInOrder, comes_before, drop_before}
use Rattle.slate_types.specs.Outside.{Act, IsFault, IsLater, Meaning, Reach}
use Rattle.slate_types.specs.Refusing.{IsDamage, NoMore}
use Rattle.slate_types.specs.Rows.{key_value}
use Rattle.slate_types.specs.Steps.{Step}
use Rattle.slate_types.specs.World.{World, AnswersWorld, Checks, IsCall, Made, Sees}
use Rattle.slate_types.proofs.Calls.{call_none, call_both, sees_first, sees_last, seen, checks_none, checks_both, no_more_both}
use Rattle.slate_types.proofs.IterationLaws.{drop_before_filtered}
use Rattle.slate_types.proofs.Reaching.{fault_earlier}
use Rattle.slate_txn.specs.Alone.{first_left}
use Rattle.slate_db.specs.Values.{HasValues, has_value}

-- ---- rows

-- a first row that has no value changes nothing of them
pub has_behind : (range : BytesRange) (row : RowEntry) (before after values : List RowEntry) → before ≡ row ∷ after → has_value row ≡ false → HasValues range before values → HasValues range after values
has_behind range row before after values is none h = record { within = k.within.1; left = sym dropped ∙ k.left }
  where
    k : HasValues range (row ∷ after) values
    k = subst (λ (l : List RowEntry). HasValues range l values) is h

    dropped : filter has_value (row ∷ after) ≡ filter has_value after
    dropped = rw none refl

-- one that has a value is the first of them
pub has_first : (range : BytesRange) (row : RowEntry) (before after values : List RowEntry) → before ≡ row ∷ after → has_value row ≡ true → HasValues range before values →
    (Some (key_value row) ≡ first_left values) × HasValues range after (drop 1 values)
has_first range row before after values is some h = (ap first_left here, record { within = k.within.1; left = ap (λ (l : List RowEntry). drop 1 l) here })
  where
    k : HasValues range (row ∷ after) values
    k = subst (λ (l : List RowEntry). HasValues range l values) is h

    kept : filter has_value (row ∷ after) ≡ row ∷ filter has_value after
    kept = rw some refl

    here : row ∷ filter has_value after ≡ values
    here = sym kept ∙ k.left

-- and at the end there is none
pub has_none : (range : BytesRange) (before after values : List RowEntry) → before ≡ [] → after ≡ [] → HasValues range before values → (None ≡ first_left values) × HasValues range after (drop 1 values)
has_none range before after values is end h = (ap first_left here, subst (λ (l : List RowEntry). HasValues range l (drop 1 values)) (sym end) (record { within = tt; left = ap (λ (l : List RowEntry). drop 1 l) here }))
  where
    here : [] ≡ values
    here = (subst (λ (l : List RowEntry). HasValues range l values) is h).left

-- what a row has where it has a value, and where it has none
pub no_value : (b : Bool) (x : KeyValue) → None ≡ (if b then Some x else None) → b ≡ false
no_value true x h = cc
no_value false x h = refl

pub some_value : (b : Bool) (x y : KeyValue) → Some y ≡ (if b then Some x else None) → (b ≡ true) × (y ≡ x)
some_value true x y h = (refl, same_Some y x h)
some_value false x y h = cc

all_dropped : (P : RowEntry → Type 0) (order : IterationOrder) (key : List ℕ) (rows : List RowEntry) → AllByRecursion P rows → AllByRecursion P (drop_before order key rows)
all_dropped P order key [] h = tt
all_dropped P order key (row ∷ rows) h = by (comes_before order row.key key) refl (all_dropped P order key rows h.1)
  where
    by : (b : Bool) → comes_before order row.key key ≡ b → AllByRecursion P (drop_before order key rows) → AllByRecursion P (drop_before order key (row ∷ rows))
    by true is rest = rw is rest
    by false is rest = rw is h

-- a seek of the rows is one of those that have values
pub has_sought : (range : BytesRange) (order : IterationOrder) (key : List ℕ) (before after values : List RowEntry) → IsInOrder order before → after ≡ drop_before order key before → HasValues range before values →
    HasValues range after (drop_before order key values)
has_sought range order key before after values rises is h = subst (λ (l : List RowEntry). HasValues range l (drop_before order key values)) (sym is)
    (record {
      within = all_dropped _ order key before h.within;
      left = drop_before_filtered order key has_value before rises ∙ ap (λ (l : List RowEntry). drop_before order key l) h.left;
    })

-- ---- steps

module _ {A : Type 0} (rest : A → World → List RowEntry) (sound : A → World → Type 0) (refuses : A → Meaning → List Act → Option (List ℕ) → SlateDBError → Type 0) (good : A → World → Type 0) where
  -- steps by which a reader got nothing, and which keep what is good
  pub record Passed (before after : Reach) (x y : A) : Type 0 where
    pub reads : List Act
    pub call : IsCall before after reads
    pub fewer : NoMore (refuses x before.meaning) reads (refuses y before.meaning)
    pub still : (w : World) → Sees w before after → sound x w → sound y w
    pub rows : (w : World) (range : BytesRange) (values : List RowEntry) → Sees w before after → sound x w → HasValues range (rest x w) values → HasValues range (rest y w) values
    pub checked : (w : World) → sound x w → Checks w before after
    pub keeps : (w : World) → Sees w before after → sound x w → good x w → good y w

  pub passed_none : (t : Reach) (x : A) → Passed t t x x
  passed_none t x = record {
    reads = [];
    call = call_none t;
    fewer = λ later at e h. h;
    still = λ w s h. h;
    rows = λ w range values s h k. k;
    checked = λ w h. checks_none w t;
    keeps = λ w s h k. k;
  }

  -- two parts of a call
  module _ (a b c : Reach) (x y z : A) (p : Passed a b x y) (reads : List Act) (call : IsCall b c reads) where
    pub first : (w : World) → Sees w a c → Sees w a b
    first w h = sees_first w a b c p.reads reads p.call call h

    pub last : (w : World) → Sees w a c → Sees w b c
    last w h = sees_last w a b c p.reads reads p.call call h

    pub both : IsCall a c (p.reads ++ reads)
    both = call_both a b c p.reads reads p.call call

    pub both_still : ((w : World) → Sees w b c → sound y w → sound z w) → (w : World) → Sees w a c → sound x w → sound z w
    both_still still w s h = still w (last w s) (p.still w (first w s) h)

    pub both_keeps : ((w : World) → Sees w b c → sound y w → good y w → good z w) → (w : World) → Sees w a c → sound x w → good x w → good z w
    both_keeps keeps w s h k = keeps w (last w s) (p.still w (first w s) h) (p.keeps w (first w s) h k)

    pub both_checked : ((w : World) → sound y w → Checks w b c) → (w : World) → sound x w → Checks w a c
    both_checked checked w h = checks_both w a b c p.reads reads p.call call (p.checked w h) (λ s. checked w (p.still w s h))

    pub both_fewer : NoMore (refuses y b.meaning) reads (refuses z b.meaning) → NoMore (refuses x a.meaning) (p.reads ++ reads) (refuses z a.meaning)
    both_fewer fewer = no_more_both (refuses x a.meaning) (refuses y a.meaning) (refuses z a.meaning) p.reads reads p.fewer (subst (λ (m : Meaning). NoMore (refuses y m) reads (refuses z m)) p.call.meaning fewer)

    pub both_refuses : (at : Option (List ℕ)) (e : SlateDBError) → refuses y b.meaning reads at e → refuses x a.meaning (p.reads ++ reads) at e
    both_refuses at e h = p.fewer reads at e (subst (λ (m : Meaning). refuses y m reads at e) p.call.meaning h)

  module _ (takes : A → Meaning → List Act → Option RowEntry → A → Type 0) (a b c : Reach) (x y z : A) (p : Passed a b x y) where
    -- one more row that has no value
    pub passed_on : (row : RowEntry) → Step rest sound refuses takes b c y (Some row) z → ((w : World) → Sees w b c → sound y w → good y w → good z w) → has_value row ≡ false → Passed a c x z
    passed_on row s keeps none = record {
      reads = p.reads ++ s.taken.0;
      call = both a b c x y z p s.taken.0 s.taken.1;
      fewer = both_fewer a b c x y z p s.taken.0 s.taken.1 s.taken.2.1;
      still = both_still a b c x y z p s.taken.0 s.taken.1 s.still;
      rows = (λ w range values sees h k.
          let here : Sees w a b = first a b c x y z p s.taken.0 s.taken.1 w sees in
          has_behind range row (rest y w) (rest z w) values (s.rows w (last a b c x y z p s.taken.0 s.taken.1 w sees) (p.still w here h)) none (p.rows w range values here h k));
      checked = both_checked a b c x y z p s.taken.0 s.taken.1 s.checked;
      keeps = both_keeps a b c x y z p s.taken.0 s.taken.1 keeps;
    }

    -- what is known after a step
    pub step_still : (answer : Option RowEntry) → Step rest sound refuses takes b c y answer z → (w : World) → Sees w a c → sound x w → sound z w
    step_still answer s = both_still a b c x y z p s.taken.0 s.taken.1 s.still

    pub step_keeps : (answer : Option RowEntry) → Step rest sound refuses takes b c y answer z → ((w : World) → Sees w b c → sound y w → good y w → good z w) → (w : World) → Sees w a c → sound x w → good x w → good z w
    step_keeps answer s keeps = both_keeps a b c x y z p s.taken.0 s.taken.1 keeps

    pub step_checked : (answer : Option RowEntry) → Step rest sound refuses takes b c y answer z → (w : World) → sound x w → Checks w a c
    step_checked answer s = both_checked a b c x y z p s.taken.0 s.taken.1 s.checked

    pub step_later : (answer : Option RowEntry) → Step rest sound refuses takes b c y answer z → Made a c (λ reads. NoMore (refuses x a.meaning) reads (refuses z a.meaning))
    step_later answer s = (p.reads ++ s.taken.0, both a b c x y z p s.taken.0 s.taken.1, both_fewer a b c x y z p s.taken.0 s.taken.1 s.taken.2.1)

    pub step_some : (row : RowEntry) → Step rest sound refuses takes b c y (Some row) z → has_value row ≡ true → (w : World) (range : BytesRange) (values : List RowEntry) → Sees w a c → sound x w → HasValues range (rest x w) values →
        (Some (key_value row) ≡ first_left values) × HasValues range (rest z w) (drop 1 values)
    step_some row s some w range values sees h k =
        let here : Sees w a b = first a b c x y z p s.taken.0 s.taken.1 w sees in
        has_first range row (rest y w) (rest z w) values (s.rows w (last a b c x y z p s.taken.0 s.taken.1 w sees) (p.still w here h)) some (p.rows w range values here h k)

    pub step_none : Step rest sound refuses takes b c y None z → (w : World) (range : BytesRange) (values : List RowEntry) → Sees w a c → sound x w → HasValues range (rest x w) values →
        (None ≡ first_left values) × HasValues range (rest z w) (drop 1 values)
    step_none s w range values sees h k =
        let here : Sees w a b = first a b c x y z p s.taken.0 s.taken.1 w sees in
        let end : (rest y w ≡ []) × (rest z w ≡ []) = s.rows w (last a b c x y z p s.taken.0 s.taken.1 w sees) (p.still w here h) in
        has_none range (rest y w) (rest z w) values end.0 end.1 (p.rows w range values here h k)

  -- a refusal
  module _ (a b c : Reach) (x y z : A) (p : Passed a b x y) (at : Option (List ℕ)) (e : SlateDBError) (since : IsLater a.faults b.faults) where
    pub passed_fails : Made b c (λ reads. IsFault b c e ⊎ refuses y b.meaning reads at e) → Made a c (λ reads. IsFault a c e ⊎ refuses x a.meaning reads at e)
    passed_fails made = (p.reads ++ made.0, both a b c x y z p made.0 made.1, by made.2)
      where
        by : IsFault b c e ⊎ refuses y b.meaning made.0 at e → IsFault a c e ⊎ refuses x a.meaning (p.reads ++ made.0) at e
        by (inl h) = inl (fault_earlier a b c e since h)
        by (inr h) = inr (both_refuses a b c x y z p made.0 made.1 at e h)

    -- in a world by which none of what it refuses is damage
    pub passed_undamaged : (w : World) → Sees w a c → ((reads : List Act) → AllByRecursion (AnswersWorld w) reads → refuses x w.meaning reads at e → ¬ IsDamage e) →
        IsFault b c e ⊎ Made b c (λ reads. refuses y b.meaning reads at e) → IsFault a c e ⊎ Made a c (λ reads. refuses x a.meaning reads at e × ¬ IsDamage e)
    passed_undamaged w sees whole (inl k) = inl (fault_earlier a b c e since k)
    passed_undamaged w sees whole (inr made) =
        let all : IsCall a c (p.reads ++ made.0) = both a b c x y z p made.0 made.1 in
        let r : refuses x a.meaning (p.reads ++ made.0) at e = both_refuses a b c x y z p made.0 made.1 at e made.2 in
        inr (p.reads ++ made.0, all, (r, whole (p.reads ++ made.0) (seen w a c (p.reads ++ made.0) sees all) (subst (λ (m : Meaning). refuses x m (p.reads ++ made.0) at e) (sym sees.meaning) r)))
