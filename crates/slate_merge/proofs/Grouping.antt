-- What taking rows from a source, and handing them out, do to the rest of the groups.
use Rattle.std.proofs.Common.{◌≡◌, ℕ, Bool, true, false, not, List, [], ◌∷◌, ◌++◌, Option, Some, None, refl, sym, ap, subst, ◌∙◌, append_assoc, append-nil}
use Rattle.std.specs.Prelude.{reverse, bytes_eq, slice_get, IfOk, OnOk, Result, Ok, Err}
use Rattle.std.specs.Option.{option_to_list}
use Rattle.std.proofs.lemmas.Option.{same_Some}
use Rattle.std.proofs.lemmas.Slice.Eq.{bytes_eq-Decides}
use Rattle.std.specs.List.{AllByRecursion}
use Rattle.std.proofs.lemmas.List.{reverse-append}
use Rattle.slate_types.specs.declared.error.SlateDBError.{SlateDBError}
use Rattle.slate_types.specs.declared.types.RowEntry.{RowEntry}
use Rattle.slate_types.specs.declared.iter.IterationOrder.{IterationOrder}
use Rattle.slate_types.specs.declared.iter.IterationOrder.TheVariants.{Ascending, Descending}
use Rattle.slate_types.specs.Iteration.{TakesRow, comes_before, drop_before}
use Rattle.slate_types.specs.Outside.{Act, Meaning, Reach}
use Rattle.slate_types.specs.Refusing.{NoMore}
use Rattle.slate_types.specs.RowTurns.{AreInTurn, row_before}
use Rattle.slate_types.specs.World.{World, Checks, Made, Sees}
use Rattle.slate_types.specs.Steps.{Step}
use Rattle.slate_types.proofs.Calls.{call_none, checks_none, sees_first, sees_last}
use Rattle.slate_types.proofs.Moves.{Moves, moves_step}
use Rattle.slate_merge.specs.declared.groups.Groups.{Groups}
use Rattle.slate_merge.specs.Groups.{IsGrouped, IsOneKey, Seeks, Stands, StandsApart, newest_first, newest_left, no_rows, refuses_grouped, rest_grouped, sound_grouped, stays_at}
use Rattle.slate_merge.proofs.Turns.{First, dropped_front, first_newest, one_turned, sought_newest, stops_at, turn_dropped, turn_taken}

-- ---- rows of one key

pub one_more : (rows : List RowEntry) (r row : RowEntry) → IsOneKey (r ∷ rows) → row.key ≡ r.key → IsOneKey (r ∷ (rows ++ (row ∷ [])))
one_more [] r row one same = (same, tt)
one_more (s ∷ rows) r row one same = (one.0, one_more rows r row one.1 same)

one_front : (rows more : List RowEntry) → IsOneKey (rows ++ more) → IsOneKey rows
one_front [] more one = tt
one_front (r ∷ rows) more one = front rows one
  where
    front : (xs : List RowEntry) → AllByRecursion (λ s. s.key ≡ r.key) (xs ++ more) → AllByRecursion (λ s. s.key ≡ r.key) xs
    front [] h = tt
    front (x ∷ xs) h = (h.0, front xs h.1)

all_last : (P : RowEntry → Type 0) (rows : List RowEntry) (r : RowEntry) → AllByRecursion P rows → P r → AllByRecursion P (rows ++ (r ∷ []))
all_last P [] r h p = (p, tt)
all_last P (x ∷ rows) r h p = (h.0, all_last P rows r h.1 p)

pub all_back : (P : RowEntry → Type 0) (rows : List RowEntry) → AllByRecursion P rows → AllByRecursion P (reverse rows)
all_back P [] h = tt
all_back P (r ∷ rows) h = subst (AllByRecursion P) (sym (reverse-append (r ∷ []) rows)) (all_last P (reverse rows) r (all_back P rows h.1) h.0)

first_of_all : (r : RowEntry) (front more : List RowEntry) → AllByRecursion (λ s. s.key ≡ r.key) front → First r (front ++ (r ∷ more))
first_of_all r [] more h = record { row = r; more = more; is = refl; key = refl }
first_of_all r (x ∷ front) more h = record { row = x; more = front ++ (r ∷ more); is = refl; key = h.0 }

-- ---- rows of one key, and a seek

not_false : (b : Bool) → not b ≡ true → b ≡ false
not_false true h = cc
not_false false h = refl

not_true : (b : Bool) → not b ≡ false → b ≡ true
not_true true h = refl
not_true false h = cc

all_leave : (key : List ℕ) (rows : List RowEntry) → IsOneKey rows → stays_at key rows ≡ false → AllByRecursion (λ r. comes_before Descending r.key key ≡ true) rows
all_leave key [] one h = tt
all_leave key (r ∷ rows) one h = (before, more rows one)
  where
    before : comes_before Descending r.key key ≡ true
    before = not_true (comes_before Descending r.key key) h

    more : (xs : List RowEntry) → AllByRecursion (λ s. s.key ≡ r.key) xs → AllByRecursion (λ s. comes_before Descending s.key key ≡ true) xs
    more [] k = tt
    more (x ∷ xs) k = (ap (λ (l : List ℕ). comes_before Descending l key) k.0 ∙ before, more xs k.1)

ready_stays : (key : List ℕ) (ready more : List RowEntry) → IsOneKey ready → stays_at key ready ≡ true → drop_before Descending key (reverse ready ++ more) ≡ reverse ready ++ more
ready_stays key [] more one h = cc
ready_stays key (r ∷ rows) more one h =
    let split : reverse (r ∷ rows) ++ more ≡ reverse rows ++ (r ∷ more) = ap (λ (l : List RowEntry). l ++ more) (reverse-append (r ∷ []) rows) ∙ append_assoc (reverse rows) (r ∷ []) more in
    let first = first_of_all r (reverse rows) more (all_back (λ s. s.key ≡ r.key) rows one) in
    ap (drop_before Descending key) split ∙ stops_at Descending key r (reverse rows ++ (r ∷ more)) first (not_false (comes_before Descending r.key key) h) ∙ sym split

ready_leave : (key : List ℕ) (ready more : List RowEntry) → IsOneKey ready → stays_at key ready ≡ false → drop_before Descending key (reverse ready ++ more) ≡ drop_before Descending key more
ready_leave key ready more one h = dropped_front Descending key (reverse ready) more (all_back (λ r. comes_before Descending r.key key ≡ true) ready (all_leave key ready one h))

gathered_stay : (key : List ℕ) (ready gathered rows : List RowEntry) → IsOneKey ready → stays_at key ready ≡ false → stays_at key gathered ≡ true → drop_before Descending key (newest_left Descending ready gathered rows) ≡ newest_first (gathered ++ rows)
gathered_stay key ready [] rows one h k = cc
gathered_stay key ready (r ∷ gathered) rows one h k =
    ready_leave key ready (newest_first ((r ∷ gathered) ++ rows)) one h
    ∙ stops_at Descending key r (newest_first ((r ∷ gathered) ++ rows)) (first_newest r (gathered ++ rows)) (not_false (comes_before Descending r.key key) k)

none_stay : (key : List ℕ) (ready gathered rows : List RowEntry) → IsOneKey ready → IsOneKey gathered → stays_at key ready ≡ false → stays_at key gathered ≡ false → drop_before Descending key (newest_left Descending ready gathered rows) ≡ newest_first (drop_before Descending key rows)
none_stay key ready gathered rows one one_too h k =
    ready_leave key ready (newest_first (gathered ++ rows)) one h
    ∙ sought_newest Descending key (gathered ++ rows)
    ∙ ap newest_first (dropped_front Descending key gathered rows (all_leave key gathered one_too k))

pub one_apart : (rows : List RowEntry) (row first : RowEntry) → slice_get rows 0 ≡ Some first → not (bytes_eq row.key first.key) ≡ false → IsOneKey rows → IsOneKey (rows ++ (row ∷ []))
one_apart [] row first at same one = tt
one_apart (r ∷ rows) row first at same one =
    let is : r ≡ first = same_Some r first at in
    one_more rows r row one ((bytes_eq-Decides row.key first.key).0 (not_true (bytes_eq row.key first.key) same) ∙ ap (λ (x : RowEntry). x.key) (sym is))

-- ---- what callers know of a call of a source

module _ {I : Type 0} (rest : I → World → List RowEntry) (sound : I → World → Type 0) (refuses : I → Meaning → List Act → Option (List ℕ) → SlateDBError → Type 0) where
  pub step_of : (takes : I → Meaning → List Act → Option RowEntry → I → Type 0) (b c : Reach) (y z : I) (result : Result (Option RowEntry) SlateDBError) →
      ((w : World) → Sees w b c → sound y w → IfOk result (λ answer. TakesRow (rest y w) answer (rest z w))) → ((w : World) → Sees w b c → sound y w → sound z w) → ((w : World) → sound y w → OnOk result (Checks w b c)) →
      IfOk result (λ answer. Made b c (λ reads. takes y b.meaning reads answer z × NoMore (refuses y b.meaning) reads (refuses z b.meaning))) → IfOk result (λ answer. Step rest sound refuses takes b c y answer z)
  step_of takes b c y z (Ok answer) rows still checked taken = record { rows = rows; still = still; checked = checked; taken = taken }
  step_of takes b c y z (Err e) rows still checked taken = tt

  pub seeks_of : (seeks : I → Meaning → List Act → List ℕ → I → Type 0) (order : IterationOrder) (key : List ℕ) (b c : Reach) (y z : I) (result : Result (Unit {0}) SlateDBError) →
      ((w : World) → Sees w b c → sound y w → OnOk result (rest z w ≡ drop_before order key (rest y w))) → ((w : World) → Sees w b c → sound y w → sound z w) → ((w : World) → sound y w → OnOk result (Checks w b c)) →
      OnOk result (Made b c (λ reads. seeks y b.meaning reads key z × NoMore (refuses y b.meaning) reads (refuses z b.meaning))) → OnOk result (Seeks rest sound refuses order key b c y z)
  seeks_of seeks order key b c y z (Ok answer) rows still checked sought = record { rows = rows; still = still; checked = checked; made = (sought.0, sought.1, sought.2.1) }
  seeks_of seeks order key b c y z (Err e) rows still checked sought = tt

-- ---- a group of a source

module _ {I : Type 0} (rest : I → World → List RowEntry) (sound : I → World → Type 0) (order : I → IterationOrder) (refuses : I → Meaning → List Act → Option (List ℕ) → SlateDBError → Type 0) where
  same_turn : (o p : IterationOrder) (rows more : List RowEntry) → p ≡ o → more ≡ rows → AreInTurn (row_before o) rows → AreInTurn (row_before p) more
  same_turn o p rows more e is h = subst (λ (q : IterationOrder). AreInTurn (row_before q) more) (sym e) (subst (AreInTurn (row_before o)) (sym is) h)

  -- a row that the source brought stands behind those that were gathered
  pub gathered_moves : (takes : I → Meaning → List Act → Option RowEntry → I → Type 0) (b c : Reach) (y z : I) (g h : Groups) (row : RowEntry) → order y ≡ Descending → order z ≡ order y → Step rest sound refuses takes b c y (Some row) z →
      h.ready.items ≡ g.ready.items → h.gathered.items ≡ g.gathered.items ++ (row ∷ []) → (IsOneKey g.gathered.items → IsOneKey (g.gathered.items ++ (row ∷ []))) →
      Moves (rest_grouped rest order) (sound_grouped rest sound order) (refuses_grouped refuses) b c (y, g) (z, h)
  gathered_moves takes b c y z g h row down same s ready gathered one = record {
    rows = rows;
    still = λ w sees k. (
      s.still w sees k.0,
      record {
        turn = same_turn (order y) (order z) (rest_grouped rest order (y, g) w) (rest_grouped rest order (z, h) w) same (rows w sees k) k.1.turn;
        one_ready = subst IsOneKey (sym ready) k.1.one_ready;
        one_gathered = subst IsOneKey (sym gathered) (one k.1.one_gathered);
      },
    );
    checked = λ w k. s.checked w k.0;
    made = (s.taken.0, s.taken.1, s.taken.2.1);
  }
    where
      rows : (w : World) → Sees w b c → sound_grouped rest sound order (y, g) w → rest_grouped rest order (z, h) w ≡ rest_grouped rest order (y, g) w
      rows w sees k =
          let here : rest_grouped rest order (z, h) w ≡ newest_left Descending g.ready.items (g.gathered.items ++ (row ∷ [])) (rest z w) = (λ i. newest_left ((same ∙ down) i) (ready i) (gathered i) (rest z w)) in
          here
          ∙ ap (λ (l : List RowEntry). reverse g.ready.items ++ newest_first l) (append_assoc g.gathered.items (row ∷ []) (rest z w))
          ∙ ap (newest_left Descending g.ready.items g.gathered.items) (sym (s.rows w sees k.0))
          ∙ ap (λ (o : IterationOrder). newest_left o g.ready.items g.gathered.items (rest y w)) (sym down)

  -- a row of another key makes them ready
  pub turned_moves : (takes : I → Meaning → List Act → Option RowEntry → I → Type 0) (b c : Reach) (y z : I) (g h : Groups) (row : RowEntry) → order y ≡ Descending → order z ≡ order y → Step rest sound refuses takes b c y (Some row) z →
      g.ready.items ≡ [] → h.ready.items ≡ g.gathered.items → h.gathered.items ≡ row ∷ [] → StandsApart g.gathered.items (row ∷ []) →
      Moves (rest_grouped rest order) (sound_grouped rest sound order) (refuses_grouped refuses) b c (y, g) (z, h)
  turned_moves takes b c y z g h row down same s none ready gathered apart = record {
    rows = rows;
    still = λ w sees k. (
      s.still w sees k.0,
      record {
        turn = same_turn (order y) (order z) (rest_grouped rest order (y, g) w) (rest_grouped rest order (z, h) w) same (rows w sees k) k.1.turn;
        one_ready = subst IsOneKey (sym ready) k.1.one_gathered;
        one_gathered = subst IsOneKey (sym gathered) tt;
      },
    );
    checked = λ w k. s.checked w k.0;
    made = (s.taken.0, s.taken.1, s.taken.2.1);
  }
    where
      more_apart : (rows more : List RowEntry) → StandsApart rows (row ∷ []) → StandsApart rows (row ∷ more)
      more_apart [] more h = tt
      more_apart (r ∷ rows) more h = h

      rows : (w : World) → Sees w b c → sound_grouped rest sound order (y, g) w → rest_grouped rest order (z, h) w ≡ rest_grouped rest order (y, g) w
      rows w sees k =
          let here : rest_grouped rest order (z, h) w ≡ newest_left Descending g.gathered.items (row ∷ []) (rest z w) = (λ i. newest_left ((same ∙ down) i) (ready i) (gathered i) (rest z w)) in
          let there : newest_left Descending [] g.gathered.items (rest y w) ≡ rest_grouped rest order (y, g) w = (λ i. newest_left (sym down i) (sym none i) g.gathered.items (rest y w)) in
          here
          ∙ sym (one_turned g.gathered.items (row ∷ rest z w) k.1.one_gathered (more_apart g.gathered.items (rest z w) apart))
          ∙ ap (λ (l : List RowEntry). newest_first (g.gathered.items ++ l)) (sym (s.rows w sees k.0))
          ∙ there

  -- and so does the end of the source
  pub spent_moves : (takes : I → Meaning → List Act → Option RowEntry → I → Type 0) (b c : Reach) (y z : I) (g h : Groups) → order y ≡ Descending → order z ≡ order y → Step rest sound refuses takes b c y None z →
      g.ready.items ≡ [] → h.ready.items ≡ g.gathered.items → h.gathered.items ≡ [] →
      Moves (rest_grouped rest order) (sound_grouped rest sound order) (refuses_grouped refuses) b c (y, g) (z, h)
  spent_moves takes b c y z g h down same s none ready gathered = record {
    rows = rows;
    still = λ w sees k. (
      s.still w sees k.0,
      record {
        turn = same_turn (order y) (order z) (rest_grouped rest order (y, g) w) (rest_grouped rest order (z, h) w) same (rows w sees k) k.1.turn;
        one_ready = subst IsOneKey (sym ready) k.1.one_gathered;
        one_gathered = subst IsOneKey (sym gathered) tt;
      },
    );
    checked = λ w k. s.checked w k.0;
    made = (s.taken.0, s.taken.1, s.taken.2.1);
  }
    where
      apart : (rows : List RowEntry) → StandsApart rows []
      apart [] = tt
      apart (r ∷ rows) = tt

      rows : (w : World) → Sees w b c → sound_grouped rest sound order (y, g) w → rest_grouped rest order (z, h) w ≡ rest_grouped rest order (y, g) w
      rows w sees k =
          let t = s.rows w sees k.0 in
          let here : rest_grouped rest order (z, h) w ≡ newest_left Descending g.gathered.items [] [] = (λ i. newest_left ((same ∙ down) i) (ready i) (gathered i) (t.1 i)) in
          let there : newest_left Descending [] g.gathered.items [] ≡ rest_grouped rest order (y, g) w = (λ i. newest_left (sym down i) (sym none i) g.gathered.items (sym t.0 i)) in
          here ∙ sym (one_turned g.gathered.items [] k.1.one_gathered (apart g.gathered.items)) ∙ there

  pub spent_rest : (y z : I) (g h : Groups) (w : World) → order z ≡ Descending → h.ready.items ≡ [] → h.gathered.items ≡ [] → rest z w ≡ [] → rest_grouped rest order (z, h) w ≡ []
  spent_rest y z g h w down ready gathered none = (λ i. newest_left (down i) (ready i) (gathered i) (none i))

  pub stands_of : (a b : Reach) (x y : I × Groups) → Moves (rest_grouped rest order) (sound_grouped rest sound order) (refuses_grouped refuses) a b x y → Stands (rest_grouped rest order) (sound_grouped rest sound order) (refuses_grouped refuses) a b x y
  stands_of a b x y m = record { rows = m.rows; still = m.still; checked = m.checked; made = m.made }

  pub moves_of : (a b : Reach) (x y : I × Groups) → Stands (rest_grouped rest order) (sound_grouped rest sound order) (refuses_grouped refuses) a b x y → Moves (rest_grouped rest order) (sound_grouped rest sound order) (refuses_grouped refuses) a b x y
  moves_of a b x y m = record { rows = m.rows; still = m.still; checked = m.checked; made = m.made }

  -- rows that are kept elsewhere are the same
  pub same_moves : (t : Reach) (x : I) (g h : Groups) → h.ready.items ≡ g.ready.items → h.gathered.items ≡ g.gathered.items → Moves (rest_grouped rest order) (sound_grouped rest sound order) (refuses_grouped refuses) t t (x, g) (x, h)
  same_moves t x g h ready gathered = record {
    rows = λ w sees k. is w;
    still = λ w sees k. (
      k.0,
      record {
        turn = subst (AreInTurn (row_before (order x))) (sym (is w)) k.1.turn;
        one_ready = subst IsOneKey (sym ready) k.1.one_ready;
        one_gathered = subst IsOneKey (sym gathered) k.1.one_gathered;
      },
    );
    checked = λ w k. checks_none w t;
    made = ([], call_none t, λ later at e r. r);
  }
    where
      is : (w : World) → rest_grouped rest order (x, h) w ≡ rest_grouped rest order (x, g) w
      is w = (λ i. newest_left (order x) (ready i) (gathered i) (rest x w))

  -- ---- a row is handed out

  pub popped_step : (t : Reach) (x : I) (g h : Groups) (row : RowEntry) → order x ≡ Descending → g.ready.items ≡ h.ready.items ++ (row ∷ []) → h.gathered.items ≡ g.gathered.items →
      Step (rest_grouped rest order) (sound_grouped rest sound order) (refuses_grouped refuses) no_rows t t (x, g) (Some row) (x, h)
  popped_step t x g h row down ready gathered = record {
    rows = λ w sees k. rows w;
    still = λ w sees k. (
      k.0,
      record {
        turn = turn_taken (row_before (order x)) (rest_grouped rest order (x, g) w) (rest_grouped rest order (x, h) w) (Some row) (rows w) k.1.turn;
        one_ready = one_front h.ready.items (row ∷ []) (subst IsOneKey ready k.1.one_ready);
        one_gathered = subst IsOneKey (sym gathered) k.1.one_gathered;
      },
    );
    checked = λ w k. checks_none w t;
    taken = ([], call_none t, (tt, λ later at e r. r));
  }
    where
      rows : (w : World) → rest_grouped rest order (x, g) w ≡ row ∷ rest_grouped rest order (x, h) w
      rows w =
          let here : rest_grouped rest order (x, g) w ≡ newest_left Descending (h.ready.items ++ (row ∷ [])) g.gathered.items (rest x w) = (λ i. newest_left (down i) (ready i) g.gathered.items (rest x w)) in
          let there : row ∷ newest_left Descending h.ready.items g.gathered.items (rest x w) ≡ row ∷ rest_grouped rest order (x, h) w = (λ i. row ∷ newest_left (sym down i) h.ready.items (sym gathered i) (rest x w)) in
          here ∙ ap (λ (l : List RowEntry). l ++ newest_first (g.gathered.items ++ rest x w)) (reverse-append h.ready.items (row ∷ [])) ∙ there

  pub none_step : (a b : Reach) (x y : I × Groups) (z : I × Groups) → Stands (rest_grouped rest order) (sound_grouped rest sound order) (refuses_grouped refuses) a b x y →
      ((w : World) → Sees w a b → sound_grouped rest sound order x w → rest_grouped rest order y w ≡ []) → z.0 ≡ y.0 → z.1.ready.items ≡ y.1.ready.items → z.1.gathered.items ≡ y.1.gathered.items →
      Step (rest_grouped rest order) (sound_grouped rest sound order) (refuses_grouped refuses) no_rows a b x None z
  none_step a b x y z m none same ready gathered = record {
    rows = λ w sees k. (sym (m.rows w sees k) ∙ none w sees k, (is w) ∙ none w sees k);
    still = λ w sees k. let s = m.still w sees k in (
      subst (λ (i : I). sound i w) (sym same) s.0,
      record {
        turn = same_turn (order y.0) (order z.0) (rest_grouped rest order y w) (rest_grouped rest order z w) (ap order same) (is w) s.1.turn;
        one_ready = subst IsOneKey (sym ready) s.1.one_ready;
        one_gathered = subst IsOneKey (sym gathered) s.1.one_gathered;
      },
    );
    checked = m.checked;
    taken = (m.made.0, m.made.1, (tt, λ later at e r. m.made.2 later at e (subst (λ (i : I). refuses i a.meaning later at e) same r)));
  }
    where
      is : (w : World) → rest_grouped rest order z w ≡ rest_grouped rest order y w
      is w = (λ i. newest_left (order (same i)) (ready i) (gathered i) (rest (same i) w))

  -- the newest of the rows that were gathered, or none where the source is spent
  pub newest_step : (a b : Reach) (x : I × Groups) (y : I) (g h : Groups) (answer : Option RowEntry) → Stands (rest_grouped rest order) (sound_grouped rest sound order) (refuses_grouped refuses) a b x (y, g) → order y ≡ Descending →
      ((w : World) → Sees w a b → sound_grouped rest sound order x w → g.ready.items ≡ [] → rest_grouped rest order (y, g) w ≡ []) → g.ready.items ≡ h.ready.items ++ option_to_list answer → (answer ≡ None → g.ready.items ≡ []) → h.gathered.items ≡ g.gathered.items →
      Step (rest_grouped rest order) (sound_grouped rest sound order) (refuses_grouped refuses) no_rows a b x answer (y, h)
  newest_step a b x y g h None m down spent ready none gathered =
      none_step a b x (y, g) (y, h) m (λ w sees k. spent w sees k (none refl)) refl (sym (ready ∙ append-nil h.ready.items)) gathered
  newest_step a b x y g h (Some row) m down spent ready none gathered =
      moves_step (rest_grouped rest order) (sound_grouped rest sound order) (refuses_grouped refuses) a b b x (y, g) (y, h) (Some row) (moves_of a b x (y, g) m) (popped_step b y g h row down ready gathered)

  -- where the source is spent nothing is left of it
  pub source_spent : (takes : I → Meaning → List Act → Option RowEntry → I → Type 0) (a b c : Reach) (x y : I × Groups) (z : I) → Moves (rest_grouped rest order) (sound_grouped rest sound order) (refuses_grouped refuses) a b x y → Step rest sound refuses takes b c y.0 None z →
      (w : World) → Sees w a c → sound_grouped rest sound order x w → rest z w ≡ []
  source_spent takes a b c x y z m s w sees k =
      (s.rows w (sees_last w a b c m.made.0 s.taken.0 m.made.1 s.taken.1 sees) (m.still w (sees_first w a b c m.made.0 s.taken.0 m.made.1 s.taken.1 sees) k).0).1

  -- upwards each row is the source's
  pub upwards_step : (takes : I → Meaning → List Act → Option RowEntry → I → Type 0) (b c : Reach) (y z : I) (g : Groups) (answer : Option RowEntry) → order y ≡ Ascending → order z ≡ order y → Step rest sound refuses takes b c y answer z →
      Step (rest_grouped rest order) (sound_grouped rest sound order) (refuses_grouped refuses) no_rows b c (y, g) answer (z, g)
  upwards_step takes b c y z g answer up same s = record {
    rows = rows;
    still = λ w sees k. (
      s.still w sees k.0,
      record {
        turn = subst (λ (o : IterationOrder). AreInTurn (row_before o) (rest_grouped rest order (z, g) w)) (sym same) (turn_taken (row_before (order y)) (rest_grouped rest order (y, g) w) (rest_grouped rest order (z, g) w) answer (rows w sees k) k.1.turn);
        one_ready = k.1.one_ready;
        one_gathered = k.1.one_gathered;
      },
    );
    checked = λ w k. s.checked w k.0;
    taken = (s.taken.0, s.taken.1, (tt, s.taken.2.1));
  }
    where
      rows : (w : World) → Sees w b c → sound_grouped rest sound order (y, g) w → TakesRow (rest_grouped rest order (y, g) w) answer (rest_grouped rest order (z, g) w)
      rows w sees k =
          let front : rest y w ≡ rest_grouped rest order (y, g) w = (λ i. newest_left (sym up i) g.ready.items g.gathered.items (rest y w)) in
          let back : rest z w ≡ rest_grouped rest order (z, g) w = (λ i. newest_left (sym (same ∙ up) i) g.ready.items g.gathered.items (rest z w)) in
          subst (λ (l : List RowEntry). TakesRow l answer (rest_grouped rest order (z, g) w)) front (subst (λ (l : List RowEntry). TakesRow (rest y w) answer l) back (s.rows w sees k.0))

  -- ---- a seek

  -- nothing is called
  still_seeks : (key : List ℕ) (t : Reach) (x : I) (g h : Groups) → order x ≡ Descending → ((w : World) → IsGrouped Descending g.ready.items g.gathered.items (rest x w) → newest_left Descending h.ready.items h.gathered.items (rest x w) ≡ drop_before Descending key (newest_left Descending g.ready.items g.gathered.items (rest x w))) →
      (IsOneKey g.ready.items → IsOneKey h.ready.items) → (IsOneKey g.gathered.items → IsOneKey h.gathered.items) →
      Seeks (rest_grouped rest order) (sound_grouped rest sound order) (refuses_grouped refuses) (order x) key t t (x, g) (x, h)
  still_seeks key t x g h down drops ready gathered = record {
    rows = λ w sees k. rows w k;
    still = λ w sees k. (
      k.0,
      record {
        turn = subst (AreInTurn (row_before (order x))) (sym (rows w k)) (turn_dropped (row_before (order x)) (order x) key (rest_grouped rest order (x, g) w) k.1.turn);
        one_ready = ready k.1.one_ready;
        one_gathered = gathered k.1.one_gathered;
      },
    );
    checked = λ w k. checks_none w t;
    made = ([], call_none t, λ later at e r. r);
  }
    where
      rows : (w : World) → sound_grouped rest sound order (x, g) w → rest_grouped rest order (x, h) w ≡ drop_before (order x) key (rest_grouped rest order (x, g) w)
      rows w k =
          let here : rest_grouped rest order (x, h) w ≡ newest_left Descending h.ready.items h.gathered.items (rest x w) = (λ i. newest_left (down i) h.ready.items h.gathered.items (rest x w)) in
          let there : drop_before Descending key (newest_left Descending g.ready.items g.gathered.items (rest x w)) ≡ drop_before (order x) key (rest_grouped rest order (x, g) w) = (λ i. drop_before (sym down i) key (newest_left (sym down i) g.ready.items g.gathered.items (rest x w))) in
          here ∙ drops w (subst (λ (o : IterationOrder). IsGrouped o g.ready.items g.gathered.items (rest x w)) down k.1) ∙ there

  -- a row that is ready stands at the key or behind it
  pub ready_seeks : (key : List ℕ) (t : Reach) (x : I) (g : Groups) → order x ≡ Descending → stays_at key g.ready.items ≡ true →
      Seeks (rest_grouped rest order) (sound_grouped rest sound order) (refuses_grouped refuses) (order x) key t t (x, g) (x, g)
  ready_seeks key t x g down stays = still_seeks key t x g g down (λ w k. sym (ready_stays key g.ready.items (newest_first (g.gathered.items ++ rest x w)) k.one_ready stays)) (λ k. k) (λ k. k)

  -- or one that was gathered
  pub gathered_seeks : (key : List ℕ) (t : Reach) (x : I) (g h : Groups) → order x ≡ Descending → stays_at key g.ready.items ≡ false → stays_at key g.gathered.items ≡ true → h.ready.items ≡ [] → h.gathered.items ≡ g.gathered.items →
      Seeks (rest_grouped rest order) (sound_grouped rest sound order) (refuses_grouped refuses) (order x) key t t (x, g) (x, h)
  gathered_seeks key t x g h down leaves stays ready gathered = still_seeks key t x g h down
      (λ w k. (λ i. newest_left Descending (ready i) (gathered i) (rest x w)) ∙ sym (gathered_stay key g.ready.items g.gathered.items (rest x w) k.one_ready leaves stays))
      (λ k. subst IsOneKey (sym ready) tt) (λ k. subst IsOneKey (sym gathered) k)

  -- or none, and the source seeks
  pub source_seeks : (key : List ℕ) (b c : Reach) (y z : I) (g h : Groups) → order y ≡ Descending → order z ≡ order y → stays_at key g.ready.items ≡ false → stays_at key g.gathered.items ≡ false → h.ready.items ≡ [] → h.gathered.items ≡ [] →
      Seeks rest sound refuses (order y) key b c y z → Seeks (rest_grouped rest order) (sound_grouped rest sound order) (refuses_grouped refuses) (order y) key b c (y, g) (z, h)
  source_seeks key b c y z g h down same leaves leaves_too ready gathered s = record {
    rows = λ w sees k. rows w sees k;
    still = λ w sees k. (
      s.still w sees k.0,
      record {
        turn = subst (λ (o : IterationOrder). AreInTurn (row_before o) (rest_grouped rest order (z, h) w)) (sym same) (subst (AreInTurn (row_before (order y))) (sym (rows w sees k)) (turn_dropped (row_before (order y)) (order y) key (rest_grouped rest order (y, g) w) k.1.turn));
        one_ready = subst IsOneKey (sym ready) tt;
        one_gathered = subst IsOneKey (sym gathered) tt;
      },
    );
    checked = λ w k. s.checked w k.0;
    made = s.made;
  }
    where
      rows : (w : World) → Sees w b c → sound_grouped rest sound order (y, g) w → rest_grouped rest order (z, h) w ≡ drop_before (order y) key (rest_grouped rest order (y, g) w)
      rows w sees k =
          let here : rest_grouped rest order (z, h) w ≡ newest_first (rest z w) = (λ i. newest_left ((same ∙ down) i) (ready i) (gathered i) (rest z w)) in
          let sought : newest_first (rest z w) ≡ newest_first (drop_before Descending key (rest y w)) = ap newest_first (s.rows w sees k.0 ∙ ap (λ (o : IterationOrder). drop_before o key (rest y w)) down) in
          let there : drop_before Descending key (newest_left Descending g.ready.items g.gathered.items (rest y w)) ≡ drop_before (order y) key (rest_grouped rest order (y, g) w) = (λ i. drop_before (sym down i) key (newest_left (sym down i) g.ready.items g.gathered.items (rest y w))) in
          here ∙ sought ∙ sym (none_stay key g.ready.items g.gathered.items (rest y w) k.1.one_ready k.1.one_gathered leaves leaves_too) ∙ there

  -- upwards the source seeks
  pub upwards_seeks : (key : List ℕ) (b c : Reach) (y z : I) (g : Groups) → order y ≡ Ascending → order z ≡ order y → Seeks rest sound refuses (order y) key b c y z →
      Seeks (rest_grouped rest order) (sound_grouped rest sound order) (refuses_grouped refuses) (order y) key b c (y, g) (z, g)
  upwards_seeks key b c y z g up same s = record {
    rows = rows;
    still = λ w sees k. (
      s.still w sees k.0,
      record {
        turn = subst (λ (o : IterationOrder). AreInTurn (row_before o) (rest_grouped rest order (z, g) w)) (sym same) (subst (AreInTurn (row_before (order y))) (sym (rows w sees k)) (turn_dropped (row_before (order y)) (order y) key (rest_grouped rest order (y, g) w) k.1.turn));
        one_ready = k.1.one_ready;
        one_gathered = k.1.one_gathered;
      },
    );
    checked = λ w k. s.checked w k.0;
    made = s.made;
  }
    where
      rows : (w : World) → Sees w b c → sound_grouped rest sound order (y, g) w → rest_grouped rest order (z, g) w ≡ drop_before (order y) key (rest_grouped rest order (y, g) w)
      rows w sees k =
          let here : rest_grouped rest order (z, g) w ≡ rest z w = (λ i. newest_left ((same ∙ up) i) g.ready.items g.gathered.items (rest z w)) in
          let there : drop_before (order y) key (rest y w) ≡ drop_before (order y) key (rest_grouped rest order (y, g) w) = (λ i. drop_before (order y) key (newest_left (sym up i) g.ready.items g.gathered.items (rest y w))) in
          here ∙ s.rows w sees k.0 ∙ there
