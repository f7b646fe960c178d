-- What a walk from the end of a block of version 2 reads, and what its seeks take off.
use Rattle.std.proofs.Common.{◌≡◌, ℕ, zero, suc, ◌+◌, ◌-◌, ◌<◌, ◌≤◌, Bool, true, false, List, [], ◌∷◌, ◌++◌, length, take, drop, reverse, map, Option, Some, None, Result, Ok, Err, refl, sym, ap, ◌∙◌, subst, arith, append_assoc, ◌⊎◌, inl, inr, nat_eq, rules, IsOk}
use Rattle.std.proofs.lemmas.Bool.{cases_lt, eqb-true, eq-eqb}
use Rattle.std.specs.Prelude.{IsSome, IsTrue, option_to_list, slice_get}
use Rattle.std.proofs.lemmas.List.{append-nil, map-append, reverse-append, reverse-reverse, length-reverse, nil_from_length, drop_all}
use Rattle.slate_types.specs.declared.error.SlateDBError.{SlateDBError}
use Rattle.slate_types.specs.declared.types.RowEntry.{RowEntry}
use Rattle.slate_types.specs.declared.iter.IterationOrder.{IterationOrder}
use Rattle.slate_types.specs.Iteration.{comes_before}
use Rattle.slate_block.specs.Damage.{◌>>=◌}
use Rattle.slate_block.specs.Walks.{RowRead, all_ok, before, reads_v2, are_named, block_reads, block_rows}
use Rattle.slate_block.specs.BlockWalks.{LastBefore, IsBlockDamage, IsPast, Refuses, TakesRead}
use Rattle.slate_block.specs.GroupWalks.{restart_at, BeginsBefore, turned, reads_back, left_back}
use Rattle.slate_block.proofs.FieldLaws.{ok_is}
use Rattle.slate_block.proofs.GroupRows.{Left, joined, joined_ok, all_ok_joined}
use Rattle.slate_block.proofs.GroupSteps.{reads_from, restart_some, named_reads, none_of}
use Rattle.slate_block.proofs.WalkLaws.{ok_read, all_ok_map, reads_of_ok}
use Rattle.slate_block.proofs.SeekLaws.{last_joined, past_none, past_trans, past_ahead, part_fewer}
use Rattle.slate_block.proofs.BackSteps.{back_of, last_back, mapped, back_read, back_refused, nothing_kept}

abbrev found : List RowEntry → Left
found rows = Ok rows

-- ---- forwards and back

abbrev turn : Left → Left
turn left = left >>= λ rows. Ok (reverse rows)

turned_is : (left : Left) → all_ok (turned left) ≡ turn left
turned_is (Ok rows) = all_ok_map (reverse rows)
turned_is (Err e) = refl

rows_from : (body offsets : List ℕ) (n : ℕ) → n < length offsets → all_ok (reads_v2 body (drop n offsets) (length body)) ≡ joined (all_ok (restart_at body offsets n)) (all_ok (reads_v2 body (drop (n + 1) offsets) (length body)))
rows_from body offsets n lt = ap all_ok (reads_from body offsets n lt) ∙ all_ok_joined (restart_at body offsets n) (reads_v2 body (drop (n + 1) offsets) (length body))

back_from : (body offsets : List ℕ) (n : ℕ) → all_ok (reads_back (suc n) body offsets) ≡ joined (turn (all_ok (restart_at body offsets n))) (all_ok (reads_back n body offsets))
unfolding reads_back
back_from body offsets n =
    all_ok_joined (turned (all_ok (restart_at body offsets n))) (reads_back n body offsets)
    ∙ ap (λ (l : Left). joined l (all_ok (reads_back n body offsets))) (turned_is (all_ok (restart_at body offsets n)))

record ReadTo (body offsets : List ℕ) (n : ℕ) (rows : List RowEntry) : Type 0 where
  pub front : List RowEntry
  pub behind : List RowEntry
  pub read : all_ok (reads_v2 body (drop n offsets) (length body)) ≡ Ok behind
  pub back : all_ok (reads_back n body offsets) ≡ Ok (reverse front)
  pub parts : rows ≡ front ++ behind

read_to : (body offsets : List ℕ) (n : ℕ) (rows : List RowEntry) → all_ok (reads_v2 body offsets (length body)) ≡ Ok rows → n ≤ length offsets → ReadTo body offsets n rows
unfolding reads_back
read_to body offsets zero rows e le = record { front = []; behind = rows; read = e; back = refl; parts = refl }
read_to body offsets (suc n) rows e le =
    let s = read_to body offsets n rows e (omega arith) in
    let j = joined_ok (all_ok (restart_at body offsets n)) (all_ok (reads_v2 body (drop (n + 1) offsets) (length body))) s.behind (sym (rows_from body offsets n (omega arith)) ∙ s.read) in
    let next : n + 1 ≡ suc n = omega arith in
    record {
      front = s.front ++ j.0;
      behind = j.1;
      read = ap (λ (k : ℕ). all_ok (reads_v2 body (drop k offsets) (length body))) (sym next) ∙ j.3;
      back = back_from body offsets n ∙ (λ i. joined (turn (j.2 i)) (s.back i)) ∙ ap found (sym (reverse-append s.front j.0));
      parts = s.parts ∙ ap (λ (l : List RowEntry). s.front ++ l) j.4 ∙ sym (append_assoc s.front j.0 j.1);
    }

turn_ok : (left : Left) (rows : List RowEntry) → turn left ≡ Ok rows → (front : List RowEntry) × (left ≡ Ok front) × (rows ≡ reverse front)
turn_ok (Ok front) rows e = (front, refl, sym (ok_is (reverse front) rows e))
turn_ok (Err d) rows e = absurd cc

back_to : (body offsets : List ℕ) (n : ℕ) (back behind : List RowEntry) → n ≤ length offsets → all_ok (reads_back n body offsets) ≡ Ok back → all_ok (reads_v2 body (drop n offsets) (length body)) ≡ Ok behind →
    all_ok (reads_v2 body offsets (length body)) ≡ Ok (reverse back ++ behind)
unfolding reads_back
back_to body offsets zero back behind le e r = r ∙ ap (λ (l : List RowEntry). found (reverse l ++ behind)) (ok_is [] back e)
back_to body offsets (suc n) back behind le e r =
    let j = joined_ok (turn (all_ok (restart_at body offsets n))) (all_ok (reads_back n body offsets)) back (sym (back_from body offsets n) ∙ e) in
    let t = turn_ok (all_ok (restart_at body offsets n)) j.0 j.2 in
    let next : n + 1 ≡ suc n = omega arith in
    let rest : all_ok (reads_v2 body (drop (n + 1) offsets) (length body)) ≡ Ok behind = ap (λ (k : ℕ). all_ok (reads_v2 body (drop k offsets) (length body))) next ∙ r in
    let here : all_ok (reads_v2 body (drop n offsets) (length body)) ≡ Ok (t.0 ++ behind) = rows_from body offsets n (omega arith) ∙ (λ i. joined (t.1 i) (rest i)) in
    let turned_back : reverse back ≡ reverse j.1 ++ t.0 = ap reverse (j.4 ∙ ap (λ (l : List RowEntry). l ++ j.1) t.2) ∙ reverse-append (reverse t.0) j.1 ∙ ap (λ (l : List RowEntry). reverse j.1 ++ l) (reverse-reverse t.0) in
    back_to body offsets n j.1 (t.0 ++ behind) (omega arith) j.3 here ∙ ap found (sym (append_assoc (reverse j.1) t.0 behind) ∙ ap (λ (l : List RowEntry). l ++ behind) (sym turned_back))

none_behind : (body offsets : List ℕ) → all_ok (reads_v2 body (drop (length offsets) offsets) (length body)) ≡ Ok []
unfolding reads_v2
none_behind body offsets = ap (λ (ats : List ℕ). all_ok (reads_v2 body ats (length body))) (drop_all (length offsets) offsets (omega arith))

pub whole_back : (body offsets : List ℕ) (groups : ℕ) (rows : List RowEntry) → groups ≡ length offsets → rows ≡ [] → left_back body offsets groups rows ≡ reads_back (length offsets) body offsets
whole_back body offsets groups rows e h = nothing_kept body offsets groups rows h ∙ ap (λ (k : ℕ). reads_back k body offsets) e

pub named_is_ok : (body offsets : List ℕ) → are_named offsets ≡ true → IsOk (block_reads 2 body offsets)
named_is_ok body offsets h = rw (named_reads body offsets h) (search rules)

named_all : (body offsets : List ℕ) → are_named offsets ≡ true → block_rows 2 body offsets ≡ all_ok (reads_v2 body offsets (length body))
unfolding block_rows
named_all body offsets h = ap (λ (x : Result (List RowRead) SlateDBError). x >>= all_ok) (named_reads body offsets h)

pub read_back : (body offsets : List ℕ) (left : List RowRead) (rows : List RowEntry) → are_named offsets ≡ true → left ≡ reads_back (length offsets) body offsets → block_rows 2 body offsets ≡ Ok rows → all_ok left ≡ Ok (reverse rows)
read_back body offsets left rows h is e =
    let r = read_to body offsets (length offsets) rows (sym (named_all body offsets h) ∙ e) (omega arith) in
    let none : r.behind ≡ [] = ok_is r.behind [] (sym r.read ∙ none_behind body offsets) in
    let all : rows ≡ r.front = r.parts ∙ ap (λ (l : List RowEntry). r.front ++ l) none ∙ append-nil r.front in
    ap all_ok is ∙ r.back ∙ ap (λ (l : List RowEntry). found (reverse l)) (sym all)

pub back_is_read : (body offsets : List ℕ) (left : List RowRead) (rows : List RowEntry) → are_named offsets ≡ true → left ≡ reads_back (length offsets) body offsets → all_ok left ≡ Ok (reverse rows) → block_rows 2 body offsets ≡ Ok rows
back_is_read body offsets left rows h is e =
    named_all body offsets h ∙ back_to body offsets (length offsets) (reverse rows) [] (omega arith) (ap all_ok (sym is) ∙ e) (none_behind body offsets)
    ∙ ap found (append-nil (reverse (reverse rows)) ∙ reverse-reverse rows)

-- ---- a step back

pub no_rows_back : (body offsets : List ℕ) (groups : ℕ) (rows : List RowEntry) → groups ≡ 0 → rows ≡ [] → left_back body offsets groups rows ≡ []
unfolding left_back reads_back
no_rows_back body offsets groups rows e h = λ i. turned (Ok (h i)) ++ reads_back (e i) body offsets

pub pop_back : (body offsets : List ℕ) (groups : ℕ) (rows after : List RowEntry) (row : RowEntry) → rows ≡ after ++ (row ∷ []) → left_back body offsets groups rows ≡ Ok row ∷ left_back body offsets groups after
unfolding left_back
pop_back body offsets groups rows after row e = ap (λ (l : List RowRead). l ++ reads_back groups body offsets) (last_back rows after row e)

left_read : (body offsets : List ℕ) (groups n : ℕ) (rows read : List RowEntry) → rows ≡ [] → groups ≡ n + 1 → all_ok (restart_at body offsets n) ≡ Ok read → left_back body offsets groups rows ≡ left_back body offsets n read
left_read body offsets groups n rows read h e r = nothing_kept body offsets groups rows h ∙ back_read body offsets groups n read (omega (arith, e)) r

pub pop_read : (body offsets : List ℕ) (groups n : ℕ) (rows read after : List RowEntry) (row : RowEntry) → rows ≡ [] → groups ≡ n + 1 → all_ok (restart_at body offsets n) ≡ Ok read → read ≡ after ++ (row ∷ []) →
    left_back body offsets groups rows ≡ Ok row ∷ left_back body offsets n after
pop_read body offsets groups n rows read after row h e r p = left_read body offsets groups n rows read h e r ∙ pop_back body offsets n read after row p

pub left_refused : (body offsets : List ℕ) (groups n : ℕ) (rows : List RowEntry) (e : SlateDBError) → rows ≡ [] → groups ≡ n + 1 → all_ok (restart_at body offsets n) ≡ Err e → slice_get (left_back body offsets groups rows) 0 ≡ Some (Err e)
left_refused body offsets groups n rows e h same r = ap (λ (l : List RowRead). slice_get l 0) (nothing_kept body offsets groups rows h) ∙ back_refused body offsets groups n e (omega (arith, same)) r

pub left_refused_or : (body offsets : List ℕ) (groups n : ℕ) (rows : List RowEntry) (e m : SlateDBError) → rows ≡ [] → groups ≡ n + 1 → (e ≡ m) ⊎ (all_ok (restart_at body offsets n) ≡ Err e) → (e ≡ m) ⊎ (slice_get (left_back body offsets groups rows) 0 ≡ Some (Err e))
left_refused_or body offsets groups n rows e m h same (inl r) = inl r
left_refused_or body offsets groups n rows e m h same (inr r) = inr (left_refused body offsets groups n rows e h same r)

some_read : (first : RowRead) (reads : List RowRead) → all_ok (first ∷ reads) ≡ Ok [] → ⊥
some_read (Ok row) reads e = by (all_ok reads) e
  where
    by : (left : Left) → before row left ≡ Ok [] → ⊥
    by (Ok rows) h = cc
    by (Err d) h = cc
some_read (Err d) reads e = cc

pub read_some : (body offsets : List ℕ) (n : ℕ) (read : List RowEntry) → all_ok (restart_at body offsets n) ≡ Ok read → read ≡ [] → ⊥
read_some body offsets n read r e =
    let some = restart_some body offsets n in
    some_read some.0 some.1 (sym (ap all_ok some.2) ∙ r ∙ ap found e)

-- the last row that is held, or of a group that is read
pub pop_some : (body offsets : List ℕ) (groups : ℕ) (rows after : List RowEntry) (answer : Option RowEntry) → rows ≡ after ++ option_to_list answer → IsSome answer → TakesRead (left_back body offsets groups rows) answer (left_back body offsets groups after)
pop_some body offsets groups rows after (Some row) e some = pop_back body offsets groups rows after row e
pop_some body offsets groups rows after None e some = absurd cc

pub pop_group : (body offsets : List ℕ) (groups n : ℕ) (rows read after : List RowEntry) (answer : Option RowEntry) → rows ≡ [] → groups ≡ n + 1 → all_ok (restart_at body offsets n) ≡ Ok read → read ≡ after ++ option_to_list answer →
    (0 < length read → IsSome answer) → TakesRead (left_back body offsets groups rows) answer (left_back body offsets n after)
pop_group body offsets groups n rows read after (Some row) h e r p some = pop_read body offsets groups n rows read after row h e r p
pop_group body offsets groups n rows [] after None h e r p some = absurd (read_some body offsets n [] r refl)
pop_group body offsets groups n rows (x ∷ read) after None h e r p some = let clash = some (omega arith) in absurd cc

-- ---- a seek back

-- what is read of a group from its end ends with its first row
group_ends : (order : IterationOrder) (key : List ℕ) (body offsets : List ℕ) (n : ℕ) → BeginsBefore order body offsets n key → IsOk (all_ok (restart_at body offsets n)) → (0 < length (turned (all_ok (restart_at body offsets n)))) × LastBefore order key (turned (all_ok (restart_at body offsets n)))
group_ends order key body offsets n b whole = by (all_ok (restart_at body offsets n)) refl
  where
    by : (left : Left) → all_ok (restart_at body offsets n) ≡ left → (0 < length (turned left)) × LastBefore order key (turned left)
    by (Ok []) e = absurd (read_some body offsets n [] e refl)
    by (Ok (row ∷ rows)) e =
        let first : comes_before order row.key key ≡ true = b row (map ok_read rows) (reads_of_ok (restart_at body offsets n) (row ∷ rows) e) in
        let ends : back_of (row ∷ rows) ≡ back_of rows ++ (Ok row ∷ []) = ap (map ok_read) (reverse-append (row ∷ []) rows) ∙ map-append ok_read (reverse rows) (row ∷ []) in
        (omega (arith, mapped (reverse (row ∷ rows)), length-reverse (row ∷ rows)), subst (LastBefore order key) (sym ends) (last_joined order key (back_of rows) [] (Ok row) first))
    by (Err d) e = absurd cc

last_behind : (order : IterationOrder) (key : List ℕ) (front more : List RowRead) → 0 < length more → LastBefore order key more → LastBefore order key (front ++ more)
last_behind order key front [] some h = absurd (omega (arith, some))
last_behind order key front (read ∷ more) some h = last_joined order key front more read h

back_split : (body offsets : List ℕ) (groups n : ℕ) → n ≤ groups → (front : List RowRead) × (reads_back groups body offsets ≡ front ++ reads_back n body offsets)
unfolding reads_back
back_split body offsets zero n le = let none : 0 ≡ n = omega arith in ([], ap (λ (k : ℕ). reads_back k body offsets) none)
back_split body offsets (suc groups) n le =
    elim (cases_lt n (suc groups)) as (λ _. (front : List RowRead) × (reads_back (suc groups) body offsets ≡ front ++ reads_back n body offsets)) [
      | inl lt ↦
          let s = back_split body offsets groups n (omega arith) in
          let first = turned (all_ok (restart_at body offsets groups)) in
          (first ++ s.0, ap (λ (l : List RowRead). first ++ l) s.1 ∙ sym (append_assoc first s.0 (reads_back n body offsets)))
      | inr ge ↦
          let same : suc groups ≡ n = omega arith in
          ([], ap (λ (k : ℕ). reads_back k body offsets) same)
    ]

jump_back : (order : IterationOrder) (key : List ℕ) (body offsets : List ℕ) (groups n : ℕ) → n < groups → BeginsBefore order body offsets n key → IsOk (all_ok (restart_at body offsets n)) → IsPast order key (reads_back groups body offsets) (reads_back n body offsets)
unfolding reads_back
jump_back order key body offsets groups n lt b whole =
    let s = back_split body offsets groups (suc n) (omega arith) in
    let group = turned (all_ok (restart_at body offsets n)) in
    let ends = group_ends order key body offsets n b whole in
    record { front = s.0 ++ group; parts = s.1 ∙ sym (append_assoc s.0 group (reads_back n body offsets)); last = last_behind order key s.0 group ends.0 ends.1 }

groups_past : (order : IterationOrder) (key : List ℕ) (body offsets : List ℕ) (groups n : ℕ) → n ≤ groups → (n < groups → BeginsBefore order body offsets n key) → (n < groups → IsOk (all_ok (restart_at body offsets n))) → IsPast order key (reads_back groups body offsets) (reads_back n body offsets)
groups_past order key body offsets groups n le b whole =
    elim (cases_lt n groups) as (λ _. IsPast order key (reads_back groups body offsets) (reads_back n body offsets)) [
      | inl lt ↦ jump_back order key body offsets groups n lt (b lt) (whole lt)
      | inr ge ↦
          let same : n ≡ groups = omega arith in
          subst (λ (k : ℕ). IsPast order key (reads_back groups body offsets) (reads_back k body offsets)) (sym same) (past_none order key (reads_back groups body offsets))
    ]

pub held_past : (order : IterationOrder) (key : List ℕ) (body offsets : List ℕ) (groups kept : ℕ) (rows : List RowEntry) → kept ≡ 0 → IsPast order key (back_of rows) (back_of (take kept rows)) → IsPast order key (left_back body offsets groups rows) (reads_back groups body offsets)
unfolding left_back
held_past order key body offsets groups kept rows none p =
    past_ahead order key (back_of rows) [] (reads_back groups body offsets) (subst (λ (k : ℕ). IsPast order key (back_of rows) (back_of (take k rows))) none p)

pub past_back : (order : IterationOrder) (key : List ℕ) (body offsets : List ℕ) (groups n kept : ℕ) (rows : List RowEntry) (after : List RowRead) → kept ≡ 0 → IsPast order key (back_of rows) (back_of (take kept rows)) → n ≤ groups →
    (n < groups → BeginsBefore order body offsets n key) → (n < groups → IsOk (all_ok (restart_at body offsets n))) → IsPast order key (reads_back n body offsets) after → IsPast order key (left_back body offsets groups rows) after
past_back order key body offsets groups n kept rows after none held le b whole p =
    past_trans order key (left_back body offsets groups rows) (reads_back groups body offsets) after (held_past order key body offsets groups kept rows none held)
    (past_trans order key (reads_back groups body offsets) (reads_back n body offsets) after (groups_past order key body offsets groups n le b whole) p)

pub refused_back : (body offsets : List ℕ) (groups n : ℕ) (rows : List RowEntry) (e : SlateDBError) → n ≤ groups → Refuses (reads_back n body offsets) e → Refuses (left_back body offsets groups rows) e
unfolding left_back
refused_back body offsets groups n rows e le h =
    let s = back_split body offsets groups n le in
    part_fewer (back_of rows) (left_back body offsets groups rows) (reads_back groups body offsets) e refl (part_fewer s.0 (reads_back groups body offsets) (reads_back n body offsets) e s.1 h)

pub refused_or_behind : (body offsets : List ℕ) (groups n : ℕ) (rows : List RowEntry) (e m : SlateDBError) → n ≤ groups → (e ≡ m) ⊎ Refuses (reads_back n body offsets) e → (e ≡ m) ⊎ Refuses (left_back body offsets groups rows) e
refused_or_behind body offsets groups n rows e m le (inl h) = inl h
refused_or_behind body offsets groups n rows e m le (inr h) = inr (refused_back body offsets groups n rows e le h)

-- a group that is refused as a whole
group_refuses : (body offsets : List ℕ) (groups n : ℕ) (e : SlateDBError) → n < groups → all_ok (restart_at body offsets n) ≡ Err e → IsBlockDamage e → Refuses (reads_back groups body offsets) e
group_refuses body offsets groups n e lt r damage =
    let s = back_split body offsets groups (suc n) (omega arith) in
    part_fewer s.0 (reads_back groups body offsets) (reads_back (suc n) body offsets) e s.1 (damage, (0, back_refused body offsets (suc n) n e refl r))

pub refused_group : (body offsets : List ℕ) (groups n : ℕ) (e m : SlateDBError) → n < groups → (e ≡ m) ⊎ (all_ok (restart_at body offsets n) ≡ Err e) → (e ≡ m) ⊎ IsBlockDamage e → (e ≡ m) ⊎ Refuses (reads_back groups body offsets) e
refused_group body offsets groups n e m lt (inl h) d = inl h
refused_group body offsets groups n e m lt (inr h) (inl d) = inl d
refused_group body offsets groups n e m lt (inr h) (inr d) = inr (group_refuses body offsets groups n e lt h d)

pub refused_held : (body offsets : List ℕ) (groups : ℕ) (rows : List RowEntry) (e m : SlateDBError) → (e ≡ m) ⊎ Refuses (reads_back groups body offsets) e → (e ≡ m) ⊎ Refuses (left_back body offsets groups rows) e
refused_held body offsets groups rows e m h = refused_or_behind body offsets groups groups rows e m (omega arith) h

-- ---- whether a row is left

none_held : (rows : List RowEntry) → back_of rows ≡ [] → rows ≡ []
none_held [] e = refl
none_held (row ∷ rows) e = let long : length (back_of (row ∷ rows)) ≡ 0 = ap (λ (l : List RowRead). length l) e in absurd (omega (arith, mapped (reverse (row ∷ rows)), length-reverse (row ∷ rows), long))

none_to_come : (body offsets : List ℕ) (groups : ℕ) → reads_back groups body offsets ≡ [] → groups ≡ 0
unfolding reads_back
none_to_come body offsets zero e = refl
none_to_come body offsets (suc n) e =
    absurd (by (all_ok (restart_at body offsets n)) refl (none_of (turned (all_ok (restart_at body offsets n))) (reads_back n body offsets) e).0)
  where
    by : (left : Left) → all_ok (restart_at body offsets n) ≡ left → turned left ≡ [] → ⊥
    by (Ok rows) r h = read_some body offsets n rows r (none_held rows h)
    by (Err d) r h = cc

rows_back_none : (body offsets : List ℕ) (groups : ℕ) (rows : List RowEntry) → left_back body offsets groups rows ≡ [] → (groups ≡ 0) × (rows ≡ [])
unfolding left_back
rows_back_none body offsets groups rows e =
    let j = none_of (back_of rows) (reads_back groups body offsets) e in
    (none_to_come body offsets groups j.1, none_held rows j.0)

pub some_groups : (body offsets : List ℕ) (groups : ℕ) (rows : List RowEntry) → left_back body offsets groups rows ≡ [] → groups ≡ 0
some_groups body offsets groups rows e = (rows_back_none body offsets groups rows e).0

pub empty_tells : (body offsets : List ℕ) (groups n : ℕ) (rows : List RowEntry) (b : Bool) → groups ≡ 0 → n ≡ length rows → b ≡ nat_eq n 0 →
    (IsTrue b → left_back body offsets groups rows ≡ []) × (left_back body offsets groups rows ≡ [] → IsTrue b)
empty_tells body offsets groups n rows b none size e =
    let zero_is : nat_eq n 0 ≡ true → rows ≡ [] = λ h. nil_from_length rows (sym size ∙ eqb-true n 0 h) in
    let is_zero : rows ≡ [] → nat_eq n 0 ≡ true = λ h. eq-eqb n 0 (size ∙ ap length h) in
    (λ t. no_rows_back body offsets groups rows none (zero_is (sym e ∙ true_is b t)), λ h. is_true b (e ∙ is_zero (rows_back_none body offsets groups rows h).1))
  where
    true_is : (b : Bool) → IsTrue b → b ≡ true
    true_is true t = refl
    true_is false t = absurd cc

    is_true : (b : Bool) → b ≡ true → IsTrue b
    is_true true h = search rules
    is_true false h = absurd cc

-- ---- what is held

pub more_groups : (n : ℕ) → (n ≡ 0 → ⊥) → n ≡ n - 1 + 1
more_groups zero h = absurd (h refl)
more_groups (suc n) h = omega arith

pub rows_held : (n : ℕ) → nat_eq n 0 ≡ false → 0 < n
rows_held zero h = absurd cc
rows_held (suc n) h = omega arith
