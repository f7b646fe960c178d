-- What a step takes, and what a seek takes off.
use Rattle.std.proofs.Common.{◌≡◌, ℕ, zero, suc, ◌+◌, ◌<◌, ◌≤◌, Bool, true, false, List, [], ◌∷◌, ◌++◌, length, take, drop, map, Option, Some, None, Result, Ok, Err, refl, sym, ap, subst, ◌∙◌, arith, ◌⊎◌, inl, inr, append_assoc}
use Rattle.std.specs.Prelude.{slice_get, IsSome}
use Rattle.std.proofs.lemmas.List.{length-append, take-append-drop}
use Rattle.slate_types.specs.declared.error.SlateDBError.{SlateDBError}
use Rattle.slate_types.specs.declared.types.RowEntry.{RowEntry}
use Rattle.slate_types.specs.declared.iter.IterationOrder.{IterationOrder}
use Rattle.slate_types.specs.Iteration.{comes_before, drop_before, IsInOrder, NoneBefore, TakesRow}
use Rattle.slate_types.proofs.IterationLaws.{not_before, in_order_dropped}
use Rattle.slate_block.specs.Walks.{RowRead, all_ok, before as put}
use Rattle.slate_block.specs.BlockWalks.{rows_of, IsBlockDamage, IsRising, TakesRead, TakesLeft, IsReadBefore, LastBefore, IsPast, StopsAt, Refuses}
use Rattle.slate_block.proofs.WalkLaws.{ok_read, ok_rows, reads_of_ok, all_ok_map}

-- ---- the last of those that are taken off

pub last_joined : (order : IterationOrder) (key : List ℕ) (front more : List RowRead) (read : RowRead) → LastBefore order key (read ∷ more) → LastBefore order key (front ++ (read ∷ more))
last_joined order key [] more read h = h
last_joined order key (first ∷ []) more read h = h
last_joined order key (first ∷ next ∷ front) more read h = last_joined order key (next ∷ front) more read h

pub past_none : (order : IterationOrder) (key : List ℕ) (reads : List RowRead) → IsPast order key reads reads
past_none order key reads = record { front = []; parts = refl; last = tt }

pub past_trans : (order : IterationOrder) (key : List ℕ) (before now after : List RowRead) → IsPast order key before now → IsPast order key now after → IsPast order key before after
past_trans order key before now after p q = by q.front q.parts q.last
  where
    by : (more : List RowRead) → now ≡ more ++ after → LastBefore order key more → IsPast order key before after
    by [] e h = record { front = p.front; parts = p.parts ∙ ap (λ (l : List RowRead). p.front ++ l) e; last = p.last }
    by (read ∷ more) e h = record {
      front = p.front ++ (read ∷ more);
      parts = p.parts ∙ ap (λ (l : List RowRead). p.front ++ l) e ∙ sym (append_assoc p.front (read ∷ more) after);
      last = last_joined order key p.front more read h;
    }

pub past_step : (order : IterationOrder) (key : List ℕ) (row : RowEntry) (first now next : List RowRead) → now ≡ Ok row ∷ next → comes_before order row.key key ≡ true → IsPast order key first now → IsPast order key first next
past_step order key row first now next e b p = past_trans order key first now next p (record { front = Ok row ∷ []; parts = e; last = b })

pub past_ahead : (order : IterationOrder) (key : List ℕ) (before after more : List RowRead) → IsPast order key before after → IsPast order key (before ++ more) (after ++ more)
past_ahead order key before after more p = record { front = p.front; parts = ap (λ (l : List RowRead). l ++ more) p.parts ∙ append_assoc p.front after more; last = p.last }

-- ---- the same, counted

last_taken : (order : IterationOrder) (key : List ℕ) (reads : List RowRead) (n : ℕ) (row : RowEntry) → slice_get reads n ≡ Some (Ok row) → comes_before order row.key key ≡ true → LastBefore order key (take (suc n) reads)
last_taken order key [] n row e b = tt
last_taken order key (read ∷ reads) zero row e b = let same : read ≡ Ok row = cc in subst (IsReadBefore order key) (sym same) b
last_taken order key (read ∷ []) (suc n) row e b = absurd cc
last_taken order key (read ∷ next ∷ reads) (suc n) row e b = last_taken order key (next ∷ reads) n row e b

pub last_counted : (order : IterationOrder) (key : List ℕ) (reads : List RowRead) (n i : ℕ) (row : RowEntry) → i + 1 ≡ n → slice_get reads i ≡ Some (Ok row) → comes_before order row.key key ≡ true → LastBefore order key (take n reads)
last_counted order key reads n i row e at b =
    let size : suc i ≡ n = omega (arith, e) in
    subst (λ (k : ℕ). LastBefore order key (take k reads)) size (last_taken order key reads i row at b)

pub past_counted : (order : IterationOrder) (key : List ℕ) (reads after : List RowRead) (n : ℕ) → after ≡ drop n reads → LastBefore order key (take n reads) → IsPast order key reads after
past_counted order key reads after n e last = record { front = take n reads; parts = sym (take-append-drop n reads) ∙ ap (λ (l : List RowRead). take n reads ++ l) (sym e); last = last }

stops_dropped : (order : IterationOrder) (key : List ℕ) (reads : List RowRead) (n : ℕ) → ((row : RowEntry) → slice_get reads n ≡ Some (Ok row) → comes_before order row.key key ≡ false) → StopsAt order key (drop n reads)
stops_dropped order key [] zero f = tt
stops_dropped order key [] (suc n) f = tt
stops_dropped order key (Ok row ∷ reads) zero f = f row refl
stops_dropped order key (Err e ∷ reads) zero f = tt
stops_dropped order key (read ∷ reads) (suc n) f = stops_dropped order key reads n f

pub stops_counted : (order : IterationOrder) (key : List ℕ) (reads after : List RowRead) (n : ℕ) → after ≡ drop n reads → ((row : RowEntry) → slice_get reads n ≡ Some (Ok row) → comes_before order row.key key ≡ false) → StopsAt order key after
stops_counted order key reads after n e f = subst (StopsAt order key) (sym e) (stops_dropped order key reads n f)

-- ---- of rows in their order all of those come before the key

record Parts (rows : List RowEntry) (front behind : List RowRead) : Type 0 where
  pub first : List RowEntry
  pub rest : List RowEntry
  pub rows_are : rows ≡ first ++ rest
  pub front_is : front ≡ map ok_read first
  pub behind_is : behind ≡ map ok_read rest

part : (rows : List RowEntry) (front behind : List RowRead) → map ok_read rows ≡ front ++ behind → Parts rows front behind
part rows [] behind e = record { first = []; rest = rows; rows_are = refl; front_is = refl; behind_is = sym e }
part [] (read ∷ front) behind e = absurd cc
part (row ∷ rows) (read ∷ front) behind e =
    let head : read ≡ Ok row = cc in
    let tail : map ok_read rows ≡ front ++ behind = cc in
    let p = part rows front behind tail in
    record { first = row ∷ p.first; rest = p.rest; rows_are = ap (λ (l : List RowEntry). row ∷ l) p.rows_are; front_is = (λ i. head i ∷ p.front_is i); behind_is = p.behind_is }

-- a row comes before a key where a later one does
earlier : (order : IterationOrder) (key : List ℕ) (row next : RowEntry) (front behind : List RowEntry) → NoneBefore order row.key ((next ∷ front) ++ behind) → LastBefore order key (map ok_read (next ∷ front)) → comes_before order row.key key ≡ true
earlier order key row next [] behind none last = by (comes_before order row.key key) refl
  where
    by : (b : Bool) → comes_before order row.key key ≡ b → b ≡ true
    by true e = refl
    by false e = let no = not_before order key row.key next.key e none.0 in absurd cc
earlier order key row next (later ∷ front) behind none last = earlier order key row later front behind none.1 last

pub past_dropped : (order : IterationOrder) (key : List ℕ) (front behind : List RowEntry) → IsInOrder order (front ++ behind) → LastBefore order key (map ok_read front) → drop_before order key (front ++ behind) ≡ drop_before order key behind
past_dropped order key [] behind h last = refl
past_dropped order key (row ∷ []) behind h last = rw last refl
past_dropped order key (row ∷ next ∷ front) behind h last =
    let first : comes_before order row.key key ≡ true = earlier order key row next front behind h.0 last in
    let rest = past_dropped order key (next ∷ front) behind h.1 last in
    rw first rest

stays : (order : IterationOrder) (key : List ℕ) (rows : List RowEntry) → StopsAt order key (map ok_read rows) → drop_before order key rows ≡ rows
stays order key [] h = refl
stays order key (row ∷ rows) h = rw h refl

pub sought : (order : IterationOrder) (key : List ℕ) (before after : List RowRead) → IsPast order key before after → StopsAt order key after → IsRising order (all_ok before) → all_ok after ≡ Ok (drop_before order key (rows_of (all_ok before)))
sought order key before after p stop rising = by (all_ok before) refl rising
  where
    by : (r : Result (List RowEntry) SlateDBError) → all_ok before ≡ r → IsRising order r → all_ok after ≡ Ok (drop_before order key (rows_of r))
    by (Ok rows) is h =
        let s = part rows p.front after (sym (reads_of_ok before rows is) ∙ p.parts) in
        let last = subst (LastBefore order key) s.front_is p.last in
        let first = subst (StopsAt order key) s.behind_is stop in
        let sorted = subst (IsInOrder order) s.rows_are h in
        ap all_ok s.behind_is ∙ all_ok_map s.rest
        ∙ ap ok_rows (sym (ap (drop_before order key) s.rows_are ∙ past_dropped order key s.first s.rest sorted last ∙ stays order key s.rest first))
    by (Err e) is h = absurd h

-- ---- a step, and a seek, of what is left

pub step_rows : (order : IterationOrder) (before after : List RowRead) (answer : Option RowEntry) → TakesRead before answer after → IsRising order (all_ok before) → TakesRow (rows_of (all_ok before)) answer (rows_of (all_ok after))
step_rows order before after None t h = (ap (λ (l : List RowRead). rows_of (all_ok l)) t.0, ap (λ (l : List RowRead). rows_of (all_ok l)) t.1)
step_rows order before after (Some row) t h = ap (λ (l : List RowRead). rows_of (all_ok l)) t ∙ by (all_ok after) (subst (λ (l : List RowRead). IsRising order (all_ok l)) t h)
  where
    by : (r : Result (List RowEntry) SlateDBError) → IsRising order (put row r) → rows_of (put row r) ≡ row ∷ rows_of r
    by (Ok rows) g = refl
    by (Err e) g = absurd g

pub step_rising : (order : IterationOrder) (before after : List RowRead) (answer : Option RowEntry) → TakesRead before answer after → IsRising order (all_ok before) → IsRising order (all_ok after)
step_rising order before after None t h = subst (λ (l : List RowRead). IsRising order (all_ok l)) (t.0 ∙ sym t.1) h
step_rising order before after (Some row) t h = by (all_ok after) (subst (λ (l : List RowRead). IsRising order (all_ok l)) t h)
  where
    by : (r : Result (List RowEntry) SlateDBError) → IsRising order (put row r) → IsRising order r
    by (Ok rows) g = g.1
    by (Err e) g = absurd g

pub step_fewer : (before after : List RowRead) (answer : Option RowEntry) (e : SlateDBError) → TakesRead before answer after → Refuses after e → Refuses before e
step_fewer before after None e t h = subst (λ (l : List RowRead). Refuses l e) (t.1 ∙ sym t.0) h
step_fewer before after (Some row) e t h =
    let here : slice_get before (suc h.1.0) ≡ Some (Err e) = ap (λ (l : List RowRead). slice_get l (suc h.1.0)) t ∙ h.1.1 in
    (h.0, (suc h.1.0, here))

pub step_smaller : (before after : List RowRead) (answer : Option RowEntry) → TakesRead before answer after → IsSome answer → length after < length before
step_smaller before after None t some = absurd cc
step_smaller before after (Some row) t some = let n = ap (λ (l : List RowRead). length l) t in omega (arith, n)

pub step_no_larger : (before after : List RowRead) (answer : Option RowEntry) → TakesRead before answer after → length after ≤ length before
step_no_larger before after None t = let n = ap (λ (l : List RowRead). length l) t.1 in omega (arith, n)
step_no_larger before after (Some row) t = let n = ap (λ (l : List RowRead). length l) t in omega (arith, n)

pub step_left : (before after : List RowRead) (answer : Option RowEntry) → TakesRead before answer after → TakesLeft (all_ok before) answer (all_ok after)
step_left before after None t = (ap all_ok t.0, ap all_ok t.1)
step_left before after (Some row) t = ap all_ok t

pub sought_rising : (order : IterationOrder) (key : List ℕ) (before after : Result (List RowEntry) SlateDBError) → after ≡ Ok (drop_before order key (rows_of before)) → IsRising order before → IsRising order after
sought_rising order key (Ok rows) after e h = subst (λ (r : Result (List RowEntry) SlateDBError). IsRising order r) (sym e) (in_order_dropped order key rows h)
sought_rising order key (Err d) after e h = absurd h

refused_behind : (front reads : List RowRead) (e : SlateDBError) → Refuses reads e → Refuses (front ++ reads) e
refused_behind [] reads e h = h
refused_behind (read ∷ front) reads e h = let rest = refused_behind front reads e h in (rest.0, (suc rest.1.0, rest.1.1))

pub part_fewer : (front before after : List RowRead) (e : SlateDBError) → before ≡ front ++ after → Refuses after e → Refuses before e
part_fewer front before after e p h = subst (λ (l : List RowRead). Refuses l e) (sym p) (refused_behind front after e h)

pub past_fewer : (order : IterationOrder) (key : List ℕ) (before after : List RowRead) (e : SlateDBError) → IsPast order key before after → Refuses after e → Refuses before e
past_fewer order key before after e p h = part_fewer p.front before after e p.parts h

pub past_no_larger : (order : IterationOrder) (key : List ℕ) (before after : List RowRead) → IsPast order key before after → length after ≤ length before
past_no_larger order key before after p = let n : length before ≡ length (p.front ++ after) = ap (λ (l : List RowRead). length l) p.parts in omega (arith, n, length-append p.front after)

-- ---- refusals

pub first_refuses : (reads : List RowRead) (e m : SlateDBError) → (e ≡ m) ⊎ (slice_get reads 0 ≡ Some (Err e)) → (e ≡ m) ⊎ IsBlockDamage e → (e ≡ m) ⊎ Refuses reads e
first_refuses reads e m (inl h) d = inl h
first_refuses reads e m (inr h) (inl d) = inl d
first_refuses reads e m (inr h) (inr d) = inr (d, (0, h))

pub past_refused : (order : IterationOrder) (key : List ℕ) (before now : List RowRead) (e m : SlateDBError) → IsPast order key before now → (e ≡ m) ⊎ (slice_get now 0 ≡ Some (Err e)) → (e ≡ m) ⊎ IsBlockDamage e → (e ≡ m) ⊎ Refuses before e
past_refused order key before now e m p h d = by (first_refuses now e m h d)
  where
    by : (e ≡ m) ⊎ Refuses now e → (e ≡ m) ⊎ Refuses before e
    by (inl same) = inl same
    by (inr r) = inr (past_fewer order key before now e p r)

-- ---- a step

pub some_left : {A : Type 0} (xs : List A) → (xs ≡ [] → ⊥) → 0 < length xs
some_left [] h = absurd (h refl)
some_left (x ∷ xs) h = omega arith

pub first_taken : (reads after : List RowRead) (row : RowEntry) → slice_get reads 0 ≡ Some (Ok row) → after ≡ drop 1 reads → reads ≡ Ok row ∷ after
first_taken [] after row e d = absurd cc
first_taken (read ∷ reads) after row e d = let same : read ≡ Ok row = cc in λ i. same i ∷ sym d i
