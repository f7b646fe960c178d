-- Steps of a walk over rows of version 2.
use Rattle.std.proofs.Common.{◌≡◌, ℕ, zero, suc, ◌+◌, ◌<◌, ◌≤◌, Bool, true, false, ◌&&◌, ◌||◌, cond, nat_eq, List, [], ◌∷◌, ◌++◌, length, get_or, drop, Some, Result, Ok, Err, refl, sym, ap, ◌∙◌, arith, ◌⊎◌, inl, inr}
use Rattle.std.specs.Prelude.{slice_get, IfOk, IfErr}
use Rattle.std.proofs.Math.Dec.{eqb-suc-zero, eqb-zero-suc, eqb-suc-suc}
use Rattle.std.proofs.lemmas.List.{at_drop_more, drop_all}
use Rattle.std.proofs.lemmas.Bool.{cases_lt}
use Rattle.slate_types.specs.declared.error.SlateDBError.{SlateDBError}
use Rattle.slate_types.specs.declared.error.SlateDBError.TheVariants.{CorruptTable, InvalidRowFlags}
use Rattle.slate_types.specs.declared.types.RowEntry.{RowEntry}
use Rattle.slate_block.specs.declared.row_groups.RowGroup.{RowGroup}
use Rattle.slate_block.specs.declared.walk_v2.BlockPlace.{BlockPlace}
use Rattle.slate_block.specs.Damage.{◌>>=◌, IsDamageIn}
use Rattle.slate_block.specs.Walks.{RowRead, all_ok, moved, row_v2_in, read_then, group_reads, restart_reads, is_none_left, reads_v2, are_named, block_reads, block_rows}
use Rattle.slate_block.specs.BlockWalks.{IsBlockDamage}
use Rattle.slate_block.specs.GroupWalks.{group_end, restart_at, group_left, is_over, left_v2}
use Rattle.slate_block.proofs.GroupRows.{rows_v2, rows_are}

-- ---- damage

pub damage_moved : (n at : ℕ) (e : SlateDBError) → IsDamageIn n e → IsBlockDamage (moved at e)
damage_moved n at (CorruptTable place) h = tt
damage_moved n at (InvalidRowFlags b) h = tt
damage_moved n at _ h = h

-- ---- groups

abbrev none : List RowRead
none = []

abbrev refused : ℕ → List RowRead
refused at = Err (CorruptTable at) ∷ []

pub group_over : (body previous : List ℕ) (n at end : ℕ) (last : Bool) → (nat_eq at end && (nat_eq n 0 || last)) ≡ true → group_reads n body previous at end last ≡ []
unfolding group_reads
group_over body previous zero at end last h = by (nat_eq at end) h
  where
    by : (b : Bool) → (b && true) ≡ true → cond b none (refused at) ≡ none
    by true g = refl
    by false g = absurd cc
group_over body previous (suc n) at end last h = by (nat_eq at end) last (rw eqb-suc-zero at h)
  where
    by : (b l : Bool) → (b && l) ≡ true → cond (l && b) none (read_then (row_v2_in body previous at end) (λ found. group_reads n body found.0.key found.1 end last)) ≡ none
    by true true g = refl
    by true false g = absurd cc
    by false l g = absurd cc

pub group_full : (body previous : List ℕ) (at end : ℕ) (last : Bool) → (nat_eq at end && true) ≡ false → group_reads zero body previous at end last ≡ Err (CorruptTable at) ∷ []
unfolding group_reads
group_full body previous at end last h = by (nat_eq at end) h
  where
    by : (b : Bool) → (b && true) ≡ false → cond b none (refused at) ≡ refused at
    by true g = absurd cc
    by false g = refl

pub group_goes_on : (body previous : List ℕ) (n at end : ℕ) (last : Bool) → (nat_eq at end && last) ≡ false →
    group_reads (suc n) body previous at end last ≡ read_then (row_v2_in body previous at end) (λ found. group_reads n body found.0.key found.1 end last)
unfolding group_reads
group_goes_on body previous n at end last h = by (nat_eq at end) last h (read_then (row_v2_in body previous at end) (λ found. group_reads n body found.0.key found.1 end last))
  where
    by : (b l : Bool) → (b && l) ≡ false → (rest : List RowRead) → cond (l && b) none rest ≡ rest
    by true true g rest = absurd cc
    by true false g rest = refl
    by false true g rest = refl
    by false false g rest = refl

pub over_left : (body : List ℕ) (group : RowGroup) → is_over group ≡ true → group_left body group ≡ []
unfolding group_left
over_left body group h = group_over body group.previous group.room group.at group.end group.is_last h

pub full_left : (body : List ℕ) (group : RowGroup) → is_over group ≡ false → group.room ≡ 0 → group_left body group ≡ Err (CorruptTable group.at) ∷ []
unfolding group_left
full_left body group h e =
    let over : (nat_eq group.at group.end && (nat_eq 0 0 || group.is_last)) ≡ false = ap (λ (n : ℕ). nat_eq group.at group.end && (nat_eq n 0 || group.is_last)) (sym e) ∙ h in
    ap (λ (n : ℕ). group_reads n body group.previous group.at group.end group.is_last) e ∙ group_full body group.previous group.at group.end group.is_last over

next_left : (body : List ℕ) (group : RowGroup) (n : ℕ) → is_over group ≡ false → group.room ≡ suc n →
    group_left body group ≡ read_then (row_v2_in body group.previous group.at group.end) (λ found. group_reads n body found.0.key found.1 group.end group.is_last)
unfolding group_left
next_left body group n h e =
    let full : (nat_eq group.at group.end && (nat_eq (suc n) 0 || group.is_last)) ≡ false = ap (λ (k : ℕ). nat_eq group.at group.end && (nat_eq k 0 || group.is_last)) (sym e) ∙ h in
    let on : (nat_eq group.at group.end && group.is_last) ≡ false = rw eqb-suc-zero at full in
    ap (λ (k : ℕ). group_reads k body group.previous group.at group.end group.is_last) e ∙ group_goes_on body group.previous n group.at group.end group.is_last on

some_room : (n : ℕ) → 0 < n → (m : ℕ) × (n ≡ suc m)
some_room zero h = absurd (omega arith)
some_room (suc m) h = (m, refl)

pub refused_left : (body : List ℕ) (group : RowGroup) (e : SlateDBError) → is_over group ≡ false → 0 < group.room → row_v2_in body group.previous group.at group.end ≡ Err e → group_left body group ≡ Err e ∷ []
refused_left body group e h some r =
    let m = some_room group.room some in
    next_left body group m.0 h m.1 ∙ ap (λ (x : Result (RowEntry × ℕ) SlateDBError). read_then x (λ found. group_reads m.0 body found.0.key found.1 group.end group.is_last)) r

pub taken_left : (body : List ℕ) (group rest : RowGroup) (row : RowEntry) → is_over group ≡ false → group.room ≡ rest.room + 1 → row_v2_in body group.previous group.at group.end ≡ Ok (row, rest.at) →
    rest.end ≡ group.end → rest.is_last ≡ group.is_last → rest.previous ≡ row.key → group_left body group ≡ Ok row ∷ group_left body rest
unfolding group_left
taken_left body group rest row h size r end last previous =
    let e : group.room ≡ suc rest.room = omega (arith, size) in
    next_left body group rest.room h e ∙ ap (λ (x : Result (RowEntry × ℕ) SlateDBError). read_then x (λ found. group_reads rest.room body found.0.key found.1 group.end group.is_last)) r
    ∙ (λ i. Ok row ∷ group_reads rest.room body (sym previous i) rest.at (sym end i) (sym last i))

pub refused_or : (body : List ℕ) (group : RowGroup) (e d : SlateDBError) → is_over group ≡ false → 0 < group.room → (e ≡ d) ⊎ (row_v2_in body group.previous group.at group.end ≡ Err e) → (e ≡ d) ⊎ (group_left body group ≡ Err e ∷ [])
refused_or body group e d h some (inl same) = inl same
refused_or body group e d h some (inr r) = inr (refused_left body group e h some r)

-- what is known of a row that is taken off a group
abbrev pub Taken : List ℕ → RowGroup → RowEntry × RowGroup → Type 0
Taken body group found = row_v2_in body group.previous group.at group.end ≡ Ok (found.0, found.1.at)

abbrev pub Rest : RowGroup → RowEntry × RowGroup → Type 0
Rest group found = (found.1.end ≡ group.end) × (group.room ≡ found.1.room + 1) × (found.1.is_last ≡ group.is_last) × (found.1.previous ≡ found.0.key)

pub taken : (body : List ℕ) (group : RowGroup) (result : Result (RowEntry × RowGroup) SlateDBError) → is_over group ≡ false → IfOk result (Taken body group) → IfOk result (Rest group) → IfOk result (λ found. group_left body group ≡ Ok found.0 ∷ group_left body found.1)
taken body group (Ok found) h t r = taken_left body group found.1 found.0 h r.1 t r.0 r.2 r.3
taken body group (Err e) h t r = t

pub taken_none : (body : List ℕ) (group : RowGroup) (result : Result (RowEntry × RowGroup) SlateDBError) (d : SlateDBError) → is_over group ≡ false → 0 < group.room →
    IfErr result (λ e. (e ≡ d) ⊎ (row_v2_in body group.previous group.at group.end ≡ Err e)) → IfErr result (λ e. (e ≡ d) ⊎ (group_left body group ≡ Err e ∷ []))
taken_none body group (Ok found) d h some r = r
taken_none body group (Err e) d h some r = refused_or body group e d h some r

-- ---- restarts

pub none_left : (n : ℕ) (offsets : List ℕ) → n ≤ length offsets → nat_eq n (length offsets) ≡ is_none_left (drop n offsets)
none_left zero [] h = refl
none_left zero (at ∷ ats) h = eqb-zero-suc (length ats)
none_left (suc n) [] h = absurd (omega arith)
none_left (suc n) (at ∷ ats) h = eqb-suc-suc n (length ats) ∙ none_left n ats (omega arith)

pub restart_taken : (body offsets : List ℕ) (n : ℕ) (row : RowEntry) (group : RowGroup) → n < length offsets → row_v2_in body [] (get_or offsets n 0) (group_end body offsets n) ≡ Ok (row, group.at) →
    group.end ≡ group_end body offsets n → group.room ≡ 15 → group.is_last ≡ nat_eq (n + 1) (length offsets) → group.previous ≡ row.key → restart_at body offsets n ≡ Ok row ∷ group_left body group
unfolding restart_at restart_reads group_left
restart_taken body offsets n row group h r end room last previous =
    let is_last : group.is_last ≡ is_none_left (drop (n + 1) offsets) = last ∙ none_left (n + 1) offsets (omega arith) in
    ap (λ (x : Result (RowEntry × ℕ) SlateDBError). read_then x (λ found. group_reads 15 body found.0.key found.1 (group_end body offsets n) (is_none_left (drop (n + 1) offsets)))) r
    ∙ (λ i. Ok row ∷ group_reads (sym room i) body (sym previous i) group.at (sym end i) (sym is_last i))

-- the group that begins at a restart, before its first row
pub first_taken : (body offsets : List ℕ) (n : ℕ) (group : RowGroup) (result : Result (RowEntry × RowGroup) SlateDBError) → n < length offsets →
    group.at ≡ get_or offsets n 0 → group.end ≡ group_end body offsets n → group.room ≡ 16 → group.is_last ≡ nat_eq (n + 1) (length offsets) → group.previous ≡ [] →
    IfOk result (Taken body group) → IfOk result (Rest group) → IfOk result (λ found. restart_at body offsets n ≡ Ok found.0 ∷ group_left body found.1)
first_taken body offsets n group (Ok found) h at end room last none t r =
    let read : row_v2_in body [] (get_or offsets n 0) (group_end body offsets n) ≡ Ok (found.0, found.1.at) = rw (sym none, sym at, sym end) t in
    restart_taken body offsets n found.0 found.1 h read (r.0 ∙ end) (omega (arith, room, r.1)) (r.2 ∙ last) r.3
first_taken body offsets n group (Err e) h at end room last none t r = t

pub first_refused : (body offsets : List ℕ) (n at end : ℕ) (previous : List ℕ) (result : Result (RowEntry × RowGroup) SlateDBError) (d : SlateDBError) →
    at ≡ get_or offsets n 0 → end ≡ group_end body offsets n → previous ≡ [] →
    IfErr result (λ e. (e ≡ d) ⊎ (row_v2_in body previous at end ≡ Err e)) → IfErr result (λ e. (e ≡ d) ⊎ (restart_at body offsets n ≡ Err e ∷ []))
unfolding restart_at restart_reads
first_refused body offsets n at end previous (Ok found) d from upto none r = r
first_refused body offsets n at end previous (Err e) d from upto none (inl same) = inl same
first_refused body offsets n at end previous (Err e) d from upto none (inr r) =
    let read : row_v2_in body [] (get_or offsets n 0) (group_end body offsets n) ≡ Err e = rw (sym none, sym from, sym upto) r in
    inr (ap (λ (x : Result (RowEntry × ℕ) SlateDBError). read_then x (λ found. group_reads 15 body found.0.key found.1 (group_end body offsets n) (is_none_left (drop (n + 1) offsets)))) read)

read_some : (read : Result (RowEntry × ℕ) SlateDBError) (behind : RowEntry × ℕ → List RowRead) → (first : RowRead) × (reads : List RowRead) × (read_then read behind ≡ first ∷ reads)
read_some (Ok found) behind = (Ok found.0, behind found, refl)
read_some (Err e) behind = (Err e, [], refl)

-- a group has a row
pub restart_some : (body offsets : List ℕ) (n : ℕ) → (first : RowRead) × (reads : List RowRead) × (restart_at body offsets n ≡ first ∷ reads)
unfolding restart_at restart_reads
restart_some body offsets n =
    let end = group_end body offsets n in
    let last = is_none_left (drop (n + 1) offsets) in
    read_some (row_v2_in body [] (get_or offsets n 0) end) (λ found. group_reads 15 body found.0.key found.1 end last)

-- ---- blocks

pub left_at_restart : (body offsets : List ℕ) (place : BlockPlace) → group_left body place.group ≡ [] → left_v2 body offsets place ≡ reads_v2 body (drop place.next offsets) (length body)
unfolding left_v2
left_at_restart body offsets place h = ap (λ (g : List RowRead). g ++ reads_v2 body (drop place.next offsets) (length body)) h

pub reads_from : (body offsets : List ℕ) (n : ℕ) → n < length offsets → reads_v2 body (drop n offsets) (length body) ≡ restart_at body offsets n ++ reads_v2 body (drop (n + 1) offsets) (length body)
unfolding reads_v2 restart_at
reads_from body offsets n h = at_drop_more (λ (ats : List ℕ). reads_v2 body ats (length body)) offsets n 0 h

pub left_behind_block : (body offsets : List ℕ) (place : BlockPlace) → group_left body place.group ≡ [] → length offsets ≤ place.next → left_v2 body offsets place ≡ []
unfolding reads_v2
left_behind_block body offsets place h past = left_at_restart body offsets place h ∙ ap (λ (ats : List ℕ). reads_v2 body ats (length body)) (drop_all place.next offsets past)

pub left_in_group : (body offsets : List ℕ) (row : RowEntry) (place after : BlockPlace) → group_left body place.group ≡ Ok row ∷ group_left body after.group → after.next ≡ place.next →
    left_v2 body offsets place ≡ Ok row ∷ left_v2 body offsets after
unfolding left_v2
left_in_group body offsets row place after h e =
    ap (λ (g : List RowRead). g ++ reads_v2 body (drop place.next offsets) (length body)) h
    ∙ ap (λ (k : ℕ). Ok row ∷ (group_left body after.group ++ reads_v2 body (drop k offsets) (length body))) (sym e)

pub refused_in_group : (body offsets : List ℕ) (place : BlockPlace) (e : SlateDBError) → group_left body place.group ≡ Err e ∷ [] → slice_get (left_v2 body offsets place) 0 ≡ Some (Err e)
unfolding left_v2
refused_in_group body offsets place e h = ap (λ (g : List RowRead). slice_get (g ++ reads_v2 body (drop place.next offsets) (length body)) 0) h

pub left_behind_group : (body offsets : List ℕ) (row : RowEntry) (place after : BlockPlace) → group_left body place.group ≡ [] → place.next < length offsets →
    restart_at body offsets place.next ≡ Ok row ∷ group_left body after.group → after.next ≡ place.next + 1 → left_v2 body offsets place ≡ Ok row ∷ left_v2 body offsets after
unfolding left_v2
left_behind_group body offsets row place after h in_block r e =
    left_at_restart body offsets place h ∙ reads_from body offsets place.next in_block
    ∙ ap (λ (g : List RowRead). g ++ reads_v2 body (drop (place.next + 1) offsets) (length body)) r
    ∙ ap (λ (k : ℕ). Ok row ∷ (group_left body after.group ++ reads_v2 body (drop k offsets) (length body))) (sym e)

pub refused_behind_group : (body offsets : List ℕ) (place : BlockPlace) (e : SlateDBError) → group_left body place.group ≡ [] → place.next < length offsets → restart_at body offsets place.next ≡ Err e ∷ [] →
    slice_get (left_v2 body offsets place) 0 ≡ Some (Err e)
refused_behind_group body offsets place e h in_block r =
    ap (λ (l : List RowRead). slice_get l 0) (left_at_restart body offsets place h ∙ reads_from body offsets place.next in_block
    ∙ ap (λ (g : List RowRead). g ++ reads_v2 body (drop (place.next + 1) offsets) (length body)) r)

-- ---- whole blocks

pub named_reads : (body offsets : List ℕ) → are_named offsets ≡ true → block_reads 2 body offsets ≡ Ok (reads_v2 body offsets (length body))
unfolding block_reads
named_reads body offsets h = ap (λ (b : Bool). cond b (Ok (reads_v2 body offsets (length body))) (Err (CorruptTable 0))) h

pub unnamed_reads : (body offsets : List ℕ) → are_named offsets ≡ false → block_reads 2 body offsets ≡ Err (CorruptTable 0)
unfolding block_reads
unnamed_reads body offsets h = ap (λ (b : Bool). cond b (Ok (reads_v2 body offsets (length body))) (Err (CorruptTable 0))) h

-- what is read are the rows, and the other way round
pub reads_are_rows : (version : ℕ) (body offsets : List ℕ) (reads : List RowRead) (rows : List RowEntry) → block_reads version body offsets ≡ Ok reads → block_rows version body offsets ≡ Ok rows → all_ok reads ≡ Ok rows
unfolding block_rows
reads_are_rows version body offsets reads rows r e = sym (ap (λ (x : Result (List RowRead) SlateDBError). x >>= all_ok) r) ∙ e

pub rows_are_reads : (version : ℕ) (body offsets : List ℕ) (reads : List RowRead) (rows : List RowEntry) → block_reads version body offsets ≡ Ok reads → all_ok reads ≡ Ok rows → block_rows version body offsets ≡ Ok rows
unfolding block_rows
rows_are_reads version body offsets reads rows r e = ap (λ (x : Result (List RowRead) SlateDBError). x >>= all_ok) r ∙ e

pub named_rows : (body offsets : List ℕ) → are_named offsets ≡ true → block_rows 2 body offsets ≡ rows_v2 body offsets (length body)
unfolding block_rows
named_rows body offsets h = ap (λ (x : Result (List RowRead) SlateDBError). x >>= all_ok) (named_reads body offsets h) ∙ rows_are body offsets (length body)

-- ---- whether a row is left

pub none_of : {A : Type 0} (xs ys : List A) → xs ++ ys ≡ [] → (xs ≡ []) × (ys ≡ [])
none_of [] ys e = (refl, e)
none_of (x ∷ xs) ys e = absurd cc

group_some : (body : List ℕ) (group : RowGroup) → is_over group ≡ false → group_left body group ≡ [] → ⊥
group_some body group h e = by group.room refl
  where
    by : (n : ℕ) → group.room ≡ n → ⊥
    by zero size = let full = full_left body group h size in cc
    by (suc n) size =
        let some = read_some (row_v2_in body group.previous group.at group.end) (λ found. group_reads n body found.0.key found.1 group.end group.is_last) in
        let never : some.0 ∷ some.1 ≡ [] = sym some.2 ∙ sym (next_left body group n h size) ∙ e in
        cc

pub left_none : (body offsets : List ℕ) (place : BlockPlace) → left_v2 body offsets place ≡ [] → (is_over place.group ≡ true) × (length offsets ≤ place.next)
unfolding left_v2
left_none body offsets place e =
    let j = none_of (group_left body place.group) (reads_v2 body (drop place.next offsets) (length body)) e in
    (over (is_over place.group) refl j.0, past (cases_lt place.next (length offsets)) j.1)
  where
    over : (b : Bool) → is_over place.group ≡ b → group_left body place.group ≡ [] → is_over place.group ≡ true
    over true h g = h
    over false h g = absurd (group_some body place.group h g)

    past : (place.next < length offsets) ⊎ (length offsets ≤ place.next) → reads_v2 body (drop place.next offsets) (length body) ≡ [] → length offsets ≤ place.next
    past (inl lt) g =
        let none = none_of (restart_at body offsets place.next) (reads_v2 body (drop (place.next + 1) offsets) (length body)) (sym (reads_from body offsets place.next lt) ∙ g) in
        let some = restart_some body offsets place.next in
        let never : some.0 ∷ some.1 ≡ [] = sym some.2 ∙ none.0 in
        absurd cc
    past (inr le) g = le

pub held_refused : (body offsets : List ℕ) (place : BlockPlace) (e m : SlateDBError) → (e ≡ m) ⊎ (group_left body place.group ≡ Err e ∷ []) → (e ≡ m) ⊎ (slice_get (left_v2 body offsets place) 0 ≡ Some (Err e))
held_refused body offsets place e m (inl h) = inl h
held_refused body offsets place e m (inr h) = inr (refused_in_group body offsets place e h)

pub behind_refused : (body offsets : List ℕ) (place : BlockPlace) (e m : SlateDBError) → is_over place.group ≡ true → place.next < length offsets → (e ≡ m) ⊎ (restart_at body offsets place.next ≡ Err e ∷ []) →
    (e ≡ m) ⊎ (slice_get (left_v2 body offsets place) 0 ≡ Some (Err e))
behind_refused body offsets place e m over in_block (inl h) = inl h
behind_refused body offsets place e m over in_block (inr h) = inr (refused_behind_group body offsets place e (over_left body place.group over) in_block h)
