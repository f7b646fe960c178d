-- Steps of a walk over the keys of a block of version 2.
use Rattle.std.proofs.Common.{◌≡◌, ℕ, ◌+◌, ◌-◌, ◌<◌, ◌≤◌, Bool, true, false, ◌&&◌, cond, nat_eq, List, [], ◌∷◌, ◌++◌, length, drop, get_or, Option, Some, None, Result, Ok, Err, refl, sym, ap, ◌∙◌, subst, leb, arith, ◌⊎◌, inl, inr}
use Rattle.std.specs.Prelude.{slice_get, slice_range, IfOk, IfErr}
use Rattle.std.proofs.lemmas.Bool.{leb-true, le-leb}
use Rattle.slate_types.specs.declared.error.SlateDBError.{SlateDBError}
use Rattle.slate_types.specs.declared.error.SlateDBError.TheVariants.{CorruptTable, OutOfMemory}
use Rattle.slate_types.specs.declared.types.RowEntry.{RowEntry}
use Rattle.slate_types.specs.declared.iter.IterationOrder.TheVariants.{Ascending}
use Rattle.slate_types.specs.Iteration.{comes_before}
use Rattle.slate_block.specs.declared.fields.RowFields.{RowFields}
use Rattle.slate_block.specs.declared.row_groups.RowGroup.{RowGroup}
use Rattle.slate_block.specs.declared.rows_part.Version.TheVariants.{V2}
use Rattle.slate_block.specs.declared.walk_v2.BlockPlace.{BlockPlace}
use Rattle.slate_block.specs.Damage.{layout_v2}
use Rattle.slate_block.specs.PlacedRows.{fields_of, suffix_of, whole_of}
use Rattle.slate_block.specs.Walks.{RowRead, between, is_restored, moved, reads_v2, row_v2_in}
use Rattle.slate_block.specs.BlockWalks.{IsPast}
use Rattle.slate_block.specs.GroupWalks.{group_end, restart_at, group_left, is_over, left_v2, PassesFirst, PassesRow}
use Rattle.slate_block.proofs.PlacedLaws.{row_placed, no_row_placed, placed_found, placed_cause, placed_refused}
use Rattle.slate_block.proofs.SeekSteps.{next_past}
use Rattle.slate_block.proofs.GroupSteps.{taken_left, restart_taken, left_behind_group, left_in_group, left_at_restart, over_left, held_refused}

-- ---- the fields of a row between two places

both : (x y : Bool) → x ≡ true → y ≡ true → (x && y) ≡ true
both x y p q = λ i. p i && q i

here : (body : List ℕ) (from upto : ℕ) → from ≤ upto → upto ≤ length body → between body from upto ≡ Ok (slice_range body from upto)
unfolding between
here body from upto a b = ap (λ (c : Bool). cond {A = Result (List ℕ) SlateDBError} c (Ok (slice_range body from upto)) (Err (CorruptTable from))) (both (leb from upto) (leb upto (length body)) (le-leb _ _ a) (le-leb _ _ b))

not_here : (body : List ℕ) (from upto : ℕ) → (from ≤ upto → upto ≤ length body → ⊥) → between body from upto ≡ Err (CorruptTable from)
unfolding between
not_here body from upto h = by (leb from upto) (leb upto (length body)) refl refl
  where
    by : (x y : Bool) → leb from upto ≡ x → leb upto (length body) ≡ y → cond {A = Result (List ℕ) SlateDBError} (x && y) (Ok (slice_range body from upto)) (Err (CorruptTable from)) ≡ Err (CorruptTable from)
    by true true p q = absurd (h (leb-true _ _ p) (leb-true _ _ q))
    by true false p q = refl
    by false true p q = refl
    by false false p q = refl

same_layout : (bytes : List ℕ) → fields_of V2 bytes ≡ layout_v2 bytes
unfolding fields_of
same_layout bytes = refl

-- a row is read where its key is one
pub fields_placed : (body other : List ℕ) (from upto : ℕ) (row : ℕ × RowFields) → from ≤ upto → upto ≤ length body →
    layout_v2 (slice_range body from upto) ≡ Ok row →
    is_restored row.0 other (suffix_of (slice_range body from upto) row.1) ≡ true → row_v2_in body other from upto ≡ Ok (whole_of (slice_range body from upto) other row.0 row.1, from + row.1.end)
fields_placed body other from upto row a b read h =
    let bytes = slice_range body from upto in
    row_placed V2 body other from upto bytes (here body from upto a b)
    ∙ placed_found V2 other from bytes row (Ok (whole_of bytes other row.0 row.1, from + row.1.end)) (same_layout bytes ∙ read) (h, refl, refl)

pub fields_refused : (body other : List ℕ) (from upto : ℕ) (e : SlateDBError) → from ≤ upto → upto ≤ length body →
    layout_v2 (slice_range body from upto) ≡ Err e → row_v2_in body other from upto ≡ Err (moved from e)
fields_refused body other from upto e a b read =
    let bytes = slice_range body from upto in
    row_placed V2 body other from upto bytes (here body from upto a b) ∙ placed_refused V2 other from bytes e (same_layout bytes ∙ read)

with_memory : {P : Type 0} (from : ℕ) → (CorruptTable from ≡ OutOfMemory) ⊎ P → P
with_memory from (inl out) = absurd cc
with_memory from (inr p) = p

pub key_refused : (body other : List ℕ) (from upto : ℕ) (row : ℕ × RowFields) → from ≤ upto → upto ≤ length body →
    layout_v2 (slice_range body from upto) ≡ Ok row →
    is_restored row.0 other (suffix_of (slice_range body from upto) row.1) ≡ false → row_v2_in body other from upto ≡ Err (CorruptTable from)
key_refused body other from upto row a b read h =
    let bytes = slice_range body from upto in
    row_placed V2 body other from upto bytes (here body from upto a b)
    ∙ with_memory from (placed_cause V2 other from bytes row (Err (CorruptTable from)) OutOfMemory (same_layout bytes ∙ read) (inr (h, refl)))

pub bytes_refused : (body other : List ℕ) (from upto : ℕ) → (from ≤ upto → upto ≤ length body → ⊥) → row_v2_in body other from upto ≡ Err (CorruptTable from)
bytes_refused body other from upto h = no_row_placed V2 body other from upto (CorruptTable from) (not_here body from upto h)

-- ---- a row that is passed, or not

pub row_goes : (body other : List ℕ) (from upto : ℕ) (key after : List ℕ) (row : RowEntry) (end : ℕ) → row_v2_in body other from upto ≡ Ok (row, end) →
    after ≡ row.key → comes_before Ascending row.key key ≡ true → PassesRow body other from upto key after (Some end)
row_goes body other from upto key after row end read same before = (row, read, same, before)

pub row_stays : (body other : List ℕ) (from upto : ℕ) (key : List ℕ) (row : RowEntry) (end : ℕ) → row_v2_in body other from upto ≡ Ok (row, end) →
    comes_before Ascending row.key key ≡ false → PassesRow body other from upto key other None
row_stays body other from upto key row end read behind = (row, end, read, refl, behind)

-- ---- in a group

pub group_goes : (body key : List ℕ) (group rest : RowGroup) → is_over group ≡ false → group.room ≡ rest.room + 1 → rest.end ≡ group.end →
    rest.is_last ≡ group.is_last →
    PassesRow body group.previous group.at group.end key rest.previous (Some rest.at) → PassesFirst key (group_left body group) (group_left body rest) true
group_goes body key group rest h room end last g = (g.0, taken_left body group rest g.0 h room g.1 end last g.2, g.3)

pub group_stays : (body key : List ℕ) (group rest : RowGroup) → is_over group ≡ false → 0 < group.room → rest.at ≡ group.at → rest.end ≡ group.end →
    rest.room ≡ group.room → rest.is_last ≡ group.is_last →
    PassesRow body group.previous group.at group.end key rest.previous None → PassesFirst key (group_left body group) (group_left body rest) false
group_stays body key group rest h some at end room last g =
    let behind : RowGroup = record { at = g.1; end = group.end; room = group.room - 1; is_last = group.is_last; previous = g.0.key } in
    let same : rest ≡ group = λ i. record { at = at i; end = end i; room = room i; is_last = last i; previous = g.3 i } in
    (g.0, group_left body behind, taken_left body group behind g.0 h (omega (arith, some)) g.2 refl refl refl, ap (group_left body) same, g.4)

-- the rest of the block stands behind it
goes_on : (body offsets key : List ℕ) (place after : BlockPlace) (passed : Bool) → after.next ≡ place.next →
    PassesFirst key (group_left body place.group) (group_left body after.group) passed →
    PassesFirst key (left_v2 body offsets place) (left_v2 body offsets after) passed
unfolding left_v2
goes_on body offsets key place after true next g = (g.0, left_in_group body offsets g.0 place after g.1 next, g.2)
goes_on body offsets key place after false next g =
    let rest = reads_v2 body (drop place.next offsets) (length body) in
    (g.0, g.1 ++ rest, ap (λ (l : List RowRead). l ++ rest) g.2, (λ i. g.3 i ++ reads_v2 body (drop (next i) offsets) (length body)), g.4)

pub block_goes : (body offsets key : List ℕ) (place after : BlockPlace) (r : Result Bool SlateDBError) → after.next ≡ place.next →
    IfOk r (λ passed. PassesFirst key (group_left body place.group) (group_left body after.group) passed) → IfOk r (λ passed. PassesFirst key (left_v2 body offsets place) (left_v2 body offsets after) passed)
block_goes body offsets key place after (Ok passed) next g = goes_on body offsets key place after passed next g
block_goes body offsets key place after (Err e) next g = tt

pub block_refused : (body offsets : List ℕ) (place : BlockPlace) (m : SlateDBError) (r : Result Bool SlateDBError) →
    IfErr r (λ e. (e ≡ m) ⊎ (group_left body place.group ≡ Err e ∷ [])) → IfErr r (λ e. (e ≡ m) ⊎ (slice_get (left_v2 body offsets place) 0 ≡ Some (Err e)))
block_refused body offsets place m (Ok passed) h = tt
block_refused body offsets place m (Err e) h = held_refused body offsets place e m h

-- ---- the first row of a group

pub first_goes : (body offsets key : List ℕ) (place after : BlockPlace) (from : ℕ) (other : List ℕ) → is_over place.group ≡ true → place.next < length offsets →
    from ≡ get_or offsets place.next 0 → after.group.end ≡ group_end body offsets place.next → other ≡ [] → after.group.room ≡ 15 → after.group.is_last ≡ nat_eq (place.next + 1) (length offsets) → after.next ≡ place.next + 1 →
    PassesRow body other from after.group.end key after.group.previous (Some after.group.at) → PassesFirst key (left_v2 body offsets place) (left_v2 body offsets after) true
first_goes body offsets key place after from other over in_block at end none room last next g =
    let read : row_v2_in body [] (get_or offsets place.next 0) (group_end body offsets place.next) ≡ Ok (g.0, after.group.at) = rw (sym none, sym at, sym end) g.1 in
    let taken = restart_taken body offsets place.next g.0 after.group in_block read end room last g.2 in
    (g.0, left_behind_group body offsets g.0 place after (over_left body place.group over) in_block taken next, g.3)

pub first_stays : (body offsets key : List ℕ) (place after : BlockPlace) (from upto : ℕ) (other : List ℕ) → is_over place.group ≡ true →
    is_over after.group ≡ true → after.next ≡ place.next → place.next < length offsets →
    from ≡ get_or offsets place.next 0 → upto ≡ group_end body offsets place.next → other ≡ [] → PassesRow body other from upto key after.group.previous None → PassesFirst key (left_v2 body offsets place) (left_v2 body offsets after) false
first_stays body offsets key place after from upto other over over_after next in_block at end none g =
    let read : row_v2_in body [] (get_or offsets place.next 0) (group_end body offsets place.next) ≡ Ok (g.0, g.1) = rw (sym none, sym at, sym end) g.2 in
    let behind : RowGroup = record { at = g.1; end = group_end body offsets place.next; room = 15; is_last = nat_eq (place.next + 1) (length offsets); previous = g.0.key } in
    let beyond : BlockPlace = record { group = behind; next = place.next + 1 } in
    let taken = restart_taken body offsets place.next g.0 behind in_block read refl refl refl refl in
    let same : left_v2 body offsets after ≡ left_v2 body offsets place =
    left_at_restart body offsets after (over_left body after.group over_after) ∙ ap (λ (n : ℕ). reads_v2 body (drop n offsets) (length body)) next
    ∙ sym (left_at_restart body offsets place (over_left body place.group over)) in
    (g.0, left_v2 body offsets beyond, left_behind_group body offsets g.0 place beyond (over_left body place.group over) in_block taken refl, same, g.4)

-- ---- an answer that isn't a place

pub none_of : (a : Option ℕ) → ((x : ℕ) → a ≡ Some x → ⊥) → a ≡ None
none_of None h = refl
none_of (Some x) h = absurd (h x refl)

-- ---- a step of the walk

pub gone_past : (key : List ℕ) (now after : List RowRead) (passed : Bool) → passed ≡ true → PassesFirst key now after passed → IsPast Ascending key now after
gone_past key now after true is g = next_past Ascending key now after g.0 g.1 g.2
gone_past key now after false is g = absurd cc
