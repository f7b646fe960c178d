-- What a walk over a block of version 1 reads.
use Rattle.std.proofs.Common.{◌≡◌, ℕ, zero, suc, ◌+◌, ◌-◌, ◌<◌, ◌≤◌, List, [], ◌∷◌, ◌++◌, length, get_or, take, drop, reverse, map, Some, Result, Ok, Err, refl, sym, ap, subst, ◌∙◌, arith, add-one, ◌⊎◌, inl, inr, Bool, Option, None, true}
use Rattle.std.specs.Prelude.{slice_get, slice_range, IfOk, IfErr, IfSome}
use Rattle.std.proofs.lemmas.List.{map-append, length-take, length-drop, drop-take, same_lists, take_all, get_or-drop, get_or-take, get_or-reverse, length-reverse, drop-drop, reverse-reverse}
use Rattle.std.proofs.lemmas.Grind.{reverse_onto}
use Rattle.std.proofs.lemmas.Option.{slice_get-get_or}
use Rattle.slate_types.specs.declared.error.SlateDBError.{SlateDBError}
use Rattle.slate_types.specs.declared.error.SlateDBError.TheVariants.{OutOfMemory}
use Rattle.slate_types.specs.declared.types.RowEntry.{RowEntry}
use Rattle.slate_types.specs.declared.iter.IterationOrder.{IterationOrder}
use Rattle.slate_types.specs.declared.iter.IterationOrder.TheVariants.{Ascending, Descending}
use Rattle.slate_types.specs.Iteration.{comes_before, in_order}
use Rattle.slate_block.specs.Damage.{◌>>=◌}
use Rattle.slate_block.specs.Walks.{next_place, row_upto, RowRead, reads_v1, are_named, all_ok, before, block_reads, block_rows}
use Rattle.slate_block.specs.BlockWalks.{place_in, IsBlockDamage, Refuses}
use Rattle.slate_types.proofs.Lists.{map_reverse}

-- the row at an index is read up to the next place
pub read_at : (body first ats : List ℕ) (end i : ℕ) → i < length ats → slice_get (reads_v1 body first ats end) i ≡ Some (row_upto body first (get_or ats i 0) (next_place end (drop (i + 1) ats)))
read_at body first [] end i lt = absurd (omega (arith, lt))
read_at body first (at ∷ ats) end zero lt = refl
read_at body first (at ∷ ats) end (suc i) lt = rw add-one (read_at body first ats end i (omega (arith, lt)) ∙ rw add-one refl)

pub as_many_reads : (body first ats : List ℕ) (end : ℕ) → length (reads_v1 body first ats end) ≡ length ats
as_many_reads body first [] end = refl
as_many_reads body first (at ∷ ats) end = let rest = as_many_reads body first ats end in omega (arith, rest)

-- ---- the rows from a start on and before an end, in an order

pub length_in_order : {A : Type 0} (order : IterationOrder) (xs : List A) → length (in_order order xs) ≡ length xs
length_in_order Ascending xs = refl
length_in_order Descending xs = length-reverse xs

pub length_slice : {A : Type 0} (xs : List A) (start end : ℕ) → start ≤ end → end ≤ length xs → length (slice_range xs start end) ≡ end - start
length_slice xs start end p q = omega (arith, length-take (end - start) (drop start xs), length-drop start xs)

pub reads_left : (order : IterationOrder) (body first ats : List ℕ) (last start end : ℕ) → start ≤ end → end ≤ length ats → length (in_order order (slice_range (reads_v1 body first ats last) start end)) ≡ end - start
reads_left order body first ats last start end p q =
    let reads = reads_v1 body first ats last in
    let n = as_many_reads body first ats last in
    length_in_order order (slice_range reads start end) ∙ length_slice reads start end p (omega (arith, n, q))

get_or_slice : {A : Type 0} (xs : List A) (start end i : ℕ) (d : A) → start + i < end → get_or (slice_range xs start end) i d ≡ get_or xs (start + i) d
get_or_slice xs start end i d lt = get_or-take (end - start) (drop start xs) i d (omega (arith, lt)) ∙ get_or-drop start xs i d

same_element : {A : Type 0} (d : A) (xs ys : List A) (i j : ℕ) → i < length xs → j < length ys → get_or xs i d ≡ get_or ys j d → slice_get xs i ≡ slice_get ys j
same_element d xs ys i j p q e = slice_get-get_or xs i d p ∙ ap Some e ∙ sym (slice_get-get_or ys j d q)

-- which of them stands at an index
get_in_order : {A : Type 0} (d : A) (order : IterationOrder) (xs : List A) (start end i : ℕ) → start + i < end → end ≤ length xs → slice_get (in_order order (slice_range xs start end)) i ≡ slice_get xs (place_in order start end i)
get_in_order d Ascending xs start end i lt le =
    let n = length_slice xs start end (omega (arith, lt)) le in
    same_element d (slice_range xs start end) xs i (start + i) (omega (arith, n, lt)) (omega (arith, lt, le)) (get_or_slice xs start end i d lt)
get_in_order d Descending xs start end i lt le =
    let part = slice_range xs start end in
    let n = length_slice xs start end (omega (arith, lt)) le in
    let m = length-reverse part in
    let j = length part - 1 - i in
    let same : start + j ≡ end - 1 - i = omega (arith, n, lt) in
    same_element d (reverse part) xs i (end - 1 - i) (omega (arith, n, m, lt)) (omega (arith, lt, le))
    (get_or-reverse part i d (omega (arith, n, lt)) ∙ get_or_slice xs start end j d (omega (arith, n, lt)) ∙ ap (λ (k : ℕ). get_or xs k d) same)

no_read : RowRead
no_read = Err OutOfMemory

pub read_in_order : (order : IterationOrder) (reads : List RowRead) (start end i : ℕ) → start + i < end → end ≤ length reads → slice_get (in_order order (slice_range reads start end)) i ≡ slice_get reads (place_in order start end i)
read_in_order = get_in_order no_read

-- without the first ones
pub slice_drop : {A : Type 0} (xs : List A) (start end n : ℕ) → start + n ≤ end → drop n (slice_range xs start end) ≡ slice_range xs (start + n) end
slice_drop xs start end n le =
    let m = end - (start + n) in
    let whole : end - start ≡ n + m = omega (arith, le) in
    ap (λ (k : ℕ). drop n (take k (drop start xs))) whole ∙ drop-take n m (drop start xs) ∙ ap (take m) (drop-drop n start xs)

pub reverse_slice_drop : {A : Type 0} (xs : List A) (start end n : ℕ) → start + n ≤ end → end ≤ length xs → drop n (reverse (slice_range xs start end)) ≡ reverse (slice_range xs start (end - n))
reverse_slice_drop xs start end n le within =
    let part = slice_range xs start end in
    let rest = slice_range xs start (end - n) in
    let a = length_slice xs start end (omega (arith, le)) within in
    let b = length_slice xs start (end - n) (omega (arith, le)) (omega (arith, within)) in
    let c = length-reverse part in
    let e = length-reverse rest in
    let f = length-drop n (reverse part) in
    same_lists (drop n (reverse part)) (reverse rest) (omega (arith, a, b, c, e, f, le)) (λ k d lt.
    let i = length part - 1 - (n + k) in
    let j = length rest - 1 - k in
    let same : start + i ≡ start + j = omega (arith, a, b, c, f, lt, le) in
    get_or-drop n (reverse part) k d ∙ get_or-reverse part (n + k) d (omega (arith, a, c, f, lt)) ∙ get_or_slice xs start end i d (omega (arith, a, c, f, lt))
    ∙ ap (λ (p : ℕ). get_or xs p d) same
    ∙ sym (get_or_slice xs start (end - n) j d (omega (arith, a, b, c, f, lt, le))) ∙ sym (get_or-reverse rest k d (omega (arith, a, b, c, f, lt, le))))

pub whole_slice : {A : Type 0} (xs : List A) (n : ℕ) → n ≡ length xs → slice_range xs 0 n ≡ xs
whole_slice xs n e = take_all (n - 0) xs (omega (arith, e))

pub in_order_twice : {A : Type 0} (order : IterationOrder) (xs : List A) → in_order order (in_order order xs) ≡ xs
in_order_twice Ascending xs = refl
in_order_twice Descending xs = reverse-reverse xs

-- ---- rows of which none is refused

abbrev pub ok_read : RowEntry → RowRead
ok_read row = Ok row

abbrev pub ok_rows : List RowEntry → Result (List RowEntry) SlateDBError
ok_rows rows = Ok rows

pub all_ok_map : (rows : List RowEntry) → all_ok (map ok_read rows) ≡ Ok rows
all_ok_map [] = refl
all_ok_map (row ∷ rows) = ap (before row) (all_ok_map rows)

ok_before : (row : RowEntry) (reads : List RowRead) (rest : Result (List RowEntry) SlateDBError) (rows : List RowEntry) → ((more : List RowEntry) → rest ≡ Ok more → reads ≡ map ok_read more) → before row rest ≡ Ok rows → Ok row ∷ reads ≡ map ok_read rows
ok_before row reads (Ok more) rows h e =
    let same : row ∷ more ≡ rows = cc in
    subst (λ (l : List RowEntry). Ok row ∷ reads ≡ map ok_read l) same (ap (λ (l : List RowRead). Ok row ∷ l) (h more refl))
ok_before row reads (Err d) rows h e = absurd cc

pub reads_of_ok : (reads : List RowRead) (rows : List RowEntry) → all_ok reads ≡ Ok rows → reads ≡ map ok_read rows
reads_of_ok [] [] e = refl
reads_of_ok [] (row ∷ rows) e = absurd cc
reads_of_ok (Err d ∷ reads) rows e = absurd cc
reads_of_ok (Ok row ∷ reads) rows e = ok_before row reads (all_ok reads) rows (λ more. reads_of_ok reads more) e

all_ok_turned : (reads : List RowRead) (rows : List RowEntry) → all_ok reads ≡ Ok rows → all_ok (reverse reads) ≡ Ok (reverse rows)
all_ok_turned reads rows e = ap (λ (l : List RowRead). all_ok (reverse l)) (reads_of_ok reads rows e) ∙ ap all_ok (sym (map_reverse ok_read rows)) ∙ all_ok_map (reverse rows)

all_ok_in_order : (order : IterationOrder) (reads : List RowRead) (rows : List RowEntry) → all_ok (in_order order reads) ≡ Ok rows → all_ok reads ≡ Ok (in_order order rows)
all_ok_in_order Ascending reads rows e = e
all_ok_in_order Descending reads rows e = ap all_ok (sym (reverse-reverse reads)) ∙ all_ok_turned (reverse reads) rows e

all_ok_ordered : (order : IterationOrder) (reads : List RowRead) (rows : List RowEntry) → all_ok reads ≡ Ok (in_order order rows) → all_ok (in_order order reads) ≡ Ok rows
all_ok_ordered Ascending reads rows e = e
all_ok_ordered Descending reads rows e = all_ok_turned reads (reverse rows) e ∙ ap ok_rows (reverse-reverse rows)

-- what a walk in an order reads, and the rows of the block
pub rows_in_order : (order : IterationOrder) (body offsets : List ℕ) (reads : List RowRead) (rows : List RowEntry) → block_reads 1 body offsets ≡ Ok (in_order order reads) → block_rows 1 body offsets ≡ Ok rows → all_ok reads ≡ Ok (in_order order rows)
unfolding block_rows
rows_in_order order body offsets reads rows r e = all_ok_in_order order reads rows (sym (ap (λ (x : Result (List RowRead) SlateDBError). x >>= all_ok) r) ∙ e)

pub only_in_order : (order : IterationOrder) (body offsets : List ℕ) (reads : List RowRead) (rows : List RowEntry) → block_reads 1 body offsets ≡ Ok (in_order order reads) → all_ok reads ≡ Ok (in_order order rows) → block_rows 1 body offsets ≡ Ok rows
unfolding block_rows
only_in_order order body offsets reads rows r e = ap (λ (x : Result (List RowRead) SlateDBError). x >>= all_ok) r ∙ all_ok_ordered order reads rows e

-- ---- refusals

pub refused_at : (reads : List RowRead) (i : ℕ) (e m : SlateDBError) → (e ≡ m) ⊎ (slice_get reads i ≡ Some (Err e)) → (e ≡ m) ⊎ IsBlockDamage e → (e ≡ m) ⊎ Refuses reads e
refused_at reads i e m (inl h) d = inl h
refused_at reads i e m (inr h) (inl d) = inl d
refused_at reads i e m (inr h) (inr d) = inr (d, (i, h))

-- ---- the row at an index of those that are left

pub index_left : (order : IterationOrder) (body first ats : List ℕ) (last start end i : ℕ) (reads : List RowRead) → start ≤ end → end ≤ length ats → in_order order (slice_range (reads_v1 body first ats last) start end) ≡ reads → i < length reads → start + i < end
index_left order body first ats last start end i reads p q e lt = omega (arith, reads_left order body first ats last start end p q, ap length e, lt, p)

pub place_below : (order : IterationOrder) (start end i n : ℕ) → start + i < end → end ≤ n → place_in order start end i < n
place_below Ascending start end i n lt le = omega (arith, lt, le)
place_below Descending start end i n lt le = omega (arith, lt, le)

pub left_at : (order : IterationOrder) (body first ats : List ℕ) (last start end i : ℕ) (reads : List RowRead) → start + i < end → end ≤ length ats → in_order order (slice_range (reads_v1 body first ats last) start end) ≡ reads →
    slice_get reads i ≡ Some (row_upto body first (get_or ats (place_in order start end i) 0) (next_place last (drop (place_in order start end i + 1) ats)))
left_at order body first ats last start end i reads lt le e =
    let n = as_many_reads body first ats last in
    ap (λ (l : List RowRead). slice_get l i) (sym e) ∙ read_in_order order (reads_v1 body first ats last) start end i lt (omega (arith, n, le))
    ∙ read_at body first ats last (place_in order start end i) (place_below order start end i (length ats) lt le)

pub found_at : (reads : List RowRead) (i : ℕ) (read : RowRead) (result : Result RowEntry SlateDBError) → slice_get reads i ≡ Some read → IfOk result (λ row. read ≡ Ok row) → IfOk result (λ row. slice_get reads i ≡ Some (Ok row))
found_at reads i read (Ok row) e h = e ∙ ap Some h
found_at reads i read (Err d) e h = h

refused_there : (reads : List RowRead) (i : ℕ) (read : RowRead) (d m : SlateDBError) → slice_get reads i ≡ Some read → (d ≡ m) ⊎ (read ≡ Err d) → (d ≡ m) ⊎ (slice_get reads i ≡ Some (Err d))
refused_there reads i read d m e (inl h) = inl h
refused_there reads i read d m e (inr h) = inr (e ∙ ap Some h)

pub cause_at : (reads : List RowRead) (i : ℕ) (read : RowRead) (m : SlateDBError) (result : Result RowEntry SlateDBError) → slice_get reads i ≡ Some read → IfErr result (λ d. (d ≡ m) ⊎ (read ≡ Err d)) → IfErr result (λ d. (d ≡ m) ⊎ (slice_get reads i ≡ Some (Err d)))
cause_at reads i read m (Ok row) e h = h
cause_at reads i read m (Err d) e h = refused_there reads i read d m e h

pub whole_in_order : {A : Type 0} (order : IterationOrder) (xs : List A) (n : ℕ) → n ≡ length xs → in_order order (in_order order (slice_range xs 0 n)) ≡ xs
whole_in_order order xs n e = in_order_twice order (slice_range xs 0 n) ∙ whole_slice xs n e

-- ---- so many of those that are left are taken off

pub count_left : (order : IterationOrder) (body first ats : List ℕ) (last start end n : ℕ) (reads : List RowRead) → start ≤ end → end ≤ length ats → in_order order (slice_range (reads_v1 body first ats last) start end) ≡ reads → n ≤ length reads → start + n ≤ end
count_left order body first ats last start end n reads p q e le = omega (arith, reads_left order body first ats last start end p q, ap length e, le, p)

pub taken_upwards : (order : IterationOrder) (body first ats : List ℕ) (last start end n : ℕ) (reads : List RowRead) → order ≡ Ascending → in_order order (slice_range (reads_v1 body first ats last) start end) ≡ reads → start + n ≤ end →
    in_order order (slice_range (reads_v1 body first ats last) (start + n) end) ≡ drop n reads
taken_upwards Ascending body first ats last start end n reads is e le = sym (slice_drop (reads_v1 body first ats last) start end n le) ∙ ap (drop n) e
taken_upwards Descending body first ats last start end n reads is e le = absurd cc

pub taken_downwards : (order : IterationOrder) (body first ats : List ℕ) (last start end n : ℕ) (reads : List RowRead) → order ≡ Descending → in_order order (slice_range (reads_v1 body first ats last) start end) ≡ reads → start + n ≤ end → end ≤ length ats →
    in_order order (slice_range (reads_v1 body first ats last) start (end - n)) ≡ drop n reads
taken_downwards Ascending body first ats last start end n reads is e le within = absurd cc
taken_downwards Descending body first ats last start end n reads is e le within =
    let size = as_many_reads body first ats last in
    sym (reverse_slice_drop (reads_v1 body first ats last) start end n le (omega (arith, size, within))) ∙ ap (drop n) e

pub told_at : (order : IterationOrder) (key : List ℕ) (reads others : List RowRead) (i j : ℕ) (result : Option Bool) → slice_get reads i ≡ slice_get others j →
    IfSome result (λ b. (row : RowEntry) → slice_get others j ≡ Some (Ok row) → b ≡ comes_before order row.key key) → IfSome result (λ b. (row : RowEntry) → slice_get reads i ≡ Some (Ok row) → b ≡ comes_before order row.key key)
told_at order key reads others i j (Some b) e h = λ row is. h row (sym e ∙ is)
told_at order key reads others i j None e h = h

pub named_some : (offsets : List ℕ) → are_named offsets ≡ true → 0 < length offsets
named_some [] h = absurd cc
named_some (at ∷ ats) h = omega arith
