-- Steps of a walk over rows of version 2 from the end.
use Rattle.std.proofs.Common.{◌≡◌, ℕ, zero, suc, ◌+◌, ◌-◌, ◌<◌, ◌≤◌, true, false, List, [], ◌∷◌, ◌++◌, length, get_or, take, reverse, map, Some, Result, Ok, Err, refl, sym, ap, subst, ◌∙◌, arith, append_assoc, add-one, ◌⊎◌, inl, inr}
use Rattle.std.specs.Prelude.{slice_get}
use Rattle.std.proofs.lemmas.List.{append-nil, map-append, reverse-append, length-reverse}
use Rattle.slate_types.specs.declared.error.SlateDBError.{SlateDBError}
use Rattle.slate_types.specs.declared.types.RowEntry.{RowEntry}
use Rattle.slate_types.specs.declared.iter.IterationOrder.{IterationOrder}
use Rattle.slate_types.specs.Iteration.{comes_before}
use Rattle.slate_block.specs.Walks.{RowRead, all_ok, before}
use Rattle.slate_block.specs.BlockWalks.{IsPast, StopsAt, BeginsRead}
use Rattle.slate_block.specs.GroupWalks.{restart_at, turned, reads_back, left_back}
use Rattle.slate_block.proofs.WalkLaws.{ok_read, all_ok_map}
use Rattle.slate_block.proofs.SeekLaws.{past_step, past_ahead}

-- ---- the rows of a group, one behind the other

pub group_begun : (row : RowEntry) (whole left : List RowRead) (rows : List RowEntry) → whole ≡ Ok row ∷ left → rows ≡ row ∷ [] → whole ≡ map ok_read rows ++ left
group_begun row whole left rows h e = h ∙ ap (λ (l : List RowEntry). map ok_read l ++ left) (sym e)

pub group_grown : (rows more : List RowEntry) (row : RowEntry) (whole now next : List RowRead) → whole ≡ map ok_read rows ++ now → now ≡ Ok row ∷ next → more ≡ rows ++ (row ∷ []) → whole ≡ map ok_read more ++ next
group_grown rows more row whole now next h step e =
    h ∙ ap (λ (l : List RowRead). map ok_read rows ++ l) step ∙ sym (append_assoc (map ok_read rows) (Ok row ∷ []) next)
    ∙ ap (λ (l : List RowRead). l ++ next) (sym (map-append ok_read rows (row ∷ [])) ∙ ap (map ok_read) (sym e))

pub group_done : (rows : List RowEntry) (whole now : List RowRead) → whole ≡ map ok_read rows ++ now → now ≡ [] → all_ok whole ≡ Ok rows
group_done rows whole now h step = ap all_ok (h ∙ ap (λ (l : List RowRead). map ok_read rows ++ l) step ∙ append-nil (map ok_read rows)) ∙ all_ok_map rows

refused_last : (rows : List RowEntry) (e : SlateDBError) → all_ok (map ok_read rows ++ (Err e ∷ [])) ≡ Err e
refused_last [] e = refl
refused_last (row ∷ rows) e = ap (before row) (refused_last rows e)

pub group_refused : (rows : List RowEntry) (whole now : List RowRead) (e : SlateDBError) → whole ≡ map ok_read rows ++ now → now ≡ Err e ∷ [] → all_ok whole ≡ Err e
group_refused rows whole now e h step = ap all_ok (h ∙ ap (λ (l : List RowRead). map ok_read rows ++ l) step) ∙ refused_last rows e

pub refused_or_done : (rows : List RowEntry) (whole now : List RowRead) (e m : SlateDBError) → whole ≡ map ok_read rows ++ now → (e ≡ m) ⊎ (now ≡ Err e ∷ []) → (e ≡ m) ⊎ (all_ok whole ≡ Err e)
refused_or_done rows whole now e m h (inl same) = inl same
refused_or_done rows whole now e m h (inr step) = inr (group_refused rows whole now e h step)

-- ---- rows at the end

abbrev pub back_of : List RowEntry → List RowRead
back_of rows = turned (Ok rows)

pub last_back : (rows before : List RowEntry) (row : RowEntry) → rows ≡ before ++ (row ∷ []) → back_of rows ≡ Ok row ∷ back_of before
last_back rows before row e = ap (λ (l : List RowEntry). map ok_read l) (ap reverse e ∙ reverse-append before (row ∷ []))

last_taken : (rows : List RowEntry) (n : ℕ) (d : RowEntry) → n < length rows → take (n + 1) rows ≡ take n rows ++ (get_or rows n d ∷ [])
last_taken [] n d lt = absurd (omega (arith, lt))
last_taken (row ∷ rows) zero d lt = refl
last_taken (row ∷ rows) (suc n) d lt = rw add-one (ap (λ (l : List RowEntry). row ∷ l) (rw add-one at (last_taken rows n d (omega (arith, lt)))))

-- the last one of so many rows
pub back_taken : (rows : List RowEntry) (kept : ℕ) (row : RowEntry) → 0 < kept → kept ≤ length rows → row ≡ get_or rows (kept - 1) row → back_of (take kept rows) ≡ Ok row ∷ back_of (take (kept - 1) rows)
back_taken rows kept row some le is =
    let size : kept ≡ (kept - 1) + 1 = omega (arith, some) in
    let parts : take kept rows ≡ take (kept - 1) rows ++ (row ∷ []) = ap (λ (n : ℕ). take n rows) size ∙ last_taken rows (kept - 1) row (omega (arith, some, le)) ∙ ap (λ (r : RowEntry). take (kept - 1) rows ++ (r ∷ [])) (sym is) in
    last_back (take kept rows) (take (kept - 1) rows) row parts

pub end_past : (order : IterationOrder) (rows : List RowEntry) (kept : ℕ) (row : RowEntry) (key : List ℕ) (first : List RowRead) → 0 < kept → kept ≤ length rows → row ≡ get_or rows (kept - 1) row → comes_before order row.key key ≡ true →
    IsPast order key first (back_of (take kept rows)) → IsPast order key first (back_of (take (kept - 1) rows))
end_past order rows kept row key first some le is b p = past_step order key row first (back_of (take kept rows)) (back_of (take (kept - 1) rows)) (back_taken rows kept row some le is) b p

pub end_stops : (order : IterationOrder) (rows : List RowEntry) (kept : ℕ) (row : RowEntry) (key : List ℕ) → 0 < kept → kept ≤ length rows → row ≡ get_or rows (kept - 1) row → comes_before order row.key key ≡ false → StopsAt order key (back_of (take kept rows))
end_stops order rows kept row key some le is b = subst (StopsAt order key) (sym (back_taken rows kept row some le is)) b

pub none_stops : (order : IterationOrder) (rows : List RowEntry) (n : ℕ) (key : List ℕ) → n ≡ 0 → StopsAt order key (back_of (take n rows))
none_stops order rows n key e = subst (λ (k : ℕ). StopsAt order key (back_of (take k rows))) (sym e) tt

-- ---- what stands before others

stops_ahead : (order : IterationOrder) (key : List ℕ) (reads more : List RowRead) → 0 < length reads → StopsAt order key reads → StopsAt order key (reads ++ more)
stops_ahead order key [] more some h = absurd (omega (arith, some))
stops_ahead order key (Ok row ∷ reads) more some h = h
stops_ahead order key (Err e ∷ reads) more some h = tt

read_ahead : (rows : List RowEntry) (more : List RowRead) → 0 < length rows → BeginsRead (map ok_read rows ++ more)
read_ahead [] more some = absurd (omega (arith, some))
read_ahead (row ∷ rows) more some = tt

pub mapped : (rows : List RowEntry) → length (map ok_read rows) ≡ length rows
mapped [] = refl
mapped (row ∷ rows) = let rest = mapped rows in omega (arith, rest)

pub kept_stops : (order : IterationOrder) (key : List ℕ) (body offsets : List ℕ) (groups : ℕ) (kept : List RowEntry) → 0 < length kept → StopsAt order key (back_of kept) → StopsAt order key (left_back body offsets groups kept)
unfolding left_back
kept_stops order key body offsets groups kept some h = stops_ahead order key (back_of kept) (reads_back groups body offsets) (omega (arith, mapped (reverse kept), length-reverse kept, some)) h

pub kept_read : (body offsets : List ℕ) (groups : ℕ) (kept : List RowEntry) → 0 < length kept → BeginsRead (left_back body offsets groups kept)
unfolding left_back
kept_read body offsets groups kept some = read_ahead (reverse kept) (reads_back groups body offsets) (omega (arith, length-reverse kept, some))

pub kept_past : (order : IterationOrder) (key : List ℕ) (body offsets : List ℕ) (groups : ℕ) (rows kept : List RowEntry) → IsPast order key (back_of rows) (back_of kept) → IsPast order key (left_back body offsets groups rows) (left_back body offsets groups kept)
unfolding left_back
kept_past order key body offsets groups rows kept p = past_ahead order key (back_of rows) (back_of kept) (reads_back groups body offsets) p

-- ---- the groups, the last first

pub back_read : (body offsets : List ℕ) (m n : ℕ) (rows : List RowEntry) → m ≡ suc n → all_ok (restart_at body offsets n) ≡ Ok rows → reads_back m body offsets ≡ left_back body offsets n rows
unfolding reads_back left_back
back_read body offsets m n rows e h = ap (λ (k : ℕ). reads_back k body offsets) e ∙ ap (λ (r : Result (List RowEntry) SlateDBError). turned r ++ reads_back n body offsets) h

pub back_refused : (body offsets : List ℕ) (m n : ℕ) (e : SlateDBError) → m ≡ suc n → all_ok (restart_at body offsets n) ≡ Err e → slice_get (reads_back m body offsets) 0 ≡ Some (Err e)
unfolding reads_back
back_refused body offsets m n e same h = ap (λ (k : ℕ). slice_get (reads_back k body offsets) 0) same ∙ ap (λ (r : Result (List RowEntry) SlateDBError). slice_get (turned r ++ reads_back n body offsets) 0) h

-- a group of which no row is kept
pub nothing_kept : (body offsets : List ℕ) (n : ℕ) (rows : List RowEntry) → rows ≡ [] → left_back body offsets n rows ≡ reads_back n body offsets
unfolding left_back
nothing_kept body offsets n rows e = ap (λ (l : List RowEntry). back_of l ++ reads_back n body offsets) e

pub refused_or_back : (body offsets : List ℕ) (m n : ℕ) (e d : SlateDBError) → m ≡ suc n → (e ≡ d) ⊎ (all_ok (restart_at body offsets n) ≡ Err e) → (e ≡ d) ⊎ (slice_get (reads_back m body offsets) 0 ≡ Some (Err e))
refused_or_back body offsets m n e d same (inl h) = inl h
refused_or_back body offsets m n e d same (inr h) = inr (back_refused body offsets m n e same h)
