-- Where the rows that a get folds take one that was flushed, they need the tables.
use Rattle.std.proofs.Common.{◌≡◌, ℕ, ◌+◌, ◌-◌, ◌^◌, ◌<◌, ◌≤◌, Bool, true, false, cond, ◌||◌, List, [], ◌∷◌, ◌++◌, length, map, None, refl, sym, ap, ◌∙◌, arith, nat_le, append-nil, append_assoc, length-append}
use Rattle.std.specs.List.{AllByRecursion, list_any}
use Rattle.std.proofs.lemmas.Bool.Decides.{nat_tests}
use Rattle.std.proofs.lemmas.List.Folds.{list_any-append}
use Rattle.slate_types.specs.declared.types.RowEntry.{RowEntry}
use Rattle.slate_types.specs.Fold.{Combine, fold_rows, fold_taken, from_last, taken}
use Rattle.slate_types.specs.Rows.{is_base}
use Rattle.slate_mem.specs.declared.WriteOp.{WriteOp}
use Rattle.slate_mem.specs.Batch.{replaces}
use Rattle.slate_mem.specs.RowOf.{own_row}
use Rattle.slate_db.proofs.OwnRows.{own_base}
use Rattle.slate_db.proofs.Short.{all_from_last}
use Rattle.slate_types.proofs.Lists.{AllByRecursion_append}

-- ---- the items from the last one on that passes

any_behind : {X : Type 0} (t : X → Bool) (xs ys : List X) → list_any t ys ≡ true → list_any t (xs ++ ys) ≡ true
any_behind t [] ys h = h
any_behind t (x ∷ xs) ys h = by (t x) (any_behind t xs ys h)
  where
    by : (b : Bool) → list_any t (xs ++ ys) ≡ true → (b || list_any t (xs ++ ys)) ≡ true
    by true rest = refl
    by false rest = rest

behind_last : {X : Type 0} (t : X → Bool) (xs ys : List X) → list_any t ys ≡ true → from_last t (xs ++ ys) ≡ from_last t ys
behind_last t [] ys h = refl
behind_last t (x ∷ xs) ys h = ap (λ (b : Bool). cond b (from_last t (xs ++ ys)) (x ∷ (xs ++ ys))) (any_behind t xs ys h) ∙ behind_last t xs ys h

-- more than what none of passes
longer : {X : Type 0} (t : X → Bool) (x : X) (xs ys : List X) → list_any t ys ≡ false → length ys < length (from_last t (x ∷ (xs ++ ys)))
longer t x [] ys h = let n : length (cond (list_any t ys) (from_last t ys) (x ∷ ys)) ≡ length (x ∷ ys) = ap (λ (b : Bool). length (cond b (from_last t ys) (x ∷ ys))) h in omega (arith, n)
longer t x (y ∷ xs) ys h = by (list_any t (y ∷ (xs ++ ys))) (longer t y xs ys h)
  where
    by : (b : Bool) → length ys < length (from_last t (y ∷ (xs ++ ys))) → length ys < length (cond b (from_last t (y ∷ (xs ++ ys))) (x ∷ (y ∷ (xs ++ ys))))
    by true rest = rest
    by false rest = let n = length-append xs ys in omega (arith, n)

shorter : {X : Type 0} (t : X → Bool) (xs : List X) → length (from_last t xs) ≤ length xs
shorter t [] = omega arith
shorter t (x ∷ xs) = by (list_any t xs) (shorter t xs)
  where
    by : (b : Bool) → length (from_last t xs) ≤ length xs → length (cond b (from_last t xs) (x ∷ xs)) ≤ length (x ∷ xs)
    by true rest = omega (arith, rest)
    by false rest = omega arith

-- ---- folds

some_fold : (c : Combine) (r : RowEntry) (rows : List RowEntry) → fold_rows c (r ∷ rows) ≡ None → ⊥
some_fold c r rows none =
    by (taken (r ∷ rows)) (let n = longer is_base r rows [] refl in let same = ap (λ (l : List RowEntry). length (taken (r ∷ l))) (append-nil rows) in omega (arith, n, same)) none
  where
    by : (rs : List RowEntry) → 0 < length rs → fold_taken c rs ≡ None → ⊥
    by [] some h = omega (arith, some)
    by (x ∷ rs) some h = cc

none_at_most : (f : ℕ) (rows : List RowEntry) → AllByRecursion (λ r. f < r.seq) rows → list_any (λ r. nat_le r.seq f) rows ≡ false
none_at_most f [] h = refl
none_at_most f (r ∷ rows) h =
    let over : nat_le r.seq f ≡ false = (let lt = h.0 in grind (arith, nat_tests, lt)) in
    ap (λ (b : Bool). b || list_any (λ r. nat_le r.seq f) rows) over ∙ none_at_most f rows h.1

-- older: the rows of the tables, which fold as those of the flushed commits; newer: those of the later commits
pub needs_older : (c : Combine) (f : ℕ) (older flushed newer own : List RowEntry) → fold_rows c older ≡ fold_rows c flushed → AllByRecursion (λ r. f < r.seq) newer → AllByRecursion (λ r. f < r.seq) own →
    list_any (λ r. nat_le r.seq f) (taken ((flushed ++ newer) ++ own)) ≡ true → taken (older ++ newer) ≡ taken newer → ⊥
needs_older c f older flushed newer own folds later later_own takes same = by (list_any is_base (newer ++ own)) refl
  where
    rest : List RowEntry
    rest = newer ++ own

    over : list_any (λ r. nat_le r.seq f) (taken rest) ≡ false
    over = none_at_most f (taken rest) (all_from_last (λ r. f < r.seq) is_base rest (AllByRecursion_append (λ r. f < r.seq) newer own later later_own))

    split : list_any (λ r. nat_le r.seq f) (taken (flushed ++ rest)) ≡ true
    split = ap (λ (l : List RowEntry). list_any (λ r. nat_le r.seq f) (taken l)) (sym (append_assoc flushed newer own)) ∙ takes

    undecided : list_any is_base rest ≡ false → list_any is_base newer ≡ false
    undecided none = front (list_any is_base newer) (list_any is_base own) (sym (list_any-append is_base newer own) ∙ none)
      where
        front : (a b : Bool) → (a || b) ≡ false → a ≡ false
        front true b h = cc
        front false b h = refl

    -- what was flushed is some row, and so are the tables'
    some : (xs ys : List RowEntry) → list_any is_base newer ≡ false → fold_rows c xs ≡ fold_rows c ys → list_any (λ r. nat_le r.seq f) (taken (ys ++ rest)) ≡ true → taken (xs ++ newer) ≡ taken newer → ⊥
    some xs [] none fold h e = let clash : true ≡ false = sym h ∙ over in cc
    some [] (y ∷ ys) none fold h e = some_fold c y ys (sym fold)
    some (x ∷ xs) (y ∷ ys) none fold h e =
        let n = longer is_base x xs newer none in
        let m = shorter is_base newer in
        let size = ap length e in
        omega (arith, n, m, size)

    by : (b : Bool) → list_any is_base rest ≡ b → ⊥
    by true is = let clash : true ≡ false = sym split ∙ ap (list_any (λ r. nat_le r.seq f)) (behind_last is_base flushed rest is) ∙ over in cc
    by false is = some older flushed (undecided is) folds split same

-- ---- own operations

any_base : (k : List ℕ) (ops : List WriteOp) → list_any replaces ops ≡ true → list_any is_base (map (own_row k) ops) ≡ true
any_base k [] h = cc
any_base k (op ∷ ops) h = by (replaces op) refl (any_base k ops) h
  where
    by : (b : Bool) → replaces op ≡ b → (list_any replaces ops ≡ true → list_any is_base (map (own_row k) ops) ≡ true) → (b || list_any replaces ops) ≡ true → (is_base (own_row k op) || list_any is_base (map (own_row k) ops)) ≡ true
    by true is rest h = ap (λ (b : Bool). b || list_any is_base (map (own_row k) ops)) (own_base k op is)
    by false is rest h = any_behind is_base (own_row k op ∷ []) (map (own_row k) ops) (rest h)

own_above : (f : ℕ) (k : List ℕ) (ops : List WriteOp) → f ≤ 2 ^ 64 - 2 → AllByRecursion (λ r. f < r.seq) (map (own_row k) ops)
own_above f k [] fits = tt
own_above f k (op ∷ ops) fits = (omega (arith, fits), own_above f k ops fits)

-- where one of them decides, no other row is taken
pub decided_needs : (f : ℕ) (k : List ℕ) (ops : List WriteOp) (older : List RowEntry) → f ≤ 2 ^ 64 - 2 → list_any replaces ops ≡ true → list_any (λ r. nat_le r.seq f) (taken (older ++ map (own_row k) ops)) ≡ false
decided_needs f k ops older fits some =
    ap (list_any (λ r. nat_le r.seq f)) (behind_last is_base older (map (own_row k) ops) (any_base k ops some))
    ∙ none_at_most f (taken (map (own_row k) ops)) (all_from_last (λ r. f < r.seq) is_base (map (own_row k) ops) (own_above f k ops fits))
