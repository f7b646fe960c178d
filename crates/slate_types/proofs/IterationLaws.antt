-- What filters, seeks and steps do to rows in order.
use Rattle.std.proofs.Common.{◌≡◌, ℕ, Bool, true, false, List, [], ◌∷◌, ◌++◌, Option, Some, None, filter, not, drop, length, ◌<◌, arith, refl, sym, ap, subst, inl, inr}
use Rattle.slate_types.specs.declared.types.RowEntry.{RowEntry}
use Rattle.slate_types.specs.declared.iter.IterationOrder.{IterationOrder}
use Rattle.slate_types.specs.declared.iter.IterationOrder.TheVariants.{Ascending, Descending}
use Rattle.slate_types.specs.Iteration.{comes_before, drop_before, begins_before, NoneBefore, IsInOrder, Steps, TakesRow}
use Rattle.slate_types.proofs.KeyOrder.{not_lt_trans}
use Rattle.std.proofs.lemmas.Bool.{cases_Bool}

-- what does not come before a key does not come before an earlier one
pub not_before : (order : IterationOrder) (a b c : List ℕ) → comes_before order b a ≡ false → comes_before order c b ≡ false → comes_before order c a ≡ false
not_before Ascending a b c p q = not_lt_trans c b a q p
not_before Descending a b c p q = not_lt_trans a b c p q

pub none_before_earlier : (order : IterationOrder) (a b : List ℕ) (rows : List RowEntry) → comes_before order b a ≡ false → NoneBefore order b rows → NoneBefore order a rows
none_before_earlier order a b [] p h = tt
none_before_earlier order a b (row ∷ rows) p h = (not_before order a b row.key p h.0, none_before_earlier order a b rows p h.1)

pub drop_before_none : (order : IterationOrder) (key : List ℕ) (rows : List RowEntry) → NoneBefore order key rows → drop_before order key rows ≡ rows
drop_before_none order key [] h = refl
drop_before_none order key (row ∷ rows) h = rw h.0 refl

pub none_before_filtered : (order : IterationOrder) (key : List ℕ) (p : RowEntry → Bool) (rows : List RowEntry) → NoneBefore order key rows → NoneBefore order key (filter p rows)
none_before_filtered order key p [] h = tt
none_before_filtered order key p (row ∷ rows) h =
    elim (cases_Bool (p row)) as (λ _. NoneBefore order key (filter p (row ∷ rows))) [
      | inl e ↦ rw e (h.0, none_before_filtered order key p rows h.1)
      | inr e ↦ rw e (none_before_filtered order key p rows h.1)
    ]

-- rows that a filter keeps of rows in order are in order
pub in_order_filtered : (order : IterationOrder) (p : RowEntry → Bool) (rows : List RowEntry) → IsInOrder order rows → IsInOrder order (filter p rows)
in_order_filtered order p [] h = tt
in_order_filtered order p (row ∷ rows) h =
    elim (cases_Bool (p row)) as (λ _. IsInOrder order (filter p (row ∷ rows))) [
      | inl e ↦ rw e (none_before_filtered order row.key p rows h.0, in_order_filtered order p rows h.1)
      | inr e ↦ rw e (in_order_filtered order p rows h.1)
    ]

-- a seek of what a filter keeps is the filter of the seek
pub drop_before_filtered : (order : IterationOrder) (key : List ℕ) (p : RowEntry → Bool) (rows : List RowEntry) → IsInOrder order rows → filter p (drop_before order key rows) ≡ drop_before order key (filter p rows)
drop_before_filtered order key p [] h = refl
drop_before_filtered order key p (row ∷ rows) h =
    elim (cases_Bool (comes_before order row.key key)) as (λ _. filter p (drop_before order key (row ∷ rows)) ≡ drop_before order key (filter p (row ∷ rows))) [
      | inl before ↦ elim (cases_Bool (p row)) as (λ _. filter p (drop_before order key (row ∷ rows)) ≡ drop_before order key (filter p (row ∷ rows))) [
        | inl e ↦ rw (before, e, before) (drop_before_filtered order key p rows h.1)
        | inr e ↦ rw (before, e) (drop_before_filtered order key p rows h.1)
      ]
      | inr after ↦
          let none : NoneBefore order key (row ∷ rows) = (after, none_before_earlier order key row.key rows after h.0) in
          rw after (sym (drop_before_none order key (filter p (row ∷ rows)) (none_before_filtered order key p (row ∷ rows) none)))
    ]

-- a seek leaves rows in order
pub in_order_dropped : (order : IterationOrder) (key : List ℕ) (rows : List RowEntry) → IsInOrder order rows → IsInOrder order (drop_before order key rows)
in_order_dropped order key [] h = tt
in_order_dropped order key (row ∷ rows) h =
    elim (cases_Bool (comes_before order row.key key)) as (λ _. IsInOrder order (drop_before order key (row ∷ rows))) [
      | inl before ↦ rw before (in_order_dropped order key rows h.1)
      | inr after ↦ rw after h
    ]

-- and so does a step
pub taken_in_order : (order : IterationOrder) (rows after : List RowEntry) (answer : Option RowEntry) → TakesRow rows answer after → IsInOrder order rows → IsInOrder order after
taken_in_order order rows after None t h = rw t.1 tt
taken_in_order order rows after (Some row) t h = (rw t at h).1

-- a row that a filter drops changes nothing of what it keeps
pub skipped : (p : RowEntry → Bool) (row : RowEntry) (before after : List RowEntry) → TakesRow before (Some row) after → p row ≡ false → filter p after ≡ filter p before
skipped p row before after t h = rw (t, h) refl

-- a first row that comes before a key is dropped
pub drops_first : (order : IterationOrder) (key : List ℕ) (rows : List RowEntry) → begins_before order key rows ≡ true → drop_before order key (drop 1 rows) ≡ drop_before order key rows
drops_first order key [] b = refl
drops_first order key (row ∷ rows) b = rw b refl

-- and there are fewer then
pub fewer_behind : (order : IterationOrder) (key : List ℕ) (rows : List RowEntry) → begins_before order key rows ≡ true → length (drop 1 rows) < length rows
fewer_behind order key [] b = cc
fewer_behind order key (row ∷ rows) b = omega arith

-- where none comes before it, nothing is
pub drops_none : (order : IterationOrder) (key : List ℕ) (rows : List RowEntry) → begins_before order key rows ≡ false → drop_before order key rows ≡ rows
drops_none order key [] b = refl
drops_none order key (row ∷ rows) b = rw b refl

kept : (order : IterationOrder) (key : List ℕ) (rows : List RowEntry) → NoneBefore order key rows → filter (λ r. not (comes_before order r.key key)) rows ≡ rows
kept order key [] h = refl
kept order key (row ∷ rows) h = rw h.0 (ap (λ rest. row ∷ rest) (kept order key rows h.1))

-- of rows in order a seek leaves those that don't come before
pub seek_filters : (order : IterationOrder) (key : List ℕ) (rows : List RowEntry) → IsInOrder order rows → drop_before order key rows ≡ filter (λ r. not (comes_before order r.key key)) rows
seek_filters order key [] h = refl
seek_filters order key (row ∷ rows) h =
    elim (cases_Bool (comes_before order row.key key)) as (λ _. drop_before order key (row ∷ rows) ≡ filter (λ r. not (comes_before order r.key key)) (row ∷ rows)) [
      | inl before ↦ rw before (seek_filters order key rows h.1)
      | inr after ↦ rw after (sym (ap (λ rest. row ∷ rest) (kept order key rows (none_before_earlier order key row.key rows after h.0))))
    ]

-- one step more
pub steps_more : {A : Type 0} (step : A → Option RowEntry → A → Type 0) (before now after : A) (rows : List RowEntry) (row : RowEntry) → Steps step before rows now → step now (Some row) after → Steps step before (rows ++ (row ∷ [])) after
steps_more step before now after [] row s t = (after, subst (λ x. step x (Some row) after) (sym s) t, refl)
steps_more step before now after (first ∷ rows) row s t = (s.0, s.1, steps_more step s.0 now after rows row s.2 t)
