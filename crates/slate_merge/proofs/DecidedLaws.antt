-- What dedup leaves.
use Rattle.std.proofs.Common.{◌≡◌, ℕ, ◌+◌, ◌-◌, ◌^◌, min, Bool, true, false, ◌&&◌, List, [], ◌∷◌, refl, sym, ap, ◌∙◌, subst, inl, inr, arith, Option, Some, None}
use Rattle.std.specs.Prelude.{bytes_eq}
use Rattle.std.proofs.lemmas.Slice.Eq.{bytes_eq-Decides}
use Rattle.slate_types.specs.declared.types.RowEntry.{RowEntry}
use Rattle.slate_types.specs.declared.iter.IterationOrder.{IterationOrder}
use Rattle.slate_types.specs.Rows.{is_operand, is_base}
use Rattle.slate_types.specs.Iteration.{comes_before, drop_before}
use Rattle.slate_merge.specs.Merge.{is_hidden, decides, decided_after, decided, shown_rows, past_key, with_key, rows_after, counted, row_bytes}
use Rattle.slate_merge.specs.MergeSteps.{TakesMerged}
use Rattle.slate_merge.specs.Turns.{both}

pub decided_past : (key : List ℕ) (rows : List RowEntry) → decided_after (Some key) rows ≡ decided (past_key key rows)
decided_past key [] = refl
decided_past key (r ∷ rows) = elim (both (bytes_eq key r.key)) as (λ _. decided_after (Some key) (r ∷ rows) ≡ decided (past_key key (r ∷ rows))) [
  | inl e ↦ rw e (decided_past key rows)
  | inr e ↦ rw e refl
]

pub shown_first : (dedup : Bool) (r : RowEntry) (rows : List RowEntry) → shown_rows dedup (r ∷ rows) ≡ r ∷ shown_rows dedup (rows_after dedup (r ∷ rows))
shown_first false r rows = refl
shown_first true r rows = elim (both (is_operand r)) as (λ _. shown_rows true (r ∷ rows) ≡ r ∷ shown_rows true (rows_after true (r ∷ rows))) [
  | inl e ↦ rw e refl
  | inr e ↦ rw e (ap (λ l. r ∷ l) (decided_past r.key rows))
]

-- a key that is hidden comes before the sought one
abbrev IsHiddenBefore : IterationOrder → List ℕ → Option (List ℕ) → Type 0
IsHiddenBefore order key None = Unit {0}
IsHiddenBefore order key (Some k) = comes_before order k key ≡ true

not_hidden : (order : IterationOrder) (key : List ℕ) (hidden : Option (List ℕ)) (k : List ℕ) → IsHiddenBefore order key hidden → comes_before order k key ≡ false → is_hidden hidden k ≡ false
not_hidden order key None k h e = refl
not_hidden order key (Some s) k h e = elim (both (bytes_eq s k)) as (λ _. bytes_eq s k ≡ false) [
  | inl same ↦
      let is : s ≡ k = (bytes_eq-Decides s k).0 same in
      let other : comes_before order k key ≡ true = subst (λ x. comes_before order x key ≡ true) is h in
      cc
  | inr other ↦ other
]

decides_before : (order : IterationOrder) (key : List ℕ) (r : RowEntry) → comes_before order r.key key ≡ true → IsHiddenBefore order key (decides r)
decides_before order key r e = elim (both (is_operand r)) as (λ _. IsHiddenBefore order key (decides r)) [
  | inl o ↦ rw o tt
  | inr o ↦ rw o e
]

decided_dropped : (order : IterationOrder) (key : List ℕ) (hidden : Option (List ℕ)) (rows : List RowEntry) → IsHiddenBefore order key hidden → drop_before order key (decided_after hidden rows) ≡ decided (drop_before order key rows)
decided_dropped order key hidden [] h = refl
decided_dropped order key hidden (r ∷ rows) h = elim (both (comes_before order r.key key)) as (λ _. drop_before order key (decided_after hidden (r ∷ rows)) ≡ decided (drop_before order key (r ∷ rows))) [
  | inl before ↦ elim (both (is_hidden hidden r.key)) as (λ _. drop_before order key (decided_after hidden (r ∷ rows)) ≡ decided (drop_before order key (r ∷ rows))) [
    | inl e ↦ rw (e, before) (decided_dropped order key hidden rows h)
    | inr e ↦ rw (e, before) (decided_dropped order key (decides r) rows (decides_before order key r before))
  ]
  | inr after ↦
      let shown = not_hidden order key hidden r.key h after in
      rw (shown, after) refl
]

-- a seek of what dedup leaves is what it leaves of the seek
pub shown_dropped : (order : IterationOrder) (dedup : Bool) (key : List ℕ) (rows : List RowEntry) → drop_before order key (shown_rows dedup rows) ≡ shown_rows dedup (drop_before order key rows)
shown_dropped order true key rows = decided_dropped order key None rows tt
shown_dropped order false key rows = refl

one_more : (n k : ℕ) (r : RowEntry) → k ≡ min (n + min (row_bytes r) (2 ^ 64 - 1)) (2 ^ 64 - 1) → k ≡ min (n + row_bytes r) (2 ^ 64 - 1)
one_more n k r e = omega (arith, e)

-- a step whose row decides none of the others
pub takes_alone : (dedup : Bool) (r : RowEntry) (before after : List RowEntry) (n k : ℕ) → (dedup && is_base r) ≡ false → before ≡ r ∷ after → k ≡ min (n + min (row_bytes r) (2 ^ 64 - 1)) (2 ^ 64 - 1) → TakesMerged dedup before after n k
takes_alone dedup r before after n k e is count = rw (is, e) (refl, one_more n k r count)

pub shown_alone : (dedup : Bool) (r : RowEntry) (before after : List RowEntry) → (dedup && is_base r) ≡ false → before ≡ r ∷ after → shown_rows dedup before ≡ r ∷ shown_rows dedup after
shown_alone dedup r before after e is = rw is (shown_first dedup r after ∙ ap (λ l. r ∷ shown_rows dedup l) (rw e refl))

-- and one whose row does
pub takes_older : (dedup : Bool) (r : RowEntry) (before mid after : List RowEntry) (n k m : ℕ) → (dedup && is_base r) ≡ true → before ≡ r ∷ mid → after ≡ past_key r.key mid → k ≡ min (n + min (row_bytes r) (2 ^ 64 - 1)) (2 ^ 64 - 1)
    → m ≡ counted k (with_key r.key mid) → TakesMerged dedup before after n m
takes_older dedup r before mid after n k m e is past count more = rw (is, e) (past, more ∙ ap (λ c. counted c (with_key r.key mid)) (one_more n k r count))

pub shown_older : (dedup : Bool) (r : RowEntry) (before mid after : List RowEntry) → (dedup && is_base r) ≡ true → before ≡ r ∷ mid → after ≡ past_key r.key mid → shown_rows dedup before ≡ r ∷ shown_rows dedup after
shown_older dedup r before mid after e is past = rw is (shown_first dedup r mid ∙ ap (λ l. r ∷ shown_rows dedup l) (rw e (sym past)))
