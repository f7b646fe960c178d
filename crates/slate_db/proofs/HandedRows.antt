-- The rows that are handed out where there is no operator.
use Rattle.std.proofs.Common.{◌≡◌, ℕ, inl, inr, false, List, ◌++◌, append_assoc, Option, Some, None, sym, ap, subst, ◌∙◌}
use Rattle.slate_types.specs.declared.types.KeyValue.{KeyValue}
use Rattle.slate_types.specs.declared.types.RowEntry.{RowEntry}
use Rattle.slate_types.specs.Outside.{Act, Meaning, Reach}
use Rattle.slate_types.specs.Rows.{key_value}
use Rattle.slate_types.specs.World.{Made}
use Rattle.slate_types.proofs.Calls.{call_both}
use Rattle.slate_merge.specs.declared.folding.Folding.{Folding}
use Rattle.slate_merge.specs.declared.operator_iterator.MergeOperatorIterator.{MergeOperatorIterator}
use Rattle.slate_merge.specs.Folding.{is_open}
use Rattle.slate_merge.specs.NoMoreRows.{NoMoreRows}
use Rattle.slate_merge.specs.Offers.{Offer, Comes, offers}
use Rattle.slate_merge.specs.OperatorIterators.{Seeks, Takes}
use Rattle.slate_merge.specs.Peeking.{TakesAhead}
use Rattle.slate_merge.proofs.Calling.{brings_taken_row}
use Rattle.slate_merge.proofs.FoldBringings.{held_less}
use Rattle.slate_merge.proofs.Offerings.{offers_gone}
use Rattle.slate_db.specs.Values.{IsUnfolded}

-- what is brought behind the reads of two calls
pub offered_both : {A R : Type 0} (offered : A → Meaning → List Act → R → Type 0) (a b c : Reach) (x y z : A) → Made a b (λ reads. NoMoreRows (offered x a.meaning) reads (offered y a.meaning)) → Made b c (λ reads. NoMoreRows (offered y b.meaning) reads (offered z b.meaning)) →
    Made a c (λ reads. NoMoreRows (offered x a.meaning) reads (offered z a.meaning))
offered_both offered a b c x y z (first, f, less) (last, l, more) = (
  first ++ last,
  call_both a b c first last f l,
  λ later r k.
      subst (λ (acts : List Act). offered x a.meaning acts r) (sym (append_assoc first last later))
      (less (last ++ later) r (subst (λ (m : Meaning). NoMoreRows (offered y m) last (offered z m)) f.meaning more later r k)),
)

module _ {S : Type 0} (begins : S → Meaning → List Act → S → Type 0) (takes : S → Meaning → List Act → Option RowEntry → S → Type 0) (seeks : S → Meaning → List Act → List ℕ → S → Type 0) where
  abbrev pub Offered : MergeOperatorIterator S → Meaning → List Act → Offer → Type 0
  Offered it m reads o = offers begins takes seeks it.ahead it.iterator m reads o

  pub taken_less : (x y : MergeOperatorIterator S) (m : Meaning) (reads : List Act) (answer : Option RowEntry) → Takes takes x m reads answer y → NoMoreRows (Offered x m) reads (Offered y m)
  taken_less x y m reads answer t = held_less begins takes seeks m x.iterator y.iterator x.ahead y.ahead reads t.3.1

  pub sought_less : (x y : MergeOperatorIterator S) (m : Meaning) (reads : List Act) (key : List ℕ) → Seeks seeks x m reads key y → NoMoreRows (Offered x m) reads (Offered y m)
  sought_less x y m reads key (going, goes, same, inl (none, is)) later o k = subst (λ (acts : List Act). Offered x m (acts ++ later) o) (sym none) (subst (λ (it : MergeOperatorIterator S). Offered it m later o) is k)
  sought_less x y m reads key (going, goes, same, inr (gone, sought)) later o k = offers_gone begins takes seeks m x.iterator y.iterator reads (inr (inr (key, sought))) x.ahead y.ahead gone later o k

  taken_row : (m : Meaning) (x y : S) (ahead : Option RowEntry) (reads : List Act) (row : RowEntry) → TakesAhead (λ u rs a v. takes u m rs a v) ahead reads (Some row) x y → offers begins takes seeks ahead x m reads (Comes row)
  taken_row m x y None reads row t = brings_taken_row begins takes seeks x m reads row y t
  taken_row m x y (Some first) reads row (is, none, same) = inl cc

  -- without an operator a row is handed out as it was brought, and is no operand that isn't above the barrier
  pub handed : (a b c : Reach) (x y z : MergeOperatorIterator S) (row : RowEntry) (value : KeyValue) → Made a b (λ reads. NoMoreRows (Offered x a.meaning) reads (Offered y a.meaning)) → y.folding ≡ x.folding → Made b c (λ reads. Takes takes y b.meaning reads (Some row) z) → value ≡ key_value row →
      a.meaning.combine ≡ None → Made a c (λ reads. IsUnfolded x.folding.snapshot_barrier_seq (λ r. Offered x a.meaning reads (Comes r)) value)
  handed a b c x y z row value (first, f, less) same (last, l, t) is none =
      let h = t.3.0 (ap (λ (m : Meaning). m.combine) f.meaning ∙ none) in (
        first ++ last,
        call_both a b c first last f l,
        record {
          row = row;
          closed = subst (λ (k : Folding). is_open k.snapshot_barrier_seq row ≡ false) same h.0;
          value = is;
          brought = less last (Comes row) (subst (λ (m : Meaning). Offered y m last (Comes row)) f.meaning (taken_row b.meaning y.iterator z.iterator y.ahead last row h.1));
        },
      )
