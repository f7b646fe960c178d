-- A range of keys, as a range of keys with sequences.
use Rattle.std.proofs.Common.{◌≡◌, ℕ, ◌<◌, ◌-◌, ◌^◌, true, false, cond, not, ◌&&◌, List, [], ◌∷◌, refl, sym, ap, ◌∙◌, arith, Ordering, Less, Equal, Greater}
use Rattle.std.specs.Ordering.{is_lt, is_le, is_gt, ordering_then, ordering_reverse, nat_cmp}
use Rattle.std.specs.List.{AllByRecursion}
use Rattle.std.specs.Map.{values_of}
use Rattle.std.specs.BTreeMap.Range.{IsLeBy, IsLtBy, is_from_start, is_past_end, range_contains, entries_between}
use Rattle.std.specs.Range.Bound.{IsForward}
use Rattle.std.specs.declared.ops.Bound.{Bound}
use Rattle.std.specs.declared.ops.Bound.TheVariants.{Included, Excluded, Unbounded}
use Rattle.std.proofs.lemmas.Bool.Decides.{nat_tests}
use Rattle.slate_types.specs.declared.types.RowEntry.{RowEntry}
use Rattle.slate_types.specs.declared.bytes_range.BytesRange.{BytesRange}
use Rattle.slate_types.specs.Keys.{key_cmp, key_lt, is_past_start, is_before_end, in_range, is_refused}
use Rattle.slate_types.specs.Rows.{sequenced, sequenced_cmp}
use Rattle.slate_types.proofs.KeyOrder.{turned_key}
use Rattle.slate_types.proofs.RangeLaws.{refused_holds_none}
use Rattle.slate_mem.specs.Table.{ranged}
use Rattle.slate_mem.specs.Tied.{TableEntries, AreTied}
use Rattle.slate_mem.specs.KeyRange.{first_place, last_place}
use Rattle.slate_mem.proofs.TableLaws.{values_filtered}
use Rattle.slate_types.proofs.KeyBounds.{less_from}

-- ---- numbers

fits : (m : ℕ) → m < 2 ^ 64 → is_le (nat_cmp m (2 ^ 64 - 1)) ≡ true
fits m h = grind (arith, nat_tests)

never_below : (m : ℕ) → is_lt (nat_cmp m 0) ≡ false
never_below m = grind (arith, nat_tests)

-- ---- the bounds of a range that holds keys are forward

upto_from : (a b : List ℕ) → key_lt b a ≡ false → is_gt (ordering_then (key_cmp a b) (nat_cmp 0 (2 ^ 64 - 1))) ≡ false
upto_from a b h = by (key_cmp a b) (sym (ap is_lt (turned_key b a)) ∙ h)
  where
    by : (o : Ordering) → is_lt (ordering_reverse o) ≡ false → is_gt (ordering_then o (nat_cmp 0 (2 ^ 64 - 1))) ≡ false
    by Less g = refl
    by Equal g = refl
    by Greater g = cc

pub forward : (start end : Bound (List ℕ)) → is_refused start end ≡ false → IsForward (IsLeBy sequenced_cmp) (IsLtBy sequenced_cmp) (first_place start) (last_place end)
forward Unbounded end h = tt
forward (Included a) (Included b) h = upto_from a b h
forward (Included a) (Excluded b) h = ap (λ o. is_gt (ordering_then o (nat_cmp (2 ^ 64 - 1) (2 ^ 64 - 1)))) (less_from a b h)
forward (Included a) Unbounded h = tt
forward (Excluded a) (Included b) h = ap (λ o. is_gt (ordering_then o (nat_cmp 0 0))) (less_from a b h)
forward (Excluded a) (Excluded b) h = ap (λ o. ordering_then o (nat_cmp (2 ^ 64 - 1) 0)) (less_from a b h)
forward (Excluded a) Unbounded h = tt

-- ---- rows between the bounds are those of the range

from_start : (start : Bound (List ℕ)) (r : RowEntry) → r.seq < 2 ^ 64 → is_from_start sequenced_cmp (first_place start) (sequenced r) ≡ is_past_start start r.key
from_start Unbounded r h = refl
from_start (Included a) r h = by (key_cmp a r.key)
  where
    by : (o : Ordering) → is_le (ordering_then o (nat_cmp r.seq (2 ^ 64 - 1))) ≡ is_le o
    by Less = refl
    by Equal = fits r.seq h
    by Greater = refl
from_start (Excluded a) r h = by (key_cmp a r.key)
  where
    by : (o : Ordering) → is_lt (ordering_then o (nat_cmp r.seq 0)) ≡ is_lt o
    by Less = refl
    by Equal = never_below r.seq
    by Greater = refl

upto_end : (end : Bound (List ℕ)) (r : RowEntry) → r.seq < 2 ^ 64 → not (is_past_end sequenced_cmp (last_place end) (sequenced r)) ≡ is_before_end end r.key
upto_end Unbounded r h = refl
upto_end (Included b) r h = by (key_cmp b r.key) ∙ sym (ap is_le (turned_key r.key b))
  where
    by : (o : Ordering) → not (is_lt (ordering_then o (nat_cmp r.seq 0))) ≡ is_le (ordering_reverse o)
    by Less = refl
    by Equal = ap not (never_below r.seq)
    by Greater = refl
upto_end (Excluded b) r h = by (key_cmp b r.key) ∙ sym (ap is_lt (turned_key r.key b))
  where
    by : (o : Ordering) → not (is_le (ordering_then o (nat_cmp r.seq (2 ^ 64 - 1)))) ≡ is_lt (ordering_reverse o)
    by Less = refl
    by Equal = ap not (fits r.seq h)
    by Greater = refl

each_place : (range : BytesRange) (es : TableEntries) → AreTied es →
    AllByRecursion (λ e. range_contains sequenced_cmp (first_place range.start) (last_place range.end) e.0 ≡ in_range range e.1.key) es
each_place range [] t = tt
each_place range (e ∷ es) t = (
  ap (range_contains sequenced_cmp (first_place range.start) (last_place range.end)) t.0.0
      ∙ (λ i. from_start range.start e.1 t.0.1 i && upto_end range.end e.1 t.0.1 i),
  each_place range es t.1,
)

pub between_is_ranged : (range : BytesRange) (es : TableEntries) → AreTied es → values_of (entries_between sequenced_cmp (first_place range.start) (last_place range.end) es) ≡ ranged range (values_of es)
between_is_ranged range es t =
    values_filtered (range_contains sequenced_cmp (first_place range.start) (last_place range.end)) (λ r. in_range range r.key) es (each_place range es t)

-- ---- bounds that leave no range

pub none_ranged : (range : BytesRange) (rows : List RowEntry) → is_refused range.start range.end ≡ true → ranged range rows ≡ []
none_ranged range [] h = refl
none_ranged range (r ∷ rs) h = ap (λ b. cond b (r ∷ ranged range rs) (ranged range rs)) (refused_holds_none range.start range.end r.key h) ∙ none_ranged range rs h

-- two open bounds hold all entries
pub all_between : {K X : Type 0} (R : K → K → Ordering) (es : List (K × X)) → entries_between R Unbounded Unbounded es ≡ es
all_between R [] = refl
all_between R (e ∷ es) = ap (λ fs. e ∷ fs) (all_between R es)
