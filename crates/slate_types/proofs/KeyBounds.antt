-- The bounds of a range of keys, as a map takes them.
use Rattle.std.proofs.Common.{◌≡◌, ℕ, ◌&&◌, not, List, refl, sym, ap, ◌∙◌, Ordering, Less, Equal, Greater, false}
use Rattle.std.specs.Ordering.{is_lt, is_le, is_gt, ordering_reverse}
use Rattle.std.specs.BTreeMap.Range.{IsLeBy, IsLtBy, is_past_end, range_contains}
use Rattle.std.specs.Range.Bound.{IsForward}
use Rattle.std.specs.declared.ops.Bound.{Bound}
use Rattle.std.specs.declared.ops.Bound.TheVariants.{Included, Excluded, Unbounded}
use Rattle.slate_types.specs.declared.bytes_range.BytesRange.{BytesRange}
use Rattle.slate_types.specs.Keys.{key_cmp, key_le, is_past_start, is_before_end, in_range, is_refused}
use Rattle.slate_types.proofs.KeyOrder.{turned_key}

-- what is not up to a key is past it
pub less_from : (a b : List ℕ) → key_le b a ≡ false → key_cmp a b ≡ Less
less_from a b h = by (key_cmp a b) (sym (ap is_le (turned_key b a)) ∙ h)
  where
    by : (o : Ordering) → is_le (ordering_reverse o) ≡ false → o ≡ Less
    by Less g = refl
    by Equal g = cc
    by Greater g = cc

-- bounds that a range may have are in order
pub forward_bounds : (start end : Bound (List ℕ)) → is_refused start end ≡ false → IsForward (IsLeBy key_cmp) (IsLtBy key_cmp) start end
forward_bounds Unbounded end h = tt
forward_bounds (Included a) (Included b) h = upto (key_cmp a b) (sym (ap is_lt (turned_key b a)) ∙ h)
  where
    upto : (o : Ordering) → is_lt (ordering_reverse o) ≡ false → is_gt o ≡ false
    upto Less g = refl
    upto Equal g = refl
    upto Greater g = cc
forward_bounds (Included a) (Excluded b) h = ap is_gt (less_from a b h)
forward_bounds (Included a) Unbounded h = tt
forward_bounds (Excluded a) (Included b) h = ap is_gt (less_from a b h)
forward_bounds (Excluded a) (Excluded b) h = less_from a b h
forward_bounds (Excluded a) Unbounded h = tt

upto_end : (end : Bound (List ℕ)) (k : List ℕ) → not (is_past_end key_cmp end k) ≡ is_before_end end k
upto_end Unbounded k = refl
upto_end (Included b) k = by (key_cmp b k) ∙ sym (ap is_le (turned_key k b))
  where
    by : (o : Ordering) → not (is_lt o) ≡ is_le (ordering_reverse o)
    by Less = refl
    by Equal = refl
    by Greater = refl
upto_end (Excluded b) k = by (key_cmp b k) ∙ sym (ap is_lt (turned_key k b))
  where
    by : (o : Ordering) → not (is_le o) ≡ is_lt (ordering_reverse o)
    by Less = refl
    by Equal = refl
    by Greater = refl

from_start : (start : Bound (List ℕ)) (end : Bound (List ℕ)) (k : List ℕ) → range_contains key_cmp start end k ≡ (is_past_start start k && not (is_past_end key_cmp end k))
from_start Unbounded end k = refl
from_start (Included a) end k = refl
from_start (Excluded a) end k = refl

-- a map's range has the keys that are in the range
pub range_contains_in_range : (range : BytesRange) (k : List ℕ) → range_contains key_cmp range.start range.end k ≡ in_range range k
range_contains_in_range range k = from_start range.start range.end k ∙ ap (λ b. is_past_start range.start k && b) (upto_end range.end k)
