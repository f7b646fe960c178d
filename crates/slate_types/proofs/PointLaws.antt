-- What a range of one key holds.
use Rattle.std.proofs.Common.{◌≡◌, ℕ, Bool, true, false, cond, ◌&&◌, List, Some, None, unwrap_or, refl, sym, ap, ◌∙◌, Ordering, Less, Equal, Greater, bytes_eq}
use Rattle.std.specs.Ordering.{is_eq, is_le, ordering_reverse}
use Rattle.std.proofs.lemmas.Map.Text.{is_eq-slice_cmp}
use Rattle.std.proofs.lemmas.Slice.Eq.{bytes_eq-Decides}
use Rattle.std.specs.declared.ops.Bound.{Bound}
use Rattle.std.specs.declared.ops.Bound.TheVariants.{Included, Excluded, Unbounded}
use Rattle.slate_types.specs.declared.bytes_range.BytesRange.{BytesRange}
use Rattle.slate_types.specs.Keys.{key_cmp, key_le, in_range, is_past_start, is_before_end, point_of, point_between}
use Rattle.slate_types.proofs.KeyOrder.{turned_key}

both_ways : (o : Ordering) → (is_le o && is_le (ordering_reverse o)) ≡ is_eq o
both_ways Less = refl
both_ways Equal = refl
both_ways Greater = refl

le_both : (a k : List ℕ) → (key_le a k && key_le k a) ≡ bytes_eq a k
le_both a k = ap (λ o. is_le (key_cmp a k) && is_le o) (turned_key k a) ∙ both_ways (key_cmp a k) ∙ is_eq-slice_cmp a k

Some_is : (x y : List ℕ) → Some x ≡ Some y → x ≡ y
Some_is x y e = ap (λ o. unwrap_or o x) e

between : (start end : Bound (List ℕ)) (p k : List ℕ) → point_between start end ≡ Some p → (is_past_start start k && is_before_end end k) ≡ bytes_eq p k
between (Included a) (Included b) p k e = by (bytes_eq a b) refl e
  where
    by : (t : Bool) → bytes_eq a b ≡ t → cond t (Some a) None ≡ Some p → (key_le a k && key_le k b) ≡ bytes_eq p k
    by true is f = ap (λ x. key_le a k && key_le k x) (sym ((bytes_eq-Decides a b).0 is)) ∙ le_both a k ∙ ap (λ x. bytes_eq x k) (Some_is a p f)
    by false is f = cc
between (Included a) (Excluded b) p k e = cc
between (Included a) Unbounded p k e = cc
between (Excluded a) end p k e = cc
between Unbounded end p k e = cc

-- A range of one included key has that key alone.
pub point_key : (r : BytesRange) (p k : List ℕ) → point_of r ≡ Some p → in_range r k ≡ bytes_eq p k
point_key r p k e = between r.start r.end p k e
