-- A range's bounds, as a map takes them.
use Rattle.std.proofs.Common.{◌≡◌, ℕ, ◌&&◌, Bool, true, false, cond, [], ◌∷◌, Option, None, refl, sym, ◌∙◌, ltb}
use Rattle.std.specs.BTreeMap.Range.{range_contains, entries_between}
use Rattle.slate_types.specs.declared.bytes_range.BytesRange.{BytesRange}
use Rattle.slate_types.specs.Keys.{key_cmp, in_range, is_refused}
use Rattle.slate_types.proofs.RangeLaws.{refused_holds_none}
use Rattle.slate_txn.specs.Conflict.{with_greatest}
use Rattle.slate_txn.specs.Managers.{newest_kept}
use Rattle.slate_txn.proofs.Keeps.{Entries, same_test, no_test}
use Rattle.slate_types.proofs.KeyBounds.{range_contains_in_range}

-- ---- what is kept in a range

pub none_in : (r : BytesRange) (b : ℕ) (es : Entries) → is_refused r.start r.end ≡ true → newest_kept (in_range r) b es ≡ None
none_in r b es h = same_test (in_range r) (λ k. false) b es (λ k. refused_holds_none r.start r.end k h) ∙ no_test b es

pub all_in : (r : BytesRange) (b : ℕ) (es : Entries) → newest_kept (λ _. true) b (entries_between key_cmp r.start r.end es) ≡ newest_kept (in_range r) b es
all_in r b [] = refl
all_in r b (e ∷ es) = by (range_contains key_cmp r.start r.end e.0) refl (all_in r b es)
  where
    some : Entries → Option ℕ
    some rest = newest_kept (λ _. true) b rest

    by : (t : Bool) → range_contains key_cmp r.start r.end e.0 ≡ t → newest_kept (λ _. true) b (entries_between key_cmp r.start r.end es) ≡ newest_kept (in_range r) b es →
        newest_kept (λ _. true) b (cond t (e ∷ entries_between key_cmp r.start r.end es) (entries_between key_cmp r.start r.end es)) ≡ cond (ltb b e.1 && in_range r e.0) (with_greatest e.1 (newest_kept (in_range r) b es)) (newest_kept (in_range r) b es)
    by true d h = let is = sym d ∙ range_contains_in_range r e.0 in λ i. cond (ltb b e.1 && is i) (with_greatest e.1 (h i)) (h i)
    by false d h = h ∙ (let is = sym d ∙ range_contains_in_range r e.0 in sym ((λ i. cond (ltb b e.1 && sym is i) (with_greatest e.1 (newest_kept (in_range r) b es)) (newest_kept (in_range r) b es)) ∙ none (ltb b e.1)))
      where
        none : (c : Bool) → cond (c && false) (with_greatest e.1 (newest_kept (in_range r) b es)) (newest_kept (in_range r) b es) ≡ newest_kept (in_range r) b es
        none true = refl
        none false = refl
