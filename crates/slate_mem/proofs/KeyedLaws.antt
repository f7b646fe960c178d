-- A lone operation stands as the entries of a map would.
use Rattle.std.proofs.Common.{◌≡◌, ◌∙◌, ℕ, Bool, true, false, cond, List, [], ◌∷◌, refl, ap, sym}
use Rattle.std.specs.List.Sorted.{IsStrictlySortedBy}
use Rattle.std.specs.BTreeMap.Range.{entries_between}
use Rattle.slate_types.specs.Keys.{key_cmp, in_range}
use Rattle.slate_types.specs.declared.bytes_range.BytesRange.{BytesRange}
use Rattle.slate_types.proofs.KeyBounds.{range_contains_in_range}
use Rattle.slate_mem.specs.declared.batch_iterator.Stamps.{Stamps}
use Rattle.slate_mem.specs.BatchRows.{stamped, newest_rows, rows_of_lone}
use Rattle.slate_mem.specs.declared.WriteOp.{WriteOp}
use Rattle.slate_mem.specs.Kept.{Entries, HasMore}
use Rattle.slate_mem.specs.KeyedOps.{one_op}

pub one_rises : (k : List ℕ) → IsStrictlySortedBy key_cmp (k ∷ [])
unfolding IsStrictlySortedBy
one_rises k = (tt, tt)

pub first_more : (k : List ℕ) (op : WriteOp) → HasMore [] ((k, one_op op) ∷ []) k op
first_more k op = record { list = one_op op; items = refl; is = refl; rising = one_rises k }

-- the row of a lone operation is that of its entry, where this is in the range
pub lone_between : (range : BytesRange) (s : Stamps) (k : List ℕ) (op : WriteOp) →
    rows_of_lone range s k op ≡ newest_rows s (entries_between key_cmp range.start range.end ((k, one_op op) ∷ []))
lone_between range s k op = by (in_range range k) ∙ ap (λ b. newest_rows s (cond b ((k, one_op op) ∷ []) [])) (sym (range_contains_in_range range k))
  where
    by : (b : Bool) → cond b (stamped s k op ∷ []) [] ≡ newest_rows s (cond b ((k, one_op op) ∷ []) [])
    by true = refl
    by false = refl
