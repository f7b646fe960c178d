-- Rows of a table are in order, and so they are when they are sorted by key downwards.
use Rattle.std.proofs.Common.{◌≡◌, ℕ, zero, suc, ◌<◌, ◌≤◌, Bool, false, not, ◌&&◌, List, [], ◌∷◌, filter, get_or, length, bytes_eq, None, refl, sym, ap, subst, ◌∙◌, arith, Ordering, Less, Equal, Greater}
use Rattle.std.specs.Ordering.{is_eq, is_lt, ordering_then, ordering_reverse, nat_cmp}
use Rattle.std.specs.Cmp.{IsStrictWeakOrder}
use Rattle.std.specs.List.{AllByRecursion}
use Rattle.std.specs.List.Sorted.{IsStrictlySortedBy, IsSortedBy, IsStableBy}
use Rattle.std.specs.Map.{keys_of, values_of}
use Rattle.std.proofs.lemmas.Cmp.{nat_list_cmp_total}
use Rattle.std.proofs.lemmas.List.Sorted.{ranks_by, IsStrictWeakOrder-flip, sorted_far}
use Rattle.std.proofs.lemmas.Map.Text.{is_eq-slice_cmp}
use Rattle.slate_types.specs.declared.types.RowEntry.{RowEntry}
use Rattle.slate_types.specs.declared.types.ValueDeletable.TheVariants.{Tombstone}
use Rattle.slate_types.specs.declared.iter.IterationOrder.TheVariants.{Ascending, Descending}
use Rattle.slate_types.specs.Keys.{key_cmp, key_lt}
use Rattle.slate_types.specs.Rows.{sequenced, sequenced_cmp, of_key}
use Rattle.slate_types.specs.Iteration.{NoneBefore, IsInOrder}
use Rattle.slate_types.proofs.KeyOrder.{turned_key}
use Rattle.slate_mem.specs.Tied.{TableEntries, IsRows}
use Rattle.slate_mem.proofs.TableLaws.{AreKeyed, tied_keyed}

-- ---- upwards

pub not_below : (o p : Ordering) → ordering_then o p ≡ Less → is_lt (ordering_reverse o) ≡ false
not_below Less p h = refl
not_below Equal p h = refl
not_below Greater p h = cc

behind : (r s : RowEntry) → sequenced_cmp (sequenced r) (sequenced s) ≡ Less → key_lt s.key r.key ≡ false
behind r s h = ap is_lt (turned_key s.key r.key) ∙ not_below (key_cmp r.key s.key) (nat_cmp s.seq r.seq) h

none_before : (r : RowEntry) (es : TableEntries) → AreKeyed es → AllByRecursion (λ k. sequenced_cmp (sequenced r) k ≡ Less) (keys_of es) → NoneBefore Ascending r.key (values_of es)
none_before r [] t h = tt
none_before r (e ∷ es) t h = (behind r e.1 (ap (sequenced_cmp (sequenced r)) (sym t.0) ∙ h.0), none_before r es t.1 h.1)

ascending : (es : TableEntries) → AreKeyed es → IsStrictlySortedBy sequenced_cmp (keys_of es) → IsInOrder Ascending (values_of es)
unfolding IsStrictlySortedBy
ascending [] t h = tt
ascending (e ∷ es) t h =
    (none_before e.1 es t.1 (subst (λ k. AllByRecursion (λ q. sequenced_cmp k q ≡ Less) (keys_of es)) t.0 h.0), ascending es t.1 h.1)

pub rows_ascend : (es : TableEntries) → IsRows es → IsInOrder Ascending (values_of es)
rows_ascend es w = ascending es (tied_keyed es w.tied) w.rising

-- ---- downwards

abbrev pub falls : RowEntry → RowEntry → Bool
falls a b = is_lt (key_cmp b.key a.key)

pub falls_weakly : IsStrictWeakOrder falls
falls_weakly = IsStrictWeakOrder-flip (λ a b. is_lt (key_cmp a.key b.key)) (ranks_by nat_list_cmp_total (λ (r : RowEntry). r.key))

tie : (k : List ℕ) (r : RowEntry) → (not (is_lt (key_cmp r.key k)) && not (is_lt (key_cmp k r.key))) ≡ bytes_eq r.key k
tie k r =
    ap (λ o. not (is_lt o) && not (is_lt (key_cmp k r.key))) (turned_key r.key k) ∙ by (key_cmp k r.key)
    ∙ sym (ap is_eq (turned_key r.key k)) ∙ is_eq-slice_cmp r.key k
  where
    by : (o : Ordering) → (not (is_lt (ordering_reverse o)) && not (is_lt o)) ≡ is_eq (ordering_reverse o)
    by Less = refl
    by Equal = refl
    by Greater = refl

-- rows that tie are those of one key
pub stable_keys : (xs ys : List RowEntry) → IsStableBy falls xs ys → (k : List ℕ) → of_key k ys ≡ of_key k xs
stable_keys xs ys h k =
    let row : RowEntry = record { key = k; value = Tombstone; seq = 0; create_ts = None; expire_ts = None } in
    sym (λ i. filter (λ r. tie k r i) ys) ∙ h row ∙ (λ i. filter (λ r. tie k r i) xs)

Falling : List RowEntry → Type 0
Falling xs = (i j : ℕ) (d : RowEntry) → i ≤ j → j < length xs → falls (get_or xs j d) (get_or xs i d) ≡ false

none_above : (r : RowEntry) (rs : List RowEntry) → ((j : ℕ) (d : RowEntry) → j < length rs → falls (get_or rs j d) r ≡ false) → NoneBefore Descending r.key rs
none_above r [] h = tt
none_above r (s ∷ rs) h = (h zero s (omega arith), none_above r rs (λ j d below. h (suc j) d (omega arith)))

falling : (rs : List RowEntry) → Falling rs → IsInOrder Descending rs
unfolding Falling
falling [] h = tt
falling (r ∷ rs) h = (none_above r rs (λ j d below. h zero (suc j) d (omega arith) (omega arith)), falling rs (λ i j d upto below. h (suc i) (suc j) d (omega arith) (omega arith)))

pub sorted_falls : (rs : List RowEntry) → IsSortedBy falls rs → IsInOrder Descending rs
unfolding Falling
sorted_falls rs h = falling rs (λ i j d upto below. sorted_far falls falls_weakly rs h i j d upto below)
