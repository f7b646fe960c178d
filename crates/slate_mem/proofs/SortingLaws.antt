-- Rows that are sorted by key upwards: those of a key stay in their order.
use Rattle.std.proofs.Common.{◌≡◌, ℕ, zero, suc, ◌<◌, ◌≤◌, Bool, false, not, ◌&&◌, List, [], ◌∷◌, filter, get_or, length, bytes_eq, None, refl, sym, ap, ◌∙◌, arith, Ordering, Less, Equal, Greater}
use Rattle.std.specs.Ordering.{is_eq, is_lt, ordering_reverse}
use Rattle.std.specs.Cmp.{IsStrictWeakOrder}
use Rattle.std.specs.List.Sorted.{IsSortedBy, IsStableBy}
use Rattle.std.proofs.lemmas.Cmp.{nat_list_cmp_total}
use Rattle.std.proofs.lemmas.List.Sorted.{ranks_by, sorted_far}
use Rattle.std.proofs.lemmas.Map.Text.{is_eq-slice_cmp}
use Rattle.slate_types.specs.declared.types.RowEntry.{RowEntry}
use Rattle.slate_types.specs.declared.types.ValueDeletable.TheVariants.{Tombstone}
use Rattle.slate_types.specs.declared.iter.IterationOrder.TheVariants.{Ascending}
use Rattle.slate_types.specs.Keys.{key_cmp}
use Rattle.slate_types.specs.Iteration.{NoneBefore, IsInOrder}
use Rattle.slate_types.proofs.KeyOrder.{turned_key}
use Rattle.slate_types.specs.Rows.{of_key}

abbrev pub rises : RowEntry → RowEntry → Bool
rises a b = is_lt (key_cmp a.key b.key)

pub rises_weakly : IsStrictWeakOrder rises
rises_weakly = ranks_by nat_list_cmp_total (λ (r : RowEntry). r.key)

tie : (k : List ℕ) (r : RowEntry) → (not (is_lt (key_cmp k r.key)) && not (is_lt (key_cmp r.key k))) ≡ bytes_eq r.key k
tie k r =
    ap (λ o. not (is_lt (key_cmp k r.key)) && not (is_lt o)) (turned_key r.key k) ∙ by (key_cmp k r.key)
    ∙ sym (ap is_eq (turned_key r.key k)) ∙ is_eq-slice_cmp r.key k
  where
    by : (o : Ordering) → (not (is_lt o) && not (is_lt (ordering_reverse o))) ≡ is_eq (ordering_reverse o)
    by Less = refl
    by Equal = refl
    by Greater = refl

-- rows that tie are those of one key
pub stable_keys : (xs ys : List RowEntry) → IsStableBy rises xs ys → (k : List ℕ) → of_key k ys ≡ of_key k xs
stable_keys xs ys h k =
    let row : RowEntry = record { key = k; value = Tombstone; seq = 0; create_ts = None; expire_ts = None } in
    sym (λ i. filter (λ r. tie k r i) ys) ∙ h row ∙ (λ i. filter (λ r. tie k r i) xs)

Rising : List RowEntry → Type 0
Rising xs = (i j : ℕ) (d : RowEntry) → i ≤ j → j < length xs → rises (get_or xs j d) (get_or xs i d) ≡ false

none_below : (r : RowEntry) (rs : List RowEntry) → ((j : ℕ) (d : RowEntry) → j < length rs → rises (get_or rs j d) r ≡ false) → NoneBefore Ascending r.key rs
none_below r [] h = tt
none_below r (s ∷ rs) h = (h zero s (omega arith), none_below r rs (λ j d below. h (suc j) d (omega arith)))

rising : (rs : List RowEntry) → Rising rs → IsInOrder Ascending rs
unfolding Rising
rising [] h = tt
rising (r ∷ rs) h = (none_below r rs (λ j d below. h zero (suc j) d (omega arith) (omega arith)), rising rs (λ i j d upto below. h (suc i) (suc j) d (omega arith) (omega arith)))

pub sorted_rises : (rs : List RowEntry) → IsSortedBy rises rs → IsInOrder Ascending rs
unfolding Rising
sorted_rises rs h = rising rs (λ i j d upto below. sorted_far rises rises_weakly rs h i j d upto below)
