-- What a put does to a list of rows that rises, and that its keys ascend.
use Rattle.std.proofs.Common.{◌≡◌, ◌<◌, ℕ, zero, suc, false, List, [], ◌∷◌, ◌++◌, map, take, drop, get_or, length, refl, ap, ◌∙◌, arith, slice_set, Ordering, Less, Equal, Greater}
use Rattle.std.specs.Ordering.{is_lt, nat_cmp, ordering_then, ordering_reverse, match_ordering}
use Rattle.std.specs.List.{AllByRecursion}
use Rattle.std.specs.List.Sorted.{IsStrictlySortedBy}
use Rattle.slate_types.specs.declared.types.RowEntry.{RowEntry}
use Rattle.slate_types.specs.declared.sequenced_key.SequencedKey.{SequencedKey}
use Rattle.slate_types.specs.declared.iter.IterationOrder.TheVariants.{Ascending}
use Rattle.slate_types.specs.Keys.{key_cmp}
use Rattle.slate_types.specs.Rows.{sequenced, sequenced_cmp}
use Rattle.slate_types.specs.Iteration.{NoneBefore, IsInOrder}
use Rattle.slate_types.proofs.KeyOrder.{turned_key}
use Rattle.slate_types.proofs.RowLaws.{sequenced_total}
use Rattle.slate_mem.specs.Table.{put_row}
use Rattle.slate_lower_tests.specs.SortedRows.{Rises}
use Rattle.slate_mem.proofs.OrderLaws.{not_below}

-- a row goes in place of its equal
pub put_at_equal : (rows : List RowEntry) (i : ℕ) (row d : RowEntry) → i < length rows → sequenced_cmp (sequenced row) (sequenced (get_or rows i d)) ≡ Equal → take i rows ++ put_row (drop i rows) row ≡ slice_set rows i row
put_at_equal [] i row d h e = absurd (omega arith)
put_at_equal (r ∷ rs) zero row d h e = rw e refl
put_at_equal (r ∷ rs) (suc i) row d h e = ap (λ ys. r ∷ ys) (put_at_equal rs i row d (omega arith) e)

-- ---- a list that rises still does

AllBehind : SequencedKey → List RowEntry → Type 0
AllBehind k rows = AllByRecursion (λ x. sequenced_cmp k x ≡ Less) (map sequenced rows)

behind_earlier : (j k : SequencedKey) (rows : List RowEntry) → sequenced_cmp j k ≡ Less → AllBehind k rows → AllBehind j rows
unfolding AllBehind
behind_earlier j k [] h hs = tt
behind_earlier j k (r ∷ rs) h hs = (sequenced_total.trans j k (sequenced r) h hs.0, behind_earlier j k rs h hs.1)

behind_same : (j k : SequencedKey) (rows : List RowEntry) → sequenced_cmp j k ≡ Equal → AllBehind k rows → AllBehind j rows
unfolding AllBehind
behind_same j k [] h hs = tt
behind_same j k (r ∷ rs) h hs = (sequenced_total.congr j k (sequenced r) h ∙ hs.0, behind_same j k rs h hs.1)

behind_put : (k : SequencedKey) (row : RowEntry) (rows : List RowEntry) → sequenced_cmp k (sequenced row) ≡ Less → AllBehind k rows → AllBehind k (put_row rows row)
unfolding AllBehind
behind_put k row [] h hs = (h, tt)
behind_put k row (r ∷ rs) h hs = by (sequenced_cmp (sequenced row) (sequenced r)) (behind_put k row rs h hs.1)
  where
    by : (o : Ordering) → AllBehind k (put_row rs row) → AllBehind k (match_ordering o (row ∷ r ∷ rs) (row ∷ rs) (r ∷ put_row rs row))
    by Less later = (h, hs)
    by Equal later = (h, hs.1)
    by Greater later = (hs.0, later)

pub put_rises : (row : RowEntry) (rows : List RowEntry) → Rises rows → Rises (put_row rows row)
unfolding AllBehind IsStrictlySortedBy
put_rises row [] h = (tt, tt)
put_rises row (r ∷ rs) h = by (sequenced_cmp (sequenced row) (sequenced r)) refl (put_rises row rs h.1)
  where
    by : (o : Ordering) → sequenced_cmp (sequenced row) (sequenced r) ≡ o → Rises (put_row rs row) → Rises (match_ordering o (row ∷ r ∷ rs) (row ∷ rs) (r ∷ put_row rs row))
    by Less e later = ((e, behind_earlier (sequenced row) (sequenced r) rs e h.0), h)
    by Equal e later = (behind_same (sequenced row) (sequenced r) rs e h.0, h.1)
    by Greater e later = (behind_put (sequenced r) row rs (sequenced_total.antisymm (sequenced r) (sequenced row) ∙ ap ordering_reverse e) h.0, later)

-- ---- its keys ascend

none_before : (r : RowEntry) (rows : List RowEntry) → AllBehind (sequenced r) rows → NoneBefore Ascending r.key rows
unfolding AllBehind
none_before r [] h = tt
none_before r (s ∷ ss) h = (ap is_lt (turned_key s.key r.key) ∙ not_below (key_cmp r.key s.key) (nat_cmp s.seq r.seq) h.0, none_before r ss h.1)

pub keys_ascend : (rows : List RowEntry) → Rises rows → IsInOrder Ascending rows
unfolding AllBehind IsStrictlySortedBy
keys_ascend [] h = tt
keys_ascend (r ∷ rs) h = (none_before r rs h.0, keys_ascend rs h.1)
