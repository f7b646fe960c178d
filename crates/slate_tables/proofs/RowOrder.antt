-- Rows in a table's order, and one more behind them.
--     comes_last rows row      the last of the rows stands before the row, or there is none
use Rattle.std.proofs.Common.{◌≡◌, ◌-◌, Bool, true, List, [], ◌∷◌, ◌++◌, length, Some, sym, ap, ◌∙◌, subst, refl, arith, Ordering, Less, Equal, Greater}
use Rattle.std.specs.Prelude.{◌↔◌, IsTrue, slice_get}
use Rattle.std.specs.List.{AllByRecursion}
use Rattle.std.specs.Ordering.{is_lt}
use Rattle.slate_types.specs.declared.types.RowEntry.{RowEntry}
use Rattle.slate_types.specs.Rows.{row_lt, sequenced, sequenced_cmp}
use Rattle.slate_types.proofs.RowLaws.{sequenced_total, rows_by_sequenced}
use Rattle.slate_table.specs.Table.{AreInOrder}

less : (o : Ordering) → is_lt o ≡ true → o ≡ Less
less Less h = refl
less Equal h = cc
less Greater h = cc

before_later : (a b c : RowEntry) → IsTrue (row_lt a b) → IsTrue (row_lt b c) → IsTrue (row_lt a c)
before_later a b c h k =
    let first : sequenced_cmp (sequenced a) (sequenced b) ≡ Less = less (sequenced_cmp (sequenced a) (sequenced b)) (sym (rows_by_sequenced a b) ∙ h) in
    let second : sequenced_cmp (sequenced b) (sequenced c) ≡ Less = less (sequenced_cmp (sequenced b) (sequenced c)) (sym (rows_by_sequenced b c) ∙ k) in
    rows_by_sequenced a c ∙ ap is_lt (sequenced_total.trans (sequenced a) (sequenced b) (sequenced c) first second)

abbrev pub comes_last : List RowEntry → RowEntry → Bool
comes_last [] row = true
comes_last (r ∷ []) row = row_lt r row
comes_last (r ∷ s ∷ rs) row = comes_last (s ∷ rs) row

pub last_tells : (rows : List RowEntry) (q row : RowEntry) → slice_get rows (length rows - 1) ≡ Some q → comes_last rows row ≡ row_lt q row
last_tells [] q row h = absurd cc
last_tells (r ∷ []) q row h = cc
last_tells (r ∷ s ∷ rs) q row h =
    let place : length (r ∷ s ∷ rs) - 1 ≡ length (s ∷ rs) = omega arith in
    let later : length (s ∷ rs) - 1 ≡ length rs = omega arith in
    last_tells (s ∷ rs) q row (ap (slice_get (s ∷ rs)) later ∙ sym (ap (slice_get (r ∷ s ∷ rs)) place) ∙ h)

-- a row behind the first ones is behind each of them
all_before : (r row : RowEntry) (rs : List RowEntry) → AllByRecursion (λ s. IsTrue (row_lt r s)) rs → IsTrue (row_lt r row) → AllByRecursion (λ s. IsTrue (row_lt r s)) (rs ++ row ∷ [])
all_before r row [] h k = (k, tt)
all_before r row (s ∷ rs) h k = (h.0, all_before r row rs h.1 k)

behind_last : (r row : RowEntry) (rs : List RowEntry) → AreInOrder (r ∷ rs) → IsTrue (comes_last (r ∷ rs) row) → IsTrue (row_lt r row)
behind_last r row [] h k = k
behind_last r row (s ∷ rs) h k = before_later r s row h.0.0 (behind_last s row rs h.1 k)

pub ordered_behind : (rows : List RowEntry) (row : RowEntry) → AreInOrder rows → IsTrue (comes_last rows row) → AreInOrder (rows ++ row ∷ [])
ordered_behind [] row h k = (tt, tt)
ordered_behind (r ∷ []) row h k = ((k, tt), (tt, tt))
ordered_behind (r ∷ s ∷ rs) row h k = (all_before r row (s ∷ rs) h.0 (behind_last r row (s ∷ rs) h k), ordered_behind (s ∷ rs) row h.1 k)

pub last_before : (rows : List RowEntry) (row : RowEntry) → AreInOrder (rows ++ row ∷ []) → IsTrue (comes_last rows row)
last_before [] row h = refl
last_before (r ∷ []) row h = h.0.0
last_before (r ∷ s ∷ rs) row h = last_before (s ∷ rs) row h.1

pub follows_tells : (rows slice : List RowEntry) (q row : RowEntry) (t : Bool) → slice ≡ rows → slice_get slice (length slice - 1) ≡ Some q → t ≡ row_lt q row → AreInOrder rows → (IsTrue t ↔ AreInOrder (rows ++ row ∷ []))
follows_tells rows slice q row t same last is order =
    let tells : comes_last rows row ≡ row_lt q row = last_tells rows q row (subst (λ (l : List RowEntry). slice_get l (length l - 1) ≡ Some q) same last) in
    (λ h. ordered_behind rows row order (tells ∙ sym is ∙ h), λ h. is ∙ sym tells ∙ last_before rows row h)
