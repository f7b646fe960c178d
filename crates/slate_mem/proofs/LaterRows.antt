-- Rows of a table that are put into an empty one, and the prefixes of their keys.
use Rattle.std.proofs.Common.{◌≡◌, Bool, true, false, cond, List, [], ◌∷◌, ◌++◌, map, filter, filter_map, append_assoc, append-nil, refl, sym, ap, subst, ◌∙◌, Less, Greater}
use Rattle.std.specs.Ordering.{match_ordering, ordering_reverse}
use Rattle.std.specs.List.{AllByRecursion}
use Rattle.std.specs.List.Sorted.{IsStrictlySortedBy}
use Rattle.std.specs.Map.{keys_of, values_of}
use Rattle.slate_types.specs.declared.types.RowEntry.{RowEntry}
use Rattle.slate_types.specs.Rows.{sequenced, sequenced_cmp}
use Rattle.slate_types.proofs.RowLaws.{sequenced_total}
use Rattle.slate_types.specs.Keys.{keys_set}
use Rattle.slate_types.proofs.KeySetLaws.{set_rises}
use Rattle.slate_mem.specs.KeyTests.{Segments, prefix_by}
use Rattle.slate_mem.specs.Segments.{row_prefixes}
use Rattle.slate_mem.specs.Table.{put_row, put_rows}
use Rattle.slate_mem.specs.Tied.{TableEntries, IsRows, insert_rows}
use Rattle.slate_mem.proofs.TableLaws.{AreKeyed, rows_put_all, set_of_set, tied_keyed}

abbrev pub Rise : List RowEntry → Type 0
Rise rows = IsStrictlySortedBy sequenced_cmp (map sequenced rows)

keys_are : (es : TableEntries) → AreKeyed es → keys_of es ≡ map sequenced (values_of es)
keys_are [] h = refl
keys_are (e ∷ es) h = λ i. h.0 i ∷ keys_are es h.1 i

pub table_rises : (es : TableEntries) → IsRows es → Rise (values_of es)
table_rises es w = subst (IsStrictlySortedBy sequenced_cmp) (keys_are es (tied_keyed es w.tied)) w.rising

AllPast : RowEntry → List RowEntry → Type 0
AllPast r rows = AllByRecursion (λ k. sequenced_cmp (sequenced r) k ≡ Less) (map sequenced rows)

past_filtered : (p : RowEntry → Bool) (r : RowEntry) (rows : List RowEntry) → AllPast r rows → AllPast r (filter p rows)
unfolding AllPast
past_filtered p r [] h = tt
past_filtered p r (s ∷ rows) h = by (p s) (past_filtered p r rows h.1)
  where
    by : (b : Bool) → AllPast r (filter p rows) → AllPast r (cond b (s ∷ filter p rows) (filter p rows))
    by true later = (h.0, later)
    by false later = later

pub rises_filtered : (p : RowEntry → Bool) (rows : List RowEntry) → Rise rows → Rise (filter p rows)
unfolding IsStrictlySortedBy AllPast
rises_filtered p [] h = tt
rises_filtered p (r ∷ rows) h = by (p r) (rises_filtered p rows h.1)
  where
    by : (b : Bool) → Rise (filter p rows) → Rise (cond b (r ∷ filter p rows) (filter p rows))
    by true later = (past_filtered p r rows h.0, later)
    by false later = later

past_last : (d r : RowEntry) (done rest : List RowEntry) → AllPast d (done ++ (r ∷ rest)) → sequenced_cmp (sequenced r) (sequenced d) ≡ Greater
unfolding AllPast
past_last d r [] rest h = sequenced_total.antisymm (sequenced r) (sequenced d) ∙ ap ordering_reverse h.0
past_last d r (e ∷ done) rest h = past_last d r done rest h.1

put_last : (done rest : List RowEntry) (r : RowEntry) → Rise (done ++ (r ∷ rest)) → put_row done r ≡ done ++ (r ∷ [])
unfolding IsStrictlySortedBy AllPast
put_last [] rest r h = refl
put_last (d ∷ done) rest r h =
    ap (λ o. match_ordering o (r ∷ d ∷ done) (r ∷ done) (d ∷ put_row done r)) (past_last d r done rest h.0)
    ∙ ap (λ rs. d ∷ rs) (put_last done rest r h.1)

-- rising rows that are put in turn stand as they were
pub put_rising : (rest done : List RowEntry) → Rise (done ++ rest) → put_rows done rest ≡ done ++ rest
put_rising [] done h = sym (append-nil done)
put_rising (r ∷ rest) done h =
    let more : done ++ (r ∷ rest) ≡ (done ++ (r ∷ [])) ++ rest = sym (append_assoc done (r ∷ []) rest) in
    ap (λ rs. put_rows rs rest) (put_last done rest r h) ∙ put_rising rest (done ++ (r ∷ [])) (subst Rise more h) ∙ sym more

-- prefixes of rows that are recorded by themselves
pub prefixes_alone : (segments : Segments) (rows : List RowEntry) → keys_set (row_prefixes segments rows) ≡ row_prefixes segments rows
prefixes_alone segments rows = set_of_set (row_prefixes segments rows) (set_rises (filter_map (λ r. prefix_by segments r.key) rows))

-- ---- rows that are put one by one into an empty table

pub no_entries : IsRows []
unfolding IsStrictlySortedBy
no_entries = record { tied = tt; rising = tt }

pub put_kept : (p : RowEntry → Bool) (es : TableEntries) (r : RowEntry) (rows : List RowEntry) → insert_rows (insert_rows es (filter p (r ∷ []))) (filter p rows) ≡ insert_rows es (filter p (r ∷ rows))
put_kept p es r rows = by (p r)
  where
    by : (b : Bool) → insert_rows (insert_rows es (cond b (r ∷ []) [])) (filter p rows) ≡ insert_rows es (cond b (r ∷ filter p rows) (filter p rows))
    by true = refl
    by false = refl

pub put_alike : (p q : RowEntry → Bool) (es : TableEntries) → IsRows es → values_of (insert_rows [] (filter p (filter q (values_of es)))) ≡ filter p (filter q (values_of es))
put_alike p q es w = rows_put_all (filter p (filter q (values_of es))) [] tt ∙ put_rising (filter p (filter q (values_of es))) [] (rises_filtered p (filter q (values_of es)) (rises_filtered q (values_of es) (table_rises es w)))
