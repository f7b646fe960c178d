-- The rows of a range stand in the blocks that can hold its keys.
use Rattle.std.proofs.Common.{◌≡◌, ◌<◌, ◌≤◌, ◌-◌, ℕ, suc, zero, Bool, true, false, cond, List, [], ◌∷◌, ◌++◌, take, drop, filter, flat_map, Some, refl, sym, ap, subst, ◌∙◌, arith, append-nil, append_assoc}
use Rattle.std.specs.Prelude.{reverse, slice_get}
use Rattle.std.specs.List.{AllByRecursion}
use Rattle.std.proofs.lemmas.List.Elements.{filter-append}
use Rattle.std.proofs.lemmas.List.{reverse-append}
use Rattle.slate_types.specs.declared.bytes_range.BytesRange.{BytesRange}
use Rattle.slate_types.specs.declared.types.RowEntry.{RowEntry}
use Rattle.slate_types.specs.declared.iter.IterationOrder.{IterationOrder}
use Rattle.slate_types.specs.declared.iter.IterationOrder.TheVariants.{Ascending, Descending}
use Rattle.slate_types.specs.Iteration.{IsInOrder, NoneBefore, comes_before, in_order}
use Rattle.slate_types.specs.Keys.{in_range, is_refused}
use Rattle.slate_merge.specs.declared.filter_iterator.FilterIterator.{FilterIterator}
use Rattle.slate_read.specs.RangeRows.{IsRangeOf}
use Rattle.slate_read.specs.declared.fetch_limits.FetchLimits.{FetchLimits}
use Rattle.slate_read.specs.declared.range_rows.InRange.{InRange}
use Rattle.slate_read.specs.declared.table_state.TableWalk.{TableWalk}
use Rattle.slate_types.specs.Partitions.{CanHold, covering_end, covering_start}
use Rattle.slate_types.proofs.PartitionLaws.{covers}
use Rattle.slate_table.specs.declared.info.SsTableHandle.{SsTableHandle}
use Rattle.slate_types.specs.World.{Kept, World}
use Rattle.slate_read.specs.TableWalk.{IsReadable, IsSoundAt, IsSoundWalk, rest_of, is_in, rest_at, rest_covered, rows_between, rows_in}
use Rattle.slate_read.specs.declared.table_state.TableState.TheVariants.{New}

front_holds : (p : RowEntry → Bool) (blocks : List (List RowEntry)) (stop : ℕ) → ((i : ℕ) (b : List RowEntry) → slice_get blocks i ≡ Some b → stop ≤ i → filter p b ≡ []) →
    filter p (flat_map (λ x. x) (take stop blocks)) ≡ filter p (flat_map (λ x. x) blocks)
front_holds p [] zero h = refl
front_holds p [] (suc n) h = refl
front_holds p (b ∷ bs) zero h =
    front_holds p bs zero (λ i c is le. h (suc i) c is (omega arith))
    ∙ sym (filter-append p b (flat_map (λ x. x) bs) ∙ ap (λ xs. xs ++ filter p (flat_map (λ x. x) bs)) (h 0 b refl (omega arith)))
front_holds p (b ∷ bs) (suc n) h =
    filter-append p b (flat_map (λ x. x) (take n bs))
    ∙ ap (λ xs. filter p b ++ xs) (front_holds p bs n (λ i c is le. h (suc i) c is (omega (arith, le))))
    ∙ sym (filter-append p b (flat_map (λ x. x) bs))

abbrev no_blocks : List (List RowEntry)
no_blocks = []

take_none : (n : ℕ) → flat_map (λ x. x) (take n no_blocks) ≡ []
take_none zero = refl
take_none (suc n) = refl

between : (p : RowEntry → Bool) (blocks : List (List RowEntry)) (first stop : ℕ) → ((i : ℕ) (b : List RowEntry) → slice_get blocks i ≡ Some b → (first ≤ i → i < stop → ⊥) → filter p b ≡ []) →
    filter p (flat_map (λ x. x) (take (stop - first) (drop first blocks))) ≡ filter p (flat_map (λ x. x) blocks)
between p blocks zero stop h =
    let whole : stop - 0 ≡ stop = omega arith in
    ap (λ n. filter p (flat_map (λ x. x) (take n blocks))) whole ∙ front_holds p blocks stop (λ i b is le. h i b is (λ a below. omega (arith, le, below)))
between p [] (suc f) stop h = ap (filter p) (take_none (stop - suc f))
between p (b ∷ bs) (suc f) stop h =
    let size : stop - suc f ≡ (stop - 1) - f = omega arith in
    ap (λ n. filter p (flat_map (λ x. x) (take n (drop f bs)))) size
    ∙ between p bs f (stop - 1) (λ i c is out. h (suc i) c is (λ a below. out (omega (arith, a)) (omega (arith, below))))
    ∙ sym (filter-append p b (flat_map (λ x. x) bs) ∙ ap (λ xs. xs ++ filter p (flat_map (λ x. x) bs)) (h 0 b refl (λ a below. omega (arith, a))))

none_in : (range : BytesRange) (keys : List (List ℕ)) (i : ℕ) (b : List RowEntry) → AllByRecursion (λ r. CanHold keys i r.key) b → ((r : RowEntry) → CanHold keys i r.key → in_range range r.key ≡ true → ⊥) → filter (is_in range) b ≡ []
none_in range keys i [] h out = refl
none_in range keys i (r ∷ rs) h out = by (in_range range r.key) refl (none_in range keys i rs h.1 out)
  where
    by : (t : Bool) → in_range range r.key ≡ t → filter (is_in range) rs ≡ [] → cond t (r ∷ filter (is_in range) rs) (filter (is_in range) rs) ≡ []
    by true e none = absurd (out r h.0 e)
    by false e none = none

pub covered : (w : World) (h : SsTableHandle) (kept : Kept) (range : BytesRange) → IsReadable w h kept → let first = covering_start kept.keys range.start in
    filter (is_in range) (rows_between kept first (covering_end kept.keys first range.end)) ≡ filter (is_in range) (flat_map (λ b. b) kept.blocks)
covered w h kept range table =
    let first = covering_start kept.keys range.start in
    between (is_in range) kept.blocks first (covering_end kept.keys first range.end)
    (λ i b is out. none_in range kept.keys i b (table.holds i b is) (λ r can inside. let k = covers kept.keys table.sorted range.start range.end i r.key can inside in out k.0 k.1))

-- ---- in either order

filter_reverse : (p : RowEntry → Bool) (rows : List RowEntry) → filter p (reverse rows) ≡ reverse (filter p rows)
filter_reverse p [] = refl
filter_reverse p (r ∷ rs) = ap (filter p) (reverse-append (r ∷ []) rs) ∙ filter-append p (reverse rs) (r ∷ []) ∙ ap (λ (l : List RowEntry). l ++ filter p (r ∷ [])) (filter_reverse p rs) ∙ by (p r)
  where
    by : (t : Bool) → reverse (filter p rs) ++ cond t (r ∷ []) [] ≡ reverse (cond t (r ∷ filter p rs) (filter p rs))
    by true = sym (reverse-append (r ∷ []) (filter p rs))
    by false = append-nil (reverse (filter p rs))

pub filter_order : (order : IterationOrder) (p : RowEntry → Bool) (rows : List RowEntry) → filter p (in_order order rows) ≡ in_order order (filter p rows)
filter_order Ascending p rows = refl
filter_order Descending p rows = filter_reverse p rows

pub range_rows : (w : World) (h : SsTableHandle) (kept : Kept) (range : BytesRange) (order : IterationOrder) → IsReadable w h kept → filter (is_in range) (rest_at range h order New w) ≡ rows_in range order kept
range_rows w h kept range order table =
    let first = covering_start kept.keys range.start in
    ap (λ (o : _). filter (is_in range) (rest_covered range order o)) table.held
    ∙ filter_order order (is_in range) (rows_between kept first (covering_end kept.keys first range.end)) ∙ ap (in_order order) (covered w h kept range table)

-- ---- rows in an order

pub in_front : (o : IterationOrder) (xs ys : List RowEntry) → IsInOrder o (xs ++ ys) → IsInOrder o xs
in_front o [] ys h = tt
in_front o (x ∷ xs) ys h = (none xs h.0, in_front o xs ys h.1)
  where
    none : (zs : List RowEntry) → NoneBefore o x.key (zs ++ ys) → NoneBefore o x.key zs
    none [] k = tt
    none (z ∷ zs) k = (k.0, none zs k.1)

pub in_back : (o : IterationOrder) (xs ys : List RowEntry) → IsInOrder o (xs ++ ys) → IsInOrder o ys
in_back o [] ys h = h
in_back o (x ∷ xs) ys h = in_back o xs ys h.1

pub blocks_split : (bs : List (List RowEntry)) (n : ℕ) → flat_map (λ b. b) bs ≡ flat_map (λ b. b) (take n bs) ++ flat_map (λ b. b) (drop n bs)
blocks_split bs zero = refl
blocks_split [] (suc n) = refl
blocks_split (b ∷ bs) (suc n) = ap (λ (l : List RowEntry). b ++ l) (blocks_split bs n) ∙ sym (append_assoc b (flat_map (λ x. x) (take n bs)) (flat_map (λ x. x) (drop n bs)))

pub in_part : (o : IterationOrder) (bs : List (List RowEntry)) (i n : ℕ) → IsInOrder o (flat_map (λ b. b) bs) → IsInOrder o (flat_map (λ b. b) (take n (drop i bs)))
in_part o bs i n h =
    let behind = in_back o (flat_map (λ b. b) (take i bs)) (flat_map (λ b. b) (drop i bs)) (subst (IsInOrder o) (blocks_split bs i) h) in
    in_front o (flat_map (λ b. b) (take n (drop i bs))) (flat_map (λ b. b) (drop n (drop i bs))) (subst (IsInOrder o) (blocks_split (drop i bs) n) behind)

none_last : (o : IterationOrder) (k : List ℕ) (xs : List RowEntry) (r : RowEntry) → NoneBefore o k xs → comes_before o r.key k ≡ false → NoneBefore o k (xs ++ (r ∷ []))
none_last o k [] r h e = (e, tt)
none_last o k (x ∷ xs) r h e = (h.0, none_last o k xs r h.1 e)

none_turned : (o : IterationOrder) (k : List ℕ) (xs : List RowEntry) → NoneBefore o k xs → NoneBefore o k (reverse xs)
none_turned o k [] h = tt
none_turned o k (x ∷ xs) h = subst (NoneBefore o k) (sym (reverse-append (x ∷ []) xs)) (none_last o k (reverse xs) x (none_turned o k xs h.1) h.0)

order_last : (xs : List RowEntry) (r : RowEntry) → IsInOrder Descending xs → NoneBefore Ascending r.key xs → IsInOrder Descending (xs ++ (r ∷ []))
order_last [] r h k = (tt, tt)
order_last (x ∷ xs) r h k = (none_last Descending x.key xs r h.0 k.0, order_last xs r h.1 k.1)

turned_order : (xs : List RowEntry) → IsInOrder Ascending xs → IsInOrder Descending (reverse xs)
turned_order [] h = tt
turned_order (x ∷ xs) h = subst (IsInOrder Descending) (sym (reverse-append (x ∷ []) xs)) (order_last (reverse xs) x (turned_order xs h.1) (none_turned Ascending x.key xs h.0))

pub either_order : (order : IterationOrder) (rows : List RowEntry) → IsInOrder Ascending rows → IsInOrder order (in_order order rows)
either_order Ascending rows h = h
either_order Descending rows h = turned_order rows h

-- a walk that wasn't begun is sound in each world that has its table
pub unbegun : (w : World) (h : SsTableHandle) (kept : Kept) (range : BytesRange) (order : IterationOrder) → IsReadable w h kept → IsSoundAt range h order New w
unbegun w h kept range order table =
    let first = covering_start kept.keys range.start in
    record {
      state = (kept, table);
      rising = subst (IsInOrder order) (sym (ap (rest_covered range order) table.held)) (either_order order (rows_between kept first (covering_end kept.keys first range.end)) (in_part Ascending kept.blocks first (covering_end kept.keys first range.end - first) table.rising));
    }

pub is_range : (range kept_range : BytesRange) (table : SsTableHandle) (order : IterationOrder) (limits : FetchLimits) (fits : is_refused range.start range.end ≡ false) (it : FilterIterator TableWalk InRange) →
    it.iterator ≡ record { range = range; table = table; order = order; limits = limits; state = New; fits = fits } → it.predicate ≡ record { range = kept_range } → kept_range ≡ range → IsRangeOf range table order it
is_range range kept_range table order limits fits it is keeps same = λ w kept readable. (
  subst (λ (x : TableWalk). IsSoundWalk x w) (sym is) (unbegun w table kept range order readable),
  (λ i. filter (is_in ((ap (λ (p : InRange). p.range) keeps ∙ same) i)) (rest_of (is i) w)) ∙ range_rows w table kept range order readable,
)
