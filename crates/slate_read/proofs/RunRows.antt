-- The rows of a run in a range, the newest of each key first.
use Rattle.std.proofs.Common.{◌≡◌, ℕ, Bool, true, false, cond, List, [], ◌∷◌, ◌++◌, filter, Option, Some, None, refl, sym, ap, subst, ◌∙◌, append-nil}
use Rattle.std.specs.Prelude.{reverse}
use Rattle.std.specs.List.{AllByRecursion}
use Rattle.std.specs.Ordering.{is_lt, nat_cmp, ordering_then, ordering_reverse}
use Rattle.std.specs.declared.cmp.Ordering.{Ordering}
use Rattle.std.specs.declared.cmp.Ordering.TheVariants.{Greater}
use Rattle.std.specs.declared.ops.Bound.{Bound}
use Rattle.std.specs.declared.ops.Bound.TheVariants.{Included, Excluded, Unbounded}
use Rattle.std.proofs.lemmas.List.Elements.{filter-append}
use Rattle.std.proofs.lemmas.List.{reverse-append}
use Rattle.slate_types.specs.declared.bytes_range.BytesRange.{BytesRange}
use Rattle.slate_types.specs.declared.types.RowEntry.{RowEntry}
use Rattle.slate_types.specs.declared.iter.IterationOrder.{IterationOrder}
use Rattle.slate_types.specs.declared.iter.IterationOrder.TheVariants.{Ascending, Descending}
use Rattle.slate_types.specs.Iteration.{IsInOrder, NoneBefore, in_order}
use Rattle.slate_types.specs.Keys.{in_range, is_before_end, is_past_start, is_refused, key_cmp, key_le, key_lt}
use Rattle.slate_types.specs.Partitions.{covering_end, covering_start}
use Rattle.slate_types.specs.RowTurns.{AreInTurn, NoneEarlier, row_before}
use Rattle.slate_types.specs.World.{Kept, World}
use Rattle.slate_types.proofs.KeyOrder.{is_less, le_lt_trans, lt_irreflexive, lt_le_trans, lt_trans, not_le, turned_key}
use Rattle.slate_types.proofs.Lists.{AllByRecursion_append, AllByRecursion_behind, AllByRecursion_filter, AllByRecursion_front, AllByRecursion_reverse, AllByRecursion_weaken}
use Rattle.slate_table.specs.declared.info.SsTableHandle.{SsTableHandle}
use Rattle.slate_table.specs.declared.info.SsTableInfo.{SsTableInfo}
use Rattle.slate_table.specs.Finding.{encloses, is_from, is_upto}
use Rattle.slate_table.specs.InfoReading.{seen_info}
use Rattle.slate_merge.specs.declared.filter_iterator.FilterIterator.{FilterIterator}
use Rattle.slate_merge.specs.declared.newest_first.NewestFirst.{NewestFirst}
use Rattle.slate_merge.specs.declared.progress.Progress.{Progress}
use Rattle.slate_merge.specs.declared.progress.Progress.TheVariants.{New as ProgressNew}
use Rattle.slate_merge.specs.Groups.{in_turn}
use Rattle.slate_merge.specs.NewestFirst.{rest_newest, sound_newest}
use Rattle.slate_merge.proofs.Turns.{either_turn, turn_filtered}
use Rattle.slate_read.specs.declared.range_rows.InRange.{InRange}
use Rattle.slate_read.specs.declared.run_state.RunCursor.{RunCursor}
use Rattle.slate_read.specs.declared.run_state.RunState.TheVariants.{New}
use Rattle.slate_read.specs.declared.run_state.RunWalk.{RunWalk}
use Rattle.slate_read.specs.declared.sorted_run.SortedRun.{SortedRun}
use Rattle.slate_read.specs.RunIterators.{AreBelow, AreEachReadable, AreReadable, AreRisingTables, BringsRun, IsRunIterator, IsRunOf, all_rows, reached, rows_in_run, run_rows, run_source_order, run_source_rest, run_source_sound}
use Rattle.slate_read.specs.RunWalk.{AreHeld, IsNewRun, IsSoundOpen, IsSoundRunWalk, can_reach, reaches_end, reaches_start, rest_of_run, rest_run, rest_waiting, waiting}
use Rattle.slate_read.specs.TableWalk.{IsReadable, is_in, path_in, rest_covered}
use Rattle.slate_read.proofs.Ranges.{either_order, filter_order, range_rows, unbegun}
use Rattle.slate_read.proofs.Runs.{rest_parts}
use Rattle.slate_read.proofs.RunSeeks.{all_part, waiting_both}
use Rattle.slate_types.proofs.Plain.{both_true, and_both}

-- ---- tables that can't hold a key of the range

le_trans : (a b c : List ℕ) → key_le a b ≡ true → key_le b c ≡ true → key_le a c ≡ true
le_trans a b c h k = by (key_le a c) refl
  where
    by : (t : Bool) → key_le a c ≡ t → t ≡ true
    by true e = refl
    by false e = lt_irreflexive a (le_lt_trans a b a h (le_lt_trans b c a k (not_le a c e)))

past_later : (start : Bound (List ℕ)) (k l : List ℕ) → is_past_start start k ≡ true → key_le k l ≡ true → is_past_start start l ≡ true
past_later (Included a) k l h le = le_trans a k l h le
past_later (Excluded a) k l h le = lt_le_trans a k l h le
past_later Unbounded k l h le = refl

before_earlier : (end : Bound (List ℕ)) (k f : List ℕ) → is_before_end end k ≡ true → key_le f k ≡ true → is_before_end end f ≡ true
before_earlier (Included b) k f h le = le_trans f k b le h
before_earlier (Excluded b) k f h le = le_lt_trans f k b le h
before_earlier Unbounded k f h le = refl

reach_of : (range : BytesRange) (info : SsTableInfo) (k : List ℕ) → in_range range k ≡ true → encloses (seen_info info) k ≡ true → can_reach range info ≡ true
reach_of range info k inside enclosed =
    and_both (reaches_start range info.last_entry) (reaches_end range info.first_entry) (from_start info.last_entry within.1) (from_end info.first_entry within.0)
  where
    both : (is_past_start range.start k ≡ true) × (is_before_end range.end k ≡ true)
    both = both_true (is_past_start range.start k) (is_before_end range.end k) inside

    within : (is_from info.first_entry k ≡ true) × (is_upto info.last_entry k ≡ true)
    within = both_true (is_from info.first_entry k) (is_upto info.last_entry k) enclosed

    from_start : (o : Option (List ℕ)) → is_upto o k ≡ true → reaches_start range o ≡ true
    from_start None h = refl
    from_start (Some last) h = past_later range.start k last both.0 h

    from_end : (o : Option (List ℕ)) → is_from o k ≡ true → reaches_end range o ≡ true
    from_end None h = refl
    from_end (Some first) h = before_earlier range.end k first both.1 h

none_reached : (range : BytesRange) (info : SsTableInfo) (rows : List RowEntry) → can_reach range info ≡ false → AllByRecursion (λ r. encloses (seen_info info) r.key ≡ true) rows → filter (is_in range) rows ≡ []
none_reached range info [] out enclosed = refl
none_reached range info (r ∷ rows) out enclosed = by (in_range range r.key) refl (none_reached range info rows out enclosed.1)
  where
    by : (t : Bool) → in_range range r.key ≡ t → filter (is_in range) rows ≡ [] → cond t (r ∷ filter (is_in range) rows) (filter (is_in range) rows) ≡ []
    by true e none = let clash : true ≡ false = sym (reach_of range info r.key e enclosed.0) ∙ out in cc
    by false e none = none

-- ---- the rows that are left, upwards

abbrev reaching : BytesRange → List SsTableHandle → List SsTableHandle
reaching range tables = filter (λ h. can_reach range h.info) tables

left_rows : (range : BytesRange) (w : World) (tables : List SsTableHandle) (kepts : List Kept) → AreEachReadable w tables kepts → filter (is_in range) (rest_waiting range Ascending (reaching range tables) w) ≡ filter (is_in range) (run_rows kepts)
left_rows range w [] [] each = refl
left_rows range w [] (kept ∷ kepts) each = absurd each
left_rows range w (h ∷ tables) [] each = absurd each
left_rows range w (h ∷ tables) (kept ∷ kepts) each = by (can_reach range h.info) refl (left_rows range w tables kepts each.1)
  where
    rest : List RowEntry
    rest = rest_waiting range Ascending (reaching range tables) w

    by : (t : Bool) → can_reach range h.info ≡ t → filter (is_in range) rest ≡ filter (is_in range) (run_rows kepts) → filter (is_in range) (rest_waiting range Ascending (cond t (h ∷ reaching range tables) (reaching range tables)) w) ≡ filter (is_in range) (all_rows kept ++ run_rows kepts)
    by true e later =
        filter-append (is_in range) (rest_covered range Ascending (w.holds (path_in h))) rest
        ∙ (λ i. range_rows w h kept range Ascending each.0 i ++ later i)
        ∙ sym (filter-append (is_in range) (all_rows kept) (run_rows kepts))
    by false e later =
        later
        ∙ ap (λ (l : List RowEntry). l ++ filter (is_in range) (run_rows kepts)) (sym (none_reached range h.info (all_rows kept) e each.0.enclosed))
        ∙ sym (filter-append (is_in range) (all_rows kept) (run_rows kepts))

covered_all : (P : RowEntry → Type 0) (range : BytesRange) (w : World) (h : SsTableHandle) (kept : Kept) → IsReadable w h kept → AllByRecursion P (all_rows kept) → AllByRecursion P (rest_covered range Ascending (w.holds (path_in h)))
covered_all P range w h kept table all =
    let first = covering_start kept.keys range.start in
    subst (λ (o : Option Kept). AllByRecursion P (rest_covered range Ascending o)) (sym table.held) (all_part P Ascending kept first (covering_end kept.keys first range.end) all)

left_all : (P : RowEntry → Type 0) (range : BytesRange) (w : World) (tables : List SsTableHandle) (kepts : List Kept) → AreEachReadable w tables kepts → AllByRecursion P (run_rows kepts) → AllByRecursion P (rest_waiting range Ascending (reaching range tables) w)
left_all P range w [] [] each all = tt
left_all P range w [] (kept ∷ kepts) each all = absurd each
left_all P range w (h ∷ tables) [] each all = absurd each
left_all P range w (h ∷ tables) (kept ∷ kepts) each all = by (can_reach range h.info) (left_all P range w tables kepts each.1 (AllByRecursion_behind P (all_rows kept) (run_rows kepts) all))
  where
    by : (t : Bool) → AllByRecursion P (rest_waiting range Ascending (reaching range tables) w) → AllByRecursion P (rest_waiting range Ascending (cond t (h ∷ reaching range tables) (reaching range tables)) w)
    by true later = AllByRecursion_append P (rest_covered range Ascending (w.holds (path_in h))) (rest_waiting range Ascending (reaching range tables) w) (covered_all P range w h kept each.0 (AllByRecursion_front P (all_rows kept) (run_rows kepts) all)) later
    by false later = later

not_back : (a b : List ℕ) → key_lt a b ≡ true → key_lt b a ≡ false
not_back a b h = by (key_lt b a) refl
  where
    by : (t : Bool) → key_lt b a ≡ t → t ≡ false
    by true e = lt_irreflexive a (lt_trans a b a h e)
    by false e = refl

none_back : (r : RowEntry) (rows : List RowEntry) → AllByRecursion (λ s. key_lt r.key s.key ≡ true) rows → NoneBefore Ascending r.key rows
none_back r [] h = tt
none_back r (s ∷ rows) h = (not_back r.key s.key h.0, none_back r rows h.1)

none_before_both : (k : List ℕ) (rows more : List RowEntry) → NoneBefore Ascending k rows → NoneBefore Ascending k more → NoneBefore Ascending k (rows ++ more)
none_before_both k [] more h n = n
none_before_both k (r ∷ rows) more h n = (h.0, none_before_both k rows more h.1 n)

order_both : (rows more : List RowEntry) → IsInOrder Ascending rows → IsInOrder Ascending more → AllByRecursion (λ r. NoneBefore Ascending r.key more) rows → IsInOrder Ascending (rows ++ more)
order_both [] more h k all = k
order_both (r ∷ rows) more h k all = (none_before_both r.key rows more h.0 all.0, order_both rows more h.1 k all.1)

left_rising : (range : BytesRange) (w : World) (tables : List SsTableHandle) (kepts : List Kept) → AreEachReadable w tables kepts → AreRisingTables kepts → IsInOrder Ascending (rest_waiting range Ascending (reaching range tables) w)
left_rising range w [] [] each rising = tt
left_rising range w [] (kept ∷ kepts) each rising = absurd each
left_rising range w (h ∷ tables) [] each rising = absurd each
left_rising range w (h ∷ tables) (kept ∷ kepts) each rising = by (can_reach range h.info) (left_rising range w tables kepts each.1 rising.1)
  where
    behind : List RowEntry
    behind = rest_waiting range Ascending (reaching range tables) w

    below : AllByRecursion (λ r. NoneBefore Ascending r.key behind) (rest_covered range Ascending (w.holds (path_in h)))
    below =
        covered_all (λ r. NoneBefore Ascending r.key behind) range w h kept each.0
        (AllByRecursion_weaken (λ (r : RowEntry). AllByRecursion (λ s. key_lt r.key s.key ≡ true) (run_rows kepts)) (λ (r : RowEntry). NoneBefore Ascending r.key behind)
        (λ r all. none_back r behind (left_all (λ s. key_lt r.key s.key ≡ true) range w tables kepts each.1 all)) (all_rows kept) rising.0)

    by : (t : Bool) → IsInOrder Ascending behind → IsInOrder Ascending (rest_waiting range Ascending (cond t (h ∷ reaching range tables) (reaching range tables)) w)
    by true later = order_both (rest_covered range Ascending (w.holds (path_in h))) behind (unbegun w h kept range Ascending each.0).rising later below
    by false later = later

each_held : (w : World) (tables : List SsTableHandle) (kepts : List Kept) → AreEachReadable w tables kepts → AreHeld w tables
each_held w [] [] each = tt
each_held w [] (kept ∷ kepts) each = absurd each
each_held w (h ∷ tables) [] each = absurd each
each_held w (h ∷ tables) (kept ∷ kepts) each = ((kept, each.0), each_held w tables kepts each.1)

-- ---- in either order

covered_back : (range : BytesRange) (o : Option Kept) → rest_covered range Descending o ≡ reverse (rest_covered range Ascending o)
covered_back range None = refl
covered_back range (Some kept) = refl

waiting_back : (range : BytesRange) (tables : List SsTableHandle) (w : World) → rest_waiting range Descending (reverse tables) w ≡ reverse (rest_waiting range Ascending tables w)
waiting_back range [] w = refl
waiting_back range (h ∷ tables) w =
    ap (λ (l : List SsTableHandle). rest_waiting range Descending l w) (reverse-append (h ∷ []) tables)
    ∙ waiting_both range Descending (reverse tables) (h ∷ []) w
    ∙ (λ i. waiting_back range tables w i ++ last i)
    ∙ sym (reverse-append (rest_covered range Ascending (w.holds (path_in h))) (rest_waiting range Ascending tables w))
  where
    last : rest_waiting range Descending (h ∷ []) w ≡ reverse (rest_covered range Ascending (w.holds (path_in h)))
    last = append-nil (rest_covered range Descending (w.holds (path_in h))) ∙ covered_back range (w.holds (path_in h))

waiting_order : (range : BytesRange) (order : IterationOrder) (tables : List SsTableHandle) (w : World) → rest_waiting range order (in_order order tables) w ≡ in_order order (rest_waiting range Ascending tables w)
waiting_order range Ascending tables w = refl
waiting_order range Descending tables w = waiting_back range tables w

held_order : (order : IterationOrder) (w : World) (tables : List SsTableHandle) → AreHeld w tables → AreHeld w (in_order order tables)
held_order Ascending w tables held = held
held_order Descending w tables held = AllByRecursion_reverse (λ h. (kept : Kept) × IsReadable w h kept) tables held

pub is_run : (range kept_range : BytesRange) (tables : List SsTableHandle) (order : IterationOrder) (fits : is_refused range.start range.end ≡ false) (cursor : RunCursor) (it : FilterIterator RunWalk InRange) →
    it.iterator ≡ record { range = range; order = order; cursor = cursor; state = New; fits = fits } → it.predicate ≡ record { range = kept_range } → kept_range ≡ range → cursor.ahead ≡ None → cursor.current ≡ None → cursor.tables.items ≡ reached range order tables →
    IsRunOf range tables order it
is_run range kept_range tables order fits cursor it is keeps same none closed opens = record {
  same_order = ap (λ (x : RunWalk). x.order) is;
  unopened = subst (λ (x : RunWalk). IsNewRun x.state) (sym is) refl;
  closed = ap (λ (x : RunWalk). x.cursor.current) is ∙ closed;
  none_ahead = ap (λ (x : RunWalk). x.cursor.ahead) is ∙ none;
  opens = ap (λ (x : RunWalk). waiting x.cursor) is ∙ opens;
  sound = λ w kepts readable. subst (λ (x : RunWalk). IsSoundRunWalk x w) (sym is) (record {
    open_table = subst (λ o. IsSoundOpen order o w) (sym closed) tt;
    held = subst (AreHeld w) (sym opens) (held_order order w (reaching range tables) (AllByRecursion_filter (λ h. (kept : Kept) × IsReadable w h kept) (λ h. can_reach range h.info) tables (each_held w tables kepts readable.each)));
    rising = subst (IsInOrder order) (sym (left w)) (either_order order (rest_waiting range Ascending (reaching range tables) w) (left_rising range w tables kepts readable.each readable.rising));
  });
  brings = λ w kepts readable.
      (λ i. filter (is_in ((ap (λ (p : InRange). p.range) keeps ∙ same) i)) (rest_of_run (is i) w))
      ∙ ap (filter (is_in range)) (left w)
      ∙ filter_order order (is_in range) (rest_waiting range Ascending (reaching range tables) w)
      ∙ ap (in_order order) (left_rows range w tables kepts readable.each);
}
  where
    left : (w : World) → rest_run range order cursor w ≡ in_order order (rest_waiting range Ascending (reaching range tables) w)
    left w = (λ i. rest_parts range order (none i) (closed i) (opens i) w) ∙ waiting_order range order (reaching range tables) w

-- ---- in turn

above_first : (z y : RowEntry) → key_lt y.key z.key ≡ true → row_before Ascending z y ≡ false
above_first z y h = by (key_cmp z.key y.key) (turned_key z.key y.key ∙ ap ordering_reverse (is_less (key_cmp y.key z.key) h))
  where
    by : (o : Ordering) → o ≡ Greater → is_lt (ordering_then o (nat_cmp y.seq z.seq)) ≡ false
    by o e = rw e refl

none_later : (r : RowEntry) (rows : List RowEntry) → AllByRecursion (λ s. key_lt r.key s.key ≡ true) rows → NoneEarlier (row_before Ascending) r rows
none_later r [] h = tt
none_later r (s ∷ rows) h = (above_first s r h.0, none_later r rows h.1)

none_earlier_both : (r : RowEntry) (rows more : List RowEntry) → NoneEarlier (row_before Ascending) r rows → NoneEarlier (row_before Ascending) r more → NoneEarlier (row_before Ascending) r (rows ++ more)
none_earlier_both r [] more h n = n
none_earlier_both r (s ∷ rows) more h n = (h.0, none_earlier_both r rows more h.1 n)

turn_both : (rows more : List RowEntry) → AreInTurn (row_before Ascending) rows → AreInTurn (row_before Ascending) more → AreBelow rows more → AreInTurn (row_before Ascending) (rows ++ more)
turn_both [] more h k below = k
turn_both (r ∷ rows) more h k below = (none_earlier_both r rows more h.0 (none_later r more below.0), turn_both rows more h.1 k below.1)

run_in_turn : (w : World) (tables : List SsTableHandle) (kepts : List Kept) → AreEachReadable w tables kepts → AreRisingTables kepts → AreInTurn (row_before Ascending) (run_rows kepts)
run_in_turn w [] [] each rising = tt
run_in_turn w [] (kept ∷ kepts) each rising = absurd each
run_in_turn w (h ∷ tables) [] each rising = absurd each
run_in_turn w (h ∷ tables) (kept ∷ kepts) each rising = turn_both (all_rows kept) (run_rows kepts) each.0.turn (run_in_turn w tables kepts each.1 rising.1) rising.0

pub run_turn : (w : World) (tables : List SsTableHandle) (kepts : List Kept) (range : BytesRange) (order : IterationOrder) → AreReadable w tables kepts → AreInTurn (row_before order) (in_turn order (rows_in_run range order kepts))
run_turn w tables kepts range order readable = either_turn order (filter (is_in range) (run_rows kepts)) (turn_filtered (row_before Ascending) (is_in range) (run_rows kepts) (run_in_turn w tables kepts readable.each readable.rising))

pub is_run_iterator : (range : BytesRange) (run : SortedRun) (order : IterationOrder) (source : FilterIterator RunWalk InRange) (it : NewestFirst (FilterIterator RunWalk InRange)) →
    IsRunOf range run.tables.items order source → it.range ≡ range → it.iterator ≡ source → it.progress ≡ ProgressNew → IsRunIterator range run order it
is_run_iterator range run order source it of within from new = record {
  within = within;
  fresh = new;
  unopened = subst (λ (s : FilterIterator RunWalk InRange). IsNewRun s.iterator.state) (sym from) of.unopened;
  closed = ap (λ (s : FilterIterator RunWalk InRange). s.iterator.cursor.current) from ∙ of.closed;
  none_ahead = ap (λ (s : FilterIterator RunWalk InRange). s.iterator.cursor.ahead) from ∙ of.none_ahead;
  opens = ap (λ (s : FilterIterator RunWalk InRange). waiting s.iterator.cursor) from ∙ of.opens;
  brings = brings;
}
  where
    brings : (w : World) (kepts : List Kept) → AreReadable w run.tables.items kepts → BringsRun w order it (in_turn order (rows_in_run range order kepts))
    brings w kepts readable = record {
      sound = subst (λ (s : FilterIterator RunWalk InRange). sound_newest run_source_rest run_source_sound run_source_order s it.progress w) (sym from) (subst (λ (p : Progress). sound_newest run_source_rest run_source_sound run_source_order source p w) (sym new) (of.sound w kepts readable, turn));
      rest = (λ i. rest_newest run_source_rest run_source_order (from i) (new i) w) ∙ rest;
      turn = run_turn w run.tables.items kepts range order readable;
      same_order = ap (λ (s : FilterIterator RunWalk InRange). s.iterator.order) from ∙ of.same_order;
    }
      where
        rest : in_turn source.iterator.order (run_source_rest source w) ≡ in_turn order (rows_in_run range order kepts)
        rest = (λ i. in_turn (of.same_order i) (of.brings w kepts readable i))

        turn : AreInTurn (row_before source.iterator.order) (in_turn source.iterator.order (run_source_rest source w))
        turn = subst (λ (o : IterationOrder). AreInTurn (row_before o) (in_turn source.iterator.order (run_source_rest source w))) (sym of.same_order) (subst (AreInTurn (row_before order)) (sym rest) (run_turn w run.tables.items kepts range order readable))
