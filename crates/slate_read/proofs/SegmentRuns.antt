-- What the runs of segments bring to a merge: those that are left out have no row in the range.
use Rattle.std.proofs.Common.{◌≡◌, ◌⊎◌, inl, inr, ℕ, Bool, true, false, cond, not, ◌&&◌, ◌||◌, List, [], ◌∷◌, ◌++◌, map, filter, append_assoc, append-nil, refl, sym, ap, subst, ◌∙◌}
use Rattle.std.specs.Prelude.{nat_eq}
use Rattle.std.specs.List.{starts_with, AllByRecursion}
use Rattle.std.specs.declared.ops.Bound.{Bound}
use Rattle.std.specs.declared.ops.Bound.TheVariants.{Included, Excluded, Unbounded}
use Rattle.slate_types.specs.declared.bytes_range.BytesRange.{BytesRange}
use Rattle.slate_types.specs.declared.iter.IterationOrder.{IterationOrder}
use Rattle.slate_types.specs.declared.iter.IterationOrder.TheVariants.{Ascending, Descending}
use Rattle.slate_types.specs.declared.types.RowEntry.{RowEntry}
use Rattle.slate_types.specs.Keys.{key_lt, key_le, in_range, is_past_start, is_before_end}
use Rattle.slate_types.specs.Iteration.{in_order}
use Rattle.slate_types.specs.RowTurns.{AreInTurn, row_before}
use Rattle.slate_types.specs.World.{Kept, World}
use Rattle.slate_types.proofs.KeyOrder.{lt_le, not_lt, not_le, lt_le_trans, lt_irreflexive}
use Rattle.slate_mem.proofs.NestLaws.{begins_le, begins_between, le_trans}
use Rattle.slate_merge.specs.Groups.{in_turn}
use Rattle.slate_merge.specs.Merge as merge
use Rattle.slate_merge.specs.Merge.{all_rows, shown_rows}
use Rattle.slate_merge.specs.MergeStateLaws.{merges}
use Rattle.slate_merge.specs.MergeStates.{IsMergeOf}
use Rattle.slate_merge.specs.Merging.{CanMerge}
use Rattle.slate_read.specs.declared.segment_merge_iterator.SegmentMergeIterator.{SegmentMergeIterator}
use Rattle.slate_read.specs.declared.sorted_run.SortedRun.{SortedRun}
use Rattle.slate_read.specs.declared.sorted_run_iterator.SortedRunIterator.{SortedRunIterator}
use Rattle.slate_read.specs.RunIterators.{IsRunIterator, rows_in_run, run_rows}
use Rattle.slate_read.specs.SegmentIterators.{AreRuns, AreSegmentsReadable, BeginWith, IsSegmentMerge, can_begin, meets, met_runs, source_order, source_rest, source_sound}
use Rattle.slate_read.specs.TableWalk.{is_in}
use Rattle.slate_types.proofs.Plain.{neither}

-- ---- prefixes that begin no key of a range

pub not_twice : (t : Bool) → not (not t) ≡ t
not_twice true = refl
not_twice false = refl

one_not : (s t : Bool) → (s && t) ≡ false → (s ≡ false) ⊎ (t ≡ false)
one_not true t h = inr h
one_not false t h = inl refl

before_start : (a p k : List ℕ) → (starts_with nat_eq a p || key_le a p) ≡ false → starts_with nat_eq k p ≡ true → key_le a k ≡ false
before_start a p k out begun = by (key_le a k) refl
  where
    by : (t : Bool) → key_le a k ≡ t → t ≡ false
    by true e =
        let parts = neither (starts_with nat_eq a p) (key_le a p) out in
        let there : starts_with nat_eq a p ≡ true = begins_between p a k (lt_le p a (not_le a p parts.1)) e begun in
        sym there ∙ parts.0
    by false e = refl

lt_none : (a k : List ℕ) → key_le a k ≡ false → key_lt a k ≡ false
lt_none a k h = by (key_lt a k) refl
  where
    by : (t : Bool) → key_lt a k ≡ t → t ≡ false
    by true e = sym (lt_le a k e) ∙ h
    by false e = refl

start_out : (b : Bound (List ℕ)) (p k : List ℕ) → can_begin b p ≡ false → starts_with nat_eq k p ≡ true → is_past_start b k ≡ false
start_out (Included a) p k out begun = before_start a p k out begun
start_out (Excluded a) p k out begun = lt_none a k (before_start a p k out begun)
start_out Unbounded p k out begun = out

end_out : (b : Bound (List ℕ)) (p k : List ℕ) → is_before_end b p ≡ false → starts_with nat_eq k p ≡ true → is_before_end b k ≡ false
end_out (Included b) p k out begun = by (key_le k b) refl
  where
    by : (t : Bool) → key_le k b ≡ t → t ≡ false
    by true e = lt_irreflexive b (lt_le_trans b p b (not_le p b out) (le_trans p k b (begins_le p k begun) e))
    by false e = refl
end_out (Excluded b) p k out begun = by (key_lt k b) refl
  where
    by : (t : Bool) → key_lt k b ≡ t → t ≡ false
    by true e = lt_irreflexive k (lt_le_trans k b k e (le_trans b p k (not_lt p b out) (begins_le p k begun)))
    by false e = refl
end_out Unbounded p k out begun = out

pub out_of_range : (range : BytesRange) (p k : List ℕ) → meets range p ≡ false → starts_with nat_eq k p ≡ true → in_range range k ≡ false
out_of_range range p k out begun = by (one_not (can_begin range.start p) (is_before_end range.end p) out)
  where
    and_false : (b : Bool) → (b && false) ≡ false
    and_false true = refl
    and_false false = refl

    by : (can_begin range.start p ≡ false) ⊎ (is_before_end range.end p ≡ false) → (is_past_start range.start k && is_before_end range.end k) ≡ false
    by (inl h) = ap (λ t. t && is_before_end range.end k) (start_out range.start p k h begun)
    by (inr h) = ap (λ t. is_past_start range.start k && t) (end_out range.end p k h begun) ∙ and_false (is_past_start range.start k)

none_in : (range : BytesRange) (p : List ℕ) (rows : List RowEntry) → meets range p ≡ false → BeginWith p rows → filter (is_in range) rows ≡ []
none_in range p [] out begun = refl
none_in range p (r ∷ rows) out begun =
    ap (λ t. cond t (r ∷ filter (is_in range) rows) (filter (is_in range) rows)) (out_of_range range p r.key out begun.0) ∙ none_in range p rows out begun.1

no_turn : (order : IterationOrder) (rows : List RowEntry) → rows ≡ [] → in_turn order (in_order order rows) ≡ []
no_turn Ascending rows h = ap (λ rs. in_turn Ascending (in_order Ascending rs)) h
no_turn Descending rows h = ap (λ rs. in_turn Descending (in_order Descending rs)) h

-- ---- a merge of the runs that are not left out

AreMerged : (order : IterationOrder) (w : World) → List SortedRunIterator → List RowEntry → Type 0
AreMerged order w its rows =
    AllByRecursion (CanMerge (λ s. source_rest s w) (λ s. source_sound s w × (source_order s ≡ order)) order) its × (all_rows (map (λ s. source_rest s w) its) ≡ rows)

turns : BytesRange → IterationOrder → List (List Kept) → List RowEntry
turns range order kepts = all_rows (map (λ kept. in_turn order (rows_in_run range order kept)) kepts)

segments_bring : (range : BytesRange) (order : IterationOrder) (w : World) (runs : List SortedRun) (kepts : List (List Kept)) (its : List SortedRunIterator) →
    AreRuns range order (met_runs range runs) its → AreSegmentsReadable w runs kepts → AreMerged order w its (turns range order kepts)
unfolding AreMerged turns
segments_bring range order w [] [] [] h r = (tt, refl)
segments_bring range order w [] [] (it ∷ its) h r = absurd h
segments_bring range order w [] (kept ∷ kepts) its h r = absurd r
segments_bring range order w (run ∷ runs) [] its h r = absurd r
segments_bring range order w (run ∷ runs) (kept ∷ kepts) its h r = by (λ js k. segments_bring range order w runs kepts js k r.1) (meets range run.prefix) refl its h
  where
    here : List RowEntry
    here = in_turn order (rows_in_run range order kept)

    by : ((js : List SortedRunIterator) → AreRuns range order (met_runs range runs) js → AreMerged order w js (turns range order kepts)) → (t : Bool) → meets range run.prefix ≡ t →
        (js : List SortedRunIterator) → AreRuns range order (cond t (run ∷ met_runs range runs) (met_runs range runs)) js → AreMerged order w js (here ++ turns range order kepts)
    by later true e [] k = absurd k
    by later true e (j ∷ js) k =
        let b = k.0.brings w kept r.0.0 in
        let more = later js k.1 in
        ((((b.sound, b.same_order), subst (AreInTurn (row_before order)) (sym b.rest) b.turn), more.0), λ i. b.rest i ++ more.1 i)
    by later false e js k =
        let more = later js k in
        let none : here ≡ [] = no_turn order (filter (is_in range) (run_rows kept)) (none_in range run.prefix (run_rows kept) e r.0.1) in
        (more.0, more.1 ∙ ap (λ rows. rows ++ turns range order kepts) (sym none))

pub segment_merge : (range : BytesRange) (order : IterationOrder) (runs : List SortedRun) (its : List SortedRunIterator) (it : SegmentMergeIterator) →
    IsMergeOf its order false it.rows → AreRuns range order (met_runs range runs) its → IsSegmentMerge range runs order it
unfolding AreMerged turns
segment_merge range order runs its it m h = record {
  same_order = m.ordered;
  opens = (its, m.waits, h);
  brings = λ w kepts r.
      let s = segments_bring range order w runs kepts its h r in
      let g = merges source_rest source_sound source_order w its order false it.rows m s.0 in
      (g.0, g.1 ∙ ap (λ rows. shown_rows false (merge.in_turn (row_before order) rows)) s.1);
}

-- ---- a loop over the runs

abbrev pub AddsRuns : BytesRange → IterationOrder → List SortedRun → List SortedRunIterator → List SortedRun → Type 0
AddsRuns range order left made runs = (more : List SortedRunIterator) → AreRuns range order (met_runs range left) more → AreRuns range order (met_runs range runs) (made ++ more)

pub run_made : (range : BytesRange) (order : IterationOrder) (left rest runs : List SortedRun) (run : SortedRun) (made next : List SortedRunIterator) (it : SortedRunIterator) → left ≡ run ∷ rest → meets range run.prefix ≡ true →
    next ≡ made ++ (it ∷ []) → IsRunIterator range run order it.rows → AddsRuns range order left made runs → AddsRuns range order rest next runs
run_made range order left rest runs run made next it is met grown source was more h =
    let whole : met_runs range left ≡ run ∷ met_runs range rest = ap (met_runs range) is ∙ ap (λ t. cond t (run ∷ met_runs range rest) (met_runs range rest)) met in
    let here : AreRuns range order (met_runs range left) (it ∷ more) = subst (λ rs. AreRuns range order rs (it ∷ more)) (sym whole) (source, h) in
    subst (AreRuns range order (met_runs range runs)) (sym (append_assoc made (it ∷ []) more) ∙ ap (λ its. its ++ more) (sym grown)) (was (it ∷ more) here)

pub run_left_out : (range : BytesRange) (order : IterationOrder) (left rest runs : List SortedRun) (run : SortedRun) (made : List SortedRunIterator) → left ≡ run ∷ rest → meets range run.prefix ≡ false →
    AddsRuns range order left made runs → AddsRuns range order rest made runs
run_left_out range order left rest runs run made is out was more h =
    let whole : met_runs range left ≡ met_runs range rest = ap (met_runs range) is ∙ ap (λ t. cond t (run ∷ met_runs range rest) (met_runs range rest)) out in
    was more (subst (λ rs. AreRuns range order rs more) (sym whole) h)

pub runs_made : (range : BytesRange) (order : IterationOrder) (left runs : List SortedRun) (made : List SortedRunIterator) → left ≡ [] → AddsRuns range order left made runs → AreRuns range order (met_runs range runs) made
runs_made range order left runs made is was =
    subst (AreRuns range order (met_runs range runs)) (append-nil made) (was [] (subst (λ rs. AreRuns range order (met_runs range rs) []) (sym is) tt))
