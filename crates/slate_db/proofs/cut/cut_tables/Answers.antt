use Rattle.std.proofs.Common.{◌≡◌, ◌++◌, ◌∷◌, ◌&&◌, ◌||◌, [], Bool, List, ℕ, map, None, arith, rules, sym, ap, subst, ◌∙◌}
use Rattle.std.specs.Vec.Iter.{into_iter_items}
use Rattle.std.proofs.lemmas.List.{map-append, nil_from_length}
use Rattle.slate_types.specs.declared.types.RowEntry.{RowEntry}
use Rattle.slate_mem.specs.Gathered.{last_row}
use Rattle.slate_db.specs.declared.cut.TableRows.{TableRows}
use Rattle.slate_db.specs.Cut.{AreCut, AreOfSegment, AreOfSegments, begins_key, begins_segment}
use Rattle.slate_db.specs.Meaning.{segments_by}
use Rattle.slate_db.specs.Model.{Rows}
use Rattle.slate_db.proofs.Cuts.{IsNext, cut_all, ends_of_next, full_is, goes_of_next, more_size, next_ends, next_goes, segments_more, tables_from}
use Rattle.slate_db.proofs.Lists.{none_behind}
use Rattle.slate_db.proofs.cut.cut_tables.Goals as goal
use Rattle.slate_db.proofs.cut.cut_tables.Goals.{in-Some-2+in_ok-push, in_default}
use Rattle.slate_types.proofs.Lists.{AllByRecursion_push}

pub loop-row-preserved : goal.loop-row-preserved
loop-row-preserved g c =
    let by = segments_by g.X.PrefixExtractor.lengths c.args.extractor.now in
    let was = c.loop-row.invariant in
    let limit = c.args.table_bytes in
    let rows : List TableRows → List Rows = map (λ t. t.rows.items) in
    let prefixes : List TableRows → List (List ℕ) = map (λ t. t.prefix) in
    let table : Rows = c.loop-row.table.rows.items in
    let row : RowEntry = c.in-Some.row in
    let rest : Rows = into_iter_items c.next.new.self in
    let after = c.match-branch-3 in
    let cut = ap (λ (xs : Rows). map (λ t. t.rows.items) c.loop-row.tables.items ++ tables_from (segments_by g.X.PrefixExtractor.lengths c.args.extractor.now) c.args.table_bytes c.loop-row.table.rows.items xs) (sym c.in-Some.ensures.steps.0) ∙ was.cut in
    let test = ap (λ (full : Bool). begins_key (last_row c.loop-row.table.rows.items) c.in-Some.row && (full || begins_segment (segments_by g.X.PrefixExtractor.lengths c.args.extractor.now) (last_row c.loop-row.table.rows.items) c.in-Some.row))
    (full_is c.args.table_bytes c.loop-row.size c.loop-row.table.rows.items was.sum c.ranges.table_bytes.fits) in
    let next : IsNext (segments_by g.X.PrefixExtractor.lengths c.args.extractor.now) c.args.table_bytes (map (λ t. t.rows.items) c.match-branch-3.tables.items) (map (λ t. t.prefix) c.match-branch-3.tables.items) c.match-branch-3.table.prefix c.match-branch-3.table.rows.items (into_iter_items c.next.new.self) c.match-branch-3.size c.in-Some.row
    (tables_from (segments_by g.X.PrefixExtractor.lengths c.args.extractor.now) c.args.table_bytes [] c.args.rows.items) =
    elim c.match-branch-3.branch [
      | in-Some-2+in_ok-push w ↦
          (let ends = ends_of_next _ _ _ c.in_ok-prefix-2.field-0 c.in_ok-prefix-2.ensures w.in-Some-2.is in
          let all = ap (λ ts. ts.items) w.tables-is ∙ w.in_ok-push.ensures.items in
          next_ends by limit (rows c.loop-row.tables.items) (rows after.tables.items) (prefixes c.loop-row.tables.items) (prefixes after.tables.items) c.loop-row.table.prefix after.table.prefix table after.table.rows.items rest after.size row _ cut was.segments was.segment
          (sym test ∙ ends.0, ap (λ (t : TableRows). t.prefix) w.table-is ∙ ends.1)
          (ap rows all ∙ map-append (λ t. t.rows.items) c.loop-row.tables.items (c.loop-row.table ∷ []))
          (ap prefixes all ∙ map-append (λ t. t.prefix) c.loop-row.tables.items (c.loop-row.table ∷ []))
          (ap (λ (t : TableRows). t.rows.items) w.table-is ∙ w.new-in-Some-2.ensures.items) w.size-is)
      | in_default w ↦
          (let none : c.in_ok-prefix-2.field-0 ≡ None = search rules in
          next_goes by limit (rows c.loop-row.tables.items) (rows after.tables.items) (prefixes c.loop-row.tables.items) (prefixes after.tables.items) c.loop-row.table.prefix after.table.prefix table after.table.rows.items rest c.loop-row.size after.size row _ cut was.sum was.segments was.segment
          (was.first row rest c.in-Some.ensures.steps.0) (sym test ∙ goes_of_next _ _ c.in_ok-prefix-2.field-0 c.in_ok-prefix-2.ensures none)
          (ap (λ ts. rows ts.items) w.tables-is) (ap (λ ts. prefixes ts.items) w.tables-is) (ap (λ (t : TableRows). t.prefix) w.table-is) (ap (λ (t : TableRows). t.rows.items) w.table-is) w.size-is)
    ] in
    record {
      cut = ap (λ (xs : Rows). map (λ t. t.rows.items) c.match-branch-3.tables.items ++ tables_from (segments_by g.X.PrefixExtractor.lengths c.args.extractor.now) c.args.table_bytes xs (into_iter_items c.next.new.self)) c.in_ok-push-2.ensures.items ∙ next.cut;
      sum = more_size c.match-branch-3.size c.saturating_add-size.result c.estimated_size.result c.match-branch-3.table.rows.items _ row next.sum c.estimated_size.ensures c.saturating_add-size.ensures c.in_ok-push-2.ensures.items;
      segments = next.segments;
      segment = subst (AreOfSegment by c.match-branch-3.table.prefix) (sym c.in_ok-push-2.ensures.items) (AllByRecursion_push _ c.match-branch-3.table.rows.items row next.segment next.joins);
      first = λ r more is empty. absurd (none_behind c.match-branch-3.table.rows.items row (sym c.in_ok-push-2.ensures.items ∙ empty));
    }

pub returns-clause-cut : goal.returns-clause-cut
returns-clause-cut g c =
    let by = segments_by g.X.PrefixExtractor.lengths c.args.extractor.now in
    let none : into_iter_items c.loop-row.row-iterator ≡ [] = nil_from_length _ (omega (arith, c.in-None.ensures.steps.0)) in
    let before : List Rows = map (λ t. t.rows.items) c.loop-row.tables.items in
    subst (AreCut by c.args.table_bytes c.args.rows.items)
    (sym c.loop-row.invariant.cut ∙ ap (λ (xs : Rows). before ++ tables_from by c.args.table_bytes c.loop-row.table.rows.items xs) none
    ∙ sym (ap (map (λ t. t.rows.items)) c.in_ok-push-3.ensures.items ∙ map-append (λ t. t.rows.items) c.loop-row.tables.items (c.loop-row.table ∷ [])))
    (cut_all by c.args.table_bytes c.args.rows.items c.requires)

pub returns-clause-segments : goal.returns-clause-segments
returns-clause-segments g c =
    let by = segments_by g.X.PrefixExtractor.lengths c.args.extractor.now in
    let was = c.loop-row.invariant in
    let rows : List TableRows → List Rows = map (λ t. t.rows.items) in
    let prefixes : List TableRows → List (List ℕ) = map (λ t. t.prefix) in
    subst (λ (ts : List TableRows). AreOfSegments by (map (λ t. t.rows.items) ts) (map (λ t. t.prefix) ts)) (sym c.in_ok-push-3.ensures.items)
    (subst (λ (ts : List Rows). AreOfSegments by ts (prefixes (c.loop-row.tables.items ++ (c.loop-row.table ∷ [])))) (sym (map-append (λ t. t.rows.items) c.loop-row.tables.items (c.loop-row.table ∷ [])))
    (subst (λ (ps : List (List ℕ)). AreOfSegments by (rows c.loop-row.tables.items ++ (c.loop-row.table.rows.items ∷ [])) ps) (sym (map-append (λ t. t.prefix) c.loop-row.tables.items (c.loop-row.table ∷ [])))
    (segments_more by (rows c.loop-row.tables.items) (prefixes c.loop-row.tables.items) c.loop-row.table.rows.items c.loop-row.table.prefix was.segments was.segment)))
