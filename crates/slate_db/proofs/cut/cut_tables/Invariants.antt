use Rattle.std.proofs.Common.{◌≡◌, ◌++◌, ◌∷◌, ◌-◌, ◌^◌, [], List, map, min}
use Rattle.std.specs.Prelude.{sum_by}
use Rattle.std.specs.Vec.Iter.{into_iter_items}
use Rattle.slate_types.specs.declared.types.RowEntry.{RowEntry}
use Rattle.slate_types.specs.Rows.{estimated_size}
use Rattle.slate_db.specs.Cut.{AreOfSegment, AreOfSegments, segment_of}
use Rattle.slate_db.specs.Meaning.{segments_by}
use Rattle.slate_db.proofs.Cuts.{tables_from}
use Rattle.slate_db.proofs.cut.cut_tables.Given as goal

abbrev pub invariant-loop-row : goal.invariant-loop-row
invariant-loop-row g l =
    let by = segments_by g.X.PrefixExtractor.lengths l.extractor in
    record {
      cut : map (λ t. t.rows.items) l.tables.items ++ tables_from by l.table_bytes l.table.rows.items (into_iter_items l.row-iterator) ≡ tables_from by l.table_bytes [] l.fn.rows.items;
      sum : l.size ≡ min (sum_by estimated_size l.table.rows.items) (2 ^ 64 - 1);
      segments : AreOfSegments by (map (λ t. t.rows.items) l.tables.items) (map (λ t. t.prefix) l.tables.items);
      segment : AreOfSegment by l.table.prefix l.table.rows.items;
      first : (r : RowEntry) (rest : List RowEntry) → into_iter_items l.row-iterator ≡ r ∷ rest → l.table.rows.items ≡ [] → segment_of by r.key ≡ l.table.prefix;
    }
