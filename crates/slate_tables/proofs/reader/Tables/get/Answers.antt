use Rattle.std.proofs.Common.{◌≡◌, ◌∙◌}
use Rattle.slate_types.specs.declared.iter.IterationOrder.TheVariants.{Ascending}
use Rattle.slate_types.specs.Fold.{operator_at}
use Rattle.slate_types.proofs.Calls.{sees_first, sees_last}
use Rattle.slate_types.proofs.Reaching.{reads_then}
use Rattle.slate_types.proofs.StillLaws.{still_then}
use Rattle.slate_store.specs.Reach.{reach_of}
use Rattle.slate_merge.specs.Merge.{all_rows}
use Rattle.slate_tables.specs.Merging.{export_rows}
use Rattle.slate_tables.proofs.Points.{checked_behind, err_behind, first_is, ok_behind}
use Rattle.slate_tables.proofs.Undamaged.{err_weaker, ok_weaker, refused_then}
use Rattle.slate_tables.proofs.reader.Tables.get.Goals as goal

pub returns-in-Ok : goal.returns-in-Ok
returns-in-Ok g c =
    let reach = reach_of g.S.Store g.M.MergeOperator g.T.BlockTransformer in
    let a = reach c.args.env.now in
    let b = reach c.scan.new.env in
    let d = reach c.first_row.new.env in
    let key = c.args.key.now in
    let r = c.first_row.result in
    let is = c.in_ok-range.ensures.range in
    let opened = c.in-Ok.ensures in
    let first = opened.later in
    let took = c.first_row.ensures in
    record {
      row = λ w tables are sees. ok_behind r _ _ took.read (λ read.
          let rows = opened.rows w tables are (sees_first w a b d first.0 read.0 first.1 read.1 sees) in
          ok_weaker r _ _ (λ row h. h ∙ first_is (operator_at w.meaning.combine) key (all_rows tables) (export_rows c.in-Ok.rows w) (rw is at rows.1))
          (took.row w (sees_last w a b d first.0 read.0 first.1 read.1 sees) rows.0));
      checked = λ w tables are. checked_behind r w a b d first.0 first.1 took.read (opened.checked w tables are) (λ sees. took.checked w (opened.rows w tables are sees).0);
      undamaged = λ w tables are sees. err_behind r _ _ took.cause (λ e read.
          took.undamaged w (sees_last w a b d first.0 read.0 first.1 read.1 sees) (opened.rows w tables are (sees_first w a b d first.0 read.0 first.1 read.1 sees)).0);
      cause = err_weaker r _ _ (λ e h. rw is at (refused_then _ c.args.self.now.handles.items c.in_ok-range.range Ascending c.in-Ok.rows a b d e c.scan.ensures.reads first h)) took.cause;
      reads = reads_then a b d c.scan.ensures.reads took.reads;
      counts = still_then a.faults b.faults d.faults r opened.counts took.counts;
    }
