use Rattle.std.proofs.Common.{◌≡◌, inr, arith}
use Rattle.slate_types.proofs.Reaching.{reads_then}
use Rattle.slate_types.proofs.StillLaws.{still_then}
use Rattle.slate_store.specs.Reach.{reach_of}
use Rattle.slate_merge.specs.Merge.{all_rows}
use Rattle.slate_tables.specs.Merging.{export_rows}
use Rattle.slate_tables.proofs.Undamaged.{meets, meets_later, ok_weaker, unwritten_then, written_here}
use Rattle.slate_tables.proofs.Worlds.{tables_are_in_a_world}
use Rattle.slate_tables.proofs.state.write_part.Goals as goal

pub returns-in-Ok : goal.returns-in-Ok
returns-in-Ok g c =
    let reach = reach_of g.S.Store g.M.MergeOperator g.T.BlockTransformer in
    let a = reach c.args.env.now in
    let b = reach c.scan.new.env in
    let d = reach c.write_rows-written.new.env in
    let k = g.W.Sink.faults in
    let content = g.W.Sink.content in
    let handles = c.args.tables.now.handles.items in
    let first = c.scan.ensures.reads in
    let wrote = c.write_rows-written.ensures in
    record {
      honest = λ os lists before told held at.
          let world = tables_are_in_a_world a.meaning os handles lists held in
          let opened = c.in-Ok.ensures.rows world.0 lists world.2 (meets os world.0 a b told world.1) in
          ok_weaker c.write_rows-written.result _ _
          (λ t h. written_here c.args.form c.args.order a.meaning world.0 b c.args.range.now (all_rows lists) (export_rows c.in-Ok.rows world.0) before (content c.write_rows-written.new.sink) t world.1.meaning first.meaning opened.1 h)
          (wrote.written world.0 before (meets_later os world.0 a b d first told world.1) opened.0 at);
      undamaged = λ os lists told held.
          let world = tables_are_in_a_world a.meaning os handles lists held in
          let opened = c.in-Ok.ensures.rows world.0 lists world.2 (meets os world.0 a b told world.1) in
          wrote.undamaged world.0 (meets_later os world.0 a b d first told world.1) opened.0;
      cause = unwritten_then _ handles c.args.range.now c.args.order c.args.form c.in-Ok.rows a b d (k c.args.sink.now) (k c.write_rows-written.new.sink) c.write_rows-written.result first c.in-Ok.ensures.later wrote.cause;
      reads = reads_then a b d first wrote.reads;
      counts = still_then a.faults b.faults d.faults c.write_rows-written.result c.in-Ok.ensures.counts wrote.counts;
      later = wrote.later;
      still = wrote.still;
    }

pub returns-in-Err : goal.returns-in-Err
returns-in-Err g c =
    let reach = reach_of g.S.Store g.M.MergeOperator g.T.BlockTransformer in
    let a = reach c.args.env.now in
    let b = reach c.scan.new.env in
    let k = g.W.Sink.faults in
    let handles = c.args.tables.now.handles.items in
    record {
      honest = λ os lists before told held at. tt;
      undamaged = λ os lists told held.
          let world = tables_are_in_a_world a.meaning os handles lists held in
          c.in-Err.ensures.undamaged world.0 lists world.2 (meets os world.0 a b told world.1);
      cause = inr c.in-Err.ensures.cause;
      reads = c.scan.ensures.reads;
      counts = c.in-Err.ensures.counts;
      later = omega arith;
      still = tt;
    }
