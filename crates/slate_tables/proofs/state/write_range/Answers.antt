use Rattle.slate_store.specs.Reach.{reach_of}
use Rattle.slate_merge.specs.Merge.{all_rows}
use Rattle.slate_tables.proofs.Movings.{range_written}
use Rattle.slate_tables.proofs.Undamaged.{ok_weaker}
use Rattle.slate_tables.proofs.state.write_range.Goals as goal

pub returns-clause-honest : goal.returns-clause-honest
returns-clause-honest g c = λ os lists before told held at.
    let m = (reach_of g.S.Store g.M.MergeOperator g.T.BlockTransformer c.args.env.now).meaning in
    ok_weaker c.write_part.result _ _ (λ t h. range_written m c.args.order c.args.range.now (all_rows lists) before (g.W.Sink.content c.write_part.new.sink) t h) (c.write_part.ensures.honest os lists before told held at)
