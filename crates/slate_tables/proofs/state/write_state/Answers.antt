use Rattle.std.specs.Prelude.{is_some}
use Rattle.slate_store.specs.Reach.{reach_of}
use Rattle.slate_merge.specs.Merge.{all_rows}
use Rattle.slate_tables.proofs.Movings.{state_written}
use Rattle.slate_tables.proofs.Undamaged.{ok_weaker}
use Rattle.slate_tables.proofs.state.write_state.Goals as goal

pub returns-clause-honest : goal.returns-clause-honest
returns-clause-honest g c = λ os lists before told held at.
    let m = (reach_of g.S.Store g.M.MergeOperator g.T.BlockTransformer c.args.env.now).meaning in
    ok_weaker c.write_tables.result _ _ (λ t h. state_written m (is_some m.combine) (all_rows lists) h.0 before (g.W.Sink.content c.write_tables.new.sink) t h.1 h.2) (c.write_tables.ensures.honest os lists before told held at)
