use Rattle.std.proofs.Common.{◌≡◌, ◌∙◌, ◌++◌, ap, arith, inl, inr, option_map, subst, Some}
use Rattle.slate_types.specs.Fold.{operator_at}
use Rattle.slate_types.specs.Outside.{Meaning}
use Rattle.slate_types.specs.Rows.{key_value}
use Rattle.slate_types.proofs.StillLaws.{still_then, unasked_still}
use Rattle.slate_store.specs.Reach.{reach_of}
use Rattle.slate_merge.specs.Merge.{all_rows}
use Rattle.slate_table.specs.Stored.{stored}
use Rattle.slate_txn.specs.Reply.{Found}
use Rattle.slate_language.specs.Replies.{reply_line}
use Rattle.slate_tables.proofs.Movings.{found_unwritten, last_undamaged, on_ok_then}
use Rattle.slate_tables.proofs.Undamaged.{err_weaker, meets}
use Rattle.slate_tables.proofs.Worlds.{tables_are_in_a_world}
use Rattle.slate_tables.proofs.state.write_row_of.Goals as goal

pub returns-in-Ok : goal.returns-in-Ok
returns-in-Ok g c =
    let reach = reach_of g.S.Store g.M.MergeOperator g.T.BlockTransformer in
    let a = reach c.args.env.now in
    let b = reach c.get.new.env in
    let key = c.args.key.now in
    let k = g.W.Sink.faults in
    let i = k c.args.sink.now in
    let j = k c.write_found.new.sink in
    let r = c.write_found.result in
    let wrote = c.write_found.ensures in
    record {
      honest = λ os lists before told held at.
          let world = tables_are_in_a_world a.meaning os c.args.tables.now.handles.items lists held in
          let row = c.in-Ok.ensures.row world.0 lists world.2 (meets os world.0 a b told world.1) in
          let here = subst (λ (m : Meaning). c.in-Ok.row ≡ stored (operator_at m.combine key) (all_rows lists) key) world.1.meaning row in
          on_ok_then r _ _ (λ h. h ∙ ap (λ o. Some (before ++ reply_line (Found (option_map key_value o)))) here) (wrote.text before at);
      undamaged = λ os lists told held. err_weaker r _ _ (last_undamaged i j) wrote.cause;
      cause = err_weaker r _ _ (λ e h. inl (found_unwritten i j e h)) wrote.cause;
      reads = c.get.ensures.reads;
      counts = still_then a.faults b.faults b.faults r c.in-Ok.ensures.counts (unasked_still b.faults r);
      later = wrote.later;
      still = wrote.still;
    }

pub returns-in-Err : goal.returns-in-Err
returns-in-Err g c =
    let reach = reach_of g.S.Store g.M.MergeOperator g.T.BlockTransformer in
    let a = reach c.args.env.now in
    let b = reach c.get.new.env in
    record {
      honest = λ os lists before told held at. tt;
      undamaged = λ os lists told held.
          let world = tables_are_in_a_world a.meaning os c.args.tables.now.handles.items lists held in
          c.in-Err.ensures.undamaged world.0 lists world.2 (meets os world.0 a b told world.1);
      cause = inr c.in-Err.ensures.cause;
      reads = c.get.ensures.reads;
      counts = c.in-Err.ensures.counts;
      later = omega arith;
      still = tt;
    }
