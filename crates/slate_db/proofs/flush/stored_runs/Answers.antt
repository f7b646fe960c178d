use Rattle.std.proofs.Common.{◌≡◌, map, inl, reverse, sym, subst}
use Rattle.std.proofs.lemmas.Result.{IfErr-weaker, IfOk-from_err, IfOk-weaker, err_from_is_err_and}
use Rattle.slate_types.specs.Outside.{IsCounted}
use Rattle.slate_types.proofs.Exits.{if_ok_both, on_err}
use Rattle.slate_types.proofs.StillLaws.{still_then, unasked_still}
use Rattle.slate_store.specs.Reach.{reach_of}
use Rattle.slate_db.specs.Answered.{AddsPuts}
use Rattle.slate_db.specs.Flushed.{StandInRuns}
use Rattle.slate_db.proofs.RunSoFar.{parts_may, put_as}
use Rattle.slate_db.proofs.flush.stored_runs.Goals as goal

pub returns : goal.returns
returns g c =
    let before = reach_of g.S.Store g.M.MergeOperator g.T.BlockTransformer c.args.env.now in
    let after = reach_of g.S.Store g.M.MergeOperator g.T.BlockTransformer c.stored_tables.new.env in
    let r = c.in_runs.result in
    let laid = c.in_runs.ensures in
    let was = c.in_ok-stored.ensures in
    record {
      stored = if_ok_both r _ _ _
          (λ a tables handles. put_as _ _ _ _ _ _ _ _ _ _ tables handles was.stored)
          laid.tables laid.handles;
      acts = IfOk-weaker r _ _ (λ a tables. subst (λ ts. AddsPuts ts before.acts after.acts)
          (sym tables) was.acts) laid.tables;
      stand = IfOk-weaker r _ _ (λ a stand. subst (λ ps. StandInRuns ps a.1.items) was.prefixes
          stand) laid.stand;
      leaves = record {
        adds = was.leaves.adds;
        refused = on_err r (parts_may _ _ _ _ _ _ _ _ was.stored);
        cause = IfErr-weaker r _ _
            (λ e is. inl (subst (IsCounted before.faults after.faults) (sym is) tt)) laid.cause;
        operator = was.leaves.operator;
        puts = was.leaves.puts;
        still = still_then before.faults after.faults after.faults r was.leaves.still
            (unasked_still after.faults r);
      };
    }

pub returns-in_err-stored : goal.returns-in_err-stored
returns-in_err-stored g c =
    let p = err_from_is_err_and c.from_residual.result c.from_residual.ensures.1 in
    let was = c.in_err-stored.ensures.leaves in
    record {
      stored = IfOk-from_err c.from_residual.result _ c.from_residual.ensures.0;
      acts = IfOk-from_err c.from_residual.result _ c.from_residual.ensures.0;
      stand = IfOk-from_err c.from_residual.result _ c.from_residual.ensures.0;
      leaves = record {
        adds = was.adds;
        refused = rw p.1 was.refused;
        cause = rw (p.1, p.2) was.cause;
        operator = was.operator;
        puts = was.puts;
        still = rw (p.1, p.2) was.still;
      };
    }
