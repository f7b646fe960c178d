use Rattle.std.proofs.Common.{List, ◌-◌, ◌++◌, ◌∙◌, ap, arith, refl}
use Rattle.std.proofs.lemmas.Result.{IfOk-from_err}
use Rattle.slate_types.specs.declared.types.RowEntry.{RowEntry}
use Rattle.slate_mem.proofs.GatherLaws.{layers_down}
use Rattle.slate_types.proofs.Exits.{err_exit}
use Rattle.slate_mem.proofs.gather.newest_first.Goals as goal

pub loop-at-preserved : goal.loop-at-preserved
loop-at-preserved c = record {
  within = omega (arith, c.loop-at.invariant.within);
  rows = layers_down _ _ c.args.frozen.now _ (c.loop-at.at - 1) c.loop-at.at (omega arith) (omega (arith, c.loop-at.invariant.within)) c.index-frozen-at.is (c.in_ok-append.ensures.items ∙ ap (λ (xs : List RowEntry). c.loop-at.rows.items ++ xs) c.in_ok-more.ensures.rows) c.loop-at.invariant.rows;
}

pub returns-in_err-more : goal.returns-in_err-more
returns-in_err-more c =
    record {
      rows = IfOk-from_err c.from_residual.result _ c.from_residual.ensures.0;
      cause = err_exit c.from_residual.result _ c.from_residual.ensures.1 _ c.in_err-more.ensures.cause;
    }

pub returns-in_err-append : goal.returns-in_err-append
returns-in_err-append c =
    record {
      rows = IfOk-from_err c.from_residual-in_err-append.result _ c.from_residual-in_err-append.ensures.0;
      cause = err_exit c.from_residual-in_err-append.result _ c.from_residual-in_err-append.ensures.1 _ refl;
    }
