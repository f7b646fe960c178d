use Rattle.std.proofs.Common.{◌⊎◌, refl, inl, inr}
use Rattle.std.proofs.lemmas.Result.{err_from_is_err_and, IfOk-from_err}
use Rattle.slate_types.specs.declared.error.SlateDBError.TheVariants.{OutOfMemory}
use Rattle.slate_block.specs.BlockWalks.{left}
use Rattle.slate_block.specs.EitherVersion.{left_of}
use Rattle.slate_types.proofs.Exits.{err_exit}
use Rattle.slate_tables.proofs.BlockLaws.{block_damage, rows_stop}
use Rattle.slate_tables.proofs.rows.all_rows.Goals as goal

pub returns-in_err-row : goal.returns-in_err-row
returns-in_err-row c =
    let p = err_from_is_err_and c.from_residual.result c.from_residual.ensures.1 in
    record {
      rows = IfOk-from_err c.from_residual.result _ c.from_residual.ensures.0;
      cause = (rw (p.1, p.2)
          (rows_stop (left (left_of c.args.walk.now)) (left_of c.loop-rows.walk).reads c.loop-rows.rows.items c.in_err-row.field-0.0 OutOfMemory c.loop-rows.invariant c.in_err-row.ensures.cause));
      damage = rw (p.1, p.2) (block_damage c.in_err-row.field-0.0 c.in_err-row.ensures.damage);
    }

pub returns-in_err-push : goal.returns-in_err-push
returns-in_err-push c =
    record {
      rows = IfOk-from_err c.from_residual-in_err-push.result _ c.from_residual-in_err-push.ensures.0;
      cause = err_exit c.from_residual-in_err-push.result _ c.from_residual-in_err-push.ensures.1 _ (inl refl);
      damage = err_exit c.from_residual-in_err-push.result _ c.from_residual-in_err-push.ensures.1 _ (inl refl);
    }
