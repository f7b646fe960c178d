use Rattle.std.proofs.Common.{arith}
use Rattle.std.proofs.lemmas.Result.{err_from_is_err_and, IfOk-from_err}
use Rattle.slate_types.specs.declared.error.SlateDBError.TheVariants.{OutOfMemory}
use Rattle.slate_block.proofs.BackLaws.{refused_group}
use Rattle.slate_block.proofs.walk_back_v2.groups_to_search.Goals as goal

pub returns-in_err-_behind : goal.returns-in_err-_behind
returns-in_err-_behind c =
    let p = err_from_is_err_and c.from_residual.result c.from_residual.ensures.1 in
    record {
      within = IfOk-from_err c.from_residual.result _ c.from_residual.ensures.0;
      after = IfOk-from_err c.from_residual.result _ c.from_residual.ensures.0;
      read = IfOk-from_err c.from_residual.result _ c.from_residual.ensures.0;
      cause = rw (p.1, p.2) (refused_group c.args.body.now c.args.offsets.now c.args.groups c.loop-low.upto c.in_err-_behind.field-0.0 OutOfMemory (omega arith) c.in_err-_behind.ensures.cause c.in_err-_behind.ensures.damage);
    }
