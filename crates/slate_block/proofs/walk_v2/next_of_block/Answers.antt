use Rattle.std.proofs.Common.{◌+◌, refl, sym, ◌∙◌}
use Rattle.std.proofs.lemmas.Result.{IfOk-from_err, err_from_is_err_and}
use Rattle.slate_types.specs.declared.error.SlateDBError.TheVariants.{OutOfMemory}
use Rattle.slate_block.proofs.GroupSteps.{over_left, left_in_group, left_behind_group, held_refused, behind_refused}
use Rattle.slate_block.proofs.walk_v2.next_of_block.Goals as goal

pub returns-then-not-is_over : goal.returns-then-not-is_over
returns-then-not-is_over c =
    record {
      found = left_in_group c.args.body.now c.args.offsets.now c.in_ok-row.row c.args.place.now (record { group = c.in_ok-row.group; next = c.args.place.now.next }) c.in_ok-row.ensures.found refl;
      cause = tt;
      damage = tt;
    }

pub returns : goal.returns
returns c =
    record {
      found = (let place = c.args.place.now in
          let over = sym c.is_over.ensures ∙ c.if-not-is_over.false in
          left_behind_group c.args.body.now c.args.offsets.now c.in_ok-row-2.row place (record { group = c.in_ok-row-2.group; next = place.next + 1 }) (over_left c.args.body.now place.group over) (c.requires over) c.in_ok-row-2.ensures.found refl);
      cause = tt;
      damage = tt;
    }

pub returns-in_err-row : goal.returns-in_err-row
returns-in_err-row c =
    let p = err_from_is_err_and c.from_residual.result c.from_residual.ensures.1 in
    record {
      found = IfOk-from_err c.from_residual.result _ c.from_residual.ensures.0;
      cause = rw (p.1, p.2) (held_refused c.args.body.now c.args.offsets.now c.args.place.now c.in_err-row.field-0.0 OutOfMemory c.in_err-row.ensures.cause);
      damage = rw (p.1, p.2) c.in_err-row.ensures.damage;
    }

pub returns-in_err-row-2 : goal.returns-in_err-row-2
returns-in_err-row-2 c =
    let p = err_from_is_err_and c.from_residual-in_err-row-2.result c.from_residual-in_err-row-2.ensures.1 in
    record {
      found = IfOk-from_err c.from_residual-in_err-row-2.result _ c.from_residual-in_err-row-2.ensures.0;
      cause = (let place = c.args.place.now in
          let over = sym c.is_over.ensures ∙ c.if-not-is_over.false in
          let p = err_from_is_err_and c.from_residual-in_err-row-2.result c.from_residual-in_err-row-2.ensures.1 in
          rw (p.1, p.2) (behind_refused c.args.body.now c.args.offsets.now place c.in_err-row-2.field-0.0 OutOfMemory over (c.requires over) c.in_err-row-2.ensures.cause));
      damage = rw (p.1, p.2) c.in_err-row-2.ensures.damage;
    }
