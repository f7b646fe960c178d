use Rattle.std.proofs.Common.{refl}
use Rattle.slate_types.specs.declared.error.SlateDBError.TheVariants.{OutOfMemory}
use Rattle.slate_block.proofs.GroupSteps.{first_refused, first_taken}
use Rattle.slate_block.proofs.row_groups.first_of_group.Goals as goal

pub returns-clause-found : goal.returns-clause-found
returns-clause-found c =
    first_taken c.args.body.now c.args.offsets.now c.args.number _ c.row_and_rest-first.result c.requires refl c.place_behind-end.ensures refl refl c.new.ensures
    c.row_and_rest-first.ensures.found c.row_and_rest-first.ensures.rest

pub returns-clause-cause : goal.returns-clause-cause
returns-clause-cause c =
    first_refused c.args.body.now c.args.offsets.now c.args.number _ _ _ c.row_and_rest-first.result OutOfMemory refl c.place_behind-end.ensures c.new.ensures c.row_and_rest-first.ensures.cause
