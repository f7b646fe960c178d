use Rattle.std.proofs.Common.{inr, arith}
use Rattle.slate_types.specs.declared.error.SlateDBError.TheVariants.{OutOfMemory}
use Rattle.slate_block.proofs.GroupSteps.{full_left, taken, taken_none}
use Rattle.slate_block.proofs.row_groups.next_of_group.Goals as goal

pub returns-then-group-eq0-clause-cause : goal.returns-then-group-eq0-clause-cause
returns-then-group-eq0-clause-cause c = rw c.corrupt.ensures (inr (full_left c.args.body.now c.args.group.now c.requires c.if-group-eq0.true))

pub returns-clause-found : goal.returns-clause-found
returns-clause-found c = taken c.args.body.now c.args.group.now c.row_and_rest.result c.requires c.row_and_rest.ensures.found c.row_and_rest.ensures.rest

pub returns-clause-cause : goal.returns-clause-cause
returns-clause-cause c = taken_none c.args.body.now c.args.group.now c.row_and_rest.result OutOfMemory c.requires (omega arith) c.row_and_rest.ensures.cause
