use Rattle.slate_types.specs.declared.error.SlateDBError.TheVariants.{OutOfMemory}
use Rattle.slate_block.specs.GroupWalks.{as_place}
use Rattle.slate_block.proofs.KeySteps.{block_goes, block_refused}
use Rattle.slate_block.proofs.key_walk.KeyPlace.pass.Goals as goal

pub returns-clause-goes : goal.returns-clause-goes
returns-clause-goes c = block_goes c.args.body.now c.args.offsets.now c.args.key.now (as_place c.args.self.now) (as_place c.pass_next.new.self) c.pass_next.result c.pass_next.ensures.next c.pass_next.ensures.goes

pub returns-clause-cause : goal.returns-clause-cause
returns-clause-cause c = block_refused c.args.body.now c.args.offsets.now (as_place c.args.self.now) OutOfMemory c.pass_next.result c.pass_next.ensures.cause
