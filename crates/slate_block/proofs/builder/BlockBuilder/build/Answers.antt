use Rattle.std.proofs.Common.{◌<◌, subst, map, arith}
use Rattle.slate_block.specs.BlockSpelling.{IsBlockOf, FitsBlock, as_read}
use Rattle.slate_block.specs.Building.{Building}
use Rattle.slate_block.proofs.HeldLaws.{held_fits, held_block}
use Rattle.slate_block.proofs.builder.BlockBuilder.build.Goals as goal

pub returns-clause-block : goal.returns-clause-block
returns-clause-block c =
    let inside = c.self.inside in
    let some : 0 < inside.part.num_rows = omega arith in
    subst (λ (b : Building). IsBlockOf c.in_ok-body.body inside.part.offsets.items b.version (map (as_read b.version) b.rows)) c.self.view_is
    (held_block inside.part inside.held c.in_ok-body.body some c.in_ok-body.ensures.ok)

pub returns-clause-fits : goal.returns-clause-fits
returns-clause-fits c =
    let inside = c.self.inside in
    let some : 0 < inside.part.num_rows = omega arith in
    subst (λ (b : Building). FitsBlock b.version b.rows) c.self.view_is (held_fits inside.part inside.held some)
