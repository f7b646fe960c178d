use Rattle.std.proofs.Common.{inl, refl}
use Rattle.slate_block.proofs.Failing.{out_of_memory}
use Rattle.slate_block.proofs.places.between.Goals as goal

pub returns-then-upto-len-clause-cause : goal.returns-then-upto-len-clause-cause
returns-then-upto-len-clause-cause c = out_of_memory c.slice.result c.map_err.result _ c.map_err.ensures.cases (inl refl)

pub returns-then-upto-len-clause-damage : goal.returns-then-upto-len-clause-damage
returns-then-upto-len-clause-damage c = out_of_memory c.slice.result c.map_err.result _ c.map_err.ensures.cases (inl refl)
