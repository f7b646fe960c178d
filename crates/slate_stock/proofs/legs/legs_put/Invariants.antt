use Rattle.std.proofs.Common.{drop}
use Rattle.slate_stock.specs.Legs.{IsPut}
use Rattle.slate_stock.proofs.LegLaws.{IsLegWalk}
use Rattle.slate_stock.proofs.legs.legs_put.Given as goal

abbrev pub invariant-loop-step : goal.invariant-loop-step
invariant-loop-step l = IsLegWalk IsPut l.keys.items l.amounts.items l.steps (drop l.step-index l.steps)
