use Rattle.std.proofs.Common.{◌∙◌, take, arith}
use Rattle.std.specs.List.{zip}
use Rattle.std.proofs.lemmas.Grind.{get_or_default_zero}
use Rattle.slate_stock.specs.Commits.{puts}
use Rattle.slate_stock.proofs.LegLaws.{batch_ends, batch_more}
use Rattle.slate_stock.proofs.audit.batch_of.Goals as goal

pub loop-place-preserved : goal.loop-place-preserved
loop-place-preserved c = batch_more c.args.legs.now.keys.items c.args.legs.now.amounts.items c.loop-place.place _ _ _ _ c.put_bytes.new.self (omega arith) (omega arith) (c.in_ok-key.ensures.cases ∙ c.index-in-loop-place.ensures) (c.index.ensures ∙ get_or_default_zero c.args.legs.now.amounts.items c.loop-place.place c.index.result.now (omega arith)) c.in_ok-value.ensures (c.in-Ok.ensures.means (puts (take c.loop-place.place (zip c.args.legs.now.keys.items c.args.legs.now.amounts.items))) c.loop-place.invariant)

pub returns : goal.returns
returns c = batch_ends c.args.legs.now.keys.items c.args.legs.now.amounts.items c.loop-place.place c.loop-place.batch (omega arith) c.loop-place.invariant
