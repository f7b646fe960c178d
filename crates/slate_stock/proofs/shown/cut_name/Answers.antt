use Rattle.std.proofs.Common.{refl}
use Rattle.slate_stock.proofs.KeyLaws.{unequal}
use Rattle.slate_stock.proofs.ShownLaws.{cut_begins, cut_goes}
use Rattle.slate_stock.proofs.shown.cut_name.Goals as goal

pub loop-at-init : goal.loop-at-init
loop-at-init c = cut_begins c.args.text.now

pub loop-at-preserved : goal.loop-at-preserved
loop-at-preserved c = cut_goes c.args.text.now c.loop-at.at _ c.loop-at-test.true refl (unequal _ 58 c.if-text-at-eq58.false) c.loop-at.invariant
