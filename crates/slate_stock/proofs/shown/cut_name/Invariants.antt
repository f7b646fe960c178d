use Rattle.std.proofs.Common.{◌≡◌, take, drop}
use Rattle.slate_stock.specs.Reading.{cut_name}
use Rattle.slate_stock.proofs.ShownLaws.{behind}
use Rattle.slate_stock.proofs.shown.cut_name.Given as goal

abbrev pub invariant-loop-at : goal.invariant-loop-at
invariant-loop-at l = cut_name l.text ≡ behind (take l.at l.text) (cut_name (drop l.at l.text))
