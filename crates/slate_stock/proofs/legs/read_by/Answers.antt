use Rattle.std.proofs.Common.{ℕ, List, refl, subst}
use Rattle.slate_stock.specs.Legs.{IsRead}
use Rattle.slate_stock.proofs.legs.read_by.Goals as goal

pub returns-in-None-clause-none : goal.returns-in-None-clause-none
returns-in-None-clause-none c = λ e k n h. c.in-None.ensures.none refl n (subst (IsRead k n) c.in-Get.is h).1
