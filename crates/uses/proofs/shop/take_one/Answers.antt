use Rattle.uses.proofs.OpenIds.{stays_on}
use Rattle.uses.proofs.shop.take_one.Goals as goal

pub put-requires : goal.put-requires
put-requires g c = (c.get.ensures.notes.stay c.args.id.now).transaction c.requires.open

pub returns : goal.returns
returns g c = record { stay = λ id. stays_on (c.get.ensures.notes.stay id) (c.put.ensures.stay id) }
