use Rattle.uses.proofs.shop.sell.Goals as goal

pub commit-requires-after_bounds : goal.commit-requires-after_bounds
commit-requires-after_bounds g c κs within = (c.take_one.ensures.stay c.in_ok-id.id).transaction c.in_ok-id.ensures.open

pub rollback-requires : goal.rollback-requires
rollback-requires g c = (c.take_one.ensures.stay c.in_ok-id.id).transaction c.in_ok-id.ensures.open
