use Rattle.std.proofs.Common.{rules}
use mathlib.Core.Option.{none}
use Rattle.atomic_table.specs.Table.{step}
use Rattle.slate_shared.proofs.Moves.{joins, looks, joined_seen}
use Rattle.slate_shared.proofs.pass.Pass.join.Goals as goal

pub join_seat-requires : goal.join_seat-requires
join_seat-requires g c = (search rules, search rules, search rules, search rules, joins _ _ _ _)

pub load-requires : goal.load-requires
load-requires g c = (search rules, search rules, looks _ _ _)

pub returns-clause-seen : goal.returns-clause-seen
returns-clause-seen g c = rw (← c.self.view_is, ← c.other.view_is) (joined_seen (step 0 0 0 0 none) _ _ 0 c.self.inside.seat.me.0 c.other.inside.seat.me.0 _ c.join_seat.ensures.2 c.load.ensures.2)
