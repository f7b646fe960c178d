use Rattle.std.proofs.Common.{◌≡◌, false, subst, sym}
use Rattle.slate_types.specs.Keys.{key_lt}
use Rattle.slate_tables.proofs.Points.{point_open}
use Rattle.slate_tables.proofs.reader.only_key.Goals as goal

pub returns-clause-some : goal.returns-clause-some
returns-clause-some c = subst (λ e. key_lt e c.in_ok-start.start ≡ false) (sym c.in_ok-end.ensures.cases) (point_open c.in_ok-start.start)
