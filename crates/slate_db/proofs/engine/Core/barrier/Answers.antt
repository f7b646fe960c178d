use Rattle.std.proofs.Common.{ℕ, ◌≤◌, sym, subst}
use Rattle.std.specs.List.{AllByRecursion}
use Rattle.slate_db.proofs.Wholes.{within_newest}
use Rattle.slate_db.proofs.engine.Core.barrier.Goals as goal

pub barrier-begin-requires : goal.barrier-begin-requires
barrier-begin-requires c = subst (λ (n : ℕ). AllByRecursion (λ p. p.1.begin ≤ n) c.self.inside.transactions) (sym c.last.ensures) (within_newest c.self.inside.layers.floor c.self.inside.log.last c.self.inside.transactions c.self.invariant.tied.begins)
