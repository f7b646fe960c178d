use Rattle.std.proofs.Common.{ap}
use Rattle.slate_shared.specs.LockedModel.{LockedModel}
use Rattle.slate_shared.proofs.TablesNamed.{next_flush}
use Rattle.slate_shared.proofs.locked.Locked.abandon.Goals as goal

pub invariant_of-self : goal.invariant_of-self
invariant_of-self g c = (record { locked = c.self.invariant.0.locked; aloft = tt; newest = c.self.invariant.0.newest }, c.self.invariant.1)

pub returns-clause-next : goal.returns-clause-next
returns-clause-next g c = λ f flies. next_flush g.P.Parts.meaning g.P.Parts.policies c.self.inside.core c.args.self.now.events c.self.inside.flight c.args.self.now.flight f c.self.invariant.0.aloft c.self.invariant.1
    (ap (λ (h : LockedModel). h.events) c.self.view_is) (ap (λ (h : LockedModel). h.flight) c.self.view_is) flies
