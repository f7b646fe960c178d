use Rattle.std.proofs.Common.{◌≤◌, arith, ap, ◌∙◌}
use Rattle.std.proofs.lemmas.Bool.Decides.{nat_tests}
use Rattle.slate_txn.specs.Places.{last_install}
use Rattle.slate_shared.specs.LockedModel.{LockedModel}
use Rattle.slate_shared.proofs.Held.{is_installed_at}
use Rattle.slate_shared.proofs.locked.Locked.is_installed.Goals as goal

pub returns-in-Some : goal.returns-in-Some
returns-in-Some g c = λ test.
    let within : c.args.seq ≤ c.in-Some.through = grind (arith, nat_tests) in
    is_installed_at c.args.self.now.events c.self.inside.installed c.in-Some.through c.args.seq (c.self.invariant.0.newest ∙ ap (λ (h : LockedModel). last_install h.events) c.self.view_is) c.in-Some.is within
