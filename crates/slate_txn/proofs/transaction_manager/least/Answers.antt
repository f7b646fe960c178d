use Rattle.std.proofs.Common.{◌∙◌, ap, Some}
use Rattle.slate_txn.specs.Managers.{Active}
use Rattle.slate_txn.proofs.Standing.{least_first}
use Rattle.slate_txn.proofs.transaction_manager.least.Goals as goal

pub returns-in-Some : goal.returns-in-Some
returns-in-Some c =
    ap (λ (t : Active). Some t.start) c.state.view_is
    ∙ least_first c.args.active.now.entries _ c.in-Some.ensures.first c.requires
