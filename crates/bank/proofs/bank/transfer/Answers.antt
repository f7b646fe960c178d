use Rattle.std.proofs.Common.{rules}
use Rattle.std.proofs.lemmas.Result.{IfOk-weaker}
use Rattle.slate_connection.proofs.Going.{committed_at, same_by_runs}
use Rattle.bank.proofs.bank.transfer.Goals as goal

pub returns-clause-moved : goal.returns-clause-moved
returns-clause-moved g c =
    IfOk-weaker c.transact.result _ _
    (λ a h.
    let same = same_by_runs _ _ _ _ _ _ _ _ _ (λ f x s t r ran. search rules) h in
    let ran = h.ran in
    let bare = h.bare in
    (_, committed_at _ _ _ _ _ _ _ _ c.patient.ensures.0 c.patient.ensures.1 h.committed, search rules))
    c.transact.ensures.committed
