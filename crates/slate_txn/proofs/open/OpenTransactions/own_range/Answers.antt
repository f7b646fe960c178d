use Rattle.std.proofs.Common.{ap, ◌∙◌}
use Rattle.slate_txn.specs.Named.{find_named}
use Rattle.slate_txn.specs.Open.{Transactions}
use Rattle.slate_txn.proofs.open.OpenTransactions.own_range.Goals as goal

pub returns-clause-rows : goal.returns-clause-rows
returns-clause-rows c = λ t is. c.own_range.ensures.rows t (ap (λ (ps : Transactions). find_named c.args.id.now ps) c.self.view_is ∙ is)

pub returns-clause-none : goal.returns-clause-none
returns-clause-none c = λ none. c.own_range.ensures.none (ap (λ (ps : Transactions). find_named c.args.id.now ps) c.self.view_is ∙ none)
