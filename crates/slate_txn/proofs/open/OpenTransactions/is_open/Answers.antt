use Rattle.std.proofs.Common.{ap, ◌∙◌}
use Rattle.std.specs.Prelude.{is_some}
use Rattle.slate_txn.specs.Named.{find_named}
use Rattle.slate_txn.specs.Open.{Transactions}
use Rattle.slate_txn.proofs.NamedLaws.{find_is}
use Rattle.slate_txn.proofs.open.OpenTransactions.is_open.Goals as goal

pub returns : goal.returns
returns c =
    c.contains_key.ensures
    ∙ ap is_some (find_is c.args.id.now c.self.inside.by_id.entries)
    ∙ ap (λ (ps : Transactions). is_some (find_named c.args.id.now ps)) c.self.view_is
