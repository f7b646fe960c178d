use Rattle.std.proofs.Common.{not, filter, ap, ◌∙◌, rules}
use Rattle.std.proofs.lemmas.Fn.{filter_same}
use Rattle.slate_types.specs.Keys.{among}
use Rattle.slate_txn.proofs.db_transaction.tracked_writes.Goals as goal

pub returns-clause-keys : goal.returns-clause-keys
returns-clause-keys c =
    filter_same _ (λ k. not (among k c.args.unmarked.now)) _ (λ x b f h. search rules) _ _ c.retain.ensures.filtered
    ∙ ap (filter (λ k. not (among k c.args.unmarked.now))) c.in_ok-keys.ensures.keys
