use Rattle.slate_shared.proofs.txn.DbTransaction.get_with_options.Goals as goal

pub returns : goal.returns
returns g c = let found = c.get_key_value_with_options-found in record { read = (found.result, c.value_of.ensures, found.ensures.read); outside = found.ensures.outside }
