use Rattle.slate_table.proofs.TableFinds.{outside_none, key_held, not_refused}
use Rattle.slate_table.proofs.finding_laws.keys_are_found.Goals as goal

pub returns : goal.returns
returns c = record { outside = outside_none; blocks = key_held; not_refused = not_refused }
