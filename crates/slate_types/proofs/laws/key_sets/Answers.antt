use Rattle.slate_types.proofs.KeySetLaws.{set_rises, set_keeps}
use Rattle.slate_types.proofs.laws.key_sets.Goals as goal

pub returns-clause-set_rises : goal.returns-clause-set_rises
returns-clause-set_rises c = set_rises

pub returns-clause-set_keeps_keys : goal.returns-clause-set_keeps_keys
returns-clause-set_keeps_keys c = set_keeps
