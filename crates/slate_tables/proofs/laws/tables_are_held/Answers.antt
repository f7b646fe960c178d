use Rattle.slate_tables.proofs.Worlds.{tables_are_held, tables_are_in_a_world}
use Rattle.slate_tables.proofs.laws.tables_are_held.Goals as goal

pub returns : goal.returns
returns c = record { held = tables_are_held; world = tables_are_in_a_world }
