use Rattle.slate_tables.proofs.Moved.{script_loads_state}
use Rattle.slate_tables.proofs.laws.script_loads_state.Goals as goal

pub returns : goal.returns
returns c = record { loads = script_loads_state }
