use Rattle.slate_tables.proofs.LoadText.{script_spells}
use Rattle.slate_tables.proofs.laws.script_spells_lines.Goals as goal

pub returns : goal.returns
returns c = record { spells = script_spells }
