use Rattle.slate_tables.proofs.Loading.{loads_rows}
use Rattle.slate_tables.proofs.laws.lines_load_rows.Goals as goal

pub returns : goal.returns
returns c = record { loads = loads_rows }
