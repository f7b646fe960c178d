use Rattle.slate_tables.proofs.Exported.{export_is_stored}
use Rattle.slate_tables.proofs.laws.export_is_stored.Goals as goal

pub returns : goal.returns
returns c = record { stored = export_is_stored }
