use Rattle.slate_table.proofs.FilteredLaws.{denied_lack}
use Rattle.slate_table.proofs.filtered_laws.denied_tables_lack_the_key.Goals as goal

pub returns : goal.returns
returns c = denied_lack
