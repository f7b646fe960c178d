use Rattle.slate_table.proofs.ChangedBytes.{byte_told}
use Rattle.slate_table.proofs.ChangedSections.{sections_tell}
use Rattle.slate_table.proofs.reading_laws.sections_tell_changes.Goals as goal

pub returns : goal.returns
returns c = record { byte = byte_told; sections = sections_tell }
