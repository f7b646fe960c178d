use Rattle.slate_index.proofs.JournalLaws.{entries_are_those_of_records, records_have_names}
use Rattle.slate_index.proofs.laws.audited.Goals as goal

pub returns : goal.returns
returns c = record { entries = entries_are_those_of_records; names = records_have_names }
