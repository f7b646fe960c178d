use Rattle.slate_table.proofs.HeldParts.{blocks_held, index_found, index_held}
use Rattle.slate_table.proofs.OpenLaws.{same_end}
use Rattle.slate_read.proofs.Readable.{readable}
use Rattle.slate_read.proofs.readable_laws.tables_are_readable.Goals as goal

pub returns : goal.returns
returns c = record { readable = readable same_end index_held index_found blocks_held }
