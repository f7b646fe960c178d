use Rattle.std.proofs.Common.{refl, arith}
use Rattle.slate_table.specs.declared.crc_tables.TheConstants.{TABLES}
use Rattle.slate_table.proofs.CrcLaws.{table_is}
use Rattle.slate_table.proofs.crc.after_bytes.Goals as goal

pub returns : goal.returns
returns c = table_is TABLES refl c.args.k c.args.byte c.requires (omega arith)
