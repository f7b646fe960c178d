use Rattle.std.proofs.Common.{refl, arith}
use Rattle.slate_table.proofs.CrcLaws.{word_is_bytes}
use Rattle.slate_table.proofs.crc.word_of.Goals as goal

pub returns : goal.returns
returns c = word_is_bytes c.args.b0 c.args.b1 c.args.b2 c.args.b3 c.args.b4 c.args.b5 c.args.b6 c.args.b7
    (omega arith, (omega arith, (omega arith, (omega arith, (omega arith, (omega arith, (omega arith, (omega arith, refl))))))))
    _ c.from_le_bytes.ensures
