use Rattle.std.proofs.Common.{arith}
use Rattle.slate_table.proofs.CrcLaws.{word_is}
use Rattle.slate_table.proofs.crc.after_word.Goals as goal

pub returns : goal.returns
returns c = word_is c.args.k c.args.word c.to_le_bytes.result _ _ _ _ _ _ _ _ (omega arith) c.to_le_bytes.ensures
    (record {
      is0 = c.after_bytes.ensures;
      is1 = c.after_bytes-2.ensures;
      is2 = c.after_bytes-3.ensures;
      is3 = c.after_bytes-4.ensures;
      is4 = c.after_bytes-5.ensures;
      is5 = c.after_bytes-6.ensures;
      is6 = c.after_bytes-7.ensures;
      is7 = c.after_bytes-8.ensures;
    })
