use Rattle.std.proofs.Common.{rules}
use Rattle.slate_table.proofs.CrcLaws.{sixteen_are}
use Rattle.slate_table.proofs.crc.sixteen_more.Goals as goal

pub returns : goal.returns
returns c = sixteen_are c.args.crc c.args.bytes _ _ _ _ _ (search rules)
    (record {
      start = c.from.ensures;
      first = c.word_of-first.ensures;
      second = c.word_of-second.ensures;
      left = c.after_word.ensures;
      later = c.after_word-2.ensures;
    })
