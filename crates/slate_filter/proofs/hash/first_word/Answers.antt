use Rattle.std.proofs.Common.{◌∙◌}
use Rattle.slate_filter.proofs.HashLaws.{word_is}
use Rattle.slate_filter.proofs.hash.first_word.Goals as goal

pub returns : goal.returns
returns c = c.from_le_bytes.ensures ∙ word_is c.args.bytes.now c.requires
