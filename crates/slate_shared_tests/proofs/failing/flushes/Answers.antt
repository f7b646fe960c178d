use Rattle.std.proofs.Common.{◌∙◌}
use Rattle.slate_shared_tests.proofs.failing.flushes.Goals as goal

pub flush-requires-in-Err-clause-meaning : goal.flush-requires-in-Err-clause-meaning
flush-requires-in-Err-clause-meaning g c κs within = c.flush.ensures.puts.meaning ∙ c.requires.parts

pub returns-in-Ok-clause-parts : goal.returns-in-Ok-clause-parts
returns-in-Ok-clause-parts g c = c.flush.ensures.puts.meaning ∙ c.requires.parts

pub returns-in-Err-clause-parts : goal.returns-in-Err-clause-parts
returns-in-Err-clause-parts g c = c.flush-in-Err.ensures.puts.meaning ∙ (c.flush.ensures.puts.meaning ∙ c.requires.parts)
