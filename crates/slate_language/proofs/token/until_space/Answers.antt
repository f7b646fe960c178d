use Rattle.std.proofs.Common.{None, Some, sym}
use Rattle.slate_language.proofs.SplitLaws.{first_space}
use Rattle.slate_language.proofs.token.until_space.Goals as goal

pub returns-in-Some-clause-len : goal.returns-in-Some-clause-len
returns-in-Some-clause-len c = sym (first_space c.args.bytes.now (Some c.in-Some.space) c.in-Some.ensures)

pub returns-in-None-clause-len : goal.returns-in-None-clause-len
returns-in-None-clause-len c = sym (first_space c.args.bytes.now None c.in-None.ensures)
