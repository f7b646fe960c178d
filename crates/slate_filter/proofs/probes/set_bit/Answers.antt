use Rattle.slate_filter.proofs.ProbeLaws.{set_one}
use Rattle.slate_filter.proofs.probes.set_bit.Goals as goal

pub returns : goal.returns
returns c = λ b. set_one c.args.buf.now c.args.bit b c.requires
