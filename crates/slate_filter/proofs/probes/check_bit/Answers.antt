use Rattle.slate_filter.proofs.ProbeLaws.{set_at}
use Rattle.slate_filter.proofs.probes.check_bit.Goals as goal

pub returns : goal.returns
returns c = set_at c.args.buf.now c.args.bit c.requires
