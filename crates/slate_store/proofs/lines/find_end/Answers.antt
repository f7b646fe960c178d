use Rattle.slate_store.proofs.Ends.{found_end}
use Rattle.slate_store.proofs.lines.find_end.Goals as goal

pub returns : goal.returns
returns c = found_end c.args.bytes.now c.memchr.result c.memchr.ensures
