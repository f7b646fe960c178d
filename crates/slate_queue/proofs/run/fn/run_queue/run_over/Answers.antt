use Rattle.slate_queue.specs.Onward.{replies_plain}
use Rattle.slate_queue.proofs.run.fn.run_queue.run_over.Goals as goal

pub returns : goal.returns
returns g c = replies_plain g.X.PrefixExtractor.lengths c.captures.laws.now.segments c.requires.1 c.answer_line.ensures
