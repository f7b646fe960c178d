use Rattle.slate_merge.specs.MergeStateLaws.{merges}
use Rattle.slate_merge.proofs.laws.new_merges.Goals as goal

pub returns : goal.returns
returns g c = record {
  sound = λ w h. (merges g.I.RowEntryIterator.rest g.I.RowEntryIterator.sound g.I.RowEntryIterator.order w c.args.sources.now.items c.args.order c.args.dedup c.args.it.now c.requires h).0;
  rest = λ w h. (merges g.I.RowEntryIterator.rest g.I.RowEntryIterator.sound g.I.RowEntryIterator.order w c.args.sources.now.items c.args.order c.args.dedup c.args.it.now c.requires h).1;
}
