use Rattle.slate_merge.proofs.Operators.{new_rest, new_sound}
use Rattle.slate_merge.proofs.laws.new_folds.Goals as goal

pub returns : goal.returns
returns g c = record {
  sound = λ w s. new_sound g.I.RowEntryIterator.rest g.I.RowEntryIterator.sound g.I.RowEntryIterator.order g.met.I.RowEntryIterator.rising c.args.source.now c.args.folding c.args.it.now c.requires w s;
  rest = λ w. new_rest g.I.RowEntryIterator.rest c.args.source.now c.args.folding c.args.it.now c.requires w;
}
