use Rattle.std.proofs.Common.{ap, sym, ◌∙◌}
use Rattle.slate_block.specs.EitherOrder.{walk_of}
use Rattle.slate_block.proofs.block_iterator_v2.BlockIteratorV2.skip_before.Goals.{in-Ascending, in-Descending}
use Rattle.slate_block.proofs.block_iterator_v2.BlockIteratorV2.skip_before.Goals as goal

pub returns : goal.returns
returns g c =
    elim c.match-self.branch [
      | in-Ascending w ↦ let same = ap walk_of (sym w.in-Ascending.is) ∙ c.self.view_is in rw (w.result-is, w.self-inside-is) (rw same at w.skip_before.ensures)
      | in-Descending w ↦ let same = ap walk_of (sym w.in-Descending.is) ∙ c.self.view_is in rw (w.result-is, w.self-inside-is) (rw same at w.skip_before-in-Descending.ensures)
    ]
