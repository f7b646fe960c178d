use Rattle.std.proofs.Common.{◌≡◌, ◌++◌, false, List, length}
use Rattle.std.specs.Prelude.{Contains}
use Rattle.std.specs.List.{AllByRecursion}
use Rattle.std.specs.Vec.Iter.{into_iter_items, into_iter_len}
use Rattle.slate_types.specs.declared.iter.IterationOrder.TheVariants.{Ascending}
use Rattle.slate_types.specs.Iteration.{IsInOrder}
use Rattle.slate_block.specs.declared.block.Block.{Block}
use Rattle.slate_table.specs.Finding.{AreBlocksOf}
use Rattle.slate_mem.specs.Lookup.{IsRowUpTo, is_decided}
use Rattle.slate_db.specs.Model.{Rows}
use Rattle.slate_db.specs.Shown.{IsRowOf}
use Rattle.slate_db.proofs.Walks.{Walked}
use Rattle.slate_db.proofs.lookup.newest_of_blocks.Given as goal

abbrev pub invariant-loop-block : goal.invariant-loop-block
invariant-loop-block l = record {
  count : into_iter_len l.block-iterator ≡ length (into_iter_items l.block-iterator);
  open_still : is_decided l.found.items ≡ false;
  rest : (done : List Block) × (l.fn.blocks.items ≡ done ++ into_iter_items l.block-iterator);
  asked : AllByRecursion (IsRowUpTo l.key l.max_seq) l.found.items;
  rows : AllByRecursion (λ r. (block : Block) × Contains l.fn.blocks.items block × IsRowOf l.version block r) l.found.items;
  walked : (lists : List Rows) → AreBlocksOf l.version l.fn.blocks.items lists → AllByRecursion (IsInOrder Ascending) lists → Walked l.version (into_iter_items l.block-iterator) lists l.key l.max_seq l.found.items;
}
