-- What is left of a walk over a block of version 2, up or down.
use Rattle.slate_block.specs.declared.block_iterator_v2.BlockIteratorInner.{BlockIteratorInner}
use Rattle.slate_block.specs.declared.block_iterator_v2.BlockIteratorInner.TheVariants.{Ascending, Descending}
use Rattle.slate_block.specs.BlockWalks.{ReadsLeft}

abbrev pub walk_of : {B : Type 0} → BlockIteratorInner B → ReadsLeft
walk_of (Ascending state) = state
walk_of (Descending rows) = rows
