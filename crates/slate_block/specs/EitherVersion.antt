-- What is left of a walk over a block of any version.
use Rattle.slate_block.specs.declared.data_block_iterator.DataBlockIterator.{DataBlockIterator}
use Rattle.slate_block.specs.declared.data_block_iterator.DataBlockIterator.TheVariants.{V1, V2}
use Rattle.slate_block.specs.BlockWalks.{ReadsLeft}

abbrev pub left_of : {B : Type 0} → DataBlockIterator B → ReadsLeft
left_of (V1 it) = it
left_of (V2 it) = it
