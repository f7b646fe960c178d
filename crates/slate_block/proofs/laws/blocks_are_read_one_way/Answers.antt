use Rattle.slate_block.proofs.LongestFronts.{longest_fronts}
use Rattle.slate_block.proofs.WrittenLaws.{one_written}
use Rattle.slate_block.proofs.BlockLaws.{blocks_one_way}
use Rattle.slate_block.proofs.laws.blocks_are_read_one_way.Goals as goal

pub returns-clause-longest : goal.returns-clause-longest
returns-clause-longest c = longest_fronts

pub returns-clause-one_written : goal.returns-clause-one_written
returns-clause-one_written c = one_written

pub returns-clause-one_way : goal.returns-clause-one_way
returns-clause-one_way c = blocks_one_way
