use Rattle.slate_block.proofs.WalkedVersions.{walks_read}
use Rattle.slate_block.proofs.reading_laws.blocks_are_walked.Goals as goal

pub returns : goal.returns
returns c = walks_read
