use Rattle.slate_types.proofs.PartitionLaws.{first_is_first, last_is_last}
use Rattle.slate_types.proofs.laws.partitions.Goals as goal

pub returns-clause-first_including_is_first : goal.returns-clause-first_including_is_first
returns-clause-first_including_is_first c = first_is_first

pub returns-clause-last_including_is_last : goal.returns-clause-last_including_is_last
returns-clause-last_including_is_last c = last_is_last
