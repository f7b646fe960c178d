use Rattle.slate_types.proofs.PrefixLaws.{range_of_prefix, subrange_behind}
use Rattle.slate_types.proofs.KeyLaws.{whole_subrange}
use Rattle.slate_types.proofs.laws.prefixes.Goals as goal

pub returns-clause-prefix_range_begins : goal.returns-clause-prefix_range_begins
returns-clause-prefix_range_begins c = range_of_prefix

pub returns-clause-subrange_is_behind : goal.returns-clause-subrange_is_behind
returns-clause-subrange_is_behind c = subrange_behind

pub returns-clause-whole_is_the_prefix : goal.returns-clause-whole_is_the_prefix
returns-clause-whole_is_the_prefix c = whole_subrange
