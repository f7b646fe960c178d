use Rattle.slate_filter.proofs.PolicyLaws.{all_let_through}
use Rattle.slate_filter.proofs.laws.filters_let_through_what_is_given.Goals as goal

pub returns : goal.returns
returns c = all_let_through
