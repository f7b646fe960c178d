use Rattle.slate_filter.proofs.PolicyLaws.{nothing_denied}
use Rattle.slate_filter.proofs.laws.filters_deny_nothing_given.Goals as goal

pub returns : goal.returns
returns c = nothing_denied
