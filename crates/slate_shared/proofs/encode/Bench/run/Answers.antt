use Rattle.std.proofs.Common.{sym}
use Rattle.slate_shared.proofs.Encoding.{made_as, outcome_as}
use Rattle.slate_shared.proofs.encode.Bench.run.Goals as goal

pub returns-clause-outcome : goal.returns-clause-outcome
returns-clause-outcome g c = outcome_as _ _ _ _ _ _ _ c.built_in_turn-made.ensures.outcome (λ i. (c.replace-jobs.ensures.value i).items) (made_as _ _ _ (sym c.replace.ensures.after))
