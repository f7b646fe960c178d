use Rattle.std.proofs.Common.{rules}
use Rattle.std.proofs.lemmas.Fn.{filter_same}
use Rattle.slate_read.specs.RunWalk.{can_reach}
use Rattle.slate_read.proofs.run_rows.drop_outside.Goals as goal

pub returns : goal.returns
returns c = filter_same _ (λ h. can_reach c.args.range.now h.info) _ (λ x b f h. search rules) _ _ c.retain.ensures.filtered
