use Rattle.std.proofs.Common.{◌∙◌, ap, not}
use Rattle.slate_types.specs.Keys.{is_past_start}
use Rattle.slate_merge.proofs.Newests.{below_included}
use Rattle.slate_merge.proofs.newest_first.is_below.Goals as goal

pub returns-in-Included : goal.returns-in-Included
returns-in-Included c = c.puts_before.ensures ∙ below_included c.args.key.now c.in-Included.start.now ∙ ap (λ b. not (is_past_start b c.args.key.now)) c.in-Included.ensures
