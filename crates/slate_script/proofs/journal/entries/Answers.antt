use Rattle.std.proofs.Common.{◌++◌, map, ap, ◌∙◌}
use Rattle.slate_language.specs.Answers.{entry_commit}
use Rattle.slate_script.proofs.JournalShown.{shown_all, shown_replay}
use Rattle.slate_script.proofs.journal.entries.Goals as goal

pub loop-event-init : goal.loop-event-init
loop-event-init c = ap (λ es. map entry_commit es ++ shown_all c.args.events.now) c.new-entries.ensures.items ∙ shown_replay c.args.events.now
