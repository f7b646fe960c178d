use Rattle.std.proofs.Common.{◌≡◌, ◌++◌, drop, map}
use Rattle.slate_txn.specs.Replay.{replay}
use Rattle.slate_language.specs.Answers.{entry_commit, shown_commits}
use Rattle.slate_script.proofs.JournalShown.{shown_all}
use Rattle.slate_script.proofs.journal.entries.Given as goal

abbrev pub invariant-loop-event : goal.invariant-loop-event
invariant-loop-event l = map entry_commit l.entries.items ++ shown_all (drop l.event-index l.events) ≡ shown_commits (replay l.events).commits
