use Rattle.std.proofs.Common.{◌≡◌, drop}
use Rattle.slate_txn.specs.Managers.{is_tracked, later}
use Rattle.slate_lower_tests.specs.CommitList.{newest_tracked as the_newest}
use Rattle.slate_lower_tests.proofs.commit_lists.newest_of.Given as goal

abbrev pub invariant-loop-commit : goal.invariant-loop-commit
invariant-loop-commit l = later l.newest (the_newest (is_tracked l.of) l.of.start (drop l.commit-index l.commits)) ≡ the_newest (is_tracked l.of) l.of.start l.commits
