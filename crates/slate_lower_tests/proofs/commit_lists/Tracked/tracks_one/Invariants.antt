use Rattle.std.proofs.Common.{◌≡◌, drop}
use Rattle.std.specs.List.{list_any}
use Rattle.slate_txn.specs.Managers.{is_tracked}
use Rattle.slate_lower_tests.proofs.commit_lists.Tracked.tracks_one.Given as goal

abbrev pub invariant-loop-key : goal.invariant-loop-key
invariant-loop-key l = list_any (is_tracked l.self) (drop l.key-index l.keys) ≡ list_any (is_tracked l.self) l.keys
