use Rattle.std.proofs.Common.{◌≡◌, ℕ, List, drop}
use Rattle.std.specs.BTreeMap.{IsOrdered}
use Rattle.slate_types.specs.Keys.{key_cmp, among}
use Rattle.slate_txn.specs.Named.{find_named}
use Rattle.slate_txn.specs.ManagersView.{placed, real}
use Rattle.slate_txn.proofs.transaction_manager.place_all.Given as goal

abbrev pub invariant-loop-key : goal.invariant-loop-key
invariant-loop-key l = record {
  found : (k : List ℕ) → placed (among k (drop l.key-index l.keys)) (find_named k l.kept.entries) ≡ placed (among k l.keys) (find_named k l.initial.kept.entries);
  real : real l.kept.entries ≡ real l.initial.kept.entries;
  rising : IsOrdered key_cmp l.kept;
}
