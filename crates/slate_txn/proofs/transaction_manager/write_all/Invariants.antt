use Rattle.std.proofs.Common.{◌≡◌, ℕ, List, drop}
use Rattle.std.specs.Map.{keys_of}
use Rattle.slate_types.specs.Keys.{among}
use Rattle.slate_txn.specs.Named.{find_named}
use Rattle.slate_txn.specs.ManagersView.{over}
use Rattle.slate_txn.proofs.transaction_manager.write_all.Given as goal

abbrev pub invariant-loop-key : goal.invariant-loop-key
invariant-loop-key l = record {
  found : (k : List ℕ) → over l.seq (among k (drop l.key-index l.keys)) (find_named k l.kept.entries) ≡ over l.seq (among k l.keys) (find_named k l.initial.kept.entries);
  keys : keys_of l.kept.entries ≡ keys_of l.initial.kept.entries;
}
