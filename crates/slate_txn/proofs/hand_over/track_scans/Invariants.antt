use Rattle.std.proofs.Common.{drop}
use Rattle.std.specs.List.{list_any}
use Rattle.slate_txn.specs.HandedOver.{Grown, SameKeys}
use Rattle.slate_txn.specs.Named.{find_named}
use Rattle.slate_txn.specs.Tracking.{tracks}
use Rattle.slate_txn.proofs.HandOver.{TakesRest}
use Rattle.slate_txn.proofs.hand_over.track_scans.Given as goal

abbrev pub invariant-loop-scan : goal.invariant-loop-scan
invariant-loop-scan l = record {
  grown : Grown l.id l.initial.manager l.manager;
  same : SameKeys (find_named l.id l.initial.manager.active) (find_named l.id l.manager.active);
  rest : TakesRest (λ k. list_any (λ s. tracks s k) l.scans) (λ k. list_any (λ s. tracks s k) (drop l.scan-index l.scans)) (find_named l.id l.initial.manager.active) (find_named l.id l.manager.active);
}
