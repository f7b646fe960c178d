use Rattle.std.proofs.Common.{◌≡◌, List}
use Rattle.std.specs.List.{AllByRecursion}
use Rattle.slate_types.specs.declared.types.KeyValue.{KeyValue}
use Rattle.slate_store.specs.Reach.{reach_of}
use Rattle.slate_db.specs.Opened.{HasTransaction}
use Rattle.slate_db.specs.Scans.{IsOpenScan, id_of}
use Rattle.slate_queue.specs.Commits.{IsPassed}
use Rattle.slate_queue.specs.CallSteps.{nexts}
use Rattle.slate_queue.specs.Walks.{Walked}
use Rattle.slate_queue.proofs.claiming.walk.Given as goal

abbrev pub invariant-loop : goal.invariant-loop
invariant-loop g l =
    let before = reach_of g.S.Store g.M.MergeOperator g.T.BlockTransformer l.initial.env in
    let now = reach_of g.S.Store g.M.MergeOperator g.T.BlockTransformer l.env in
    record {
      open_scan : IsOpenScan l.core l.scan;
      open_there : HasTransaction l.core (id_of l.initial.scan);
      walk : (passed : List KeyValue) × AllByRecursion (IsPassed l.now) passed × Walked before now l.initial.core l.core l.initial.scan l.scan (nexts passed);
      counts : now.faults ≡ before.faults;
    }
