use Rattle.std.proofs.Common.{◌≡◌, List}
use Rattle.std.specs.List.{AllByRecursion}
use Rattle.slate_types.specs.declared.types.KeyValue.{KeyValue}
use Rattle.slate_store.specs.Reach.{reach_of}
use Rattle.slate_queue.specs.Commits.{IsPassed}
use Rattle.slate_queue.specs.CallSteps.{nexts}
use Rattle.slate_queue.specs.PassWalks.{IsUnderWay, WalkedOn}
use Rattle.slate_queue.proofs.on_pass.claiming.walk.Given as goal

abbrev pub invariant-loop : goal.invariant-loop
invariant-loop g l =
    let before = reach_of g.S.Store g.M.MergeOperator g.T.BlockTransformer l.initial.env in
    let now = reach_of g.S.Store g.M.MergeOperator g.T.BlockTransformer l.env in
    record {
      walking : IsUnderWay g.P.Parts.options l.txn l.scan;
      walk : (passed : List KeyValue) × AllByRecursion (IsPassed l.now) passed × WalkedOn g.P.Parts.options g.P.Parts.meaning before now l.initial.txn l.txn l.initial.scan l.scan (nexts passed);
      table : l.txn.table ≡ l.initial.txn.table;
      counts : now.faults ≡ before.faults;
    }
