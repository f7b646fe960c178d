use Rattle.std.proofs.Common.{◌≡◌}
use Rattle.slate_types.specs.Outside.{OnlyReads}
use Rattle.slate_store.specs.Reach.{reach_of}
use Rattle.slate_db.specs.Scans.{IsOpenScan, number_of, scan_of}
use Rattle.slate_script.specs.Scanning.{Took}
use Rattle.slate_script.proofs.scan.take_steps.Given as goal
use Rattle.slate_script.proofs.WalkLaws.{TakesRest}

abbrev pub invariant-loop-step : goal.invariant-loop-step
invariant-loop-step g l =
    let before = reach_of g.S.Store g.M.MergeOperator g.T.BlockTransformer l.initial.env in
    let now = reach_of g.S.Store g.M.MergeOperator g.T.BlockTransformer l.env in
    record {
      took : Took (TakesRest (number_of l.initial.scan) (scan_of l.initial.scan).order l.steps l.step-index) before now l.initial.core l.core l.initial.scan l.scan l.initial.rows.items l.rows.items;
      opened : IsOpenScan l.core l.scan;
      reads : OnlyReads before now;
      still : now.faults ≡ before.faults;
    }
