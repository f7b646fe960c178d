use Rattle.std.proofs.Common.{map, ◌≡◌}
use Rattle.std.specs.Prelude.{Contains}
use Rattle.slate_types.specs.Outside.{OnlyReads}
use Rattle.slate_store.specs.Reach.{reach_of}
use Rattle.slate_table.specs.declared.info.SsTableHandle.{SsTableHandle}
use Rattle.slate_db.specs.Installs.{handles_of}
use Rattle.slate_db.specs.ScanFilters.{AreLetIn, AsksOf}
use Rattle.slate_db.proofs.ScanFilters.{RunsChecked, RunsSoFar}
use Rattle.slate_db.proofs.scan_filters.runs_left.Given as goal

abbrev pub invariant-loop-run : goal.invariant-loop-run
invariant-loop-run g l =
    let before = reach_of g.S.Store g.M.MergeOperator g.T.BlockTransformer l.initial.env in
    let now = reach_of g.S.Store g.M.MergeOperator g.T.BlockTransformer l.env in
    record {
      let_in : AsksOf (handles_of l.runs) before now (λ reads. AreLetIn before.meaning.decode (map (λ p. (goal.FilterPolicy-dyn g (p.vtable, p.value)).meaning p.value) l.policies) l.query (handles_of l.left.items) reads);
      reads : OnlyReads before now;
      still : now.faults ≡ before.faults;
      among : (h : SsTableHandle) → Contains (handles_of l.left.items) h → Contains (handles_of l.runs) h;
      so_far : RunsSoFar (map (λ p. (goal.FilterPolicy-dyn g (p.vtable, p.value)).meaning p.value) l.policies) before now l.range l.runs l.run-index l.left.items;
      checked : RunsChecked before now l.runs;
    }
