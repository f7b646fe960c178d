use Rattle.std.proofs.Common.{map, ◌≡◌}
use Rattle.std.specs.Prelude.{Contains}
use Rattle.slate_types.specs.Outside.{OnlyReads}
use Rattle.slate_store.specs.Reach.{reach_of}
use Rattle.slate_table.specs.declared.info.SsTableHandle.{SsTableHandle}
use Rattle.slate_db.specs.ScanFilters.{AreLetIn, AsksOf}
use Rattle.slate_db.proofs.ScanFilters.{SoFar, TablesChecked}
use Rattle.slate_db.proofs.scan_filters.tables_left.Given as goal

abbrev pub invariant-loop-table : goal.invariant-loop-table
invariant-loop-table g l =
    let before = reach_of g.S.Store g.M.MergeOperator g.T.BlockTransformer l.initial.env in
    let now = reach_of g.S.Store g.M.MergeOperator g.T.BlockTransformer l.env in
    record {
      let_in : AsksOf l.tables before now (λ reads. AreLetIn before.meaning.decode (map (λ p. (goal.FilterPolicy-dyn g (p.vtable, p.value)).meaning p.value) l.policies) l.query l.left.items reads);
      reads : OnlyReads before now;
      still : now.faults ≡ before.faults;
      among : (h : SsTableHandle) → Contains l.left.items h → Contains l.tables h;
      so_far : SoFar (map (λ p. (goal.FilterPolicy-dyn g (p.vtable, p.value)).meaning p.value) l.policies) before now l.range l.tables l.table-index l.left.items;
      checked : TablesChecked before now l.tables;
    }
