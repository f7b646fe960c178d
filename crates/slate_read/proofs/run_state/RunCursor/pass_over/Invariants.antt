use Rattle.std.proofs.Common.{◌≡◌, List, ◌++◌, true, length}
use Rattle.std.specs.List.{AllByRecursion}
use Rattle.slate_table.specs.declared.info.SsTableHandle.{SsTableHandle}
use Rattle.slate_read.specs.RunWalk.{is_passed}
use Rattle.slate_read.proofs.run_state.RunCursor.pass_over.Given as goal

abbrev pub invariant-loop-order : goal.invariant-loop-order
invariant-loop-order l = record {
  passed : (front : List SsTableHandle) × (l.initial.self.tables.items ≡ front ++ l.self.tables.items) × AllByRecursion (λ h. is_passed l.order l.key h.info ≡ true) front;
  open_table : l.self.current ≡ l.initial.self.current;
  ahead : l.self.ahead ≡ l.initial.self.ahead;
}

abbrev pub decreases-loop-order : goal.decreases-loop-order
decreases-loop-order l = length l.self.tables.items
