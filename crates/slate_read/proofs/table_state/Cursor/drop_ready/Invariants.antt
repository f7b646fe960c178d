use Rattle.std.proofs.Common.{◌≡◌, ◌≤◌, drop, length}
use Rattle.slate_read.proofs.table_state.Cursor.drop_ready.Given as goal

abbrev pub invariant-loop : goal.invariant-loop
invariant-loop l = record {
  ready : l.self.ready.items ≡ drop l.counter l.initial.self.ready.items;
  few : l.counter ≤ length l.initial.self.ready.items;
  first : l.self.first ≡ l.initial.self.first;
  stop : l.self.stop ≡ l.initial.self.stop;
  index : l.self.index ≡ l.initial.self.index;
  rows : l.self.rows ≡ l.initial.self.rows;
}
