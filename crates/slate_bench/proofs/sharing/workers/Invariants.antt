use Rattle.std.proofs.Common.{◌≡◌, ◌+◌, ◌≤◌, length}
use Rattle.std.specs.List.{AllByRecursion}
use Rattle.std.specs.Prelude.{vec_capacity}
use Rattle.slate_bench.proofs.sharing.workers.Given as goal

abbrev pub invariant-loop-place : goal.invariant-loop-place
invariant-loop-place g l = record {
  table : l.pass.table ≡ l.initial.pass.table;
  parts : l.pass.parts + l.place ≡ l.initial.pass.parts;
  tables : AllByRecursion (λ w. w.pass.table ≡ l.db) l.workers.items;
  count : length l.workers.items ≡ l.place;
  room : 64 ≤ vec_capacity l.workers;
}
