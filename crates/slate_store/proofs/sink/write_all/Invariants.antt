use Rattle.std.proofs.Common.{◌≡◌, ◌≤◌, ◌++◌, ◌-◌, take, length, ℕ, List, Some}
use Rattle.slate_store.proofs.sink.write_all.Given as goal

abbrev pub invariant-loop-taken : goal.invariant-loop-taken
invariant-loop-taken g l = record {
  bound : l.taken ≤ length l.piece;
  content : (before : List ℕ) → g.W.Sink.content l.initial.sink ≡ Some before → g.W.Sink.content l.sink ≡ Some (before ++ take l.taken l.piece);
  still : g.W.Sink.faults l.sink ≡ g.W.Sink.faults l.initial.sink;
}

abbrev pub decreases-loop-taken : goal.decreases-loop-taken
decreases-loop-taken g l = length l.piece - l.taken
