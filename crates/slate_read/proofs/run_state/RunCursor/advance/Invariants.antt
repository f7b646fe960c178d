use Rattle.std.proofs.Common.{◌≡◌, ◌≤◌, length, None}
use Rattle.slate_types.specs.Outside.{OnlyReads}
use Rattle.slate_types.proofs.Moves.{Moves}
use Rattle.slate_store.specs.Reach.{reach_of}
use Rattle.slate_merge.proofs.NoMoreRows.{AddsBy}
use Rattle.slate_read.specs.RunWalk.{IsCursorWithin, IsSoundRun, bound_run, refuses_run, rest_run}
use Rattle.slate_read.specs.RunBringing.{brings_run}
use Rattle.slate_read.proofs.Withins.{StaysWithin}
use Rattle.slate_read.proofs.run_state.RunCursor.advance.Given as goal

abbrev pub invariant-loop-row : goal.invariant-loop-row
invariant-loop-row g l = record {
  moves : Moves (rest_run l.range l.order) (IsSoundRun l.range l.order) (refuses_run l.order)
      (reach_of g.S.Store g.M.MergeOperator g.T.BlockTransformer l.initial.env)
      (reach_of g.S.Store g.M.MergeOperator g.T.BlockTransformer l.env) l.initial.self l.self;
  adds : AddsBy (brings_run l.order) (refuses_run l.order)
      (reach_of g.S.Store g.M.MergeOperator g.T.BlockTransformer l.initial.env)
      (reach_of g.S.Store g.M.MergeOperator g.T.BlockTransformer l.env) l.initial.self l.self;
  none : l.self.ahead ≡ None;
  bound : bound_run l.self ≤ bound_run l.initial.self;
  within : StaysWithin IsCursorWithin
      (reach_of g.S.Store g.M.MergeOperator g.T.BlockTransformer l.initial.env)
      (reach_of g.S.Store g.M.MergeOperator g.T.BlockTransformer l.env) l.initial.self l.self;
  reads : OnlyReads (reach_of g.S.Store g.M.MergeOperator g.T.BlockTransformer l.initial.env) (reach_of g.S.Store g.M.MergeOperator g.T.BlockTransformer l.env);
  counts : (reach_of g.S.Store g.M.MergeOperator g.T.BlockTransformer l.env).faults ≡ (reach_of g.S.Store g.M.MergeOperator g.T.BlockTransformer l.initial.env).faults;
}

abbrev pub decreases-loop-row : goal.decreases-loop-row
decreases-loop-row g l = length l.self.tables.items
