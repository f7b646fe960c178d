use Rattle.std.proofs.Common.{◌≤◌, ◌-◌, ◌≡◌, ℕ, List}
use Rattle.std.specs.Prelude.{Contains}
use Rattle.slate_types.specs.Outside.{OnlyReads}
use Rattle.slate_types.specs.World.{ReadsAt}
use Rattle.slate_store.specs.Reach.{reach_of}
use Rattle.slate_read.specs.TableWalk.{IsSoundCursor, bound_behind, path_in, refuses_behind, rest_after}
use Rattle.slate_types.proofs.Moves.{Moves}
use Rattle.slate_read.proofs.Bringings.{Adds}
use Rattle.slate_read.proofs.table_state.Cursor.advance.Given as goal

abbrev pub invariant-loop-row : goal.invariant-loop-row
invariant-loop-row g l = record {
  moves : Moves (rest_after l.table l.order) (IsSoundCursor l.table l.order) (refuses_behind l.table l.order)
      (reach_of g.S.Store g.M.MergeOperator g.T.BlockTransformer l.initial.env)
      (reach_of g.S.Store g.M.MergeOperator g.T.BlockTransformer l.env) l.initial.self l.self;
  adds : Adds l.table l.order
      (reach_of g.S.Store g.M.MergeOperator g.T.BlockTransformer l.initial.env)
      (reach_of g.S.Store g.M.MergeOperator g.T.BlockTransformer l.env) l.initial.self l.self;
  bound : bound_behind l.self ≤ bound_behind l.initial.self;
  within : (paths : List (List ℕ)) → Contains paths (path_in l.table) → ReadsAt paths (reach_of g.S.Store g.M.MergeOperator g.T.BlockTransformer l.initial.env) (reach_of g.S.Store g.M.MergeOperator g.T.BlockTransformer l.env);
  reads : OnlyReads (reach_of g.S.Store g.M.MergeOperator g.T.BlockTransformer l.initial.env) (reach_of g.S.Store g.M.MergeOperator g.T.BlockTransformer l.env);
  counts : (reach_of g.S.Store g.M.MergeOperator g.T.BlockTransformer l.env).faults ≡ (reach_of g.S.Store g.M.MergeOperator g.T.BlockTransformer l.initial.env).faults;
}

abbrev pub decreases-loop-row : goal.decreases-loop-row
decreases-loop-row g l = l.self.stop - l.self.first
