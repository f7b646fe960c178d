use Rattle.std.proofs.Common.{◌≤◌, ◌-◌, ◌≡◌, ℕ, List}
use Rattle.std.specs.Prelude.{Contains}
use Rattle.slate_types.specs.Outside.{OnlyReads}
use Rattle.slate_types.specs.World.{ReadsAt}
use Rattle.slate_store.specs.Reach.{reach_of}
use Rattle.slate_read.specs.TableWalk.{IsSoundRising, bound_behind, path_in, refuses_behind}
use Rattle.slate_types.proofs.Moves.{Moves}
use Rattle.slate_read.proofs.Bringings.{Adds}
use Rattle.slate_read.proofs.Seeks.{rest_sought}
use Rattle.slate_read.proofs.table_state.Cursor.walk_to.Given as goal

abbrev pub invariant-loop-self : goal.invariant-loop-self
invariant-loop-self g l = record {
  moves : Moves (rest_sought l.table l.order l.key) (IsSoundRising l.table l.order) (refuses_behind l.table l.order)
      (reach_of g.S.Store g.M.MergeOperator g.T.BlockTransformer l.initial.env)
      (reach_of g.S.Store g.M.MergeOperator g.T.BlockTransformer l.env) l.initial.self l.self;
  adds : Adds l.table l.order
      (reach_of g.S.Store g.M.MergeOperator g.T.BlockTransformer l.initial.env)
      (reach_of g.S.Store g.M.MergeOperator g.T.BlockTransformer l.env) l.initial.self l.self;
  bound : bound_behind l.self ≤ bound_behind l.initial.self;
  within : (paths : List (List ℕ)) → Contains paths (path_in l.table) → ReadsAt paths (reach_of g.S.Store g.M.MergeOperator g.T.BlockTransformer l.initial.env) (reach_of g.S.Store g.M.MergeOperator g.T.BlockTransformer l.env);
  reads : OnlyReads (reach_of g.S.Store g.M.MergeOperator g.T.BlockTransformer l.initial.env) (reach_of g.S.Store g.M.MergeOperator g.T.BlockTransformer l.env);
  counts : (reach_of g.S.Store g.M.MergeOperator g.T.BlockTransformer l.env).faults ≡ (reach_of g.S.Store g.M.MergeOperator g.T.BlockTransformer l.initial.env).faults;
}

abbrev pub decreases-loop-self : goal.decreases-loop-self
decreases-loop-self g l = l.self.stop - l.self.first
