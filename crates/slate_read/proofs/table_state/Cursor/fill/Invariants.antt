use Rattle.std.proofs.Common.{◌≡◌, ◌<◌, ℕ, List, length}
use Rattle.std.specs.Prelude.{Contains}
use Rattle.slate_types.specs.Outside.{OnlyReads}
use Rattle.slate_types.specs.World.{ReadsAt}
use Rattle.slate_store.specs.Reach.{reach_of}
use Rattle.slate_types.proofs.Moves.{Moves}
use Rattle.slate_read.specs.TableWalk.{IsSoundCursor, path_in, refuses_behind, rest_after}
use Rattle.slate_read.proofs.Bringings.{Adds}
use Rattle.slate_read.proofs.table_state.Cursor.fill.Given as goal

abbrev pub invariant-loop : goal.invariant-loop
invariant-loop g l = record {
  moves : Moves (rest_after l.table l.order) (IsSoundCursor l.table l.order) (refuses_behind l.table l.order)
      (reach_of g.S.Store g.M.MergeOperator g.T.BlockTransformer l.fn.env)
      (reach_of g.S.Store g.M.MergeOperator g.T.BlockTransformer l.env) l.fn.self l.self;
  adds : Adds l.table l.order
      (reach_of g.S.Store g.M.MergeOperator g.T.BlockTransformer l.fn.env)
      (reach_of g.S.Store g.M.MergeOperator g.T.BlockTransformer l.env) l.fn.self l.self;
  first : l.self.first ≡ l.fn.self.first;
  stop : l.self.stop ≡ l.fn.self.stop;
  rows : l.self.rows ≡ l.fn.self.rows;
  some : 0 < length l.self.ready.items;
  within : (paths : List (List ℕ)) → Contains paths (path_in l.table) → ReadsAt paths (reach_of g.S.Store g.M.MergeOperator g.T.BlockTransformer l.fn.env) (reach_of g.S.Store g.M.MergeOperator g.T.BlockTransformer l.env);
  reads : OnlyReads (reach_of g.S.Store g.M.MergeOperator g.T.BlockTransformer l.fn.env) (reach_of g.S.Store g.M.MergeOperator g.T.BlockTransformer l.env);
  counts : (reach_of g.S.Store g.M.MergeOperator g.T.BlockTransformer l.env).faults ≡ (reach_of g.S.Store g.M.MergeOperator g.T.BlockTransformer l.fn.env).faults;
}
