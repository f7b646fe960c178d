use Rattle.std.proofs.Common.{[], ◌∷◌, ◌++◌, ◌∙◌, None, ap, of_z, refl, subst, sym, to_z, w64}
use Rattle.std.proofs.lemmas.Int.{to_z-of_z}
use Rattle.slate_types.specs.declared.error.SlateDBError.TheVariants.{OutOfMemory}
use Rattle.slate_types.specs.Outside.{unblamed}
use Rattle.slate_types.proofs.Reaching.{reads_then}
use Rattle.slate_store.specs.Reach.{reach_of}
use Rattle.slate_txn.specs.declared.event.TranscriptStep.TheVariants as steps
use Rattle.slate_db.specs.Opened.{HasTransaction}
use Rattle.slate_steps.specs.Reads.{unblamed_if}
use Rattle.slate_queue.specs.declared.claiming.Step.TheVariants as step
use Rattle.slate_queue.specs.Commits.{IsPassed}
use Rattle.slate_queue.specs.CallSteps.{nexts}
use Rattle.slate_queue.specs.Calls.{db_error}
use Rattle.slate_queue.proofs.WalkLaws.{all_more, passes_then, stays, stops_then, takes_then, too_many, walks_then}
use Rattle.slate_queue.proofs.WalkSteps.{goes_at, passed_at}
use Rattle.slate_queue.proofs.claiming.walk.Goals as goal

pub loop-init : goal.loop-init
loop-init g c =
    let before = reach_of g.S.Store g.M.MergeOperator g.T.BlockTransformer c.args.env.now in
    record { open_scan = c.requires.opened; open_there = c.requires.«open»; walk = ([], tt, stays before c.args.core.now c.args.scan.now); counts = refl }

pub walk_on-requires-clause-open : goal.walk_on-requires-clause-open
walk_on-requires-clause-open g c = subst (HasTransaction c.loop.core) (sym c.loop.invariant.walk.2.named.named) c.loop.invariant.open_there

pub walk_on-requires-clause-first : goal.walk_on-requires-clause-first
walk_on-requires-clause-first g c = c.loop.invariant.walk.2.named.number ∙ c.requires.first

pub loop-preserved : goal.loop-preserved
loop-preserved g c =
    let before = reach_of g.S.Store g.M.MergeOperator g.T.BlockTransformer c.args.env.now in
    let now = reach_of g.S.Store g.M.MergeOperator g.T.BlockTransformer c.loop.env in
    let after = reach_of g.S.Store g.M.MergeOperator g.T.BlockTransformer c.walk_on.new.env in
    let walk = c.loop.invariant.walk in
    let more = rw c.in-Ok-Passed.field-0-is at c.in-Ok-Passed.ensures.goes in
    record {
      open_scan = c.walk_on.ensures.opened;
      open_there = subst (HasTransaction c.walk_on.new.core) walk.2.named.named c.walk_on.ensures.«open»;
      walk = (
        walk.0 ++ (more.0 ∷ []),
        all_more (IsPassed (to_z w64 (of_z w64 c.args.now))) walk.0 more.0 walk.1 more.1,
        passes_then before now after c.args.core.now c.loop.core c.walk_on.new.core c.args.scan.now c.loop.scan c.walk_on.new.scan walk.0 more.0 walk.2 more.2,
      );
      counts = c.in-Ok-Passed.ensures.counts ∙ c.loop.invariant.counts;
    }

pub returns-in-Ok-Free : goal.returns-in-Ok-Free
returns-in-Ok-Free g c =
    let before = reach_of g.S.Store g.M.MergeOperator g.T.BlockTransformer c.args.env.now in
    let now = reach_of g.S.Store g.M.MergeOperator g.T.BlockTransformer c.loop.env in
    let after = reach_of g.S.Store g.M.MergeOperator g.T.BlockTransformer c.walk_on.new.env in
    let walk = c.loop.invariant.walk in
    let more = goes_at _ c.args.now now after c.loop.core c.walk_on.new.core c.loop.scan c.walk_on.new.scan (step.Free c.in-Ok-Free.found) (to_z-of_z w64 c.args.now c.ranges.now) (rw c.in-Ok-Free.field-0-is at c.in-Ok-Free.ensures.goes) in
    record {
      «open» = subst (HasTransaction c.walk_on.new.core) walk.2.named.named c.walk_on.ensures.«open»;
      to = (walk.0, passed_at _ c.args.now walk.0 (to_z-of_z w64 c.args.now c.ranges.now) walk.1, more.0, takes_then before now after c.args.core.now c.loop.core c.walk_on.new.core c.args.scan.now c.loop.scan c.walk_on.new.scan walk.0 c.in-Ok-Free.found.row walk.2 more.1);
      stops = tt;
      counts = c.in-Ok-Free.ensures.counts ∙ c.loop.invariant.counts;
      reads = reads_then before now after walk.2.reads c.walk_on.ensures.reads;
    }

pub returns-in-Ok-End : goal.returns-in-Ok-End
returns-in-Ok-End g c =
    let before = reach_of g.S.Store g.M.MergeOperator g.T.BlockTransformer c.args.env.now in
    let now = reach_of g.S.Store g.M.MergeOperator g.T.BlockTransformer c.loop.env in
    let after = reach_of g.S.Store g.M.MergeOperator g.T.BlockTransformer c.walk_on.new.env in
    let walk = c.loop.invariant.walk in
    let more = goes_at _ c.args.now now after c.loop.core c.walk_on.new.core c.loop.scan c.walk_on.new.scan step.End (to_z-of_z w64 c.args.now c.ranges.now) (rw c.in-Ok-End.field-0-is at c.in-Ok-End.ensures.goes) in
    record {
      «open» = subst (HasTransaction c.walk_on.new.core) walk.2.named.named c.walk_on.ensures.«open»;
      to = (walk.0, passed_at _ c.args.now walk.0 (to_z-of_z w64 c.args.now c.ranges.now) walk.1, walks_then before now after c.args.core.now c.loop.core c.walk_on.new.core c.args.scan.now c.loop.scan (nexts walk.0) (steps.Next 0 None ∷ []) walk.2 more.reads more.walks);
      stops = tt;
      counts = c.in-Ok-End.ensures.counts ∙ c.loop.invariant.counts;
      reads = reads_then before now after walk.2.reads c.walk_on.ensures.reads;
    }

pub returns-in-Err : goal.returns-in-Err
returns-in-Err g c =
    let before = reach_of g.S.Store g.M.MergeOperator g.T.BlockTransformer c.args.env.now in
    let now = reach_of g.S.Store g.M.MergeOperator g.T.BlockTransformer c.loop.env in
    let after = reach_of g.S.Store g.M.MergeOperator g.T.BlockTransformer c.walk_on.new.env in
    let walk = c.loop.invariant.walk in
    record {
      «open» = subst (HasTransaction c.walk_on.new.core) walk.2.named.named c.walk_on.ensures.«open»;
      to = tt;
      stops = stops_then c.args.now before now after c.args.core.now c.loop.core c.walk_on.new.core c.args.scan.now c.loop.scan c.walk_on.new.scan walk.0 c.in-Err.error (passed_at _ c.args.now walk.0 (to_z-of_z w64 c.args.now c.ranges.now) walk.1) walk.2 c.in-Err.ensures.stops;
      counts = c.in-Err.ensures.counts ∙ ap (unblamed_if (db_error c.in-Err.error)) c.loop.invariant.counts;
      reads = reads_then before now after walk.2.reads c.walk_on.ensures.reads;
    }

pub returns : goal.returns
returns g c =
    let before = reach_of g.S.Store g.M.MergeOperator g.T.BlockTransformer c.args.env.now in
    let now = reach_of g.S.Store g.M.MergeOperator g.T.BlockTransformer c.loop.env in
    let walk = c.loop.invariant.walk in
    record {
      «open» = c.loop.invariant.open_there;
      to = tt;
      stops = too_many c.args.now before now c.args.core.now c.loop.core c.args.scan.now c.loop.scan walk.0 walk.2;
      counts = ap (unblamed OutOfMemory) c.loop.invariant.counts;
      reads = walk.2.reads;
    }
