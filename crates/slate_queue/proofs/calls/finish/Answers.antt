use Rattle.std.proofs.Common.{Some, None, map, ap, refl, w64}
use Rattle.std.proofs.lemmas.Int.{to_z-of_z}
use Rattle.slate_types.specs.declared.config.IsolationLevel.TheVariants.{SerializableSnapshot}
use Rattle.slate_types.specs.declared.error.SlateDBError.TheVariants.{OutOfMemory, SequenceExhausted}
use Rattle.slate_store.specs.Reach.{reach_of}
use Rattle.slate_mem.specs.BatchModel.{holds_merge}
use Rattle.slate_db.specs.Meaning.{segments_by}
use Rattle.slate_queue.proofs.CallLaws.{committed_at, kept_before, not_exhausted, still_behind}
use Rattle.slate_queue.proofs.FinishCall.{finish_answered, finish_not_begun, finish_own, finish_some, finish_stopped_call, finish_uncommitted}
use Rattle.slate_queue.proofs.calls.finish.Goals as goal

pub returns-in-Err : goal.returns-in-Err
returns-in-Err g c =
    let policies = map (λ p. (goal.FilterPolicy-dyn g (p.vtable, p.value)).meaning p.value) c.args.laws.now.policies.items in
    let seg = segments_by g.X.PrefixExtractor.lengths c.args.laws.now.segments in
    let before = reach_of g.S.Store g.M.MergeOperator g.T.BlockTransformer c.args.env.now in
    record { called = finish_not_begun c.args.id c.args.lease c.args.now policies seg before c.args.core.now c.begin.new.core c.in-Err.error c.in-Err.ensures.same c.in-Err.ensures.cause; counts = refl }

pub returns-in-Err-finish_job : goal.returns-in-Err-finish_job
returns-in-Err-finish_job g c =
    let policies = map (λ p. (goal.FilterPolicy-dyn g (p.vtable, p.value)).meaning p.value) c.args.laws.now.policies.items in
    let seg = segments_by g.X.PrefixExtractor.lengths c.args.laws.now.segments in
    let before = reach_of g.S.Store g.M.MergeOperator g.T.BlockTransformer c.args.env.now in
    let middle = reach_of g.S.Store g.M.MergeOperator g.T.BlockTransformer c.finish_job.new.env in
    let h = c.in-Err-finish_job.ensures.attempt c.args.core.now c.in-Ok.ensures.within in
    record {
      called = finish_stopped_call c.args.id c.args.lease c.args.now policies seg before middle c.args.core.now c.finish_job.new.core c.rollback.new.core c.in-Ok.txn c.in-Err-finish_job.error c.ranges.id.fits c.finish_job.ensures.reads h
          (c.rollback.ensures.ended c.args.core.now SerializableSnapshot h.refused.steps h.refused.within);
      counts = c.in-Err-finish_job.ensures.counts;
    }

pub returns-in-Err-commit : goal.returns-in-Err-commit
returns-in-Err-commit g c =
    let policies = map (λ p. (goal.FilterPolicy-dyn g (p.vtable, p.value)).meaning p.value) c.args.laws.now.policies.items in
    let seg = segments_by g.X.PrefixExtractor.lengths c.args.laws.now.segments in
    let before = reach_of g.S.Store g.M.MergeOperator g.T.BlockTransformer c.args.env.now in
    let middle = reach_of g.S.Store g.M.MergeOperator g.T.BlockTransformer c.finish_job.new.env in
    let after = reach_of g.S.Store g.M.MergeOperator g.T.BlockTransformer c.commit.new.env in
    let h = c.in-Ok-finish_job.ensures.attempt c.args.core.now c.in-Ok.ensures.within in
    record {
      called = finish_uncommitted c.args.id c.args.lease c.args.now policies seg before middle after c.args.core.now c.finish_job.new.core c.commit.new.core c.in-Ok.txn tt c.in-Err-commit.error c.ranges.id.fits c.finish_job.ensures.reads c.commit.ensures.reads h
          (c.in-Err-commit.ensures.ended c.args.core.now SerializableSnapshot h.done.steps h.done.within)
          (c.in-Err-commit.ensures.cause c.args.core.now SerializableSnapshot h.done.steps h.done.within c.requires.plain (ap holds_merge (finish_own c.args.id c.args.lease h.done.steps h.done.is)));
      counts = still_behind (Some c.in-Err-commit.error) before middle after (ap (λ e. reach_of g.S.Store g.M.MergeOperator g.T.BlockTransformer e) (c.commit.ensures.still c.args.core.now SerializableSnapshot h.done.steps h.done.within (ap holds_merge (finish_own c.args.id c.args.lease h.done.steps h.done.is)))) c.in-Ok-finish_job.ensures.counts;
    }

pub returns-in-Ok-commit : goal.returns-in-Ok-commit
returns-in-Ok-commit g c =
    let policies = map (λ p. (goal.FilterPolicy-dyn g (p.vtable, p.value)).meaning p.value) c.args.laws.now.policies.items in
    let seg = segments_by g.X.PrefixExtractor.lengths c.args.laws.now.segments in
    let before = reach_of g.S.Store g.M.MergeOperator g.T.BlockTransformer c.args.env.now in
    let middle = reach_of g.S.Store g.M.MergeOperator g.T.BlockTransformer c.finish_job.new.env in
    let after = reach_of g.S.Store g.M.MergeOperator g.T.BlockTransformer c.commit.new.env in
    let h = c.in-Ok-finish_job.ensures.attempt c.args.core.now c.in-Ok.ensures.within in
    record {
      called = finish_answered c.args.id c.args.lease c.args.now policies seg before middle after c.args.core.now c.finish_job.new.core c.commit.new.core c.in-Ok.txn tt c.in-Ok-commit.field-0 c.ranges.id.fits c.finish_job.ensures.reads c.commit.ensures.reads h
          (committed_at c.args.core.now c.commit.new.core c.in-Ok.txn h.done.steps c.in-Ok-commit.field-0 _ c.args.now (to_z-of_z w64 c.args.now c.ranges.now) (c.in-Ok-commit.ensures.committed c.args.core.now SerializableSnapshot h.done.steps h.done.within))
          (λ e. not_exhausted c.in-Ok-commit.field-0 SequenceExhausted OutOfMemory (c.in-Ok-commit.ensures.exhausted c.args.core.now SerializableSnapshot h.done.steps h.done.within (finish_some c.args.id c.args.lease h.done.steps h.done.is) e))
          (kept_before before middle c.args.core.now c.commit.new.core c.finish_job.ensures.reads (c.commit.ensures.kept c.args.core.now SerializableSnapshot h.done.steps h.done.within))
          (c.commit.ensures.segmented c.args.core.now SerializableSnapshot h.done.steps h.done.within);
      counts = still_behind None before middle after (ap (λ e. reach_of g.S.Store g.M.MergeOperator g.T.BlockTransformer e) (c.commit.ensures.still c.args.core.now SerializableSnapshot h.done.steps h.done.within (ap holds_merge (finish_own c.args.id c.args.lease h.done.steps h.done.is)))) c.in-Ok-finish_job.ensures.counts;
    }
