use Rattle.std.proofs.Common.{Some, None, ap, map, refl, w64}
use Rattle.std.proofs.lemmas.Int.{to_z-of_z}
use Rattle.slate_types.specs.declared.config.IsolationLevel.TheVariants.{SerializableSnapshot}
use Rattle.slate_types.specs.declared.error.SlateDBError.TheVariants.{OutOfMemory, SequenceExhausted}
use Rattle.slate_store.specs.Reach.{reach_of}
use Rattle.slate_db.specs.Meaning.{segments_by}
use Rattle.slate_queue.proofs.CallLaws.{committed_at, kept_before, not_exhausted, still_behind}
use Rattle.slate_queue.proofs.ClaimCall.{claim_answered, claim_none, claim_not_begun, claim_plain, claim_some, claim_stopped_call, claim_uncommitted}
use Rattle.slate_queue.proofs.Finding.{claims_at}
use Rattle.slate_queue.proofs.calls.claim.Goals as goal

pub claim_job-requires-clause-within : goal.claim_job-requires-clause-within
claim_job-requires-clause-within g c κs lives = (c.args.core.now, c.in-Ok.ensures.within)

pub returns-in-Err : goal.returns-in-Err
returns-in-Err g c =
    let policies = map (λ p. (goal.FilterPolicy-dyn g (p.vtable, p.value)).meaning p.value) c.args.laws.now.policies.items in
    let seg = segments_by g.X.PrefixExtractor.lengths c.args.laws.now.segments in
    let before = reach_of g.S.Store g.M.MergeOperator g.T.BlockTransformer c.args.env.now in
    record { called = claim_not_begun c.args.now c.args.ms policies seg before c.args.core.now c.begin.new.core c.in-Err.error c.in-Err.ensures.same c.in-Err.ensures.cause; counts = refl }

pub returns-in-Err-claim_job : goal.returns-in-Err-claim_job
returns-in-Err-claim_job g c =
    let policies = map (λ p. (goal.FilterPolicy-dyn g (p.vtable, p.value)).meaning p.value) c.args.laws.now.policies.items in
    let seg = segments_by g.X.PrefixExtractor.lengths c.args.laws.now.segments in
    let before = reach_of g.S.Store g.M.MergeOperator g.T.BlockTransformer c.args.env.now in
    let middle = reach_of g.S.Store g.M.MergeOperator g.T.BlockTransformer c.claim_job.new.env in
    let h = claims_at policies before middle c.args.core.now c.claim_job.new.core c.in-Ok.id c.args.ms _ c.args.now _ (to_z-of_z w64 c.args.now c.ranges.now) (c.in-Err-claim_job.ensures.attempt c.args.core.now c.in-Ok.ensures.within) in
    record {
      called = claim_stopped_call c.args.now c.args.ms policies seg before middle c.args.core.now c.claim_job.new.core c.rollback-in-Err-claim_job.new.core c.in-Ok.id c.in-Err-claim_job.error c.claim_job.ensures.reads h
          (c.rollback-in-Err-claim_job.ensures.ended c.args.core.now SerializableSnapshot h.refused.steps h.refused.within);
      counts = c.in-Err-claim_job.ensures.counts;
    }

pub returns-in-Ok-None : goal.returns-in-Ok-None
returns-in-Ok-None g c =
    let policies = map (λ p. (goal.FilterPolicy-dyn g (p.vtable, p.value)).meaning p.value) c.args.laws.now.policies.items in
    let seg = segments_by g.X.PrefixExtractor.lengths c.args.laws.now.segments in
    let before = reach_of g.S.Store g.M.MergeOperator g.T.BlockTransformer c.args.env.now in
    let middle = reach_of g.S.Store g.M.MergeOperator g.T.BlockTransformer c.claim_job.new.env in
    let h = claims_at policies before middle c.args.core.now c.claim_job.new.core c.in-Ok.id c.args.ms _ c.args.now _ (to_z-of_z w64 c.args.now c.ranges.now) ((rw c.in-Ok-None.field-0-is at c.in-Ok-None.ensures.attempt) c.args.core.now c.in-Ok.ensures.within) in
    record {
      called = claim_none c.args.now c.args.ms policies seg before middle c.args.core.now c.claim_job.new.core c.rollback.new.core c.in-Ok.id c.claim_job.ensures.reads h
          (c.rollback.ensures.ended c.args.core.now SerializableSnapshot h.done.steps h.done.within);
      counts = c.in-Ok-None.ensures.counts;
    }

pub returns-in-Err-commit : goal.returns-in-Err-commit
returns-in-Err-commit g c =
    let policies = map (λ p. (goal.FilterPolicy-dyn g (p.vtable, p.value)).meaning p.value) c.args.laws.now.policies.items in
    let seg = segments_by g.X.PrefixExtractor.lengths c.args.laws.now.segments in
    let before = reach_of g.S.Store g.M.MergeOperator g.T.BlockTransformer c.args.env.now in
    let middle = reach_of g.S.Store g.M.MergeOperator g.T.BlockTransformer c.claim_job.new.env in
    let after = reach_of g.S.Store g.M.MergeOperator g.T.BlockTransformer c.commit.new.env in
    let h = claims_at policies before middle c.args.core.now c.claim_job.new.core c.in-Ok.id c.args.ms _ c.args.now _ (to_z-of_z w64 c.args.now c.ranges.now) ((rw c.in-Ok-Some.field-0-is at c.in-Ok-Some.ensures.attempt) c.args.core.now c.in-Ok.ensures.within) in
    record {
      called = claim_uncommitted c.args.now c.args.ms policies seg before middle after c.args.core.now c.claim_job.new.core c.commit.new.core c.in-Ok.id c.in-Ok-Some.claim c.in-Err-commit.error c.claim_job.ensures.reads c.commit.ensures.reads h
          (c.in-Err-commit.ensures.ended c.args.core.now SerializableSnapshot h.done.steps h.done.within)
          (c.in-Err-commit.ensures.cause c.args.core.now SerializableSnapshot h.done.steps h.done.within c.requires.plain (claim_plain c.args.now c.args.ms c.in-Ok-Some.claim h.done.steps h.done.is));
      counts = still_behind (Some c.in-Err-commit.error) before middle after (ap (λ e. reach_of g.S.Store g.M.MergeOperator g.T.BlockTransformer e) (c.commit.ensures.still c.args.core.now SerializableSnapshot h.done.steps h.done.within (claim_plain c.args.now c.args.ms c.in-Ok-Some.claim h.done.steps h.done.is))) c.in-Ok-Some.ensures.counts;
    }

pub returns-in-Ok-commit : goal.returns-in-Ok-commit
returns-in-Ok-commit g c =
    let policies = map (λ p. (goal.FilterPolicy-dyn g (p.vtable, p.value)).meaning p.value) c.args.laws.now.policies.items in
    let seg = segments_by g.X.PrefixExtractor.lengths c.args.laws.now.segments in
    let before = reach_of g.S.Store g.M.MergeOperator g.T.BlockTransformer c.args.env.now in
    let middle = reach_of g.S.Store g.M.MergeOperator g.T.BlockTransformer c.claim_job.new.env in
    let after = reach_of g.S.Store g.M.MergeOperator g.T.BlockTransformer c.commit.new.env in
    let h = claims_at policies before middle c.args.core.now c.claim_job.new.core c.in-Ok.id c.args.ms _ c.args.now _ (to_z-of_z w64 c.args.now c.ranges.now) ((rw c.in-Ok-Some.field-0-is at c.in-Ok-Some.ensures.attempt) c.args.core.now c.in-Ok.ensures.within) in
    record {
      called = claim_answered c.args.now c.args.ms policies seg before middle after c.args.core.now c.claim_job.new.core c.commit.new.core c.in-Ok.id c.in-Ok-Some.claim c.in-Ok-commit.field-0 c.ranges.now c.ranges.ms.fits c.claim_job.ensures.reads c.commit.ensures.reads h
          (committed_at c.args.core.now c.commit.new.core c.in-Ok.id h.done.steps c.in-Ok-commit.field-0 _ c.args.now (to_z-of_z w64 c.args.now c.ranges.now) (c.in-Ok-commit.ensures.committed c.args.core.now SerializableSnapshot h.done.steps h.done.within))
          (λ e. not_exhausted c.in-Ok-commit.field-0 SequenceExhausted OutOfMemory (c.in-Ok-commit.ensures.exhausted c.args.core.now SerializableSnapshot h.done.steps h.done.within (claim_some c.args.now c.args.ms c.in-Ok-Some.claim h.done.steps h.done.is) e))
          (kept_before before middle c.args.core.now c.commit.new.core c.claim_job.ensures.reads (c.commit.ensures.kept c.args.core.now SerializableSnapshot h.done.steps h.done.within))
          (c.commit.ensures.segmented c.args.core.now SerializableSnapshot h.done.steps h.done.within);
      counts = still_behind None before middle after (ap (λ e. reach_of g.S.Store g.M.MergeOperator g.T.BlockTransformer e) (c.commit.ensures.still c.args.core.now SerializableSnapshot h.done.steps h.done.within (claim_plain c.args.now c.args.ms c.in-Ok-Some.claim h.done.steps h.done.is))) c.in-Ok-Some.ensures.counts;
    }
