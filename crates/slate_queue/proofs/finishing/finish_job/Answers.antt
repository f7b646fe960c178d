use Rattle.std.proofs.Common.{[], ap, map}
use Rattle.slate_types.specs.declared.config.IsolationLevel.TheVariants.{SerializableSnapshot}
use Rattle.slate_store.specs.Reach.{reach_of}
use Rattle.slate_steps.specs.Reads.{told_in, unblamed_if}
use Rattle.slate_queue.specs.CallSteps.{FinishStops, Finishes}
use Rattle.slate_queue.specs.Calls.{db_error}
use Rattle.slate_queue.proofs.Attempting.{finish_deleted, finish_refused, read_refused}
use Rattle.slate_queue.proofs.finishing.finish_job.Goals as goal

pub returns-in-Err : goal.returns-in-Err
returns-in-Err g c =
    let policies = map (λ p. (goal.FilterPolicy-dyn g (p.vtable, p.value)).meaning p.value) c.args.laws.now.policies.items in
    let before = reach_of g.S.Store g.M.MergeOperator g.T.BlockTransformer c.args.env.now in
    let after = reach_of g.S.Store g.M.MergeOperator g.T.BlockTransformer c.get.new.env in
    record {
      «open» = c.get.ensures.«open»;
      attempt = λ k within. read_refused policies before after k c.args.id.now {T = Unit} (λ done. Finishes c.args.job c.args.lease) (FinishStops c.args.job c.args.lease) c.args.core.now c.get.new.core c.in-Err.error within c.in-Err.ensures.same
          (λ s settled. c.in-Err.ensures.undamaged k SerializableSnapshot [] s within settled) c.in-Err.ensures.cause;
      counts = c.in-Err.ensures.counts;
      reads = c.get.ensures.reads;
    }

pub returns-in-Err-tested : goal.returns-in-Err-tested
returns-in-Err-tested g c =
    let policies = map (λ p. (goal.FilterPolicy-dyn g (p.vtable, p.value)).meaning p.value) c.args.laws.now.policies.items in
    let before = reach_of g.S.Store g.M.MergeOperator g.T.BlockTransformer c.args.env.now in
    let after = reach_of g.S.Store g.M.MergeOperator g.T.BlockTransformer c.get.new.env in
    record {
      «open» = c.get.ensures.«open»;
      attempt = λ k within. finish_refused policies before after k c.args.id.now c.args.job c.args.lease c.job_key-key.result c.get.new.core c.in-Ok.answer c.in-Err-tested.error c.job_key-key.ensures
          (c.in-Ok.ensures.within k SerializableSnapshot [] within) (λ s store. c.in-Ok.ensures.checked k SerializableSnapshot [] s within store tt) c.in-Err-tested.ensures.refused;
      counts = ap (unblamed_if (db_error c.in-Err-tested.error)) c.in-Ok.ensures.counts;
      reads = c.get.ensures.reads;
    }

pub returns-in-Ok-tested : goal.returns-in-Ok-tested
returns-in-Ok-tested g c =
    let policies = map (λ p. (goal.FilterPolicy-dyn g (p.vtable, p.value)).meaning p.value) c.args.laws.now.policies.items in
    let before = reach_of g.S.Store g.M.MergeOperator g.T.BlockTransformer c.args.env.now in
    let after = reach_of g.S.Store g.M.MergeOperator g.T.BlockTransformer c.get.new.env in
    record {
      «open» = c.delete_job.ensures.«open»;
      attempt = λ k within. finish_deleted policies before after k c.args.id.now c.args.job c.args.lease c.job_key-key.result c.get.new.core c.delete_job.new.core c.in-Ok.answer c.delete_job.result c.job_key-key.ensures
          (c.in-Ok.ensures.within k SerializableSnapshot [] within) (λ s store. c.in-Ok.ensures.checked k SerializableSnapshot [] s within store tt) c.in-Ok-tested.ensures.claimed
          (c.delete_job.ensures.taken k SerializableSnapshot _ (c.in-Ok.ensures.within k SerializableSnapshot [] within)) c.delete_job.ensures.same c.delete_job.ensures.cause;
      counts = ap (unblamed_if (told_in db_error c.delete_job.result)) c.in-Ok.ensures.counts;
      reads = c.get.ensures.reads;
    }
