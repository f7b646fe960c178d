use Rattle.std.proofs.Common.{[], ◌∙◌, ap}
use Rattle.slate_types.specs.declared.config.IsolationLevel.TheVariants.{SerializableSnapshot}
use Rattle.slate_store.specs.Reach.{reach_of}
use Rattle.slate_steps.specs.Reads.{told_in, unblamed_if}
use Rattle.slate_queue.specs.CallSteps.{FinishStops, Finishes}
use Rattle.slate_queue.specs.Calls.{db_error}
use Rattle.slate_queue.proofs.PassSteps.{finish_deleted_on, finish_refused_on, refused_on}
use Rattle.slate_queue.proofs.PassTruths.{begun_vouched}
use Rattle.slate_queue.proofs.on_pass.finishing.finish_job.Goals as goal

pub returns-in-Err : goal.returns-in-Err
returns-in-Err g c =
    let before = reach_of g.S.Store g.M.MergeOperator g.T.BlockTransformer c.args.env.now in
    let after = reach_of g.S.Store g.M.MergeOperator g.T.BlockTransformer c.get.new.env in
    record {
      attempt = λ from h. refused_on g.P.Parts.options g.P.Parts.meaning g.P.Parts.policies from before after {T = Unit} (λ done. Finishes c.args.job c.args.lease) (FinishStops c.args.job c.args.lease) c.get.new.txn c.in-Err.error
          (c.in-Err.ensures.refused from SerializableSnapshot [] h) (λ s. c.in-Err.ensures.undamaged from SerializableSnapshot [] h s) (c.in-Err.ensures.cause from SerializableSnapshot [] h);
      table = c.get.ensures.more.0;
      counts = c.in-Err.ensures.counts;
      reads = c.get.ensures.reads;
    }

pub returns-in-Err-tested : goal.returns-in-Err-tested
returns-in-Err-tested g c =
    let before = reach_of g.S.Store g.M.MergeOperator g.T.BlockTransformer c.args.env.now in
    let after = reach_of g.S.Store g.M.MergeOperator g.T.BlockTransformer c.get.new.env in
    record {
      attempt = λ from h. finish_refused_on g.P.Parts.options g.P.Parts.meaning g.P.Parts.policies from before after c.args.job c.args.lease c.job_key-key.result c.get.new.txn c.in-Ok.answer c.in-Err-tested.error c.job_key-key.ensures
          (c.in-Ok.ensures.within from SerializableSnapshot [] h)
          (λ s. c.in-Ok.ensures.checked from SerializableSnapshot [] h s (begun_vouched g.P.Parts.options g.P.Parts.meaning from SerializableSnapshot c.args.txn.now h)) c.in-Err-tested.ensures.refused;
      table = c.get.ensures.more.0;
      counts = ap (unblamed_if (db_error c.in-Err-tested.error)) c.in-Ok.ensures.counts;
      reads = c.get.ensures.reads;
    }

pub returns-in-Ok-tested : goal.returns-in-Ok-tested
returns-in-Ok-tested g c =
    let before = reach_of g.S.Store g.M.MergeOperator g.T.BlockTransformer c.args.env.now in
    let after = reach_of g.S.Store g.M.MergeOperator g.T.BlockTransformer c.get.new.env in
    record {
      attempt = λ from h. finish_deleted_on g.P.Parts.options g.P.Parts.meaning g.P.Parts.policies from before after c.args.job c.args.lease c.job_key-key.result c.get.new.txn c.delete_job.new.txn c.in-Ok.answer c.delete_job.result c.job_key-key.ensures
          (c.in-Ok.ensures.within from SerializableSnapshot [] h)
          (λ s. c.in-Ok.ensures.checked from SerializableSnapshot [] h s (begun_vouched g.P.Parts.options g.P.Parts.meaning from SerializableSnapshot c.args.txn.now h)) c.in-Ok-tested.ensures.claimed
          (c.delete_job.ensures.taken from SerializableSnapshot _ (c.in-Ok.ensures.within from SerializableSnapshot [] h)) c.delete_job.ensures.sees c.delete_job.ensures.more.1 c.delete_job.ensures.same c.delete_job.ensures.cause;
      table = c.delete_job.ensures.more.0 ∙ c.get.ensures.more.0;
      counts = ap (unblamed_if (told_in db_error c.delete_job.result)) c.in-Ok.ensures.counts;
      reads = c.get.ensures.reads;
    }
