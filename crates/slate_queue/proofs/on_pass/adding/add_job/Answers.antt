use Rattle.std.proofs.Common.{◌∙◌, ap}
use Rattle.slate_types.specs.declared.config.IsolationLevel.TheVariants.{SerializableSnapshot}
use Rattle.slate_store.specs.Reach.{reach_of}
use Rattle.slate_steps.specs.Reads.{unblamed_if}
use Rattle.slate_queue.specs.Calls.{db_error}
use Rattle.slate_queue.proofs.PassSteps.{add_part_on, add_refused_on, add_taken_on}
use Rattle.slate_queue.proofs.on_pass.adding.add_job.Goals as goal

pub returns-in-Ok-put_job : goal.returns-in-Ok-put_job
returns-in-Ok-put_job g c =
    let before = reach_of g.S.Store g.M.MergeOperator g.T.BlockTransformer c.args.env.now in
    let after = reach_of g.S.Store g.M.MergeOperator g.T.BlockTransformer c.next_id.new.env in
    record {
      attempt = λ from h. add_taken_on g.P.Parts.options g.P.Parts.meaning g.P.Parts.policies from before after c.args.payload.now c.next_id.new.txn c.put_job.new.txn c.in-Ok.new (c.in-Ok.ensures.attempt from h)
          (λ ts w. c.in-Ok-put_job.ensures.taken from SerializableSnapshot ts w) c.put_job.ensures.sees c.put_job.ensures.more.1;
      table = c.put_job.ensures.more.0 ∙ c.next_id.ensures.table;
      counts = c.in-Ok.ensures.counts;
      reads = c.next_id.ensures.reads;
    }

pub returns-in-Err-put_job : goal.returns-in-Err-put_job
returns-in-Err-put_job g c =
    let before = reach_of g.S.Store g.M.MergeOperator g.T.BlockTransformer c.args.env.now in
    let after = reach_of g.S.Store g.M.MergeOperator g.T.BlockTransformer c.next_id.new.env in
    record {
      attempt = λ from h. add_part_on g.P.Parts.options g.P.Parts.meaning g.P.Parts.policies from before after c.args.payload.now c.next_id.new.txn c.put_job.new.txn c.in-Ok.new c.in-Err-put_job.error (c.in-Ok.ensures.attempt from h)
          c.in-Err-put_job.ensures.cause (λ ts w. c.in-Err-put_job.ensures.part from SerializableSnapshot ts w) c.put_job.ensures.sees c.put_job.ensures.more.1;
      table = c.put_job.ensures.more.0 ∙ c.next_id.ensures.table;
      counts = ap (unblamed_if (db_error c.in-Err-put_job.error)) c.in-Ok.ensures.counts;
      reads = c.next_id.ensures.reads;
    }

pub returns-in-Err : goal.returns-in-Err
returns-in-Err g c =
    let before = reach_of g.S.Store g.M.MergeOperator g.T.BlockTransformer c.args.env.now in
    let after = reach_of g.S.Store g.M.MergeOperator g.T.BlockTransformer c.next_id.new.env in
    record {
      attempt = λ from h. add_refused_on g.P.Parts.options g.P.Parts.meaning g.P.Parts.policies from before after c.args.payload.now c.next_id.new.txn c.in-Err.error (c.in-Err.ensures.attempt from h);
      table = c.next_id.ensures.table;
      counts = c.in-Err.ensures.counts;
      reads = c.next_id.ensures.reads;
    }
