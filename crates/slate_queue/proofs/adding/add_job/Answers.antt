use Rattle.std.proofs.Common.{ap, map}
use Rattle.slate_types.specs.declared.config.IsolationLevel.TheVariants.{SerializableSnapshot}
use Rattle.slate_store.specs.Reach.{reach_of}
use Rattle.slate_steps.specs.Reads.{unblamed_if}
use Rattle.slate_queue.specs.Calls.{db_error}
use Rattle.slate_queue.proofs.Attempting.{add_part, add_refused, add_taken}
use Rattle.slate_queue.proofs.adding.add_job.Goals as goal

pub returns-in-Ok-put_job : goal.returns-in-Ok-put_job
returns-in-Ok-put_job g c =
    let policies = map (λ p. (goal.FilterPolicy-dyn g (p.vtable, p.value)).meaning p.value) c.args.laws.now.policies.items in
    let before = reach_of g.S.Store g.M.MergeOperator g.T.BlockTransformer c.args.env.now in
    let after = reach_of g.S.Store g.M.MergeOperator g.T.BlockTransformer c.next_id.new.env in
    record {
      «open» = c.put_job.ensures.«open»;
      attempt = λ k within. add_taken policies before after k c.args.id.now c.args.payload.now c.next_id.new.core c.put_job.new.core c.in-Ok.new (c.in-Ok.ensures.attempt k within)
          (λ ts w. c.in-Ok-put_job.ensures.taken k SerializableSnapshot ts w);
      counts = c.in-Ok.ensures.counts;
      reads = c.next_id.ensures.reads;
    }

pub returns-in-Err-put_job : goal.returns-in-Err-put_job
returns-in-Err-put_job g c =
    let policies = map (λ p. (goal.FilterPolicy-dyn g (p.vtable, p.value)).meaning p.value) c.args.laws.now.policies.items in
    let before = reach_of g.S.Store g.M.MergeOperator g.T.BlockTransformer c.args.env.now in
    let after = reach_of g.S.Store g.M.MergeOperator g.T.BlockTransformer c.next_id.new.env in
    record {
      «open» = c.put_job.ensures.«open»;
      attempt = λ k within. add_part policies before after k c.args.id.now c.args.payload.now c.next_id.new.core c.put_job.new.core c.in-Ok.new c.in-Err-put_job.error (c.in-Ok.ensures.attempt k within)
          c.in-Err-put_job.ensures.cause (λ ts w. c.in-Err-put_job.ensures.part k SerializableSnapshot ts w);
      counts = ap (unblamed_if (db_error c.in-Err-put_job.error)) c.in-Ok.ensures.counts;
      reads = c.next_id.ensures.reads;
    }

pub returns-in-Err : goal.returns-in-Err
returns-in-Err g c =
    let policies = map (λ p. (goal.FilterPolicy-dyn g (p.vtable, p.value)).meaning p.value) c.args.laws.now.policies.items in
    let before = reach_of g.S.Store g.M.MergeOperator g.T.BlockTransformer c.args.env.now in
    let after = reach_of g.S.Store g.M.MergeOperator g.T.BlockTransformer c.next_id.new.env in
    record {
      «open» = c.next_id.ensures.«open»;
      attempt = λ k within. add_refused policies before after k c.args.id.now c.args.payload.now c.next_id.new.core c.in-Err.error (c.in-Err.ensures.attempt k within);
      counts = c.in-Err.ensures.counts;
      reads = c.next_id.ensures.reads;
    }
