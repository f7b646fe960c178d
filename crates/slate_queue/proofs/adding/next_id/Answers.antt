use Rattle.std.proofs.Common.{[], ap, map}
use Rattle.slate_types.specs.declared.config.IsolationLevel.TheVariants.{SerializableSnapshot}
use Rattle.slate_store.specs.Reach.{reach_of}
use Rattle.slate_steps.specs.Reads.{told_in, unblamed_if}
use Rattle.slate_queue.specs.CallSteps.{AddStops, Counts}
use Rattle.slate_queue.specs.Calls.{db_error}
use Rattle.slate_queue.proofs.Attempting.{counted, read_refused}
use Rattle.slate_queue.proofs.adding.next_id.Goals as goal

pub returns-in-Ok : goal.returns-in-Ok
returns-in-Ok g c =
    let policies = map (λ p. (goal.FilterPolicy-dyn g (p.vtable, p.value)).meaning p.value) c.args.laws.now.policies.items in
    let before = reach_of g.S.Store g.M.MergeOperator g.T.BlockTransformer c.args.env.now in
    let after = reach_of g.S.Store g.M.MergeOperator g.T.BlockTransformer c.get.new.env in
    record {
      «open» = c.get.ensures.«open»;
      attempt = λ k within. counted policies before after k c.args.id.now c.get.new.core c.in-Ok.answer c.id_behind.result
          (c.in-Ok.ensures.within k SerializableSnapshot [] within) (λ s store. c.in-Ok.ensures.checked k SerializableSnapshot [] s within store tt) c.id_behind.ensures.id c.id_behind.ensures.refused;
      counts = ap (unblamed_if (told_in db_error c.id_behind.result)) c.in-Ok.ensures.counts;
      reads = c.get.ensures.reads;
    }

pub returns-in-Err : goal.returns-in-Err
returns-in-Err g c =
    let policies = map (λ p. (goal.FilterPolicy-dyn g (p.vtable, p.value)).meaning p.value) c.args.laws.now.policies.items in
    let before = reach_of g.S.Store g.M.MergeOperator g.T.BlockTransformer c.args.env.now in
    let after = reach_of g.S.Store g.M.MergeOperator g.T.BlockTransformer c.get.new.env in
    record {
      «open» = c.get.ensures.«open»;
      attempt = λ k within. read_refused policies before after k c.args.id.now Counts AddStops c.args.core.now c.get.new.core c.in-Err.error within c.in-Err.ensures.same
          (λ s settled. c.in-Err.ensures.undamaged k SerializableSnapshot [] s within settled) c.in-Err.ensures.cause;
      counts = c.in-Err.ensures.counts;
      reads = c.get.ensures.reads;
    }
