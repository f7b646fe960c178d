use Rattle.std.proofs.Common.{[], ap}
use Rattle.slate_types.specs.declared.config.IsolationLevel.TheVariants.{SerializableSnapshot}
use Rattle.slate_store.specs.Reach.{reach_of}
use Rattle.slate_steps.specs.Reads.{told_in, unblamed_if}
use Rattle.slate_queue.specs.CallSteps.{AddStops, Counts}
use Rattle.slate_queue.specs.Calls.{db_error}
use Rattle.slate_queue.proofs.PassSteps.{counted_on, refused_on}
use Rattle.slate_queue.proofs.PassTruths.{begun_vouched}
use Rattle.slate_queue.proofs.on_pass.adding.next_id.Goals as goal

pub returns-in-Ok : goal.returns-in-Ok
returns-in-Ok g c =
    let before = reach_of g.S.Store g.M.MergeOperator g.T.BlockTransformer c.args.env.now in
    let after = reach_of g.S.Store g.M.MergeOperator g.T.BlockTransformer c.get.new.env in
    record {
      attempt = λ from h. counted_on g.P.Parts.options g.P.Parts.meaning g.P.Parts.policies from before after c.get.new.txn c.in-Ok.answer c.id_behind.result
          (c.in-Ok.ensures.within from SerializableSnapshot [] h)
          (λ s. c.in-Ok.ensures.checked from SerializableSnapshot [] h s (begun_vouched g.P.Parts.options g.P.Parts.meaning from SerializableSnapshot c.args.txn.now h))
          c.id_behind.ensures.id c.id_behind.ensures.refused;
      table = c.get.ensures.more.0;
      counts = ap (unblamed_if (told_in db_error c.id_behind.result)) c.in-Ok.ensures.counts;
      reads = c.get.ensures.reads;
    }

pub returns-in-Err : goal.returns-in-Err
returns-in-Err g c =
    let before = reach_of g.S.Store g.M.MergeOperator g.T.BlockTransformer c.args.env.now in
    let after = reach_of g.S.Store g.M.MergeOperator g.T.BlockTransformer c.get.new.env in
    record {
      attempt = λ from h. refused_on g.P.Parts.options g.P.Parts.meaning g.P.Parts.policies from before after Counts AddStops c.get.new.txn c.in-Err.error
          (c.in-Err.ensures.refused from SerializableSnapshot [] h) (λ s. c.in-Err.ensures.undamaged from SerializableSnapshot [] h s) (c.in-Err.ensures.cause from SerializableSnapshot [] h);
      table = c.get.ensures.more.0;
      counts = c.in-Err.ensures.counts;
      reads = c.get.ensures.reads;
    }
