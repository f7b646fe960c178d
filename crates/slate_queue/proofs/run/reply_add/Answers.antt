use Rattle.std.proofs.Common.{ap, map}
use Rattle.slate_types.specs.Outside.{unblamed_by}
use Rattle.slate_store.specs.Reach.{reach_of}
use Rattle.slate_db.specs.Meaning.{segments_by}
use Rattle.slate_queue.specs.Jobs as model
use Rattle.slate_queue.specs.Jobs.{Call, queue_step}
use Rattle.slate_queue.specs.Script.{Reply, called}
use Rattle.slate_queue.proofs.LineLaws.{add_apart, added_at, refused_ends, refused_still, refused_text, said_text, text_ends}
use Rattle.slate_queue.proofs.RunLaws.{goes_one}
use Rattle.slate_queue.proofs.run.reply_add.Goals as goal

pub returns-in-Ok : goal.returns-in-Ok
returns-in-Ok g c =
    let policies = map (λ p. (goal.FilterPolicy-dyn g (p.vtable, p.value)).meaning p.value) c.args.laws.now.policies.items in
    let seg = segments_by g.X.PrefixExtractor.lengths c.args.laws.now.segments in
    let before = reach_of g.S.Store g.M.MergeOperator g.T.BlockTransformer c.args.env.now in
    let after = reach_of g.S.Store g.M.MergeOperator g.T.BlockTransformer c.add-added.new.env in
    let d = c.add-added.new.core in
    let done = c.in-Ok.ensures.called in
    record {
      said = λ r at. said_text policies seg after d (called r (queue_step r.queue (Call.Add c.args.payload))) (Reply.Answered (model.Answer.Added c.in-Ok.id)) c.written.result
          (added_at policies seg before after c.args.core.now d c.args.payload _ c.in-Ok.id r at done) (c.written.ensures.text _ c.added.ensures.text);
      goes = goes_one policies seg before after c.args.core.now d done.reads done.keeps;
      still = ap (unblamed_by c.written.result) c.in-Ok.ensures.counts;
      cause = text_ends policies seg before after c.args.core.now d c.written.result c.written.ensures.cause;
    }

pub returns-in-Err : goal.returns-in-Err
returns-in-Err g c =
    let policies = map (λ p. (goal.FilterPolicy-dyn g (p.vtable, p.value)).meaning p.value) c.args.laws.now.policies.items in
    let seg = segments_by g.X.PrefixExtractor.lengths c.args.laws.now.segments in
    let before = reach_of g.S.Store g.M.MergeOperator g.T.BlockTransformer c.args.env.now in
    let after = reach_of g.S.Store g.M.MergeOperator g.T.BlockTransformer c.add-added.new.env in
    let d = c.add-added.new.core in
    let done = c.in-Err.ensures.called in
    record {
      said = λ r at. refused_text _ _ _ _ policies seg before after c.args.core.now d r at c.in-Err.error c.refuse.result done c.refuse.ensures.text;
      goes = goes_one policies seg before after c.args.core.now d done.reads done.keeps;
      still = refused_still c.in-Err.error before.faults after.faults c.refuse.result c.in-Err.ensures.counts c.refuse.ensures.text c.refuse.ensures.cause;
      cause = refused_ends _ _ _ _ policies seg before after c.args.core.now d (add_apart c.args.payload policies before after c.args.core.now d) c.in-Err.error c.refuse.result done c.refuse.ensures.cause;
    }
