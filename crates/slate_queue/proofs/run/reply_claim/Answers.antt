use Rattle.std.proofs.Common.{◌≡◌, ℕ, List, ap, map, subst, w64}
use Rattle.std.specs.Prelude.{IfOk}
use Rattle.std.proofs.lemmas.Int.{to_z-of_z}
use Rattle.slate_types.specs.Outside.{unblamed_by}
use Rattle.slate_store.specs.Reach.{reach_of}
use Rattle.slate_db.specs.Meaning.{segments_by}
use Rattle.slate_queue.specs.Jobs as model
use Rattle.slate_queue.specs.Jobs.{Call, queue_step}
use Rattle.slate_queue.specs.Script.{Reply, called, reply_line}
use Rattle.slate_queue.proofs.LineLaws.{call_at, claim_apart, claimed_at, none_claimed_at, refused_ends, refused_still, refused_text, said_text, text_ends}
use Rattle.slate_queue.proofs.RunLaws.{goes_one}
use Rattle.slate_queue.proofs.run.reply_claim.Goals as goal

pub returns-in-Ok-Some : goal.returns-in-Ok-Some
returns-in-Ok-Some g c =
    let policies = map (λ p. (goal.FilterPolicy-dyn g (p.vtable, p.value)).meaning p.value) c.args.laws.now.policies.items in
    let seg = segments_by g.X.PrefixExtractor.lengths c.args.laws.now.segments in
    let before = reach_of g.S.Store g.M.MergeOperator g.T.BlockTransformer c.args.env.now in
    let after = reach_of g.S.Store g.M.MergeOperator g.T.BlockTransformer c.claim.new.env in
    let d = c.claim.new.core in
    let done = call_at policies seg before after c.args.core.now d _ c.args.now c.args.ms _ (to_z-of_z w64 c.args.now c.ranges.now) (rw c.in-Ok-Some.field-0-is at c.in-Ok-Some.ensures.called) in
    record {
      said = λ r at. said_text policies seg after d (called r (queue_step r.queue (Call.Claim c.args.now c.args.ms))) (Reply.Answered (model.Answer.Claimed c.in-Ok-Some.claim.id c.in-Ok-Some.claim.lease c.in-Ok-Some.claim.payload)) c.written.result
          (claimed_at policies seg before after c.args.core.now d c.args.now c.args.ms c.in-Ok-Some.claim r at done) (c.written.ensures.text _ (subst (λ (p : List ℕ). IfOk c.claimed-text.result (λ v. v.items ≡ reply_line (Reply.Answered (model.Answer.Claimed c.in-Ok-Some.claim.id c.in-Ok-Some.claim.lease p)))) c.as_slice.ensures c.claimed-text.ensures.text));
      goes = goes_one policies seg before after c.args.core.now d done.reads done.keeps;
      still = ap (unblamed_by c.written.result) c.in-Ok-Some.ensures.counts;
      cause = text_ends policies seg before after c.args.core.now d c.written.result c.written.ensures.cause;
    }

pub returns-in-Ok-None : goal.returns-in-Ok-None
returns-in-Ok-None g c =
    let policies = map (λ p. (goal.FilterPolicy-dyn g (p.vtable, p.value)).meaning p.value) c.args.laws.now.policies.items in
    let seg = segments_by g.X.PrefixExtractor.lengths c.args.laws.now.segments in
    let before = reach_of g.S.Store g.M.MergeOperator g.T.BlockTransformer c.args.env.now in
    let after = reach_of g.S.Store g.M.MergeOperator g.T.BlockTransformer c.claim.new.env in
    let d = c.claim.new.core in
    let done = call_at policies seg before after c.args.core.now d _ c.args.now c.args.ms _ (to_z-of_z w64 c.args.now c.ranges.now) (rw c.in-Ok-None.field-0-is at c.in-Ok-None.ensures.called) in
    record {
      said = λ r at. said_text policies seg after d (called r (queue_step r.queue (Call.Claim c.args.now c.args.ms))) (Reply.Answered model.Answer.NoneFree) c.written-in-Ok-None.result
          (none_claimed_at policies seg before after c.args.core.now d c.args.now c.args.ms r at done) (c.written-in-Ok-None.ensures.text _ c.none_free.ensures.text);
      goes = goes_one policies seg before after c.args.core.now d done.reads done.keeps;
      still = ap (unblamed_by c.written-in-Ok-None.result) c.in-Ok-None.ensures.counts;
      cause = text_ends policies seg before after c.args.core.now d c.written-in-Ok-None.result c.written-in-Ok-None.ensures.cause;
    }

pub returns-in-Err : goal.returns-in-Err
returns-in-Err g c =
    let policies = map (λ p. (goal.FilterPolicy-dyn g (p.vtable, p.value)).meaning p.value) c.args.laws.now.policies.items in
    let seg = segments_by g.X.PrefixExtractor.lengths c.args.laws.now.segments in
    let before = reach_of g.S.Store g.M.MergeOperator g.T.BlockTransformer c.args.env.now in
    let after = reach_of g.S.Store g.M.MergeOperator g.T.BlockTransformer c.claim.new.env in
    let d = c.claim.new.core in
    let done = call_at policies seg before after c.args.core.now d _ c.args.now c.args.ms _ (to_z-of_z w64 c.args.now c.ranges.now) c.in-Err.ensures.called in
    record {
      said = λ r at. refused_text _ _ _ _ policies seg before after c.args.core.now d r at c.in-Err.error c.refuse.result done c.refuse.ensures.text;
      goes = goes_one policies seg before after c.args.core.now d done.reads done.keeps;
      still = refused_still c.in-Err.error before.faults after.faults c.refuse.result c.in-Err.ensures.counts c.refuse.ensures.text c.refuse.ensures.cause;
      cause = refused_ends _ _ _ _ policies seg before after c.args.core.now d (claim_apart c.args.now policies before after c.args.core.now d) c.in-Err.error c.refuse.result done c.refuse.ensures.cause;
    }
