use Rattle.std.proofs.Common.{ℤ, ap, map, refl, rules, sym, ◌∙◌, w64}
use Rattle.std.proofs.lemmas.Int.{to_z-of_z}
use Rattle.slate_store.specs.Reach.{reach_of}
use Rattle.slate_db.specs.Meaning.{segments_by}
use Rattle.slate_queue.specs.declared.line.Line.TheVariants as lines
use Rattle.slate_queue.proofs.LineLaws.{feed_says, says_as, text_ends}
use Rattle.slate_queue.specs.Onward.{goes_same}
use Rattle.slate_queue.proofs.run.reply_to.Goals as goal

pub returns-in-Add : goal.returns-in-Add
returns-in-Add g c =
    let policies = map (λ p. (goal.FilterPolicy-dyn g (p.vtable, p.value)).meaning p.value) c.args.laws.now.policies.items in
    let seg = segments_by g.X.PrefixExtractor.lengths c.args.laws.now.segments in
    let before = reach_of g.S.Store g.M.MergeOperator g.T.BlockTransformer c.args.env.now in
    let after = reach_of g.S.Store g.M.MergeOperator g.T.BlockTransformer c.reply_add.new.env in
    record {
      said = says_as policies seg before after c.args.core.now c.reply_add.new.core c.reply_add.result c.args.line (lines.Add c.in-Add.payload) c.in-Add.is c.reply_add.ensures.said;
      goes = c.reply_add.ensures.goes;
      still = c.reply_add.ensures.still;
      cause = c.reply_add.ensures.cause;
    }

pub returns-in-Claim : goal.returns-in-Claim
returns-in-Claim g c =
    let policies = map (λ p. (goal.FilterPolicy-dyn g (p.vtable, p.value)).meaning p.value) c.args.laws.now.policies.items in
    let seg = segments_by g.X.PrefixExtractor.lengths c.args.laws.now.segments in
    let before = reach_of g.S.Store g.M.MergeOperator g.T.BlockTransformer c.args.env.now in
    let after = reach_of g.S.Store g.M.MergeOperator g.T.BlockTransformer c.reply_claim.new.env in
    record {
      said = says_as policies seg before after c.args.core.now c.reply_claim.new.core c.reply_claim.result c.args.line _ (c.in-Claim.is ∙ ap (λ (z : ℤ). lines.Claim z c.in-Claim.ms) (sym (to_z-of_z w64 c.in-Claim.now (search rules)))) c.reply_claim.ensures.said;
      goes = c.reply_claim.ensures.goes;
      still = c.reply_claim.ensures.still;
      cause = c.reply_claim.ensures.cause;
    }

pub returns-in-Finish : goal.returns-in-Finish
returns-in-Finish g c =
    let policies = map (λ p. (goal.FilterPolicy-dyn g (p.vtable, p.value)).meaning p.value) c.args.laws.now.policies.items in
    let seg = segments_by g.X.PrefixExtractor.lengths c.args.laws.now.segments in
    let before = reach_of g.S.Store g.M.MergeOperator g.T.BlockTransformer c.args.env.now in
    let after = reach_of g.S.Store g.M.MergeOperator g.T.BlockTransformer c.reply_finish.new.env in
    record {
      said = says_as policies seg before after c.args.core.now c.reply_finish.new.core c.reply_finish.result c.args.line (lines.Finish c.in-Finish.id c.in-Finish.lease) c.in-Finish.is c.reply_finish.ensures.said;
      goes = c.reply_finish.ensures.goes;
      still = c.reply_finish.ensures.still;
      cause = c.reply_finish.ensures.cause;
    }

pub returns-in-Feed : goal.returns-in-Feed
returns-in-Feed g c =
    let policies = map (λ p. (goal.FilterPolicy-dyn g (p.vtable, p.value)).meaning p.value) c.args.laws.now.policies.items in
    let seg = segments_by g.X.PrefixExtractor.lengths c.args.laws.now.segments in
    let before = reach_of g.S.Store g.M.MergeOperator g.T.BlockTransformer c.args.env.now in
    record {
      said = says_as policies seg before before c.args.core.now c.args.core.now c.reply_feed.result c.args.line (lines.Feed c.in-Feed.after) c.in-Feed.is (feed_says policies seg before c.args.core.now c.reply_feed.result c.in-Feed.after c.reply_feed.ensures.text);
      goes = goes_same policies seg before c.args.core.now;
      still = refl;
      cause = text_ends policies seg before before c.args.core.now c.args.core.now c.reply_feed.result c.reply_feed.ensures.cause;
    }
