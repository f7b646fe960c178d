use Rattle.std.proofs.Common.{◌≡◌, Ok, Option, Some, false, inr, ap, map, refl, subst}
use Rattle.std.specs.Prelude.{IfSome}
use Rattle.slate_store.specs.Reach.{reach_of}
use Rattle.slate_language.specs.Replies.{is_silent}
use Rattle.slate_db.specs.Meaning.{segments_by}
use Rattle.slate_queue.specs.declared.line.Line.{Line}
use Rattle.slate_queue.specs.Script.{meaning}
use Rattle.slate_queue.proofs.LineLaws.{line_says, silence_says, taken_line, taken_silence, unread}
use Rattle.slate_queue.specs.Onward.{goes_same}
use Rattle.slate_queue.proofs.run.answer_line.Goals as goal

pub returns-in-Ok : goal.returns-in-Ok
returns-in-Ok g c =
    let policies = map (λ p. (goal.FilterPolicy-dyn g (p.vtable, p.value)).meaning p.value) c.args.laws.now.policies.items in
    let seg = segments_by g.X.PrefixExtractor.lengths c.args.laws.now.segments in
    let before = reach_of g.S.Store g.M.MergeOperator g.T.BlockTransformer c.args.env.now in
    let after = reach_of g.S.Store g.M.MergeOperator g.T.BlockTransformer c.reply_to.new.env in
    let means = subst (λ (o : Option Line). IfSome o (λ l. (is_silent c.args.line.now ≡ false) × (meaning c.args.line.now ≡ Some l))) c.in-Ok-Some.field-0-is c.in-Ok-Some.ensures.meant in
    record {
      own = taken_line c.args.line.now c.in-Ok-Some.meaning means.1;
      said = λ f h. line_says policies seg before after c.args.core.now c.reply_to.new.core c.args.line.now c.in-Ok-Some.meaning c.in-Ok.text f means c.in-Ok.ensures.said h;
      goes = c.reply_to.ensures.goes;
      still = c.in-Ok.ensures.still;
      cause = tt;
    }

pub returns-in-Err-reply_to : goal.returns-in-Err-reply_to
returns-in-Err-reply_to g c = record {
  own = tt;
  said = λ f h. tt;
  goes = c.reply_to.ensures.goes;
  still = c.in-Err-reply_to.ensures.still;
  cause = inr c.in-Err-reply_to.ensures.cause;
}

pub returns-in-Ok-None : goal.returns-in-Ok-None
returns-in-Ok-None g c =
    let policies = map (λ p. (goal.FilterPolicy-dyn g (p.vtable, p.value)).meaning p.value) c.args.laws.now.policies.items in
    let seg = segments_by g.X.PrefixExtractor.lengths c.args.laws.now.segments in
    let before = reach_of g.S.Store g.M.MergeOperator g.T.BlockTransformer c.args.env.now in
    let silent = c.in-Ok-None.ensures.silent (ap Ok c.in-Ok-None.field-0-is) in
    record {
      own = taken_silence c.args.line.now silent;
      said = λ f h. silence_says policies seg before c.args.core.now c.args.line.now f silent h;
      goes = goes_same policies seg before c.args.core.now;
      still = refl;
      cause = tt;
    }

pub returns-in-Err : goal.returns-in-Err
returns-in-Err g c =
    let policies = map (λ p. (goal.FilterPolicy-dyn g (p.vtable, p.value)).meaning p.value) c.args.laws.now.policies.items in
    let seg = segments_by g.X.PrefixExtractor.lengths c.args.laws.now.segments in
    let before = reach_of g.S.Store g.M.MergeOperator g.T.BlockTransformer c.args.env.now in
    record {
      own = tt;
      said = λ f h. tt;
      goes = goes_same policies seg before c.args.core.now;
      still = refl;
      cause = unread policies seg before c.args.core.now c.args.line.now c.args.number c.in-Err.error c.in-Err.ensures.cause;
    }
