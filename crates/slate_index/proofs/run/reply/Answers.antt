use Rattle.std.proofs.Common.{◌≡◌, Ok, Some, ap, false, inr, map, refl, subst}
use Rattle.std.specs.Prelude.{IfSome}
use Rattle.slate_store.specs.Reach.{reach_of}
use Rattle.slate_language.specs.Replies.{is_silent}
use Rattle.slate_index.specs.Script.{meaning}
use Rattle.slate_index.proofs.Going.{goes_line, goes_silent, line_answers, silence_says, taken_line, taken_silence, unread_line}
use Rattle.slate_index.proofs.Lines.{own_line}
use Rattle.slate_index.proofs.run.reply.Goals as goal

pub answer_line-requires-clause-own : goal.answer_line-requires-clause-own
answer_line-requires-clause-own g c κs lives =
    let fs = g.F.Fields.model c.args.fields.now in
    let meant = subst (λ o. IfSome o (λ l. (is_silent c.args.line.now ≡ false) × (meaning fs c.args.line.now ≡ Some l))) c.in-Ok-Some.field-0-is c.in-Ok-Some.ensures.meant in
    own_line fs c.in-Ok-Some.meant c.args.line.now meant.1

pub returns-in-Ok : goal.returns-in-Ok
returns-in-Ok g c =
    let policies = map (λ p. (goal.FilterPolicy-dyn g (p.vtable, p.value)).meaning p.value) c.args.laws.now.policies.items in
    let before = reach_of g.S.Store g.M.MergeOperator g.T.BlockTransformer c.args.env.now in
    let after = reach_of g.S.Store g.M.MergeOperator g.T.BlockTransformer c.answer_line.new.env in
    let line = c.args.line.now in
    let fs = g.F.Fields.model c.args.fields.now in
    let meant = subst (λ o. IfSome o (λ l. (is_silent line ≡ false) × (meaning fs line ≡ Some l))) c.in-Ok-Some.field-0-is c.in-Ok-Some.ensures.meant in
    record {
      own = taken_line fs line c.in-Ok-Some.meant meant.1;
      said = λ f h. line_answers policies fs before after c.args.core.now c.answer_line.new.core f line c.in-Ok-Some.meant c.in-Ok.text meant.0 meant.1 c.in-Ok.ensures h;
      goes = goes_line _ _ _ _ _ c.args.core.now c.answer_line.new.core _ c.answer_line.ensures;
      still = c.in-Ok.ensures.still;
      cause = tt;
    }

pub returns-in-Err-answer_line : goal.returns-in-Err-answer_line
returns-in-Err-answer_line g c = record {
  own = tt;
  said = λ f h. tt;
  goes = goes_line _ _ _ _ _ c.args.core.now c.answer_line.new.core _ c.answer_line.ensures;
  still = c.in-Err-answer_line.ensures.still;
  cause = inr c.in-Err-answer_line.ensures.cause;
}

pub returns-in-Ok-None : goal.returns-in-Ok-None
returns-in-Ok-None g c =
    let policies = map (λ p. (goal.FilterPolicy-dyn g (p.vtable, p.value)).meaning p.value) c.args.laws.now.policies.items in
    let before = reach_of g.S.Store g.M.MergeOperator g.T.BlockTransformer c.args.env.now in
    let fs = g.F.Fields.model c.args.fields.now in
    let silent = c.in-Ok-None.ensures.silent (ap Ok c.in-Ok-None.field-0-is) in
    record {
      own = taken_silence fs c.args.line.now silent;
      said = λ f h. silence_says policies fs before before c.args.core.now c.args.core.now f c.args.line.now silent h;
      goes = goes_silent _ _ c.args.core.now;
      still = refl;
      cause = tt;
    }

pub returns-in-Err : goal.returns-in-Err
returns-in-Err g c =
    let policies = map (λ p. (goal.FilterPolicy-dyn g (p.vtable, p.value)).meaning p.value) c.args.laws.now.policies.items in
    let before = reach_of g.S.Store g.M.MergeOperator g.T.BlockTransformer c.args.env.now in
    let fs = g.F.Fields.model c.args.fields.now in
    record {
      own = tt;
      said = λ f h. tt;
      goes = goes_silent _ _ c.args.core.now;
      still = refl;
      cause = unread_line policies fs before before c.args.core.now c.args.core.now c.args.line.now c.args.number c.in-Err.error c.in-Err.ensures.cause;
    }
