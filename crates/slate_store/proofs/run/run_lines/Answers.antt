use Rattle.std.proofs.Common.{◌≡◌, ◌<◌, ◌+◌, IfSome, Err, sym, ap, subst, ◌∙◌, arith, refl, inr}
use Rattle.slate_types.specs.declared.error.SlateDBError.TheVariants.{ReadFault, WriteFault}
use Rattle.slate_store.proofs.RunLaws.{begins, takes_line, answered_line, stop_of, end_of, stopped_read, stopped_says, refused_read, refused_says, ended_read, ended_says, LineError, reader_cause, line_error, line_cause, rose_from, error_or, unless_error}
use Rattle.slate_store.proofs.run.run_lines.Given as given
use Rattle.slate_store.proofs.run.run_lines.Goals as goal

pub loop-line-init : goal.loop-line-init
loop-line-init g c = record {
  told = λ script is. begins _ (g.P.Program.answers c.args.program.now) script _ _ c.new-lines.result is c.new-lines.ensures.held c.new-lines.ensures.given (g.met.P.Program.ends c.args.program.now);
  alike = λ line. refl;
  ready = c.requires.ready;
  goes = g.met.P.Program.stays c.args.program.now;
  counted = omega arith;
  within = let none : c.new-lines.result.given ≡ 0 = c.new-lines.ensures.given in omega (arith, none);
  source_later = omega arith;
  sink_later = omega arith;
  source_still = refl;
  sink_still = refl;
}

-- ---- at an error of the reader

pub returns-in-Err : goal.returns-in-Err
returns-in-Err g c = record {
  said = λ script before f is told-is answers. stopped_says (stop_of (g.R.Source.left c.next.new.source) c.next.new.self c.in-Err.ensures.told c.in-Err.ensures.within (c.loop-line.invariant.told script is)) f before c.in-Err.error answers told-is c.in-Err.ensures.cause (λ h. c.in-Err.ensures.too_long (ap Err h)) (λ h. (c.in-Err.ensures.read_fault (ap Err h)).1);
  read = λ script is. stopped_read (stop_of (g.R.Source.left c.next.new.source) c.next.new.self c.in-Err.ensures.told c.in-Err.ensures.within (c.loop-line.invariant.told script is)) c.in-Err.error c.in-Err.ensures.cause (λ h. c.in-Err.ensures.too_long (ap Err h));
  goes = (c.loop-line.number, omega (arith, c.loop-line.invariant.counted, c.loop-line.invariant.within), c.loop-line.invariant.goes);
  cause = reader_cause _ _ (g.P.Program.refuses c.args.program.now c.loop-line.program) c.in-Err.error c.in-Err.ensures.cause (λ h. rose_from _ _ _ c.loop-line.invariant.source_later (c.in-Err.ensures.read_fault (ap Err h)).0);
  source_still = error_or c.in-Err.error ReadFault c.in-Err.ensures.still (λ h. h ∙ c.loop-line.invariant.source_still);
  sink_still = inr c.loop-line.invariant.sink_still;
  later = (omega (arith, c.loop-line.invariant.source_later, c.next.ensures.later), c.loop-line.invariant.sink_later);
}

-- ---- at a line that isn't answered

pub returns-in-Err-answer_line : goal.returns-in-Err-answer_line
returns-in-Err-answer_line g c =
    let kind : LineError (g.P.Program.takes c.args.program.now) (c.loop-line.number + 1) c.as_slice.result.now c.in-Err-answer_line.error =
    line_error (g.P.Program.takes c.args.program.now) c.as_slice.result.now _ _ (g.P.Program.refuses c.loop-line.program c.answer_line.new.program) _ c.in-Err-answer_line.error (c.loop-line.invariant.alike c.as_slice.result.now) (g.met.P.Program.apart c.loop-line.program c.answer_line.new.program c.in-Err-answer_line.error) c.in-Err-answer_line.ensures.cause in
    record {
      said = λ script before f is told-is answers.
          refused_says (takes_line (λ v. v.items) c.in-Ok-Some.field-0 c.in-Ok-Some.line c.as_slice.result.now (g.R.Source.left c.next.new.source) c.next.new.self c.in-Ok-Some.ensures.told c.in-Ok-Some.ensures.within c.in-Ok-Some.field-0-is c.as_slice.ensures.value (c.loop-line.invariant.told script is))
          f before c.in-Err-answer_line.error (g.W.Sink.content c.answer_line.new.sink) (g.met.P.Program.ends c.answer_line.new.program) answers told-is kind c.in-Err-answer_line.ensures.unwritten c.in-Err-answer_line.ensures.said;
      read = λ script is.
          refused_read (takes_line (λ v. v.items) c.in-Ok-Some.field-0 c.in-Ok-Some.line c.as_slice.result.now (g.R.Source.left c.next.new.source) c.next.new.self c.in-Ok-Some.ensures.told c.in-Ok-Some.ensures.within c.in-Ok-Some.field-0-is c.as_slice.ensures.value (c.loop-line.invariant.told script is))
          c.in-Err-answer_line.error kind c.in-Ok-Some.ensures.within;
      goes = (
        c.loop-line.number + 1,
        (let further : c.loop-line.lines.given < c.next.new.self.given = subst (λ o. IfSome o (λ _. c.loop-line.lines.given < c.next.new.self.given)) c.in-Ok-Some.field-0-is c.in-Ok-Some.ensures.further in
            omega (arith, c.loop-line.invariant.counted, c.in-Ok-Some.ensures.within)),
        g.met.P.Program.goes_on _ _ _ _ _ c.loop-line.invariant.goes c.answer_line.ensures.goes,
      );
      cause = line_cause _ _ (g.P.Program.refuses c.args.program.now c.answer_line.new.program) (g.P.Program.refuses c.loop-line.program c.answer_line.new.program) _ _ _ c.in-Err-answer_line.error (λ h. rose_from _ _ _ c.loop-line.invariant.sink_later h) (g.met.P.Program.later c.args.program.now c.loop-line.program c.answer_line.new.program c.loop-line.number c.in-Err-answer_line.error c.loop-line.invariant.goes) c.in-Err-answer_line.ensures.cause;
      source_still = inr (unless_error c.in-Ok-Some.field-0 ReadFault c.in-Ok-Some.ensures.still ∙ c.loop-line.invariant.source_still);
      sink_still = error_or c.in-Err-answer_line.error WriteFault c.in-Err-answer_line.ensures.still (λ h. h ∙ c.loop-line.invariant.sink_still);
      later = (omega (arith, c.loop-line.invariant.source_later, c.next.ensures.later), omega (arith, c.loop-line.invariant.sink_later, c.answer_line.ensures.later));
    }

-- ---- one line more

pub loop-line-preserved : goal.loop-line-preserved
loop-line-preserved g c = record {
  told = λ script is. answered_line (g.W.Sink.content c.answer_line.new.sink) (g.met.P.Program.ends c.answer_line.new.program)
      (takes_line (λ v. v.items) c.in-Ok-Some.field-0 c.in-Ok-Some.line c.as_slice.result.now (g.R.Source.left c.next.new.source) c.next.new.self c.in-Ok-Some.ensures.told c.in-Ok-Some.ensures.within c.in-Ok-Some.field-0-is c.as_slice.ensures.value (c.loop-line.invariant.told script is))
      (sym (c.loop-line.invariant.alike c.as_slice.result.now) ∙ c.in-Ok.ensures.own) c.in-Ok.ensures.said;
  alike = λ line. c.answer_line.ensures.alike line ∙ c.loop-line.invariant.alike line;
  ready = c.in-Ok.ensures.ready;
  goes = g.met.P.Program.goes_on _ _ _ _ _ c.loop-line.invariant.goes c.answer_line.ensures.goes;
  counted =
      let further : c.loop-line.lines.given < c.next.new.self.given = subst (λ o. IfSome o (λ _. c.loop-line.lines.given < c.next.new.self.given)) c.in-Ok-Some.field-0-is c.in-Ok-Some.ensures.further in
      omega (arith, c.loop-line.invariant.counted);
  within = omega (arith, c.in-Ok-Some.ensures.within);
  source_later = omega (arith, c.loop-line.invariant.source_later, c.next.ensures.later);
  sink_later = omega (arith, c.loop-line.invariant.sink_later, c.answer_line.ensures.later);
  source_still = unless_error c.in-Ok-Some.field-0 ReadFault c.in-Ok-Some.ensures.still ∙ c.loop-line.invariant.source_still;
  sink_still = unless_error _ WriteFault c.in-Ok.ensures.still ∙ c.loop-line.invariant.sink_still;
}

-- ---- the end

pub returns : goal.returns
returns g c = record {
  said = λ script before f is told-is answers. ended_says (end_of (λ v. v.items) c.in-Ok-None.field-0 (g.R.Source.left c.next.new.source) c.next.new.self c.in-Ok-None.ensures.told c.in-Ok-None.ensures.within c.in-Ok-None.field-0-is (c.loop-line.invariant.told script is)) f before answers told-is;
  read = λ script is. ended_read (end_of (λ v. v.items) c.in-Ok-None.field-0 (g.R.Source.left c.next.new.source) c.next.new.self c.in-Ok-None.ensures.told c.in-Ok-None.ensures.within c.in-Ok-None.field-0-is (c.loop-line.invariant.told script is));
  goes = (c.loop-line.number, omega (arith, c.loop-line.invariant.counted, c.loop-line.invariant.within), c.loop-line.invariant.goes);
  cause = tt;
  source_still = inr (unless_error c.in-Ok-None.field-0 ReadFault c.in-Ok-None.ensures.still ∙ c.loop-line.invariant.source_still);
  sink_still = inr c.loop-line.invariant.sink_still;
  later = (omega (arith, c.loop-line.invariant.source_later, c.next.ensures.later), c.loop-line.invariant.sink_later);
}
